-- Each step of a run takes one item off what is left.
use Rattle.std.proofs.Common.{◌≡◌, ℕ, suc, ◌<◌, ◌≤◌, Bool, true, false, cond, refl, sym, ap, ◌∙◌, Option, Some, List, [], ◌∷◌, ◌++◌, length, length-append, map, arith, ltb, leb, ◌&&◌, if◌then◌else◌}
use Rattle.std.proofs.lemmas.Bool.{le-leb, le-ltb}
use Rattle.std.proofs.lemmas.Bool.Decides.{leb_tells}
use Rattle.mc_program.specs.Values.{Val}
use Rattle.mc_program.specs.declared.builtin.Builtin.{Builtin}
use Rattle.mc_model.specs.EventList.{Halt, Made_call, budget, too_deep, of_option}
use Rattle.mc_model.specs.Outcomes.{Outcome}
use Rattle.mc_model.specs.Stream.{Bindings, unify, ready, enter, leave}
use Rattle.mc_flat_code.specs.Ticked.{Ticked, End, Stuck, Stopped, Answer, Called, Wrote, Read, Tick, append, bind, follow, at_height}
use Rattle.mc_flat_code.specs.Running.{instr_at, variables_at, body_at, list_of, body_list, call_list, IsCode}
use Rattle.mc_flat_code.specs.declared.code.Instr.{Instr}
use Rattle.mc_flat_code.specs.declared.code.Instr.TheVariants as I
use Rattle.mc_flat_code.specs.declared.code.Span.{Span}
use Rattle.mc_flat_code.specs.declared.code.Body.{Body}
use Rattle.mc_flat_code.specs.declared.code.FlatProgram.{FlatProgram}
use Rattle.mc_flat_code.proofs.Places.{at_goal}
use Rattle.mc_plain.specs.code.Machine.{Continuation, condition, answered, negated, pruned, called, Segment, Point, resume, held, NextAction, at, failing, ended, stuck, stopped, cut, go, back, answers, resumed, close, said, outputs, left_of, Ordered, is_ended}
use Rattle.mc_plain.proofs.TickedLaws.{append_end, append_append, bind_one_bind}

pub leb_above : (n m : ℕ) → m < n → leb n m ≡ false
leb_above n m h = grind (arith, leb_tells)

ltb_below : (n m : ℕ) → n < m → ltb n m ≡ true
ltb_below n m h = le-leb (suc n) m (omega arith)

pub ltb_not : (n m : ℕ) → m ≤ n → ltb n m ≡ false
ltb_not n m h = le-ltb n m h

cond_true : (b : Bool) (x y : Ticked Bindings) → b ≡ true → cond b x y ≡ x
cond_true b x y p = ap (λ c. cond c x y) p

pub cond_false : (b : Bool) (x y : Ticked Bindings) → b ≡ false → cond b x y ≡ y
cond_false b x y p = ap (λ c. cond c x y) p

past : (hi n lo : ℕ) → leb hi n ≡ false → hi ≤ lo → n < lo
past hi n lo q p = grind (arith, leb_tells)

skip : (a b : Bool) (l r : Ticked Bindings) → l ≡ End → (a ≡ false → b ≡ true) → cond a l (cond b End r) ≡ End
skip true b l r p q = p
skip false b l r p q = ap (λ c. cond c End r) (q refl)

module _ (outcome : Builtin → List Val → Outcome) (f : FlatProgram) where
  abbrev Run : Type 0
  Run = Ticked Bindings

  tick_answers : (m h : ℕ) (k : Continuation) (e : Bindings) (xs : Run) → answers outcome f m h k e (Tick xs) ≡ Tick (answers outcome f m h k e xs)
  tick_answers m h (condition t o) e xs = refl
  tick_answers m h (answered t) e xs = refl
  tick_answers m h (negated t) e xs = refl
  tick_answers m h (pruned t) e xs = refl
  tick_answers m h (called t) e xs = refl

  pub tick_close : (es : List Point) (ss : List Segment) (hi : ℕ) (xs : Run) → close outcome f es ss hi (Tick xs) ≡ Tick (close outcome f es ss hi xs)
  tick_close es [] hi xs = refl
  tick_close es (s ∷ ss) hi xs =
      ap (λ l. close outcome f es ss s.below (append l (resumed outcome f es s.level s.height s.below hi))) (tick_answers s.level s.height s.around s.bindings xs)
      ∙ tick_close es ss s.below _

  wrote_answers : (m h : ℕ) (k : Continuation) (e : Bindings) (t : List ℕ) (xs : Run) → answers outcome f m h k e (Wrote t xs) ≡ Wrote t (answers outcome f m h k e xs)
  wrote_answers m h (condition t o) e v xs = refl
  wrote_answers m h (answered t) e v xs = refl
  wrote_answers m h (negated t) e v xs = refl
  wrote_answers m h (pruned t) e v xs = refl
  wrote_answers m h (called t) e v xs = refl

  pub wrote_close : (es : List Point) (ss : List Segment) (hi : ℕ) (t : List ℕ) (xs : Run) → close outcome f es ss hi (Wrote t xs) ≡ Wrote t (close outcome f es ss hi xs)
  wrote_close es [] hi t xs = refl
  wrote_close es (s ∷ ss) hi t xs =
      ap (λ l. close outcome f es ss s.below (append l (resumed outcome f es s.level s.height s.below hi))) (wrote_answers s.level s.height s.around s.bindings t xs)
      ∙ wrote_close es ss s.below t _

  read_answers : (m h : ℕ) (k : Continuation) (e : Bindings) (n : ℕ) (xs : Run) → answers outcome f m h k e (Read n xs) ≡ Read n (answers outcome f m h k e xs)
  read_answers m h (condition t o) e v xs = refl
  read_answers m h (answered t) e v xs = refl
  read_answers m h (negated t) e v xs = refl
  read_answers m h (pruned t) e v xs = refl
  read_answers m h (called t) e v xs = refl

  pub read_close : (es : List Point) (ss : List Segment) (hi : ℕ) (n : ℕ) (xs : Run) → close outcome f es ss hi (Read n xs) ≡ Read n (close outcome f es ss hi xs)
  read_close es [] hi n xs = refl
  read_close es (s ∷ ss) hi n xs =
      ap (λ l. close outcome f es ss s.below (append l (resumed outcome f es s.level s.height s.below hi))) (read_answers s.level s.height s.around s.bindings n xs)
      ∙ read_close es ss s.below n _

  called_answers : (m h : ℕ) (k : Continuation) (e : Bindings) (c : Made_call) (xs : Run) → answers outcome f m h k e (Called c xs) ≡ Called c (answers outcome f m h k e xs)
  called_answers m h (condition t o) e c xs = refl
  called_answers m h (answered t) e c xs = refl
  called_answers m h (negated t) e c xs = refl
  called_answers m h (pruned t) e c xs = refl
  called_answers m h (called t) e c xs = refl

  pub called_close : (es : List Point) (ss : List Segment) (hi : ℕ) (c : Made_call) (xs : Run) → close outcome f es ss hi (Called c xs) ≡ Called c (close outcome f es ss hi xs)
  called_close es [] hi c xs = refl
  called_close es (s ∷ ss) hi c xs =
      ap (λ l. close outcome f es ss s.below (append l (resumed outcome f es s.level s.height s.below hi))) (called_answers s.level s.height s.around s.bindings c xs)
      ∙ called_close es ss s.below c _

  stuck_answers : (m h : ℕ) (k : Continuation) (e : Bindings) → answers outcome f m h k e Stuck ≡ Stuck
  stuck_answers m h (condition t o) e = refl
  stuck_answers m h (answered t) e = refl
  stuck_answers m h (negated t) e = refl
  stuck_answers m h (pruned t) e = refl
  stuck_answers m h (called t) e = refl

  pub stuck_close : (es : List Point) (ss : List Segment) (hi : ℕ) → close outcome f es ss hi Stuck ≡ Stuck
  stuck_close es [] hi = refl
  stuck_close es (s ∷ ss) hi =
      ap (λ l. close outcome f es ss s.below (append l (resumed outcome f es s.level s.height s.below hi))) (stuck_answers s.level s.height s.around s.bindings)
      ∙ stuck_close es ss s.below

  stopped_answers : (m h : ℕ) (k : Continuation) (e : Bindings) (w : Halt) → answers outcome f m h k e (Stopped w) ≡ Stopped w
  stopped_answers m h (condition t o) e w = refl
  stopped_answers m h (answered t) e w = refl
  stopped_answers m h (negated t) e w = refl
  stopped_answers m h (pruned t) e w = refl
  stopped_answers m h (called t) e w = refl

  pub stopped_close : (es : List Point) (ss : List Segment) (hi : ℕ) (w : Halt) → close outcome f es ss hi (Stopped w) ≡ Stopped w
  stopped_close es [] hi w = refl
  stopped_close es (s ∷ ss) hi w =
      ap (λ l. close outcome f es ss s.below (append l (resumed outcome f es s.level s.height s.below hi))) (stopped_answers s.level s.height s.around s.bindings w)
      ∙ stopped_close es ss s.below w

  -- nothing lies between a place and a lower one
  pub resumed_none : (es : List Point) (m h lo hi : ℕ) → hi ≤ lo → resumed outcome f es m h lo hi ≡ End
  resumed_none [] m h lo hi p = refl
  resumed_none (resume pc e ∷ es) m h lo hi p =
      skip (leb hi (length es)) (ltb (length es) lo) _ _ (resumed_none es m h lo hi p) (λ q. ltb_below (length es) lo (past hi (length es) lo q p))
  resumed_none (held k e m2 h2 b ∷ es) m h lo hi p =
      skip (leb hi (length es)) (ltb (length es) lo) _ _ (resumed_none es m h lo hi p) (λ q. ltb_below (length es) lo (past hi (length es) lo q p))

  -- a resume point from the upper place on counts for nothing
  pub resumed_above : (x : Point) (es : List Point) (m h lo hi : ℕ) → hi ≤ length es → resumed outcome f (x ∷ es) m h lo hi ≡ resumed outcome f es m h lo hi
  resumed_above (resume pc e) es m h lo hi p = cond_true _ _ _ (le-leb hi (length es) p)
  resumed_above (held k e m2 h2 b) es m h lo hi p = cond_true _ _ _ (le-leb hi (length es) p)

  pub resumed_over : (xs es : List Point) (m h lo hi : ℕ) → hi ≤ length es → resumed outcome f (xs ++ es) m h lo hi ≡ resumed outcome f es m h lo hi
  resumed_over [] es m h lo hi p = refl
  resumed_over (x ∷ xs) es m h lo hi p =
      resumed_above x (xs ++ es) m h lo hi (omega (arith, length-append xs es)) ∙ resumed_over xs es m h lo hi p

  -- the last resume point
  pub resumed_point : (pc : ℕ) (e : Bindings) (es : List Point) (m h lo : ℕ) → lo ≤ length es → resumed outcome f (resume pc e ∷ es) m h lo (suc (length es)) ≡ append (go outcome f m h pc e) (resumed outcome f es m h lo (length es))
  resumed_point pc e es m h lo p =
      cond_false _ _ _ (leb_above (suc (length es)) (length es) (omega arith)) ∙ cond_false _ _ _ (ltb_not (length es) lo p)

  pub resumed_held : (k : Continuation) (e : Bindings) (m2 h2 b : ℕ) (es : List Point) (m h lo : ℕ) → lo ≤ b → b ≤ length es → resumed outcome f (held k e m2 h2 b ∷ es) m h lo (suc (length es)) ≡ append (answers outcome f m h k e (resumed outcome f es m2 h2 b (length es))) (resumed outcome f es m h lo b)
  resumed_held k e m2 h2 b es m h lo p q =
      cond_false _ _ _ (leb_above (suc (length es)) (length es) (omega arith)) ∙ cond_false _ _ _ (ltb_not (length es) lo (omega arith))
      ∙ (λ i. cond (le-leb lo b p i && le-leb b (length es) q i) (append (answers outcome f m h k e (resumed outcome f es m2 h2 b (length es))) (resumed outcome f es m h lo b)) Stuck)

  -- what is above all that is around counts for nothing
  pub close_over : (xs es : List Point) (ss : List Segment) (hi : ℕ) (l : Run) → Ordered ss hi → hi ≤ length es → close outcome f (xs ++ es) ss hi l ≡ close outcome f es ss hi l
  close_over xs es [] hi l o p = refl
  close_over xs es (s ∷ ss) hi l o p =
      close_over xs es ss s.below _ o.1 (omega (arith, o.0))
      ∙ ap (λ r. close outcome f es ss s.below (append (answers outcome f s.level s.height s.around s.bindings l) r)) (resumed_over xs es s.level s.height s.below hi p)

  module _ (head last : List ℕ) where
    abbrev left : (b : ℕ) → List Point → List Segment → (lo m h : ℕ) → Bindings → NextAction → Ticked (List (Option Val))
    left = left_of outcome f head last

    -- what a run's items leave, seen from outside with a budget
    abbrev pub seen : ℕ → Run → Ticked (List (Option Val))
    seen b l = cut b (bind l (outputs outcome f head last))

    -- what a state's place does
    pub at_left : (b : ℕ) (es : List Point) (ss : List Segment) (lo m h : ℕ) (e : Bindings) (pc : ℕ) (i : Instr) → IsCode f.code → instr_at f.code pc ≡ Some i → left b es ss lo m h e (at pc) ≡ Tick (seen b (close outcome f es ss lo (append (list_of outcome f.code (call_list outcome f m) h (go outcome f m h) i e) (resumed outcome f es m h lo (length es)))))
    at_left b es ss lo m h e pc i o q =
        ap (λ l. seen b (close outcome f es ss lo (append l (resumed outcome f es m h lo (length es))))) (at_goal outcome f.code (call_list outcome f m) h o pc i q e)
        ∙ ap (λ l. seen b l) (tick_close es ss lo _)

    -- what is said next, in all that is around it
    said_left : (b : ℕ) (es : List Point) (ss : List Segment) (lo m h : ℕ) (e : Bindings) (now : NextAction) → is_ended now ≡ false → seen b (close outcome f es ss lo (append (said outcome f (go outcome f m h) now e) (resumed outcome f es m h lo (length es)))) ≡ left b es ss lo m h e now
    said_left b es ss lo m h e (at pc) q = refl
    said_left b es ss lo m h e failing q = refl
    said_left b es ss lo m h e ended q = absurd (cc)
    said_left b es ss lo m h e stuck q = ap (λ l. seen b l) (stuck_close es ss lo)
    said_left b es ss lo m h e (stopped w) q = ap (λ l. seen b l) (stopped_close es ss lo w)

    module _ (o : IsCode f.code) (b : ℕ) (es : List Point) (ss : List Segment) (lo m h : ℕ) (e : Bindings) (pc : ℕ) (i : Instr) (q : instr_at f.code pc ≡ Some i) where
      abbrev items : Run
      items = list_of outcome f.code (call_list outcome f m) h (go outcome f m h) i e

      abbrev rest : Run
      rest = resumed outcome f es m h lo (length es)

      pub atom_left : (now : NextAction) (e2 : Bindings) → is_ended now ≡ false → items ≡ said outcome f (go outcome f m h) now e2 → left b es ss lo m h e (at pc) ≡ Tick (left b es ss lo m h e2 now)
      atom_left now e2 ne d =
          at_left b es ss lo m h e pc i o q
          ∙ ap (λ l. Tick (seen b (close outcome f es ss lo (append l rest)))) d
          ∙ ap (λ l. Tick l) (said_left b es ss lo m h e2 now ne)

      -- an atom that writes, or reads, first
      pub wrote_left : (t : List ℕ) (now : NextAction) (e2 : Bindings) → is_ended now ≡ false → items ≡ Wrote t (said outcome f (go outcome f m h) now e2) → left b es ss lo m h e (at pc) ≡ Tick (Wrote t (left b es ss lo m h e2 now))
      wrote_left t now e2 ne d =
          at_left b es ss lo m h e pc i o q
          ∙ ap (λ l. Tick (seen b (close outcome f es ss lo (append l rest)))) d
          ∙ ap (λ l. Tick (seen b l)) (wrote_close es ss lo t _)
          ∙ ap (λ l. Tick (Wrote t l)) (said_left b es ss lo m h e2 now ne)

      pub read_left : (n : ℕ) (now : NextAction) (e2 : Bindings) → is_ended now ≡ false → items ≡ Read n (said outcome f (go outcome f m h) now e2) → left b es ss lo m h e (at pc) ≡ Tick (Read n (left b es ss lo m h e2 now))
      read_left n now e2 ne d =
          at_left b es ss lo m h e pc i o q
          ∙ ap (λ l. Tick (seen b (close outcome f es ss lo (append l rest)))) d
          ∙ ap (λ l. Tick (seen b l)) (read_close es ss lo n _)
          ∙ ap (λ l. Tick (Read n l)) (said_left b es ss lo m h e2 now ne)

      pub either_left : (l r : ℕ) → i ≡ I.Or l r → lo ≤ length es → Ordered ss lo → left b es ss lo m h e (at pc) ≡ Tick (left b (resume r e ∷ es) ss lo m h e (at l))
      either_left l r d p u =
          at_left b es ss lo m h e pc i o q
          ∙ ap (λ j. Tick (seen b (close outcome f es ss lo (append (list_of outcome f.code (call_list outcome f m) h (go outcome f m h) j e) rest)))) d
          ∙ ap (λ j. Tick (seen b (close outcome f es ss lo j))) (append_append (go outcome f m h l e) (go outcome f m h r e) _)
          ∙ ap (λ j. Tick (seen b (close outcome f es ss lo (append (go outcome f m h l e) j)))) (sym (resumed_point r e es m h lo p))
          ∙ ap (λ j. Tick (seen b j)) (sym (close_over (resume r e ∷ []) es ss lo _ u p))

      pub apart_left : (g : ℕ) (k : Continuation) → items ≡ answers outcome f m h k e (go outcome f m h g e) → left b es ss lo m h e (at pc) ≡ Tick (left b es (record { around = k; bindings = e; level = m; height = h; below = lo } ∷ ss) (length es) m h e (at g))
      apart_left g k d =
          at_left b es ss lo m h e pc i o q
          ∙ ap (λ j. Tick (seen b (close outcome f es ss lo (append j rest)))) d
          ∙ ap (λ j. Tick (seen b (close outcome f es ss lo (append (answers outcome f m h k e j) rest)))) (sym (append_end (go outcome f m h g e)))
          ∙ ap (λ j. Tick (seen b (close outcome f es ss lo (append (answers outcome f m h k e (append (go outcome f m h g e) j)) rest)))) (sym (resumed_none es m h (length es) (length es) (omega arith)))

      -- a call, that enters its body at the height k
      module _ (p : ℕ) (xs : Span) (is_last : Bool) (next : ℕ) (d : i ≡ I.Call p xs is_last next) where
        abbrev args : List ℕ
        args = variables_at f.code xs

        abbrev after_call : List (Option Val) → Run
        after_call vs = follow (of_option (unify args vs e)) (go outcome f m h next)

        abbrev body : Body
        body = body_at f p

        abbrev made : Made_call
        made = record { proc = p; args = map e args }

        call_at : left b es ss lo m h e (at pc) ≡ Tick (seen b (close outcome f es ss lo (append (at_height is_last h (λ k. bind (call_list outcome f m k p (map e args)) after_call)) rest)))
        call_at =
            at_left b es ss lo m h e pc i o q
            ∙ ap (λ j. Tick (seen b (close outcome f es ss lo (append (list_of outcome f.code (call_list outcome f m) h (go outcome f m h) j e) rest)))) d

        pub too_deep_left : is_last ≡ false → h ≡ 0 → left b es ss lo m h e (at pc) ≡ Tick (Stopped too_deep)
        too_deep_left l z =
            call_at
            ∙ (λ j. Tick (seen b (close outcome f es ss lo (append (at_height (l j) (z j) (λ k. bind (call_list outcome f m k p (map e args)) after_call)) rest))))
            ∙ ap (λ j. Tick (seen b j)) (stopped_close es ss lo too_deep)

        module _ (k : ℕ) (within : (g : ℕ → Run) → at_height is_last h g ≡ g k) where
          call_within : left b es ss lo m h e (at pc) ≡ Tick (seen b (close outcome f es ss lo (append (bind (call_list outcome f m k p (map e args)) after_call) rest)))
          call_within = call_at ∙ ap (λ l. Tick (seen b (close outcome f es ss lo (append l rest)))) (within (λ j. bind (call_list outcome f m j p (map e args)) after_call))

          pub no_levels_left : m ≡ 0 → left b es ss lo m h e (at pc) ≡ Tick (Stopped budget)
          no_levels_left z =
              call_within
              ∙ ap (λ j. Tick (seen b (close outcome f es ss lo (append (bind (call_list outcome f j k p (map e args)) after_call) rest)))) z
              ∙ ap (λ j. Tick (seen b j)) (stopped_close es ss lo budget)

          module _ (m2 : ℕ) (y : m ≡ suc m2) where
            call_made : left b es ss lo m h e (at pc) ≡ Tick (seen b (Called made (close outcome f es ss lo (append (bind (body_list outcome f.code (call_list outcome f m2) k body (map e args)) after_call) rest))))
            call_made =
                call_within
                ∙ ap (λ j. Tick (seen b (close outcome f es ss lo (append (bind (call_list outcome f j k p (map e args)) after_call) rest)))) y
                ∙ ap (λ j. Tick (seen b j)) (called_close es ss lo made _)

            pub used_up_left : b ≡ 0 → left b es ss lo m h e (at pc) ≡ Tick (Stopped budget)
            used_up_left z =
                call_made
                ∙ ap (λ j. Tick (seen j (Called made (close outcome f es ss lo (append (bind (body_list outcome f.code (call_list outcome f m2) k body (map e args)) after_call) rest))))) z

            module _ (b2 : ℕ) (z : b ≡ suc b2) where
              call_counted : left b es ss lo m h e (at pc) ≡ Tick (Called made (seen b2 (close outcome f es ss lo (append (bind (body_list outcome f.code (call_list outcome f m2) k body (map e args)) after_call) rest))))
              call_counted =
                  call_made
                  ∙ ap (λ j. Tick (seen j (Called made (close outcome f es ss lo (append (bind (body_list outcome f.code (call_list outcome f m2) k body (map e args)) after_call) rest))))) z

              pub not_ready_left : ready (variables_at f.code body.first) (map e args) ≡ false → left b es ss lo m h e (at pc) ≡ Tick (Called made Stuck)
              not_ready_left r =
                  call_counted
                  ∙ ap (λ t. Tick (Called made (seen b2 (close outcome f es ss lo (append (bind (if t then bind (go outcome f m2 k body.entry (enter (variables_at f.code body.head) (variables_at f.code body.first) (map e args))) (λ a. Answer (leave (variables_at f.code body.head) (variables_at f.code body.last) a) End) else Stuck) after_call) rest))))) r
                  ∙ ap (λ l. Tick (Called made (seen b2 l))) (stuck_close es ss lo)

              pub call_left : ready (variables_at f.code body.first) (map e args) ≡ true → left b es ss lo m h e (at pc) ≡ Tick (Called made (left b2 es (record { around = called pc; bindings = e; level = m; height = h; below = lo } ∷ ss) (length es) m2 k (enter (variables_at f.code body.head) (variables_at f.code body.first) (map e args)) (at body.entry)))
              call_left r =
                  let inner : Run = go outcome f m2 k body.entry (enter (variables_at f.code body.head) (variables_at f.code body.first) (map e args)) in
                  let gives : Bindings → List (Option Val) = leave (variables_at f.code body.head) (variables_at f.code body.last) in
                  call_counted
                  ∙ ap (λ t. Tick (Called made (seen b2 (close outcome f es ss lo (append (bind (if t then bind inner (λ a. Answer (gives a) End) else Stuck) after_call) rest))))) r
                  ∙ ap (λ l. Tick (Called made (seen b2 (close outcome f es ss lo (append l rest))))) (bind_one_bind inner gives after_call)
                  ∙ ap (λ (j : Option Instr). Tick (Called made (seen b2 (close outcome f es ss lo (append (bind inner (back outcome f m h j e)) rest))))) (sym (q ∙ ap Some d))
                  ∙ ap (λ l. Tick (Called made (seen b2 (close outcome f es ss lo (append (bind l (back outcome f m h (instr_at f.code pc) e)) rest))))) (sym (append_end inner))
                  ∙ ap (λ l. Tick (Called made (seen b2 (close outcome f es ss lo (append (bind (append inner l) (back outcome f m h (instr_at f.code pc) e)) rest))))) (sym (resumed_none es m2 k (length es) (length es) (omega arith)))

      -- an answer of what is run now
      module _ (d : i ≡ I.Done) where
        answer_at : left b es ss lo m h e (at pc) ≡ Tick (seen b (close outcome f es ss lo (Answer e rest)))
        answer_at =
            at_left b es ss lo m h e pc i o q
            ∙ ap (λ j. Tick (seen b (close outcome f es ss lo (append (list_of outcome f.code (call_list outcome f m) h (go outcome f m h) j e) rest)))) d

        pub whole_answer : ss ≡ [] → (e2 : Bindings) → left b es ss lo m h e (at pc) ≡ Tick (Answer (leave head last e) (left b es ss lo m h e2 failing))
        whole_answer z e2 =
            answer_at ∙ ap (λ l. Tick (seen b (close outcome f es l lo (Answer e rest)))) z
            ∙ ap (λ l. Tick (Answer (leave head last e) (seen b (close outcome f es l lo rest)))) (sym z)

        module _ (s : Segment) (st : List Segment) (z : ss ≡ s ∷ st) where
          in_segment : left b es ss lo m h e (at pc) ≡ Tick (seen b (close outcome f es st s.below (append (answers outcome f s.level s.height s.around s.bindings (Answer e rest)) (resumed outcome f es s.level s.height s.below lo))))
          in_segment = answer_at ∙ ap (λ l. Tick (seen b (close outcome f es l lo (Answer e rest)))) z

          module _ (k : Continuation) (e0 : Bindings) (now : NextAction) (e2 : Bindings) (ne : is_ended now ≡ false) (gives : (xs : Run) → answers outcome f s.level s.height s.around s.bindings (Answer e xs) ≡ append (said outcome f (go outcome f s.level s.height) now e2) (answers outcome f s.level s.height k e0 xs)) where
            pub held_left : lo ≤ length es → s.below ≤ lo → Ordered st s.below → left b es ss lo m h e (at pc) ≡ Tick (left b (held k e0 m h lo ∷ es) st s.below s.level s.height e2 now)
            held_left x y u =
                let r : Run = resumed outcome f es s.level s.height s.below lo in
                in_segment
                ∙ ap (λ l. Tick (seen b (close outcome f es st s.below (append l r)))) (gives rest)
                ∙ ap (λ l. Tick (seen b (close outcome f es st s.below l))) (append_append (said outcome f (go outcome f s.level s.height) now e2) _ r)
                ∙ ap (λ l. Tick (seen b (close outcome f es st s.below (append (said outcome f (go outcome f s.level s.height) now e2) l)))) (sym (resumed_held k e0 m h lo es s.level s.height s.below y x))
                ∙ ap (λ j. Tick (seen b j)) (sym (close_over (held k e0 m h lo ∷ []) es st s.below _ u (omega arith)))
                ∙ ap (λ l. Tick l) (said_left b (held k e0 m h lo ∷ es) st s.below s.level s.height e2 now ne)

            pub exit_left : lo ≡ length es → answers outcome f s.level s.height k e0 End ≡ End → left b es ss lo m h e (at pc) ≡ Tick (left b es st s.below s.level s.height e2 now)
            exit_left x y =
                let r : Run = resumed outcome f es s.level s.height s.below lo in
                in_segment
                ∙ ap (λ l. Tick (seen b (close outcome f es st s.below (append l r)))) (gives rest)
                ∙ ap (λ l. Tick (seen b (close outcome f es st s.below (append (append (said outcome f (go outcome f s.level s.height) now e2) (answers outcome f s.level s.height k e0 l)) r)))) (resumed_none es m h lo (length es) (omega arith))
                ∙ ap (λ l. Tick (seen b (close outcome f es st s.below (append (append (said outcome f (go outcome f s.level s.height) now e2) l) r)))) y
                ∙ ap (λ l. Tick (seen b (close outcome f es st s.below (append l r)))) (append_end (said outcome f (go outcome f s.level s.height) now e2))
                ∙ ap (λ l. Tick (seen b (close outcome f es st s.below (append (said outcome f (go outcome f s.level s.height) now e2) (resumed outcome f es s.level s.height s.below l))))) x
                ∙ ap (λ l. Tick l) (said_left b es st s.below s.level s.height e2 now ne)

          -- the resume points of what is run are given up
          pub cut_left : (xs et : List Point) (now : NextAction) → es ≡ xs ++ et → lo ≡ length et → is_ended now ≡ false → s.below ≤ lo → Ordered st s.below → ((l : Run) → answers outcome f s.level s.height s.around s.bindings (Answer e l) ≡ said outcome f (go outcome f s.level s.height) now e) → left b es ss lo m h e (at pc) ≡ Tick (left b et st s.below s.level s.height e now)
          cut_left xs et now x y ne v u gives =
              in_segment
              ∙ ap (λ l. Tick (seen b (close outcome f es st s.below (append l (resumed outcome f es s.level s.height s.below lo))))) (gives rest)
              ∙ (λ j. Tick (seen b (close outcome f (x j) st s.below (append (said outcome f (go outcome f s.level s.height) now e) (resumed outcome f (x j) s.level s.height s.below lo)))))
              ∙ ap (λ l. Tick (seen b (close outcome f (xs ++ et) st s.below (append (said outcome f (go outcome f s.level s.height) now e) l)))) (resumed_over xs et s.level s.height s.below lo (omega arith))
              ∙ ap (λ l. Tick (seen b l)) (close_over xs et st s.below _ u (omega arith))
              ∙ ap (λ l. Tick (seen b (close outcome f et st s.below (append (said outcome f (go outcome f s.level s.height) now e) (resumed outcome f et s.level s.height s.below l))))) y
              ∙ ap (λ l. Tick l) (said_left b et st s.below s.level s.height e now ne)

    -- what is done where there is no answer
    module _ (b : ℕ) (es : List Point) (ss : List Segment) (lo m h : ℕ) (e : Bindings) where
      pub point_left : (pc : ℕ) (g : Bindings) → lo ≤ length es → Ordered ss lo → left b (resume pc g ∷ es) ss lo m h e failing ≡ left b es ss lo m h g (at pc)
      point_left pc g x u =
          ap (λ l. seen b (close outcome f (resume pc g ∷ es) ss lo l)) (resumed_point pc g es m h lo x)
          ∙ ap (λ l. seen b l) (close_over (resume pc g ∷ []) es ss lo _ u x)

      pub again_left : (k : Continuation) (g : Bindings) (m2 h2 b2 : ℕ) → lo ≤ b2 → b2 ≤ length es → Ordered ss lo → left b (held k g m2 h2 b2 ∷ es) ss lo m h e failing ≡ left b es (record { around = k; bindings = g; level = m; height = h; below = lo } ∷ ss) b2 m2 h2 e failing
      again_left k g m2 h2 b2 x y u =
          ap (λ l. seen b (close outcome f (held k g m2 h2 b2 ∷ es) ss lo l)) (resumed_held k g m2 h2 b2 es m h lo x y)
          ∙ ap (λ l. seen b l) (close_over (held k g m2 h2 b2 ∷ []) es ss lo _ u (omega arith))

      pub end_left : ss ≡ [] → length es ≤ lo → left b es ss lo m h e failing ≡ End
      end_left z x = (λ j. seen b (close outcome f es (z j) lo (resumed_none es m h lo (length es) x j)))

      pub leave_left : (s : Segment) (st : List Segment) (now : NextAction) → ss ≡ s ∷ st → lo ≡ length es → is_ended now ≡ false → answers outcome f s.level s.height s.around s.bindings End ≡ said outcome f (go outcome f s.level s.height) now s.bindings → left b es ss lo m h e failing ≡ left b es st s.below s.level s.height s.bindings now
      leave_left s st now z x ne gives =
          (λ j. seen b (close outcome f es (z j) lo (resumed_none es m h lo (length es) (omega arith) j)))
          ∙ ap (λ l. seen b (close outcome f es st s.below (append l (resumed outcome f es s.level s.height s.below lo)))) gives
          ∙ ap (λ l. seen b (close outcome f es st s.below (append (said outcome f (go outcome f s.level s.height) now s.bindings) (resumed outcome f es s.level s.height s.below l)))) x
          ∙ said_left b es st s.below s.level s.height s.bindings now ne

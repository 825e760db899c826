-- A run of flat code that is under way: what is around the goal that is run, its resume points, and
-- the event list that is left from a moment on. (Somogyi, Henderson, Conway 1996; this project's
-- form: a dump and one stack of resume points.)
use Rattle.std.specs.Prelude.{◌≡◌, ℕ, zero, suc, ◌+◌, ◌*◌, ◌≤◌, ◌<◌, List, [], ◌∷◌, length, Option, Some, Bool, true, false, cond, ltb, leb, ◌&&◌}
use Rattle.mc_program.specs.Values.{Val}
use Rattle.mc_program.specs.declared.builtin.Builtin.{Builtin}
use Rattle.mc_model.specs.EventList.{Halt, budget, of_option}
use Rattle.mc_model.specs.Outcomes.{Outcome}
use Rattle.mc_model.specs.Stream.{Bindings, unify, leave}
use Rattle.mc_flat_code.specs.Ticked as T
use Rattle.mc_flat_code.specs.Ticked.{Ticked, append, bind, choose, first, negate, follow}
use Rattle.mc_flat_code.specs.Running.{instr_at, variables_at, body_at, place_list, call_list}
use Rattle.mc_flat_code.specs.declared.code.Instr.{Instr}
use Rattle.mc_flat_code.specs.declared.code.Instr.TheVariants as I
use Rattle.mc_flat_code.specs.declared.code.FlatProgram.{FlatProgram}

-- what an answer of a goal that is run apart means for what is around it: a condition, with the
-- places after its answers and where it has none; one that had an answer; a negated goal; a pruned
-- goal; a call, by its place
pub data Continuation : Type 0 where
  condition : (then_place else_place : ℕ) → Continuation
  answered : (then_place : ℕ) → Continuation
  negated : (next : ℕ) → Continuation
  pruned : (next : ℕ) → Continuation
  called : (place : ℕ) → Continuation

-- what is around a goal that is run apart: its bindings, levels, height, and where its resume points
-- begin
pub record Segment : Type 0 where
  pub around : Continuation
  pub bindings : Bindings
  pub level : ℕ
  pub height : ℕ
  pub below : ℕ

-- a resume point: a place, or a goal that was run apart and has more resume points, with what is
-- around it, its own levels and height, and where its resume points begin
pub data Point : Type 0 where
  resume : (place : ℕ) → Bindings → Point
  held : Continuation → Bindings → (level height base : ℕ) → Point

-- what is done next
pub data NextAction : Type 0 where
  at : (place : ℕ) → NextAction
  failing : NextAction
  ended : NextAction
  stuck : NextAction
  stopped : Halt → NextAction

-- the list up to its call number n + 1, without it, and then the stop at the budget
abbrev pub cut : {A : Type 0} → ℕ → Ticked A → Ticked A
cut n T.End = T.End
cut n T.Stuck = T.Stuck
cut n (T.Stopped h) = T.Stopped h
cut n (T.Answer a xs) = T.Answer a (cut n xs)
cut zero (T.Called c xs) = T.Stopped budget
cut (suc n) (T.Called c xs) = T.Called c (cut n xs)
cut n (T.Wrote t xs) = T.Wrote t (cut n xs)
cut n (T.Read k xs) = T.Read k (cut n xs)
cut n (T.Tick xs) = T.Tick (cut n xs)

-- the list from its first answer, text or reading on, or its end
abbrev pub shown : {A : Type 0} → Ticked A → Ticked A
shown T.End = T.End
shown T.Stuck = T.Stuck
shown (T.Stopped h) = T.Stopped h
shown (T.Answer a xs) = T.Answer a (shown xs)
shown (T.Called c xs) = shown xs
shown (T.Wrote t xs) = T.Wrote t (shown xs)
shown (T.Read k xs) = T.Read k (shown xs)
shown (T.Tick xs) = shown xs

-- how many places are run
abbrev pub ticks : {A : Type 0} → Ticked A → ℕ
ticks T.End = 0
ticks T.Stuck = 0
ticks (T.Stopped h) = 0
ticks (T.Answer a xs) = ticks xs
ticks (T.Called c xs) = ticks xs
ticks (T.Wrote t xs) = ticks xs
ticks (T.Read k xs) = ticks xs
ticks (T.Tick xs) = suc (ticks xs)

module _ (outcome : Builtin → List Val → Outcome) (f : FlatProgram) where
  -- what a place does with m levels of calls left at a height
  abbrev pub go : (m h : ℕ) → ℕ → Bindings → Ticked Bindings
  go m h = place_list outcome f.code (call_list outcome f m) h

  -- what an answer of a call's body does at the call
  abbrev pub back : (m h : ℕ) → Option Instr → Bindings → Bindings → Ticked Bindings
  back m h (Some (I.Call p xs last next)) e a =
      follow
      (of_option
      (unify (variables_at f.code xs)
      (leave (variables_at f.code (body_at f p).head) (variables_at f.code (body_at f p).last) a)
      e))
      (go m h next)
  back m h _ e a = T.Stuck

  -- what the items of a goal that is run apart mean around it
  abbrev pub answers : (m h : ℕ) → Continuation → Bindings → Ticked Bindings → Ticked Bindings
  answers m h (condition t o) e xs = choose xs (go m h t) (go m h o e)
  answers m h (answered t) e xs = bind xs (go m h t)
  answers m h (negated next) e xs = bind (negate e xs) (go m h next)
  answers m h (pruned next) e xs = bind (first xs) (go m h next)
  answers m h (called pc) e xs = bind xs (back m h (instr_at f.code pc) e)

  -- the resume points from a place of the stack to another, the last one first
  abbrev pub resumed : List Point → (m h lo hi : ℕ) → Ticked Bindings
  resumed [] m h lo hi = T.End
  resumed (resume pc e ∷ es) m h lo hi =
      cond
      (leb hi (length es))
      (resumed es m h lo hi)
      (cond (ltb (length es) lo) T.End (append (go m h pc e) (resumed es m h lo (length es))))
  resumed (held k e m2 h2 b ∷ es) m h lo hi =
      cond
      (leb hi (length es))
      (resumed es m h lo hi)
      (cond
      (ltb (length es) lo)
      T.End
      (cond
      (leb lo b && leb b (length es))
      (append (answers m h k e (resumed es m2 h2 b (length es))) (resumed es m h lo b))
      T.Stuck))

  -- the items of what is run now, through all that is around it
  abbrev pub close : List Point → List Segment → ℕ → Ticked Bindings → Ticked Bindings
  close es [] hi xs = xs
  close es (s ∷ ss) hi xs =
      close es ss s.below
      (append (answers s.level s.height s.around s.bindings xs) (resumed es s.level s.height s.below hi))

  -- an atom's items, as what is done next says them
  abbrev pub said : (ℕ → Bindings → Ticked Bindings) → NextAction → Bindings → Ticked Bindings
  said next (at pc) e = next pc e
  said next failing e = T.End
  said next ended e = T.End
  said next stuck e = T.Stuck
  said next (stopped w) e = T.Stopped w

  module _ (head last : List ℕ) where
    -- the run's own answers give its outputs
    abbrev pub outputs : Bindings → Ticked (List (Option Val))
    outputs a = T.Answer (leave head last a) T.End

    -- what is left, by the parts of a state
    abbrev pub left_of :
        (budget : ℕ)
        → List Point → List Segment → (lo m h : ℕ) → Bindings → NextAction
        → Ticked (List (Option Val))
    left_of b es ss lo m h e (at pc) =
        cut b (bind (close es ss lo (append (go m h pc e) (resumed es m h lo (length es)))) outputs)
    left_of b es ss lo m h e failing =
        cut b (bind (close es ss lo (resumed es m h lo (length es))) outputs)
    left_of b es ss lo m h e ended = T.End
    left_of b es ss lo m h e stuck = T.Stuck
    left_of b es ss lo m h e (stopped w) = T.Stopped w

-- the places where resume points begin fall
abbrev pub Ordered : List Segment → ℕ → Type 0
Ordered [] hi = Unit {0}
Ordered (s ∷ ss) hi = (s.below ≤ hi) × Ordered ss s.below

abbrev pub is_ended : NextAction → Bool
is_ended (at pc) = false
is_ended failing = false
is_ended ended = true
is_ended stuck = false
is_ended (stopped w) = false

-- where it goes on after a goal that was run apart and has no more answer
abbrev pub after : Continuation → NextAction
after (condition t o) = at o
after (answered t) = failing
after (negated next) = at next
after (pruned next) = failing
after (called pc) = failing

-- a goal is run apart
abbrev pub GoesApart : Instr → ℕ → Continuation → Type 0
GoesApart i g (condition t o) = i ≡ I.If g t o
GoesApart i g (answered t) = ⊥
GoesApart i g (negated next) = i ≡ I.Not g next
GoesApart i g (pruned next) = i ≡ I.Once g next
GoesApart i g (called pc) = ⊥

-- A run at a moment: the resume points and what is around it, the last ones first.
pub record Machine : Type 0 where
  pub budget : ℕ
  pub points : List Point
  pub segments : List Segment
  pub base : ℕ
  pub level : ℕ
  pub height : ℕ
  pub bindings : Bindings
  pub now : NextAction

pub record Whole (M : Machine) : Type 0 where
  pub base : M.base ≤ length M.points
  pub ordered : Ordered M.segments M.base

module _ (outcome : Builtin → List Val → Outcome) (f : FlatProgram) (head last : List ℕ) where
  -- what is left of a run
  abbrev pub left : Machine → Ticked (List (Option Val))
  left M =
      left_of outcome f head last M.budget M.points M.segments M.base M.level M.height M.bindings
      M.now

  -- what a run may cost
  abbrev pub cost : Machine → ℕ
  cost M = 3 * ticks (left M) + length M.segments + 2 * length M.points

  -- what is shown stays, and it costs less
  pub record Moved (M N : Machine) : Type 0 where
    pub whole : Whole N
    pub shows : shown (left M) ≡ shown (left N)
    pub costs : cost N < cost M

-- a goal that was run apart keeps its resume points, if it has any
pub record Holding
    (k : Continuation) (e : Bindings) (m h lo : ℕ) (before later : List Point) : Type 0 where
  pub some : lo < length before → later ≡ held k e m h lo ∷ before
  pub none : length before ≤ lo → later ≡ before

-- a goal has no more answer: the last resume point is taken
abbrev pub went_back : Machine → List Point → Machine
went_back M [] = M
went_back M (resume pc e ∷ ps) = record M { points = ps; bindings = e; now = at pc }
went_back M (held k e m h lo ∷ ps) =
    cond
    (leb M.base lo && leb lo (length ps))
    (record M {
      points = ps;
      segments =
          record { around = k; bindings = e; level = M.level; height = M.height; below = M.base }
          ∷ M.segments;
      base = lo;
      level = m;
      height = h;
    })
    (record M { points = ps; now = stuck })

-- a goal that was run apart has no more answer
abbrev pub went_out : Machine → List Segment → Machine
went_out M [] = record M { now = ended }
went_out M (s ∷ ss) =
    record M {
      segments = ss;
      base = s.below;
      level = s.level;
      height = s.height;
      bindings = s.bindings;
      now = after s.around;
    }

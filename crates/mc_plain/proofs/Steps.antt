-- Each step of the executor, over a whole run.
use Rattle.std.proofs.Common.{◌≡◌, ℕ, zero, suc, ◌+◌, ◌*◌, ◌<◌, ◌≤◌, ◌⊎◌, inl, inr, Bool, true, false, refl, sym, ap, subst, ◌∙◌, Option, Some, List, [], ◌∷◌, ◌++◌, length, length-append, map, arith}
use Rattle.mc_program.specs.Values.{Val}
use Rattle.mc_program.specs.declared.builtin.Builtin.{Builtin}
use Rattle.mc_model.specs.EventList.{Halt, Made_call, budget, too_deep}
use Rattle.mc_model.specs.Outcomes.{Outcome}
use Rattle.mc_model.specs.Stream.{Bindings, ready, enter, leave}
use Rattle.mc_flat_code.specs.Ticked.{Ticked, End, Stopped, Answer, Called, Wrote, Read, Tick, append, at_height}
use Rattle.mc_flat_code.specs.Running.{instr_at, variables_at, body_at, list_of, call_list, IsCode}
use Rattle.mc_flat_code.specs.declared.code.Instr.{Instr}
use Rattle.mc_flat_code.specs.declared.code.Instr.TheVariants as I
use Rattle.mc_flat_code.specs.declared.code.Span.{Span}
use Rattle.mc_flat_code.specs.declared.code.FlatProgram.{FlatProgram}
use Rattle.mc_plain.specs.code.Machine.{Continuation, condition, answered, negated, pruned, called, Segment, Point, resume, held, NextAction, at, failing, stuck, stopped, shown, ticks, go, answers, said, left_of, Ordered, is_ended, after, GoesApart, Machine, Whole, left, Moved, Holding}
use Rattle.mc_plain.proofs.TickedLaws.{append_end}
use Rattle.mc_plain.proofs.Moves as V

less_or_not : (a b : ℕ) → (a < b) ⊎ (b ≤ a)
less_or_not zero zero = inr (omega arith)
less_or_not zero (suc b) = inl (omega arith)
less_or_not (suc a) zero = inr (omega arith)
less_or_not (suc a) (suc b) = elim (less_or_not a b) [ inl h ↦ inl (omega arith) | inr h ↦ inr (omega arith) ]

abbrev size : Machine → ℕ
size M = length M.segments + 2 * length M.points

module _ (outcome : Builtin → List Val → Outcome) (f : FlatProgram) (o : IsCode f.code) (head last : List ℕ) where
  abbrev rest : Machine → Ticked (List (Option Val))
  rest = left outcome f head last

  pub moved_tick : (M N : Machine) → rest M ≡ Tick (rest N) → size N < size M + 3 → Whole N → Moved outcome f head last M N
  moved_tick M N x y w = record { whole = w; shows = ap shown x; costs = omega (arith, ap ticks x) }

  moved_called : (M N : Machine) (c : Made_call) → rest M ≡ Tick (Called c (rest N)) → size N < size M + 3 → Whole N → Moved outcome f head last M N
  moved_called M N c x y w = record { whole = w; shows = ap shown x; costs = omega (arith, ap ticks x) }

  pub moved_same : (M N : Machine) → rest M ≡ rest N → size N < size M → Whole N → Moved outcome f head last M N
  moved_same M N x y w = record { whole = w; shows = ap shown x; costs = omega (arith, ap ticks x) }

  module _ (M : Machine) (w : Whole M) where
    pub at_now : (n : NextAction) → M.now ≡ n → rest M ≡ left_of outcome f head last M.budget M.points M.segments M.base M.level M.height M.bindings n
    at_now n e = ap (λ k. left_of outcome f head last M.budget M.points M.segments M.base M.level M.height M.bindings k) e

    module _ (pc : ℕ) (n : M.now ≡ at pc) (i : Instr) (q : instr_at f.code pc ≡ Some i) where
      abbrev items : Ticked Bindings
      items = list_of outcome f.code (call_list outcome f M.level) M.height (go outcome f M.level M.height) i M.bindings

      pub alone_moved : (now : NextAction) (e2 : Bindings) → is_ended now ≡ false → items ≡ said outcome f (go outcome f M.level M.height) now e2 → Moved outcome f head last M (record M { bindings = e2; now = now })
      alone_moved now e2 ne d =
          moved_tick M (record M { bindings = e2; now = now })
          (at_now (at pc) n ∙ V.atom_left outcome f head last o M.budget M.points M.segments M.base M.level M.height M.bindings pc i q now e2 ne d)
          (omega arith) (record { base = w.base; ordered = w.ordered })

      -- an atom that writes, or reads, first
      pub wrote_shown : (t : List ℕ) (now : NextAction) (e2 : Bindings) → is_ended now ≡ false → items ≡ Wrote t (said outcome f (go outcome f M.level M.height) now e2) → shown (rest M) ≡ Wrote t (shown (rest (record M { bindings = e2; now = now })))
      wrote_shown t now e2 ne d =
          ap shown (at_now (at pc) n ∙ V.wrote_left outcome f head last o M.budget M.points M.segments M.base M.level M.height M.bindings pc i q t now e2 ne d)

      pub read_shown : (k : ℕ) (now : NextAction) (e2 : Bindings) → is_ended now ≡ false → items ≡ Read k (said outcome f (go outcome f M.level M.height) now e2) → shown (rest M) ≡ Read k (shown (rest (record M { bindings = e2; now = now })))
      read_shown k now e2 ne d =
          ap shown (at_now (at pc) n ∙ V.read_left outcome f head last o M.budget M.points M.segments M.base M.level M.height M.bindings pc i q k now e2 ne d)

      pub either_moved : (l r : ℕ) → i ≡ I.Or l r → Moved outcome f head last M (record M { points = resume r M.bindings ∷ M.points; now = at l })
      either_moved l r d =
          moved_tick M (record M { points = resume r M.bindings ∷ M.points; now = at l })
          (at_now (at pc) n ∙ V.either_left outcome f head last o M.budget M.points M.segments M.base M.level M.height M.bindings pc i q l r d w.base w.ordered)
          (omega arith)
          (let b : M.base ≤ length M.points = w.base in record { base = omega arith; ordered = w.ordered })

      apart_items : (g : ℕ) (k : Continuation) → GoesApart i g k → items ≡ answers outcome f M.level M.height k M.bindings (go outcome f M.level M.height g M.bindings)
      apart_items g (condition t u) x = ap (λ j. list_of outcome f.code (call_list outcome f M.level) M.height (go outcome f M.level M.height) j M.bindings) x
      apart_items g (answered t) x = absurd x
      apart_items g (negated next) x = ap (λ j. list_of outcome f.code (call_list outcome f M.level) M.height (go outcome f M.level M.height) j M.bindings) x
      apart_items g (pruned next) x = ap (λ j. list_of outcome f.code (call_list outcome f M.level) M.height (go outcome f M.level M.height) j M.bindings) x
      apart_items g (called c) x = absurd x

      pub apart_moved : (g : ℕ) (k : Continuation) → GoesApart i g k → Moved outcome f head last M (record M { segments = record { around = k; bindings = M.bindings; level = M.level; height = M.height; below = M.base } ∷ M.segments; base = length M.points; now = at g })
      apart_moved g k x =
          moved_tick M (record M { segments = record { around = k; bindings = M.bindings; level = M.level; height = M.height; below = M.base } ∷ M.segments; base = length M.points; now = at g })
          (at_now (at pc) n ∙ V.apart_left outcome f head last o M.budget M.points M.segments M.base M.level M.height M.bindings pc i q g k (apart_items g k x))
          (omega arith) (record { base = omega arith; ordered = (w.base, w.ordered) })

      module _ (p : ℕ) (xs : Span) (is_last : Bool) (next : ℕ) (d : i ≡ I.Call p xs is_last next) where
        abbrev vs : List (Option Val)
        vs = map M.bindings (variables_at f.code xs)

        stopped_moved : (h : Halt) → rest M ≡ Tick (Stopped h) → Moved outcome f head last M (record M { now = stopped h })
        stopped_moved h x = moved_tick M (record M { now = stopped h }) x (omega arith) (record { base = w.base; ordered = w.ordered })

        pub too_deep_moved : is_last ≡ false → M.height ≡ 0 → Moved outcome f head last M (record M { now = stopped too_deep })
        too_deep_moved l z =
            stopped_moved too_deep (at_now (at pc) n ∙ V.too_deep_left outcome f head last o M.budget M.points M.segments M.base M.level M.height M.bindings pc i q p xs is_last next d l z)

        module _ (k : ℕ) (within : (g : ℕ → Ticked Bindings) → at_height is_last M.height g ≡ g k) where
          pub no_levels_moved : M.level ≡ 0 → Moved outcome f head last M (record M { now = stopped budget })
          no_levels_moved z =
              stopped_moved budget (at_now (at pc) n ∙ V.no_levels_left outcome f head last o M.budget M.points M.segments M.base M.level M.height M.bindings pc i q p xs is_last next d k within z)

          pub used_up_moved : (m2 : ℕ) → M.level ≡ suc m2 → M.budget ≡ 0 → Moved outcome f head last M (record M { now = stopped budget })
          used_up_moved m2 y z =
              stopped_moved budget (at_now (at pc) n ∙ V.used_up_left outcome f head last o M.budget M.points M.segments M.base M.level M.height M.bindings pc i q p xs is_last next d k within m2 y z)

          pub not_ready_moved : (m2 b2 : ℕ) → M.level ≡ suc m2 → M.budget ≡ suc b2 → ready (variables_at f.code (body_at f p).first) vs ≡ false → Moved outcome f head last M (record M { now = stuck })
          not_ready_moved m2 b2 y z r =
              moved_called M (record M { now = stuck }) (record { proc = p; args = vs })
              (at_now (at pc) n ∙ V.not_ready_left outcome f head last o M.budget M.points M.segments M.base M.level M.height M.bindings pc i q p xs is_last next d k within m2 y b2 z r)
              (omega arith) (record { base = w.base; ordered = w.ordered })

          pub call_moved : (m2 b2 : ℕ) → M.level ≡ suc m2 → M.budget ≡ suc b2 → ready (variables_at f.code (body_at f p).first) vs ≡ true → Moved outcome f head last M (record { budget = b2; points = M.points; segments = record { around = called pc; bindings = M.bindings; level = M.level; height = M.height; below = M.base } ∷ M.segments; base = length M.points; level = m2; height = k; bindings = enter (variables_at f.code (body_at f p).head) (variables_at f.code (body_at f p).first) vs; now = at (body_at f p).entry })
          call_moved m2 b2 y z r =
              moved_called M (record { budget = b2; points = M.points; segments = record { around = called pc; bindings = M.bindings; level = M.level; height = M.height; below = M.base } ∷ M.segments; base = length M.points; level = m2; height = k; bindings = enter (variables_at f.code (body_at f p).head) (variables_at f.code (body_at f p).first) vs; now = at (body_at f p).entry })
              (record { proc = p; args = vs })
              (at_now (at pc) n ∙ V.call_left outcome f head last o M.budget M.points M.segments M.base M.level M.height M.bindings pc i q p xs is_last next d k within m2 y b2 z r)
              (omega arith) (record { base = omega arith; ordered = (w.base, w.ordered) })

      -- the run's own answer
      pub answer_shown : i ≡ I.Done → M.segments ≡ [] → (e2 : Bindings) → shown (rest M) ≡ Answer (leave head last M.bindings) (shown (rest (record M { bindings = e2; now = failing })))
      answer_shown d z e2 =
          ap shown (at_now (at pc) n ∙ V.whole_answer outcome f head last o M.budget M.points M.segments M.base M.level M.height M.bindings pc i q d z e2)

      -- an answer of a goal that was run apart
      module _ (d : i ≡ I.Done) (s : Segment) (st : List Segment) (z : M.segments ≡ s ∷ st) where
        order : (s.below ≤ M.base) × Ordered st s.below
        order = subst (λ l. Ordered l M.base) z w.ordered

        abbrev outside : List Point → Bindings → NextAction → Machine
        outside pts e now = record { budget = M.budget; points = pts; segments = st; base = s.below; level = s.level; height = s.height; bindings = e; now = now }

        module _ (k : Continuation) (e0 : Bindings) (now : NextAction) (e2 : Bindings) (ne : is_ended now ≡ false) (gives : (xs : Ticked Bindings) → answers outcome f s.level s.height s.around s.bindings (Answer M.bindings xs) ≡ append (said outcome f (go outcome f s.level s.height) now e2) (answers outcome f s.level s.height k e0 xs)) (ends : answers outcome f s.level s.height k e0 End ≡ End) where
          kept_some : M.base < length M.points → Moved outcome f head last M (outside (held k e0 M.level M.height M.base ∷ M.points) e2 now)
          kept_some x =
              let sl : length M.segments ≡ suc (length st) = ap length z in
              let ord : (s.below ≤ M.base) × Ordered st s.below = order in
              let low : s.below ≤ M.base = ord.0 in
              moved_tick M (outside (held k e0 M.level M.height M.base ∷ M.points) e2 now)
              (at_now (at pc) n ∙ V.held_left outcome f head last o M.budget M.points M.segments M.base M.level M.height M.bindings pc i q d s st z k e0 now e2 ne gives (omega arith) low ord.1)
              (omega arith) (record { base = omega arith; ordered = ord.1 })

          kept_none : length M.points ≤ M.base → Moved outcome f head last M (outside M.points e2 now)
          kept_none x =
              let sl : length M.segments ≡ suc (length st) = ap length z in
              let ord : (s.below ≤ M.base) × Ordered st s.below = order in
              let low : s.below ≤ M.base = ord.0 in
              let b : M.base ≤ length M.points = w.base in
              moved_tick M (outside M.points e2 now)
              (at_now (at pc) n ∙ V.exit_left outcome f head last o M.budget M.points M.segments M.base M.level M.height M.bindings pc i q d s st z k e0 now e2 ne gives (omega arith) ends)
              (omega arith) (record { base = omega arith; ordered = ord.1 })

          pub kept_moved : (pts : List Point) → Holding k e0 M.level M.height M.base M.points pts → Moved outcome f head last M (outside pts e2 now)
          kept_moved pts g =
              elim (less_or_not M.base (length M.points)) [
                | inl x ↦ subst (λ l. Moved outcome f head last M (outside l e2 now)) (sym (g.some x)) (kept_some x)
                | inr x ↦ subst (λ l. Moved outcome f head last M (outside l e2 now)) (sym (g.none x)) (kept_none x)
              ]

        -- resume points that are given up
        pub cut_moved : (xs pts : List Point) (now : NextAction) → M.points ≡ xs ++ pts → M.base ≡ length pts → is_ended now ≡ false → ((l : Ticked Bindings) → answers outcome f s.level s.height s.around s.bindings (Answer M.bindings l) ≡ said outcome f (go outcome f s.level s.height) now M.bindings) → Moved outcome f head last M (outside pts M.bindings now)
        cut_moved xs pts now x y ne gives =
            let sl : length M.segments ≡ suc (length st) = ap length z in
            let pl : length M.points ≡ length xs + length pts = ap length x ∙ length-append xs pts in
            let ord : (s.below ≤ M.base) × Ordered st s.below = order in
            let low : s.below ≤ M.base = ord.0 in
            moved_tick M (outside pts M.bindings now)
            (at_now (at pc) n ∙ V.cut_left outcome f head last o M.budget M.points M.segments M.base M.level M.height M.bindings pc i q d s st z xs pts now x y ne low ord.1 gives)
            (omega arith) (record { base = omega arith; ordered = ord.1 })

    -- where there is no answer
    module _ (n : M.now ≡ failing) where
      pub point_moved : (pc : ℕ) (e : Bindings) (pts : List Point) → M.points ≡ resume pc e ∷ pts → M.base ≤ length pts → Moved outcome f head last M (record M { points = pts; bindings = e; now = at pc })
      point_moved pc e pts x b =
          let pl : length M.points ≡ suc (length pts) = ap length x in
          moved_same M (record M { points = pts; bindings = e; now = at pc })
          (at_now failing n ∙ ap (λ l. left_of outcome f head last M.budget l M.segments M.base M.level M.height M.bindings failing) x
          ∙ V.point_left outcome f head last M.budget pts M.segments M.base M.level M.height M.bindings pc e b w.ordered)
          (omega arith) (record { base = b; ordered = w.ordered })

      pub again_moved : (k : Continuation) (e : Bindings) (m h lo : ℕ) (pts : List Point) → M.points ≡ held k e m h lo ∷ pts → M.base ≤ lo → lo ≤ length pts → Moved outcome f head last M (record M { points = pts; segments = record { around = k; bindings = e; level = M.level; height = M.height; below = M.base } ∷ M.segments; base = lo; level = m; height = h })
      again_moved k e m h lo pts x b c =
          let pl : length M.points ≡ suc (length pts) = ap length x in
          moved_same M (record M { points = pts; segments = record { around = k; bindings = e; level = M.level; height = M.height; below = M.base } ∷ M.segments; base = lo; level = m; height = h })
          (at_now failing n ∙ ap (λ l. left_of outcome f head last M.budget l M.segments M.base M.level M.height M.bindings failing) x
          ∙ V.again_left outcome f head last M.budget pts M.segments M.base M.level M.height M.bindings k e m h lo b c w.ordered
          ∙ ap (λ l. left_of outcome f head last M.budget pts (record { around = k; bindings = e; level = M.level; height = M.height; below = M.base } ∷ M.segments) lo m h M.bindings l) (sym n))
          (omega arith) (record { base = c; ordered = (b, w.ordered) })

      after_going : (k : Continuation) → is_ended (after k) ≡ false
      after_going (condition t u) = refl
      after_going (answered t) = refl
      after_going (negated next) = refl
      after_going (pruned next) = refl
      after_going (called pc) = refl

      after_said : (m h : ℕ) (k : Continuation) (e : Bindings) → answers outcome f m h k e End ≡ said outcome f (go outcome f m h) (after k) e
      after_said m h (condition t u) e = refl
      after_said m h (answered t) e = refl
      after_said m h (negated next) e = append_end (go outcome f m h next e)
      after_said m h (pruned next) e = refl
      after_said m h (called pc) e = refl

      pub leave_moved : (s : Segment) (st : List Segment) → M.segments ≡ s ∷ st → length M.points ≤ M.base → Moved outcome f head last M (record { budget = M.budget; points = M.points; segments = st; base = s.below; level = s.level; height = s.height; bindings = s.bindings; now = after s.around })
      leave_moved s st z x =
          let sl : length M.segments ≡ suc (length st) = ap length z in
          let ord : (s.below ≤ M.base) × Ordered st s.below = subst (λ l. Ordered l M.base) z w.ordered in
          let low : s.below ≤ M.base = ord.0 in
          let b : M.base ≤ length M.points = w.base in
          moved_same M (record { budget = M.budget; points = M.points; segments = st; base = s.below; level = s.level; height = s.height; bindings = s.bindings; now = after s.around })
          (at_now failing n ∙ V.leave_left outcome f head last M.budget M.points M.segments M.base M.level M.height M.bindings s st (after s.around) z (omega arith) (after_going s.around) (after_said s.level s.height s.around s.bindings))
          (omega arith) (record { base = omega arith; ordered = ord.1 })

-- A call enters its body, and an answer of it comes back.
use Rattle.std.proofs.Common.{◌≡◌, ℕ, zero, suc, ◌-◌, ◌<◌, Bool, true, false, refl, sym, ap, subst, ◌∙◌, Option, Some, List, [], ◌∷◌, ◌++◌, length, map, arith, if◌then◌else◌}
use Rattle.mc_program.specs.Values.{Val}
use Rattle.mc_program.specs.declared.builtin.Builtin.{Builtin}
use Rattle.mc_model.specs.EventList.{budget, too_deep, of_option}
use Rattle.mc_model.specs.Outcomes.{Outcome}
use Rattle.mc_model.specs.Stream.{Bindings, ready, enter, leave, unify}
use Rattle.mc_values.specs.declared.heap.Heap.{Heap}
use Rattle.mc_plain.specs.Frames.{given}
use Rattle.mc_flat_code.specs.Ticked.{Ticked, End, Answer, append, follow, at_height}
use Rattle.mc_flat_code.specs.Running.{instr_at, variables_at, body_at, IsCode}
use Rattle.mc_flat_code.specs.declared.code.Instr.{Instr}
use Rattle.mc_flat_code.specs.declared.code.Instr.TheVariants as I
use Rattle.mc_flat_code.specs.declared.code.Span.{Span}
use Rattle.mc_flat_code.specs.declared.code.FlatProgram.{FlatProgram}
use Rattle.mc_plain.specs.code.Machine.{Continuation, called, Segment, Point, NextAction, at, failing, stuck, stopped, go, back, answers, said, is_ended, Machine, Whole, Moved, Holding}
use Rattle.mc_plain.specs.code.Views.{machine, segment_in, plain_now}
use Rattle.mc_plain.specs.declared.state.NextAction.TheVariants as N
use Rattle.mc_plain.specs.declared.state.Control.{Control}
use Rattle.mc_plain.specs.declared.state.Segment.{Segment as TheSegment}
use Rattle.mc_plain.proofs.Pushing.{pushed}
use Rattle.mc_plain.proofs.TickedLaws.{append_end}
use Rattle.mc_plain.proofs.Steps as S

-- the height of a called body
abbrev pub inner_height : Bool → ℕ → ℕ
inner_height is_last h = if is_last then h else h - 1

pub within : (b : Bool) (h : ℕ) → (b ≡ false → 0 < h) → (g : ℕ → Ticked Bindings) → at_height b h g ≡ g (inner_height b h)
within true h x g = refl
within false zero x g = absurd (omega (arith, x refl))
within false (suc h) x g = ap g (omega arith)

pub predecessor : (n : ℕ) → 0 < n → n ≡ suc (n - 1)
predecessor n x = omega arith

module _ (outcome : Builtin → List Val → Outcome) (f : FlatProgram) (o : IsCode f.code) (head last : List ℕ) (M : Machine) (w : Whole M) (pc : ℕ) (n : M.now ≡ at pc) (p : ℕ) (xs : Span) (is_last : Bool) (next : ℕ) (q : instr_at f.code pc ≡ Some (I.Call p xs is_last next)) where
  pub too_deep_moved : is_last ≡ false → M.height ≡ 0 → Moved outcome f head last M (record M { now = stopped too_deep })
  too_deep_moved l z = S.too_deep_moved outcome f o head last M w pc n (I.Call p xs is_last next) q p xs is_last next refl l z

  module _ (high : is_last ≡ false → 0 < M.height) where
    pub no_levels_moved : M.level ≡ 0 → Moved outcome f head last M (record M { now = stopped budget })
    no_levels_moved z = S.no_levels_moved outcome f o head last M w pc n (I.Call p xs is_last next) q p xs is_last next refl (inner_height is_last M.height) (within is_last M.height high) z

    module _ (some_level : 0 < M.level) where
      pub used_up_moved : M.budget ≡ 0 → Moved outcome f head last M (record M { now = stopped budget })
      used_up_moved z = S.used_up_moved outcome f o head last M w pc n (I.Call p xs is_last next) q p xs is_last next refl (inner_height is_last M.height) (within is_last M.height high) (M.level - 1) (predecessor M.level some_level) z

      module _ (some_budget : 0 < M.budget) where
        abbrev vs : List (Option Val)
        vs = map M.bindings (variables_at f.code xs)

        pub not_ready_moved : ready (variables_at f.code (body_at f p).first) vs ≡ false → Moved outcome f head last M (record M { now = stuck })
        not_ready_moved r = S.not_ready_moved outcome f o head last M w pc n (I.Call p xs is_last next) q p xs is_last next refl (inner_height is_last M.height) (within is_last M.height high) (M.level - 1) (M.budget - 1) (predecessor M.level some_level) (predecessor M.budget some_budget) r

        abbrev entered : Bindings → Bindings → Machine
        entered outside inside =
            record {
              budget = M.budget - 1;
              points = M.points;
              segments = record { around = called pc; bindings = outside; level = M.level; height = M.height; below = M.base } ∷ M.segments;
              base = length M.points;
              level = M.level - 1;
              height = inner_height is_last M.height;
              bindings = inside;
              now = at (body_at f p).entry;
            }

        pub call_moved : ready (variables_at f.code (body_at f p).first) vs ≡ true → (outside inside : Bindings) → outside ≡ M.bindings → inside ≡ enter (variables_at f.code (body_at f p).head) (variables_at f.code (body_at f p).first) vs → Moved outcome f head last M (entered outside inside)
        call_moved r outside inside x y =
            subst (λ l. Moved outcome f head last M (entered l inside)) (sym x)
            (subst (λ l. Moved outcome f head last M (entered M.bindings l)) (sym y)
            (S.call_moved outcome f o head last M w pc n (I.Call p xs is_last next) q p xs is_last next refl (inner_height is_last M.height) (within is_last M.height high) (M.level - 1) (M.budget - 1) (predecessor M.level some_level) (predecessor M.budget some_budget) r))

-- an answer of a goal that was run apart, whose segment has been taken off a stack
module _ (outcome : Builtin → List Val → Outcome) (f : FlatProgram) (o : IsCode f.code) (head last : List ℕ) (h : Heap) (c d : Control) (s : TheSegment) (others : d ≡ record c { segments = d.segments }) (e : d.segments.items ≡ c.segments.items ++ s ∷ []) (place : ℕ) (n : d.now ≡ N.At place) (q : instr_at f.code place ≡ Some I.Done) (w : Whole (machine h d)) where
  abbrev M : Machine
  M = machine h d

  abbrev seg : Segment
  seg = segment_in h s

  split : M.segments ≡ seg ∷ (machine h c).segments
  split = pushed (segment_in h) c.segments.items d.segments.items s e

  -- what is around the goal goes on, and its resume points stay
  pub kept : (k : Continuation) (e0 : Bindings) (now : NextAction) (e2 : Bindings) → is_ended now ≡ false → ((xs : Ticked Bindings) → answers outcome f s.level s.height seg.around seg.bindings (Answer M.bindings xs) ≡ append (said outcome f (go outcome f s.level s.height) now e2) (answers outcome f s.level s.height k e0 xs)) → answers outcome f s.level s.height k e0 End ≡ End → (pts : List Point) → Holding k e0 M.level M.height M.base M.points pts → Moved outcome f head last M (record (machine h c) { points = pts; level = s.level; height = s.height; base = s.below; bindings = e2; now = now })
  kept k e0 now e2 ne gives ends pts held =
      subst (λ b. Moved outcome f head last M (record (machine h c) { budget = b; points = pts; level = s.level; height = s.height; base = s.below; bindings = e2; now = now })) (ap (λ x. x.budget) others)
      (S.kept_moved outcome f o head last M w place (ap plain_now n) I.Done q refl seg (machine h c).segments split k e0 now e2 ne gives ends pts held)

  -- and its resume points are given up
  pub cut : (xs pts : List Point) (now : NextAction) → M.points ≡ xs ++ pts → M.base ≡ length pts → is_ended now ≡ false → ((l : Ticked Bindings) → answers outcome f s.level s.height seg.around seg.bindings (Answer M.bindings l) ≡ said outcome f (go outcome f s.level s.height) now M.bindings) → Moved outcome f head last M (record (machine h c) { points = pts; level = s.level; height = s.height; base = s.below; bindings = M.bindings; now = now })
  cut xs pts now x y ne gives =
      subst (λ b. Moved outcome f head last M (record (machine h c) { budget = b; points = pts; level = s.level; height = s.height; base = s.below; bindings = M.bindings; now = now })) (ap (λ x. x.budget) others)
      (S.cut_moved outcome f o head last M w place (ap plain_now n) I.Done q refl seg (machine h c).segments split xs pts now x y ne gives)

module _ (outcome : Builtin → List Val → Outcome) (f : FlatProgram) (m h : ℕ) where
  -- the outputs of a call met those of its arguments, or they did not
  pub came : (p : ℕ) (xs : Span) (is_last : Bool) (next : ℕ) (i : Option Instr) → i ≡ Some (I.Call p xs is_last next) → (e a e2 : Bindings) (met : Bool) → unify (variables_at f.code xs) (leave (variables_at f.code (body_at f p).head) (variables_at f.code (body_at f p).last) a) e ≡ given met e2 → (now : NextAction) → now ≡ (if met then at next else failing) → back outcome f m h i e a ≡ said outcome f (go outcome f m h) now e2
  came p xs is_last next i x e a e2 true u now y =
      ap (λ j. back outcome f m h j e a) x ∙ ap (λ r. follow (of_option r) (go outcome f m h next)) u ∙ append_end (go outcome f m h next e2)
      ∙ ap (λ k. said outcome f (go outcome f m h) k e2) (sym y)
  came p xs is_last next i x e a e2 false u now y =
      ap (λ j. back outcome f m h j e a) x ∙ ap (λ r. follow (of_option r) (go outcome f m h next)) u
      ∙ ap (λ k. said outcome f (go outcome f m h) k e2) (sym y)

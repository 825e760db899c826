-- What frames stand for stays where the heap grows.
use Rattle.std.proofs.Common.{◌≡◌, ℕ, ◌<◌, ◌≤◌, List, Option, Some, None, length, get_or, refl, ap, sym, subst, ◌∙◌, inl, inr}
use Rattle.std.specs.Prelude.{IfSome, ◌⊎◌}
use Rattle.std.proofs.Math.Path.{fun_ext}
use Rattle.std.proofs.lemmas.Bool.{cases_lt}
use Rattle.std.proofs.lemmas.List.{get_or_past}
use Rattle.mc_program.specs.declared.program.Program.{Program}
use Rattle.mc_values.specs.declared.heap.Heap.{Heap}
use Rattle.mc_values.specs.Heap.{IsLive, Extends}
use Rattle.mc_plain.specs.Values.{IsValue, IsHeld, AreLive, AreHeld}
use Rattle.mc_plain.specs.Frames.{bindings, seen}

module _ (h k : Heap) (grows : Extends h k) where
  seen_grows : (o : Option ℕ) → IfSome o (IsLive h) → seen k o ≡ seen h o
  seen_grows None live = refl
  seen_grows (Some r) live = ap Some (grows.same r live)

  at_grows : (frame : List (Option ℕ)) → AreLive h frame → (x : ℕ) → (x < length frame) ⊎ (length frame ≤ x) → seen k (get_or frame x None) ≡ seen h (get_or frame x None)
  at_grows frame live x (inl lt) = seen_grows (get_or frame x None) (live x None lt)
  at_grows frame live x (inr le) = ap (seen k) (get_or_past frame x None le) ∙ sym (ap (seen h) (get_or_past frame x None le))

  pub bindings_grow : (frame : List (Option ℕ)) → AreLive h frame → bindings k frame ≡ bindings h frame
  bindings_grow frame live = fun_ext (λ x. at_grows frame live x (cases_lt x (length frame)))

  pub held_grows : (P : Program) (r : ℕ) → IsHeld P h r → IsHeld P k r
  held_grows P r is = record {
    live = grows.live r is.live;
    value = subst (λ v. IsValue P v) (sym (grows.same r is.live)) is.value;
  }

  one_live : (o : Option ℕ) → IfSome o (IsLive h) → IfSome o (IsLive k)
  one_live None live = live
  one_live (Some r) live = grows.live r live

  one_held : (P : Program) (o : Option ℕ) → IfSome o (IsHeld P h) → IfSome o (IsHeld P k)
  one_held P None held = held
  one_held P (Some r) held = held_grows P r held

  pub are_live_grow : (frame : List (Option ℕ)) → AreLive h frame → AreLive k frame
  are_live_grow frame live = λ x d lt. one_live (get_or frame x d) (live x d lt)

  pub are_held_grow : (P : Program) (frame : List (Option ℕ)) → AreHeld P h frame → AreHeld P k frame
  are_held_grow P frame held = λ x d lt. one_held P (get_or frame x d) (held x d lt)

module _ (P : Program) (h : Heap) where
  one_is_live : (o : Option ℕ) → IfSome o (IsHeld P h) → IfSome o (IsLive h)
  one_is_live None held = held
  one_is_live (Some r) held = held.live

  -- what stands for values is live
  pub live_from_held : (frame : List (Option ℕ)) → AreHeld P h frame → AreLive h frame
  live_from_held frame held = λ x d lt. one_is_live (get_or frame x d) (held x d lt)

-- What frames stand for where a variable is bound or compared.
use Rattle.std.proofs.Common.{◌≡◌, ◌≢◌, ℕ, ◌<◌, Bool, true, false, cond, ◌↔◌, IsTrue, List, Option, Some, None, Result, Ok, Err, IfOk, length, get_or, set, refl, ap, sym, subst, ◌∙◌, arith}
use Rattle.std.specs.Prelude.{nat_eq, IfSome, if◌then◌else◌}
use Rattle.std.proofs.Math.Path.{fun_ext}
use Rattle.std.proofs.lemmas.Bool.Decides.{nat_tests}
use Rattle.std.proofs.lemmas.List.{get_or-set_same, get_or-set_other, get_or_default}
use Rattle.std.proofs.lemmas.List.Elements.{All-set}
use Rattle.mc_base.specs.declared.memory.Memory.{Memory}
use Rattle.mc_program.specs.Values.{Val}
use Rattle.mc_program.specs.declared.program.Program.{Program}
use Rattle.mc_values.specs.declared.heap.Heap.{Heap}
use Rattle.mc_values.specs.Heap.{IsLive, value_at}
use Rattle.mc_model.specs.EventList.{Items, End, Stuck, Answer, of_option}
use Rattle.mc_model.specs.Stream.{Bindings, put, meet, same_items}
use Rattle.mc_plain.specs.Values.{IsHeld, AreLive, AreHeld}
use Rattle.mc_plain.specs.Frames.{bindings, seen, given}
use Rattle.mc_plain.specs.Atoms.{went_items}
use Rattle.mc_plain.specs.declared.results.AtomResult.TheVariants as W
use Rattle.mc_plain.proofs.SameValues.{Decides-nat_eq, test_is}

isnt : (a b : ℕ) → nat_eq a b ≡ false → a ≢ b
isnt a b e = grind (arith, nat_tests)

set_at : (h : Heap) (frame : List (Option ℕ)) (x y : ℕ) (o : Option ℕ) → x < length frame → (b : Bool) → nat_eq y x ≡ b → seen h (get_or (set frame x o) y None) ≡ cond b (seen h o) (seen h (get_or frame y None))
set_at h frame x y o lt true e =
    ap (λ k. seen h (get_or (set frame x o) k None)) ((Decides-nat_eq y x).0 e) ∙ ap (seen h) (get_or-set_same frame x o None lt)
set_at h frame x y o lt false e = ap (seen h) (get_or-set_other frame x y o None (isnt y x e))

-- a place of the frame is written
pub set_seen : (h : Heap) (frame : List (Option ℕ)) (x : ℕ) (o : Option ℕ) → x < length frame → bindings h (set frame x o) ≡ (λ y. if nat_eq y x then seen h o else bindings h frame y)
set_seen h frame x o lt = fun_ext (λ y. set_at h frame x y o lt (nat_eq y x) refl)

pub put_seen : (h : Heap) (frame : List (Option ℕ)) (x r : ℕ) → x < length frame → bindings h (set frame x (Some r)) ≡ put x (value_at h r) (bindings h frame)
put_seen h frame x r lt = set_seen h frame x (Some r) lt

-- what was read at a place of a row
pub read_is : (frame : List (Option ℕ)) (x : ℕ) (o p : Option ℕ) → x < length frame → o ≡ get_or frame x o → o ≡ p → get_or frame x None ≡ p
read_is frame x o p lt at is = get_or_default frame x None o lt ∙ sym at ∙ is

-- what stands at a place of a row of Refs
pub live_at : (h : Heap) (frame : List (Option ℕ)) (x r : ℕ) → AreLive h frame → x < length frame → get_or frame x None ≡ Some r → IsLive h r
live_at h frame x r live lt e = subst (λ o. IfSome o (IsLive h)) e (live x None lt)

pub held_at : (P : Program) (h : Heap) (frame : List (Option ℕ)) (x r : ℕ) → AreHeld P h frame → x < length frame → get_or frame x None ≡ Some r → IsHeld P h r
held_at P h frame x r held lt e = subst (λ o. IfSome o (IsHeld P h)) e (held x None lt)

pub live_set : (h : Heap) (frame : List (Option ℕ)) (x : ℕ) (o : Option ℕ) → AreLive h frame → IfSome o (IsLive h) → AreLive h (set frame x o)
live_set h frame x o live is = All-set (λ o. IfSome o (IsLive h)) frame x o is live

pub held_set : (P : Program) (h : Heap) (frame : List (Option ℕ)) (x : ℕ) (o : Option ℕ) → AreHeld P h frame → IfSome o (IsHeld P h) → AreHeld P h (set frame x o)
held_set P h frame x o held is = All-set (λ o. IfSome o (IsHeld P h)) frame x o is held

-- a variable meets a value
module _ (h : Heap) (frame : List (Option ℕ)) (x : ℕ) where
  pub unbound_meets : (v : Val) (r : ℕ) → x < length frame → get_or frame x None ≡ None → value_at h r ≡ v → meet x v (bindings h frame) (bindings h frame x) ≡ given true (bindings h (set frame x (Some r)))
  unbound_meets v r lt none is =
      ap (λ o. meet x v (bindings h frame) (seen h o)) none ∙ ap (λ w. Some (put x w (bindings h frame))) (sym is) ∙ ap Some (sym (put_seen h frame x r lt))

  pub bound_meets : (v : Val) (w : ℕ) (same : Bool) → get_or frame x None ≡ Some w → IsTrue same ↔ (value_at h w ≡ v) → meet x v (bindings h frame) (bindings h frame x) ≡ given same (bindings h frame)
  bound_meets v w same some tells =
      ap (λ o. meet x v (bindings h frame) (seen h o)) some ∙ ap (λ (b : Bool). given b (bindings h frame)) (test_is same (value_at h w) v tells)

  pub if_bound_meets : (v : Val) (w : ℕ) → get_or frame x None ≡ Some w → (r : Result Bool Memory) → IfOk r (λ same. IsTrue same ↔ (value_at h w ≡ v)) → IfOk r (λ met. meet x v (bindings h frame) (bindings h frame x) ≡ given met (bindings h frame))
  if_bound_meets v w some (Ok same) tells = bound_meets v w same some tells
  if_bound_meets v w some (Err m) tells = tells

-- how an atom goes that meets something or fails
pub met_goes : (o : Option Bindings) (met : Bool) (e : Bindings) → o ≡ given met e → of_option o ≡ went_items (if met then W.On else W.Fails) e
met_goes o true e is = ap of_option is
met_goes o false e is = ap of_option is

-- an equation of two variables
module _ (h : Heap) (frame : List (Option ℕ)) (x y : ℕ) where
  abbrev says : Items Bindings
  says = same_items x y (bindings h frame) (bindings h frame x) (bindings h frame y)

  abbrev at : Option ℕ → Option ℕ → Items Bindings
  at o p = same_items x y (bindings h frame) (seen h o) (seen h p)

  pub both_unbound : get_or frame x None ≡ None → get_or frame y None ≡ None → says ≡ Stuck
  both_unbound p q = λ i. at (p i) (q i)

  pub left_unbound : (w : ℕ) → x < length frame → get_or frame x None ≡ None → get_or frame y None ≡ Some w → says ≡ Answer (bindings h (set frame x (Some w))) End
  left_unbound w lt p q = (λ i. at (p i) (q i)) ∙ ap (λ e. Answer e End) (sym (put_seen h frame x w lt))

  pub right_unbound : (v : ℕ) → y < length frame → get_or frame x None ≡ Some v → get_or frame y None ≡ None → says ≡ Answer (bindings h (set frame y (Some v))) End
  right_unbound v lt p q = (λ i. at (p i) (q i)) ∙ ap (λ e. Answer e End) (sym (put_seen h frame y v lt))

  pub both_bound : (v w : ℕ) (same : Bool) → get_or frame x None ≡ Some v → get_or frame y None ≡ Some w → IsTrue same ↔ (value_at h v ≡ value_at h w) → says ≡ went_items (if same then W.On else W.Fails) (bindings h frame)
  both_bound v w same p q tells =
      (λ i. at (p i) (q i))
      ∙ met_goes _ same (bindings h frame) (ap (λ (b : Bool). given b (bindings h frame)) (test_is same (value_at h v) (value_at h w) tells))

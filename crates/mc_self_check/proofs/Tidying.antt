-- Several insts that are tidy at several types, and numbers that are below another by their places.
use Rattle.std.proofs.Common.{◌≡◌, ◌↔◌, ◌⊎◌, inl, inr, ℕ, zero, suc, ◌+◌, ◌<◌, ◌≤◌, Bool, List, [], ◌∷◌, length, get_or, map, drop, subst, sym, ap, arith, add-one, ⊎_elim, IsTrue}
use Rattle.mc_program.specs.Programs.{TypeTerm, Source}
use Rattle.mc_program.specs.declared.ty.Ty.{Ty}
use Rattle.mc_model.specs.Insts.{Graph}
use Rattle.mc_accepted.specs.Tidy.{Tidy, EachTidy}
use Rattle.mc_procs.specs.Named.{NumbersBelow}
use Rattle.mc_procs.specs.Procedures.{PlainProcs, source_of, insts_of, with_insts}
use Rattle.mc_procs.specs.VariableTypes.{type_in}

pub number_below : (top : ℕ) (is : List ℕ) (k : ℕ) → k < length is → NumbersBelow top is → get_or is k 0 < top
number_below top [] k lt h = absurd (omega arith)
number_below top (i ∷ is) zero lt h = h.0
number_below top (i ∷ is) (suc k) lt h = number_below top is k (omega arith) h.1

module _ (P : Source) (G : Graph) (f : ℕ → TypeTerm) where
  none_left : (is : List ℕ) → EachTidy P G is []
  none_left [] = tt
  none_left (i ∷ is) = tt

  -- behind the end of one of both lists nothing is left to be asked
  pub at_end : (is vs : List ℕ) (k : ℕ) → ((length is ≤ k) ⊎ (length vs ≤ k)) → EachTidy P G (drop k is) (map f (drop k vs))
  at_end [] vs zero le = tt
  at_end [] vs (suc k) le = tt
  at_end (i ∷ is) [] zero le = tt
  at_end (i ∷ is) [] (suc k) le = none_left (drop k is)
  at_end (i ∷ is) (v ∷ vs) zero le = ⊎_elim (λ a. absurd (omega arith)) (λ a. absurd (omega arith)) le
  at_end (i ∷ is) (v ∷ vs) (suc k) le =
      at_end is vs k (⊎_elim (λ a. inl (omega arith)) (λ a. inr (omega arith)) le)

  -- at a place in both lists the inst there is asked, and those behind it
  abbrev AtPlace : (is vs : List ℕ) (k behind : ℕ) → Type 0
  AtPlace is vs k behind =
      EachTidy P G (drop k is) (map f (drop k vs))
      ↔ (Tidy P G (get_or is k 0) (f (get_or vs k 0)) × EachTidy P G (drop behind is) (map f (drop behind vs)))

  each_place : (is vs : List ℕ) (k : ℕ) → k < length is → k < length vs → AtPlace is vs k (suc k)
  each_place [] vs k l m = absurd (omega arith)
  each_place (i ∷ is) [] k l m = absurd (omega arith)
  each_place (i ∷ is) (v ∷ vs) zero l m = ((λ h. h), (λ h. h))
  each_place (i ∷ is) (v ∷ vs) (suc k) l m = each_place is vs k (omega arith) (omega arith)

  pub at_place : (is vs : List ℕ) (k : ℕ) → k < length is → k < length vs → AtPlace is vs k (k + 1)
  at_place is vs k l m = subst (AtPlace is vs k) (sym (add-one k)) (each_place is vs k l m)

-- what is told of procedures whose insts have the same graph
pub tidy_told : (q r : PlainProcs) (i : ℕ) (t u : TypeTerm) (b : Bool) → r ≡ with_insts q r.insts → insts_of r ≡ insts_of q → t ≡ u → IsTrue b ↔ Tidy (source_of r) (insts_of r) i t → IsTrue b ↔ Tidy (source_of q) (insts_of q) i u
tidy_told q r i t u b others graph is h =
    subst (λ (P : Source). IsTrue b ↔ Tidy P (insts_of q) i u) (ap (λ (x : PlainProcs). source_of x) others)
    (subst (λ (G : Graph). IsTrue b ↔ Tidy (source_of r) G i u) graph
    (subst (λ (x : TypeTerm). IsTrue b ↔ Tidy (source_of r) (insts_of r) i x) is h))

pub each_told : (q r : PlainProcs) (is js : List ℕ) (ts us : List Ty) (vs ws : List ℕ) (b : Bool) → r ≡ with_insts q r.insts → insts_of r ≡ insts_of q → is ≡ js → ts ≡ us → vs ≡ ws → IsTrue b ↔ EachTidy (source_of r) (insts_of r) is (map (type_in ts) vs) → IsTrue b ↔ EachTidy (source_of q) (insts_of q) js (map (type_in us) ws)
each_told q r is js ts us vs ws b others graph insts types variables h =
    subst (λ (P : Source). IsTrue b ↔ EachTidy P (insts_of q) js (map (type_in us) ws)) (ap (λ (x : PlainProcs). source_of x) others)
    (subst (λ (G : Graph). IsTrue b ↔ EachTidy (source_of r) G js (map (type_in us) ws)) graph
    (subst (λ (l : List ℕ). IsTrue b ↔ EachTidy (source_of r) (insts_of r) l (map (type_in us) ws)) insts
    (subst (λ (l : List Ty). IsTrue b ↔ EachTidy (source_of r) (insts_of r) is (map (type_in l) ws)) types
    (subst (λ (l : List ℕ). IsTrue b ↔ EachTidy (source_of r) (insts_of r) is (map (type_in ts) l)) variables h))))

-- A table of pairs.
use Rattle.std.proofs.Common.{◌≡◌, ◌⊎◌, inl, inr, ℕ, Bool, true, false, cond, ◌&&◌, List, [], ◌∷◌, Option, Some, None, IfSome, nat_eq, if◌then◌else◌, refl, sym, ◌∙◌, ⊎_elim}
use Rattle.std.proofs.lemmas.Bool.{eqb-true}
use Rattle.std.specs.Map.{lookup}
use Rattle.indexmap.specs.IndexMap.{insert_entry}
use Rattle.mc_insts.specs.declared.triples.Triple.{Triple}
use Rattle.mc_insts.specs.contracts.triples.TriplePartialEq.TheImpl as TripleEq
use Rattle.mc_insts.specs.code.Pairs.{Holds}
use Rattle.mc_insts.proofs.Growth.{same_triple}

abbrev pub same : Triple → Triple → Bool
same = TripleEq.eq-value.it

and_both : (a b : Bool) → (a && b) ≡ true → (a ≡ true) × (b ≡ true)
and_both true b h = (refl, h)
and_both false b h = cc

same_is : (x y : Triple) → same x y ≡ true → x ≡ y
same_is x y h =
    let p = and_both (nat_eq x.low y.low) (nat_eq x.high y.high && nat_eq x.row y.row) h in
    let q = and_both (nat_eq x.high y.high) (nat_eq x.row y.row) p.1 in
    same_triple _ _ _ _ _ _ (eqb-true x.low y.low p.0) (eqb-true x.high y.high q.0) (eqb-true x.row y.row q.1)

found_by : (e : Triple × ℕ) (es : List (Triple × ℕ)) (pair : Triple) (k : ℕ) (b : Bool) → same pair e.0 ≡ b → (lookup (same pair) es ≡ Some k → Holds es pair k) → cond b (Some e.1) (lookup (same pair) es) ≡ Some k → Holds (e ∷ es) pair k
found_by e es pair k true p rest h = let x : e.1 ≡ k = cc in inl (sym (same_is pair e.0 p), x)
found_by e es pair k false p rest h = inr (rest h)

-- what is found is there
pub found : (es : List (Triple × ℕ)) (pair : Triple) (k : ℕ) → lookup (same pair) es ≡ Some k → Holds es pair k
found [] pair k h = cc
found (e ∷ es) pair k h = found_by e es pair k (same pair e.0) refl (found es pair k) h

pub if_found : (es : List (Triple × ℕ)) (pair : Triple) (o : Option ℕ) → o ≡ lookup (same pair) es → IfSome o (λ k. Holds es pair k)
if_found es pair None h = tt
if_found es pair (Some k) h = found es pair k (sym h)

inserted_by : (e : Triple × ℕ) (es : List (Triple × ℕ)) (pair : Triple) (k : ℕ) (u : Triple) (n : ℕ) (b : Bool) → same pair e.0 ≡ b → (Holds (insert_entry same es pair k) u n → Holds es u n ⊎ ((u ≡ pair) × (n ≡ k)))
    → Holds (if b then (e.0, k) ∷ es else e ∷ insert_entry same es pair k) u n → Holds (e ∷ es) u n ⊎ ((u ≡ pair) × (n ≡ k))
inserted_by e es pair k u n true p rest h = ⊎_elim (λ a. inr (sym a.0 ∙ sym (same_is pair e.0 p), sym a.1)) (λ b. inl (inr b)) h
inserted_by e es pair k u n false p rest h = ⊎_elim (λ a. inl (inl a)) (λ b. ⊎_elim (λ x. inl (inr x)) (λ x. inr x) (rest b)) h

-- what is put in is all that is new
pub inserted : (es : List (Triple × ℕ)) (pair : Triple) (k : ℕ) (u : Triple) (n : ℕ) → Holds (insert_entry same es pair k) u n → Holds es u n ⊎ ((u ≡ pair) × (n ≡ k))
inserted [] pair k u n h = ⊎_elim (λ a. inr (sym a.0, sym a.1)) (λ b. absurd b) h
inserted (e ∷ es) pair k u n h = inserted_by e es pair k u n (same pair e.0) refl (inserted es pair k u n) h

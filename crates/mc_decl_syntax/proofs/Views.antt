-- One term and two, by how they are taken off the end of a list.
use Rattle.std.proofs.Common.{◌≡◌, List, [], ◌∷◌, ◌++◌, subst, Bool, true, ◌&&◌, length, map, refl, ap, sym, ◌∙◌, arith, Some, None, length-append}
use Rattle.std.proofs.Math.Bool.{and-true}
use Rattle.mc_term_data.specs.Plain.{PlainTerms, no_term, more_terms, plain_term, term_list}
use Rattle.std.specs.Option.{is_some}
use Rattle.mc_term_data.specs.declared.term.Term.{Term}
use Rattle.mc_term_data.specs.Shapes.{one, two, has_one}

both : (ys : List Term) (t u : Term) → is_some (two (term_list (map plain_term ((ys ++ (t ∷ [])) ++ (u ∷ []))))) ≡ true → Some (plain_term t, plain_term u) ≡ two (term_list (map plain_term ((ys ++ (t ∷ [])) ++ (u ∷ []))))
both [] t u h = refl
both (x ∷ []) t u h = cc
both (x ∷ (y ∷ [])) t u h = cc
both (x ∷ (y ∷ (z ∷ ys))) t u h = cc

-- the two of these terms, taken off the end
pub two_taken : (ts xs ys : List Term) (t u : Term) → ts ≡ xs ++ (u ∷ []) → xs ≡ ys ++ (t ∷ []) → is_some (two (term_list (map plain_term ts))) ≡ true → Some (plain_term t, plain_term u) ≡ two (term_list (map plain_term ts))
two_taken ts xs ys t u e f = subst P (sym whole) (both ys t u)
  where
    whole : ts ≡ (ys ++ (t ∷ [])) ++ (u ∷ [])
    whole = e ∙ ap (λ z. z ++ (u ∷ [])) f

    P : List Term → Type 0
    P z = is_some (two (term_list (map plain_term z))) ≡ true → Some (plain_term t, plain_term u) ≡ two (term_list (map plain_term z))

pub not_one : (ts : List Term) → (length ts ≡ 1 → ⊥) → None ≡ one (term_list (map plain_term ts))
not_one [] h = refl
not_one (x ∷ []) h = absurd (h refl)
not_one (x ∷ (y ∷ ts)) h = refl

pub one_taken : (ts xs : List Term) (t : Term) → ts ≡ xs ++ (t ∷ []) → length ts ≡ 1 → Some (plain_term t) ≡ one (term_list (map plain_term ts))
one_taken ts [] t e h = rw e refl
one_taken ts (x ∷ []) t e h = let k = ap length e in absurd (omega arith)
one_taken ts (x ∷ (y ∷ xs)) t e h = let k = ap length e in absurd (omega (arith, length-append xs (t ∷ [])))

pub and_true : (b : Bool) → b && true ≡ b
and_true = and-true

pub one_where : (ts : PlainTerms) → has_one ts ≡ is_some (one ts)
one_where no_term = refl
one_where (more_terms t no_term) = refl
one_where (more_terms t (more_terms u ts)) = refl

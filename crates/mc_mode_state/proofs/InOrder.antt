-- Whether insts that were replaced stand in order of variables.
use Rattle.std.proofs.Common.{◌≡◌, ℕ, ◌+◌, ◌<◌, ◌≤◌, List, length, get_or, ap, ◌∙◌, ⊎_elim, arith}
use Rattle.std.specs.List.Sorted.{IsNonDecreasingBy}
use Rattle.std.proofs.lemmas.Bool.{cases_lt}
use Rattle.std.proofs.lemmas.List.{get_or_default}

-- the first so many are in order, and none is past the last of them
pub record InOrderBelow (last k : ℕ) (es : List (ℕ × ℕ)) : Type 0 where
  pub most : (j : ℕ) (d : ℕ × ℕ) → j < k → (get_or es j d).0 ≤ last
  pub up : (i j : ℕ) (d : ℕ × ℕ) → i ≤ j → j < k → (get_or es i d).0 ≤ (get_or es j d).0

pub none_in_order : (es : List (ℕ × ℕ)) → InOrderBelow 0 0 es
none_in_order es = record { most = λ j d h. absurd (omega arith); up = λ i j d l h. absurd (omega arith) }

pub next_in_order : (last k : ℕ) (es : List (ℕ × ℕ)) (d : ℕ × ℕ) → k < length es → InOrderBelow last k es → last ≤ (get_or es k d).0 → InOrderBelow (get_or es k d).0 (k + 1) es
next_in_order last k es d h r l = record {
  most = λ j a p. ⊎_elim (λ (q : j < k). omega (arith, r.most j a q, l)) (λ (q : k ≤ j). omega (arith, same j a (omega arith))) (cases_lt j k);
  up = λ i j a p m. ⊎_elim (λ (q : j < k). r.up i j a p q) (λ (q : k ≤ j). ⊎_elim (λ (n : i < k). omega (arith, r.most i a n, l, same j a (omega arith))) (λ (n : k ≤ i). omega (arith, ap (λ t. (get_or es t a).0) (both i j p q n m))) (cases_lt i k)) (cases_lt j k);
}
  where
    same : (j : ℕ) (a : ℕ × ℕ) → j ≡ k → (get_or es j a).0 ≡ (get_or es k d).0
    same j a e = ap (λ t. (get_or es t a).0) e ∙ ap (λ (e : ℕ × ℕ). e.0) (get_or_default es k a d h)

    both : (i j : ℕ) → i ≤ j → k ≤ j → k ≤ i → j < k + 1 → i ≡ j
    both i j p q n m = omega arith

pub all_in_order : (last k : ℕ) (es : List (ℕ × ℕ)) → length es ≤ k → InOrderBelow last k es → IsNonDecreasingBy (λ (e : ℕ × ℕ). e.0) es
all_in_order last k es h r i j d l m = r.up i j d l (omega arith)

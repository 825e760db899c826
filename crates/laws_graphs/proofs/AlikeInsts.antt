-- Insts of modes that are alike are told apart by nothing that a call or a rule asks of their numbers.
use Rattle.std.proofs.Common.{◌≡◌, inl, inr, ℕ, ◌<◌, Bool, cond, not, nat_eq, ◌&&◌, List, [], ◌∷◌, map, refl, ap, ap₂, sym, ◌∙◌, arith}
use Rattle.mc_model.specs.Bare.{bare_inst}
use Rattle.mc_model.specs.Stream.{is_bound}
use Rattle.mc_accepted.specs.DeterminismFaults.{is_mode, takes_states}
use Rattle.mc_accepted.specs.Ordered.{di_mode, uo_mode, zipped}
use Rattle.laws_graphs.specs.FaultLaws.{InstAlike, EachAlike}
use Rattle.laws_graphs.proofs.Trials.{other-number}

-- whether an inst is this builtin one
same-number : (i j c : ℕ) → c < 4 → InstAlike i j → nat_eq i c ≡ nat_eq j c
same-number i j c lt (inl e) = ap (λ (k : ℕ). nat_eq k c) e
same-number i j c lt (inr m) =
    let a = m.0 in
    let b = m.1 in
    other-number i c (λ e. omega (arith, lt, a, e)) ∙ sym (other-number j c (λ e. omega (arith, lt, b, e)))

same-bare : (i j : ℕ) → InstAlike i j → bare_inst i ≡ bare_inst j
same-bare i j a = ap (λ (t : Bool). cond (not t) 1 0) (same-number i j 0 (omega arith) a)

pub same-bound : (i j : ℕ) → InstAlike i j → is_bound i ≡ is_bound j
same-bound i j a = ap not (same-number i j 0 (omega arith) a)

pub each-bare : (is js : List ℕ) → EachAlike is js → map bare_inst is ≡ map bare_inst js
each-bare [] [] a = refl
each-bare [] (j ∷ js) a = absurd a
each-bare (i ∷ is) [] a = absurd a
each-bare (i ∷ is) (j ∷ js) a = ap₂ (λ (x : ℕ) (xs : List ℕ). x ∷ xs) (same-bare i j a.0) (each-bare is js a.1)

same-mode : (i j l k a b : ℕ) → a < 4 → b < 4 → InstAlike i j → InstAlike l k → nat_eq i a && nat_eq l b ≡ nat_eq j a && nat_eq k b
same-mode i j l k a b la lb x y = ap₂ (λ (p q : Bool). p && q) (same-number i j a la x) (same-number l k b lb y)

-- whether a procedure takes states of io as `main` does
pub same-states : (is js ls ms : List ℕ) → EachAlike is js → EachAlike ls ms → takes_states (zipped is ls) ≡ takes_states (zipped js ms)
same-states [] [] ls ms a b = refl
same-states [] (j ∷ js) ls ms a b = absurd a
same-states (i ∷ is) [] ls ms a b = absurd a
same-states (i ∷ is) (j ∷ js) [] [] a b = refl
same-states (i ∷ is) (j ∷ js) [] (m ∷ ms) a b = absurd b
same-states (i ∷ is) (j ∷ js) (l ∷ ls) [] a b = absurd b
same-states (i ∷ []) (j ∷ []) (l ∷ ls) (m ∷ ms) a b = refl
same-states (i ∷ []) (j ∷ k ∷ js) (l ∷ ls) (m ∷ ms) a b = absurd a.1
same-states (i ∷ h ∷ is) (j ∷ []) (l ∷ ls) (m ∷ ms) a b = absurd a.1
same-states (i ∷ h ∷ is) (j ∷ k ∷ js) (l ∷ []) (m ∷ []) a b = refl
same-states (i ∷ h ∷ is) (j ∷ k ∷ js) (l ∷ []) (m ∷ n ∷ ms) a b = absurd b.1
same-states (i ∷ h ∷ is) (j ∷ k ∷ js) (l ∷ g ∷ ls) (m ∷ []) a b = absurd b.1
same-states (i ∷ h ∷ is) (j ∷ k ∷ js) (l ∷ g ∷ ls) (m ∷ n ∷ ms) a b = rest is js ls ms a.1.1 b.1.1
  where
    both : (is_mode (i, l) di_mode && is_mode (h, g) uo_mode) ≡ (is_mode (j, m) di_mode && is_mode (k, n) uo_mode)
    both = ap₂ (λ (p q : Bool). p && q) (same-mode i j l m 2 3 (omega arith) (omega arith) a.0 b.0) (same-mode h k g n 0 2 (omega arith) (omega arith) a.1.0 b.1.0)

    rest : (xs ys us vs : List ℕ) → EachAlike xs ys → EachAlike us vs → takes_states ((i, l) ∷ (h, g) ∷ zipped xs us) ≡ takes_states ((j, m) ∷ (k, n) ∷ zipped ys vs)
    rest [] [] us vs p q = both
    rest [] (y ∷ ys) us vs p q = absurd p
    rest (x ∷ xs) [] us vs p q = absurd p
    rest (x ∷ xs) (y ∷ ys) [] [] p q = both
    rest (x ∷ xs) (y ∷ ys) [] (v ∷ vs) p q = absurd q
    rest (x ∷ xs) (y ∷ ys) (u ∷ us) [] p q = absurd q
    rest (x ∷ xs) (y ∷ ys) (u ∷ us) (v ∷ vs) p q = refl

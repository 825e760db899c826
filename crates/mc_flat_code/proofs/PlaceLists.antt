-- Lists of places, and the last element of a list.
use Rattle.std.proofs.Common.{◌≡◌, ℕ, ◌≤◌, ◌+◌, ◌-◌, sym, ap, ◌∙◌, List, [], ◌∷◌, ◌++◌, length, take, get_or, arith}
use Rattle.std.proofs.Math.Seq.{take-length}
use Rattle.std.proofs.lemmas.List.{take_more}
use Rattle.mc_flat_code.specs.Running.{EachBelow}

pub below_both : (n : ℕ) (xs ys : List ℕ) → EachBelow n xs → EachBelow n ys → EachBelow n (xs ++ ys)
below_both n [] ys p q = q
below_both n (x ∷ xs) ys p q = (p.0, below_both n xs ys p.1 q)

pub below_front : (n : ℕ) (xs ys : List ℕ) → EachBelow n (xs ++ ys) → EachBelow n xs
below_front n [] ys p = tt
below_front n (x ∷ xs) ys p = (p.0, below_front n xs ys p.1)

pub below_back : (n : ℕ) (xs ys : List ℕ) → EachBelow n (xs ++ ys) → EachBelow n ys
below_back n [] ys p = p
below_back n (x ∷ xs) ys p = below_back n xs ys p.1

pub below_more : (n m : ℕ) → n ≤ m → (xs : List ℕ) → EachBelow n xs → EachBelow m xs
below_more n m h [] p = tt
below_more n m h (x ∷ xs) p = (omega (arith, p.0), below_more n m h xs p.1)

-- a list by its last element
pub by_last : {A : Type 0} (xs : List A) (d : A) → 1 ≤ length xs → xs ≡ take (length xs - 1) xs ++ get_or xs (length xs - 1) d ∷ []
by_last xs d h =
    let one : length xs - 1 + 1 ≡ length xs = omega arith in
    sym (take-length xs) ∙ ap (λ n. take n xs) (sym one) ∙ take_more xs (length xs - 1) d (omega arith)

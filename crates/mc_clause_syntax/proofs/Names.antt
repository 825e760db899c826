-- Names that are added one after another.
use Rattle.std.proofs.Common.{◌≡◌, ℕ, List, [], ◌∷◌, ◌++◌, ap, refl, append_assoc, Bor}
use Rattle.std.proofs.lemmas.List.{append-nil}
use Rattle.mc_clause_syntax.specs.States.{names_of}

pub append_none : (xs : List (List ℕ)) → xs ++ [] ≡ xs
append_none = append-nil

pub one_pushed : (xs : List (Bor (List ℕ))) (x : Bor (List ℕ)) → names_of (xs ++ x ∷ []) ≡ names_of xs ++ x.now ∷ []
one_pushed [] x = refl
one_pushed (y ∷ xs) x = ap (λ ys. y.now ∷ ys) (one_pushed xs x)

pub appended : (xs ys zs : List (List ℕ)) → (xs ++ ys) ++ zs ≡ xs ++ (ys ++ zs)
appended = append_assoc

-- what adds names at the end
pub ruleset adding = (append_none, one_pushed, appended)

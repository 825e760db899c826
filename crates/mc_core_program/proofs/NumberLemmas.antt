-- Clauses by the numbers of their predicates, before and after they are as they run.
use Rattle.std.proofs.Common.{◌≡◌, ◌<◌, ℕ, zero, suc, ◌+◌, Bool, true, false, nat_eq, List, [], ◌∷◌, map, length, get_or, if◌then◌else◌, refl, sym, ap, ap₂, ◌∙◌, subst, arith}
use Rattle.std.specs.Prelude.{Option}
use mathlib.Core.Path.{fun_ext}
use Rattle.mc_program.specs.Programs.{TypeTerm}
use Rattle.mc_program.specs.declared.program.Resolved.{Resolved}
use Rattle.mc_accepted.specs.NormalTypes.{TypedClause}
use Rattle.mc_names.specs.Linked.{Defined, Linked}
use Rattle.mc_goals.specs.Resolved.{typed_clause}
use Rattle.mc_core_program.specs.Whole.{of_number, whole_clause}
use Rattle.mc_core_program.specs.Wholes.{numbered_clause, final_definitions, clauses_of, clauses_from}
use Rattle.mc_core_program.specs.code.Rows.{whole_numbered}

either_way : {A B : Type 0} (t : Bool) (f : A → B) (x : A) (xs : List A) (ys : List B) → ys ≡ map f xs → (if t then f x ∷ ys else ys) ≡ map f (if t then x ∷ xs else xs)
either_way true f x xs ys e = ap (λ zs. f x ∷ zs) e
either_way false f x xs ys e = e

-- what has a number is made to something else with the same number
numbers_stay : {A B : Type 0} (f : A → B) (p : ℕ) (xs : List (ℕ × A)) → of_number p (map (λ q. (q.0, f q.1)) xs) ≡ map f (of_number p xs)
numbers_stay f p [] = refl
numbers_stay f p ((q, a) ∷ rest) =
    either_way (nat_eq q p) f a (of_number p rest) (of_number p (map (λ r. (r.0, f r.1)) rest))
    (numbers_stay f p rest)

-- a row of clauses as they run has those of its number
pub row_of :
    (D : ℕ → Option TypeTerm) (p : ℕ) (made clauses : List (ℕ × Resolved)) (row : List Resolved)
    → map numbered_clause made ≡ map (whole_numbered D) (map numbered_clause clauses)
    → row ≡ of_number p made
    → map typed_clause row ≡ map (whole_clause D) (of_number p (map numbered_clause clauses))
row_of D p made clauses row all own =
    ap (map typed_clause) own
    ∙ sym (numbers_stay typed_clause p made)
    ∙ ap (of_number p) all
    ∙ numbers_stay (whole_clause D) p (map numbered_clause clauses)

pub same_definitions : (H E : ℕ → Option TypeTerm) → ((u : ℕ) → H u ≡ E u) → H ≡ E
same_definitions H E each = fun_ext each

-- so rows are those of predicates from a number on
pub rows_from :
    (l : Linked) (clauses : List (ℕ × TypedClause)) (n : ℕ) (ds : List Defined)
    (rows : List (List Resolved))
    → length rows ≡ length ds
    → ((p : ℕ) → p < length rows → map typed_clause (get_or rows p []) ≡ clauses_of l clauses (n + p))
    → map (map typed_clause) rows ≡ clauses_from l clauses n ds
rows_from l clauses n [] [] same each = refl
rows_from l clauses n [] (r ∷ rs) same each = absurd (omega (arith, same))
rows_from l clauses n (d ∷ ds) [] same each = absurd (omega (arith, same))
rows_from l clauses n (d ∷ ds) (r ∷ rs) same each =
    let first : map typed_clause r ≡ clauses_of l clauses n = each zero (omega arith) ∙ ap (clauses_of l clauses) (let z : n + zero ≡ n = omega arith in z) in
    let fewer : length rs ≡ length ds = omega (arith, same) in
    let later : (p : ℕ) → p < length rs → map typed_clause (get_or rs p []) ≡ clauses_of l clauses (suc n + p) =
    λ p less. each (suc p) (omega (arith, less)) ∙ ap (clauses_of l clauses) (let z : n + suc p ≡ suc n + p = omega arith in z)
    in
    ap₂ (λ a b. a ∷ b) first (rows_from l clauses (suc n) ds rs fewer later)

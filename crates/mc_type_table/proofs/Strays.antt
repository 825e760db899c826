-- The first stray variable, step by step.
use Rattle.std.proofs.Common.{◌≡◌, ℕ, map, ◌+◌, ◌<◌, Bool, true, false, List, [], ◌∷◌, ◌++◌, length, get_or, drop, refl, sym, ap, ◌∙◌}
use Rattle.std.specs.Prelude.{Option, Some, None, codes}
use Rattle.std.specs.Option.{option_or}
use Rattle.std.specs.Set.{is_member}
use Rattle.std.specs.Str.{bytes_eq}
use Rattle.std.proofs.lemmas.List.{at_drop_more}
use Rattle.std.proofs.lemmas.Slice.Eq.{bytes_eq-Decides}
use Rattle.mc_term_data.specs.Plain.{PlainTerm, plain_term, term_list}
use Rattle.mc_term_data.specs.declared.term.Term.{Term}
use Rattle.mc_decl_syntax.specs.Terms.{with_name}
use Rattle.mc_type_table.specs.Rules.{constructor_fields, union_fields, stray, first_of}

or_more :
    {A : Type 0} (x y z : Option A) → option_or x (option_or y z) ≡ option_or (option_or x y) z
or_more (Some a) y z = refl
or_more None y z = refl

-- what is stray in types is so in the first of them, or in the others
pub first_more :
    (ps : List (List ℕ)) (xs ys : List PlainTerm)
    → first_of ps (xs ++ ys) ≡ option_or (first_of ps xs) (first_of ps ys)
first_more ps [] ys = refl
first_more ps (x ∷ xs) ys =
    ap (option_or (stray ps x)) (first_more ps xs ys)
    ∙ or_more (stray ps x) (first_of ps xs) (first_of ps ys)

false_by : (b : Bool) → (b ≡ true → ⊥) → b ≡ false
false_by true h = absurd (h refl)
false_by false h = refl

pub among_here :
    (q y : List ℕ) (xs : List (List ℕ)) (i : ℕ)
    → i < length xs → y ≡ get_or xs i y → y ≡ q → is_member bytes_eq (drop i xs) q ≡ true
among_here q y xs i below is same =
    let found : bytes_eq q (get_or xs i y) ≡ true =
    (bytes_eq-Decides q (get_or xs i y)).1 (sym same ∙ is)
    in
    at_drop_more (λ zs. is_member bytes_eq zs q) xs i y below ∙ rw found refl

pub among_later :
    (q y : List ℕ) (xs : List (List ℕ)) (i : ℕ)
    → i < length xs → y ≡ get_or xs i y → (y ≡ q → ⊥)
    → is_member bytes_eq (drop i xs) q ≡ is_member bytes_eq (drop (i + 1) xs) q
among_later q y xs i below is other =
    let missed : bytes_eq q (get_or xs i y) ≡ false =
    false_by (bytes_eq q (get_or xs i y))
    (λ e. other (is ∙ sym ((bytes_eq-Decides q (get_or xs i y)).0 e)))
    in
    at_drop_more (λ zs. is_member bytes_eq zs q) xs i y below ∙ rw missed refl

pub unnamed :
    (x : Option (List ℕ)) (rest : List (List ℕ)) → x ≡ None → with_name x rest ≡ rest
unnamed x rest none = rw none refl

-- a `_` names nothing, and any other name is one
pub nameless :
    (y : List ℕ) (rest : List (List ℕ)) → y ≡ codes "_" → with_name (Some y) rest ≡ rest
nameless y rest same =
    let found : bytes_eq y (codes "_") ≡ true = (bytes_eq-Decides y (codes "_")).1 same in
    rw found refl

pub other_name :
    (y : List ℕ) (rest : List (List ℕ))
    → (y ≡ codes "_" → ⊥) → with_name (Some y) rest ≡ y ∷ rest
other_name y rest other =
    let missed : bytes_eq y (codes "_") ≡ false =
    false_by (bytes_eq y (codes "_")) (λ e. other ((bytes_eq-Decides y (codes "_")).0 e))
    in
    rw missed refl

or_none : {A : Type 0} (x : Option A) → option_or x None ≡ x
or_none (Some a) = refl
or_none None = refl

pub cell_first :
    (ps : List (List ℕ)) (xs : List PlainTerm) (x : PlainTerm) (y : List ℕ)
    → Some y ≡ first_of ps xs → Some y ≡ first_of ps (xs ++ x ∷ [])
cell_first ps xs x y found =
    sym
    (first_more ps xs (x ∷ [])
    ∙ ap (λ o. option_or o (option_or (stray ps x) None)) (sym found))

pub cell_later :
    (ps : List (List ℕ)) (xs : List PlainTerm) (x : PlainTerm)
    → None ≡ first_of ps xs → stray ps x ≡ first_of ps (xs ++ x ∷ [])
cell_later ps xs x none =
    sym
    (first_more ps xs (x ∷ [])
    ∙ ap (λ o. option_or o (option_or (stray ps x) None)) (sym none)
    ∙ or_none (stray ps x))

-- what is stray in constructors is so in the first of them, or in the others
pub union_step :
    (ps : List (List ℕ)) (ts : List Term) (i : ℕ) (t : Term) (o : Option (List ℕ))
    → i < length ts → t ≡ get_or ts i t → o ≡ first_of ps (constructor_fields (plain_term t))
    → first_of ps (union_fields (term_list (map plain_term (drop i ts))))
    ≡ option_or o (first_of ps (union_fields (term_list (map plain_term (drop (i + 1) ts)))))
union_step ps ts i t o below is same =
    let rest = union_fields (term_list (map plain_term (drop (i + 1) ts))) in
    at_drop_more (λ us. first_of ps (union_fields (term_list (map plain_term us)))) ts i t below
    ∙ ap
    (λ (x : Term). first_of ps (constructor_fields (plain_term x) ++ rest))
    (sym is)
    ∙ first_more ps (constructor_fields (plain_term t)) rest
    ∙ ap (λ x. option_or x (first_of ps rest)) (sym same)

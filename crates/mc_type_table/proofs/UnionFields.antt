-- The types of constructors' arguments, step by step.
use Rattle.std.proofs.Common.{◌≡◌, ℕ, ◌+◌, ◌<◌, List, [], ◌∷◌, ◌++◌, map, length, get_or, drop, sym, ap, ◌∙◌, append_assoc}
use Rattle.std.proofs.lemmas.List.{at_drop_more}
use Rattle.mc_term_data.specs.Plain.{PlainTerm, plain_term, term_list}
use Rattle.mc_term_data.specs.declared.term.Term.{Term}
use Rattle.mc_type_table.specs.Rules.{field, fields, constructor_fields, union_fields}

pub fields_more :
    (xs ys : List PlainTerm) (ts : List Term) (i : ℕ) (t : Term) (x : PlainTerm)
    → i < length ts → t ≡ get_or ts i t → x ≡ field (plain_term t) → ys ≡ xs ++ x ∷ []
    → ys ++ fields (term_list (map plain_term (drop (i + 1) ts)))
    ≡ xs ++ fields (term_list (map plain_term (drop i ts)))
fields_more xs ys ts i t x below is same more =
    let rest = fields (term_list (map plain_term (drop (i + 1) ts))) in
    ap (λ zs. zs ++ rest) more
    ∙ append_assoc xs (x ∷ []) rest
    ∙ ap (λ y. xs ++ y ∷ rest) same
    ∙ ap (λ (u : Term). xs ++ field (plain_term u) ∷ rest) is
    ∙ sym (at_drop_more (λ us. xs ++ fields (term_list (map plain_term us))) ts i t below)

pub union_more :
    (xs ys : List PlainTerm) (ts : List Term) (i : ℕ) (t : Term)
    → i < length ts → t ≡ get_or ts i t
    → ys ≡ xs ++ constructor_fields (plain_term t)
    → ys ++ union_fields (term_list (map plain_term (drop (i + 1) ts)))
    ≡ xs ++ union_fields (term_list (map plain_term (drop i ts)))
union_more xs ys ts i t below is more =
    let rest = union_fields (term_list (map plain_term (drop (i + 1) ts))) in
    ap (λ zs. zs ++ rest) more
    ∙ append_assoc xs (constructor_fields (plain_term t)) rest
    ∙ ap (λ (u : Term). xs ++ (constructor_fields (plain_term u) ++ rest)) is
    ∙ sym (at_drop_more (λ us. xs ++ union_fields (term_list (map plain_term us))) ts i t below)

-- The types that stand in types, step by step.
use Rattle.std.proofs.Common.{◌≡◌, ℕ, ◌+◌, ◌<◌, Bool, true, false, ◌&&◌, ◌||◌, List, ◌++◌, map, length, get_or, drop, refl, sym, ap, ◌∙◌, append_assoc}
use Rattle.std.proofs.lemmas.List.{at_drop_more}
use Rattle.mc_program.specs.PlainPrograms.{plain_type, type_terms}
use Rattle.mc_program.specs.declared.ty.Ty.{Ty}
use Rattle.mc_type_table.specs.Rules.{types_in, all_types_in, is_closed, are_closed, is_variable, are_plain}
use Rattle.mc_type_table.specs.code.Grown.{grown_in, all_grown_in}

pub types_more :
    (xs : List ℕ) (ts : List Ty) (i : ℕ) (t : Ty)
    → i < length ts → t ≡ get_or ts i t
    → xs ++ all_types_in (type_terms (map plain_type (drop i ts)))
    ≡ (xs ++ types_in (plain_type t)) ++ all_types_in (type_terms (map plain_type (drop (i + 1) ts)))
types_more xs ts i t below is =
    let rest = all_types_in (type_terms (map plain_type (drop (i + 1) ts))) in
    at_drop_more (λ us. xs ++ all_types_in (type_terms (map plain_type us))) ts i t below
    ∙ ap (λ (u : Ty). xs ++ (types_in (plain_type u) ++ rest)) (sym is)
    ∙ sym (append_assoc xs (types_in (plain_type t)) rest)

pub grown_more :
    (xs : List ℕ) (ts : List Ty) (i : ℕ) (t : Ty)
    → i < length ts → t ≡ get_or ts i t
    → xs ++ all_grown_in (type_terms (map plain_type (drop i ts)))
    ≡ (xs ++ grown_in (plain_type t)) ++ all_grown_in (type_terms (map plain_type (drop (i + 1) ts)))
grown_more xs ts i t below is =
    let rest = all_grown_in (type_terms (map plain_type (drop (i + 1) ts))) in
    at_drop_more (λ us. xs ++ all_grown_in (type_terms (map plain_type us))) ts i t below
    ∙ ap (λ (u : Ty). xs ++ (grown_in (plain_type u) ++ rest)) (sym is)
    ∙ sym (append_assoc xs (grown_in (plain_type t)) rest)

and_more : (a b c : Bool) → (a && (b && c)) ≡ ((a && b) && c)
and_more true b c = refl
and_more false b c = refl

pub closed_more :
    (b c : Bool) (ts : List Ty) (i : ℕ) (t : Ty)
    → i < length ts → t ≡ get_or ts i t → c ≡ is_closed (plain_type t)
    → (b && are_closed (type_terms (map plain_type (drop i ts))))
    ≡ ((b && c) && are_closed (type_terms (map plain_type (drop (i + 1) ts))))
closed_more b c ts i t below is same =
    let rest = are_closed (type_terms (map plain_type (drop (i + 1) ts))) in
    at_drop_more (λ us. b && are_closed (type_terms (map plain_type us))) ts i t below
    ∙ ap (λ (u : Ty). b && (is_closed (plain_type u) && rest)) (sym is)
    ∙ ap (λ (d : Bool). b && (d && rest)) (sym same)
    ∙ and_more b c rest

pub plain_more :
    (b c : Bool) (ts : List Ty) (i : ℕ) (t : Ty)
    → i < length ts → t ≡ get_or ts i t → c ≡ is_closed (plain_type t)
    → (b && are_plain (type_terms (map plain_type (drop i ts))))
    ≡ ((b && (is_variable (plain_type t) || c))
    && are_plain (type_terms (map plain_type (drop (i + 1) ts))))
plain_more b c ts i t below is same =
    let rest = are_plain (type_terms (map plain_type (drop (i + 1) ts))) in
    at_drop_more (λ us. b && are_plain (type_terms (map plain_type us))) ts i t below
    ∙ ap
    (λ (u : Ty). b && ((is_variable (plain_type u) || is_closed (plain_type u)) && rest))
    (sym is)
    ∙ ap (λ (d : Bool). b && ((is_variable (plain_type t) || d) && rest)) (sym same)
    ∙ and_more b (is_variable (plain_type t) || c) rest

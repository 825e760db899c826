-- The types of terms in a row.
use Rattle.std.proofs.Common.{◌≡◌, ℕ, List, [], ◌∷◌, map, length, refl, sym, ap, ap₂, ◌∙◌}
use Rattle.std.proofs.lemmas.List.{length-map}
use Rattle.mc_term_data.specs.Names.{count}
use Rattle.mc_names.specs.declared.names.Named.{Named}
use Rattle.mc_term_data.specs.Plain.{term_list, plain_term}
use Rattle.mc_term_data.specs.declared.term.Term.{Term}
use Rattle.mc_program.specs.Programs.{type_then}
use Rattle.mc_program.specs.PlainPrograms.{plain_type, type_terms}
use Rattle.mc_program.specs.declared.ty.Ty.{Ty}
use Rattle.mc_names.specs.Linked.{Linked, plain_named}
use Rattle.mc_type_table.specs.Written.{named_type, written_type, written_types}
use Rattle.mc_names.proofs.Places.{count_is_length}

pub written_each :
    (l : Linked) (own : ℕ) (vs : List (List ℕ)) (ts : List Term)
    → type_terms (map (λ t. written_type l own vs (plain_term t)) ts)
    ≡ written_types l own vs (term_list (map plain_term ts))
written_each l own vs [] = refl
written_each l own vs (t ∷ ts) =
    ap (type_then (written_type l own vs (plain_term t))) (written_each l own vs ts)

pub written_over :
    (l : Linked) (own : ℕ) (vs w : List (List ℕ)) (ts : List Term) (types : List Ty)
    → map plain_type types ≡ map (λ t. written_type l own vs (plain_term t)) ts
    → named_type l own w (length types) (type_terms (map plain_type types))
    ≡ named_type l own w (count (term_list (map plain_term ts)))
    (written_types l own vs (term_list (map plain_term ts)))
written_over l own vs w ts types same =
    let rows = ap type_terms same ∙ written_each l own vs ts in
    let lengths =
    sym (length-map types plain_type)
    ∙ ap length same
    ∙ length-map ts (λ t. written_type l own vs (plain_term t))
    ∙ sym (count_is_length ts)
    in
    ap₂ (λ n us. named_type l own w n us) lengths rows

pub no_type_length :
    (types : List Named) → length (map plain_named types) ≡ length types
no_type_length types = length-map types plain_named

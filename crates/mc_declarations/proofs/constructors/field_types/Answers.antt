use Rattle.std.proofs.Common.{◌∙◌, List, map, Bor, ap, sym}
use Rattle.std.proofs.lemmas.Simd.{map-map}
use Rattle.mc_term_data.specs.Plain.{plain_term}
use Rattle.mc_term_data.specs.declared.term.Term.{Term}
use Rattle.mc_names.specs.Linked.{plain_names}
use Rattle.mc_type_table.specs.Held.{held}
use Rattle.mc_declarations.specs.code.With.{field_with}
use Rattle.mc_declarations.proofs.constructors.field_types.Goals as goal

pub returns : goal.returns
returns c =
    let union = c.args.union.now in
    let type_of =
    field_with (plain_names c.args.at.now.names.now) (held c.args.at.now.definitions.now) union.own
    union.parameters.now
    in
    c.in_ok-types.ensures
    ∙ sym (map-map type_of (λ (t : Bor Term). plain_term t.now) c.as_slice.result.now)
    ∙ ap
    (λ (ts : List (Bor Term)). map type_of (map (λ (t : Bor Term). plain_term t.now) ts))
    c.as_slice.ensures.value
    ∙ ap (map type_of) c.in_ok-fields.ensures

use Rattle.std.proofs.Common.{◌≡◌, map, take}
use Rattle.mc_term_data.specs.Plain.{plain_term}
use Rattle.mc_program.specs.PlainPrograms.{plain_type}
use Rattle.mc_names.specs.Linked.{plain_names}
use Rattle.mc_type_table.specs.Held.{held}
use Rattle.mc_declarations.specs.code.With.{field_with}
use Rattle.mc_declarations.proofs.constructors.types_of_fields.Given as goal

abbrev pub invariant-loop-field : goal.invariant-loop-field
invariant-loop-field l =
    map plain_type l.types.items
    ≡ map
    (λ t.
    field_with (plain_names l.at.names.now) (held l.at.definitions.now) l.union.own
    l.union.parameters.now (plain_term t.now))
    (take l.field-index l.fields)

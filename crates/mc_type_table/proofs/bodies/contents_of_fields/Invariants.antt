use Rattle.std.proofs.Common.{◌≡◌, ◌++◌, map, drop}
use Rattle.mc_term_data.specs.Plain.{plain_term}
use Rattle.mc_names.specs.Linked.{plain_names}
use Rattle.mc_type_table.specs.Written.{written_type}
use Rattle.mc_type_table.specs.Expanded.{replaced}
use Rattle.mc_type_table.specs.Rules.{types_in_all}
use Rattle.mc_type_table.specs.Held.{held}
use Rattle.mc_type_table.specs.code.Grown.{grown_in_all}
use Rattle.mc_type_table.proofs.bodies.contents_of_fields.Given as goal

abbrev pub invariant-loop-field : goal.invariant-loop-field
invariant-loop-field l =
    (l.contents.types.items
    ++ types_in_all
    (map
    (λ t.
    replaced (held l.definitions)
    (written_type (plain_names l.names) l.own l.variables (plain_term t.now)))
    (drop l.field-index l.fields))
    ≡ types_in_all
    (map
    (λ t.
    replaced (held l.definitions)
    (written_type (plain_names l.names) l.own l.variables (plain_term t.now)))
    l.fields))
    × (l.contents.grown.items
    ++ grown_in_all
    (map
    (λ t.
    replaced (held l.definitions)
    (written_type (plain_names l.names) l.own l.variables (plain_term t.now)))
    (drop l.field-index l.fields))
    ≡ grown_in_all
    (map
    (λ t.
    replaced (held l.definitions)
    (written_type (plain_names l.names) l.own l.variables (plain_term t.now)))
    l.fields))

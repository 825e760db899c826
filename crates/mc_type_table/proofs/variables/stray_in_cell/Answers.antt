use Rattle.std.proofs.Common.{map, ap, ◌∙◌}
use Rattle.mc_term_data.specs.Plain.{plain_term, term_list}
use Rattle.mc_type_table.specs.Rules.{field, fields, stray}
use Rattle.mc_type_table.proofs.Strays.{cell_first, cell_later}
use Rattle.mc_type_table.proofs.variables.stray_in_cell.Goals as goal

pub returns-in-Some : goal.returns-in-Some
returns-in-Some c =
    cell_first c.args.parameters.now (fields (term_list (map plain_term c.args.items.now)))
    (field (plain_term c.args.tail.now)) c.in-Some.name.now c.in-Some.ensures

pub returns-in-None : goal.returns-in-None
returns-in-None c =
    c.stray.ensures
    ∙ ap (stray c.args.parameters.now) c.field-last.ensures
    ∙ cell_later c.args.parameters.now (fields (term_list (map plain_term c.args.items.now)))
    (field (plain_term c.args.tail.now)) c.in-None.ensures

use Rattle.std.proofs.Common.{◌≡◌, length, map, ◌∙◌}
use Rattle.std.proofs.lemmas.Result.{IfOk-weaker}
use Rattle.mc_term_data.specs.Plain.{plain_term, term_list}
use Rattle.mc_term_data.specs.Names.{count}
use Rattle.mc_program.specs.PlainPrograms.{plain_type, type_terms}
use Rattle.mc_names.specs.Linked.{plain_names}
use Rattle.mc_type_table.specs.Written.{named_type, written_types}
use Rattle.mc_type_table.proofs.Rows.{written_over}
use Rattle.mc_type_table.proofs.written.+written.Goals as goal

pub type_over-returns : goal.type_over-returns
type_over-returns t c =
    let l = plain_names c.args.names.now in
    IfOk-weaker c.named_type.result
    (λ r.
    plain_type r
    ≡ named_type l c.args.own c.args.name.now (length c.in_ok-types.types)
    (type_terms (map plain_type c.in_ok-types.types)))
    (λ r.
    plain_type r
    ≡ named_type l c.args.own c.args.name.now
    (count (term_list (map plain_term c.args.arguments.now)))
    (written_types l c.args.own c.args.variables.now
    (term_list (map plain_term c.args.arguments.now))))
    (λ r is.
    is
    ∙ written_over l c.args.own c.args.variables.now c.args.name.now c.args.arguments.now
    c.in_ok-types.types c.in_ok-types.ensures)
    c.named_type.ensures

use Rattle.std.proofs.Common.{◌≡◌, map, ◌∙◌}
use Rattle.std.proofs.lemmas.Result.{IfOk-weaker}
use Rattle.mc_program.specs.Programs.{union_type}
use Rattle.mc_program.specs.PlainPrograms.{plain_type, type_terms}
use Rattle.mc_type_table.specs.Expanded.{replaced, defined_as}
use Rattle.mc_type_table.specs.Held.{held}
use Rattle.mc_type_table.proofs.Replacing.{replaced_over}
use Rattle.mc_type_table.proofs.replaced.+replaced.Goals as goal

pub union_replaced-returns : goal.union_replaced-returns
union_replaced-returns t c =
    let D = held c.args.definitions.now in
    IfOk-weaker c.defined_as.result
    (λ r.
    plain_type r
    ≡ defined_as c.args.number (type_terms (map plain_type c.in_ok-arguments.arguments))
    (D c.args.number))
    (λ r.
    plain_type r
    ≡ replaced D (union_type c.args.number (type_terms (map plain_type c.args.arguments.now))))
    (λ r is.
    is
    ∙ replaced_over c.args.definitions.now c.args.number c.args.arguments.now
    c.in_ok-arguments.arguments c.in_ok-arguments.ensures)
    c.defined_as.ensures

use Rattle.std.proofs.Common.{sym, ap, ◌∙◌}
use Rattle.std.specs.Option.{option_map}
use Rattle.mc_names.specs.Linked.{plain_named}
use Rattle.mc_type_table.proofs.Judging.{irregular_first}
use Rattle.mc_type_table.proofs.faults.type_fault.Goals as goal

pub returns-then-is_irregular : goal.returns-then-is_irregular
returns-then-is_irregular c l e b =
    irregular_first l c.args.number (plain_named c.args.named.now) c.in_ok-what-3.what
    (ap (option_map (λ w. w.now)) (sym c.in_default.is) ∙ c.in_ok-name.ensures)
    (sym c.if-is_cyclic.false ∙ c.is_cyclic.ensures l e)
    (sym c.if-is_irregular.true ∙ c.is_irregular.ensures l b)
    c.in_ok-what-3.ensures

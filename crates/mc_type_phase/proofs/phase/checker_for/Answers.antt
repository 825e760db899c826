use Rattle.mc_names.specs.Linked.{plain_names}
use Rattle.mc_type_phase.proofs.Moved.{checks_moved, checks_at_hand}
use Rattle.mc_type_phase.proofs.phase.checker_for.Goals as goal

pub returns-then-see_alike-clause-checks : goal.returns-then-see_alike-clause-checks
returns-then-see_alike-clause-checks c =
    let l = plain_names c.args.names.now in
    checks_moved l c.in-Some.checker c.args.own (c.see_alike.ensures c.if-see_alike.true)
    (checks_at_hand l c.args.at_hand c.in-Some.checker c.requires c.in-Some.is)

use Rattle.mc_modes.proofs.Judgements.{unmet-told}
use Rattle.mc_modes.proofs.arranging.unmet.Goals as goal

pub returns-then-reachable-clause-unmet : goal.returns-then-reachable-clause-unmet
returns-then-reachable-clause-unmet c =
    unmet-told c.args.head.now c.args.last.now c.args.reachable c.args.procs.now c.unmet.new.procs c.args.state.now c.unmet.result c.if-reachable.true
    c.unmet.ensures.unmet c.unmet.ensures.stepped

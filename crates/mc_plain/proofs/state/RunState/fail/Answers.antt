use Rattle.mc_plain.proofs.Working.{steps_to, end_gives}
use Rattle.mc_plain.proofs.state.RunState.fail.Goals as goal

pub returns-then-goes_on : goal.returns-then-goes_on
returns-then-goes_on c =
    steps_to c.args.t.now c.args.self.now c.fail.new.self (λ outcome head last. c.in_ok-goes_on.ensures.steps c.if-goes_on.true c.args.t.now.flat outcome head last c.args.self.now.heap) c.requires.setting c.requires.ready
    (c.in_ok-goes_on.ensures.held c.args.t.now.library.program.now c.args.self.now.heap c.requires.ready.held)

pub returns : goal.returns
returns c =
    let ends = end_gives c.args.t.now c.args.self.now c.fail.new.self (c.in_ok-goes_on.ensures.ends c.if-goes_on.false).0 ((c.in_ok-goes_on.ensures.ends c.if-goes_on.false).1 c.args.t.now.flat) c.requires.ready in
    (ends.0, ends.1, tt)

use Rattle.mc_plain.specs.code.RunState.{rest_in}
use Rattle.mc_plain.proofs.Waiting.{has_come, fed_later}
use Rattle.mc_plain.proofs.state.RunState.feed.Goals as goal

pub read_there-requires : goal.read_there-requires
read_there-requires c =
    (has_come c.args.t.now c.next.new.self (rest_in c.args.t.now c.args.self.now) c.requires.wants c.in_ok-next.field-0 c.in_ok-next.ensures.1 c.in_ok-next.ensures.2).0

pub returns-clause-fed : goal.returns-clause-fed
returns-clause-fed c =
    fed_later c.args.line.now (rest_in c.args.t.now c.args.self.now) (rest_in c.args.t.now c.read_there.new.self) (rest_in c.args.t.now c.next.new.self)
    (has_come c.args.t.now c.next.new.self (rest_in c.args.t.now c.args.self.now) c.requires.wants c.in_ok-next.field-0 c.in_ok-next.ensures.1 c.in_ok-next.ensures.2).1
    c.in_ok-read_there.ensures.fed

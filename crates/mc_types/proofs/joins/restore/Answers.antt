use Rattle.std.proofs.Common.{◌≤◌, length, ◌∙◌, arith}
use Rattle.mc_types.proofs.Noted.{undone_last, undone_past, take_front}
use Rattle.mc_types.proofs.joins.restore.Goals as goal

pub loop-g-preserved-then-change-len : goal.loop-g-preserved-then-change-len
loop-g-preserved-then-change-len c =
    let e = c.in-Some.ensures.items in
    let le : c.args.changes ≤ length c.pop.new.self.items = omega (arith, c.in-Some.ensures.len) in
    record {
      enough = le;
      front = take_front _ c.in-Some.change _ _ le e ∙ c.loop-g.invariant.front;
      rest = undone_last _ c.in-Some.change _ _ _ le e ∙ c.loop-g.invariant.rest;
    }

pub loop-g-preserved-else-change-len : goal.loop-g-preserved-else-change-len
loop-g-preserved-else-change-len c =
    let e = c.in-Some.ensures.items in
    let le : c.args.changes ≤ length c.pop.new.self.items = omega (arith, c.in-Some.ensures.len) in
    record {
      enough = le;
      front = take_front _ c.in-Some.change _ _ le e ∙ c.loop-g.invariant.front;
      rest = undone_past _ c.in-Some.change _ _ _ le e (omega arith) ∙ c.loop-g.invariant.rest;
    }

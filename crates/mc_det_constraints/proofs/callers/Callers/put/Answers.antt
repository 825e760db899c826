use Rattle.std.proofs.Common.{arith}
use Rattle.mc_det_constraints.proofs.Calling.{put_seen, put_viewed}
use Rattle.mc_det_constraints.proofs.callers.Callers.put.Goals as goal

pub returns : goal.returns
returns c =
    put_viewed c.args.p c.args.q _ _ _ c.self.view_is
    (put_seen c.self.inside.lists.items (λ v. v.items) c.args.p c.args.q c.index_mut.result.now c.put_last.new.list (omega arith) c.index_mut.ensures.value c.in_ok-put_last.ensures)

use Rattle.std.proofs.Common.{take}
use Rattle.mc_det_constraints.specs.code.Pending.{IsPending, PutAll}
use Rattle.mc_det_constraints.proofs.pending.Pending.put_all.Given as goal

abbrev pub invariant-loop-p : goal.invariant-loop-p
invariant-loop-p l =
    record {
      pending : IsPending l.self;
      put : PutAll (take l.p-index l.ps) l.fn.self.list.items l.self.list.items;
    }

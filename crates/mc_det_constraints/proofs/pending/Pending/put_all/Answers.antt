use Rattle.std.proofs.Common.{List, ℕ, take, sym, subst}
use Rattle.std.proofs.lemmas.List.{take_more}
use Rattle.mc_det_constraints.specs.code.Pending.{PutAll}
use Rattle.mc_det_constraints.proofs.Waiting.{none_put, one_put}
use Rattle.mc_det_constraints.proofs.pending.Pending.put_all.Goals as goal

pub loop-p-init : goal.loop-p-init
loop-p-init c = record { pending = c.requires; put = none_put c.args.self.now.list.items }

pub loop-p-preserved : goal.loop-p-preserved
loop-p-preserved c =
    record {
      pending = c.in_ok-put.ensures.pending;
      put =
          subst (λ (l : List ℕ). PutAll l c.args.self.now.list.items c.put.new.self.list.items)
          (sym (take_more c.args.ps.now c.loop-p.p-index _ c.loop-p-test.true))
          (one_put (take c.loop-p.p-index c.args.ps.now) c.args.self.now.list.items c.loop-p.self.list.items c.put.new.self.list.items _ c.loop-p.invariant.put c.in_ok-put.ensures.put);
    }

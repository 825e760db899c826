use Rattle.mc_procs.specs.Procedures.{PlainProcs}
use Rattle.mc_procs.proofs.Fits.{added_after}
use Rattle.mc_procs.proofs.procs.Procs.add.Goals as goal

pub invariant_of-self-2 : goal.invariant_of-self-2
invariant_of-self-2 c =
    let q : PlainProcs = record { program = c.self.inside.program; insts = c.self.inside.insts; preds = c.self.inside.preds; added = c.self.inside.added.items } in
    added_after q c.args.self.now c.args.p c.push.new.self.items c.self.view_is c.self.invariant
    c.requires.to_come c.requires.pred c.requires.fits c.in_ok-push.ensures.items

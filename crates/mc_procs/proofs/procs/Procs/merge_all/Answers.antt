use Rattle.mc_procs.specs.Procedures.{PlainProcs}
use Rattle.mc_procs.proofs.Fits.{insts_grew}
use Rattle.mc_procs.proofs.procs.Procs.merge_all.Goals as goal

pub invariant_of-self : goal.invariant_of-self
invariant_of-self c =
    let q : PlainProcs = record { program = c.self.inside.program; insts = c.self.inside.insts; preds = c.self.inside.preds; added = c.self.inside.added.items } in
    insts_grew q c.merge_all.new.self c.self.invariant c.merge_all.ensures.program
    c.merge_all.ensures.grown

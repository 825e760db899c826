use Rattle.mc_procs.specs.Procedures.{PlainProcs}
use Rattle.mc_procs.proofs.Fits.{replaced_after}
use Rattle.mc_procs.proofs.procs.Procs.replace.Goals as goal

pub invariant_of-self : goal.invariant_of-self
invariant_of-self c =
    let q : PlainProcs = record { program = c.self.inside.program; insts = c.self.inside.insts; preds = c.self.inside.preds; added = c.self.inside.added.items } in
    replaced_after q c.args.self.now c.args.p c.replace.new.dest c.args.k c.self.view_is
    c.self.invariant c.requires.there c.requires.pred c.requires.fits c.replace.ensures.after

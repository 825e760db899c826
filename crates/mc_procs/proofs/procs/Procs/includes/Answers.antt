use Rattle.std.proofs.Common.{subst, IfOk, IsTrue, ◌↔◌}
use Rattle.mc_program.specs.PlainPrograms.{plain_type}
use Rattle.mc_accepted.specs.Inclusion.{Included}
use Rattle.mc_procs.specs.Procedures.{PlainProcs, source_of, insts_of}
use Rattle.mc_procs.proofs.Fits.{insts_grew, same_graph}
use Rattle.mc_procs.proofs.procs.Procs.includes.Goals as goal

pub invariant_of-self : goal.invariant_of-self
invariant_of-self c =
    let q : PlainProcs = record { program = c.self.inside.program; insts = c.self.inside.insts; preds = c.self.inside.preds; added = c.self.inside.added.items } in
    insts_grew q c.includes.new.self c.self.invariant c.includes.ensures.program
    (same_graph (source_of q) q.insts c.includes.new.self c.includes.ensures.graph c.includes.ensures.count)

pub returns-clause-included : goal.returns-clause-included
returns-clause-included c =
    subst
    (λ (q : PlainProcs).
    IfOk c.includes.result
    (λ b. IsTrue b ↔ Included (source_of q) (insts_of q) c.args.i c.args.j (plain_type c.args.t.now)))
    c.self.view_is c.includes.ensures.included

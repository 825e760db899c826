use Rattle.std.proofs.Common.{subst, IfOk, IsTrue, ◌↔◌}
use Rattle.mc_program.specs.PlainPrograms.{plain_type}
use Rattle.mc_accepted.specs.Tidy.{Tidy}
use Rattle.mc_procs.specs.Procedures.{PlainProcs, source_of, insts_of}
use Rattle.mc_procs.proofs.Fits.{insts_grew, same_graph}
use Rattle.mc_procs.proofs.procs.Procs.is_tidy.Goals as goal

pub invariant_of-self : goal.invariant_of-self
invariant_of-self c =
    let q : PlainProcs = record { program = c.self.inside.program; insts = c.self.inside.insts; preds = c.self.inside.preds; added = c.self.inside.added.items } in
    insts_grew q c.is_tidy.new.self c.self.invariant c.is_tidy.ensures.program
    (same_graph (source_of q) q.insts c.is_tidy.new.self c.is_tidy.ensures.graph c.is_tidy.ensures.count)

pub returns-clause-tidy : goal.returns-clause-tidy
returns-clause-tidy c =
    subst
    (λ (q : PlainProcs).
    IfOk c.is_tidy.result
    (λ b. IsTrue b ↔ Tidy (source_of q) (insts_of q) c.args.i (plain_type c.args.t.now)))
    c.self.view_is c.is_tidy.ensures.tidy

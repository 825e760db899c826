use Rattle.std.proofs.Common.{◌≡◌, [], ◌∷◌, subst, IfOk, OnOk}
use Rattle.mc_program.specs.PlainPrograms.{plain_type}
use Rattle.mc_insts.specs.Graphs.{graph_of, count_of}
use Rattle.mc_insts.specs.Growing.{Grown}
use Rattle.mc_insts.specs.Merging.{StandsForAll, OneIncludesTheOther}
use Rattle.mc_procs.specs.Procedures.{PlainProcs, source_of, insts_of}
use Rattle.mc_procs.proofs.Fits.{insts_grew}
use Rattle.mc_procs.proofs.procs.Procs.merge.Goals as goal

pub invariant_of-self : goal.invariant_of-self
invariant_of-self c =
    let q : PlainProcs = record { program = c.self.inside.program; insts = c.self.inside.insts; preds = c.self.inside.preds; added = c.self.inside.added.items } in
    insts_grew q c.merge.new.self c.self.invariant c.merge.ensures.program c.merge.ensures.grown

pub returns-clause-merged : goal.returns-clause-merged
returns-clause-merged c =
    subst
    (λ (q : PlainProcs).
    IfOk c.merge.result
    (λ k.
    StandsForAll (source_of q) (graph_of c.merge.new.self) (c.args.i ∷ c.args.j ∷ []) k
    (plain_type c.args.t.now)))
    c.self.view_is c.merge.ensures.merged

pub returns-clause-kept : goal.returns-clause-kept
returns-clause-kept c =
    subst
    (λ (q : PlainProcs).
    OnOk c.merge.result
    (OneIncludesTheOther (source_of q) (insts_of q) c.args.i c.args.j (plain_type c.args.t.now)
    → count_of c.merge.new.self ≡ count_of q.insts))
    c.self.view_is c.merge.ensures.kept

pub returns-clause-grown : goal.returns-clause-grown
returns-clause-grown c =
    subst (λ (q : PlainProcs). Grown (source_of q) q.insts c.merge.new.self) c.self.view_is
    c.merge.ensures.grown

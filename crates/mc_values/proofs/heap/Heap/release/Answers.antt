use Rattle.std.proofs.Common.{ap, length, arith}
use Rattle.std.proofs.lemmas.List.{length-take}
use Rattle.mc_values.specs.Heap.{height}
use Rattle.mc_values.proofs.Grown.{shrunk, keeps, AreCells-shrunk}
use Rattle.mc_values.proofs.heap.Heap.release.Goals as goal

pub invariant_of-self : goal.invariant_of-self
invariant_of-self c = AreCells-shrunk _ _ _ c.self.invariant c.truncate.ensures.items

pub returns-clause-height : goal.returns-clause-height
unfolding height
returns-clause-height c =
    let e = ap length (shrunk _ _ _ _ c.self.view_is c.requires c.truncate.ensures.items) in
    let le = c.requires in
    omega (arith, length-take c.args.m c.args.self.now)

pub returns-clause-keeps : goal.returns-clause-keeps
unfolding height
returns-clause-keeps c = keeps _ _ _ c.requires (shrunk _ _ _ _ c.self.view_is c.requires c.truncate.ensures.items)

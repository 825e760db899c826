use Rattle.std.proofs.Common.{ap, length, rules, subst, sym}
use Rattle.mc_values.specs.code.Cells.{AreCells}
use Rattle.mc_values.proofs.CellLaws.{length-held_in}
use Rattle.mc_values.proofs.Grown.{grown, AreCells-grown, extends, stands}
use Rattle.mc_values.proofs.heap.Heap.push.Goals as goal

pub invariant_of-self : goal.invariant_of-self
invariant_of-self c = subst AreCells (sym (c.in_err-push.ensures {u = tt}).items) c.self.invariant

pub invariant_of-self-2 : goal.invariant_of-self-2
invariant_of-self-2 c = AreCells-grown _ _ _ _ c.self.invariant c.self.view_is c.requires (c.in_ok-push.ensures {u = tt}).items

pub returns-clause-ok : goal.returns-clause-ok
returns-clause-ok c =
    let e = ap length c.self.view_is in
    let h = length-held_in c.self.inside.cells.items in
    stands _ _ _ _ (grown _ _ _ _ c.self.view_is (c.in_ok-push.ensures {u = tt}).items) (search rules)

pub returns-clause-keeps : goal.returns-clause-keeps
returns-clause-keeps c = extends _ _ _ (grown _ _ _ _ c.self.view_is (c.in_ok-push.ensures {u = tt}).items)

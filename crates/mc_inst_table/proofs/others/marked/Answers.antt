use Rattle.std.proofs.Common.{◌+◌, ◌<◌, List, Bool, length, take, refl, sym, subst, arith}
use Rattle.mc_inst_table.specs.code.Others.{AreMarked}
use Rattle.mc_inst_table.proofs.Sizing.{marked_more}
use Rattle.mc_inst_table.proofs.others.marked.Goals as goal

pub loop-number-preserved : goal.loop-number-preserved
loop-number-preserved c =
    let k = c.loop-number.number-index in
    subst (λ (marks : List Bool). AreMarked marks (take (k + 1) c.args.numbers.now)) (sym c.set.ensures)
    (marked_more c.loop-number.marks c.args.numbers.now k _ c.loop-number.invariant c.loop-number-test.true refl
    (omega (arith, c.if-number-len.false, c.len.ensures)))

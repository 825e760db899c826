use Rattle.std.proofs.Common.{◌≡◌, ◌≤◌, ◌++◌, [], length, sym, ap, ◌∙◌, arith}
use Rattle.mc_inst_table.specs.code.Ends.{head_at}
use Rattle.mc_inst_table.proofs.Finding.{nothing_passed}
use Rattle.mc_inst_table.proofs.rings.+passed.Goals as goal

pub put_passed_at-returns-then-place-insts : goal.put_passed_at-returns-then-place-insts
put_passed_at-returns-then-place-insts t c =
    nothing_passed (head_at c.args.heads.now) c.args.numbers.now.items c.args.insts.now c.args.place
    c.if-place-insts.true

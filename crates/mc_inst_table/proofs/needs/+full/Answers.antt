use Rattle.std.proofs.Common.{◌≡◌, ◌≤◌, length, sym, ap, ◌∙◌, subst, arith}
use Rattle.mc_accepted.specs.InstRules.{InstTerm}
use Rattle.mc_inst_table.specs.Plain.{plain_inst, plain_insts}
use Rattle.mc_inst_table.specs.code.Ends.{IsFull, AreFull}
use Rattle.mc_inst_table.proofs.Needing.{full_defined}
use Rattle.mc_inst_table.proofs.needs.+full.Goals as goal

pub is_full-returns-then-need_at-len : goal.is_full-returns-then-need_at-len
is_full-returns-then-need_at-len t c =
    λ body are holds.
    full_defined body c.args.needs.now c.args.inst.now c.in-Defined.number c.in-Defined.insts
    c.need_at.result c.len.result c.as_slice.result.now c.in-Defined.is are c.need_at.ensures c.len.ensures
    c.if-need_at-len.true c.as_slice.ensures.items (c.are_full.ensures body are holds)

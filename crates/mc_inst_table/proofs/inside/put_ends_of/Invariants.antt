use Rattle.std.proofs.Common.{◌≡◌, ◌++◌, drop}
use Rattle.mc_inst_table.specs.Plain.{plain_insts}
use Rattle.mc_inst_table.specs.code.Ends.{ends, head_at}
use Rattle.mc_inst_table.proofs.inside.put_ends_of.Given as goal

abbrev pub invariant-loop-inst : goal.invariant-loop-inst
invariant-loop-inst l =
    l.all.items ++ ends (head_at l.heads) (plain_insts (drop l.inst-index l.insts))
    ≡ l.initial.all.items ++ ends (head_at l.heads) (plain_insts l.insts)

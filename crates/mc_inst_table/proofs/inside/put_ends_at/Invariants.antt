use Rattle.std.proofs.Common.{◌≡◌, ◌++◌, drop}
use Rattle.mc_inst_table.specs.Plain.{plain_insts}
use Rattle.mc_inst_table.specs.code.Ends.{ends, head_at}
use Rattle.mc_inst_table.specs.code.Insides.{ends_at}
use Rattle.mc_inst_table.proofs.inside.put_ends_at.Given as goal

abbrev pub invariant-loop-place : goal.invariant-loop-place
invariant-loop-place l =
    l.all.items ++ ends_at (ends (head_at l.heads) (plain_insts l.insts)) (drop l.place-index l.places)
    ≡ l.initial.all.items ++ ends_at (ends (head_at l.heads) (plain_insts l.insts)) l.places

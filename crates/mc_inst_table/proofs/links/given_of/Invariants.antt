use Rattle.std.proofs.Common.{◌≡◌, ◌++◌, drop}
use Rattle.mc_inst_table.specs.Plain.{plain_insts}
use Rattle.mc_inst_table.specs.code.Links.{given_of}
use Rattle.mc_inst_table.proofs.links.given_of.Given as goal

abbrev pub invariant-loop-inst : goal.invariant-loop-inst
invariant-loop-inst l =
    l.given.items ++ given_of (plain_insts (drop l.inst-index l.insts)) ≡ given_of (plain_insts l.insts)

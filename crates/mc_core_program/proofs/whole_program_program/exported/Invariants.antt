use Rattle.std.proofs.Common.{◌≡◌, map, take}
use Rattle.mc_names.specs.Linked.{Defined, plain_named}
use Rattle.mc_core_program.proofs.whole_program_program.exported.Given as goal

abbrev pub invariant-loop-named : goal.invariant-loop-named
invariant-loop-named l =
    l.all.items ≡ map (λ (d : Defined). d.exported) (map plain_named (take l.named-index l.preds))

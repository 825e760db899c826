use Rattle.std.proofs.Common.{◌≡◌, ◌-◌, ◌++◌, ◌∷◌, [], map, replicate}
use Rattle.mc_accepted.specs.InstRules.{inst_node}
use Rattle.mc_inst_table.specs.Plain.{plain_mode}
use Rattle.mc_inst_table.specs.Written.{from_to}
use Rattle.mc_signatures.proofs.declared.default_modes.Given as goal

abbrev pub invariant-loop-argument : goal.invariant-loop-argument
invariant-loop-argument l =
    map plain_mode l.modes.items
    ++ (replicate (l.arity - l.argument) (from_to (inst_node 1) (inst_node 1)) ++ (from_to (inst_node 0) (inst_node 1) ∷ []))
    ≡ replicate l.arity (from_to (inst_node 1) (inst_node 1)) ++ (from_to (inst_node 0) (inst_node 1) ∷ [])

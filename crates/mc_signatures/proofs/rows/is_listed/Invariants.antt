use Rattle.std.proofs.Common.{map, drop}
use Rattle.mc_insts.specs.Defining.{plain_choice}
use Rattle.mc_signatures.specs.code.Rows.{NoneSame}
use Rattle.mc_signatures.proofs.rows.is_listed.Given as goal

abbrev pub invariant-loop-other : goal.invariant-loop-other
invariant-loop-other l =
    NoneSame (map plain_choice (drop l.other-index l.choices)) (plain_choice l.choice) → NoneSame (map plain_choice l.choices) (plain_choice l.choice)

use Rattle.std.proofs.Common.{◌≡◌, ◌++◌, map, take, drop, get_or}
use Rattle.mc_program.specs.Programs.{variable_type}
use Rattle.mc_program.specs.PlainPrograms.{plain_type}
use Rattle.mc_goals.proofs.normal.add_types.Given as goal

abbrev pub invariant-loop-variable : goal.invariant-loop-variable
invariant-loop-variable l = map plain_type l.into.items ≡ map plain_type l.fn.into.items ++ map (λ v. get_or (map plain_type l.types) v (variable_type v)) (take l.variable-index l.others)

abbrev pub invariant-loop-made : goal.invariant-loop-made
invariant-loop-made l =
    let all = map plain_type l.types in
    map plain_type l.into.items ++ drop l.made all ≡ (map plain_type l.fn.into.items ++ map (λ v. get_or all v (variable_type v)) l.others) ++ drop l.own all

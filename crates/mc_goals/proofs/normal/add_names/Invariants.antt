use Rattle.std.proofs.Common.{◌≡◌, ◌++◌, [], map, take, drop, get_or}
use Rattle.mc_program.specs.PlainPrograms.{plain_type}
use Rattle.mc_goals.proofs.normal.add_names.Given as goal

abbrev pub invariant-loop-variable : goal.invariant-loop-variable
invariant-loop-variable l = l.into.items ≡ l.fn.into.items ++ map (λ v. get_or l.resolved.var_names v []) (take l.variable-index l.others)

abbrev pub invariant-made : goal.invariant-made
invariant-made l =
    let all = map plain_type l.resolved.var_types in
    l.into.items ++ map (λ t. []) (drop l.counter all) ≡ (l.fn.into.items ++ map (λ v. get_or l.resolved.var_names v []) l.others) ++ map (λ t. []) (drop l.own all)

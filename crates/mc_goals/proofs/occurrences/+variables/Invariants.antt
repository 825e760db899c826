use Rattle.std.proofs.Common.{◌≡◌, ◌≤◌, ◌++◌, map, drop}
use Rattle.mc_program.specs.Programs.{expressions}
use Rattle.mc_program.specs.PlainPrograms.{plain_expression}
use Rattle.mc_program.specs.declared.expr.Expr.{size-Expr}
use Rattle.mc_accepted.specs.Scope.{variables_in, variables_in_all}
use Rattle.mc_goals.proofs.occurrences.+variables.Given as goal

abbrev pub invariant-push_variables-loop-rest : goal.invariant-push_variables-loop-rest
invariant-push_variables-loop-rest l =
    (l.list.items ++ variables_in (plain_expression l.rest) ≡ l.fn.list.items ++ variables_in (plain_expression l.term)) × (size-Expr l.rest ≤ size-Expr l.term)

abbrev pub invariant-push_all_variables-loop-term : goal.invariant-push_all_variables-loop-term
invariant-push_all_variables-loop-term l =
    l.list.items ++ variables_in_all (expressions (map plain_expression (drop l.term-index l.terms))) ≡ l.fn.list.items ++ variables_in_all (expressions (map plain_expression l.terms))

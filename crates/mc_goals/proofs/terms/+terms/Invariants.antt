use Rattle.std.proofs.Common.{◌≡◌, ◌≤◌, ◌++◌, ℕ, map, drop, vec_len}
use Rattle.mc_program.specs.Programs.{expressions}
use Rattle.mc_program.specs.PlainPrograms.{plain_expression}
use Rattle.mc_program.specs.declared.expr.Expr.{size-Expr}
use Rattle.mc_program.proofs.Fronts.{rebuilt}
use Rattle.mc_accepted.specs.Normal.{Conjuncts, name_terms}
use Rattle.mc_goals.specs.declared.terms.Front.{Front}
use Rattle.mc_goals.specs.code.Numbering.{number_at}
use Rattle.mc_goals.specs.code.Naming.{held, followed, added}
use Rattle.mc_goals.proofs.Naming.{run, over_front}
use Rattle.mc_goals.proofs.terms.+terms.Given as goal

abbrev pub invariant-named-loop-rest : goal.invariant-named-loop-rest
invariant-named-loop-rest l =
    (rebuilt (Conjuncts × ℕ) Front over_front l.fronts.items (run (number_at l.numbers) (held l.into) (plain_expression l.rest)) ≡ run (number_at l.numbers) (held l.fn.into) (plain_expression l.term))
    × (size-Expr l.rest ≤ size-Expr l.term)

abbrev pub invariant-named-loop-front : goal.invariant-named-loop-front
invariant-named-loop-front l =
    rebuilt (Conjuncts × ℕ) Front over_front l.fronts.items (held l.into, l.variable) ≡ run (number_at l.numbers) (held l.fn.into) (plain_expression l.term)

abbrev pub decreases-named-loop-front : goal.decreases-named-loop-front
decreases-named-loop-front l = vec_len l.fronts

abbrev pub invariant-named_all-loop-term : goal.invariant-named_all-loop-term
invariant-named_all-loop-term l =
    let names = number_at l.numbers in
    let rest = name_terms names (held l.into).next (expressions (map plain_expression (drop l.term-index l.terms))) in
    let all = name_terms names (held l.fn.into).next (expressions (map plain_expression l.terms)) in
    record {
      variables : l.variables.items ++ rest.variables ≡ all.variables;
      held : followed (held l.into) (added rest) ≡ followed (held l.fn.into) (added all);
    }

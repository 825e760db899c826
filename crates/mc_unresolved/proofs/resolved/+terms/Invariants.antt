use Rattle.std.proofs.Common.{◌≡◌, ◌≤◌, ◌++◌, List, map, drop, vec_len}
use Rattle.mc_program.specs.PlainPrograms.{plain_expression}
use Rattle.mc_program.specs.declared.expr.Expr.{Expr}
use Rattle.mc_program.proofs.Fronts.{rebuilt}
use Rattle.mc_accepted.specs.Resolving.{resolved_term}
use Rattle.mc_unresolved.specs.Unresolved.{plain_unresolved}
use Rattle.mc_unresolved.specs.code.Picked.{resolved_list}
use Rattle.mc_unresolved.specs.declared.term.Unresolved.{size-Unresolved}
use Rattle.mc_unresolved.proofs.Makings.{Picked, over, front_items}
use Rattle.mc_unresolved.proofs.resolved.+terms.Given as goal

abbrev pub invariant-make_term-loop-rest : goal.invariant-make_term-loop-rest
invariant-make_term-loop-rest l =
    (rebuilt Picked (List Expr) over (front_items l.fronts.items) (resolved_term (plain_unresolved l.rest) l.picks.rest.now) ≡ resolved_term (plain_unresolved l.term) l.fn.picks.rest.now)
    × (size-Unresolved l.rest ≤ size-Unresolved l.term)

abbrev pub invariant-make_term-loop-front : goal.invariant-make_term-loop-front
invariant-make_term-loop-front l =
    rebuilt Picked (List Expr) over (front_items l.fronts.items) (plain_expression l.made, l.picks.rest.now) ≡ resolved_term (plain_unresolved l.term) l.fn.picks.rest.now

abbrev pub decreases-make_term-loop-front : goal.decreases-make_term-loop-front
decreases-make_term-loop-front l = vec_len l.fronts

abbrev pub invariant-make_terms-loop-term : goal.invariant-make_terms-loop-term
invariant-make_terms-loop-term l =
    let rest = resolved_list (map plain_unresolved (drop l.term-index l.terms)) l.picks.rest.now in
    (map plain_expression l.made.items ++ rest.0, rest.1) ≡ resolved_list (map plain_unresolved l.terms) l.fn.picks.rest.now

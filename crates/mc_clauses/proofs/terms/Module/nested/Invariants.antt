use Rattle.std.proofs.Common.{◌≡◌, map, vec_len}
use Rattle.mc_unresolved.specs.Unresolved.{plain_unresolved}
use Rattle.mc_clauses.specs.code.Walking.{nested_over}
use Rattle.mc_clauses.proofs.terms.Module.nested.Given as goal

abbrev pub invariant-loop-term : goal.invariant-loop-term
invariant-loop-term l =
    nested_over l.candidates (map plain_unresolved l.terms.items) (plain_unresolved l.made)
    ≡ nested_over l.candidates (map plain_unresolved l.initial.terms.items) (plain_unresolved l.initial.made)

abbrev pub decreases-loop-term : goal.decreases-loop-term
decreases-loop-term l = vec_len l.terms

use Rattle.mc_unresolved.proofs.Pendings.{TermsPut}
use Rattle.mc_unresolved.proofs.tasks.put_terms.Given as goal

abbrev pub invariant-loop-k : goal.invariant-loop-k
invariant-loop-k l = TermsPut l.terms l.fn.pending.items l.pending.items l.k

abbrev pub decreases-loop-k : goal.decreases-loop-k
decreases-loop-k l = l.k

use Rattle.mc_print.proofs.Pendings.{FrontPut}
use Rattle.mc_print.proofs.value.put_front.Given as goal

abbrev pub invariant-front : goal.invariant-front
invariant-front l = FrontPut l.is_list l.front l.fn.tasks.items l.tasks.items l.k

abbrev pub decreases-front : goal.decreases-front
decreases-front l = l.k

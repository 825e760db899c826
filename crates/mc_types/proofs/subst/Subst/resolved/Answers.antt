use Rattle.mc_types.proofs.Generals.{resolved_is}
use Rattle.mc_types.proofs.subst.Subst.resolved.Goals as goal

pub returns : goal.returns
returns c = rw (← c.self.view_is) (resolved_is _ _ c.self.invariant.system _ _ c.in_ok-made.ensures)

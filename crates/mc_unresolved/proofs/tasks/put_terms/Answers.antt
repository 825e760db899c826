use Rattle.std.proofs.Common.{ap, ◌-◌, arith}
use Rattle.mc_unresolved.specs.Unresolved.{plain_unresolved}
use Rattle.mc_unresolved.specs.code.Tasks.{term_weight}
use Rattle.mc_accepted.specs.Resolving.{term_steps}
use Rattle.mc_unresolved.proofs.Pendings.{terms_more}
use Rattle.mc_unresolved.proofs.tasks.put_terms.Goals as goal

pub loop-k-preserved : goal.loop-k-preserved
loop-k-preserved c =
    terms_more c.args.terms.now c.args.pending.now.items c.loop-k.pending.items c.push.new.self.items c.loop-k.k (c.loop-k.k - 1) _ c.index-terms-k.result c.in_ok-push.ensures.items
    (omega (arith, c.loop-k-test.true)) c.loop-k.invariant (ap (λ t. term_steps (plain_unresolved t)) c.index-terms-k.is) (ap (λ t. term_weight (plain_unresolved t)) c.index-terms-k.is)

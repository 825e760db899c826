use Rattle.mc_plain.proofs.Making.{args_held}
use Rattle.mc_plain.proofs.atom.taken.Goals as goal

pub returns-in_err-unify_refs-in-Some-clause-held : goal.returns-in_err-unify_refs-in-Some-clause-held
returns-in_err-unify_refs-in-Some-clause-held c P is held =
    c.unify_refs.ensures.held P (args_held P c.args.heap.now c.args.r c.args-in-Some.result.now c.args-in-Some.ensures.values c.args-in-Some.ensures.live is) held

pub returns-in_ok-unify_refs-in-Some-clause-held : goal.returns-in_ok-unify_refs-in-Some-clause-held
returns-in_ok-unify_refs-in-Some-clause-held c P is held =
    c.unify_refs.ensures.held P (args_held P c.args.heap.now c.args.r c.args-in-Some.result.now c.args-in-Some.ensures.values c.args-in-Some.ensures.live is) held

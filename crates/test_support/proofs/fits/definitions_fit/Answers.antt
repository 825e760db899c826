use Rattle.std.proofs.Common.{ℕ, length, sym, subst, arith}
use Rattle.mc_accepted.specs.InstRules.{definition_at}
use Rattle.mc_insts.specs.Defining.{plain_definition, plain_definitions, DefinitionFits}
use Rattle.mc_insts.proofs.Found.{by_order}
use Rattle.mc_insts.proofs.Definitions.{definition_read}
use Rattle.test_support.proofs.fits.definitions_fit.Goals as goal

pub loop-k-preserved : goal.loop-k-preserved
loop-k-preserved c = λ k lt.
    let defs = c.args.defs.now in
    let n = c.args.nodes in
    let j : ℕ = c.loop-k.k in
    let d = c.get.result.now in
    let fits = subst (λ m. DefinitionFits n m (plain_definition d)) c.len.ensures (c.in_ok-fits.ensures c.if-not-fits.false) in
    by_order k j
    (λ x. c.loop-k.invariant k x)
    (λ e. subst (λ i. DefinitionFits n (length defs) (definition_at (plain_definitions defs) i)) (sym e)
    (subst (DefinitionFits n (length defs)) (sym (definition_read defs j d (omega (arith, c.len-k-end.ensures)) c.get.ensures)) fits))
    (λ x. absurd (omega arith))

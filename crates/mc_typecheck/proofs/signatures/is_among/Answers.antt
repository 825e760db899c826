use Rattle.std.proofs.Common.{refl, sym, ◌∙◌}
use Rattle.mc_typecheck.proofs.Stepping.{among_here, among_on, among_none}
use Rattle.mc_typecheck.proofs.signatures.is_among.Goals as goal

pub loop-candidate-init : goal.loop-candidate-init
loop-candidate-init c = refl

pub returns-then-is_same : goal.returns-then-is_same
returns-then-is_same c = sym (c.loop-candidate.invariant ∙ among_here c.args.c c.args.candidates.now c.loop-candidate.candidate-index _ c.loop-candidate-test.true (sym c.is_same.ensures ∙ c.if-is_same.true))

pub loop-candidate-preserved : goal.loop-candidate-preserved
loop-candidate-preserved c = c.loop-candidate.invariant ∙ among_on c.args.c c.args.candidates.now c.loop-candidate.candidate-index _ c.loop-candidate-test.true (sym c.is_same.ensures ∙ c.if-is_same.false)

pub returns : goal.returns
returns c = sym (c.loop-candidate.invariant ∙ among_none c.args.c c.args.candidates.now c.loop-candidate.candidate-index c.loop-candidate-test.false)

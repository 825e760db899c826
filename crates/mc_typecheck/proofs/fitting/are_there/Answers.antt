use Rattle.std.proofs.Common.{sym, ◌∙◌}
use Rattle.mc_source.specs.declared.name.Candidate.TheVariants as C
use Rattle.mc_typecheck.specs.Fitting.{all_there}
use Rattle.mc_typecheck.proofs.WhatFits.{there_more, there_not, there_all}
use Rattle.mc_typecheck.proofs.fitting.are_there.Goals as goal

pub loop-candidate-preserved : goal.loop-candidate-preserved
loop-candidate-preserved c = there_more c.args.signatures.now c.args.candidates.now c.loop-candidate.candidate-index (C.Con 0) (all_there c.args.signatures.now c.args.candidates.now) c.loop-candidate-test.true (sym c.is_there.ensures ∙ c.if-not-is_there.false) c.loop-candidate.invariant

pub returns-then-not-is_there : goal.returns-then-not-is_there
returns-then-not-is_there c = there_not c.args.signatures.now c.args.candidates.now c.loop-candidate.candidate-index (C.Con 0) (all_there c.args.signatures.now c.args.candidates.now) c.loop-candidate-test.true (sym c.is_there.ensures ∙ c.if-not-is_there.true) c.loop-candidate.invariant

pub returns : goal.returns
returns c = there_all c.args.signatures.now c.args.candidates.now c.loop-candidate.candidate-index (all_there c.args.signatures.now c.args.candidates.now) c.loop-candidate-test.false c.loop-candidate.invariant

use Rattle.test_support.proofs.Seen.{ChoicesSeen}
use Rattle.test_support.proofs.fits.choices_fit.Given as goal

abbrev pub invariant-loop-choice : goal.invariant-loop-choice
invariant-loop-choice l = ChoicesSeen l.nodes l.definitions l.choices l.choice-index l.names

use Rattle.std.proofs.Common.{◌≡◌, drop}
use Rattle.mc_typecheck.specs.Fitting.{all_there}
use Rattle.mc_typecheck.proofs.fitting.are_there.Given as goal

abbrev pub invariant-loop-candidate : goal.invariant-loop-candidate
invariant-loop-candidate l = all_there l.signatures (drop l.candidate-index l.candidates) ≡ all_there l.signatures l.candidates

use Rattle.std.proofs.Common.{◌≡◌, drop}
use Rattle.mc_typecheck.specs.Ties.{is_among}
use Rattle.mc_typecheck.proofs.signatures.is_among.Given as goal

abbrev pub invariant-loop-candidate : goal.invariant-loop-candidate
invariant-loop-candidate l = is_among l.c l.candidates ≡ is_among l.c (drop l.candidate-index l.candidates)

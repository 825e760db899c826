use Rattle.std.proofs.Common.{◌≡◌, drop}
use Rattle.mc_type_phase.specs.Typing.{number_among}
use Rattle.mc_type_phase.proofs.subject.number_among.Given as goal

abbrev pub invariant-loop-candidate : goal.invariant-loop-candidate
invariant-loop-candidate l =
    number_among l.kind (drop l.candidate-index l.candidates) ≡ number_among l.kind l.candidates

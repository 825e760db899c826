use Rattle.std.specs.Prelude.{Contains}
use Rattle.mc_program.specs.Programs.{Source}
use Rattle.mc_accepted.specs.ProperTypes.{Parameters}
use Rattle.mc_source.specs.declared.name.Candidate.{Candidate}
use Rattle.mc_typecheck.specs.Ties.{of_name}
use Rattle.mc_typecheck.specs.Walked.{Shows}
use Rattle.mc_typecheck.specs.code.Tables.{passes_as}
use Rattle.mc_typecheck.proofs.Choosing.{FoundSole}
use Rattle.mc_typecheck.proofs.table.Signatures.sole_offer.Given as goal

abbrev pub invariant-loop-k : goal.invariant-loop-k
invariant-loop-k l =
    (P : Source) (D : Parameters)
    → ((c : Candidate) → Contains l.candidates c → Shows P D l.self (of_name c))
    → FoundSole P D l.self (passes_as l.of_atom) l.count l.candidates l.found l.k

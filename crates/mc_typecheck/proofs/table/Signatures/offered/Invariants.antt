use Rattle.std.proofs.Common.{◌≡◌, ◌++◌, map, take, drop, [], Some}
use Rattle.std.specs.Prelude.{Contains}
use Rattle.mc_program.specs.Programs.{Source}
use Rattle.mc_accepted.specs.ProperTypes.{Parameters}
use Rattle.mc_source.specs.declared.name.Candidate.{Candidate}
use Rattle.mc_typecheck.specs.Ties.{Meaning, of_name, declared, offered}
use Rattle.mc_typecheck.specs.Walked.{entry, Shows}
use Rattle.mc_typecheck.specs.code.Tables.{passes_as}
use Rattle.mc_typecheck.proofs.table.Signatures.offered.Given as goal

abbrev pub invariant-loop-k : goal.invariant-loop-k
invariant-loop-k l =
    (P : Source) (D : Parameters)
    → ((c : Candidate) → Contains l.candidates c → Shows P D l.self (of_name c))
    → map (λ j. entry l.self j) l.all.items ++ map (λ (m : Meaning). Some (declared P D m)) (offered P D (passes_as l.of_atom) l.count (take l.k l.candidates) (drop l.k l.candidates))
    ≡ map (λ (m : Meaning). Some (declared P D m)) (offered P D (passes_as l.of_atom) l.count [] l.candidates)

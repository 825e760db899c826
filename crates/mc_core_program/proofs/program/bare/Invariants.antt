use Rattle.std.proofs.Common.{◌≡◌, ◌++◌, map}
use Rattle.mc_program.specs.PlainPrograms.{plain_clause}
use Rattle.mc_goals.specs.Resolved.{clause_of}
use Rattle.mc_core_program.proofs.program.bare.Given as goal

abbrev pub invariant-loop-resolved : goal.invariant-loop-resolved
invariant-loop-resolved l =
    map plain_clause l.bare.items ++ map clause_of l.resolved-iterator.rest.items ≡ map clause_of l.fn.clauses

use Rattle.std.proofs.Common.{◌≡◌, ◌++◌, map}
use Rattle.mc_core_program.specs.Wholes.{numbered_clause}
use Rattle.mc_type_phase.specs.Judging.{typed_clauses}
use Rattle.mc_compile.specs.Ruling.{numbered}
use Rattle.mc_compile.proofs.moded.numbered.Given as goal

abbrev pub invariant-loop-clause : goal.invariant-loop-clause
invariant-loop-clause l =
    map numbered_clause l.pairs.items ++ map numbered (typed_clauses l.clause-iterator.rest.items)
    ≡ map numbered (typed_clauses l.fn.clauses.items)

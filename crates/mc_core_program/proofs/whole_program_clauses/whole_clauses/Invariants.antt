use Rattle.std.proofs.Common.{◌≡◌, ◌++◌, map}
use Rattle.mc_type_table.specs.Held.{held}
use Rattle.mc_core_program.specs.Wholes.{numbered_clause}
use Rattle.mc_core_program.specs.code.Rows.{whole_numbered}
use Rattle.mc_core_program.proofs.whole_program_clauses.whole_clauses.Given as goal

abbrev pub invariant-loop-number : goal.invariant-loop-number
invariant-loop-number l =
    map numbered_clause l.all.items
    ++ map (whole_numbered (held l.definitions)) (map numbered_clause l.number-iterator.rest.items)
    ≡ map (whole_numbered (held l.definitions)) (map numbered_clause l.fn.clauses.items)

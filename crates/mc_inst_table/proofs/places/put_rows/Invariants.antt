use Rattle.std.proofs.Common.{◌≡◌, ◌+◌, ◌-◌, ◌≤◌, ◌++◌, length, drop}
use Rattle.mc_inst_table.specs.code.Places.{place, links_at, is_inner, given_for, given_by, rows_of, all_rows, firsts_from, spoiled_for, spoiled_by, all_spoiled}
use Rattle.mc_inst_table.proofs.places.put_rows.Given as goal

abbrev pub invariant-loop-parameter : goal.invariant-loop-parameter
invariant-loop-parameter l =
    l.rows.items
    ++ rows_of l.places.firsts l.places.inner l.number l.parameter (l.width - l.parameter) (links_at l.places.links l.number)
    ≡ l.initial.rows.items
    ++ rows_of l.places.firsts l.places.inner l.number 0 l.width (links_at l.places.links l.number)

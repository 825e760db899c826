use Rattle.std.proofs.Common.{◌≡◌, ◌+◌, ◌-◌, ◌≤◌, ◌++◌, length, drop}
use Rattle.mc_inst_table.specs.code.Places.{place, links_at, is_inner, given_for, given_by, rows_of, all_rows, firsts_from, spoiled_for, spoiled_by, all_spoiled}
use Rattle.mc_inst_table.proofs.places.put_given.Given as goal

abbrev pub invariant-loop-one : goal.invariant-loop-one
invariant-loop-one l =
    l.row.items ++ given_for l.parameter l.place (drop l.one-index l.given)
    ≡ l.initial.row.items ++ given_for l.parameter l.first l.given

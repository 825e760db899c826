use Rattle.std.proofs.Common.{◌≡◌, ◌+◌, ◌-◌, ◌≤◌, ◌++◌, length, drop}
use Rattle.mc_inst_table.specs.code.Places.{place, links_at, is_inner, given_for, given_by, rows_of, all_rows, firsts_from, spoiled_for, spoiled_by, all_spoiled}
use Rattle.mc_inst_table.proofs.places.put_spoiled_from.Given as goal

abbrev pub invariant-loop-one : goal.invariant-loop-one
invariant-loop-one l =
    l.all.items
    ++ spoiled_for l.numbers l.places.firsts l.number l.place (drop l.one-index l.given)
    ≡ l.initial.all.items ++ spoiled_for l.numbers l.places.firsts l.number l.first l.given

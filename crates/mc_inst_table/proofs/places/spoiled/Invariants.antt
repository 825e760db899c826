use Rattle.std.proofs.Common.{◌≡◌, ◌+◌, ◌-◌, ◌≤◌, ◌++◌, length, drop}
use Rattle.mc_inst_table.specs.code.Places.{place, links_at, is_inner, given_for, given_by, rows_of, all_rows, firsts_from, spoiled_for, spoiled_by, all_spoiled}
use Rattle.mc_inst_table.proofs.places.spoiled.Given as goal

abbrev pub invariant-loop-links : goal.invariant-loop-links
invariant-loop-links l =
    l.all.items
    ++ all_spoiled l.numbers l.places.firsts l.places.inner l.number (drop l.links-index l.places.links)
    ≡ all_spoiled l.numbers l.places.firsts l.places.inner 0 l.places.links

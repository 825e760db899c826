use Rattle.std.proofs.Common.{◌≡◌, ◌+◌, ◌-◌, ◌≤◌, ◌++◌, length, drop}
use Rattle.mc_inst_table.specs.code.Places.{place, links_at, is_inner, given_for, given_by, rows_of, all_rows, firsts_from, spoiled_for, spoiled_by, all_spoiled}
use Rattle.mc_inst_table.proofs.places.put_spoiled.Given as goal

abbrev pub invariant-loop-link : goal.invariant-loop-link
invariant-loop-link l =
    l.all.items
    ++ spoiled_by l.numbers l.places.firsts l.places.inner l.number (drop l.link-index l.links)
    ≡ l.initial.all.items
    ++ spoiled_by l.numbers l.places.firsts l.places.inner l.number l.links

use Rattle.std.proofs.Common.{◌≡◌, ◌+◌, ◌-◌, ◌≤◌, ◌++◌, length, drop}
use Rattle.mc_inst_table.specs.code.Places.{place, links_at, is_inner, given_for, given_by, rows_of, all_rows, firsts_from, spoiled_for, spoiled_by, all_spoiled}
use Rattle.mc_inst_table.proofs.places.graph_of.Given as goal

abbrev pub invariant-loop-width : goal.invariant-loop-width
invariant-loop-width l =
    l.rows.items
    ++ all_rows l.places.firsts l.places.inner l.number (drop l.width-index l.widths) l.places.links
    ≡ all_rows l.places.firsts l.places.inner 0 l.widths l.places.links

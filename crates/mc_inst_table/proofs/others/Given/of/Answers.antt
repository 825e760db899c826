use Rattle.std.proofs.Common.{◌≤◌, ℕ, slice_index_or, ◌≡◌, ◌↔◌, true, false, List, sym, ap, subst}
use Rattle.mc_model.specs.Lists.{is_in}
use Rattle.mc_names.specs.Linked.{plain_names}
use Rattle.mc_inst_table.specs.code.Places.{width_at}
use Rattle.mc_inst_table.proofs.Sizing.{are_given, bodies_are, widths_by}
use Rattle.mc_inst_table.proofs.others.Given.of.Goals as goal

pub returns : goal.returns
returns c =
    are_given c.in_ok-bodies.bodies c.in_ok-widths.widths c.in_ok-links.links c.in_ok-links.ensures
    (c.are_sized.ensures c.if-not-are_sized.false)
    c.in_ok-needs.needs.items c.in_ok-needs.ensures.needs
    (subst (λ (ns : List ℕ). (d : ℕ) → slice_index_or ns d 0 ≤ width_at c.in_ok-widths.widths d) c.as_slice.ensures.value
    (c.are_narrow.ensures c.if-not-are_narrow.false))
    c.in_ok-steps.steps c.in_ok-steps.ensures c.in_ok-inner.inner c.in_ok-inner.ensures.count c.in_ok-inner.ensures.alike
    c.in_ok-firsts.firsts c.in_ok-firsts.ensures c.in_ok-graph.graph c.in_ok-graph.ensures
    c.in_ok-numbers.numbers c.in_ok-numbers.ensures.alike c.in_ok-others.others.items c.in_ok-others.ensures
    (plain_names c.args.names.now) c.in_ok-spoiled.spoiled
    (bodies_are c.args.names.now c.in_ok-bodies.bodies c.in_ok-bodies.ensures)
    (widths_by c.args.names.now c.in_ok-widths.widths c.in_ok-widths.ensures)
    (λ k.
    subst (λ (ns : List ℕ). (slice_index_or c.in_ok-spoiled.spoiled k false ≡ true) ↔ (is_in k ns ≡ true))
    c.as_slice-2.ensures.value (c.in_ok-spoiled.ensures k))

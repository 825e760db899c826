use Rattle.std.proofs.Common.{◌≡◌, ◌≢◌, map, length, codes, ap, ◌∙◌, arith}
use Rattle.mc_term_data.specs.Plain.{plain_term, term_list, more_terms, no_term}
use Rattle.mc_term_data.specs.Shapes.{is_the_word}
use Rattle.mc_names.specs.Linked.{plain_names}
use Rattle.mc_inst_table.specs.Plain.{plain_inst, plain_insts}
use Rattle.mc_inst_table.specs.Written.{named_inst, inst_over, written_insts}
use Rattle.mc_inst_table.proofs.Writing.{over_single, over_several}
use Rattle.mc_inst_table.proofs.written.+written.Goals as goal

pub inst_over-returns-then-count-eq1 : goal.inst_over-returns-then-count-eq1
inst_over-returns-then-count-eq1 t c =
    let l = plain_names c.args.names.now in
    let own = c.args.own in
    let vs = c.args.variables.now in
    let w = c.args.name.now in
    let ts = c.args.arguments.now in
    let b = is_the_word (codes "bound") w in
    let value : plain_inst c.in_ok-inst.inst ≡ inst_over l own vs w b (more_terms (plain_term c.get.result.now) no_term) =
    c.in_ok-inst.ensures
    in
    let counted = c.len-count.ensures in
    let is_one = c.if-count-eq1.true in
    let one : length ts ≡ 1 = omega (arith, counted, is_one) in
    value ∙ over_single l own vs w b ts c.get.result.now one c.get.ensures

pub inst_over-returns : goal.inst_over-returns
inst_over-returns t c =
    let l = plain_names c.args.names.now in
    let own = c.args.own in
    let vs = c.args.variables.now in
    let w = c.args.name.now in
    let ts = c.args.arguments.now in
    let b = is_the_word (codes "bound") w in
    let value : plain_inst c.in_ok-inst-2.inst ≡ named_inst l own w c.len-count.result (plain_insts c.in_ok-of.field-0) =
    c.in_ok-inst-2.ensures
    in
    let elements : c.in_ok-of.field-0 ≡ c.in_ok-insts.insts.items = c.in_ok-of.ensures.elements in
    let rows : plain_insts c.in_ok-insts.insts.items ≡ written_insts l own vs (term_list (map plain_term c.as_slice.result.now)) =
    c.in_ok-insts.ensures
    in
    let other : length ts ≢ 1 = λ e. c.if-count-eq1.false (c.len-count.ensures ∙ e) in
    value
    ∙ over_several l own vs w b ts (plain_insts c.in_ok-of.field-0) c.len-count.result other
    (ap plain_insts elements
    ∙ rows
    ∙ ap (λ us. written_insts l own vs (term_list (map plain_term us))) c.as_slice.ensures.items)
    c.len-count.ensures

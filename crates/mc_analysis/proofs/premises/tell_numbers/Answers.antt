use Rattle.std.proofs.Common.{length, sym, ap, ◌∙◌}
use Rattle.mc_program.specs.declared.program.Program.{Program}
use Rattle.mc_modes.specs.Numbering.{mode_ids}
use Rattle.mc_analysis.proofs.Parts.{numbers_by, other_count}
use Rattle.mc_analysis.proofs.premises.tell_numbers.Goals as goal

pub returns-then-len : goal.returns-then-len
returns-then-len c =
    let q = c.args.procs.now in
    let sigs = c.args.sigs.now in
    let ids = c.in_ok-ids.ids.items in
    other_count q sigs ids (c.in_ok-ids.ensures {u = tt} ∙ ap (λ (x : Program). mode_ids x sigs) c.program.ensures)
    (λ e. c.if-len.true (c.len.ensures ∙ c.in_ok-ids.ids.ok.0 ∙ e ∙ sym (c.len-2.ensures ∙ ap length c.preds.ensures)))

pub returns : goal.returns
returns c =
    let q = c.args.procs.now in
    let sigs = c.args.sigs.now in
    let ids = c.as_slice.result.now in
    numbers_by q sigs ids
    (c.as_slice.ensures.value ∙ c.in_ok-ids.ensures {u = tt} ∙ ap (λ (x : Program). mode_ids x sigs) c.program.ensures)
    c.follow_on.result
    (ap length c.as_slice.ensures.value ∙ sym (c.len.ensures ∙ c.in_ok-ids.ids.ok.0) ∙ c.if-len.false ∙ c.len-2.ensures ∙ ap length c.preds.ensures)
    c.follow_on.ensures

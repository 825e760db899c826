use Rattle.std.proofs.Common.{◌<◌, ◌≤◌, ◌∙◌, ap, ap₂, ℕ, List, length, arith}
use Rattle.mc_program.specs.PlainPrograms.{plain_program}
use Rattle.mc_program.specs.declared.program.Pred.{Pred}
use Rattle.mc_program.specs.declared.program.Program.{Program}
use Rattle.mc_model.specs.declared.sched.Proc.{Proc}
use Rattle.mc_accepted.specs.Ordered.{zipped}
use Rattle.mc_accepted.specs.DeterminismFaults.{takes_states}
use Rattle.mc_det.specs.Determinisms.{as_declared}
use Rattle.mc_det_rules.specs.code.Entry.{main_by}
use Rattle.mc_det_rules.proofs.Entering.{main_nowhere, main_there}
use Rattle.mc_det_rules.proofs.entry.is_main.Goals as goal

pub returns-then-p-len : goal.returns-then-p-len
returns-then-p-len c =
    let P : Program = c.program-program.result.now in
    let p : Proc = c.args.p.now in
    let past : length P.preds ≤ p.pred = omega (arith, c.if-p-len.true, c.len.ensures) in
    main_nowhere P.preds p past
    ∙ ap (λ (R : Program). main_by (plain_program R).preds (as_declared p)) c.program-program.ensures

pub returns : goal.returns
returns c =
    let P : Program = c.program-program.result.now in
    let p : Proc = c.args.p.now in
    let r : Pred = c.get.result.now in
    let there : p.pred < length P.preds = omega (arith, c.if-p-len.false, c.len.ensures) in
    main_there P.preds p r r c.all_hold.result c.is_main_pred-is_called_so.result c.takes_states-takes_states.result c.is_det_or_cc_multi-is_det.result there c.get.ensures
    c.is_main_pred-is_called_so.ensures
    (c.takes_states-takes_states.ensures ∙ ap₂ (λ (f l : List ℕ). takes_states (zipped f l)) c.as_slice.ensures.items c.as_slice-2.ensures.items)
    c.is_det_or_cc_multi-is_det.ensures c.all_hold.ensures
    ∙ ap (λ (R : Program). main_by (plain_program R).preds (as_declared p)) c.program-program.ensures

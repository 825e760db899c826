use Rattle.std.proofs.Common.{◌≡◌, ◌++◌, ◌<◌, ◌≤◌, ℕ, length, sym, ap, ◌∙◌, arith}
use Rattle.mc_program.specs.Programs.{FullName}
use Rattle.mc_program.specs.PlainPrograms.{plain_name, plain_program, no_name}
use Rattle.mc_program.specs.declared.program.Pred.{Pred}
use Rattle.mc_program.specs.declared.program.Program.{Program}
use Rattle.mc_accepted.specs.DeterminismFaults.{shown}
use Rattle.mc_det.proofs.Declaring.{if_ok_as}
use Rattle.mc_det_rules.proofs.Faulting.{named_there, named_nowhere}
use Rattle.mc_det_rules.proofs.rules.of_predicate.Goals as goal

pub returns-then-pred-len : goal.returns-then-pred-len
returns-then-pred-len c =
    let P : Program = c.program-program.result.now in
    let k : ℕ = c.args.pred in
    let past : length P.preds ≤ k = omega (arith, c.if-pred-len.true, c.len.ensures) in
    if_ok_as c.of_no_name.result (λ text. text ≡ shown no_name ++ c.args.words.now) (λ text. text ≡ shown ((plain_program c.args.procs.now.program).preds k).name ++ c.args.words.now)
    (λ text e.
    e
    ∙ ap (λ (n : FullName). shown n ++ c.args.words.now)
    (sym (named_nowhere P.preds k past) ∙ ap (λ (R : Program). ((plain_program R).preds k).name) c.program-program.ensures))
    c.of_no_name.ensures

pub returns : goal.returns
returns c =
    let P : Program = c.program-program.result.now in
    let k : ℕ = c.args.pred in
    let d : Pred = c.get-found.result.now in
    let lt : k < length P.preds = omega (arith, c.if-pred-len.false, c.len.ensures) in
    if_ok_as c.of_name.result (λ text. text ≡ shown (plain_name d.name) ++ c.args.words.now) (λ text. text ≡ shown ((plain_program c.args.procs.now.program).preds k).name ++ c.args.words.now)
    (λ text e.
    e
    ∙ ap (λ (n : FullName). shown n ++ c.args.words.now)
    (ap (λ (r : Pred). plain_name r.name) c.get-found.ensures ∙ sym (named_there P.preds k d lt) ∙ ap (λ (R : Program). ((plain_program R).preds k).name) c.program-program.ensures))
    c.of_name.ensures

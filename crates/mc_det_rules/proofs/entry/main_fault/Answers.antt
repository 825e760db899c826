use Rattle.std.proofs.Common.{◌∙◌, ap, sym, Bool}
use Rattle.std.specs.Prelude.{ℕ, Option, is_some, length}
use Rattle.mc_model.specs.Lists.{from}
use Rattle.mc_procs.specs.Procedures.{source_of}
use Rattle.mc_accepted.specs.DeterminismFaults.{main_fault}
use Rattle.mc_det.specs.Determinisms.{declared_procedure}
use Rattle.mc_det_rules.specs.code.Entry.{main_by}
use Rattle.mc_det_rules.proofs.Entering.{some_found, none_missing, is_missing}
use Rattle.mc_det_rules.proofs.entry.main_fault.Goals as goal

pub returns-then-is_missing : goal.returns-then-is_missing
returns-then-is_missing c outcome ds =
    let q = c.args.procs.now in
    let is_main : ℕ → Bool = λ k. main_by (source_of q).preds (declared_procedure q.added k) in
    let has : Bool = c.is_some-has_main.result in
    is_missing c.args.runs has c.in_ok-what.what c.in_ok-what.ensures (sym c.is_missing.ensures ∙ c.if-is_missing.true)
    ∙ ap (main_fault c.args.runs)
    (c.is_some-has_main.ensures
    ∙ ap (λ (o : Option ℕ). is_some o) c.main_procedure.ensures
    ∙ some_found is_main (from 0 (length q.added)))

pub returns : goal.returns
returns c outcome ds =
    let q = c.args.procs.now in
    let is_main : ℕ → Bool = λ k. main_by (source_of q).preds (declared_procedure q.added k) in
    let has : Bool = c.is_some-has_main.result in
    none_missing c.args.runs has (sym c.is_missing.ensures ∙ c.if-is_missing.false)
    ∙ ap (main_fault c.args.runs)
    (c.is_some-has_main.ensures
    ∙ ap (λ (o : Option ℕ). is_some o) c.main_procedure.ensures
    ∙ some_found is_main (from 0 (length q.added)))

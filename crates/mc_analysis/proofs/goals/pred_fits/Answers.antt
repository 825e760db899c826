use Rattle.std.proofs.Common.{◌<◌, length, sym, ap, subst, ◌∙◌, arith}
use Rattle.std.proofs.lemmas.List.{get_or_default}
use Rattle.mc_program.specs.PlainPrograms.{plain_program}
use Rattle.mc_program.specs.declared.program.Program.{Program}
use Rattle.mc_modes.specs.NormalGoals.{no_goal}
use Rattle.mc_analysis.proofs.Parts.{builtin_at, pred_by}
use Rattle.mc_analysis.proofs.goals.pred_fits.Goals as goal

pub returns : goal.returns
returns c =
    let q = c.args.procs.now in
    let k = c.args.pred in
    let goals = c.args.goals.now in
    let P = c.program.result.now in
    let g = c.index-goals-pred.result in
    let there : k < length P.preds = subst (λ (x : Program). k < length x.preds) (sym c.program.ensures) c.requires.there in
    let lt : k < length goals = omega (arith, c.requires.there, c.requires.as_many) in
    pred_by q c.args.sigs.now goals k c.fits_each.result g c.modes_at.result.now
    (c.index-goals-pred.is ∙ get_or_default goals k g no_goal lt)
    c.modes_at.ensures
    (ap (λ (x : Program). ((plain_program x).preds k).builtin) (sym c.program.ensures)
    ∙ builtin_at P k c.get.result.now there c.get.ensures
    ∙ c.has_builtin.ensures.none c.if-has_builtin.false)
    c.fits_each.ensures

use Rattle.std.proofs.Common.{◌≡◌, [], map, refl, sym, subst}
use Rattle.mc_insts.specs.Graphs.{count_of}
use Rattle.mc_procs.specs.Procedures.{PlainProcs}
use Rattle.mc_modes.specs.Signatures.{SigsFit}
use Rattle.mc_modes.specs.Numbering.{mode_ids}
use Rattle.mc_modes.specs.declared.modes.ModeId.{ModeId}
use Rattle.mc_accepted.specs.NormalGoals.{HasNormalGoals}
use Rattle.mc_analysis.proofs.Coming.{begins, begins_itself, comes}
use Rattle.mc_analysis.proofs.rules.of_tidy.Goals as goal

pub first_procs-requires-clause-types : goal.first_procs-requires-clause-types
first_procs-requires-clause-types c = c.requires.fits.0

pub first_procs-requires-clause-program : goal.first_procs-requires-clause-program
first_procs-requires-clause-program c = c.requires.program

pub analyse-requires-clause-sigs : goal.analyse-requires-clause-sigs
analyse-requires-clause-sigs c =
    subst (λ (q : PlainProcs). SigsFit (count_of q.insts) c.args.sigs.now) (sym (c.in_ok-procs.ensures {u = tt})) c.requires.sigs

pub analyse-requires-clause-goals : goal.analyse-requires-clause-goals
analyse-requires-clause-goals c =
    subst (λ (q : PlainProcs). HasNormalGoals q.program c.args.goals.now) (sym (c.in_ok-procs.ensures {u = tt})) c.requires.goals

pub analyse-requires-clause-preds : goal.analyse-requires-clause-preds
analyse-requires-clause-preds c =
    subst (λ (q : PlainProcs). q.preds ≡ map (λ (m : ModeId). m.pred) (mode_ids q.program c.args.sigs.now)) (sym (c.in_ok-procs.ensures {u = tt})) refl

pub analyse-requires-clause-none : goal.analyse-requires-clause-none
analyse-requires-clause-none c =
    subst (λ (q : PlainProcs). q.added ≡ []) (sym (c.in_ok-procs.ensures {u = tt})) refl

pub returns : goal.returns
returns c =
    λ ds has.
    let q = c.in_ok-procs.procs in
    let begun = begins c.args.program ds c.args.sigs.now [] c.args.insts q (c.in_ok-procs.ensures {u = tt}) c.requires.fits.2 has c.requires.tidy in
    comes c.args.program ds c.args.sigs.now q begun c.args.goals.now c.args.exported.now c.args.runs
    c.in_ok-ruled.ruled (c.in_ok-ruled.ensures {u = tt} ds (begins_itself c.args.program ds c.args.sigs.now q begun))

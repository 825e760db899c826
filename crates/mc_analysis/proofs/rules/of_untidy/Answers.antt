use Rattle.std.proofs.Common.{◌≡◌, ℕ, List, length, sym, ap, subst, ◌∙◌}
use Rattle.std.specs.List.{All}
use Rattle.mc_program.specs.PlainPrograms.{plain_program}
use Rattle.mc_model.specs.Insts.{Graph}
use Rattle.mc_source.specs.Rules.{by_place}
use Rattle.mc_insts.specs.Graphs.{graph_of, count_of}
use Rattle.mc_procs.specs.Procedures.{PlainProcs, insts_of}
use Rattle.mc_modes.specs.Signatures.{SigsFit}
use Rattle.mc_modes.specs.Numbering.{IsMode, mode_ids}
use Rattle.mc_modes.specs.Outcomes.{AreBroken}
use Rattle.mc_modes.specs.declared.modes.ModeId.{ModeId}
use Rattle.mc_modes.proofs.Ids.{are_modes}
use Rattle.mc_accepted.specs.NormalGoals.{HasNormalGoals}
use Rattle.mc_analysis.specs.Untidy.{AreUntidy, AreAsked}
use Rattle.mc_analysis.specs.Rules.{break_uniqueness}
use Rattle.mc_analysis.proofs.Asking.{asked_among}
use Rattle.mc_analysis.proofs.Coming.{begins, insts_on, are_normal}
use Rattle.mc_analysis.proofs.rules.of_untidy.Goals as goal

pub asked_modes-requires-clause-goals : goal.asked_modes-requires-clause-goals
asked_modes-requires-clause-goals c = c.requires.goals.as_many

pub first_procs-requires-clause-types : goal.first_procs-requires-clause-types
first_procs-requires-clause-types c = c.requires.fits.0

pub first_procs-requires-clause-program : goal.first_procs-requires-clause-program
first_procs-requires-clause-program c = c.asked_modes.ensures.program

pub check_preconditions-requires-clause-as_many : goal.check_preconditions-requires-clause-as_many
check_preconditions-requires-clause-as_many c =
    subst (λ (q : PlainProcs). length c.args.goals.now ≡ length q.program.preds) (sym (c.in_ok-procs.ensures {u = tt})) c.requires.goals.as_many

pub check_preconditions-requires-clause-sigs : goal.check_preconditions-requires-clause-sigs
check_preconditions-requires-clause-sigs c =
    subst (λ (q : PlainProcs). SigsFit (count_of q.insts) c.args.sigs.now) (sym (c.in_ok-procs.ensures {u = tt}))
    (subst (λ (n : ℕ). SigsFit n c.args.sigs.now) (sym c.asked_modes.ensures.count) c.requires.sigs)

pub list_faults-requires-clause-some : goal.list_faults-requires-clause-some
list_faults-requires-clause-some c = c.requires.some

pub list_faults-requires-clause-sigs : goal.list_faults-requires-clause-sigs
list_faults-requires-clause-sigs c = (c.in_ok-check_preconditions.ensures {u = tt}).insts_there

pub list_faults-requires-clause-ids : goal.list_faults-requires-clause-ids
list_faults-requires-clause-ids c =
    let P = c.args.program in
    let sigs = c.args.sigs.now in
    subst (λ (q : PlainProcs). All (IsMode q.program sigs) c.as_slice.result.now) (sym (c.in_ok-procs.ensures {u = tt}))
    (subst (λ (is : List ModeId). All (IsMode P sigs) is) (sym c.as_slice.ensures.value)
    (asked_among (plain_program P) (graph_of c.args.insts) sigs c.args.goals.now (IsMode P sigs) (mode_ids P sigs) c.in_ok-asked.asked.items (c.in_ok-asked.ensures {u = tt}).asked (are_modes P sigs)))

pub list_faults-requires-clause-goals : goal.list_faults-requires-clause-goals
list_faults-requires-clause-goals c =
    are_normal c.in_ok-procs.procs c.args.sigs.now c.args.goals.now
    (subst (λ (q : PlainProcs). HasNormalGoals q.program c.args.goals.now) (sym (c.in_ok-procs.ensures {u = tt})) c.requires.goals)
    (c.in_ok-check_preconditions.ensures {u = tt}).goals_fit

pub returns : goal.returns
returns c =
    let P = c.args.program in
    let S = plain_program P in
    let sigs = c.args.sigs.now in
    let goals = c.args.goals.now in
    let J = c.asked_modes.new.insts in
    let q = c.in_ok-procs.procs in
    let r = c.list_faults.new.procs in
    let ids = c.in_ok-asked.asked.items in
    let b = c.in_ok-list_faults.ensures {u = tt} in
    λ runs ds has.
    break_uniqueness {first = q} {last = r} {untidy = c.args.untidy.items} {faults = b.rules} {ids = ids}
    (begins P ds sigs c.args.untidy.items J q (c.in_ok-procs.ensures {u = tt}) c.requires.fits.2
    (insts_on P ds c.args.insts J c.asked_modes.ensures.program c.asked_modes.ensures.graph c.asked_modes.ensures.count has)
    (subst (λ (G : Graph). AreUntidy S G sigs c.args.untidy.items) (sym c.asked_modes.ensures.graph) c.requires.untidy))
    c.requires.some (c.in_ok-check_preconditions.ensures {u = tt})
    (subst (λ (x : PlainProcs). AreAsked S (insts_of x) sigs goals (mode_ids P sigs) ids) (sym (c.in_ok-procs.ensures {u = tt}))
    (subst (λ (G : Graph). AreAsked S G sigs goals (mode_ids P sigs) ids) (sym c.asked_modes.ensures.graph) (c.in_ok-asked.ensures {u = tt}).asked))
    (subst (λ (is : List ModeId). AreBroken sigs goals q r is b.rules) c.as_slice.ensures.value b.broken)
    (c.in_ok-sort_by_place.ensures {u = tt} ∙ ap by_place b.behind)

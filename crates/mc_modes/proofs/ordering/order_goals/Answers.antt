use Rattle.std.proofs.Common.{◌≡◌, ◌<◌, ◌≤◌, List, [], length, sym, ap, subst, ◌∙◌, arith}
use Rattle.mc_program.specs.declared.program.Program.{Program}
use Rattle.mc_source.specs.declared.rule.Broken.{Broken}
use Rattle.mc_model.specs.declared.inst.Sig.{Sig}
use Rattle.mc_modes.specs.Numbering.{mode_ids}
use Rattle.mc_modes.specs.code.Steps.{SoFar}
use Rattle.mc_modes.specs.declared.modes.ModeId.{ModeId}
use Rattle.mc_modes.proofs.OneMode.{some_listed}
use Rattle.mc_modes.proofs.OneStep.{all_tried, goal_there, exported_there, may_try, comes_next, goes_on}
use Rattle.mc_modes.proofs.SoFarMore.{at_first, some_by_place}
use Rattle.mc_modes.proofs.ordering.order_goals.Goals as goal

ids_are : (xs ids : List ModeId) (sigs : List Sig) (P Q : Program) → xs ≡ ids → ids ≡ mode_ids P sigs → P ≡ Q → xs ≡ mode_ids Q sigs
ids_are xs ids sigs P Q same is e = same ∙ is ∙ ap (λ (R : Program). mode_ids R sigs) e

abbrev none : ModeId
none = record { pred = 0; mode = 0 }

pub loop-id-init : goal.loop-id-init
loop-id-init c =
    subst (λ (fs : List Broken). SoFar c.args.sigs.now c.args.goals.now c.args.exported.now c.args.procs.now c.args.procs.now [] fs) (sym c.new-faults.ensures.items)
    (at_first c.args.sigs.now c.args.goals.now c.args.exported.now c.args.procs.now c.requires.none)

pub bounds-goals-pred : goal.bounds-goals-pred
bounds-goals-pred c =
    let xs = c.deref-id-items.result.now in
    let i = c.loop-id.id-index in
    let lt : i < length xs = omega (arith, c.loop-id-test.true) in
    let same = ids_are xs c.in_ok-ids.ids.items c.args.sigs.now c.program.result.now c.args.procs.now.program c.deref-id-items.ensures.value (c.in_ok-ids.ensures {u = tt}) c.program.ensures in
    goal_there c.args.sigs.now c.args.goals.now c.args.exported.now c.args.procs.now xs i none same lt c.requires.goals

pub bounds-exported-pred : goal.bounds-exported-pred
bounds-exported-pred c =
    let xs = c.deref-id-items.result.now in
    let i = c.loop-id.id-index in
    let lt : i < length xs = omega (arith, c.loop-id-test.true) in
    let same = ids_are xs c.in_ok-ids.ids.items c.args.sigs.now c.program.result.now c.args.procs.now.program c.deref-id-items.ensures.value (c.in_ok-ids.ensures {u = tt}) c.program.ensures in
    exported_there c.args.sigs.now c.args.goals.now c.args.exported.now c.args.procs.now xs i none same lt c.requires.goals c.requires.exported

pub try_mode-requires-clause-stands : goal.try_mode-requires-clause-stands
try_mode-requires-clause-stands c =
    let xs = c.deref-id-items.result.now in
    let i = c.loop-id.id-index in
    let lt : i < length xs = omega (arith, c.loop-id-test.true) in
    let same = ids_are xs c.in_ok-ids.ids.items c.args.sigs.now c.program.result.now c.args.procs.now.program c.deref-id-items.ensures.value (c.in_ok-ids.ensures {u = tt}) c.program.ensures in
    may_try c.args.sigs.now c.args.goals.now c.args.exported.now c.args.procs.now xs i none same lt c.requires.goals
    c.loop-id.procs c.index-goals-pred.result c.index-goals-pred.is c.loop-id.faults.items c.loop-id.invariant c.requires.sigs

pub try_mode-requires-clause-next : goal.try_mode-requires-clause-next
try_mode-requires-clause-next c =
    let xs = c.deref-id-items.result.now in
    let i = c.loop-id.id-index in
    let lt : i < length xs = omega (arith, c.loop-id-test.true) in
    let same = ids_are xs c.in_ok-ids.ids.items c.args.sigs.now c.program.result.now c.args.procs.now.program c.deref-id-items.ensures.value (c.in_ok-ids.ensures {u = tt}) c.program.ensures in
    comes_next c.args.sigs.now c.args.goals.now c.args.exported.now c.args.procs.now xs i none same lt c.requires.goals
    c.loop-id.procs c.index-goals-pred.result c.index-goals-pred.is c.loop-id.faults.items c.loop-id.invariant c.requires.numbered

pub loop-id-preserved : goal.loop-id-preserved
loop-id-preserved c =
    let xs = c.deref-id-items.result.now in
    let i = c.loop-id.id-index in
    let lt : i < length xs = omega (arith, c.loop-id-test.true) in
    let same = ids_are xs c.in_ok-ids.ids.items c.args.sigs.now c.program.result.now c.args.procs.now.program c.deref-id-items.ensures.value (c.in_ok-ids.ensures {u = tt}) c.program.ensures in
    goes_on c.args.sigs.now c.args.goals.now c.args.exported.now c.args.procs.now xs i none same lt c.requires.goals
    c.loop-id.procs c.index-goals-pred.result c.index-goals-pred.is c.loop-id.faults.items c.loop-id.invariant
    c.try_mode.new.procs c.try_mode.new.faults.items (c.in_ok-try_mode.ensures {u = tt})

pub returns-clause-became : goal.returns-clause-became
returns-clause-became c =
    let xs = c.deref-id-items.result.now in
    let i = c.loop-id.id-index in
    let le : length xs ≤ i = omega (arith, c.loop-id-test.false) in
    let same = ids_are xs c.in_ok-ids.ids.items c.args.sigs.now c.program.result.now c.args.procs.now.program c.deref-id-items.ensures.value (c.in_ok-ids.ensures {u = tt}) c.program.ensures in
    let s = all_tried c.args.sigs.now c.args.goals.now c.args.exported.now c.args.procs.now c.loop-id.procs (mode_ids c.args.procs.now.program c.args.sigs.now) i c.loop-id.faults.items
    (subst (λ (ids : List ModeId). length ids ≤ i) same le) c.loop-id.invariant in (
      c.loop-id.faults.items,
      s.broken,
      c.in_ok-sort_by_place.ensures {u = tt},
      λ e. some_by_place c.loop-id.faults.items
          (some_listed c.loop-id.faults.items c.loop-id.faults.len c.loop-id.faults.ok.0 c.if-is_empty.ensures)
          (sym (c.in_ok-sort_by_place.ensures {u = tt}) ∙ e),
    )

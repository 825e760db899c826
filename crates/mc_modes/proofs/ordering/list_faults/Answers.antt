use Rattle.std.proofs.Common.{◌<◌, ◌≤◌, length, arith}
use Rattle.mc_modes.specs.declared.modes.ModeId.{ModeId}
use Rattle.mc_modes.proofs.Listing.{none_tried, all_listed, goal_there, may_try, some_still, goes_on}
use Rattle.mc_modes.proofs.ordering.list_faults.Goals as goal

abbrev none : ModeId
none = record { pred = 0; mode = 0 }

pub loop-id-init : goal.loop-id-init
loop-id-init c = none_tried c.args.sigs.now c.args.goals.now c.args.procs.now c.args.faults.now.items

pub bounds-goals-id : goal.bounds-goals-id
bounds-goals-id c =
    let i = c.loop-id.id-index in
    let lt : i < length c.args.ids.now = omega (arith, c.loop-id-test.true) in
    goal_there c.args.sigs.now c.args.goals.now c.args.procs.now c.args.ids.now i none c.requires.ids lt c.requires.goals

pub try_mode-requires-clause-stands : goal.try_mode-requires-clause-stands
try_mode-requires-clause-stands c =
    let i = c.loop-id.id-index in
    let lt : i < length c.args.ids.now = omega (arith, c.loop-id-test.true) in
    may_try c.args.sigs.now c.args.goals.now c.args.procs.now c.args.ids.now i none c.requires.ids lt c.requires.goals
    c.loop-id.procs c.index-goals-id.result c.index-goals-id.is c.args.faults.now.items c.loop-id.faults.items c.loop-id.invariant c.requires.sigs

pub try_mode-requires-clause-next : goal.try_mode-requires-clause-next
try_mode-requires-clause-next c =
    let i = c.loop-id.id-index in
    let lt : i < length c.args.ids.now = omega (arith, c.loop-id-test.true) in
    λ e.
    absurd
    (some_still c.args.sigs.now c.args.goals.now c.args.procs.now c.args.ids.now i none c.requires.ids lt c.requires.goals
    c.loop-id.procs c.index-goals-id.result c.index-goals-id.is c.args.faults.now.items c.loop-id.faults.items c.loop-id.invariant c.requires.some e)

pub loop-id-preserved : goal.loop-id-preserved
loop-id-preserved c =
    let i = c.loop-id.id-index in
    let lt : i < length c.args.ids.now = omega (arith, c.loop-id-test.true) in
    goes_on c.args.sigs.now c.args.goals.now c.args.procs.now c.args.ids.now i none c.requires.ids lt c.requires.goals
    c.loop-id.procs c.index-goals-id.result c.index-goals-id.is c.args.faults.now.items c.loop-id.faults.items c.loop-id.invariant c.requires.some
    c.try_mode.new.procs c.try_mode.new.faults.items (c.in_ok-try_mode.ensures {u = tt})

pub returns : goal.returns
returns c =
    let i = c.loop-id.id-index in
    let le : length c.args.ids.now ≤ i = omega (arith, c.loop-id-test.false) in
    all_listed c.args.sigs.now c.args.goals.now c.args.procs.now c.loop-id.procs c.args.ids.now i c.args.faults.now.items c.loop-id.faults.items le c.loop-id.invariant

use Rattle.std.proofs.Common.{◌≡◌, ◌∙◌, ◌<◌, ◌≤◌, ◌+◌, ℕ, List, [], ◌∷◌, ◌++◌, map, length, get_or, drop, Some, None, Ok, Err, not, true, true≢false, refl, sym, ap, subst, arith}
use Rattle.mc_model.specs.Flat as F
use Rattle.mc_model.specs.Flat.{Flat_goal, flats, variables_of, variables_of_all, free_in, And, no_flat}
use Rattle.mc_model.specs.Scheduled.{Conj, Exists, Not, nodes, Scheduled, Disj, no_nodes, node_then, Ite}
use Rattle.mc_model.specs.Stream.{is_bound}
use Rattle.mc_model.specs.PlainGoals.{plain_flat, plain_node, plain_sched}
use Rattle.mc_model.specs.declared.flat.Flat.{Flat, size-Flat}
use Rattle.mc_model.specs.declared.sched.GoalNode.{GoalNode}
use Rattle.mc_accepted.specs.Arranged.{alone, ascending, changing}
use Rattle.mc_accepted.specs.NodeOracle.{of_nodes, other_node}
use Rattle.mc_procs.specs.Named.{NumbersBelow}
use Rattle.mc_mode_state.specs.States.{point_of, is_outside}
use Rattle.mc_mode_state.specs.Answers.{end_of, FreshAlike}
use Rattle.mc_mode_state.specs.declared.part.Part.{Part}
use Rattle.mc_mode_state.proofs.EndColumns.{ascending-below}
use Rattle.mc_mode_state.proofs.Growths.{nodes_grown, only_grown_trans, stepped_then_grown}
use Rattle.mc_mode_state.proofs.Steps.{same-refl, moved-refl, moved-trans, stepped-refl, stepped-trans}
use Rattle.mc_modes.specs.Fitting.{GoalFits}
use Rattle.mc_modes.specs.Tries.{attempt_of, tells_outside, TryPost}
use Rattle.mc_modes.specs.code.Frames.{Entered, Left}
use Rattle.mc_modes.specs.code.Waiting.{IsReady, NoneIsReady, goals_at, variables_of_each, tells_around, Counted, nothing}
use Rattle.mc_modes.specs.code.Parts.{alone_at, trying_beside, DoesBranch, MergedAs}
use Rattle.mc_modes.proofs.Alike.{none_chosen, alone-alike, keeps-same, fresh-kept, settled-alike, one-alike, node-alone, fresh-around, keeps-taken}
use Rattle.mc_modes.proofs.Backing.{backed, trail-marked, bound-by, beside-same, then-nothing, then-branch}
use Rattle.mc_modes.proofs.Closing.{Back, back-step, around-as, negation-runs, negation-binds, branch-runs, condition-runs}
use Rattle.mc_modes.proofs.Counts.{below-second, below-more, below-both}
use Rattle.mc_modes.proofs.Failing.{failed-wrapped, failed-branch, failed-negation, failed-before, failed-else, failed-condition, failed-then, true-runs}
use Rattle.mc_modes.proofs.Fits.{sigs-moved, goal-at, goal-later}
use Rattle.mc_modes.proofs.Frames.{entered-as, left-as, frame-stands, in-and-out, out-and-in}
use Rattle.mc_modes.proofs.Free.{free-below, without-below}
use Rattle.mc_modes.proofs.Passing.{passed-all}
use Rattle.mc_modes.proofs.Placing.{place-below, placed-fits, placed-counted, goals-long, goals-later}
use Rattle.mc_modes.proofs.Scanning.{same-trans, found-on, found-asleep, passed-with, found-ready, found-alike}
use Rattle.mc_modes.proofs.Settling.{goes-settles, settled-does, goes-as}
use Rattle.mc_modes.proofs.Taking.{some-wait, Turned, turned-begins, turned-counted, turned-on, turned-breaks, turned-runs, turned-alike}
use Rattle.mc_modes.proofs.Turning.{each-below}
use Rattle.mc_modes.proofs.Ways.{count-same, conjunction-between, conjunction-runs, conjunction-fails, runs-between, breaks-between, by-leaving, by-entering, runs-wrapped}
use Rattle.std.proofs.lemmas.List.{drop_more, drop_all, get_or-map, length-map}
use Rattle.std.proofs.lemmas.List.Edits.{length-remove}
use Rattle.mc_model.specs.declared.sched.Sched as D
use Rattle.mc_procs.proofs.Views.{plain_sched-Disj, plain_sched-Conj}
use Rattle.mc_modes.proofs.Branches.{goal-below}
use Rattle.mc_modes.proofs.Forking.{Forked, forked-begins, forked-on, forked-fails, forked-goes, forked-alike}
use denote.Param.Weighed.{at_most}
use Rattle.mc_insts.specs.Graphs.{count_of}
use Rattle.mc_mode_state.specs.Merged.{RowsFit}
use Rattle.mc_model.specs.Lists.{without}
use Rattle.mc_modes.proofs.AtomAnswers.{same-goes, made-goes, constant-goes, call-goes, same-among, made-among, constant-among, call-among, among-as}
use Rattle.mc_modes.proofs.Choosing.{begins}
use Rattle.mc_modes.proofs.Deciding.{chosen-goes}
use Rattle.mc_modes.proofs.Halves.{begun-alike, condition-fits, then-fits, else-fits, seen-below, seen-same, chosen-rows, chosen-as, ite-alike, failed-beside, quantified-fits, goes-quantified}
use Rattle.mc_modes.proofs.Views.{flat-true, flat-some, flat-same, flat-made, flat-const, flat-call}
use Rattle.mc_modes.specs.Signatures.{declared_in}
use Rattle.mc_program.specs.Values.{plain_value}
use Rattle.mc_modes.proofs.order.+order.Goals as goal
use Rattle.mc_modes.proofs.order.+order.Goals.{first_ready-then-not-branch+in-Err-Fault, first_ready-else-not-branch, in_turn-then-turns-test+else-not-is_empty, in_turn-else-turns-test}

pub try_goal-settled-requires : goal.try_goal-settled-requires
try_goal-settled-requires t c =
    let g = plain_flat c.args.goal.now in
    goes-settles (tells_outside (variables_of g) c.args.state.now) (attempt_of c.args.sigs.now g c.args.procs.now c.args.state.now) c.args.procs.now c.attempt-tried.new.procs c.args.state.now c.attempt-tried.new.state c.attempt-tried.result c.attempt-tried.ensures.does

pub try_goal-returns-clause-does : goal.try_goal-returns-clause-does
try_goal-returns-clause-does t c =
    let g = plain_flat c.args.goal.now in
    let e = c.settled.ensures in
    settled-does (tells_outside (variables_of g) c.args.state.now) (attempt_of c.args.sigs.now g c.args.procs.now c.args.state.now) c.args.procs.now c.attempt-tried.new.procs c.args.state.now c.attempt-tried.new.state c.settled.new.state
    c.attempt-tried.result c.settled.result c.mark-mark.result (λ first O w. w.0) c.requires.stands c.attempt-tried.ensures.does e.same c.mark-mark.ensures e.kept e.undone e.nodes

pub try_goal-returns-clause-alike : goal.try_goal-returns-clause-alike
try_goal-returns-clause-alike t c =
    let e = c.settled.ensures in
    settled-alike (plain_flat c.args.goal.now) c.attempt-tried.new.state c.settled.new.state c.attempt-tried.result c.settled.result e.same e.kept c.attempt-tried.ensures.alike

pub conjunction-leave_goals-requires-clause-below : goal.conjunction-leave_goals-requires-clause-below
conjunction-leave_goals-requires-clause-below t c =
    let q = c.args.procs.now in
    let s = c.args.state.now in
    let k = c.in-Ok.ensures.does.stepped in
    let count : length c.enter_goals.new.state.insts.items ≡ length s.insts.items = ap (λ x. length x.items) c.in_ok-enter_goals.ensures.frame.insts in
    let even : length c.in_turn.new.state.outside.items ≡ length c.in_turn.new.state.insts.items = k.moved.stands.even.outside in
    let more : length c.enter_goals.new.state.insts.items ≤ length c.in_turn.new.state.insts.items = k.later.more in
    below-more (length s.insts.items) (length c.in_turn.new.state.outside.items) (variables_of_all (flats (map plain_flat c.args.goals.now))) (omega (arith, count, even, more)) c.requires.fits.variables

pub conjunction-leave_goals-requires-in-Err-Fault-clause-below : goal.conjunction-leave_goals-requires-in-Err-Fault-clause-below
conjunction-leave_goals-requires-in-Err-Fault-clause-below t c =
    let q = c.args.procs.now in
    let s = c.args.state.now in
    let k = (rw c.in-Err-Fault.field-0-is at c.in-Err-Fault.ensures.does).stepped in
    let count : length c.enter_goals.new.state.insts.items ≡ length s.insts.items = ap (λ x. length x.items) c.in_ok-enter_goals.ensures.frame.insts in
    let even : length c.in_turn.new.state.outside.items ≡ length c.in_turn.new.state.insts.items = k.moved.stands.even.outside in
    let more : length c.enter_goals.new.state.insts.items ≤ length c.in_turn.new.state.insts.items = k.later.more in
    below-more (length s.insts.items) (length c.in_turn.new.state.outside.items) (variables_of_all (flats (map plain_flat c.args.goals.now))) (omega (arith, count, even, more)) c.requires.fits.variables

pub conjunction-returns-in_ok-part-in-Ok-clause-does : goal.conjunction-returns-in_ok-part-in-Ok-clause-does
conjunction-returns-in_ok-part-in-Ok-clause-does t c =
    let s = c.args.state.now in
    let u = c.enter_goals.new.state in
    let v = c.in_turn.new.state in
    let w = c.leave_goals.new.state in
    let vs = variables_of_all (flats (map plain_flat c.args.goals.now)) in
    let i : Entered vs s u = c.in_ok-enter_goals.ensures in
    let j : Left vs v w = c.in_ok-leave_goals-in-Ok.ensures in
    let o = c.in_ok-part-in-Ok.ensures in
    let gs = map plain_flat c.args.goals.now in
    let d = conjunction-between c.args.sigs.now gs c.args.procs.now c.in_turn.new.procs s u v w c.in-Ok.part i j c.in-Ok.ensures.does in
    conjunction-runs c.args.sigs.now gs c.args.procs.now c.in_turn.new.procs s u v w c.in-Ok.part c.in_ok-part-in-Ok.part d
    (o.goals s d.stepped.later.leads (trail-marked s c.mark-mark.result c.mark-mark.ensures)) o.reachable

pub conjunction-returns-in_ok-part-in-Ok-clause-alike : goal.conjunction-returns-in_ok-part-in-Ok-clause-alike
conjunction-returns-in_ok-part-in-Ok-clause-alike t c =
    let s = c.args.state.now in
    let u = c.enter_goals.new.state in
    let v = c.in_turn.new.state in
    let w = c.leave_goals.new.state in
    let gs = map plain_flat c.args.goals.now in
    let vs = variables_of_all (flats gs) in
    let i : Entered vs s u = c.in_ok-enter_goals.ensures in
    let j : Left vs v w = c.in_ok-leave_goals-in-Ok.ensures in
    let d = conjunction-between c.args.sigs.now gs c.args.procs.now c.in_turn.new.procs s u v w c.in-Ok.part i j c.in-Ok.ensures.does in
    one-alike (And (flats gs)) w (length w.insts.items) (point_of s.insts.items) (end_of c.in-Ok.part.reachable w) (Conj (nodes (map plain_node c.in-Ok.part.goals.items))) c.in_ok-part-in-Ok.part
    (c.in_ok-part-in-Ok.ensures.goals s d.stepped.later.leads (trail-marked s c.mark-mark.result c.mark-mark.ensures))
    (λ T next h b. c.in-Ok.ensures.alike T next (keeps-same v w j.frame.types T h) b)

pub conjunction-returns-in_ok-leave_goals-in-Err-Fault-clause-does : goal.conjunction-returns-in_ok-leave_goals-in-Err-Fault-clause-does
conjunction-returns-in_ok-leave_goals-in-Err-Fault-clause-does t c =
    let s = c.args.state.now in
    let u = c.enter_goals.new.state in
    let v = c.in_turn.new.state in
    let w = c.leave_goals-in-Err-Fault.new.state in
    let vs = variables_of_all (flats (map plain_flat c.args.goals.now)) in
    let i : Entered vs s u = c.in_ok-enter_goals.ensures in
    let j : Left vs v w = c.in_ok-leave_goals-in-Err-Fault.ensures in
    rw c.in-Err-Fault.field-0-is (conjunction-fails c.args.sigs.now (map plain_flat c.args.goals.now) c.args.procs.now c.in_turn.new.procs s u v w c.in-Err-Fault.fault i j (rw c.in-Err-Fault.field-0-is at c.in-Err-Fault.ensures.does))

pub try_among-returns-in-Same-clause-does : goal.try_among-returns-in-Same-clause-does
try_among-returns-in-Same-clause-does t c =
    let q = c.args.procs.now in
    let s = c.args.state.now in
    let g = F.Same c.in-Same.x c.in-Same.y in
    let e : plain_flat c.args.goal.now ≡ g = ap plain_flat c.in-Same.is ∙ flat-same c.in-Same.x c.in-Same.y in
    among-as c.args.sigs.now q q s c.same.new.self c.same.result g (plain_flat c.args.goal.now) e
    (same-among c.args.sigs.now q q s c.same.new.self c.same.result c.in-Same.x c.in-Same.y (c.same.ensures.answer (declared_in c.args.sigs.now)))

pub try_among-returns-in-Made-clause-does : goal.try_among-returns-in-Made-clause-does
try_among-returns-in-Made-clause-does t c =
    let q = c.args.procs.now in
    let s = c.args.state.now in
    let ys = c.as_slice.result.now in
    let g = F.Made c.in-Made.x c.in-Made.symbol ys in
    let e : plain_flat c.args.goal.now ≡ g = ap plain_flat c.in-Made.is ∙ (flat-made c.in-Made.x c.in-Made.symbol c.in-Made.ys ∙ ap (F.Made c.in-Made.x c.in-Made.symbol) (sym c.as_slice.ensures.items)) in
    among-as c.args.sigs.now q c.made.new.procs s c.made.new.self c.made.result g (plain_flat c.args.goal.now) e
    (made-among c.args.sigs.now q c.made.new.procs s c.made.new.self c.made.result c.in-Made.x c.in-Made.symbol ys (c.made.ensures.answer (declared_in c.args.sigs.now)))

pub try_among-returns-in-Const-clause-does : goal.try_among-returns-in-Const-clause-does
try_among-returns-in-Const-clause-does t c =
    let q = c.args.procs.now in
    let s = c.args.state.now in
    let g = F.Is c.in-Const.x (plain_value c.in-Const.value) in
    let e : plain_flat c.args.goal.now ≡ g = ap plain_flat c.in-Const.is ∙ flat-const c.in-Const.x c.in-Const.value in
    among-as c.args.sigs.now q q s c.constant.new.self c.constant.result g (plain_flat c.args.goal.now) e
    (constant-among c.args.sigs.now q q s c.constant.new.self c.constant.result c.in-Const.x (plain_value c.in-Const.value) (c.constant.ensures.answer (declared_in c.args.sigs.now)))

pub try_among-returns-in-Call-clause-does : goal.try_among-returns-in-Call-clause-does
try_among-returns-in-Call-clause-does t c =
    let q = c.args.procs.now in
    let s = c.args.state.now in
    let xs = c.as_slice-in-Call.result.now in
    let g = F.Call c.in-Call.pred xs in
    let e : plain_flat c.args.goal.now ≡ g = ap plain_flat c.in-Call.is ∙ (flat-call c.in-Call.pred c.in-Call.xs ∙ ap (F.Call c.in-Call.pred) (sym c.as_slice-in-Call.ensures.items)) in
    among-as c.args.sigs.now q c.call.new.procs s c.call.new.state c.call.result g (plain_flat c.args.goal.now) e
    (call-among c.args.sigs.now q c.call.new.procs s c.call.new.state c.call.result c.in-Call.pred xs c.call.ensures.answer)

pub try_among-compound_among-requires : goal.try_among-compound_among-requires
try_among-compound_among-requires t c =
    let d = c.decreases in
    (omega (arith, d), (c.requires.stands, (c.requires.sigs, (c.requires.fits, c.requires.counted))))

pub compound_among-enter-requires : goal.compound_among-enter-requires
compound_among-enter-requires t c =
    let q = c.args.procs.now in
    let s = c.args.state.now in
    let k = c.in-Ok.ensures.does.stepped in
    let count : length c.leave.new.self.insts.items ≡ length s.insts.items = ap (λ x. length x.items) c.leave.ensures.insts in
    let even : length c.try_goal.new.state.outside.items ≡ length c.try_goal.new.state.insts.items = k.moved.stands.even.outside in
    let more : length c.leave.new.self.insts.items ≤ length c.try_goal.new.state.insts.items = k.later.more in
    subst (NumbersBelow (length c.try_goal.new.state.outside.items)) (sym (c.deref-in-Ok.ensures.value ∙ c.in_ok-vars.ensures)) (below-more (length s.insts.items) (length c.try_goal.new.state.outside.items) (variables_of (plain_flat c.args.goal.now)) (omega (arith, count, even, more)) c.requires.fits.variables)

pub compound_among-returns-in-Ok-clause-does : goal.compound_among-returns-in-Ok-clause-does
compound_among-returns-in-Ok-clause-does t c =
    let q = c.args.procs.now in
    let s = c.args.state.now in
    let u = c.leave.new.self in
    let v = c.try_goal.new.state in
    let w = c.enter.new.self in
    let l = c.leave.ensures in
    let e = c.in_ok-enter-in-Ok.ensures in
    let g = plain_flat c.args.goal.now in
    let vs = variables_of g in
    let is : c.deref.result.now ≡ vs = c.deref.ensures.value ∙ c.in_ok-vars.ensures in
    let js : c.deref-in-Ok.result.now ≡ vs = c.deref-in-Ok.ensures.value ∙ c.in_ok-vars.ensures in
    let i : Left vs s u = left-as s u c.deref.result.now vs is l.insts l.trail l.types l.nodes l.len l.counts in
    let j : Entered vs v w = entered-as v w c.deref-in-Ok.result.now vs js e.insts e.trail e.types e.nodes e.len e.counts in
    runs-between (tells_around vs s) (tells_outside vs u) (attempt_of c.args.sigs.now g q s) (attempt_of c.args.sigs.now g q u) (by-leaving c.args.sigs.now g vs q s u i) q c.try_goal.new.procs s u v w i.frame j.frame
    (out-and-in vs s u v w i c.in-Ok.ensures.does.stepped.later.outside j) c.in-Ok.part c.in-Ok.ensures.does

pub compound_among-returns-in-Ok-clause-alike : goal.compound_among-returns-in-Ok-clause-alike
compound_among-returns-in-Ok-clause-alike t c =
    let v = c.try_goal.new.state in
    let w = c.enter.new.self in
    fresh-kept (plain_flat c.args.goal.now) v w c.in-Ok.part (keeps-same v w c.in_ok-enter-in-Ok.ensures.types) c.in-Ok.ensures.alike

pub compound_among-returns-in-Err-Fault-clause-does : goal.compound_among-returns-in-Err-Fault-clause-does
compound_among-returns-in-Err-Fault-clause-does t c =
    let q = c.args.procs.now in
    let s = c.args.state.now in
    let u = c.leave.new.self in
    let v = c.try_goal.new.state in
    let w = c.enter-in-Err-Fault.new.self in
    let l = c.leave.ensures in
    let e = c.in_ok-enter-in-Err-Fault.ensures in
    let g = plain_flat c.args.goal.now in
    let vs = variables_of g in
    let is : c.deref.result.now ≡ vs = c.deref.ensures.value ∙ c.in_ok-vars.ensures in
    let js : c.deref-in-Err-Fault.result.now ≡ vs = c.deref-in-Err-Fault.ensures.value ∙ c.in_ok-vars.ensures in
    let i : Left vs s u = left-as s u c.deref.result.now vs is l.insts l.trail l.types l.nodes l.len l.counts in
    let j : Entered vs v w = entered-as v w c.deref-in-Err-Fault.result.now vs js e.insts e.trail e.types e.nodes e.len e.counts in
    let a = rw c.in-Err-Fault.field-0-is at c.in-Err-Fault.ensures.does in
    breaks-between (tells_around vs s) (tells_outside vs u) (attempt_of c.args.sigs.now g q s) (attempt_of c.args.sigs.now g q u) (by-leaving c.args.sigs.now g vs q s u i) q c.try_goal.new.procs s u v w i.frame j.frame
    (out-and-in vs s u v w i a.same.outside j) c.in-Err-Fault.fault (j.frame.len ∙ (a.same.outsides ∙ i.frame.len)) a

pub beside-leave-requires-clause-below : goal.beside-leave-requires-clause-below
beside-leave-requires-clause-below t c =
    let q = c.args.procs.now in
    let s = c.args.state.now in
    let k = c.in-Ok.ensures.does.stepped in
    let count : length c.enter.new.self.insts.items ≡ length s.insts.items = ap (λ x. length x.items) c.in_ok-enter.ensures.insts in
    let even : length c.try_goal.new.state.outside.items ≡ length c.try_goal.new.state.insts.items = k.moved.stands.even.outside in
    let more : length c.enter.new.self.insts.items ≤ length c.try_goal.new.state.insts.items = k.later.more in
    below-more (length s.insts.items) (length c.try_goal.new.state.outside.items) c.args.vars.now (omega (arith, count, even, more)) c.requires.variables

pub beside-returns-in-Ok-clause-does : goal.beside-returns-in-Ok-clause-does
beside-returns-in-Ok-clause-does t c =
    let q = c.args.procs.now in
    let s = c.args.state.now in
    let u = c.enter.new.self in
    let v = c.try_goal.new.state in
    let w = c.leave.new.self in
    let e = c.in_ok-enter.ensures in
    let l = c.leave.ensures in
    let g = plain_flat c.args.goal.now in
    let vs = c.args.vars.now in
    let us = variables_of g in
    let i : Entered vs s u = entered-as s u vs vs refl e.insts e.trail e.types e.nodes e.len e.counts in
    let j : Left vs v w = left-as v w vs vs refl l.insts l.trail l.types l.nodes l.len l.counts in
    runs-between (tells_outside us s) (tells_outside us u) (trying_beside vs c.args.sigs.now g q s) (attempt_of c.args.sigs.now g q u) (by-entering c.args.sigs.now g us vs q s u i) q c.try_goal.new.procs s u v w i.frame j.frame
    (in-and-out vs s u v w i c.in-Ok.ensures.does.stepped.later.outside j) c.in-Ok.part c.in-Ok.ensures.does

pub beside-returns-in-Ok-clause-alike : goal.beside-returns-in-Ok-clause-alike
beside-returns-in-Ok-clause-alike t c =
    let v = c.try_goal.new.state in
    let w = c.leave.new.self in
    fresh-kept (plain_flat c.args.goal.now) v w c.in-Ok.part (keeps-same v w c.leave.ensures.types) c.in-Ok.ensures.alike

pub beside-returns-in-Err-Fault-clause-does : goal.beside-returns-in-Err-Fault-clause-does
beside-returns-in-Err-Fault-clause-does t c =
    let q = c.args.procs.now in
    let s = c.args.state.now in
    let u = c.enter.new.self in
    let v = c.try_goal.new.state in
    let w = c.leave-in-Err-Fault.new.self in
    let e = c.in_ok-enter.ensures in
    let l = c.leave-in-Err-Fault.ensures in
    let g = plain_flat c.args.goal.now in
    let vs = c.args.vars.now in
    let us = variables_of g in
    let i : Entered vs s u = entered-as s u vs vs refl e.insts e.trail e.types e.nodes e.len e.counts in
    let j : Left vs v w = left-as v w vs vs refl l.insts l.trail l.types l.nodes l.len l.counts in
    let a = rw c.in-Err-Fault.field-0-is at c.in-Err-Fault.ensures.does in
    breaks-between (tells_outside us s) (tells_outside us u) (trying_beside vs c.args.sigs.now g q s) (attempt_of c.args.sigs.now g q u) (by-entering c.args.sigs.now g us vs q s u i) q c.try_goal.new.procs s u v w i.frame j.frame
    (in-and-out vs s u v w i a.same.outside j) c.in-Err-Fault.fault (j.frame.len ∙ (a.same.outsides ∙ i.frame.len)) a

pub quantified-returns-in_ok-part-in-Ok-clause-does : goal.quantified-returns-in_ok-part-in-Ok-clause-does
quantified-returns-in_ok-part-in-Ok-clause-does t c =
    let q = c.args.procs.now in
    let s = c.args.state.now in
    let g = plain_flat c.args.goal.now in
    let vs = c.args.vars.now in
    let o = c.in_ok-part-in-Ok.ensures in
    let d = c.in-Ok.ensures.does in
    runs-wrapped (tells_outside (variables_of g) s) (attempt_of c.args.sigs.now g q s) (point_of s.insts.items) (λ C n e gs. Exists vs (alone (of_nodes C) n (point_of s.insts.items) e gs)) q c.try_goal.new.procs s c.try_goal.new.state
    c.in-Ok.part c.in_ok-part-in-Ok.part d
    (λ C. around-as (Exists vs) s c.try_goal.new.state c.try_goal.new.state (end_of c.in-Ok.part.reachable c.try_goal.new.state) C c.in-Ok.part c.in_ok-part-in-Ok.part c.in_ok-goal-in-Ok.goal
    (c.in_ok-goal-in-Ok.ensures s d.stepped.later.leads (trail-marked s c.mark-mark.result c.mark-mark.ensures) C)
    (o.goal s d.stepped.later.leads (trail-marked s c.mark-mark.result c.mark-mark.ensures))) o.reachable

pub quantified-returns-in_ok-part-in-Ok-clause-alike : goal.quantified-returns-in_ok-part-in-Ok-clause-alike
quantified-returns-in_ok-part-in-Ok-clause-alike t c =
    let g = plain_flat c.args.goal.now in
    let vs = c.args.vars.now in
    let s = c.args.state.now in
    let u = c.try_goal.new.state in
    let p = c.in-Ok.part in
    let leads = c.in-Ok.ensures.does.stepped.later.leads in
    fresh-around g (F.Exists vs g) (Exists vs) u u (length u.insts.items) (point_of s.insts.items) (end_of p.reachable u) p c.in_ok-part-in-Ok.part (alone_at none_chosen u p (point_of s.insts.items))
    (λ next b. below-second next vs (variables_of g) b) (λ T next n a. a) (keeps-same u u refl)
    (around-as (Exists vs) s u u (end_of p.reachable u) none_chosen p c.in_ok-part-in-Ok.part c.in_ok-goal-in-Ok.goal
    (c.in_ok-goal-in-Ok.ensures s leads (trail-marked s c.mark-mark.result c.mark-mark.ensures) none_chosen)
    (c.in_ok-part-in-Ok.ensures.goal s leads (trail-marked s c.mark-mark.result c.mark-mark.ensures)))
    (λ T next a. alone-alike T next none_chosen (length u.insts.items) (point_of s.insts.items) (end_of p.reachable u) (nodes (map plain_node p.goals.items)) a) c.in-Ok.ensures.alike

pub quantified-returns-in-Err-clause-does : goal.quantified-returns-in-Err-clause-does
quantified-returns-in-Err-clause-does t c =
    let q = c.args.procs.now in
    let s = c.args.state.now in
    let g = plain_flat c.args.goal.now in
    failed-wrapped (tells_outside (variables_of g) s) (attempt_of c.args.sigs.now g q s) (point_of s.insts.items) (λ C n e gs. Exists c.args.vars.now (alone (of_nodes C) n (point_of s.insts.items) e gs)) q c.try_goal.new.procs s c.try_goal.new.state c.in-Err.failed c.in-Err.ensures.does

pub branch-ended-requires-clause-trail : goal.branch-ended-requires-clause-trail
branch-ended-requires-clause-trail t c = c.in-Ok.ensures.does.stepped.moved.stands.trail

pub branch-ended-requires-clause-seen : goal.branch-ended-requires-clause-seen
branch-ended-requires-clause-seen t c =
    let q = c.args.procs.now in
    let s = c.args.state.now in
    below-more (length s.insts.items) (length c.beside.new.state.insts.items) c.args.seen.now c.in-Ok.ensures.does.stepped.later.more c.requires.seen

pub branch-returns-in_ok-goal-in-Ok-clause-does : goal.branch-returns-in_ok-goal-in-Ok-clause-does
branch-returns-in_ok-goal-in-Ok-clause-does t c =
    let q = c.args.procs.now in
    let s = c.args.state.now in
    let r = c.beside.new.procs in
    let v = c.beside.new.state in
    let w = c.back.new.self in
    let g = plain_flat c.args.goal.now in
    let d = c.in-Ok.ensures.does in
    let k = c.back.ensures in
    let b : Back s v w = backed s v w c.mark-mark.result c.mark-mark.ensures d.stepped.later.leads k.back k.count k.outside k.types k.nodes in
    let o = c.in_ok-goal-in-Ok.ensures in
    branch-runs (tells_outside (variables_of g) s) (trying_beside c.args.vars.now c.args.sigs.now g q s) c.args.seen.now q r s v w c.args.ends.now.items c.ended.new.ends.items c.in-Ok.part c.in_ok-goal-in-Ok.goal c.requires.stands
    (below-more (length s.insts.items) (length v.insts.items) c.args.seen.now d.stepped.later.more c.requires.seen) d b (o.goal s d.stepped.later.leads (trail-marked s c.mark-mark.result c.mark-mark.ensures)) o.ends

pub branch-returns-in_ok-goal-in-Ok-clause-alike : goal.branch-returns-in_ok-goal-in-Ok-clause-alike
branch-returns-in_ok-goal-in-Ok-clause-alike t c =
    let s = c.args.state.now in
    let v = c.beside.new.state in
    let w = c.back.new.self in
    node-alone (plain_flat c.args.goal.now) s v w c.mark-mark.result.trail c.in-Ok.part c.in_ok-goal-in-Ok.goal (keeps-same v w c.back.ensures.types) c.in-Ok.ensures.does.stepped.later.leads
    (trail-marked s c.mark-mark.result c.mark-mark.ensures) c.in_ok-goal-in-Ok.ensures.goal c.in-Ok.ensures.alike

pub branch-returns-in-Err-clause-does : goal.branch-returns-in-Err-clause-does
branch-returns-in-Err-clause-does t c =
    let q = c.args.procs.now in
    let s = c.args.state.now in
    let g = plain_flat c.args.goal.now in
    failed-branch (tells_outside (variables_of g) s) (trying_beside c.args.vars.now c.args.sigs.now g q s) c.args.seen.now q c.beside.new.procs s c.beside.new.state c.args.ends.now.items c.args.ends.now.items c.in-Err.failed c.in-Err.ensures.does

pub negation-free-requires : goal.negation-free-requires
negation-free-requires t c =
    let q = c.args.procs.now in
    let s = c.args.state.now in
    let g = plain_flat c.args.goal.now in
    let is : c.deref.result.now ≡ free_in g = c.deref.ensures.value ∙ c.in_ok-vars.ensures in
    subst (NumbersBelow (length s.insts.items)) (sym is) (free-below (length s.insts.items) g c.requires.fits.variables)

pub negation-first_bound-requires : goal.negation-first_bound-requires
negation-first_bound-requires t c =
    let q = c.args.procs.now in
    let s = c.args.state.now in
    let g = plain_flat c.args.goal.now in
    let is : c.deref.result.now ≡ free_in g = c.deref.ensures.value ∙ c.in_ok-vars.ensures in
    let js : c.deref-2.result.now ≡ free_in g = c.deref-2.ensures.value ∙ c.in_ok-vars.ensures in
    let r = c.beside.new.procs in
    let v = c.beside.new.state in
    let few : NumbersBelow (length s.insts.items) c.deref.result.now = subst (NumbersBelow (length s.insts.items)) (sym is) (free-below (length s.insts.items) g c.requires.fits.variables) in
    subst (NumbersBelow (length v.insts.items)) (sym c.in_ok-free.ensures)
    (ascending-below (length v.insts.items) (λ x. not (is_bound (point_of s.insts.items x))) c.deref.result.now
    (below-more (length s.insts.items) (length v.insts.items) c.deref.result.now c.in-Ok.ensures.does.stepped.later.more few))

pub negation-returns-in-Some-clause-does : goal.negation-returns-in-Some-clause-does
negation-returns-in-Some-clause-does t c =
    let q = c.args.procs.now in
    let s = c.args.state.now in
    let g = plain_flat c.args.goal.now in
    let is : c.deref.result.now ≡ free_in g = c.deref.ensures.value ∙ c.in_ok-vars.ensures in
    let js : c.deref-2.result.now ≡ free_in g = c.deref-2.ensures.value ∙ c.in_ok-vars.ensures in
    let r = c.beside.new.procs in
    let v = c.beside.new.state in
    let d = beside-same (tells_outside (variables_of g) s) c.deref-2.result.now (free_in g) c.args.sigs.now g q r s v c.in-Ok.part js c.in-Ok.ensures.does in
    negation-binds c.args.sigs.now g q r s v c.in-Ok.part d c.in-Some.x
    (bound-by s (free_in g) c.deref.result.now c.in_ok-free.free (end_of c.in-Ok.part.reachable v) (Some c.in-Some.x) is c.in_ok-free.ensures c.in-Some.ensures)

pub negation-returns-in-Ok-clause-does : goal.negation-returns-in-Ok-clause-does
negation-returns-in-Ok-clause-does t c =
    let q = c.args.procs.now in
    let s = c.args.state.now in
    let g = plain_flat c.args.goal.now in
    let is : c.deref.result.now ≡ free_in g = c.deref.ensures.value ∙ c.in_ok-vars.ensures in
    let js : c.deref-2.result.now ≡ free_in g = c.deref-2.ensures.value ∙ c.in_ok-vars.ensures in
    let r = c.beside.new.procs in
    let v = c.beside.new.state in
    let w = c.back.new.self in
    let d = beside-same (tells_outside (variables_of g) s) c.deref-2.result.now (free_in g) c.args.sigs.now g q r s v c.in-Ok.part js c.in-Ok.ensures.does in
    let k = c.back.ensures in
    let b : Back s v w = backed s v w c.mark-mark.result c.mark-mark.ensures d.stepped.later.leads k.back k.count k.outside k.types k.nodes in
    let o = c.in_ok-part-in-None.ensures in
    let marked = trail-marked s c.mark-mark.result c.mark-mark.ensures in
    negation-runs c.args.sigs.now g q r s v c.in-Ok.part d w c.in_ok-part-in-None.part c.requires.stands
    (bound-by s (free_in g) c.deref.result.now c.in_ok-free.free (end_of c.in-Ok.part.reachable v) None is c.in_ok-free.ensures c.in-None.ensures) b
    (λ C. around-as Not s v w (end_of true w) C c.in-Ok.part c.in_ok-part-in-None.part c.in_ok-goal-in-None.goal (c.in_ok-goal-in-None.ensures s d.stepped.later.leads marked C)
    (o.goal s (back-step q r s v w c.requires.stands d.stepped b).later.leads marked)) o.reachable

pub negation-returns-in-Ok-clause-alike : goal.negation-returns-in-Ok-clause-alike
negation-returns-in-Ok-clause-alike t c =
    let q = c.args.procs.now in
    let g = plain_flat c.args.goal.now in
    let s = c.args.state.now in
    let v = c.beside.new.state in
    let w = c.back.new.self in
    let p = c.in-Ok.part in
    let d = c.in-Ok.ensures.does in
    let k = c.back.ensures in
    let b : Back s v w = backed s v w c.mark-mark.result c.mark-mark.ensures d.stepped.later.leads k.back k.count k.outside k.types k.nodes in
    let marked = trail-marked s c.mark-mark.result c.mark-mark.ensures in
    fresh-around g (F.Not g) Not v w (length w.insts.items) (point_of s.insts.items) (end_of true w) p c.in_ok-part-in-None.part (alone_at none_chosen v p (point_of s.insts.items))
    (λ next b. b) (λ T next n a. a) (keeps-same v w c.back.ensures.types)
    (around-as Not s v w (end_of true w) none_chosen p c.in_ok-part-in-None.part c.in_ok-goal-in-None.goal (c.in_ok-goal-in-None.ensures s d.stepped.later.leads marked none_chosen)
    (c.in_ok-part-in-None.ensures.goal s (back-step q c.beside.new.procs s v w c.requires.stands d.stepped b).later.leads marked))
    (λ T next a. alone-alike T next none_chosen (length v.insts.items) (point_of s.insts.items) (end_of p.reachable v) (nodes (map plain_node p.goals.items)) a) c.in-Ok.ensures.alike

pub negation-negated-requires : goal.negation-negated-requires
negation-negated-requires t c =
    let s = c.args.state.now in
    let v = c.beside.new.state in
    let w = c.back.new.self in
    let d = c.in-Ok.ensures.does in
    let k = c.back.ensures in
    let b : Back s v w = backed s v w c.mark-mark.result c.mark-mark.ensures d.stepped.later.leads k.back k.count k.outside k.types k.nodes in
    (back-step c.args.procs.now c.beside.new.procs s v w c.requires.stands d.stepped b).moved.stands.trail

pub negation-returns-clause-does : goal.negation-returns-clause-does
negation-returns-clause-does t c =
    let q = c.args.procs.now in
    let s = c.args.state.now in
    let g = plain_flat c.args.goal.now in
    let is : c.deref.result.now ≡ free_in g = c.deref.ensures.value ∙ c.in_ok-vars.ensures in
    let js : c.deref-2.result.now ≡ free_in g = c.deref-2.ensures.value ∙ c.in_ok-vars.ensures in
    let r = c.beside.new.procs in
    let v = c.beside.new.state in
    failed-negation c.args.sigs.now g q r s v c.in-Err.failed
    (subst (λ ws. TryPost (tells_outside (variables_of g) s) (trying_beside ws c.args.sigs.now g q s) q r s v (Err c.in-Err.failed)) js c.in-Err.ensures.does)

pub first_ready-loop-place-init : goal.first_ready-loop-place-init
first_ready-loop-place-init t c = record {
  same = same-refl c.args.state.now;
  moved = moved-refl c.args.procs.now c.args.state.now c.requires.stands;
  so = λ first O C T w v. refl;
}

pub first_ready-goal_at-goal-requires-clause-place : goal.first_ready-goal_at-goal-requires-clause-place
first_ready-goal_at-goal-requires-clause-place t c = omega (arith, c.loop-place-test.true)

pub first_ready-returns-in-Err-Memory-clause-kept : goal.first_ready-returns-in-Err-Memory-clause-kept
first_ready-returns-in-Err-Memory-clause-kept t c =
    let q = c.args.procs.now in
    let p = c.loop-place.procs in
    only_grown_trans q p c.try_among.new.procs (nodes_grown q p c.args.state.now.nodes c.loop-place.state.nodes c.loop-place.invariant.moved.nodes) c.in-Err-Memory.ensures.kept

pub first_ready-returns-in-Ok-clause-does : goal.first_ready-returns-in-Ok-clause-does
first_ready-returns-in-Ok-clause-does t c =
    let q = c.args.procs.now in
    let s = c.args.state.now in
    let p = c.loop-place.procs in
    let u = c.loop-place.state in
    let i = c.loop-place.invariant in
    let gs = c.args.goals.now in
    let ks = c.args.waiting.now in
    let k = c.loop-place.place in
    let h : k < length ks = omega (arith, c.loop-place-test.true) in
    let x = c.goal_at-goal.result.now in
    let is = c.goal_at-goal.ensures in
    found-ready c.args.sigs.now gs ks k x q p c.try_among.new.procs s u c.try_among.new.state h c.requires.waiting is i.same i.moved c.requires.counted c.loop-place.found i.so c.in-Ok.part c.requires.stands c.in-Ok.ensures.does

pub first_ready-returns-in-Ok-clause-alike : goal.first_ready-returns-in-Ok-clause-alike
first_ready-returns-in-Ok-clause-alike t c =
    let q = c.args.procs.now in
    let s = c.args.state.now in
    let p = c.loop-place.procs in
    let u = c.loop-place.state in
    let i = c.loop-place.invariant in
    let gs = c.args.goals.now in
    let ks = c.args.waiting.now in
    let k = c.loop-place.place in
    let h : k < length ks = omega (arith, c.loop-place-test.true) in
    let x = c.goal_at-goal.result.now in
    let is = c.goal_at-goal.ensures in
    found-alike c.args.sigs.now gs ks k x q p c.try_among.new.procs s u c.try_among.new.state h c.requires.waiting is i.same i.moved c.requires.counted c.loop-place.found i.so c.in-Ok.part c.in-Ok.ensures.alike

pub first_ready-sleeps-requires : goal.first_ready-sleeps-requires
first_ready-sleeps-requires t c =
    let q = c.args.procs.now in
    let s = c.args.state.now in
    let p = c.loop-place.procs in
    let u = c.loop-place.state in
    let i = c.loop-place.invariant in
    let gs = c.args.goals.now in
    let ks = c.args.waiting.now in
    let k = c.loop-place.place in
    let h : k < length ks = omega (arith, c.loop-place-test.true) in
    let x = c.goal_at-goal.result.now in
    let is = c.goal_at-goal.ensures in
    subst (λ (y : Flat). GoalFits p u (plain_flat y)) (sym is) (placed-fits q p s u gs ks k x c.requires.waiting h i.same i.moved c.requires.fits)

pub first_ready-loop-place-preserved : goal.first_ready-loop-place-preserved
first_ready-loop-place-preserved t c =
    let q = c.args.procs.now in
    let s = c.args.state.now in
    let p = c.loop-place.procs in
    let u = c.loop-place.state in
    let i = c.loop-place.invariant in
    let gs = c.args.goals.now in
    let ks = c.args.waiting.now in
    let k = c.loop-place.place in
    let h : k < length ks = omega (arith, c.loop-place-test.true) in
    let x = c.goal_at-goal.result.now in
    let is = c.goal_at-goal.ensures in
    elim c.if-not-branch.branch [
      | first_ready-then-not-branch+in-Err-Fault w ↦
          let b = rw w.in-Err-Fault.field-0-is at w.in-Err-Fault.ensures.does in
          passed-with c.args.sigs.now (goals_at gs ks) (k + 1) q s w.try_among.new.procs c.if-not-branch.procs w.try_among.new.state c.if-not-branch.state w.note.new.first c.if-not-branch.found w.procs-is w.state-is w.found-is
          (record {
            same = same-trans s u w.try_among.new.state i.same b.same;
            moved = moved-trans q p w.try_among.new.procs s u w.try_among.new.state i.moved b.moved;
            so = found-on c.args.sigs.now gs ks k x q p w.try_among.new.procs s u w.try_among.new.state h c.requires.waiting is i.same i.moved c.requires.counted c.loop-place.found i.so w.note.new.first w.in-Err-Fault.fault b w.note.ensures;
          })
      | first_ready-else-not-branch w ↦
          passed-with c.args.sigs.now (goals_at gs ks) (k + 1) q s p c.if-not-branch.procs u c.if-not-branch.state c.loop-place.found c.if-not-branch.found w.procs-is w.state-is w.found-is
          (record {
            same = i.same;
            moved = i.moved;
            so = found-asleep c.args.sigs.now gs ks k x q p p s u u h c.requires.waiting is i.same i.moved c.requires.counted c.loop-place.found i.so (c.in_ok-sleeps.ensures w.if-not-branch.false);
          })
    ]

pub first_ready-returns-clause-does : goal.first_ready-returns-clause-does
first_ready-returns-clause-does t c =
    let q = c.args.procs.now in
    let s = c.args.state.now in
    let p = c.loop-place.procs in
    let u = c.loop-place.state in
    let i = c.loop-place.invariant in
    let gs = c.args.goals.now in
    let ks = c.args.waiting.now in
    let k = c.loop-place.place in
    let h : length (goals_at gs ks) ≤ k = omega (arith, c.loop-place-test.false, goals-long gs ks) in
    passed-all c.args.sigs.now (goals_at gs ks) k c.loop-place.found q p s u h i.so i.same i.moved

pub in_turn-turns-init : goal.in_turn-turns-init
in_turn-turns-init t c =
    let q = c.args.procs.now in
    let s = c.args.state.now in
    let gs = c.args.goals.now in
    let ws = c.of-waiting.result in
    subst (λ (d : List GoalNode). Turned c.args.sigs.now gs ws true d c.new-fresh.result.items q q s s) (sym c.in_ok-done.ensures.items)
    (subst (λ f. Turned c.args.sigs.now gs ws true [] f q q s s) (sym c.new-fresh.ensures.items) (turned-begins c.args.sigs.now gs ws q s c.of-waiting.ensures c.requires.stands))

pub in_turn-take-requires : goal.in_turn-take-requires
in_turn-take-requires t c =
    let gs = c.args.goals.now in
    let ks = c.turns.waiting in
    let d : IsReady c.args.sigs.now (goals_at gs ks) c.turns.procs c.first_ready.new.procs c.turns.state c.first_ready.new.state c.in-Ready.place c.in-Ready.part = rw c.in-Ready.is at c.in_ok-place.ensures.does in
    omega (arith, d.place, goals-long gs ks)

pub in_turn-turns-preserved : goal.in_turn-turns-preserved
in_turn-turns-preserved t c =
    let q = c.args.procs.now in
    let s = c.args.state.now in
    let p = c.turns.procs in
    let u = c.turns.state in
    let i = c.turns.invariant in
    let gs = c.args.goals.now in
    let ks = c.turns.waiting in
    let r = c.first_ready.new.procs in
    let t = c.first_ready.new.state in
    let j : Turned c.args.sigs.now gs ks true c.turns.done.items c.turns.fresh.items q p s u = subst (λ b. Turned c.args.sigs.now gs ks b c.turns.done.items c.turns.fresh.items q p s u) c.turns-test.true i in
    let v = c.taken.new.state in
    let k = c.in-Ready.place in
    let part = c.in-Ready.part in
    let o = c.in_ok-reachable-in-Ready.ensures in
    let d : IsReady c.args.sigs.now (goals_at gs ks) p r u t k part = rw c.in-Ready.is at c.in_ok-place.ensures.does in
    let a : FreshAlike (get_or (goals_at gs ks) k nothing) t part = rw c.in-Ready.is at c.in_ok-place.ensures.alike in
    let short : k < length ks = omega (arith, d.place, goals-long gs ks) in
    let e : Entered part.freshened.items t v = o.entered in
    turned-on c.args.sigs.now gs ks c.turns.done.items c.turns.fresh.items q p s u j r t v k part c.take.new.self c.taken.new.done.items c.taken.new.fresh.items c.in_ok-reachable-in-Ready.reachable c.requires.counted
    d a e c.in_ok-take-in-Ready.ensures o.done o.fresh o.reachable

pub in_turn-turns-smaller : goal.in_turn-turns-smaller
in_turn-turns-smaller t c =
    let p = c.turns.procs in
    let u = c.turns.state in
    let gs = c.args.goals.now in
    let ks = c.turns.waiting in
    let r = c.first_ready.new.procs in
    let v = c.first_ready.new.state in
    let k = c.in-Ready.place in
    let d : IsReady c.args.sigs.now (goals_at gs ks) p r u v k c.in-Ready.part = rw c.in-Ready.is at c.in_ok-place.ensures.does in
    let short : k < length ks = omega (arith, d.place, goals-long gs ks) in
    omega (arith, ap length c.in_ok-take-in-Ready.ensures, length-remove ks k short)

pub in_turn-stuck-requires-clause-places : goal.in_turn-stuck-requires-clause-places
in_turn-stuck-requires-clause-places t c = c.turns.invariant.places

pub in_turn-stuck-requires-clause-few : goal.in_turn-stuck-requires-clause-few
in_turn-stuck-requires-clause-few t c = omega (arith, c.turns.invariant.few, c.requires.few)

pub in_turn-stuck-requires-clause-variables : goal.in_turn-stuck-requires-clause-variables
in_turn-stuck-requires-clause-variables t c =
    let q = c.args.procs.now in
    let s = c.args.state.now in
    let p = c.turns.procs in
    let u = c.turns.state in
    let i = c.turns.invariant in
    let gs = c.args.goals.now in
    let ks = c.turns.waiting in
    let r = c.first_ready.new.procs in
    let t = c.first_ready.new.state in
    let j : Turned c.args.sigs.now gs ks true c.turns.done.items c.turns.fresh.items q p s u = subst (λ b. Turned c.args.sigs.now gs ks b c.turns.done.items c.turns.fresh.items q p s u) c.turns-test.true i in
    let n : NoneIsReady c.args.sigs.now (goals_at gs ks) p r u t c.in-NoneReady.found = rw c.in-NoneReady.is at c.in_ok-place.ensures.does in
    subst (λ x. NumbersBelow x (variables_of_each (goals_at gs ks))) (sym n.same.count)
    (each-below (length u.insts.items) gs ks i.places (below-more (length s.insts.items) (length u.insts.items) (variables_of_all (flats (map plain_flat gs))) i.onward.more c.requires.fits.variables))

pub in_turn-returns-in-NoneReady-clause-kept : goal.in_turn-returns-in-NoneReady-clause-kept
in_turn-returns-in-NoneReady-clause-kept t c =
    let q = c.args.procs.now in
    let p = c.turns.procs in
    let r = c.first_ready.new.procs in
    let u = c.turns.state in
    let v = c.first_ready.new.state in
    let n : NoneIsReady c.args.sigs.now (goals_at c.args.goals.now c.turns.waiting) p r u v c.in-NoneReady.found = rw c.in-NoneReady.is at c.in_ok-place.ensures.does in
    only_grown_trans q p r (nodes_grown q p c.args.state.now.nodes u.nodes c.turns.invariant.onward.moved.nodes) (nodes_grown p r u.nodes v.nodes n.moved.nodes)

pub in_turn-returns-in-NoneReady-clause-does : goal.in_turn-returns-in-NoneReady-clause-does
in_turn-returns-in-NoneReady-clause-does t c =
    let q = c.args.procs.now in
    let s = c.args.state.now in
    let p = c.turns.procs in
    let u = c.turns.state in
    let i = c.turns.invariant in
    let gs = c.args.goals.now in
    let ks = c.turns.waiting in
    let r = c.first_ready.new.procs in
    let t = c.first_ready.new.state in
    let j : Turned c.args.sigs.now gs ks true c.turns.done.items c.turns.fresh.items q p s u = subst (λ b. Turned c.args.sigs.now gs ks b c.turns.done.items c.turns.fresh.items q p s u) c.turns-test.true i in
    let n : NoneIsReady c.args.sigs.now (goals_at gs ks) p r u t c.in-NoneReady.found = rw c.in-NoneReady.is at c.in_ok-place.ensures.does in
    let w = c.leave.new.self in
    let k = c.leave.ensures in
    let f = c.in_ok-fault-in-NoneReady.fault in
    let l : Left c.turns.fresh.items t w = left-as t w _ c.turns.fresh.items c.deref.ensures.value k.insts k.trail k.types k.nodes k.len k.counts in
    turned-breaks c.args.sigs.now gs ks c.turns.done.items c.turns.fresh.items q p s u j r t w c.in-NoneReady.found f c.requires.counted (some-wait ks (λ e. true≢false (sym (c.if-not-is_empty.ensures.1 e)))) n c.in_ok-fault-in-NoneReady.ensures l

pub in_turn-returns-clause-does : goal.in_turn-returns-clause-does
in_turn-returns-clause-does t c =
    let q = c.args.procs.now in
    let s = c.args.state.now in
    let p = c.turns.procs in
    let u = c.turns.state in
    let i = c.turns.invariant in
    let gs = c.args.goals.now in
    let ks = c.turns.waiting in
    let w = c.leave-2.new.self in
    let k = c.leave-2.ensures in
    let part : Part = record { goals = c.turns.done; reachable = c.turns.reachable; freshened = c.new.result } in
    let l : Left c.turns.fresh.items u w = left-as u w c.deref-2.result.now c.turns.fresh.items c.deref-2.ensures.value k.insts k.trail k.types k.nodes k.len k.counts in
    let last : (c.turns.reachable ≡ true → ks ≡ []) = λ h. elim c.turns-test.branch [ in_turn-then-turns-test+else-not-is_empty b ↦ b.if-not-is_empty.ensures.0 refl | in_turn-else-turns-test b ↦ absurd (true≢false (sym h ∙ b.turns-test.false)) ] in
    turned-runs c.args.sigs.now gs ks c.turns.reachable c.turns.done.items c.turns.fresh.items q p s u w part i l refl refl c.new.ensures.items last

pub in_turn-returns-clause-alike : goal.in_turn-returns-clause-alike
in_turn-returns-clause-alike t c =
    let q = c.args.procs.now in
    let s = c.args.state.now in
    let p = c.turns.procs in
    let u = c.turns.state in
    let i = c.turns.invariant in
    let gs = c.args.goals.now in
    let ks = c.turns.waiting in
    let w = c.leave-2.new.self in
    let part : Part = record { goals = c.turns.done; reachable = c.turns.reachable; freshened = c.new.result } in
    turned-alike c.args.sigs.now gs ks c.turns.reachable c.turns.done.items c.turns.fresh.items q p s u w part i c.leave-2.ensures.types refl

pub disjunction-loop-goal-init : goal.disjunction-loop-goal-init
disjunction-loop-goal-init t c =
    let q = c.args.procs.now in
    let s = c.args.state.now in
    let gs = c.args.goals.now in
    let own = c.in_ok-own.own.items in
    let seen = ascending (is_outside s.outside.items) own in
    subst (λ (bs : List GoalNode). Forked c.args.sigs.now gs gs seen bs c.in_ok-ends.ends.items q q s s) (sym c.in_ok-branches.ensures.items)
    (subst (λ (es : List (List ℕ)). Forked c.args.sigs.now gs gs seen [] es q q s s) (sym c.in_ok-ends.ensures.items)
    (forked-begins c.args.sigs.now gs seen q s c.requires.stands))

pub disjunction-returns-in_Err-node-clause-kept : goal.disjunction-returns-in_Err-node-clause-kept
disjunction-returns-in_Err-node-clause-kept t c =
    stepped_then_grown c.args.procs.now c.loop-goal.procs c.branch-node.new.procs c.args.state.now c.loop-goal.state c.loop-goal.invariant.stepped c.in_Err-node.ensures.kept

pub disjunction-returns-in_Err-node-clause-does : goal.disjunction-returns-in_Err-node-clause-does
disjunction-returns-in_Err-node-clause-does t c =
    let q = c.args.procs.now in
    let s = c.args.state.now in
    let u = c.loop-goal.state in
    let p = c.loop-goal.procs in
    let i = c.loop-goal.invariant in
    let gs = c.args.goals.now in
    let k = c.loop-goal.goal-index in
    let own = c.in_ok-own.own.items in
    let seen = ascending (is_outside s.outside.items) own in
    let is : c.deref.result.now ≡ (variables_of_all (flats (map plain_flat gs))) = c.deref.ensures.value ∙ c.in_ok-own.ensures in
    let js : c.in_ok-seen.seen ≡ seen = c.in_ok-seen.ensures ∙ ap (ascending (is_outside s.outside.items)) c.deref.ensures.value in
    let x = c.goal-item.result in
    let h : k < length gs = omega (arith, c.loop-goal-test.true) in
    let same : get_or (map plain_flat gs) k (plain_flat x) ≡ plain_flat x = get_or-map plain_flat gs k x (plain_flat x) h ∙ ap plain_flat (sym c.goal-item.is) in
    let branches = c.loop-goal.branches.items in
    let es = c.loop-goal.ends.items in
    let r = c.branch-node.new.procs in
    let t = c.branch-node.new.state in
    let fs = c.branch-node.new.ends.items in
    let left = drop (k + 1) gs in
    let split : drop k gs ≡ x ∷ left = drop_more gs k x h ∙ ap (λ (y : Flat). y ∷ left) (sym c.goal-item.is) in
    let j : Forked c.args.sigs.now gs (x ∷ left) seen branches es q p s u = subst (λ (l : List Flat). Forked c.args.sigs.now gs l seen branches es q p s u) split i in
    let lower : ((n : ℕ) → NumbersBelow n (variables_of_all (flats (map plain_flat gs))) → NumbersBelow n (variables_of (plain_flat x))) = λ n w. subst (λ (y : Flat_goal). NumbersBelow n (variables_of y)) same (goal-below (map plain_flat gs) k (plain_flat x) n (omega (arith, h, length-map gs plain_flat)) w) in
    forked-fails c.args.sigs.now gs x left seen branches es q p s u j lower r t fs c.in_Err-node.failed
    (subst (λ z. DoesBranch (tells_outside (variables_of (plain_flat x)) u) (trying_beside [] c.args.sigs.now (plain_flat x) p u) z p r u t es fs (Err c.in_Err-node.failed)) js c.in_Err-node.ensures.does)

pub disjunction-loop-goal-preserved : goal.disjunction-loop-goal-preserved
disjunction-loop-goal-preserved t c =
    let q = c.args.procs.now in
    let s = c.args.state.now in
    let u = c.loop-goal.state in
    let p = c.loop-goal.procs in
    let i = c.loop-goal.invariant in
    let gs = c.args.goals.now in
    let k = c.loop-goal.goal-index in
    let own = c.in_ok-own.own.items in
    let seen = ascending (is_outside s.outside.items) own in
    let is : c.deref.result.now ≡ (variables_of_all (flats (map plain_flat gs))) = c.deref.ensures.value ∙ c.in_ok-own.ensures in
    let js : c.in_ok-seen.seen ≡ seen = c.in_ok-seen.ensures ∙ ap (ascending (is_outside s.outside.items)) c.deref.ensures.value in
    let x = c.goal-item.result in
    let h : k < length gs = omega (arith, c.loop-goal-test.true) in
    let same : get_or (map plain_flat gs) k (plain_flat x) ≡ plain_flat x = get_or-map plain_flat gs k x (plain_flat x) h ∙ ap plain_flat (sym c.goal-item.is) in
    let branches = c.loop-goal.branches.items in
    let es = c.loop-goal.ends.items in
    let r = c.branch-node.new.procs in
    let t = c.branch-node.new.state in
    let fs = c.branch-node.new.ends.items in
    let left = drop (k + 1) gs in
    let split : drop k gs ≡ x ∷ left = drop_more gs k x h ∙ ap (λ (y : Flat). y ∷ left) (sym c.goal-item.is) in
    let j : Forked c.args.sigs.now gs (x ∷ left) seen branches es q p s u = subst (λ (l : List Flat). Forked c.args.sigs.now gs l seen branches es q p s u) split i in
    let lower : ((n : ℕ) → NumbersBelow n (variables_of_all (flats (map plain_flat gs))) → NumbersBelow n (variables_of (plain_flat x))) = λ n w. subst (λ (y : Flat_goal). NumbersBelow n (variables_of y)) same (goal-below (map plain_flat gs) k (plain_flat x) n (omega (arith, h, length-map gs plain_flat)) w) in
    forked-on c.args.sigs.now gs x left seen branches es q p s u j lower r t fs c.in_Ok-node.node c.push.new.self.items
    (subst (λ z. DoesBranch (tells_outside (variables_of (plain_flat x)) u) (trying_beside [] c.args.sigs.now (plain_flat x) p u) z p r u t es fs (Ok c.in_Ok-node.node)) js c.in_Ok-node.ensures.does) c.in_Ok-node.ensures.alike c.in_ok-push-in_Ok-node.ensures.items

pub disjunction-merged-requires-clause-own : goal.disjunction-merged-requires-clause-own
disjunction-merged-requires-clause-own t c =
    let q = c.args.procs.now in
    let s = c.args.state.now in
    let u = c.loop-goal.state in
    let p = c.loop-goal.procs in
    let i = c.loop-goal.invariant in
    let gs = c.args.goals.now in
    let k = c.loop-goal.goal-index in
    subst (NumbersBelow (length u.insts.items)) (sym (c.deref-2.ensures.value ∙ c.in_ok-own.ensures))
    (below-more (length s.insts.items) (length u.insts.items) (variables_of_all (flats (map plain_flat gs))) i.stepped.later.more c.requires.fits.variables)

pub disjunction-returns-clause-does : goal.disjunction-returns-clause-does
disjunction-returns-clause-does t c =
    let q = c.args.procs.now in
    let s = c.args.state.now in
    let u = c.loop-goal.state in
    let p = c.loop-goal.procs in
    let i = c.loop-goal.invariant in
    let gs = c.args.goals.now in
    let k = c.loop-goal.goal-index in
    let own = c.in_ok-own.own.items in
    let seen = ascending (is_outside s.outside.items) own in
    let is : c.deref.result.now ≡ (variables_of_all (flats (map plain_flat gs))) = c.deref.ensures.value ∙ c.in_ok-own.ensures in
    let js : c.in_ok-seen.seen ≡ seen = c.in_ok-seen.ensures ∙ ap (ascending (is_outside s.outside.items)) c.deref.ensures.value in
    let branches = c.loop-goal.branches.items in
    let rows = c.loop-goal.ends.items in
    let v = c.merged.new.state in
    let m = c.merged.new.procs in
    let res = c.merged.result in
    let none : drop k gs ≡ [] = drop_all k gs (omega (arith, c.loop-goal-test.false)) in
    let j : Forked c.args.sigs.now gs [] seen branches rows q p s u = subst (λ (l : List Flat). Forked c.args.sigs.now gs l seen branches rows q p s u) none i in
    let row = c.in_ok-of.field-0 in
    let e : plain_sched (D.Disj row) ≡ Disj (nodes (map plain_node branches)) = plain_sched-Disj row ∙ ap (λ (l : List GoalNode). Disj (nodes (map plain_node l))) c.in_ok-of.ensures.elements in
    let d : MergedAs (Disj (nodes (map plain_node branches))) (variables_of_all (flats (map plain_flat gs))) seen rows p m u v res = subst (λ (g : Scheduled). MergedAs g (variables_of_all (flats (map plain_flat gs))) seen rows p m u v res) e (subst (λ o. MergedAs (plain_sched (D.Disj row)) o seen rows p m u v res) (c.deref-2.ensures.value ∙ c.in_ok-own.ensures) (subst (λ z. MergedAs (plain_sched (D.Disj row)) c.deref-2.result.now z rows p m u v res) js (subst (λ (w : List (List ℕ)). MergedAs (plain_sched (D.Disj row)) c.deref-2.result.now c.in_ok-seen.seen w p m u v res) c.deref-3.ensures.value c.merged.ensures.merged))) in
    forked-goes c.args.sigs.now gs seen branches rows q p s u j m v res d c.merged.ensures.count

pub disjunction-returns-clause-alike : goal.disjunction-returns-clause-alike
disjunction-returns-clause-alike t c =
    let q = c.args.procs.now in
    let s = c.args.state.now in
    let u = c.loop-goal.state in
    let p = c.loop-goal.procs in
    let i = c.loop-goal.invariant in
    let gs = c.args.goals.now in
    let k = c.loop-goal.goal-index in
    let own = c.in_ok-own.own.items in
    let seen = ascending (is_outside s.outside.items) own in
    let is : c.deref.result.now ≡ (variables_of_all (flats (map plain_flat gs))) = c.deref.ensures.value ∙ c.in_ok-own.ensures in
    let js : c.in_ok-seen.seen ≡ seen = c.in_ok-seen.ensures ∙ ap (ascending (is_outside s.outside.items)) c.deref.ensures.value in
    let branches = c.loop-goal.branches.items in
    let rows = c.loop-goal.ends.items in
    let v = c.merged.new.state in
    let m = c.merged.new.procs in
    let res = c.merged.result in
    let none : drop k gs ≡ [] = drop_all k gs (omega (arith, c.loop-goal-test.false)) in
    let j : Forked c.args.sigs.now gs [] seen branches rows q p s u = subst (λ (l : List Flat). Forked c.args.sigs.now gs l seen branches rows q p s u) none i in
    let row = c.in_ok-of.field-0 in
    let e : plain_sched (D.Disj row) ≡ Disj (nodes (map plain_node branches)) = plain_sched-Disj row ∙ ap (λ (l : List GoalNode). Disj (nodes (map plain_node l))) c.in_ok-of.ensures.elements in
    let d : MergedAs (Disj (nodes (map plain_node branches))) (variables_of_all (flats (map plain_flat gs))) seen rows p m u v res = subst (λ (g : Scheduled). MergedAs g (variables_of_all (flats (map plain_flat gs))) seen rows p m u v res) e (subst (λ o. MergedAs (plain_sched (D.Disj row)) o seen rows p m u v res) (c.deref-2.ensures.value ∙ c.in_ok-own.ensures) (subst (λ z. MergedAs (plain_sched (D.Disj row)) c.deref-2.result.now z rows p m u v res) js (subst (λ (w : List (List ℕ)). MergedAs (plain_sched (D.Disj row)) c.deref-2.result.now c.in_ok-seen.seen w p m u v res) c.deref-3.ensures.value c.merged.ensures.merged))) in
    forked-alike c.args.sigs.now gs seen branches rows q p s u j m v res d

pub conjunction-in_turn-requires : goal.conjunction-in_turn-requires
conjunction-in_turn-requires t c =
    let d = c.decreases in
    let s = c.args.state.now in
    let u = c.enter_goals.new.state in
    let vs = variables_of_all (flats (map plain_flat c.args.goals.now)) in
    let i : Entered vs s u = c.in_ok-enter_goals.ensures in
    (omega (arith, d), ((frame-stands c.args.procs.now s u i.frame c.requires.stands), (c.requires.sigs, ((record { variables = subst (λ n. NumbersBelow n vs) (sym (count-same s u i.frame)) c.requires.fits.variables; known = c.requires.fits.known }), ((λ x. omega (arith, i.counts x)), c.requires.few)))))

pub in_turn-first_ready-requires : goal.in_turn-first_ready-requires
in_turn-first_ready-requires t c =
    let d = c.decreases in
    let q = c.args.procs.now in
    let s = c.args.state.now in
    let p = c.turns.procs in
    let u = c.turns.state in
    let i = c.turns.invariant in
    let gs = c.args.goals.now in
    let ks = c.turns.waiting in
    (omega (arith, d), (i.onward.moved.stands, ((sigs-moved q p s u c.args.sigs.now i.onward.moved c.requires.sigs), ((goals-later q p s u (flats (map plain_flat gs)) i.onward.more i.onward.moved c.requires.fits), (i.places, (turned-counted c.args.sigs.now gs ks c.turns.reachable c.turns.done.items c.turns.fresh.items q p s u i c.requires.counted))))))

pub first_ready-try_among-requires : goal.first_ready-try_among-requires
first_ready-try_among-requires t c =
    let d = c.decreases in
    let q = c.args.procs.now in
    let s = c.args.state.now in
    let p = c.loop-place.procs in
    let u = c.loop-place.state in
    let i = c.loop-place.invariant in
    let gs = c.args.goals.now in
    let ks = c.args.waiting.now in
    let k = c.loop-place.place in
    let h : k < length ks = omega (arith, c.loop-place-test.true) in
    let x = c.goal_at-goal.result.now in
    let is = c.goal_at-goal.ensures in
    let l = place-below (length gs) ks k c.requires.waiting h in
    let one = at_most size-Flat gs (get_or ks k 0) x l in
    let same = ap size-Flat is in
    (omega (arith, d, one, same), (i.moved.stands, ((sigs-moved q p s u c.args.sigs.now i.moved c.requires.sigs), ((subst (λ (y : Flat). GoalFits p u (plain_flat y)) (sym is) (placed-fits q p s u gs ks k x c.requires.waiting h i.same i.moved c.requires.fits)), (subst (λ (y : Flat). Counted (variables_of (plain_flat y)) u) (sym is) (placed-counted s u gs ks k x c.requires.waiting h i.same c.requires.counted))))))

pub compound_among-try_goal-requires : goal.compound_among-try_goal-requires
compound_among-try_goal-requires t c =
    let d = c.decreases in
    let s = c.args.state.now in
    let u = c.leave.new.self in
    let l = c.leave.ensures in
    let vs = variables_of (plain_flat c.args.goal.now) in
    let is : c.deref.result.now ≡ vs = c.deref.ensures.value ∙ c.in_ok-vars.ensures in
    let i : Left vs s u = left-as s u c.deref.result.now vs is l.insts l.trail l.types l.nodes l.len l.counts in
    (omega (arith, d), ((frame-stands c.args.procs.now s u i.frame c.requires.stands), (c.requires.sigs, (record { variables = subst (λ n. NumbersBelow n vs) (sym (count-same s u i.frame)) c.requires.fits.variables; known = c.requires.fits.known }))))

pub beside-try_goal-requires : goal.beside-try_goal-requires
beside-try_goal-requires t c =
    let d = c.decreases in
    let s = c.args.state.now in
    let u = c.enter.new.self in
    let e = c.in_ok-enter.ensures in
    let vs = variables_of (plain_flat c.args.goal.now) in
    let i : Entered c.args.vars.now s u = entered-as s u c.args.vars.now c.args.vars.now refl e.insts e.trail e.types e.nodes e.len e.counts in
    (omega (arith, d), ((frame-stands c.args.procs.now s u i.frame c.requires.stands), (c.requires.sigs, (record { variables = subst (λ n. NumbersBelow n vs) (sym (count-same s u i.frame)) c.requires.fits.variables; known = c.requires.fits.known }))))

pub quantified-try_goal-requires : goal.quantified-try_goal-requires
quantified-try_goal-requires t c =
    let d = c.decreases in
    (omega (arith, d), (c.requires.stands, (c.requires.sigs, quantified-fits c.args.procs.now c.args.state.now c.args.vars.now (plain_flat c.args.goal.now) c.requires.fits)))

pub negation-beside-requires : goal.negation-beside-requires
negation-beside-requires t c =
    let d = c.decreases in
    let q = c.args.procs.now in
    let s = c.args.state.now in
    let g = plain_flat c.args.goal.now in
    let is : c.deref.result.now ≡ free_in g = c.deref.ensures.value ∙ c.in_ok-vars.ensures in
    let js : c.deref-2.result.now ≡ free_in g = c.deref-2.ensures.value ∙ c.in_ok-vars.ensures in
    (omega (arith, d), (c.requires.stands, (c.requires.sigs, (c.requires.fits, (subst (NumbersBelow (length s.insts.items)) (sym js) (free-below (length s.insts.items) g c.requires.fits.variables))))))

pub branch-beside-requires : goal.branch-beside-requires
branch-beside-requires t c =
    let d = c.decreases in
    (omega (arith, d), (c.requires.stands, (c.requires.sigs, (c.requires.fits, c.requires.variables))))

pub disjunction-branch-node-requires : goal.disjunction-branch-node-requires
disjunction-branch-node-requires t c =
    let d = c.decreases in
    let q = c.args.procs.now in
    let s = c.args.state.now in
    let u = c.loop-goal.state in
    let p = c.loop-goal.procs in
    let i = c.loop-goal.invariant in
    let gs = c.args.goals.now in
    let k = c.loop-goal.goal-index in
    let own = c.in_ok-own.own.items in
    let seen = ascending (is_outside s.outside.items) own in
    let is : c.deref.result.now ≡ (variables_of_all (flats (map plain_flat gs))) = c.deref.ensures.value ∙ c.in_ok-own.ensures in
    let js : c.in_ok-seen.seen ≡ seen = c.in_ok-seen.ensures ∙ ap (ascending (is_outside s.outside.items)) c.deref.ensures.value in
    let x = c.goal-item.result in
    let h : k < length gs = omega (arith, c.loop-goal-test.true) in
    let same : get_or (map plain_flat gs) k (plain_flat x) ≡ plain_flat x = get_or-map plain_flat gs k x (plain_flat x) h ∙ ap plain_flat (sym c.goal-item.is) in (
      omega (arith, d, at_most size-Flat gs k x h, ap size-Flat c.goal-item.is),
      (
        i.stepped.moved.stands,
        (
          (sigs-moved q p s u c.args.sigs.now i.stepped.moved c.requires.sigs),
          (
            (goal-later q p s u (plain_flat x) i.stepped.later.more i.stepped.moved (subst (GoalFits q s) same (goal-at q s (map plain_flat gs) k (plain_flat x) c.requires.fits (omega (arith, h, length-map gs plain_flat))))),
            (
              tt,
              (subst (NumbersBelow (length u.insts.items)) (sym c.in_ok-seen.ensures)
                  (ascending-below (length u.insts.items) (is_outside s.outside.items) c.deref.result.now
                  (subst (NumbersBelow (length u.insts.items)) (sym is) (below-more (length s.insts.items) (length u.insts.items) (variables_of_all (flats (map plain_flat gs))) i.stepped.later.more c.requires.fits.variables)))),
            ),
          ),
        ),
      ),
    )

pub test-free-requires : goal.test-free-requires
test-free-requires t c =
    let n = length c.args.state.now.insts.items in
    let g = plain_flat c.args.condition.now in
    let xs = without (free_in g) c.args.vars.now in
    let is : c.deref.result.now ≡ xs = c.deref.ensures.value ∙ (c.in_ok-outer.ensures ∙ ap (without (free_in g)) c.as_slice.ensures.items) in
    subst (NumbersBelow n) (sym is) (without-below n (free_in g) c.args.vars.now (free-below n g c.requires.condition.variables))

pub test-first_bound-bound-requires : goal.test-first_bound-bound-requires
test-first_bound-bound-requires t c =
    let s = c.args.state.now in
    let n = length s.insts.items in
    let m = length c.beside.new.state.insts.items in
    let g = plain_flat c.args.condition.now in
    let xs = without (free_in g) c.args.vars.now in
    let is : c.deref.result.now ≡ xs = c.deref.ensures.value ∙ (c.in_ok-outer.ensures ∙ ap (without (free_in g)) c.as_slice.ensures.items) in
    let w : NumbersBelow n c.deref.result.now = subst (NumbersBelow n) (sym is) (without-below n (free_in g) c.args.vars.now (free-below n g c.requires.condition.variables)) in
    subst (NumbersBelow m) (sym c.in_ok-free.ensures) (ascending-below m (λ x. not (is_bound (point_of s.insts.items x))) c.deref.result.now (below-more n m c.deref.result.now c.in-Ok.ensures.does.stepped.later.more w))

pub test-returns-in-Ok-clause-does : goal.test-returns-in-Ok-clause-does
test-returns-in-Ok-clause-does t c =
    let q = c.args.procs.now in
    let r = c.beside.new.procs in
    let s = c.args.state.now in
    let t = c.beside.new.state in
    let p = c.in-Ok.part in
    let sigs = c.args.sigs.now in
    let g = plain_flat c.args.condition.now in
    let h = plain_flat c.args.then_part.now in
    let xs = without (free_in g) c.args.vars.now in
    let told = tells_outside (variables_of g) s in
    let outer : c.in_ok-outer.outer.items ≡ xs = c.in_ok-outer.ensures ∙ ap (without (free_in g)) c.as_slice.ensures.items in
    let is : c.deref-3.result.now ≡ xs ++ variables_of h = c.deref-3.ensures.value ∙ (c.in_ok-others.ensures ∙ ap (λ ys. ys ++ variables_of h) (c.deref-2.ensures.value ∙ outer)) in
    let o = c.in_ok-condition-in-Ok.ensures in
    condition-runs told (trying_beside (xs ++ variables_of h) sigs g q s) xs q r s t p c.in_ok-condition-in-Ok.condition
    (beside-same told c.deref-3.result.now (xs ++ variables_of h) sigs g q r s t p is c.in-Ok.ensures.does)
    (o.goal s c.in-Ok.ensures.does.stepped.later.leads (trail-marked s c.mark-mark.result c.mark-mark.ensures)) o.reachable
    (bound-by s xs c.deref.result.now c.in_ok-free.free (end_of p.reachable t) c.in_ok-condition-in-Ok.condition.bound (c.deref.ensures.value ∙ outer) c.in_ok-free.ensures
    (λ b ys e C P declared T. c.first_bound-bound.ensures b ys e C P declared T ∙ sym o.bound))

pub test-returns-in-Ok-clause-alike : goal.test-returns-in-Ok-clause-alike
test-returns-in-Ok-clause-alike t c =
    let s = c.args.state.now in
    let t = c.beside.new.state in
    node-alone (plain_flat c.args.condition.now) s t t c.mark-mark.result.trail c.in-Ok.part c.in_ok-condition-in-Ok.condition.goal (λ T h. h) c.in-Ok.ensures.does.stepped.later.leads
    (trail-marked s c.mark-mark.result c.mark-mark.ensures) c.in_ok-condition-in-Ok.ensures.goal c.in-Ok.ensures.alike

pub test-returns-clause-does : goal.test-returns-clause-does
test-returns-clause-does t c =
    let q = c.args.procs.now in
    let s = c.args.state.now in
    let g = plain_flat c.args.condition.now in
    let h = plain_flat c.args.then_part.now in
    let xs = without (free_in g) c.args.vars.now in
    let outer : c.in_ok-outer.outer.items ≡ xs = c.in_ok-outer.ensures ∙ ap (without (free_in g)) c.as_slice.ensures.items in
    let is : c.deref-3.result.now ≡ xs ++ variables_of h = c.deref-3.ensures.value ∙ (c.in_ok-others.ensures ∙ ap (λ ys. ys ++ variables_of h) (c.deref-2.ensures.value ∙ outer)) in
    failed-beside (tells_outside (variables_of g) s) c.deref-3.result.now (xs ++ variables_of h) c.args.sigs.now g xs q c.beside.new.procs s c.beside.new.state c.in-Err.failed is c.in-Err.ensures.does

pub test-beside-requires : goal.test-beside-requires
test-beside-requires t c =
    let d = c.decreases in
    let n = length c.args.state.now.insts.items in
    let g = plain_flat c.args.condition.now in
    let h = plain_flat c.args.then_part.now in
    let xs = without (free_in g) c.args.vars.now in
    let outer : c.in_ok-outer.outer.items ≡ xs = c.in_ok-outer.ensures ∙ ap (without (free_in g)) c.as_slice.ensures.items in
    let is : c.deref-3.result.now ≡ xs ++ variables_of h = c.deref-3.ensures.value ∙ (c.in_ok-others.ensures ∙ ap (λ ys. ys ++ variables_of h) (c.deref-2.ensures.value ∙ outer)) in
    (omega (arith, d), (c.requires.stands, (c.requires.sigs, (c.requires.condition, (subst (NumbersBelow n) (sym is) (below-both n xs (variables_of h) (without-below n (free_in g) c.args.vars.now (free-below n g c.requires.condition.variables)) c.requires.then_part.variables))))))

pub then_branch-returns-then-not-reachable-clause-does : goal.then_branch-returns-then-not-reachable-clause-does
then_branch-returns-then-not-reachable-clause-does t c =
    let s = c.args.state.now in
    let g = plain_flat c.args.condition.now in
    let h = plain_flat c.args.then_part.now in
    then-nothing c.args.reachable (tells_outside (variables_of h) s) (variables_of g) c.args.sigs.now h c.args.seen.now c.args.procs.now s c.args.ends.now.items c.nothing.result c.if-not-reachable.true c.requires.stands c.nothing.ensures

pub then_branch-returns-clause-does : goal.then_branch-returns-clause-does
then_branch-returns-clause-does t c =
    let s = c.args.state.now in
    let g = plain_flat c.args.condition.now in
    let h = plain_flat c.args.then_part.now in
    let is : c.deref.result.now ≡ variables_of g = c.deref.ensures.value ∙ c.in_ok-vars.ensures in
    then-branch c.args.reachable (tells_outside (variables_of h) s) c.deref.result.now (variables_of g) c.args.sigs.now h c.args.seen.now c.args.procs.now c.branch-alloc.new.procs s c.branch-alloc.new.state c.args.ends.now.items c.branch-alloc.new.ends.items c.branch-alloc.result
    c.if-not-reachable.false is c.branch-alloc.ensures.does

pub then_branch-branch-alloc-requires : goal.then_branch-branch-alloc-requires
then_branch-branch-alloc-requires t c =
    let d = c.decreases in
    let g = plain_flat c.args.condition.now in
    let is : c.deref.result.now ≡ variables_of g = c.deref.ensures.value ∙ c.in_ok-vars.ensures in
    (omega (arith, d), (c.requires.stands, (c.requires.sigs, (c.requires.then_part, ((subst (NumbersBelow (length c.args.state.now.insts.items)) (sym is) c.requires.condition.variables), c.requires.seen)))))

pub test_and_then-returns-in-Err-clause-does : goal.test_and_then-returns-in-Err-clause-does
test_and_then-returns-in-Err-clause-does t c =
    failed-condition c.args.vars.now (plain_flat c.args.condition.now) (plain_flat c.args.then_part.now) c.args.sigs.now c.args.procs.now c.test.new.procs c.args.state.now c.test.new.state c.args.seen.now c.args.ends.now.items c.args.ends.now.items c.in-Err.failed c.in-Err.ensures.does

pub test_and_then-returns-in-Ok-then_branch-clause-does : goal.test_and_then-returns-in-Ok-then_branch-clause-does
test_and_then-returns-in-Ok-then_branch-clause-does t c =
    let q = c.args.procs.now in
    let p = c.test.new.procs in
    let r = c.then_branch.new.procs in
    let s = c.args.state.now in
    let u = c.test.new.state in
    let t = c.then_branch.new.state in
    let v = c.back.new.self in
    let first = c.in-Ok.ensures.does in
    let then_part = c.in-Ok-then_branch.ensures.does in
    let k = c.back.ensures in
    begins c.args.vars.now (plain_flat c.args.condition.now) (plain_flat c.args.then_part.now) c.args.sigs.now q s p u c.in-Ok.first first c.args.seen.now r t v c.args.ends.now.items c.then_branch.new.ends.items c.in-Ok-then_branch.then_goal _
    c.requires.stands first.stepped.moved.stands then_part
    (backed s t v c.mark-mark.result c.mark-mark.ensures (stepped-trans q p r s u t first.stepped then_part.stepped).later.leads k.back k.count k.outside k.types k.nodes) refl refl refl

pub test_and_then-returns-in-Ok-then_branch-clause-alike : goal.test_and_then-returns-in-Ok-then_branch-clause-alike
test_and_then-returns-in-Ok-then_branch-clause-alike t c =
    let u = c.test.new.state in
    let t = c.then_branch.new.state in
    let v = c.back.new.self in
    begun-alike (plain_flat c.args.condition.now) (plain_flat c.args.then_part.now) u t v c.in-Ok.first.goal c.in-Ok-then_branch.then_goal (keeps-taken u t c.in-Ok-then_branch.ensures.does.stepped.moved.types) (keeps-same t v c.back.ensures.types)
    c.in-Ok.ensures.alike c.in-Ok-then_branch.ensures.alike

pub test_and_then-returns-in-Err-then_branch-clause-kept : goal.test_and_then-returns-in-Err-then_branch-clause-kept
test_and_then-returns-in-Err-then_branch-clause-kept t c =
    let first = c.in-Ok.ensures.does in
    stepped_then_grown c.args.procs.now c.test.new.procs c.then_branch.new.procs c.args.state.now c.test.new.state first.stepped c.in-Err-then_branch.ensures.kept

pub test_and_then-returns-in-Err-then_branch-clause-does : goal.test_and_then-returns-in-Err-then_branch-clause-does
test_and_then-returns-in-Err-then_branch-clause-does t c =
    let first = c.in-Ok.ensures.does in
    failed-then c.args.vars.now (plain_flat c.args.condition.now) (plain_flat c.args.then_part.now) c.args.sigs.now c.args.procs.now c.test.new.procs c.then_branch.new.procs c.args.state.now c.test.new.state c.then_branch.new.state
    c.args.seen.now c.args.ends.now.items c.then_branch.new.ends.items c.in-Ok.first c.in-Err-then_branch.failed first first.stepped.moved.stands c.in-Err-then_branch.ensures.does

pub test_and_then-test-requires : goal.test_and_then-test-requires
test_and_then-test-requires t c =
    let d = c.decreases in
    (omega (arith, d), (c.requires.stands, (c.requires.sigs, (c.requires.condition, c.requires.then_part))))

pub test_and_then-then_branch-requires : goal.test_and_then-then_branch-requires
test_and_then-then_branch-requires t c =
    let d = c.decreases in
    let q = c.args.procs.now in
    let p = c.test.new.procs in
    let s = c.args.state.now in
    let u = c.test.new.state in
    let step = c.in-Ok.ensures.does.stepped in
    (omega (arith, d), (step.moved.stands, ((sigs-moved q p s u c.args.sigs.now step.moved c.requires.sigs), ((goal-later q p s u (plain_flat c.args.condition.now) step.later.more step.moved c.requires.condition), ((goal-later q p s u (plain_flat c.args.then_part.now) step.later.more step.moved c.requires.then_part), (below-more (length s.insts.items) (length u.insts.items) c.args.seen.now step.later.more c.requires.seen))))))

pub if_then_else-seen-requires : goal.if_then_else-seen-requires
if_then_else-seen-requires t c =
    let s = c.args.state.now in
    let vs = c.args.vars.now in
    let g = plain_flat c.args.condition.now in
    let h = plain_flat c.args.then_part.now in
    let k = plain_flat c.args.else_part.now in
    let own = variables_of (F.If vs g h k) in
    let is : c.deref.result.now ≡ own = c.deref.ensures.value ∙ (c.in_ok-own.ensures ∙ ap (λ xs. xs ++ (variables_of g ++ (variables_of h ++ variables_of k))) c.as_slice.ensures.items) in
    subst (NumbersBelow (length s.outside.items)) (sym is) (subst (λ n. NumbersBelow n own) (sym c.requires.stands.even.outside) c.requires.fits.variables)

pub if_then_else-returns-in-Err-clause-does : goal.if_then_else-returns-in-Err-clause-does
if_then_else-returns-in-Err-clause-does t c =
    failed-before c.args.vars.now (plain_flat c.args.condition.now) (plain_flat c.args.then_part.now) (plain_flat c.args.else_part.now) c.args.sigs.now c.args.procs.now c.test_and_then.new.procs c.args.state.now c.test_and_then.new.state
    c.in_ok-seen.seen c.new-ends.result.items c.test_and_then.new.ends.items c.in-Err.failed c.in-Err.ensures.does

pub if_then_else-chosen-requires-clause-own : goal.if_then_else-chosen-requires-clause-own
if_then_else-chosen-requires-clause-own t c =
    let s = c.args.state.now in
    let u = c.branch-else_goal.new.state in
    let vs = c.args.vars.now in
    let g = plain_flat c.args.condition.now in
    let h = plain_flat c.args.then_part.now in
    let k = plain_flat c.args.else_part.now in
    let own = variables_of (F.If vs g h k) in
    let is : c.deref-in_Ok-else_goal.result.now ≡ own = c.deref-in_Ok-else_goal.ensures.value ∙ (c.in_ok-own.ensures ∙ ap (λ xs. xs ++ (variables_of g ++ (variables_of h ++ variables_of k))) c.as_slice.ensures.items) in
    let step = stepped-trans c.args.procs.now c.test_and_then.new.procs c.branch-else_goal.new.procs s c.test_and_then.new.state u c.in-Ok.ensures.does.stepped c.in_Ok-else_goal.ensures.does.stepped in
    subst (NumbersBelow (length u.insts.items)) (sym is) (below-more (length s.insts.items) (length u.insts.items) own step.later.more c.requires.fits.variables)

pub if_then_else-chosen-requires-clause-seen : goal.if_then_else-chosen-requires-clause-seen
if_then_else-chosen-requires-clause-seen t c =
    let s = c.args.state.now in
    let u = c.branch-else_goal.new.state in
    let step = stepped-trans c.args.procs.now c.test_and_then.new.procs c.branch-else_goal.new.procs s c.test_and_then.new.state u c.in-Ok.ensures.does.stepped c.in_Ok-else_goal.ensures.does.stepped in
    seen-same s u c.deref.result.now c.deref-in_Ok-else_goal.result.now c.in_ok-seen.seen (c.deref.ensures.value ∙ sym c.deref-in_Ok-else_goal.ensures.value) step.later.outside c.in_ok-seen.ensures

pub if_then_else-chosen-requires-clause-rows : goal.if_then_else-chosen-requires-clause-rows
if_then_else-chosen-requires-clause-rows t c =
    let t = c.test_and_then.new.state in
    let r = c.test_and_then.new.procs in
    let k = plain_flat c.args.else_part.now in
    let first = rw c.new-ends.ensures.items at c.in-Ok.ensures.does in
    subst (RowsFit (length c.in_ok-seen.seen) (count_of c.branch-else_goal.new.procs.insts)) (sym c.deref-in_Ok-else_goal-2.ensures.value)
    (chosen-rows c.args.vars.now (plain_flat c.args.condition.now) (plain_flat c.args.then_part.now) k c.args.sigs.now c.args.procs.now c.args.state.now c.in_ok-seen.seen r t c.test_and_then.new.ends.items c.in-Ok.begun
    first (tells_outside (variables_of k) t) (trying_beside [] c.args.sigs.now k r t) c.branch-else_goal.new.procs c.branch-else_goal.new.state c.branch-else_goal.new.ends.items c.in_Ok-else_goal.else_goal c.in_Ok-else_goal.ensures.does)

pub if_then_else-returns-in_Ok-else_goal-clause-does : goal.if_then_else-returns-in_Ok-else_goal-clause-does
if_then_else-returns-in_Ok-else_goal-clause-does t c =
    let q = c.args.procs.now in
    let r = c.test_and_then.new.procs in
    let p = c.branch-else_goal.new.procs in
    let s = c.args.state.now in
    let t = c.test_and_then.new.state in
    let u = c.branch-else_goal.new.state in
    let v = c.chosen.new.state in
    let vs = c.args.vars.now in
    let g = plain_flat c.args.condition.now in
    let h = plain_flat c.args.then_part.now in
    let k = plain_flat c.args.else_part.now in
    let b = c.in-Ok.begun in
    let node = c.in_Ok-else_goal.else_goal in
    let seen = c.in_ok-seen.seen in
    let rows = c.branch-else_goal.new.ends.items in
    let own = variables_of (F.If vs g h k) in
    let is : c.deref-in_Ok-else_goal.result.now ≡ own = c.deref-in_Ok-else_goal.ensures.value ∙ (c.in_ok-own.ensures ∙ ap (λ xs. xs ++ (variables_of g ++ (variables_of h ++ variables_of k))) c.as_slice.ensures.items) in
    let first = rw c.new-ends.ensures.items at c.in-Ok.ensures.does in
    let last = c.in_Ok-else_goal.ensures.does in
    chosen-goes vs g h k c.args.sigs.now q s seen r t c.test_and_then.new.ends.items b first first.stepped.moved.stands p u rows node last last.stepped.moved.stands b.bound c.chosen.new.procs v c.chosen.result refl c.chosen.ensures.count
    (chosen-as b.bound (Ite vs (plain_node b.condition) (plain_node b.then_part) (plain_node node)) c.deref-in_Ok-else_goal.result.now own seen c.deref-in_Ok-else_goal-2.result.now rows p c.chosen.new.procs u v c.chosen.result is c.deref-in_Ok-else_goal-2.ensures.value c.chosen.ensures.chosen)

pub if_then_else-returns-in_Ok-else_goal-clause-alike : goal.if_then_else-returns-in_Ok-else_goal-clause-alike
if_then_else-returns-in_Ok-else_goal-clause-alike t c =
    let t = c.test_and_then.new.state in
    let u = c.branch-else_goal.new.state in
    let v = c.chosen.new.state in
    ite-alike c.args.vars.now (plain_flat c.args.condition.now) (plain_flat c.args.then_part.now) (plain_flat c.args.else_part.now) t u v c.in-Ok.begun c.in_Ok-else_goal.else_goal c.deref-in_Ok-else_goal.result.now c.in_ok-seen.seen
    c.deref-in_Ok-else_goal-2.result.now c.branch-else_goal.new.procs c.chosen.new.procs c.chosen.result c.in-Ok.ensures.alike c.in_Ok-else_goal.ensures.alike (keeps-taken t u c.in_Ok-else_goal.ensures.does.stepped.moved.types) c.chosen.ensures.chosen

pub if_then_else-returns-clause-kept : goal.if_then_else-returns-clause-kept
if_then_else-returns-clause-kept t c =
    let first = rw c.new-ends.ensures.items at c.in-Ok.ensures.does in
    stepped_then_grown c.args.procs.now c.test_and_then.new.procs c.branch-else_goal.new.procs c.args.state.now c.test_and_then.new.state first.stepped c.in_Err-else_goal.ensures.kept

pub if_then_else-returns-clause-does : goal.if_then_else-returns-clause-does
if_then_else-returns-clause-does t c =
    let k = plain_flat c.args.else_part.now in
    let first = rw c.new-ends.ensures.items at c.in-Ok.ensures.does in
    failed-else c.args.vars.now (plain_flat c.args.condition.now) (plain_flat c.args.then_part.now) k c.args.sigs.now c.args.procs.now c.test_and_then.new.procs c.branch-else_goal.new.procs c.args.state.now c.test_and_then.new.state c.branch-else_goal.new.state
    c.in_ok-seen.seen c.test_and_then.new.ends.items c.branch-else_goal.new.ends.items c.in-Ok.begun c.in_Err-else_goal.failed first first.stepped.moved.stands c.in_Err-else_goal.ensures.does

pub if_then_else-test_and_then-requires : goal.if_then_else-test_and_then-requires
if_then_else-test_and_then-requires t c =
    let d = c.decreases in
    let q = c.args.procs.now in
    let s = c.args.state.now in
    let vs = c.args.vars.now in
    let g = plain_flat c.args.condition.now in
    let h = plain_flat c.args.then_part.now in
    let k = plain_flat c.args.else_part.now in
    let own = variables_of (F.If vs g h k) in
    let is : c.deref.result.now ≡ own = c.deref.ensures.value ∙ (c.in_ok-own.ensures ∙ ap (λ xs. xs ++ (variables_of g ++ (variables_of h ++ variables_of k))) c.as_slice.ensures.items) in
    (omega (arith, d), (c.requires.stands, (c.requires.sigs, ((condition-fits q s vs g h k c.requires.fits), ((then-fits q s vs g h k c.requires.fits), (seen-below (length s.insts.items) s c.deref.result.now own c.in_ok-seen.seen is c.requires.fits.variables c.in_ok-seen.ensures))))))

pub if_then_else-branch-else_goal-requires : goal.if_then_else-branch-else_goal-requires
if_then_else-branch-else_goal-requires t c =
    let d = c.decreases in
    let q = c.args.procs.now in
    let r = c.test_and_then.new.procs in
    let s = c.args.state.now in
    let u = c.test_and_then.new.state in
    let vs = c.args.vars.now in
    let g = plain_flat c.args.condition.now in
    let h = plain_flat c.args.then_part.now in
    let k = plain_flat c.args.else_part.now in
    let own = variables_of (F.If vs g h k) in
    let is : c.deref.result.now ≡ own = c.deref.ensures.value ∙ (c.in_ok-own.ensures ∙ ap (λ xs. xs ++ (variables_of g ++ (variables_of h ++ variables_of k))) c.as_slice.ensures.items) in
    let step = c.in-Ok.ensures.does.stepped in
    (omega (arith, d), (step.moved.stands, ((sigs-moved q r s u c.args.sigs.now step.moved c.requires.sigs), ((goal-later q r s u k step.later.more step.moved (else-fits q s vs g h k c.requires.fits)), (tt, (seen-below (length u.insts.items) s c.deref.result.now own c.in_ok-seen.seen is (below-more (length s.insts.items) (length u.insts.items) own step.later.more c.requires.fits.variables) c.in_ok-seen.ensures))))))

pub attempt-returns-in_ok-part-in-True-clause-does : goal.attempt-returns-in_ok-part-in-True-clause-does
attempt-returns-in_ok-part-in-True-clause-does t c =
    let q = c.args.procs.now in
    let s = c.args.state.now in
    let o = c.in_ok-part-in-True.ensures in
    let p = c.in_ok-part-in-True.part in
    let e : plain_flat c.args.goal.now ≡ F.And no_flat = ap plain_flat c.in-True.is ∙ flat-true in
    goes-as c.args.sigs.now (F.And no_flat) (plain_flat c.args.goal.now) q q s s (Ok p) e
    (true-runs c.args.sigs.now q s p c.requires.stands
    (record {
      goals =
          o.goals s (stepped-refl q s c.requires.stands).later.leads (trail-marked s c.mark-mark.result c.mark-mark.ensures)
          ∙ ap (λ x. node_then (changing other_node (length s.insts.items) (point_of s.insts.items) (end_of true s) x) no_nodes)
          (plain_sched-Conj c.new.result ∙ ap (λ (gs : List GoalNode). Conj (nodes (map plain_node gs))) c.new.ensures);
      freshened = o.freshened;
    }) o.reachable)

pub attempt-returns-in-Some-clause-does : goal.attempt-returns-in-Some-clause-does
attempt-returns-in-Some-clause-does t c =
    let g = plain_flat c.deref-in-Some.result.now in
    let e : plain_flat c.args.goal.now ≡ F.Exists c.in-Some.vars g = ap plain_flat c.in-Some.is ∙ (flat-some c.in-Some.vars c.in-Some.goal ∙ ap (λ (x : Flat). F.Exists c.in-Some.vars (plain_flat x)) (sym c.deref-in-Some.ensures)) in
    goes-as c.args.sigs.now (F.Exists c.in-Some.vars g) (plain_flat c.args.goal.now) c.args.procs.now c.quantified.new.procs c.args.state.now c.quantified.new.state c.quantified.result e
    (goes-quantified c.args.sigs.now c.in-Some.vars g c.args.procs.now c.quantified.new.procs c.args.state.now c.quantified.new.state c.quantified.result c.quantified.ensures.does)

pub attempt-returns-in-Same-clause-does : goal.attempt-returns-in-Same-clause-does
attempt-returns-in-Same-clause-does t c =
    let q = c.args.procs.now in
    let s = c.args.state.now in
    let g = F.Same c.in-Same.x c.in-Same.y in
    let e : plain_flat c.args.goal.now ≡ g = ap plain_flat c.in-Same.is ∙ flat-same c.in-Same.x c.in-Same.y in
    goes-as c.args.sigs.now g (plain_flat c.args.goal.now) q q s c.same.new.self c.same.result e
    (same-goes c.args.sigs.now q q s c.same.new.self c.same.result c.in-Same.x c.in-Same.y (c.same.ensures.answer (declared_in c.args.sigs.now)))

pub attempt-returns-in-Made-clause-does : goal.attempt-returns-in-Made-clause-does
attempt-returns-in-Made-clause-does t c =
    let q = c.args.procs.now in
    let s = c.args.state.now in
    let ys = c.as_slice-in-Made.result.now in
    let g = F.Made c.in-Made.x c.in-Made.symbol ys in
    let e : plain_flat c.args.goal.now ≡ g = ap plain_flat c.in-Made.is ∙ (flat-made c.in-Made.x c.in-Made.symbol c.in-Made.ys ∙ ap (F.Made c.in-Made.x c.in-Made.symbol) (sym c.as_slice-in-Made.ensures.items)) in
    goes-as c.args.sigs.now g (plain_flat c.args.goal.now) q c.made.new.procs s c.made.new.self c.made.result e
    (made-goes c.args.sigs.now q c.made.new.procs s c.made.new.self c.made.result c.in-Made.x c.in-Made.symbol ys (c.made.ensures.answer (declared_in c.args.sigs.now)))

pub attempt-returns-in-Const-clause-does : goal.attempt-returns-in-Const-clause-does
attempt-returns-in-Const-clause-does t c =
    let q = c.args.procs.now in
    let s = c.args.state.now in
    let g = F.Is c.in-Const.x (plain_value c.in-Const.value) in
    let e : plain_flat c.args.goal.now ≡ g = ap plain_flat c.in-Const.is ∙ flat-const c.in-Const.x c.in-Const.value in
    goes-as c.args.sigs.now g (plain_flat c.args.goal.now) q q s c.constant.new.self c.constant.result e
    (constant-goes c.args.sigs.now q q s c.constant.new.self c.constant.result c.in-Const.x (plain_value c.in-Const.value) (c.constant.ensures.answer (declared_in c.args.sigs.now)))

pub attempt-returns-in-Call-clause-does : goal.attempt-returns-in-Call-clause-does
attempt-returns-in-Call-clause-does t c =
    let q = c.args.procs.now in
    let s = c.args.state.now in
    let xs = c.as_slice-in-Call.result.now in
    let g = F.Call c.in-Call.pred xs in
    let e : plain_flat c.args.goal.now ≡ g = ap plain_flat c.in-Call.is ∙ (flat-call c.in-Call.pred c.in-Call.xs ∙ ap (F.Call c.in-Call.pred) (sym c.as_slice-in-Call.ensures.items)) in
    goes-as c.args.sigs.now g (plain_flat c.args.goal.now) q c.call.new.procs s c.call.new.state c.call.result e
    (call-goes c.args.sigs.now q c.call.new.procs s c.call.new.state c.call.result c.in-Call.pred xs c.call.ensures.answer)

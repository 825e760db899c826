use Rattle.std.proofs.Common.{refl, arith}
use Rattle.mc_mode_state.specs.declared.state.State.{State}
use Rattle.mc_mode_state.proofs.NewVariables.{count-pushed, point-pushed, even-new, types-new, stepped-new}
use Rattle.mc_mode_state.proofs.state.State.new_variable.Goals as goal

pub returns-clause-count : goal.returns-clause-count
returns-clause-count c = omega (arith, count-pushed c.args.self.now.insts.items c.push.new.self.items 0 c.in_ok-push.ensures.items)

pub returns-clause-point : goal.returns-clause-point
returns-clause-point c = point-pushed c.args.self.now.insts.items c.push.new.self.items c.in_ok-push.ensures.items

pub returns-clause-types : goal.returns-clause-types
returns-clause-types c =
    let s = c.args.self.now in
    let t : State = record { insts = c.push.new.self; trail = s.trail; outside = c.push-2.new.self; types = c.push-3.new.self; nodes = s.nodes } in
    types-new s t c.in_ok-ty.ty c.in_ok-push.ensures.items c.in_ok-push-2.ensures.items c.in_ok-push-3.ensures.items

pub returns-clause-even : goal.returns-clause-even
returns-clause-even c =
    let s = c.args.self.now in
    let t : State = record { insts = c.push.new.self; trail = s.trail; outside = c.push-2.new.self; types = c.push-3.new.self; nodes = s.nodes } in
    even-new s t c.in_ok-ty.ty c.in_ok-push.ensures.items c.in_ok-push-2.ensures.items c.in_ok-push-3.ensures.items c.requires.even

pub returns-clause-stepped : goal.returns-clause-stepped
returns-clause-stepped c = λ q st.
    let s = c.args.self.now in
    let t : State = record { insts = c.push.new.self; trail = s.trail; outside = c.push-2.new.self; types = c.push-3.new.self; nodes = s.nodes } in
    stepped-new s t c.in_ok-ty.ty c.in_ok-push.ensures.items c.in_ok-push-2.ensures.items c.in_ok-push-3.ensures.items q st refl refl

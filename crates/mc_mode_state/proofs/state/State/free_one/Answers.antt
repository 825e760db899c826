use Rattle.std.proofs.Common.{◌∙◌, ◌<◌, ℕ, Bool, if◌then◌else◌, sym, ap, arith}
use Rattle.mc_model.specs.Stream.{is_bound}
use Rattle.mc_insts.specs.Graphs.{count_of}
use Rattle.mc_accepted.specs.Arranged.{with_inst}
use Rattle.mc_mode_state.specs.States.{point_of}
use Rattle.mc_mode_state.proofs.Steps.{stepped-refl, stepped-set}
use Rattle.mc_mode_state.proofs.EndsMerged.{free-stays, unbound-free}
use Rattle.mc_mode_state.proofs.state.State.free_one.Goals as goal

pub returns-then-is_outside-clause-point : goal.returns-then-is_outside-clause-point
returns-then-is_outside-clause-point c =
    let b = point_of c.args.self.now.insts.items in
    sym (ap (λ (t : Bool). if t then b else with_inst ℕ c.args.x 0 b) (sym c.is_outside.ensures ∙ c.if-is_outside.true))

pub returns-then-is_outside-clause-stepped : goal.returns-then-is_outside-clause-stepped
returns-then-is_outside-clause-stepped c = λ q st. stepped-refl q c.args.self.now st

pub returns-then-not-is_bound-clause-point : goal.returns-then-not-is_bound-clause-point
returns-then-not-is_bound-clause-point c =
    let b = point_of c.args.self.now.insts.items in
    free-stays b c.args.x (unbound-free (b c.args.x) (ap is_bound (sym c.inst.ensures) ∙ (sym c.is_bound.ensures ∙ c.if-not-is_bound.true)))
    ∙ sym (ap (λ (t : Bool). if t then b else with_inst ℕ c.args.x 0 b) (sym c.is_outside.ensures ∙ c.if-is_outside.false))

pub returns-then-not-is_bound-clause-stepped : goal.returns-then-not-is_bound-clause-stepped
returns-then-not-is_bound-clause-stepped c = λ q st. stepped-refl q c.args.self.now st

pub returns-clause-point : goal.returns-clause-point
returns-clause-point c =
    let b = point_of c.args.self.now.insts.items in
    c.in_ok-set.ensures.point
    ∙ sym (ap (λ (t : Bool). if t then b else with_inst ℕ c.args.x 0 b) (sym c.is_outside.ensures ∙ c.if-is_outside.false))

pub returns-clause-stepped : goal.returns-clause-stepped
returns-clause-stepped c = λ q st.
    let e = c.in_ok-set.ensures in
    let some : 3 < count_of q.insts = st.fit.program.insts_are.builtins.many in
    stepped-set q c.args.self.now c.set.new.self c.args.x 0 st c.requires.variable (omega (arith, some)) e.point e.trail e.count e.outside e.types e.nodes

use Rattle.std.proofs.Common.{ℕ, List, subst}
use Rattle.mc_model.specs.EventList.{Items}
use Rattle.mc_model.specs.Stream.{Bindings, apply_items, gather}
use Rattle.mc_plain.specs.Frames.{bindings}
use Rattle.mc_flat_code.specs.Running.{variables_at}
use Rattle.mc_plain.specs.code.Views.{machine}
use Rattle.mc_plain.specs.code.Atoms.{Applied}
use Rattle.mc_plain.specs.code.RunState.{meaning}
use Rattle.mc_plain.specs.declared.atoms.Shown.{Shown}
use Rattle.mc_plain.specs.declared.atoms.Shown.TheVariants as S
use Rattle.mc_plain.specs.declared.state.RunContext.{RunContext}
use Rattle.mc_plain.specs.declared.state.RunState.{RunState}
use Rattle.mc_plain.proofs.Waiting.{has_lists}
use Rattle.mc_plain.proofs.Working.{applied_moves, wrote_gives, wants_gives, wants_waits}
use Rattle.mc_plain.proofs.state.RunState.apply.Goals as goal

pub apply-requires : goal.apply-requires
apply-requires c = c.requires.ready.held

pub returns-in-Nothing : goal.returns-in-Nothing
returns-in-Nothing c =
    let t : RunContext = c.args.t.now in
    let w : RunState = c.args.self.now in
    let v : RunState = record { heap = c.apply.new.heap; refs = c.apply.new.refs; control = c.apply.new.self } in
    let e : Bindings = bindings w.heap w.control.frame.items in
    let items : List ℕ → List ℕ → List ℕ → Items Bindings = λ xs ys input. apply_items (meaning t input c.args.op) ys e (gather xs e) in
    applied_moves t w v c.args._place c.args.op c.args.inputs c.args.outputs c.args.next c.requires c.in_ok-shown.ensures.keeps (c.in_ok-shown.ensures.held (has_lists t c.requires.setting c.args._place c.args.op c.args.inputs c.args.outputs c.args.next c.requires.goal_is))
    (subst (λ (l : List ℕ × List ℕ). Applied (items l.0 l.1) c.args.next (machine w.heap w.control) S.Nothing (machine v.heap v.control)) (λ i. (c.variables-given.ensures i, c.variables-taken.ensures i))
    (subst (λ (s : Shown). Applied (items c.variables-given.result.now c.variables-taken.result.now) c.args.next (machine w.heap w.control) s (machine v.heap v.control)) c.in-Nothing.is c.in_ok-shown.ensures.applied))

pub returns-in-Wrote : goal.returns-in-Wrote
returns-in-Wrote c =
    let t : RunContext = c.args.t.now in
    let w : RunState = c.args.self.now in
    let v : RunState = record { heap = c.apply.new.heap; refs = c.apply.new.refs; control = c.apply.new.self } in
    let e : Bindings = bindings w.heap w.control.frame.items in
    let items : List ℕ → List ℕ → List ℕ → Items Bindings = λ xs ys input. apply_items (meaning t input c.args.op) ys e (gather xs e) in
    let gives = wrote_gives t w v c.args._place c.args.op c.args.inputs c.args.outputs c.args.next c.requires c.in_ok-shown.ensures.keeps (c.in_ok-shown.ensures.held (has_lists t c.requires.setting c.args._place c.args.op c.args.inputs c.args.outputs c.args.next c.requires.goal_is)) c.in-Wrote.text
    (subst (λ (l : List ℕ × List ℕ). Applied (items l.0 l.1) c.args.next (machine w.heap w.control) (S.Wrote c.in-Wrote.text) (machine v.heap v.control)) (λ i. (c.variables-given.ensures i, c.variables-taken.ensures i))
    (subst (λ (s : Shown). Applied (items c.variables-given.result.now c.variables-taken.result.now) c.args.next (machine w.heap w.control) s (machine v.heap v.control)) c.in-Wrote.is c.in_ok-shown.ensures.applied)) in
    (gives.0, gives.1, tt)

pub returns-in-Wants : goal.returns-in-Wants
returns-in-Wants c =
    let t : RunContext = c.args.t.now in
    let w : RunState = c.args.self.now in
    let v : RunState = record { heap = c.apply.new.heap; refs = c.apply.new.refs; control = c.apply.new.self } in
    let e : Bindings = bindings w.heap w.control.frame.items in
    let items : List ℕ → List ℕ → List ℕ → Items Bindings = λ xs ys input. apply_items (meaning t input c.args.op) ys e (gather xs e) in
    let told : Applied (items c.variables-given.result.now c.variables-taken.result.now) c.args.next (machine w.heap w.control) (S.Wants c.in-Wants.from) (machine v.heap v.control) = subst (λ (s : Shown). Applied (items c.variables-given.result.now c.variables-taken.result.now) c.args.next (machine w.heap w.control) s (machine v.heap v.control)) c.in-Wants.is c.in_ok-shown.ensures.applied in
    let moved : Applied (items (variables_at t.flat.code c.args.inputs) (variables_at t.flat.code c.args.outputs)) c.args.next (machine w.heap w.control) (S.Wants c.in-Wants.from) (machine v.heap v.control) =
    subst (λ (l : List ℕ × List ℕ). Applied (items l.0 l.1) c.args.next (machine w.heap w.control) (S.Wants c.in-Wants.from) (machine v.heap v.control)) (λ i. (c.variables-given.ensures i, c.variables-taken.ensures i)) told in
    let gives = wants_gives t w v c.args._place c.args.op c.args.inputs c.args.outputs c.args.next c.requires c.in_ok-shown.ensures.keeps (c.in_ok-shown.ensures.held (has_lists t c.requires.setting c.args._place c.args.op c.args.inputs c.args.outputs c.args.next c.requires.goal_is)) c.in-Wants.from moved.0 moved.1 in
    (gives.0, gives.1, wants_waits t w v c.args._place c.args.op c.args.inputs c.args.outputs c.args.next c.requires c.in_ok-shown.ensures.keeps (c.in_ok-shown.ensures.held (has_lists t c.requires.setting c.args._place c.args.op c.args.inputs c.args.outputs c.args.next c.requires.goal_is)) c.in-Wants.from moved.0 moved.1)

use Rattle.std.specs.Slice.{IsItemAt}
use Rattle.std.proofs.Common.{List, subst, ℕ, Option, None, Some, refl, ap}
use Rattle.mc_program.specs.Values.{Val}
use Rattle.mc_values.specs.Heap.{value_at}
use Rattle.mc_model.specs.EventList.{of_option}
use Rattle.mc_model.specs.Stream.{Bindings, meet}
use Rattle.mc_plain.specs.Frames.{bindings}
use Rattle.mc_plain.proofs.Growth.{live_from_held}
use Rattle.mc_flat_code.specs.Ticked.{follow}
use Rattle.mc_flat_code.specs.Running.{constant_items}
use Rattle.mc_flat_code.specs.declared.code.Instr.TheVariants as I
use Rattle.mc_plain.specs.code.Machine.{go}
use Rattle.mc_plain.specs.code.RunState.{meaning}
use Rattle.mc_plain.specs.declared.state.RunContext.{RunContext}
use Rattle.mc_plain.specs.declared.state.RunState.{RunState}
use Rattle.mc_plain.specs.declared.state.NextAction.TheVariants as N
use Rattle.mc_plain.proofs.Casing.{constant_there, no_constant_there}
use Rattle.mc_plain.proofs.Working.{alone_moves, atom_moves, constant_at, constant_held}
use Rattle.mc_plain.proofs.state.RunState.constant.Goals as goal

pub constant-requires-clause-frame : goal.constant-requires-clause-frame
constant-requires-clause-frame c =
    live_from_held c.args.t.now.library.program.now c.args.self.now.heap c.args.self.now.control.frame.items c.requires.ready.held.frame

pub constant-requires-clause-value : goal.constant-requires-clause-value
constant-requires-clause-value c =
    let t : RunContext = c.args.t.now in
    let w : RunState = c.args.self.now in
    (constant_held t w.heap c.requires.ready.constants c.args.k c.in-Some.constant.now (constant_there w.heap t.flat.code t.constants.items c.requires.ready.constants.refs (value_at w.heap c.in-Some.constant.now) c.args.k c.in-Some.constant (subst (λ (l : List ℕ). IsItemAt l c.args.k (Some c.in-Some.constant)) c.deref.ensures.value c.in-Some.ensures.lookup))).live

pub returns-in-None : goal.returns-in-None
returns-in-None c =
    let t : RunContext = c.args.t.now in
    let w : RunState = c.args.self.now in
    let e : Bindings = bindings w.heap w.control.frame.items in
    alone_moves t w c.args._place (I.Constant c.args.x c.args.k c.args.next) c.requires N.Stuck refl
    (λ input. ap (λ (o : Option Val). follow (constant_items c.args.x e o) (go (meaning t input) t.flat w.control.level w.control.height c.args.next)) (constant_at t w.heap c.requires.ready.constants c.args.k None (no_constant_there w.heap t.flat.code t.constants.items c.requires.ready.constants.refs (value_at w.heap 0) c.args.k (subst (λ (l : List ℕ). IsItemAt l c.args.k None) c.deref.ensures.value c.in-None.ensures.lookup))))

pub returns-in_ok-constant-in-Some : goal.returns-in_ok-constant-in-Some
returns-in_ok-constant-in-Some c =
    let t : RunContext = c.args.t.now in
    let w : RunState = c.args.self.now in
    let e : Bindings = bindings w.heap w.control.frame.items in
    let v : ℕ = c.in-Some.constant.now in
    let there = constant_there w.heap t.flat.code t.constants.items c.requires.ready.constants.refs (value_at w.heap v) c.args.k c.in-Some.constant (subst (λ (l : List ℕ). IsItemAt l c.args.k (Some c.in-Some.constant)) c.deref.ensures.value c.in-Some.ensures.lookup) in
    atom_moves t w c.args._place (I.Constant c.args.x c.args.k c.args.next) c.requires c.constant.new.self (of_option (meet c.args.x (value_at w.heap v) e (e c.args.x))) c.args.next
    (λ input. ap (λ (o : Option Val). follow (constant_items c.args.x e o) (go (meaning t input) t.flat w.control.level w.control.height c.args.next)) (constant_at t w.heap c.requires.ready.constants c.args.k (Some v) there))
    c.in_ok-constant-in-Some.ensures.acted
    (c.in_ok-constant-in-Some.ensures.held t.library.program.now (constant_held t w.heap c.requires.ready.constants c.args.k v there) c.requires.ready.held)

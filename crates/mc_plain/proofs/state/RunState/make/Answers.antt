use Rattle.std.proofs.Common.{subst}
use Rattle.mc_model.specs.Stream.{Bindings, made_items}
use Rattle.mc_plain.specs.Frames.{bindings}
use Rattle.mc_plain.proofs.Growth.{live_from_held}
use Rattle.mc_plain.specs.code.Views.{machine}
use Rattle.mc_plain.specs.code.Atoms.{Acted}
use Rattle.mc_plain.specs.declared.state.RunState.{RunState}
use Rattle.mc_plain.proofs.Waiting.{made_named}
use Rattle.mc_plain.proofs.Working.{made_moves}
use Rattle.mc_plain.proofs.state.RunState.make.Goals as goal

pub make-requires : goal.make-requires
make-requires c =
    live_from_held c.args.t.now.library.program.now c.args.self.now.heap c.args.self.now.control.frame.items c.requires.ready.held.frame

pub returns : goal.returns
returns c =
    let w : RunState = c.args.self.now in
    let v : RunState = record { heap = c.make.new.heap; refs = c.make.new.refs; control = c.make.new.self } in
    let e : Bindings = bindings w.heap w.control.frame.items in
    made_moves c.args.t.now w v c.args._place c.args.x c.args.symbol c.args.args c.args.next c.requires c.in_ok-make.ensures.keeps
    (subst (λ l. Acted (made_items c.args.x c.args.symbol l e (e c.args.x)) c.args.next (machine w.heap w.control) (machine v.heap v.control)) c.variables-variables.ensures (c.in_ok-make.ensures.acted c.args.t.now.library.program.now c.requires.ready.held))
    (c.in_ok-make.ensures.held c.args.t.now.library.program.now (made_named c.args.t.now c.requires.setting c.args._place c.args.x c.args.symbol c.args.args c.args.next c.requires.goal_is) c.requires.ready.held)

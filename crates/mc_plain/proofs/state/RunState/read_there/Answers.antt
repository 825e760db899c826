use Rattle.std.proofs.Common.{◌≡◌, Some, sym, ap, ◌∙◌}
use Rattle.mc_program.specs.declared.builtin.Builtin.TheVariants.{ReadLine}
use Rattle.mc_flat_code.specs.Running.{instr_at}
use Rattle.mc_flat_code.specs.declared.code.Instr.TheVariants as I
use Rattle.mc_plain.specs.code.RunState.{rest_in}
use Rattle.mc_plain.specs.declared.state.RunContext.{RunContext}
use Rattle.mc_plain.specs.declared.state.RunState.{RunState}
use Rattle.mc_plain.proofs.Waiting.{reads_there, fed_there}
use Rattle.mc_plain.proofs.state.RunState.read_there.Goals as goal

pub returns-clause-fed : goal.returns-clause-fed
returns-clause-fed c =
    let t : RunContext = c.args.t.now in
    let w : RunState = c.args.self.now in
    let arm = c.in-Some-Apply-ReadLine-default-default-default in
    let is : instr_at t.flat.code c.in-At.place ≡ Some (I.Apply ReadLine arm.inputs arm.outputs arm.next) = sym c.goal.ensures ∙ arm.is ∙ ap Some (arm.field-0-is ∙ ap (λ op. I.Apply op arm.inputs arm.outputs arm.next) arm.field-0-0-is) in
    fed_there c.args.line.now (rest_in t w) (rest_in t c.read.new.self) c.requires.0 c.requires.1.shows
    (λ input. c.in_ok-read-in-Some-Apply-ReadLine-default-default-default.ensures.reads input c.requires.0 (reads_there t w c.requires.0 c.requires.1 c.in-At.place c.in-At.is arm.inputs arm.outputs arm.next is input))

use Rattle.std.proofs.Common.{ap, ◌∙◌}
use Rattle.mc_model.specs.Scheduled.{Apply}
use Rattle.mc_flat_code.specs.Standing.{StandsOf}
use Rattle.mc_flat_code.specs.declared.code.Instr.TheVariants as I
use Rattle.mc_flat_code.proofs.Growth.{grows_then, variables_grow}
use Rattle.mc_flat_code.proofs.Building.{code_kept, ok_laid_after, ok_stands}
use Rattle.mc_flat_code.specs.Mentions.{MentionsIn}
use Rattle.mc_flat_code.specs.code.Mentioning.{Nothing}
use Rattle.mc_flat_code.proofs.Mentioning.{brings_variables, brings_then, on_brings}
use Rattle.mc_flat_code.proofs.code.Code.apply.Goals as goal

pub add-requires-clause-is_code : goal.add-requires-clause-is_code
add-requires-clause-is_code c =
    code_kept c.args.self.now c.add_variables-2.new.self (grows_then c.args.self.now c.add_variables.new.self c.add_variables-2.new.self c.in_ok-inputs.ensures.grows c.in_ok-outputs.ensures.grows) (ap (λ k. k.instrs.items) c.in_ok-outputs.ensures.others ∙ ap (λ k. k.instrs.items) c.in_ok-inputs.ensures.others) c.requires.is_code

pub returns-clause-laid : goal.returns-clause-laid
returns-clause-laid c =
    ok_laid_after c.args.self.now c.add_variables-2.new.self c.add.new.self c.add.result (grows_then c.args.self.now c.add_variables.new.self c.add_variables-2.new.self c.in_ok-inputs.ensures.grows c.in_ok-outputs.ensures.grows) c.add.ensures.laid

pub returns-clause-stands : goal.returns-clause-stands
returns-clause-stands c =
    ok_stands c.args.self.now c.add_variables-2.new.self c.add.new.self c.add.result (I.Apply c.args.builtin c.in_ok-inputs.inputs c.in_ok-outputs.outputs c.args.next) (λ place. StandsOf c.add.new.self (Apply c.args.builtin c.args.inputs.now c.args.outputs.now) c.args.next place) c.add.ensures.laid c.add.ensures.at
    (λ place g at.
    (c.in_ok-inputs.inputs, c.in_ok-outputs.outputs, (at, variables_grow c.add_variables.new.self c.add.new.self (grows_then c.add_variables.new.self c.add_variables-2.new.self c.add.new.self c.in_ok-outputs.ensures.grows g) c.in_ok-inputs.inputs c.args.inputs.now c.in_ok-inputs.ensures.part, variables_grow c.add_variables-2.new.self c.add.new.self g c.in_ok-outputs.outputs c.args.outputs.now c.in_ok-outputs.ensures.part)))

pub returns-clause-brings : goal.returns-clause-brings
returns-clause-brings c =
    on_brings c.add.result c.args.self.now c.add_variables-2.new.self c.add.new.self Nothing (MentionsIn (Apply c.args.builtin c.args.inputs.now c.args.outputs.now)) (MentionsIn (Apply c.args.builtin c.args.inputs.now c.args.outputs.now))
    (brings_then c.args.self.now c.add_variables.new.self c.add_variables-2.new.self Nothing Nothing Nothing (brings_variables c.args.self.now c.add_variables.new.self Nothing c.in_ok-inputs.ensures.others) (brings_variables c.add_variables.new.self c.add_variables-2.new.self Nothing c.in_ok-outputs.ensures.others) (λ m x. x) (λ m x. x))
    c.add.ensures.brings (λ m x. absurd x) (λ m x. x)

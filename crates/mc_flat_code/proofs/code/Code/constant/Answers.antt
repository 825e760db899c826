use Rattle.std.proofs.Common.{ap}
use Rattle.mc_program.specs.Values.{plain_value}
use Rattle.mc_model.specs.Scheduled.{Const}
use Rattle.mc_flat_code.specs.Standing.{StandsOf}
use Rattle.mc_flat_code.specs.declared.code.Instr.TheVariants as I
use Rattle.mc_flat_code.proofs.Growth.{value_grows}
use Rattle.mc_flat_code.proofs.Building.{code_kept, ok_stands}
use Rattle.mc_flat_code.specs.Mentions.{MentionsIn}
use Rattle.mc_flat_code.specs.code.Mentioning.{Nothing}
use Rattle.mc_flat_code.proofs.Mentioning.{on_brings}
use Rattle.mc_flat_code.proofs.code.Code.constant.Goals as goal

pub add-requires-clause-is_code : goal.add-requires-clause-is_code
add-requires-clause-is_code c =
    code_kept c.args.self.now c.add_value.new.self c.in_ok-value.ensures.grows (ap (λ k. k.instrs.items) c.in_ok-value.ensures.others) c.requires.is_code

pub returns-clause-stands : goal.returns-clause-stands
returns-clause-stands c =
    ok_stands c.args.self.now c.add_value.new.self c.add.new.self c.add.result (I.Constant c.args.variable c.in_ok-value.value c.args.next) (λ place. StandsOf c.add.new.self (Const c.args.variable (plain_value c.args.value.now)) c.args.next place) c.add.ensures.laid c.add.ensures.at
    (λ place g at. (c.in_ok-value.value, (at, value_grows c.add_value.new.self c.add.new.self g c.in_ok-value.value (plain_value c.args.value.now) c.in_ok-value.ensures.value)))

pub returns-clause-brings : goal.returns-clause-brings
returns-clause-brings c =
    on_brings c.add.result c.args.self.now c.add_value.new.self c.add.new.self (MentionsIn (Const c.args.variable (plain_value c.args.value.now))) Nothing (MentionsIn (Const c.args.variable (plain_value c.args.value.now))) c.in_ok-value.ensures.brings c.add.ensures.brings (λ m x. x) (λ m x. absurd x)

use Rattle.std.proofs.Common.{ap}
use Rattle.mc_flat_code.proofs.Building.{code_kept}
use Rattle.mc_flat_code.specs.code.Mentioning.{Nothing}
use Rattle.mc_flat_code.proofs.Mentioning.{brings_variables, on_brings}
use Rattle.mc_flat_code.proofs.code.Code.call.Goals as goal

pub add-requires-clause-is_code : goal.add-requires-clause-is_code
add-requires-clause-is_code c =
    code_kept c.args.self.now c.add_variables.new.self c.in_ok-args.ensures.grows (ap (λ k. k.instrs.items) c.in_ok-args.ensures.others) c.requires.is_code

pub returns-clause-brings : goal.returns-clause-brings
returns-clause-brings c =
    on_brings c.add.result c.args.self.now c.add_variables.new.self c.add.new.self Nothing Nothing Nothing (brings_variables c.args.self.now c.add_variables.new.self Nothing c.in_ok-args.ensures.others) c.add.ensures.brings (λ m x. x) (λ m x. x)

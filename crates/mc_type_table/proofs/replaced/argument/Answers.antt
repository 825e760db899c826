use Rattle.std.proofs.Common.{◌≡◌, ◌+◌, ◌-◌, length, arith}
use Rattle.mc_type_table.proofs.Replacing.{variable_past}
use Rattle.mc_type_table.proofs.replaced.argument.Goals as goal

pub returns-then-v-arguments : goal.returns-then-v-arguments
returns-then-v-arguments c =
    let past : (c.args.v - length c.args.arguments.now) + length c.args.arguments.now ≡ c.args.v =
    omega arith
    in
    variable_past c.args.arguments.now c.args.v (c.args.v - length c.args.arguments.now) past

use Rattle.std.proofs.Common.{map}
use Rattle.mc_program.specs.PlainPrograms.{plain_type, type_terms}
use Rattle.mc_model.specs.Types.{type_at}
use Rattle.mc_type_table.proofs.Replacing.{instance_union}
use Rattle.mc_type_table.proofs.replaced.+instance.Goals as goal

pub instance-returns-in_ok-types-in-Union : goal.instance-returns-in_ok-types-in-Union
instance-returns-in_ok-types-in-Union t c =
    instance_union (type_at (type_terms (map plain_type c.args.arguments.now)))
    c.in-Union.number c.in-Union.types c.as_slice-in-Union.result.now c.in_ok-types-in-Union.types
    c.args.t.now c.in-Union.is c.as_slice-in-Union.ensures.items c.in_ok-types-in-Union.ensures

use Rattle.std.proofs.Common.{map, arith}
use Rattle.mc_program.specs.PlainPrograms.{plain_type, type_terms}
use Rattle.mc_model.specs.Types.{type_at}
use Rattle.mc_self_check.proofs.Instances.{same_told, type_at_place, variable_past}
use Rattle.mc_self_check.proofs.instance.is_argument.Goals as goal

pub returns-then-number-args : goal.returns-then-number-args
returns-then-number-args c =
    same_told c.args.t.now _ (type_at (type_terms (map plain_type c.args.args.now)) c.args.number) c.same_type.result
    (variable_past c.args.args.now c.args.number _ (omega arith)) c.same_type.ensures

pub returns : goal.returns
returns c =
    same_told c.args.t.now c.index-args-number.result (type_at (type_terms (map plain_type c.args.args.now)) c.args.number) c.same_type-2.result
    (type_at_place c.args.args.now c.args.number c.index-args-number.result (omega arith) c.index-args-number.is) c.same_type-2.ensures

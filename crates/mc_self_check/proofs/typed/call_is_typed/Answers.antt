use Rattle.std.proofs.Common.{◌∙◌, map, sym, ap, arith}
use Rattle.mc_program.specs.Programs.{variable_type}
use Rattle.mc_model.specs.Types.{instance_of}
use Rattle.mc_procs.specs.VariableTypes.{type_in}
use Rattle.mc_self_check.proofs.TypedAtoms.{no_types_past, none_told}
use Rattle.mc_self_check.proofs.typed.call_is_typed.Goals as goal

pub returns-else-pred-len : goal.returns-else-pred-len
returns-else-pred-len c =
    let past = no_types_past c.args.program.now c.args.pred (omega arith) in
    let told = none_told (type_in c.args.types.now) c.args.args.now c.is_empty.result c.is_empty.ensures in (
      λ h. (variable_type, told.0 h ∙ sym (ap (map (instance_of variable_type)) past)),
      λ e. told.1 (e.1 ∙ ap (map (instance_of e.0)) past),
    )

use Rattle.std.proofs.Common.{IfOk, sym, subst}
use Rattle.mc_decl_syntax.specs.declared.item.Decl.{Decl}
use Rattle.mc_decl_syntax.specs.Plain.{plain_item}
use Rattle.mc_names.specs.Linked.{plain_names}
use Rattle.mc_inst_table.specs.Rules.{item_name, IsUnfounded}
use Rattle.mc_inst_table.specs.code.Faults.{FoundedSays}
use Rattle.mc_inst_table.proofs.faults.definition_fault.Goals as goal

pub returns-in-SameInst : goal.returns-in-SameInst
returns-in-SameInst c =
    let l = plain_names c.args.names.now in
    subst
    (λ (d : Decl).
    IfOk c.inst_fault.result (λ f. FoundedSays (IsUnfounded l c.args.own (plain_item d)) (item_name (plain_item d)) f))
    (sym c.in-SameInst.is) c.inst_fault.ensures

pub returns-in-BoundInst : goal.returns-in-BoundInst
returns-in-BoundInst c =
    let l = plain_names c.args.names.now in
    subst
    (λ (d : Decl).
    IfOk c.inst_fault-in-BoundInst.result
    (λ f. FoundedSays (IsUnfounded l c.args.own (plain_item d)) (item_name (plain_item d)) f))
    (sym c.in-BoundInst.is) c.inst_fault-in-BoundInst.ensures

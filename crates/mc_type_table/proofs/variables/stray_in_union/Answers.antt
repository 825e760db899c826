use Rattle.std.proofs.Common.{Some, None, sym, ◌∙◌}
use Rattle.mc_type_table.proofs.Strays.{union_step}
use Rattle.mc_type_table.proofs.variables.stray_in_union.Goals as goal

pub returns-in-Some : goal.returns-in-Some
returns-in-Some c =
    sym
    (union_step c.args.parameters.now c.args.constructors.now c.loop-constructor.constructor-index
    c.constructor-item.result (Some c.in-Some.name.now) c.loop-constructor-test.true
    c.constructor-item.is c.in-Some.ensures)
    ∙ c.loop-constructor.invariant

pub loop-constructor-preserved : goal.loop-constructor-preserved
loop-constructor-preserved c =
    sym
    (union_step c.args.parameters.now c.args.constructors.now c.loop-constructor.constructor-index
    c.constructor-item.result None c.loop-constructor-test.true c.constructor-item.is
    c.in_default.ensures)
    ∙ c.loop-constructor.invariant

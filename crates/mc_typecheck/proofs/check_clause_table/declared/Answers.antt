use Rattle.std.proofs.Common.{arith}
use Rattle.mc_typecheck.proofs.Entries.{declared_here, declared_nowhere}
use Rattle.mc_typecheck.proofs.check_clause_table.declared.Goals as goal
use Rattle.mc_typecheck.proofs.check_clause_table.declared.Goals.{then-number-len, else-number-len}

pub returns : goal.returns
returns c =
    elim c.if-number-len.branch [
      | then-number-len w ↦ declared_here c.args.types.now c.args.number _ w.get.result.now c.in_ok-parameters.field-0 (omega (arith, w.if-number-len.true, c.len.ensures)) w.get.ensures w.params-is c.in_ok-parameters.ensures
      | else-number-len w ↦ declared_nowhere c.args.types.now c.args.number _ c.in_ok-parameters.field-0 (omega (arith, w.if-number-len.false, c.len.ensures)) w.params-is c.in_ok-parameters.ensures
    ]

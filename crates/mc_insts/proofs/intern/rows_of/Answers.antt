use Rattle.std.proofs.Common.{◌+◌, map, take, sym, subst}
use Rattle.mc_program.specs.PlainPrograms.{plain_type}
use Rattle.mc_insts.specs.code.TypeRows.{terms, RowsOf, over_rows}
use Rattle.mc_insts.proofs.Growth.{extends_on}
use Rattle.mc_insts.proofs.Climbing.{rows_step}
use Rattle.mc_insts.proofs.intern.rows_of.Goals as goal

pub loop-t-preserved : goal.loop-t-preserved
loop-t-preserved c =
    let ts0 = terms c.args.types.now in
    let ts = terms c.loop-t.types in
    let us = terms c.row_of.new.types in
    let i = c.loop-t.t-index in
    record {
      extends = extends_on ts0 ts us c.loop-t.invariant.extends c.row_of.ensures.extends;
      rows = subst (λ xs. RowsOf us xs (map (over_rows ts0 c.args.env.now) (map plain_type (take (i + 1) c.args.args.now)))) (sym c.in_ok-push.ensures.items)
          (rows_step ts0 ts us c.args.env.now c.args.args.now i c.t-item.result c.loop-t.rows.items c.in_ok-row_of.field-0 c.loop-t.invariant.extends c.row_of.ensures.extends c.requires c.loop-t-test.true c.t-item.is c.loop-t.invariant.rows c.in_ok-row_of.ensures.row);
    }

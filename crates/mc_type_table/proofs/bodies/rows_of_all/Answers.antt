use Rattle.std.proofs.Common.{Some}
use Rattle.mc_names.specs.declared.names.Named.{Named}
use Rattle.mc_names.specs.Linked.{plain_named, plain_names}
use Rattle.mc_type_table.specs.Rules.{types_in_all}
use Rattle.mc_type_table.specs.Held.{held}
use Rattle.mc_type_table.specs.code.Grown.{grown_in_all}
use Rattle.mc_type_table.specs.code.Kept.{contents}
use Rattle.mc_type_table.proofs.Grouping.{rows_more}
use Rattle.mc_type_table.proofs.bodies.rows_of_all.Goals as goal

pub loop-named-preserved : goal.loop-named-preserved
loop-named-preserved c =
    let D = held c.args.definitions.now in
    let l = plain_names c.args.names.now in (
      rows_more (λ (n : Named). types_in_all (contents D l (Some (plain_named n))))
          c.loop-named.rows.types.items c.put.new.self.types.items c.args.names.now.types
          c.as_slice-named-items.result.now c.loop-named.named-index c.named-item.result
          c.in_ok-body.body.types.items c.as_slice-named-items.ensures.items c.loop-named-test.true
          c.named-item.is c.in_ok-body.ensures.types c.in_ok-put.ensures.types
          c.loop-named.invariant.0,
      rows_more (λ (n : Named). grown_in_all (contents D l (Some (plain_named n))))
          c.loop-named.rows.grown.items c.put.new.self.grown.items c.args.names.now.types
          c.as_slice-named-items.result.now c.loop-named.named-index c.named-item.result
          c.in_ok-body.body.grown.items c.as_slice-named-items.ensures.items c.loop-named-test.true
          c.named-item.is c.in_ok-body.ensures.grown c.in_ok-put.ensures.grown
          c.loop-named.invariant.1,
    )

use Rattle.std.proofs.Common.{List, length, get_or, ap, ◌∙◌, arith}
use Rattle.mc_names.specs.declared.names.Named.{Named}
use Rattle.mc_names.specs.Linked.{plain_names}
use Rattle.mc_type_table.proofs.Judging.{faults_more}
use Rattle.mc_type_table.proofs.faults.faults_by.Goals as goal

pub loop-named-preserved : goal.loop-named-preserved
loop-named-preserved c =
    let l = plain_names c.args.names.now in
    let same = c.as_slice-named-items.ensures.items in (
      omega arith,
      faults_more l c.loop-named.number c.loop-named.broken.items c.add_fault.new.broken.items
          c.args.names.now.types c.loop-named.named-index c.named-item.result
          (omega (arith, ap length same, c.loop-named-test.true))
          (c.named-item.is
          ∙ ap (λ (xs : List Named). get_or xs c.loop-named.named-index c.named-item.result) same)
          (c.in_ok-add_fault.ensures l c.requires.equivalences c.requires.bodies)
          ∙ c.loop-named.invariant.1,
    )

use Rattle.std.proofs.Common.{◌+◌, List, ℕ, take, sym, subst}
use Rattle.mc_insts.specs.Defining.{IsNode, plain_definitions}
use Rattle.mc_signatures.specs.code.Rows.{AreNumbered}
use Rattle.mc_signatures.proofs.Placing.{numbered_step}
use Rattle.mc_signatures.proofs.nodes.nodes.Goals as goal

pub loop-number-preserved : goal.loop-number-preserved
loop-number-preserved c =
    let ds = plain_definitions c.args.defs.now in
    let numbers = c.args.numbers.now in
    let place = c.loop-number.number-index in
    let node = c.in_ok-node.field-0 in
    let one = subst (λ r. IsNode ds 4 r node) c.reference.ensures c.in_ok-node.ensures in
    subst (λ (ns : List ℕ). AreNumbered ds (take (place + 1) numbers) ns) (sym c.in_ok-push.ensures.items)
    (numbered_step ds numbers c.loop-number.nodes.items place node c.loop-number-test.true one c.loop-number.invariant)

use Rattle.std.proofs.Common.{◌≡◌, ◌<◌, List, length, get_or, subst}
use Rattle.mc_insts.specs.declared.define.InstDef.{InstDef}
use Rattle.mc_signatures.proofs.Placing.{made_step}
use Rattle.mc_signatures.proofs.nodes.made.Goals as goal

pub loop-def-preserved : goal.loop-def-preserved
loop-def-preserved c =
    let place = c.loop-def.def-index in
    let def = c.def-item.result in
    let items = c.as_slice-def-items.ensures.items in
    made_step c.args.defs.now place def c.loop-def.made.items c.push.new.self.items c.loop-def.next c.in_ok-next.next
    (subst (λ (ds : List InstDef). place < length ds) items c.loop-def-test.true)
    (subst (λ (ds : List InstDef). def ≡ get_or ds place def) items c.def-item.is)
    c.in_ok-push.ensures.items c.in_ok-next.ensures c.loop-def.invariant

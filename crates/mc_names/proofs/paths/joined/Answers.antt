use Rattle.std.proofs.Common.{◌∙◌, arith}
use Rattle.mc_names.proofs.Dotted.{joined-others}
use Rattle.mc_names.proofs.paths.joined.Goals as goal

pub loop-part-init : goal.loop-part-init
loop-part-init c =
    joined-others c.args.name.now c.first-item.result c.in_ok-text-in-len1-up.text (omega arith) c.first-item.is (c.in_ok-text-in-len1-up.ensures ∙ c.bytes.ensures.items)

use Rattle.std.proofs.Common.{◌≡◌, drop}
use Rattle.mc_components.specs.code.Certificate.{all_below}
use Rattle.mc_components.proofs.certificate.all_below.Given as goal

abbrev pub invariant-loop-node : goal.invariant-loop-node
invariant-loop-node l =
    all_below l.components l.number (drop l.node-index l.nodes)
    ≡ all_below l.components l.number l.nodes

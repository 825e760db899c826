use Rattle.std.proofs.Common.{◌≡◌, drop}
use Rattle.mc_components.specs.code.Certificate.{one_within}
use Rattle.mc_components.proofs.coming_back.one_within.Given as goal

abbrev pub invariant-loop-node : goal.invariant-loop-node
invariant-loop-node l =
    one_within l.numbers l.number (drop l.node-index l.nodes)
    ≡ one_within l.numbers l.number l.nodes

use Rattle.std.proofs.Common.{◌≡◌, ℕ, ◌<◌, true, Some, slice_get}
use Rattle.mc_components.specs.declared.search.Node.{Node}
use Rattle.mc_components.specs.code.Certificate.{is_right}
use Rattle.mc_components.proofs.certificate.are_right.Given as goal

abbrev pub invariant-loop-node : goal.invariant-loop-node
invariant-loop-node l =
    (l.number ≡ l.node-index)
    × ((k : ℕ) → k < l.node-index
    → (node : Node) → slice_get l.nodes k ≡ Some node
    → is_right l.graph l.components l.roots l.nodes k node ≡ true)

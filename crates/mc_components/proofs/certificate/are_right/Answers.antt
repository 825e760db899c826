use Rattle.std.proofs.Common.{◌≡◌, ℕ, true, List, Some, slice_get, get_or, sym, ◌∙◌, subst, below_more, arith}
use Rattle.std.proofs.lemmas.Option.{get_or_from_slice_get}
use Rattle.mc_components.specs.declared.search.Node.{Node}
use Rattle.mc_components.specs.code.Certificate.{is_right}
use Rattle.mc_components.proofs.certificate.are_right.Goals as goal

right_here :
    (graph : List (List ℕ)) (cs roots : List ℕ) (nodes : List Node) (number i : ℕ) (d : Node)
    → number ≡ i → is_right graph cs roots nodes number (get_or nodes i d) ≡ true
    → (node : Node) → slice_get nodes i ≡ Some node
    → is_right graph cs roots nodes i node ≡ true
right_here graph cs roots nodes number i d same right node is =
    subst (λ (e : Node). is_right graph cs roots nodes i e ≡ true)
    (get_or_from_slice_get nodes i node d is)
    (subst (λ (k : ℕ). is_right graph cs roots nodes k (get_or nodes i d) ≡ true) same right)

pub loop-node-preserved : goal.loop-node-preserved
loop-node-preserved c = (
  omega arith,
  below_more _ _ c.loop-node.invariant.1
      (right_here c.args.graph.now c.args.components.now c.args.roots.now c.args.nodes.now
      c.loop-node.number c.loop-node.node-index _ c.loop-node.invariant.0
      (sym c.is_right.ensures ∙ c.if-not-is_right.false)),
)

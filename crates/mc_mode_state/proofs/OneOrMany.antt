-- One goal, or a conjunction.
use Rattle.std.proofs.Common.{◌≡◌, ℕ, Option, List, [], ◌∷◌, length, map, refl}
use Rattle.mc_model.specs.PlainGoals.{plain_node}
use Rattle.mc_model.specs.Scheduled.{Conj, nodes}
use Rattle.mc_model.specs.declared.sched.GoalNode.{GoalNode}
use Rattle.mc_accepted.specs.Arranged.{Point, alone, changing}
use Rattle.mc_accepted.specs.NodeOracle.{NodeOracle, of_nodes, other_node}

pub several : (C : NodeOracle) (n : ℕ) (b : Point ℕ) (o : Option (Point ℕ)) (gs : List GoalNode) → (length gs ≡ 1 → ⊥)
    → alone (of_nodes C) n b o (nodes (map plain_node gs)) ≡ changing other_node n b o (Conj (nodes (map plain_node gs)))
several C n b o [] h = refl
several C n b o (g ∷ []) h = absurd (h refl)
several C n b o (g ∷ f ∷ gs) h = refl

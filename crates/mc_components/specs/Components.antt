-- The components of a graph (its strongly connected components, as in Tarjan, Depth-First Search and
-- Linear Graph Algorithms).
use Rattle.std.specs.Prelude.{◌≡◌, ◌<◌, ◌≤◌, ◌⊎◌, ◌↔◌, ℕ, Bool, true, false, ◌||◌, List, [], ◌∷◌, length, slice_index, slice_index_or}
use Rattle.mc_model.specs.Lists.{is_in}
use Rattle.mc_components.specs.Reached.{reaches}

-- to which nodes a node has a step; what is no node has none
abbrev pub steps : (graph : List (List ℕ)) → ℕ → List ℕ
steps graph k = slice_index_or graph k []

-- whether two nodes reach each other
abbrev pub ReachEachOther : (graph : List (List ℕ)) → (k j : ℕ) → Type 0
ReachEachOther graph k j =
    (reaches (steps graph) (length graph) k j ≡ true)
    × (reaches (steps graph) (length graph) j k ≡ true)

-- Two nodes have the same number exactly where they are one node or reach each other.
abbrev pub NumbersComponents : (graph : List (List ℕ)) → List ℕ → Type 0
NumbersComponents graph numbers =
    (k j : ℕ) → k < length graph → j < length graph
    → (slice_index numbers k ≡ slice_index numbers j) ↔ ((k ≡ j) ⊎ ReachEachOther graph k j)

-- Each step leads to a component of the same number or of a smaller one.
abbrev pub StepsGoDown : (graph : List (List ℕ)) → List ℕ → Type 0
StepsGoDown graph numbers =
    (k j : ℕ) → is_in j (steps graph k) ≡ true → j < length graph
    → slice_index numbers j ≤ slice_index numbers k

-- whether one of these nodes reaches a node
abbrev pub one_reaches : (graph : List (List ℕ)) → (node : ℕ) → List ℕ → Bool
one_reaches graph k [] = false
one_reaches graph k (j ∷ js) =
    reaches (steps graph) (length graph) j k || one_reaches graph k js

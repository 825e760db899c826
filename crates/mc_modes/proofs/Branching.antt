-- Branches one by one.
use Rattle.std.proofs.Common.{◌≡◌, ℕ, List, [], ◌∷◌, ◌++◌, Option, Some, None, refl, sym, ap, ap₂, append_assoc}
use Rattle.mc_model.specs.Scheduled.{Nodes, no_nodes, node_then, Node}
use Rattle.mc_accepted.specs.Arranged.{Point, Branches, all_run, one_breaks, nodes_before, with_end, with_branch}

-- branches behind others, with the reachable ends of those
abbrev pub onto_branches : Nodes → List (Point ℕ) → Branches ℕ → Branches ℕ
onto_branches gs ends (one_breaks f) = one_breaks f
onto_branches gs ends (all_run hs more n) = all_run (nodes_before gs hs) (ends ++ more) n

pub before-none : (gs : Nodes) → nodes_before gs no_nodes ≡ gs
before-none no_nodes = refl
before-none (node_then g gs) = ap (node_then g) (before-none gs)

before-one : (gs hs : Nodes) (g : Node) → nodes_before gs (node_then g hs) ≡ nodes_before (nodes_before gs (node_then g no_nodes)) hs
before-one no_nodes hs g = refl
before-one (node_then k gs) hs g = ap (node_then k) (before-one gs hs g)

ends-one : (ends more : List (Point ℕ)) (o : Option (Point ℕ)) → ends ++ with_end o more ≡ (ends ++ with_end o []) ++ more
ends-one ends more None = ap (λ (es : List (Point ℕ)). es ++ more) (sym (no-end ends))
  where
    no-end : (es : List (Point ℕ)) → es ++ [] ≡ es
    no-end [] = refl
    no-end (e ∷ es) = ap (λ l. e ∷ l) (no-end es)
ends-one ends more (Some c) = sym (append_assoc ends (c ∷ []) more)

pub onto-one : (gs : Nodes) (g : Node) (ends : List (Point ℕ)) (o : Option (Point ℕ)) (r : Branches ℕ)
    → onto_branches gs ends (with_branch g o r) ≡ onto_branches (nodes_before gs (node_then g no_nodes)) (ends ++ with_end o []) r
onto-one gs g ends o (one_breaks f) = refl
onto-one gs g ends o (all_run hs more n) = ap₂ (λ k es. all_run k es n) (before-one gs hs g) (ends-one ends more o)

pub onto-none : (r : Branches ℕ) → onto_branches no_nodes [] r ≡ r
onto-none (one_breaks f) = refl
onto-none (all_run gs ends n) = refl

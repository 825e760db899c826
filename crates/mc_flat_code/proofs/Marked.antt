-- Pruned goals without a place that leaves them, and goals that answer once, one after another.
use Rattle.std.proofs.Common.{◌≡◌, ℕ, ◌<◌, ◌+◌, refl, sym, ap, ◌∙◌, subst, inr, List, [], ◌∷◌, ◌++◌, length, take, get_or, map, Bool, true, false}
use Rattle.std.proofs.Math.Seq.{take-length}
use Rattle.std.proofs.lemmas.List.{take_more, map_push}
use Rattle.mc_source.specs.declared.det.Det.{Det}
use Rattle.mc_model.specs.Scheduled.{Node, node, nodes, Scheduled}
use Rattle.mc_model.specs.PlainGoals.{plain_node, plain_sched}
use Rattle.mc_model.specs.declared.sched.GoalNode.{GoalNode}
use Rattle.mc_flat_code.specs.Standing.{AnswersOnce, Stands, StandsOf}
use Rattle.mc_flat_code.specs.code.Answering.{Once, OnceIn, AllOnce}
use Rattle.mc_flat_code.specs.declared.code.Code.{Code}
use Rattle.mc_flat_code.proofs.Views.{node_open}

by_mark : (code : Code) (is_pruned : Bool) (s : Scheduled) (changes : List (ℕ × ℕ)) (d : Det) (q pc : ℕ) → (is_pruned ≡ true → AnswersOnce s) → StandsOf code s q pc → Stands code (node s changes d is_pruned) q pc
by_mark code false s changes d q pc once x = x
by_mark code true s changes d q pc once x = inr (once refl, x)

-- a goal that needn't be left
pub stands_bare : (code : Code) (g : GoalNode) (q pc : ℕ) → (g.pruned ≡ true → AnswersOnce (plain_sched g.goal)) → StandsOf code (plain_sched g.goal) q pc → Stands code (plain_node g) q pc
stands_bare code g q pc once x =
    subst (λ n. Stands code n q pc) (sym (node_open g)) (by_mark code g.pruned (plain_sched g.goal) g.changes g.det q pc once x)

once_marked : (is_pruned : Bool) (s : Scheduled) (changes : List (ℕ × ℕ)) (d : Det) → (is_pruned ≡ false → OnceIn s) → Once (node s changes d is_pruned)
once_marked false s changes d once = once refl
once_marked true s changes d once = tt

pub node_once : (g : GoalNode) → (g.pruned ≡ false → OnceIn (plain_sched g.goal)) → Once (plain_node g)
node_once g once = subst Once (sym (node_open g)) (once_marked g.pruned (plain_sched g.goal) g.changes g.det once)

once_more : (ns : List Node) (n : Node) → AllOnce (nodes ns) → Once n → AllOnce (nodes (ns ++ n ∷ []))
once_more [] n x o = (o, tt)
once_more (m ∷ ns) n x o = (x.0, once_more ns n x.1 o)

-- one more goal has been looked at
pub goal_once : (goals : List GoalNode) (k : ℕ) (d : GoalNode) → k < length goals → AllOnce (nodes (map plain_node (take k goals))) → Once (plain_node (get_or goals k d)) → AllOnce (nodes (map plain_node (take (k + 1) goals)))
goal_once goals k d h x o =
    subst (λ ns. AllOnce (nodes ns)) (sym (ap (map plain_node) (take_more goals k d h) ∙ map_push plain_node (take k goals) (get_or goals k d)))
    (once_more (map plain_node (take k goals)) (plain_node (get_or goals k d)) x o)

-- all have been looked at
pub goals_once : (goals : List GoalNode) (k : ℕ) → k ≡ length goals → AllOnce (nodes (map plain_node (take k goals))) → AllOnce (nodes (map plain_node goals))
goals_once goals k e x =
    subst (λ gs. AllOnce (nodes (map plain_node gs))) (ap (λ j. take j goals) e ∙ take-length goals) x

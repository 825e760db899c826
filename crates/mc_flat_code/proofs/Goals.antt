-- Goals that stand one after another, and beside one another, with one more.
use Rattle.std.proofs.Common.{◌≡◌, ℕ, ◌<◌, ◌+◌, sym, ap, ◌∙◌, subst, List, [], ◌∷◌, ◌++◌, length, take, get_or, map}
use Rattle.std.proofs.Math.Seq.{take-length}
use Rattle.std.proofs.lemmas.List.{take_more, map_push}
use Rattle.mc_model.specs.Scheduled.{Label, Node, nodes}
use Rattle.mc_model.specs.PlainGoals.{plain_node, plain_arm, arms_of}
use Rattle.mc_model.specs.declared.sched.Arm.{Arm}
use Rattle.mc_model.specs.declared.sched.GoalNode.{GoalNode}
use Rattle.mc_flat_code.specs.Standing.{Stands, StandsEach, StandsArms}
use Rattle.mc_flat_code.specs.declared.code.Code.{Code}
use Rattle.mc_flat_code.proofs.Views.{arm_open}

each_more : (code : Code) (ns : List Node) (n : Node) (q : ℕ) (ps : List ℕ) (p : ℕ) → StandsEach code (nodes ns) q ps → Stands code n q p → StandsEach code (nodes (ns ++ n ∷ [])) q (ps ++ p ∷ [])
each_more code [] n q [] p x s = (s, tt)
each_more code [] n q (r ∷ ps) p x s = absurd x
each_more code (m ∷ ns) n q [] p x s = absurd x
each_more code (m ∷ ns) n q (r ∷ ps) p x s = (x.0, each_more code ns n q ps p x.1 s)

arms_more : (code : Code) (arms : List (Label × Node)) (arm : Label × Node) (q : ℕ) (ps : List ℕ) (p : ℕ) → StandsArms code (arms_of arms) q ps → Stands code arm.1 q p → StandsArms code (arms_of (arms ++ arm ∷ [])) q (ps ++ p ∷ [])
arms_more code [] arm q [] p x s = (s, tt)
arms_more code [] arm q (r ∷ ps) p x s = absurd x
arms_more code (a ∷ arms) arm q [] p x s = absurd x
arms_more code (a ∷ arms) arm q (r ∷ ps) p x s = (x.0, arms_more code arms arm q ps p x.1 s)

-- the goals before a place, and the one there
pub each_step : (code : Code) (goals : List GoalNode) (k : ℕ) (d : GoalNode) (q : ℕ) (ps : List ℕ) (p : ℕ) → k < length goals → StandsEach code (nodes (map plain_node (take k goals))) q ps → Stands code (plain_node (get_or goals k d)) q p → StandsEach code (nodes (map plain_node (take (k + 1) goals))) q (ps ++ p ∷ [])
each_step code goals k d q ps p h x s =
    subst (λ ns. StandsEach code (nodes ns) q (ps ++ p ∷ [])) (sym (ap (map plain_node) (take_more goals k d h) ∙ map_push plain_node (take k goals) (get_or goals k d)))
    (each_more code (map plain_node (take k goals)) (plain_node (get_or goals k d)) q ps p x s)

pub each_whole : (code : Code) (goals : List GoalNode) (k : ℕ) (q : ℕ) (ps : List ℕ) → k ≡ length goals → StandsEach code (nodes (map plain_node (take k goals))) q ps → StandsEach code (nodes (map plain_node goals)) q ps
each_whole code goals k q ps e x =
    subst (λ gs. StandsEach code (nodes (map plain_node gs)) q ps) (ap (λ j. take j goals) e ∙ take-length goals) x

pub arms_step : (code : Code) (arms : List Arm) (k : ℕ) (d : Arm) (q : ℕ) (ps : List ℕ) (p : ℕ) → k < length arms → StandsArms code (arms_of (map plain_arm (take k arms))) q ps → Stands code (plain_node (get_or arms k d).body) q p → StandsArms code (arms_of (map plain_arm (take (k + 1) arms))) q (ps ++ p ∷ [])
arms_step code arms k d q ps p h x s =
    subst (λ as2. StandsArms code (arms_of as2) q (ps ++ p ∷ [])) (sym (ap (map plain_arm) (take_more arms k d h) ∙ map_push plain_arm (take k arms) (get_or arms k d)))
    (arms_more code (map plain_arm (take k arms)) (plain_arm (get_or arms k d)) q ps p x
    (subst (λ (a : Label × Node). Stands code a.1 q p) (sym (arm_open (get_or arms k d))) s))

pub arms_whole : (code : Code) (arms : List Arm) (k : ℕ) (q : ℕ) (ps : List ℕ) → k ≡ length arms → StandsArms code (arms_of (map plain_arm (take k arms))) q ps → StandsArms code (arms_of (map plain_arm arms)) q ps
arms_whole code arms k q ps e x =
    subst (λ as2. StandsArms code (arms_of (map plain_arm as2)) q ps) (ap (λ j. take j arms) e ∙ take-length arms) x

-- Graphs of insts that are well formed. (Mercury Language Reference Manual: Modes, insts.)
use Rattle.std.specs.Prelude.{◌≡◌, ℕ, List, [], ◌∷◌, length}
use Rattle.mc_model.specs.Insts.{Listed, InstNode, free, ground, unique, dead, bound, Graph}

-- no constructor of that name and arity is listed
abbrev pub Unlisted : Listed → List Listed → Type 0
Unlisted l [] = Unit {0}
Unlisted l (k ∷ ks) = (l.name ≡ k.name → l.arity ≡ k.arity → ⊥) × Unlisted l ks

-- a bound inst lists a constructor once at most, with an inst for each argument
abbrev pub ListsOnce : List Listed → Type 0
ListsOnce [] = Unit {0}
ListsOnce (l ∷ ls) = (length l.args ≡ l.arity) × Unlisted l ls × ListsOnce ls

abbrev pub ProperNode : InstNode → Type 0
ProperNode free = Unit {0}
ProperNode ground = Unit {0}
ProperNode unique = Unit {0}
ProperNode dead = Unit {0}
ProperNode (bound ls) = ListsOnce ls

abbrev pub ProperGraph : Graph → Type 0
ProperGraph G = (i : ℕ) → ProperNode (G i)

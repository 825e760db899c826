-- What is put at the end of a conjunction that is being built.
use Rattle.std.specs.Prelude.{◌≡◌, ℕ, ◌+◌, List, [], ◌∷◌, ◌++◌, map, Option, Some, None}
use Rattle.mc_program.specs.Programs.{Expression, variable, Expressions}
use Rattle.mc_model.specs.Flat as F
use Rattle.mc_model.specs.Flat.{Flat_goal}
use Rattle.mc_model.specs.PlainGoals.{plain_flat}
use Rattle.mc_accepted.specs.Normal.{Conjuncts, before, Named_terms, the_variable, name_term, name_terms}
use Rattle.mc_goals.specs.declared.building.Head.{Head}
use Rattle.mc_goals.specs.declared.building.Head.TheVariants as H
use Rattle.mc_goals.specs.declared.building.Building.{Building}

-- a conjunction that is being built, without its vectors
abbrev pub held : Building → Conjuncts
held b =
    record { goals = map plain_flat b.goals.items; made_variables = b.made.items; next = b.next }

abbrev pub followed : Conjuncts → Conjuncts → Conjuncts
followed s r = before s.goals s.made_variables r

abbrev pub with_variable : Conjuncts → Conjuncts
with_variable s =
    record {
      goals = s.goals;
      made_variables = s.made_variables ++ s.next ∷ [];
      next = s.next + 1;
    }

abbrev pub with_goal : Flat_goal → Conjuncts → Conjuncts
with_goal g s =
    record { goals = s.goals ++ g ∷ []; made_variables = s.made_variables; next = s.next }

-- the goal that gives a variable the value of a head over arguments
abbrev pub goal_over : Head → ℕ → List ℕ → Flat_goal
goal_over (H.Con s) v args = F.Made v s args
goal_over (H.Apply f) v args = F.Call f (args ++ v ∷ [])

-- what naming terms puts at the end
abbrev pub added : Named_terms → Conjuncts
added r = record { goals = r.goals; made_variables = r.made_variables; next = r.next }

-- a term was named, and so were terms
abbrev pub Named : (names : ℕ → ℕ) → Conjuncts → Conjuncts → Expression → ℕ → Type 0
Named names s s' t v =
    (v ≡ the_variable (name_term names s.next t))
    × (s' ≡ followed s (added (name_term names s.next t)))

abbrev pub NamedAll : (names : ℕ → ℕ) → Conjuncts → Conjuncts → Expressions → List ℕ → Type 0
NamedAll names s s' ts vs =
    (vs ≡ (name_terms names s.next ts).variables)
    × (s' ≡ followed s (added (name_terms names s.next ts)))

-- the same conjunction, with another number that is next
abbrev pub numbered : ℕ → Conjuncts → Conjuncts
numbered n s = record { goals = s.goals; made_variables = s.made_variables; next = n }

-- the variable that a term is
abbrev pub variable_in : Expression → Option ℕ
variable_in (variable v) = Some v
variable_in _ = None

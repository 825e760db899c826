-- An example of the occurrences that have variables of their own in a normal goal.
use Rattle.std.specs.Prelude.{◌≡◌, true, false, List, [], ◌∷◌, codes}
use Rattle.mc_accepted.specs.Normal.{normal_goal}
use Rattle.mc_accepted.specs.Resolving.{Unresolved, any_variable, any_text, any_name, no_terms, term_then, Unresolved_clause, equation, all_of, no_goals, goal_then, resolved}
use Rattle.mc_source.specs.declared.name.Candidate.{Candidate}
use Rattle.mc_source.specs.declared.name.Candidate.TheVariants.{Con}
use Rattle.laws_made_types.specs.Makes.{makes}
use Rattle.laws_types.specs.code.Examples.{some_nil}

abbrev pub box : Unresolved → Unresolved
box e = any_name (Con 2 ∷ []) (term_then e no_terms)

-- `pa(box(nil)) :- box("a") = X, box(nil) = box("a").`
abbrev pub boxes : Unresolved_clause
boxes =
    record {
      pred = 1;
      head = term_then (box some_nil) no_terms;
      body =
          all_of
          (goal_then (equation (box (any_text (codes "a"))) (any_variable 0))
          (goal_then (equation (box some_nil) (box (any_text (codes "a")))) no_goals));
    }

abbrev pub picks_of_boxes : List Candidate
picks_of_boxes = Con 0 ∷ Con 2 ∷ Con 2 ∷ Con 0 ∷ Con 2 ∷ Con 2 ∷ []

-- The box in the head, that beside X and the last one have none; so the goal has the head variable,
-- X, and five that it makes. Not all occurrences have one.
abbrev pub MadeVariables : Type 0
MadeVariables =
    (makes boxes
    ≡ true ∷ false ∷ true ∷ false ∷ true ∷ true ∷ true ∷ false ∷ [])
    × ((normal_goal 1 (resolved boxes picks_of_boxes ∷ [])).variables ≡ 7)
    × (makes boxes ≡ true ∷ true ∷ true ∷ true ∷ true ∷ true ∷ true ∷ true ∷ [] → ⊥)

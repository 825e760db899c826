-- The plain data that terms, goals and clauses stand for whose names have candidates. (This
-- project's profile.)
use Rattle.std.specs.Prelude.{List, [], ◌∷◌, map}
use Rattle.mc_accepted.specs.Resolving.{Unresolved as PlainUnresolved, any_variable, any_number, any_text, any_name, Unresolved_terms, no_terms, term_then, Unresolved_goal, equation, atom, all_of, one_of, choice, negation, exists, Unresolved_goals, no_goals, goal_then, Unresolved_clause}
use Rattle.mc_unresolved.specs.declared.term.Unresolved.{Unresolved}
use Rattle.mc_unresolved.specs.declared.term.Unresolved.TheOpen as U
use Rattle.mc_unresolved.specs.declared.term.Unresolved.TheFolds.{fold-Unresolved}
use Rattle.mc_unresolved.specs.declared.goal.UnresolvedGoal.{UnresolvedGoal}
use Rattle.mc_unresolved.specs.declared.goal.UnresolvedGoal.TheOpen as G
use Rattle.mc_unresolved.specs.declared.goal.UnresolvedGoal.TheFolds.{fold-UnresolvedGoal}
use Rattle.mc_unresolved.specs.declared.clause.UnresolvedClause.{UnresolvedClause}

abbrev pub unresolved_terms : List PlainUnresolved → Unresolved_terms
unresolved_terms [] = no_terms
unresolved_terms (t ∷ ts) = term_then t (unresolved_terms ts)

abbrev pub plain_unresolved_step : U.Unresolved-F PlainUnresolved → PlainUnresolved
plain_unresolved_step (U.Variable v) = any_variable v
plain_unresolved_step (U.Number n) = any_number n
plain_unresolved_step (U.Text bytes) = any_text bytes
plain_unresolved_step (U.Name candidates args) = any_name candidates (unresolved_terms args)

abbrev pub plain_unresolved : Unresolved → PlainUnresolved
plain_unresolved = fold-Unresolved PlainUnresolved plain_unresolved_step

abbrev pub unresolved_goals : List Unresolved_goal → Unresolved_goals
unresolved_goals [] = no_goals
unresolved_goals (g ∷ gs) = goal_then g (unresolved_goals gs)

abbrev pub plain_unresolved_goal_step :
    G.UnresolvedGoal-F Unresolved_goal → Unresolved_goal
plain_unresolved_goal_step (G.Equation a b) =
    equation (plain_unresolved a) (plain_unresolved b)
plain_unresolved_goal_step (G.Atom candidates args) =
    atom candidates (unresolved_terms (map plain_unresolved args))
plain_unresolved_goal_step (G.AllOf goals) = all_of (unresolved_goals goals)
plain_unresolved_goal_step (G.OneOf goals) = one_of (unresolved_goals goals)
plain_unresolved_goal_step (G.Choice vars c t e) = choice vars c.value t.value e.value
plain_unresolved_goal_step (G.Negation g) = negation g.value
plain_unresolved_goal_step (G.Exists vars g) = exists vars g.value

abbrev pub plain_unresolved_goal : UnresolvedGoal → Unresolved_goal
plain_unresolved_goal = fold-UnresolvedGoal Unresolved_goal plain_unresolved_goal_step

abbrev pub plain_unresolved_clause : UnresolvedClause → Unresolved_clause
plain_unresolved_clause c =
    record {
      pred = c.pred;
      head = unresolved_terms (map plain_unresolved c.head);
      body = plain_unresolved_goal c.body;
    }

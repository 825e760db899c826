-- What is made of goals, as their walk makes it.
use Rattle.std.specs.Prelude.{◌≡◌, ℕ, ◌<◌, List, [], ◌∷◌, map, Option, Some, None, Vec}
use Rattle.std.specs.declared.alloc.Global.{Global}
use denote.Param.Weighed.{most}
use Rattle.mc_term_data.specs.Plain.{plain_term, term_list}
use Rattle.mc_term_data.specs.Names.{count}
use Rattle.mc_term_data.specs.declared.term.Term.{Term, size-Term}
use Rattle.mc_accepted.specs.Resolving.{Unresolved_goal, equation, atom, choice, Unresolved_goals, goal_then}
use Rattle.mc_unresolved.specs.declared.goal.UnresolvedGoal.{UnresolvedGoal}
use Rattle.mc_unresolved.specs.Unresolved.{plain_unresolved_goal, unresolved_goals}
use Rattle.mc_decl_syntax.specs.Plain.{Path}
use Rattle.mc_names.specs.Linked.{plain_names}
use Rattle.mc_clauses.specs.Variables.{Numbers, Met}
use Rattle.mc_clauses.specs.Unresolved.{Walk, on_made, both, under, Goal, conjuncts, disjuncts, one_or_several, alone, in_turn, meanings, terms_of}
use Rattle.mc_clauses.specs.declared.terms.Module.{Module}
use Rattle.mc_clauses.specs.declared.pieces.Chosen.{Chosen}
use Rattle.mc_clauses.specs.declared.pieces.OuterDisjunction.{OuterDisjunction}
use Rattle.mc_clauses.specs.declared.pieces.Unclosed.{Unclosed}
use Rattle.mc_clauses.specs.declared.variables.Variables.{Variables}
use Rattle.mc_clauses.specs.code.Meanings.{Knows, KeepsHidden}
use Rattle.mc_clauses.specs.code.Walking.{term_walk}
use Rattle.mc_clauses.specs.code.Views.{goal_at, goals_at}

-- goals in a module
abbrev pub the_goal : Module → Term → Goal
the_goal at t = goal_at (plain_names at.names.now) at.own t

abbrev pub the_goals : Module → List Term → List Goal
the_goals at ts = goals_at (plain_names at.names.now) at.own ts

abbrev pub equation_walk : Module → (left right : Term) → Walk Unresolved_goal
equation_walk at a b = both equation (term_walk at a) (term_walk at b)

abbrev pub call_walk : Module → Path → List Term → Walk Unresolved_goal
call_walk at w ts =
    on_made
    (atom (meanings (plain_names at.names.now) at.own w (count (term_list (map plain_term ts)))))
    (in_turn (terms_of (plain_names at.names.now) at.own (term_list (map plain_term ts))))

abbrev pub goal_row : List UnresolvedGoal → Unresolved_goals
goal_row gs = unresolved_goals (map plain_unresolved_goal gs)

-- the variables that a condition quantifies as a whole, the condition under them, and its then part
abbrev pub Choices : Type 0
Choices = List ℕ × (Unresolved_goal × Unresolved_goal)

abbrev pub plain_chosen : Chosen → Choices
plain_chosen c =
    (c.vars, (plain_unresolved_goal c.condition, plain_unresolved_goal c.then_part))

abbrev pub chosen_walk : Goal → Goal → Walk Choices
chosen_walk c t =
    under c.names (λ vs p. (vs, p)) (both (λ x y. (x, y)) c.condition t.itself)

-- goals in front of others
abbrev pub goals_before : List UnresolvedGoal → Unresolved_goals → Unresolved_goals
goals_before [] gs = gs
goals_before (g ∷ done) gs = goal_then (plain_unresolved_goal g) (goals_before done gs)

abbrev pub before_else : Option Chosen → (else_part : Unresolved_goal) → Unresolved_goal
before_else None e = e
before_else (Some c) e =
    choice c.vars (plain_unresolved_goal c.condition) (plain_unresolved_goal c.then_part) e

-- Some of these goals are made, in order, and the rest is still to be walked.
pub record GoalsTaken
    (at : Module) (q : Numbers) (m : Met) (all rest : List Term) (done : List UnresolvedGoal)
    (now : Variables) : Type 0 where
  pub met : Met
  pub knows : Knows q met now
  pub hidden : KeepsHidden q m met
  pub is :
      conjuncts (the_goals at all) q m
      ≡ (
        goals_before done (conjuncts (the_goals at rest) q met).0,
        (conjuncts (the_goals at rest) q met).1,
      )

abbrev pub one_around : Vec UnresolvedGoal Global → Option Chosen → OuterDisjunction
one_around before chosen = record { before = before; chosen = chosen }

-- what stands around a goal
abbrev pub over_around : OuterDisjunction → Unresolved_goal → Unresolved_goal
over_around f g =
    one_or_several (goals_before f.before.items (alone (before_else f.chosen g)))

-- the whole around a goal, the outermost first
abbrev pub enclosed : List OuterDisjunction → Unresolved_goal → Unresolved_goal
enclosed [] g = g
enclosed (f ∷ fs) g = over_around f (enclosed fs g)

-- the whole disjunction, from its innermost disjuncts
abbrev pub closed : List OuterDisjunction → Unresolved_goals → Unresolved_goal
closed fs gs = enclosed fs (one_or_several gs)

-- Some disjuncts are made, and the rest is still to be walked.
pub record Passed
    (at : Module) (all : Walk Unresolved_goal) (q : Numbers) (m : Met) (unclosed : Unclosed)
    (rest : List Term) (now : Variables) : Type 0 where
  pub met : Met
  pub knows : Knows q met now
  pub hidden : KeepsHidden q m met
  pub is :
      all q m
      ≡ (
        closed unclosed.around.items
            (goals_before unclosed.made.items (disjuncts (the_goals at rest) q met).0),
        (disjuncts (the_goals at rest) q met).1,
      )

-- whatever the whole is
abbrev pub Passes :
    Module → (rest next : List Term) → (old new : Unclosed) → (before after : Variables) → Type 0
Passes at rest next old new before after =
    (all : Walk Unresolved_goal) (q : Numbers) (m : Met)
    → Passed at all q m old rest before
    → Passed at all q m new next after

-- terms that are less deep than this one
abbrev pub AreBelow : List Term → Term → Type 0
AreBelow ts t = most size-Term ts < size-Term t

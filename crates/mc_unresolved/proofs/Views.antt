-- How the plain views of terms and goals compute.
use Rattle.std.proofs.Common.{◌≡◌, ℕ, suc, List, [], ◌∷◌, length, map, Box, Global, refl, sym, ap, ◌∙◌}
use Rattle.std.specs.Prelude.{ℤ}
use Rattle.mc_program.specs.Values.{int, str}
use Rattle.mc_program.specs.Programs.{Expression, variable, constant, Formula, And, Or}
use Rattle.mc_program.specs.PlainPrograms.{plain_expression, plain_expression_step, plain_goal, plain_goal_step, formulas}
use Rattle.mc_program.specs.declared.expr.Expr as X
use Rattle.mc_program.specs.declared.expr.Expr.TheOpen as E
use Rattle.mc_program.specs.declared.expr.Expr.TheVariants as EV
use Rattle.mc_program.specs.declared.expr.Expr.TheFolds.{fold-roll-Expr}
use Rattle.mc_program.specs.declared.program.Goal as PG
use Rattle.mc_program.specs.declared.program.Goal.{Goal}
use Rattle.mc_program.specs.declared.program.Goal.TheOpen as GO
use Rattle.mc_program.specs.declared.program.Goal.TheVariants as GV
use Rattle.mc_program.specs.declared.program.Goal.TheFolds.{fold-roll-Goal}
use Rattle.mc_accepted.specs.Resolving.{Unresolved as PlainUnresolved, any_variable, any_number, any_text, any_name, Unresolved_goal, equation, atom, all_of, one_of, choice, negation, exists, count}
use Rattle.mc_source.specs.declared.name.Candidate.{Candidate}
use Rattle.mc_unresolved.specs.Unresolved.{plain_unresolved, plain_unresolved_step, unresolved_terms, plain_unresolved_goal, plain_unresolved_goal_step, unresolved_goals}
use Rattle.mc_unresolved.specs.declared.term.Unresolved.{Unresolved, Variable, Number, Text, Name}
use Rattle.mc_unresolved.specs.declared.term.Unresolved.TheOpen as U
use Rattle.mc_unresolved.specs.declared.term.Unresolved.TheVariants.{rolls-Variable, rolls-Number, rolls-Text, rolls-Name}
use Rattle.mc_unresolved.specs.declared.term.Unresolved.TheFolds.{fold-roll-Unresolved}
use Rattle.mc_unresolved.specs.declared.goal.UnresolvedGoal as UG
use Rattle.mc_unresolved.specs.declared.goal.UnresolvedGoal.{UnresolvedGoal}
use Rattle.mc_unresolved.specs.declared.goal.UnresolvedGoal.TheOpen as G
use Rattle.mc_unresolved.specs.declared.goal.UnresolvedGoal.TheVariants as V
use Rattle.mc_unresolved.specs.declared.goal.UnresolvedGoal.TheFolds.{fold-roll-UnresolvedGoal}

pub plain-Variable : (v : ℕ) → plain_unresolved (Variable v) ≡ any_variable v
plain-Variable v = ap plain_unresolved (sym (rolls-Variable v)) ∙ fold-roll-Unresolved PlainUnresolved plain_unresolved_step (U.Variable v)

pub plain-Number : (n : ℤ) → plain_unresolved (Number n) ≡ any_number n
plain-Number n = ap plain_unresolved (sym (rolls-Number n)) ∙ fold-roll-Unresolved PlainUnresolved plain_unresolved_step (U.Number n)

pub plain-Text : (bytes : List ℕ) → plain_unresolved (Text bytes) ≡ any_text bytes
plain-Text bytes = ap plain_unresolved (sym (rolls-Text bytes)) ∙ fold-roll-Unresolved PlainUnresolved plain_unresolved_step (U.Text bytes)

pub plain-Name : (cs : List Candidate) (args : List Unresolved) → plain_unresolved (Name cs args) ≡ any_name cs (unresolved_terms (map plain_unresolved args))
plain-Name cs args = ap plain_unresolved (sym (rolls-Name cs args)) ∙ fold-roll-Unresolved PlainUnresolved plain_unresolved_step (U.Name cs args)

pub counted : (args : List Unresolved) → count (unresolved_terms (map plain_unresolved args)) ≡ length args
counted [] = refl
counted (a ∷ args) = ap suc (counted args)

-- GOALS

pub plain-Equation : (a b : Unresolved) → plain_unresolved_goal (UG.Equation a b) ≡ equation (plain_unresolved a) (plain_unresolved b)
plain-Equation a b = ap plain_unresolved_goal (sym (V.rolls-Equation a b)) ∙ fold-roll-UnresolvedGoal Unresolved_goal plain_unresolved_goal_step (G.Equation a b)

pub plain-Atom : (cs : List Candidate) (args : List Unresolved) → plain_unresolved_goal (UG.Atom cs args) ≡ atom cs (unresolved_terms (map plain_unresolved args))
plain-Atom cs args = ap plain_unresolved_goal (sym (V.rolls-Atom cs args)) ∙ fold-roll-UnresolvedGoal Unresolved_goal plain_unresolved_goal_step (G.Atom cs args)

pub plain-AllOf : (gs : List UnresolvedGoal) → plain_unresolved_goal (UG.AllOf gs) ≡ all_of (unresolved_goals (map plain_unresolved_goal gs))
plain-AllOf gs = ap plain_unresolved_goal (sym (V.rolls-AllOf gs)) ∙ fold-roll-UnresolvedGoal Unresolved_goal plain_unresolved_goal_step (G.AllOf gs)

pub plain-OneOf : (gs : List UnresolvedGoal) → plain_unresolved_goal (UG.OneOf gs) ≡ one_of (unresolved_goals (map plain_unresolved_goal gs))
plain-OneOf gs = ap plain_unresolved_goal (sym (V.rolls-OneOf gs)) ∙ fold-roll-UnresolvedGoal Unresolved_goal plain_unresolved_goal_step (G.OneOf gs)

pub plain-Choice : (vs : List ℕ) (c t e : Box UnresolvedGoal Global) → plain_unresolved_goal (UG.Choice vs c t e) ≡ choice vs (plain_unresolved_goal c.value) (plain_unresolved_goal t.value) (plain_unresolved_goal e.value)
plain-Choice vs c t e = ap plain_unresolved_goal (sym (V.rolls-Choice vs c t e)) ∙ fold-roll-UnresolvedGoal Unresolved_goal plain_unresolved_goal_step (G.Choice vs c t e)

pub plain-Negation : (g : Box UnresolvedGoal Global) → plain_unresolved_goal (UG.Negation g) ≡ negation (plain_unresolved_goal g.value)
plain-Negation g = ap plain_unresolved_goal (sym (V.rolls-Negation g)) ∙ fold-roll-UnresolvedGoal Unresolved_goal plain_unresolved_goal_step (G.Negation g)

pub plain-Exists : (vs : List ℕ) (g : Box UnresolvedGoal Global) → plain_unresolved_goal (UG.Exists vs g) ≡ exists vs (plain_unresolved_goal g.value)
plain-Exists vs g = ap plain_unresolved_goal (sym (V.rolls-Exists vs g)) ∙ fold-roll-UnresolvedGoal Unresolved_goal plain_unresolved_goal_step (G.Exists vs g)

-- WHAT THEY MAKE

pub plain_expression-Var : (v : ℕ) → plain_expression (X.Var v) ≡ variable v
plain_expression-Var v = ap plain_expression (sym (EV.rolls-Var v)) ∙ fold-roll-Expr Expression plain_expression_step (E.Var v)

pub plain_expression-Int : (n : ℤ) → plain_expression (X.Int n) ≡ constant (int n)
plain_expression-Int n = ap plain_expression (sym (EV.rolls-Int n)) ∙ fold-roll-Expr Expression plain_expression_step (E.Int n)

pub plain_expression-Str : (t : List ℕ) → plain_expression (X.Str t) ≡ constant (str t)
plain_expression-Str t = ap plain_expression (sym (EV.rolls-Str t)) ∙ fold-roll-Expr Expression plain_expression_step (E.Str t)

pub plain_goal-Conj : (gs : List Goal) → plain_goal (PG.Conj gs) ≡ And (formulas (map plain_goal gs))
plain_goal-Conj gs = ap plain_goal (sym (GV.rolls-Conj gs)) ∙ fold-roll-Goal Formula plain_goal_step (GO.Conj gs)

pub plain_goal-Disj : (gs : List Goal) → plain_goal (PG.Disj gs) ≡ Or (formulas (map plain_goal gs))
plain_goal-Disj gs = ap plain_goal (sym (GV.rolls-Disj gs)) ∙ fold-roll-Goal Formula plain_goal_step (GO.Disj gs)

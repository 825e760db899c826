-- The forms of goals: the one table of their names, and what their parts are (the Mercury manual:
-- Goals; Syntax).
use Rattle.std.specs.Prelude.{ℕ, Bool, true, false, List, [], ◌∷◌, codes}
use Rattle.std.specs.Option.{unwrap_or}
use Rattle.mc_term_data.specs.Names.{Row, row, found}
use Rattle.mc_clause_syntax.specs.declared.goal_form.GoalForm.{GoalForm}
use Rattle.mc_clause_syntax.specs.declared.goal_form.GoalForm.TheVariants as G
use Rattle.mc_clause_syntax.specs.declared.goal_form.GoalContext.{GoalContext}
use Rattle.mc_clause_syntax.specs.declared.goal_form.GoalContext.TheVariants.{Whole, Disjunct, BeforeElse, BehindIf}
use Rattle.mc_clause_syntax.specs.declared.goal_form.Parts.{Parts}
use Rattle.mc_clause_syntax.specs.declared.goal_form.Parts.TheVariants.{Nothing, Goals, Quantified, Sides, Arguments}

-- the names that are no calls, each over a number of parts
unfoldable pub goal_rows : List (Row GoalForm)
goal_rows =
    row (codes "true") 0 G.True
    ∷ row (codes "fail") 0 G.Fail
    ∷ row (codes "false") 0 G.Fail
    ∷ row (codes ",") 2 G.Conjunction
    ∷ row (codes ";") 2 G.Disjunction
    ∷ row (codes "->") 2 G.Arrow
    ∷ row (codes "if") 1 G.If
    ∷ row (codes "then") 2 G.Then
    ∷ row (codes "else") 2 G.Else
    ∷ row (codes "not") 1 G.Negation
    ∷ row (92 ∷ 43 ∷ []) 1 G.Negation
    ∷ row (codes "some") 2 G.Existential
    ∷ row (codes "all") 2 G.Universal
    ∷ row (codes "=>") 2 G.Implication
    ∷ row (codes "<=") 2 G.ReverseImplication
    ∷ row (codes "<=>") 2 G.Equivalence
    ∷ row (codes "=") 2 G.Unification
    ∷ row (92 ∷ 61 ∷ []) 2 G.Disunification
    ∷ []

-- what a name over so many parts is as a goal; a qualified name is called
abbrev pub goal_form : List (List ℕ) → ℕ → GoalForm
goal_form (w ∷ []) n = unwrap_or (found goal_rows w n) G.Call
goal_form _ n = G.Call

-- what the parts of a goal are, by its form
abbrev pub parts : GoalForm → Parts
parts G.True = Nothing
parts G.Fail = Nothing
parts G.Disjunction = Goals Disjunct Whole
parts G.If = Goals BehindIf BehindIf
parts G.Else = Goals BeforeElse Whole
parts G.Existential = Quantified
parts G.Universal = Quantified
parts G.Unification = Sides
parts G.Disunification = Sides
parts G.Call = Arguments
parts _ = Goals Whole Whole

-- whether a goal of this form may stand there
abbrev pub admits : GoalForm → GoalContext → Bool
admits G.Arrow Disjunct = true
admits G.Arrow _ = false
admits G.If BeforeElse = true
admits G.If _ = false
admits G.Then BehindIf = true
admits G.Then _ = false
admits _ Whole = true
admits _ Disjunct = true
admits _ _ = false

-- whether any goal may stand there
abbrev pub is_open : GoalContext → Bool
is_open s = admits G.Call s

-- 1 for an equivalence
abbrev pub one_equivalence : GoalForm → ℕ
one_equivalence G.Equivalence = 1
one_equivalence _ = 0

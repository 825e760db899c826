-- Scopes: which variables a goal of a clause quantifies. (Mercury Language Reference Manual:
-- Syntax, implicit quantification.)
use Rattle.std.specs.Prelude.{ℕ, List, [], ◌∷◌, ◌++◌}
use Rattle.mc_program.specs.Programs.{Expression, variable, constant, made, applied, Expressions, no_expressions, expression_then, expressions, Formula, Equal, Call, And, Or, If, Not, Exists, Formulas, no_formulas, formula_then, ClauseForm}
use Rattle.mc_model.specs.Lists.{Apart, Among, once, without}

-- the variables of a term, in order
abbrev mutual
  pub variables_in : Expression → List ℕ
  variables_in (variable v) = v ∷ []
  variables_in (constant v) = []
  variables_in (made f ts) = variables_in_all ts
  variables_in (applied f ts) = variables_in_all ts

  pub variables_in_all : Expressions → List ℕ
  variables_in_all no_expressions = []
  variables_in_all (expression_then t ts) = variables_in t ++ variables_in_all ts

-- all variables that occur in a goal, those that are named by a quantifier alone left out
abbrev mutual
  pub occurring : Formula → List ℕ
  occurring (Equal a b) = variables_in a ++ variables_in b
  occurring (Call p ts) = variables_in_all ts
  occurring (And gs) = occurring_all gs
  occurring (Or gs) = occurring_all gs
  occurring (If vs c t e) = occurring c ++ (occurring t ++ occurring e)
  occurring (Not g) = occurring g
  occurring (Exists vs g) = occurring g

  pub occurring_all : Formulas → List ℕ
  occurring_all no_formulas = []
  occurring_all (formula_then g gs) = occurring g ++ occurring_all gs

-- the variables of a goal that no part of it quantifies
abbrev mutual
  pub free_of : Formula → List ℕ
  free_of (Equal a b) = variables_in a ++ variables_in b
  free_of (Call p ts) = variables_in_all ts
  free_of (And gs) = free_of_all gs
  free_of (Or gs) = free_of_all gs
  free_of (If vs c t e) = without (free_of c ++ free_of t) vs ++ free_of e
  free_of (Not g) = free_of g
  free_of (Exists vs g) = without (free_of g) vs

  pub free_of_all : Formulas → List ℕ
  free_of_all no_formulas = []
  free_of_all (formula_then g gs) = free_of g ++ free_of_all gs

abbrev pub quantified : List ℕ → Formula → Formula
quantified [] g = g
quantified (v ∷ vs) g = Exists (v ∷ vs) g

-- a condition quantifies its own variables over itself and the then part; a negation its own over
-- its goal
abbrev pub scoped_condition : List ℕ → List ℕ → Formula → Formula → Formula → Formula
scoped_condition O vs c t e = If (vs ++ once (without (free_of c) (O ++ vs))) c t e

abbrev pub scoped_negation : List ℕ → Formula → Formula
scoped_negation O g = Not (quantified (once (without (free_of g) O)) g)

-- Implicit quantification, outside being the variables that occur outside the goal in the head or
-- in goals that aren't parallel to it: other disjuncts are parallel, and an else part to its
-- condition and then part. A negation, and a condition with its then part, quantifies each variable
-- that occurs free in it and doesn't occur outside it; inner ones come first. A variable that an
-- explicit quantifier names counts as one that occurs outside the goal under it.
abbrev mutual
  pub scoped : (outside : List ℕ) → Formula → Formula
  scoped O (Equal a b) = Equal a b
  scoped O (Call p ts) = Call p ts
  scoped O (And gs) = And (scoped_parts O gs)
  scoped O (Or gs) = Or (scoped_disjuncts O gs)
  scoped O (If vs c t e) =
      scoped_condition O vs (scoped (O ++ (vs ++ occurring t)) c)
      (scoped (O ++ (vs ++ occurring c)) t) (scoped O e)
  scoped O (Not g) = scoped_negation O (scoped O g)
  scoped O (Exists vs g) = Exists vs (scoped (O ++ vs) g)

  pub scoped_parts : (outside : List ℕ) → Formulas → Formulas
  scoped_parts O no_formulas = no_formulas
  scoped_parts O (formula_then g gs) =
      formula_then (scoped (O ++ occurring_all gs) g) (scoped_parts (O ++ occurring g) gs)

  pub scoped_disjuncts : (outside : List ℕ) → Formulas → Formulas
  scoped_disjuncts O no_formulas = no_formulas
  scoped_disjuncts O (formula_then g gs) = formula_then (scoped O g) (scoped_disjuncts O gs)

-- Scopes are written out, where O is what occurs outside the goal and Q the variables of the
-- quantifiers around it: a quantified variable doesn't occur outside its scope but in parallel
-- goals, and a variable that occurs free in a negation, or in a condition and isn't quantified
-- there, occurs outside it in the head or in a goal that isn't parallel, or is quantified around it.
abbrev mutual
  pub HasScopes : (outside around : List ℕ) → Formula → Type 0
  HasScopes O Q (Equal a b) = Unit {0}
  HasScopes O Q (Call p ts) = Unit {0}
  HasScopes O Q (And gs) = PartsHaveScopes O Q gs
  HasScopes O Q (Or gs) = DisjunctsHaveScopes O Q gs
  HasScopes O Q (If vs c t e) =
      Apart vs O
      × Among (without (free_of c) vs) (O ++ Q)
      × HasScopes (O ++ occurring t) (Q ++ vs) c
      × HasScopes (O ++ occurring c) (Q ++ vs) t
      × HasScopes O Q e
  HasScopes O Q (Not g) = Among (free_of g) (O ++ Q) × HasScopes O Q g
  HasScopes O Q (Exists vs g) = Apart vs O × HasScopes O (Q ++ vs) g

  pub PartsHaveScopes : (outside around : List ℕ) → Formulas → Type 0
  PartsHaveScopes O Q no_formulas = Unit {0}
  PartsHaveScopes O Q (formula_then g gs) =
      HasScopes (O ++ occurring_all gs) Q g × PartsHaveScopes (O ++ occurring g) Q gs

  pub DisjunctsHaveScopes : (outside around : List ℕ) → Formulas → Type 0
  DisjunctsHaveScopes O Q no_formulas = Unit {0}
  DisjunctsHaveScopes O Q (formula_then g gs) = HasScopes O Q g × DisjunctsHaveScopes O Q gs

-- a clause's scopes are taken with the variables of its head outside
abbrev pub clause_scoped : ClauseForm → ClauseForm
clause_scoped c =
    record { head = c.head; body = scoped (variables_in_all (expressions c.head)) c.body }

abbrev pub ClauseHasScopes : ClauseForm → Type 0
ClauseHasScopes c = HasScopes (variables_in_all (expressions c.head)) [] c.body

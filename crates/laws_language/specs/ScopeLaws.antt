-- The laws of scopes: written out they are those of the language, and they are written out once.
-- (Mercury Language Reference Manual: Syntax, implicit quantification.)
use Rattle.std.specs.Prelude.{◌≡◌, ℕ, List, ◌++◌}
use Rattle.mc_program.specs.Programs.{expressions, Formula, Equal, Call, And, Or, If, Not, Exists, Formulas, no_formulas, formula_then, ClauseForm}
use Rattle.mc_model.specs.Lists.{Apart}
use Rattle.mc_accepted.specs.Scope.{variables_in_all, occurring, occurring_all, scoped, HasScopes, clause_scoped, ClauseHasScopes}

-- A variable that a quantifier names doesn't occur outside the quantifier's scope, but in parallel
-- goals; the scope of a condition's variables is the condition with its then part.
abbrev mutual
  pub QuantifiersApart : (outside : List ℕ) → Formula → Type 0
  QuantifiersApart O (Equal a b) = Unit {0}
  QuantifiersApart O (Call p ts) = Unit {0}
  QuantifiersApart O (And gs) = PartsApart O gs
  QuantifiersApart O (Or gs) = DisjunctsApart O gs
  QuantifiersApart O (If vs c t e) =
      Apart vs O
      × QuantifiersApart (O ++ occurring t) c
      × QuantifiersApart (O ++ occurring c) t
      × QuantifiersApart O e
  QuantifiersApart O (Not g) = QuantifiersApart O g
  QuantifiersApart O (Exists vs g) = Apart vs O × QuantifiersApart O g

  pub PartsApart : (outside : List ℕ) → Formulas → Type 0
  PartsApart O no_formulas = Unit {0}
  PartsApart O (formula_then g gs) =
      QuantifiersApart (O ++ occurring_all gs) g × PartsApart (O ++ occurring g) gs

  pub DisjunctsApart : (outside : List ℕ) → Formulas → Type 0
  DisjunctsApart O no_formulas = Unit {0}
  DisjunctsApart O (formula_then g gs) = QuantifiersApart O g × DisjunctsApart O gs

-- where its own quantifiers are so, a goal's scopes are written out, among quantifiers of Q and with
-- O outside; so are a clause's
abbrev pub ScopedHasScopes : Type 0
ScopedHasScopes =
    (O Q : List ℕ) (g : Formula) → QuantifiersApart O g → HasScopes O Q (scoped (O ++ Q) g)

abbrev pub ClausesAreScoped : Type 0
ClausesAreScoped =
    (c : ClauseForm)
    → QuantifiersApart (variables_in_all (expressions c.head)) c.body
    → ClauseHasScopes (clause_scoped c)

-- a goal whose scopes are written out stays as it is
abbrev pub WrittenScopesStay : Type 0
WrittenScopesStay = (O Q : List ℕ) (g : Formula) → HasScopes O Q g → scoped (O ++ Q) g ≡ g

-- writing scopes out twice is writing them out once
abbrev pub ScopedOnce : Type 0
ScopedOnce = (O : List ℕ) (g : Formula) → scoped O (scoped O g) ≡ scoped O g

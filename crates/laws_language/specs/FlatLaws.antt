-- The law that flat truth implies nested truth. (Mercury Language Reference Manual: Semantics; this
-- project's normal form.)
use Rattle.std.specs.Prelude.{◌≡◌, ℕ, ◌<◌, List, ◌++◌}
use Rattle.mc_program.specs.Programs.{Formula, Equal, Call, And, Or, If, Not, Exists, Formulas, no_formulas, formula_then}
use Rattle.mc_model.specs.Truth.{Assignment, Facts, World, Yes, No, stage}
use Rattle.mc_model.specs.Flat.{Flat_goal, FlatYes, FlatNo}
use Rattle.mc_accepted.specs.Normal.{around, conjunction, conjuncts_of}
use Rattle.mc_accepted.specs.Scope.{variables_in, variables_in_all}
use Rattle.mc_model.specs.Lists.{In, Among}

-- each variable that occurs in a goal, or that a quantifier of it names, is among these
abbrev mutual
  pub Uses : List ℕ → Formula → Type 0
  Uses xs (Equal a b) = Among (variables_in a ++ variables_in b) xs
  Uses xs (Call p ts) = Among (variables_in_all ts) xs
  Uses xs (And gs) = AllUse xs gs
  Uses xs (Or gs) = AllUse xs gs
  Uses xs (If vs c t e) = Among vs xs × Uses xs c × Uses xs t × Uses xs e
  Uses xs (Not g) = Uses xs g
  Uses xs (Exists vs g) = Among vs xs × Uses xs g

  pub AllUse : List ℕ → Formulas → Type 0
  AllUse xs no_formulas = Unit {0}
  AllUse xs (formula_then g gs) = Uses xs g × AllUse xs gs

-- different variables have different numbers, and those are below n
pub record Numbers (names : ℕ → ℕ) (xs : List ℕ) (n : ℕ) : Type 0 where
  pub apart : (x y : ℕ) → In x xs → In y xs → names x ≡ names y → x ≡ y
  pub below : (x : ℕ) → In x xs → names x < n

-- a goal's own flat goal, by the numbers of its variables, where those that are made are numbered
-- from n on
abbrev pub flat_goal : (names : ℕ → ℕ) → ℕ → Formula → Flat_goal
flat_goal names n g =
    around (conjuncts_of names n g).made_variables (conjunction (conjuncts_of names n g).goals)

-- the goal is true where its flat goal is, and false where that is
pub record Carries (C : Facts) (names : ℕ → ℕ) (n : ℕ) (g : Formula) (u : Assignment) : Type 0 where
  pub yes : FlatYes C (flat_goal names n g) u → Yes C g (λ x. u (names x))
  pub no : FlatNo C (flat_goal names n g) u → No C g (λ x. u (names x))

-- at every stage
abbrev pub FlatGoalsCarry : Type 0
FlatGoalsCarry =
    (P : World) (m : ℕ) (names : ℕ → ℕ) (xs : List ℕ) (n : ℕ) (g : Formula)
    → Numbers names xs n → Uses xs g →
    (u : Assignment) → Carries (stage P m) names n g u

-- How often variables occur outside a goal, and scopes as they are written out by these counts.
use Rattle.std.specs.Prelude.{ℕ, suc, ◌+◌, ◌-◌, List, [], ◌∷◌, ◌++◌, nat_eq, nat_lt, slice_index_or, if◌then◌else◌}
use Rattle.mc_program.specs.Programs.{Formula, Equal, Call, And, Or, If, Not, Exists, Formulas, no_formulas, formula_then}
use Rattle.mc_program.specs.PlainPrograms.{formulas}
use Rattle.mc_model.specs.Lists.{once}
use Rattle.mc_accepted.specs.Scope.{variables_in, variables_in_all, occurring, occurring_all, quantified}
use Rattle.mc_goals.specs.declared.outside.Outside.{Outside}

abbrev pub times : ℕ → List ℕ → ℕ
times w [] = 0
times w (x ∷ xs) = if nat_eq w x then suc (times w xs) else times w xs

unfoldable pub count : Outside → ℕ → ℕ
count o w = slice_index_or o.counts.items w 0

-- counts with the variables of a list once more, and once less
unfoldable pub more : (ℕ → ℕ) → List ℕ → ℕ → ℕ
more f xs w = f w + times w xs

unfoldable pub less : (ℕ → ℕ) → List ℕ → ℕ → ℕ
less f xs w = f w - times w xs

-- those of the variables that don't occur outside
abbrev pub absent : (ℕ → ℕ) → List ℕ → List ℕ
absent f [] = []
absent f (x ∷ xs) = if nat_lt 0 (f x) then absent f xs else x ∷ absent f xs

-- the free variables of a goal that don't occur outside
abbrev mutual
  pub free_by : (ℕ → ℕ) → Formula → List ℕ
  free_by f (Equal a b) = absent f (variables_in a ++ variables_in b)
  free_by f (Call p ts) = absent f (variables_in_all ts)
  free_by f (And gs) = free_by_all f gs
  free_by f (Or gs) = free_by_all f gs
  free_by f (If vs c t e) =
      (free_by (more f vs) c ++ free_by (more f vs) t) ++ free_by f e
  free_by f (Not g) = free_by f g
  free_by f (Exists vs g) = free_by (more f vs) g

  pub free_by_all : (ℕ → ℕ) → Formulas → List ℕ
  free_by_all f no_formulas = []
  free_by_all f (formula_then g gs) = free_by f g ++ free_by_all f gs

-- each of them once
abbrev pub own_of : (ℕ → ℕ) → Formula → List ℕ
own_of f g = once (absent f (free_by f g))

-- A goal with its scopes written out. A part of a conjunction has less outside than the whole
-- conjunction has with its parts.
abbrev mutual
  pub scoped_by : (ℕ → ℕ) → Formula → Formula
  scoped_by f (Equal a b) = Equal a b
  scoped_by f (Call p ts) = Call p ts
  scoped_by f (And gs) = And (formulas (parts_by (more f (occurring_all gs)) gs))
  scoped_by f (Or gs) = Or (formulas (disjuncts_by f gs))
  scoped_by f (If vs c t e) =
      let made = scoped_by (more (more f vs) (occurring t)) c in
      If (vs ++ own_of (more f vs) made) made (scoped_by (more (more f vs) (occurring c)) t)
      (scoped_by f e)
  scoped_by f (Not g) =
      let made = scoped_by f g in
      Not (quantified (own_of f made) made)
  scoped_by f (Exists vs g) = Exists vs (scoped_by (more f vs) g)

  pub parts_by : (with_parts : ℕ → ℕ) → Formulas → List Formula
  parts_by f no_formulas = []
  parts_by f (formula_then g gs) = scoped_by (less f (occurring g)) g ∷ parts_by f gs

  pub disjuncts_by : (ℕ → ℕ) → Formulas → List Formula
  disjuncts_by f no_formulas = []
  disjuncts_by f (formula_then g gs) = scoped_by f g ∷ disjuncts_by f gs

-- Scopes that are written out, element by element: what a walk over a goal asks.
use Rattle.std.specs.Prelude.{ℕ, List, [], ◌∷◌, ◌++◌}
use Rattle.mc_program.specs.Programs.{Formula, Equal, Call, And, Or, If, Not, Exists, Formulas, no_formulas, formula_then}
use Rattle.mc_model.specs.Lists.{In}
use Rattle.mc_accepted.specs.Scope.{variables_in, variables_in_all, occurring, occurring_all}

abbrev pub AllIn : List ℕ → List ℕ → Type 0
AllIn [] ys = Unit {0}
AllIn (x ∷ xs) ys = In x ys × AllIn xs ys

abbrev pub NoneIn : List ℕ → List ℕ → Type 0
NoneIn [] ys = Unit {0}
NoneIn (x ∷ xs) ys = (In x ys → ⊥) × NoneIn xs ys

-- the free variables of a goal are known
abbrev mutual
  pub FreeIn : (known : List ℕ) → Formula → Type 0
  FreeIn K (Equal a b) = AllIn (variables_in a ++ variables_in b) K
  FreeIn K (Call p ts) = AllIn (variables_in_all ts) K
  FreeIn K (And gs) = AllFreeIn K gs
  FreeIn K (Or gs) = AllFreeIn K gs
  FreeIn K (If vs c t e) = FreeIn (vs ++ K) c × FreeIn (vs ++ K) t × FreeIn K e
  FreeIn K (Not g) = FreeIn K g
  FreeIn K (Exists vs g) = FreeIn (vs ++ K) g

  pub AllFreeIn : (known : List ℕ) → Formulas → Type 0
  AllFreeIn K no_formulas = Unit {0}
  AllFreeIn K (formula_then g gs) = FreeIn K g × AllFreeIn K gs

-- its scopes are written out
abbrev mutual
  pub ScopesIn : (outside around : List ℕ) → Formula → Type 0
  ScopesIn O Q (Equal a b) = Unit {0}
  ScopesIn O Q (Call p ts) = Unit {0}
  ScopesIn O Q (And gs) = PartsIn O Q gs
  ScopesIn O Q (Or gs) = DisjunctsIn O Q gs
  ScopesIn O Q (If vs c t e) =
      NoneIn vs O × FreeIn (vs ++ (O ++ Q)) c × ScopesIn (O ++ occurring t) (Q ++ vs) c
      × ScopesIn (O ++ occurring c) (Q ++ vs) t × ScopesIn O Q e
  ScopesIn O Q (Not g) = FreeIn (O ++ Q) g × ScopesIn O Q g
  ScopesIn O Q (Exists vs g) = NoneIn vs O × ScopesIn O (Q ++ vs) g

  pub PartsIn : (outside around : List ℕ) → Formulas → Type 0
  PartsIn O Q no_formulas = Unit {0}
  PartsIn O Q (formula_then g gs) =
      ScopesIn (O ++ occurring_all gs) Q g × PartsIn (O ++ occurring g) Q gs

  pub DisjunctsIn : (outside around : List ℕ) → Formulas → Type 0
  DisjunctsIn O Q no_formulas = Unit {0}
  DisjunctsIn O Q (formula_then g gs) = ScopesIn O Q g × DisjunctsIn O Q gs

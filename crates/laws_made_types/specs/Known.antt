-- What the laws between the walk of a clause and its normal goal ask for. (Mercury Language Reference
-- Manual: Types; this project's profile: the walk.)
use Rattle.std.specs.Prelude.{◌≡◌, ℕ, ◌<◌, List, [], ◌∷◌, Contains}
use Rattle.mc_program.specs.Values.{int, char, str}
use Rattle.mc_program.specs.Programs.{Source}
use Rattle.mc_model.specs.Types.{IsValue}
use Rattle.mc_accepted.specs.ProperTypes.{Parameters}
use Rattle.mc_accepted.specs.Resolving.{Unresolved, any_variable, any_number, any_text, any_name, Unresolved_terms, no_terms, term_then, Unresolved_goal, equation, atom, all_of, one_of, choice, negation, exists, Unresolved_goals, no_goals, goal_then, Unresolved_clause, Step, choose, call, NamesTerm, NamesAtom}
use Rattle.mc_source.specs.declared.name.Candidate.{Candidate}
use Rattle.mc_source.specs.declared.name.Candidate.TheVariants as C
use Rattle.laws_made_types.specs.Constructors.{IsDeclared}

module _ (P : Source) (D : Parameters) where
  -- a constructor is declared, and a character is one
  abbrev pub Known : Candidate → Type 0
  Known (C.Con s) = (k : ℕ) × IsDeclared P D s k
  Known (C.Char c) = IsValue P (char c)
  Known _ = Unit {0}

  abbrev pub AllKnown : List Candidate → Type 0
  AllKnown [] = Unit {0}
  AllKnown (c ∷ cs) = Known c × AllKnown cs

  -- so is whatever a name of a walk may stand for
  abbrev pub WalkIsKnown : List Step → Type 0
  WalkIsKnown [] = Unit {0}
  WalkIsKnown (choose cs n ∷ steps) =
      ((c : Candidate) → Contains cs c → Known c) × WalkIsKnown steps
  WalkIsKnown (call cs n ∷ steps) =
      ((c : Candidate) → Contains cs c → Known c) × WalkIsKnown steps
  WalkIsKnown (s ∷ steps) = WalkIsKnown steps

module _ (P : Source) where
  -- the numbers and the texts of a clause are values
  abbrev mutual
    pub HasValues : Unresolved → Type 0
    HasValues (any_variable v) = Unit {0}
    HasValues (any_number n) = IsValue P (int n)
    HasValues (any_text bytes) = IsValue P (str bytes)
    HasValues (any_name cs args) = AllHaveValues args

    pub AllHaveValues : Unresolved_terms → Type 0
    AllHaveValues no_terms = Unit {0}
    AllHaveValues (term_then e es) = HasValues e × AllHaveValues es

  abbrev mutual
    pub GoalHasValues : Unresolved_goal → Type 0
    GoalHasValues (equation a b) = HasValues a × HasValues b
    GoalHasValues (atom cs args) = AllHaveValues args
    GoalHasValues (all_of gs) = GoalsHaveValues gs
    GoalHasValues (one_of gs) = GoalsHaveValues gs
    GoalHasValues (choice vs c t e) = GoalHasValues c × GoalHasValues t × GoalHasValues e
    GoalHasValues (negation g) = GoalHasValues g
    GoalHasValues (exists vs g) = GoalHasValues g

    pub GoalsHaveValues : Unresolved_goals → Type 0
    GoalsHaveValues no_goals = Unit {0}
    GoalsHaveValues (goal_then g gs) = GoalHasValues g × GoalsHaveValues gs

  abbrev pub ClauseHasValues : Unresolved_clause → Type 0
  ClauseHasValues clause = AllHaveValues clause.head × GoalHasValues clause.body

-- the variables of a clause, those too that a quantifier names, are below a number
abbrev pub AllLess : ℕ → List ℕ → Type 0
AllLess n [] = Unit {0}
AllLess n (v ∷ vs) = (v < n) × AllLess n vs

abbrev mutual
  pub HasNames : ℕ → Unresolved → Type 0
  HasNames n (any_variable v) = v < n
  HasNames n (any_number k) = Unit {0}
  HasNames n (any_text bytes) = Unit {0}
  HasNames n (any_name cs args) = AllHaveNames n args

  pub AllHaveNames : ℕ → Unresolved_terms → Type 0
  AllHaveNames n no_terms = Unit {0}
  AllHaveNames n (term_then e es) = HasNames n e × AllHaveNames n es

abbrev mutual
  pub GoalHasNames : ℕ → Unresolved_goal → Type 0
  GoalHasNames n (equation a b) = HasNames n a × HasNames n b
  GoalHasNames n (atom cs args) = AllHaveNames n args
  GoalHasNames n (all_of gs) = GoalsHaveNames n gs
  GoalHasNames n (one_of gs) = GoalsHaveNames n gs
  GoalHasNames n (choice vs c t e) =
      AllLess n vs × GoalHasNames n c × GoalHasNames n t × GoalHasNames n e
  GoalHasNames n (negation g) = GoalHasNames n g
  GoalHasNames n (exists vs g) = AllLess n vs × GoalHasNames n g

  pub GoalsHaveNames : ℕ → Unresolved_goals → Type 0
  GoalsHaveNames n no_goals = Unit {0}
  GoalsHaveNames n (goal_then g gs) = GoalHasNames n g × GoalsHaveNames n gs

abbrev pub ClauseHasNames : ℕ → Unresolved_clause → Type 0
ClauseHasNames n clause = AllHaveNames n clause.head × GoalHasNames n clause.body

-- a character stands for a name without arguments
abbrev pub Bare : ℕ → Candidate → Type 0
Bare n (C.Char c) = n ≡ 0
Bare n _ = Unit {0}

-- there is a pick for each name, one of its candidates and of its kind
abbrev pub Picked : List Step → List Candidate → Type 0
Picked [] picks = picks ≡ []
Picked (choose cs n ∷ steps) [] = ⊥
Picked (choose cs n ∷ steps) (c ∷ picks) =
    Contains cs c × NamesTerm c × Bare n c × Picked steps picks
Picked (call cs n ∷ steps) [] = ⊥
Picked (call cs n ∷ steps) (c ∷ picks) = Contains cs c × NamesAtom c × Picked steps picks
Picked (s ∷ steps) picks = Picked steps picks

-- Resolving: from a clause of source, whose names may stand for several things each, to the one
-- clause that it is. (Mercury Language Reference Manual: Types, overloading; this project's profile:
-- the order of candidates and of the walk, and the limit of live assignments.)
use Rattle.std.specs.Prelude.{◌≡◌, ℕ, ℤ, zero, suc, ◌-◌, ◌<◌, List, [], ◌∷◌, ◌++◌, map, length, take, drop, slice_index_or, Contains, ◌⊎◌, Option, Some, None}
use Rattle.mc_program.specs.Values.{int, char, str}
use Rattle.mc_program.specs.Programs.{TypeTerm, int_type, char_type, string_type, variable_type, union_type, TypeTerms, no_types, type_then, Expression, variable, constant, made, applied, Expressions, no_expressions, expression_then, Formula, Equal, Call, And, Or, If, Not, Exists, Formulas, no_formulas, formula_then, ClauseForm, Source}
use Rattle.mc_model.specs.Types.{instance_of}
use Rattle.mc_accepted.specs.ProperTypes.{Parameters}
use Rattle.mc_source.specs.declared.name.Candidate.{Candidate}
use Rattle.mc_source.specs.declared.name.Candidate.TheVariants as C

mutual
  -- a term whose names are not resolved: each occurrence of a name has its candidates, in order
  pub data Unresolved : Type 0 where
    any_variable : (v : ℕ) → Unresolved
    any_number : ℤ → Unresolved
    any_text : List ℕ → Unresolved
    any_name : (candidates : List Candidate) → (args : Unresolved_terms) → Unresolved

  pub data Unresolved_terms : Type 0 where
    no_terms : Unresolved_terms
    term_then : Unresolved → Unresolved_terms → Unresolved_terms

mutual
  -- a goal of source; the name of an atom has its candidates too
  pub data Unresolved_goal : Type 0 where
    equation : Unresolved → Unresolved → Unresolved_goal
    atom : (candidates : List Candidate) → (args : Unresolved_terms) → Unresolved_goal
    all_of : Unresolved_goals → Unresolved_goal
    one_of : Unresolved_goals → Unresolved_goal
    choice :
        (vars : List ℕ) → (condition then_part else_part : Unresolved_goal) → Unresolved_goal
    negation : Unresolved_goal → Unresolved_goal
    exists : (vars : List ℕ) → Unresolved_goal → Unresolved_goal

  pub data Unresolved_goals : Type 0 where
    no_goals : Unresolved_goals
    goal_then : Unresolved_goal → Unresolved_goals → Unresolved_goals

-- a clause of source, of a predicate; a query is one of a predicate without arguments
pub record Unresolved_clause : Type 0 where
  pub pred : ℕ
  pub head : Unresolved_terms
  pub body : Unresolved_goal

abbrev pub count : Unresolved_terms → ℕ
count no_terms = 0
count (term_then e es) = suc (count es)

-- THE CLAUSE THAT PICKS MAKE. There is a pick for each occurrence of a name, arguments left to right
-- before the name that holds them. What is made of a part stands beside the picks that are left.

-- a name that stands for its pick; where there is none, what it makes doesn't matter
abbrev pub named : Expressions → List Candidate → Expression × List Candidate
named es (C.Con s ∷ picks) = (made s es, picks)
named es (C.Func f ∷ picks) = (applied f es, picks)
named es (C.Char c ∷ picks) = (constant (char c), picks)
named es (C.Pred p ∷ picks) = (applied p es, picks)
named es [] = (made 0 es, [])

abbrev pub called : Expressions → List Candidate → Formula × List Candidate
called es (C.Pred p ∷ picks) = (Call p es, picks)
called es (c ∷ picks) = (Call 0 es, picks)
called es [] = (Call 0 es, [])

abbrev mutual
  pub resolved_term : Unresolved → List Candidate → Expression × List Candidate
  resolved_term (any_variable v) picks = (variable v, picks)
  resolved_term (any_number n) picks = (constant (int n), picks)
  resolved_term (any_text bytes) picks = (constant (str bytes), picks)
  resolved_term (any_name cs args) picks =
      let r = resolved_terms args picks in
      named r.0 r.1

  pub resolved_terms : Unresolved_terms → List Candidate → Expressions × List Candidate
  resolved_terms no_terms picks = (no_expressions, picks)
  resolved_terms (term_then e es) picks =
      let r = resolved_term e picks in
      let rs = resolved_terms es r.1 in
      (expression_then r.0 rs.0, rs.1)

abbrev mutual
  pub resolved_goal : Unresolved_goal → List Candidate → Formula × List Candidate
  resolved_goal (equation a b) picks =
      let ra = resolved_term a picks in
      let rb = resolved_term b ra.1 in
      (Equal ra.0 rb.0, rb.1)
  resolved_goal (atom cs args) picks =
      let r = resolved_terms args picks in
      called r.0 r.1
  resolved_goal (all_of gs) picks =
      let r = resolved_goals gs picks in
      (And r.0, r.1)
  resolved_goal (one_of gs) picks =
      let r = resolved_goals gs picks in
      (Or r.0, r.1)
  resolved_goal (choice vs c t e) picks =
      let rc = resolved_goal c picks in
      let rt = resolved_goal t rc.1 in
      let re = resolved_goal e rt.1 in
      (If vs rc.0 rt.0 re.0, re.1)
  resolved_goal (negation g) picks =
      let r = resolved_goal g picks in
      (Not r.0, r.1)
  resolved_goal (exists vs g) picks =
      let r = resolved_goal g picks in
      (Exists vs r.0, r.1)

  pub resolved_goals : Unresolved_goals → List Candidate → Formulas × List Candidate
  resolved_goals no_goals picks = (no_formulas, picks)
  resolved_goals (goal_then g gs) picks =
      let r = resolved_goal g picks in
      let rs = resolved_goals gs r.1 in
      (formula_then r.0 rs.0, rs.1)

abbrev pub listed_expressions : Expressions → List Expression
listed_expressions no_expressions = []
listed_expressions (expression_then e es) = e ∷ listed_expressions es

-- the head first, then the body
abbrev pub resolved : Unresolved_clause → List Candidate → ClauseForm
resolved clause picks =
    let r = resolved_terms clause.head picks in
    record { head = listed_expressions r.0; body = (resolved_goal clause.body r.1).0 }

-- THE WALK. A clause is walked with a stack of types, whose top is its end: a term leaves its type
-- there, and a name takes those of its arguments.
pub data Step : Type 0 where
  push_variable : (v : ℕ) → Step
  push_number : Step
  push_text : Step
  choose : (candidates : List Candidate) → (arguments : ℕ) → Step
  equate : Step
  call : (candidates : List Candidate) → (arguments : ℕ) → Step
  close_head : (pred : ℕ) → (arguments : ℕ) → Step

abbrev mutual
  pub term_steps : Unresolved → List Step
  term_steps (any_variable v) = push_variable v ∷ []
  term_steps (any_number n) = push_number ∷ []
  term_steps (any_text bytes) = push_text ∷ []
  term_steps (any_name cs args) = terms_steps args ++ choose cs (count args) ∷ []

  pub terms_steps : Unresolved_terms → List Step
  terms_steps no_terms = []
  terms_steps (term_then e es) = term_steps e ++ terms_steps es

abbrev mutual
  pub goal_steps : Unresolved_goal → List Step
  goal_steps (equation a b) = term_steps a ++ (term_steps b ++ equate ∷ [])
  goal_steps (atom cs args) = terms_steps args ++ call cs (count args) ∷ []
  goal_steps (all_of gs) = goals_steps gs
  goal_steps (one_of gs) = goals_steps gs
  goal_steps (choice vs c t e) = goal_steps c ++ (goal_steps t ++ goal_steps e)
  goal_steps (negation g) = goal_steps g
  goal_steps (exists vs g) = goal_steps g

  pub goals_steps : Unresolved_goals → List Step
  goals_steps no_goals = []
  goals_steps (goal_then g gs) = goal_steps g ++ goals_steps gs

abbrev pub steps_of : Unresolved_clause → List Step
steps_of clause =
    terms_steps clause.head ++ close_head clause.pred (count clause.head) ∷ goal_steps clause.body

-- the type variables from a number on, as so many arguments
abbrev pub parameters_from : (first count : ℕ) → TypeTerms
parameters_from first zero = no_types
parameters_from first (suc n) = type_then (variable_type first) (parameters_from (suc first) n)

-- a union type over its own parameters; D tells how many it has
abbrev pub declared_type : (u : ℕ) → Option ℕ → TypeTerm
declared_type u (Some n) = union_type u (parameters_from 0 n)
declared_type u None = union_type u no_types

module _ (P : Source) (D : Parameters) where
  -- What a candidate is declared with, as the clause's module sees it: its arguments' types, then its
  -- own; a predicate has no type of its own. A type that is defined out of sight of the module is a
  -- type of its own there.
  abbrev pub signature : Candidate → List TypeTerm
  signature (C.Con s) =
      (P.symbols s).args ++ declared_type (P.symbols s).of_type (D (P.symbols s).of_type) ∷ []
  signature (C.Func f) = (P.preds f).types
  signature (C.Pred p) = (P.preds p).types
  signature (C.Char c) = char_type ∷ []

  -- the types are a candidate's, with types for its own type variables, which are its own at each
  -- occurrence
  abbrev pub Takes : Candidate → List TypeTerm → Type 0
  Takes c ts = (σ : ℕ → TypeTerm) × (map (instance_of σ) (signature c) ≡ ts)

-- a predicate is an atom's name, and what is none is a term's
abbrev pub NamesAtom : Candidate → Type 0
NamesAtom (C.Pred p) = Unit {0}
NamesAtom _ = ⊥

abbrev pub NamesTerm : Candidate → Type 0
NamesTerm (C.Pred p) = ⊥
NamesTerm _ = Unit {0}

-- the topmost types of a stack, and those below them
abbrev pub topmost : ℕ → List TypeTerm → List TypeTerm
topmost n stack = drop (length stack - n) stack

abbrev pub below : ℕ → List TypeTerm → List TypeTerm
below n stack = take (length stack - n) stack

module _ (P : Source) (D : Parameters) where
  -- The picks type the steps from a stack on, where τ gives the types of the clause's variables: both
  -- sides of an equation have one type, and the head's arguments have the declared types, whose type
  -- variables are rigid.
  abbrev pub Walks :
      (τ : ℕ → TypeTerm)
      → List Step → (stack : List TypeTerm) → (picks : List Candidate) → Type 0
  Walks τ [] stack picks = picks ≡ []
  Walks τ (push_variable v ∷ steps) stack picks = Walks τ steps (stack ++ τ v ∷ []) picks
  Walks τ (push_number ∷ steps) stack picks = Walks τ steps (stack ++ int_type ∷ []) picks
  Walks τ (push_text ∷ steps) stack picks = Walks τ steps (stack ++ string_type ∷ []) picks
  Walks τ (choose cs n ∷ steps) stack [] = ⊥
  Walks τ (choose cs n ∷ steps) stack (c ∷ picks) =
      Contains cs c
      × NamesTerm c
      × (t : TypeTerm)
      × Takes P D c (topmost n stack ++ t ∷ [])
      × Walks τ steps (below n stack ++ t ∷ []) picks
  Walks τ (equate ∷ steps) stack picks =
      (t : TypeTerm) × (topmost 2 stack ≡ t ∷ t ∷ []) × Walks τ steps (below 2 stack) picks
  Walks τ (call cs n ∷ steps) stack [] = ⊥
  Walks τ (call cs n ∷ steps) stack (c ∷ picks) =
      Contains cs c
      × NamesAtom c
      × Takes P D c (topmost n stack)
      × Walks τ steps (below n stack) picks
  Walks τ (close_head p n ∷ steps) stack picks =
      (topmost n stack ≡ (P.preds p).types) × Walks τ steps (below n stack) picks

  -- An assignment of picks is live where steps have been walked and some types of the variables type
  -- them.
  abbrev pub Live : List Step → (picks : List Candidate) → Type 0
  Live steps picks = (τ : ℕ → TypeTerm) × Walks τ steps [] picks

  -- a resolution is live at the end
  abbrev pub Resolves : Unresolved_clause → (picks : List Candidate) → Type 0
  Resolves clause picks = Live (steps_of clause) picks

  -- a clause is well typed where exactly one resolution types it
  pub record WellTyped (clause : Unresolved_clause) : Type 0 where
    pub picks : List Candidate
    pub resolves : Resolves clause picks
    pub alone : (others : List Candidate) → Resolves clause others → others ≡ picks

  -- at some moment more assignments are live than a limit
  pub record TooMany (limit : ℕ) (clause : Unresolved_clause) : Type 0 where
    pub moment : ℕ
    pub live : List (List Candidate)
    pub many : limit < length live
    pub distinct :
        (i j : ℕ)
        → i < j → j < length live → slice_index_or live i [] ≡ slice_index_or live j [] → ⊥
    pub all_live :
        (i : ℕ)
        → i < length live → Live (take moment (steps_of clause)) (slice_index_or live i [])

-- so many assignments may be live
abbrev pub assignments_limit : ℕ
assignments_limit = 1024

-- THE ORDER OF RESOLUTIONS: by the places of the picks in the lists of candidates.

abbrev pub names_of : List Step → List (List Candidate)
names_of [] = []
names_of (choose cs n ∷ steps) = cs ∷ names_of steps
names_of (call cs n ∷ steps) = cs ∷ names_of steps
names_of (s ∷ steps) = names_of steps

-- the first of two candidates is met before the second
abbrev pub Before : List Candidate → (a b : Candidate) → Type 0
Before [] a b = ⊥
Before (c ∷ cs) a b = (c ≡ b → ⊥) × ((c ≡ a) ⊎ Before cs a b)

-- the first difference is to an earlier candidate
abbrev pub Earlier : List (List Candidate) → (first second : List Candidate) → Type 0
Earlier (cs ∷ names) (a ∷ as') (b ∷ bs) = Before cs a b ⊎ ((a ≡ b) × Earlier names as' bs)
Earlier _ _ _ = ⊥

-- the first two resolutions of a clause
pub record FirstTwo
    (P : Source) (D : Parameters) (clause : Unresolved_clause) (first second : List Candidate)
    : Type 0 where
  pub one : Resolves P D clause first
  pub two : Resolves P D clause second
  pub in_order : Earlier (names_of (steps_of clause)) first second
  pub others :
      (picks : List Candidate)
      → Resolves P D clause picks
      → (picks ≡ first)
      ⊎ ((picks ≡ second) ⊎ Earlier (names_of (steps_of clause)) second picks)

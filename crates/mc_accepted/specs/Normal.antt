-- Normal goals: the one goal of a predicate, whose atoms hold variables alone. (This project's
-- normal form, after the superhomogeneous form of Somogyi, Henderson, Conway 1996.)
use Rattle.std.specs.Prelude.{ℕ, suc, ◌+◌, List, [], ◌∷◌, ◌++◌, map, length, Bool, true, false, nat_eq, Option, Some, None, if◌then◌else◌}
use Rattle.mc_program.specs.Programs.{Expression, variable, constant, made, applied, Expressions, no_expressions, expression_then, expressions, Formula, Equal, Call, And, Or, If, Not, Exists, Formulas, no_formulas, formula_then, ClauseForm}
use Rattle.mc_model.specs.Flat as F
use Rattle.mc_model.specs.Flat.{Flat_goal, Flat_goals, no_flat, flat_then, flats}
use Rattle.mc_accepted.specs.Scope.{occurring, variables_in, variables_in_all}
use Rattle.mc_model.specs.Lists.{is_in, once, place_in}

abbrev pub listed_flats : Flat_goals → List Flat_goal
listed_flats no_flat = []
listed_flats (flat_then g gs) = g ∷ listed_flats gs

-- nested conjunctions are one, and one goal stands alone
abbrev pub conjuncts : Flat_goal → List Flat_goal
conjuncts (F.And gs) = listed_flats gs
conjuncts g = g ∷ []

abbrev pub all_conjuncts : List Flat_goal → List Flat_goal
all_conjuncts [] = []
all_conjuncts (g ∷ gs) = conjuncts g ++ all_conjuncts gs

abbrev pub one_or_and : List Flat_goal → Flat_goal
one_or_and (g ∷ []) = g
one_or_and gs = F.And (flats gs)

abbrev pub conjunction : List Flat_goal → Flat_goal
conjunction gs = one_or_and (all_conjuncts gs)

-- nested disjunctions are one, so a `fail` among other disjuncts vanishes
abbrev pub disjuncts : Flat_goal → List Flat_goal
disjuncts (F.Or gs) = listed_flats gs
disjuncts g = g ∷ []

abbrev pub all_disjuncts : List Flat_goal → List Flat_goal
all_disjuncts [] = []
all_disjuncts (g ∷ gs) = disjuncts g ++ all_disjuncts gs

abbrev pub disjunction : List Flat_goal → Flat_goal
disjunction gs = F.Or (flats (all_disjuncts gs))

-- variables quantified around a goal, where there are any
abbrev pub around : List ℕ → Flat_goal → Flat_goal
around [] g = g
around (v ∷ vs) g = F.Exists (v ∷ vs) g

-- Terms as variables: the variables that stand for them, the goals that define those, the variables
-- that were made, and the next number for one.
pub record Named_terms : Type 0 where
  pub variables : List ℕ
  pub goals : List Flat_goal
  pub made_variables : List ℕ
  pub next : ℕ

abbrev pub the_variable : Named_terms → ℕ
the_variable r = first_of r.variables
  where
    first_of : List ℕ → ℕ
    first_of [] = 0
    first_of (v ∷ vs) = v

-- Terms become variables, parts left to right, inner first; names gives the numbers of the clause's
-- own variables.
abbrev mutual
  pub name_term : (names : ℕ → ℕ) → ℕ → Expression → Named_terms
  name_term names n (variable v) =
      record { variables = names v ∷ []; goals = []; made_variables = []; next = n }
  name_term names n (constant c) =
      record { variables = n ∷ []; goals = F.Is n c ∷ []; made_variables = n ∷ []; next = n + 1 }
  name_term names n (made f ts) =
      let r = name_terms names n ts in
      record {
        variables = r.next ∷ [];
        goals = r.goals ++ F.Made r.next f r.variables ∷ [];
        made_variables = r.made_variables ++ r.next ∷ [];
        next = r.next + 1;
      }
  name_term names n (applied f ts) =
      let r = name_terms names n ts in
      record {
        variables = r.next ∷ [];
        goals = r.goals ++ F.Call f (r.variables ++ r.next ∷ []) ∷ [];
        made_variables = r.made_variables ++ r.next ∷ [];
        next = r.next + 1;
      }

  pub name_terms : (names : ℕ → ℕ) → ℕ → Expressions → Named_terms
  name_terms names n no_expressions =
      record { variables = []; goals = []; made_variables = []; next = n }
  name_terms names n (expression_then t ts) =
      let r = name_term names n t in
      let rs = name_terms names r.next ts in
      record {
        variables = r.variables ++ rs.variables;
        goals = r.goals ++ rs.goals;
        made_variables = r.made_variables ++ rs.made_variables;
        next = rs.next;
      }

-- goals as conjuncts, with the variables that were made for them and the next number for one
pub record Conjuncts : Type 0 where
  pub goals : List Flat_goal
  pub made_variables : List ℕ
  pub next : ℕ

-- An equation of a variable and a term: one goal over the term's parts; a function's application is
-- its call with that variable as its result.
abbrev pub equate : (names : ℕ → ℕ) → ℕ → ℕ → Expression → Conjuncts
equate names n x (variable y) =
    record { goals = F.Same x (names y) ∷ []; made_variables = []; next = n }
equate names n x (constant c) = record { goals = F.Is x c ∷ []; made_variables = []; next = n }
equate names n x (made f ts) =
    let r = name_terms names n ts in
    record {
      goals = r.goals ++ F.Made x f r.variables ∷ [];
      made_variables = r.made_variables;
      next = r.next;
    }
equate names n x (applied f ts) =
    let r = name_terms names n ts in
    record {
      goals = r.goals ++ F.Call f (r.variables ++ x ∷ []) ∷ [];
      made_variables = r.made_variables;
      next = r.next;
    }

-- goals before others
abbrev pub before : List Flat_goal → List ℕ → Conjuncts → Conjuncts
before gs vs r =
    record { goals = gs ++ r.goals; made_variables = vs ++ r.made_variables; next = r.next }

-- where neither side of an equation is a variable, the left side gets a fresh one
abbrev pub equation : (names : ℕ → ℕ) → ℕ → Expression → Expression → Conjuncts
equation names n (variable x) b = equate names n (names x) b
equation names n a (variable y) = equate names n (names y) a
equation names n a b =
    let r = name_term names n a in
    before r.goals r.made_variables (equate names r.next (the_variable r) b)

-- one goal that is no conjunction
abbrev pub alone : Flat_goal → ℕ → Conjuncts
alone g n = record { goals = g ∷ []; made_variables = []; next = n }

-- A goal as the conjuncts that it adds to the conjunction around it: the parts of an atom stand
-- before it as conjuncts of that conjunction. The variables that were made for them are quantified
-- around that conjunction.
abbrev mutual
  pub conjuncts_of : (names : ℕ → ℕ) → ℕ → Formula → Conjuncts
  conjuncts_of names n (Equal a b) = equation names n a b
  conjuncts_of names n (Call p ts) =
      let r = name_terms names n ts in
      record {
        goals = r.goals ++ F.Call p r.variables ∷ [];
        made_variables = r.made_variables;
        next = r.next;
      }
  conjuncts_of names n (And gs) = conjuncts_of_all names n gs
  conjuncts_of names n (Or gs) =
      let r = disjuncts_of names n gs in
      alone (disjunction r.goals) r.next
  conjuncts_of names n (If vs c t e) =
      let rc = conjuncts_of names n c in
      let rt = conjuncts_of names rc.next t in
      let re = conjuncts_of names rt.next e in
      alone
      (F.If (map names vs) (around rc.made_variables (conjunction rc.goals))
      (around rt.made_variables (conjunction rt.goals))
      (around re.made_variables (conjunction re.goals))) re.next
  conjuncts_of names n (Not g) =
      let r = conjuncts_of names n g in
      alone (F.Not (around r.made_variables (conjunction r.goals))) r.next
  conjuncts_of names n (Exists vs g) =
      let r = conjuncts_of names n g in
      alone (F.Exists (map names vs ++ r.made_variables) (conjunction r.goals)) r.next

  pub conjuncts_of_all : (names : ℕ → ℕ) → ℕ → Formulas → Conjuncts
  conjuncts_of_all names n no_formulas = record { goals = []; made_variables = []; next = n }
  conjuncts_of_all names n (formula_then g gs) =
      let r = conjuncts_of names n g in
      before r.goals r.made_variables (conjuncts_of_all names r.next gs)

  pub disjuncts_of : (names : ℕ → ℕ) → ℕ → Formulas → Conjuncts
  disjuncts_of names n no_formulas = record { goals = []; made_variables = []; next = n }
  disjuncts_of names n (formula_then g gs) =
      let r = conjuncts_of names n g in
      before (around r.made_variables (conjunction r.goals) ∷ []) [] (disjuncts_of names r.next gs)

abbrev pub one_more : Option ℕ → Option ℕ
one_more None = None
one_more (Some k) = Some (suc k)

-- the head argument that is this variable, where the variable isn't met before in the head
abbrev pub head_place : ℕ → List Expression → Option ℕ
head_place x [] = None
head_place x (variable y ∷ ts) = if nat_eq x y then Some 0 else one_more (head_place x ts)
head_place x (t ∷ ts) = if is_in x (variables_in t) then None else one_more (head_place x ts)

abbrev pub has_place : Option ℕ → Bool
has_place None = false
has_place (Some k) = true

-- those of the variables that are no head argument
abbrev pub no_arguments : List Expression → List ℕ → List ℕ
no_arguments head [] = []
no_arguments head (x ∷ xs) =
    if has_place (head_place x head) then no_arguments head xs else x ∷ no_arguments head xs

-- the variables that quantifiers name
abbrev mutual
  pub named_by_quantifiers : Formula → List ℕ
  named_by_quantifiers (Equal a b) = []
  named_by_quantifiers (Call p ts) = []
  named_by_quantifiers (And gs) = named_by_quantifiers_of_all gs
  named_by_quantifiers (Or gs) = named_by_quantifiers_of_all gs
  named_by_quantifiers (If vs c t e) =
      vs ++ (named_by_quantifiers c ++ (named_by_quantifiers t ++ named_by_quantifiers e))
  named_by_quantifiers (Not g) = named_by_quantifiers g
  named_by_quantifiers (Exists vs g) = vs ++ named_by_quantifiers g

  pub named_by_quantifiers_of_all : Formulas → List ℕ
  named_by_quantifiers_of_all no_formulas = []
  named_by_quantifiers_of_all (formula_then g gs) =
      named_by_quantifiers g ++ named_by_quantifiers_of_all gs

-- a clause's variables that are no head argument, in the order in which they occur first
abbrev pub other_variables : ClauseForm → List ℕ
other_variables c =
    no_arguments c.head
    (once
    (variables_in_all (expressions c.head)
    ++ (occurring c.body ++ named_by_quantifiers c.body)))

abbrev pub place_or : ℕ → Option ℕ → ℕ
place_or k None = k
place_or k (Some i) = i

-- The numbers of a clause's variables: a variable that is a head argument has the number of the
-- first such place; the others are numbered from n on.
abbrev pub names_in : ℕ → ClauseForm → ℕ → ℕ
names_in n c v = place_or (n + place_in v (other_variables c)) (head_place v c.head)

abbrev pub is_place : ℕ → Option ℕ → Bool
is_place i None = false
is_place i (Some k) = nat_eq i k

-- the equation of head variable i and an argument; there is none where the argument is that
-- variable
abbrev pub head_equation : (names : ℕ → ℕ) → List Expression → ℕ → ℕ → Expression → Conjuncts
head_equation names head n i (variable v) =
    if is_place i (head_place v head) then record { goals = []; made_variables = []; next = n }
    else equate names n i (variable v)
head_equation names head n i t = equate names n i t

abbrev pub head_equations : (names : ℕ → ℕ) → List Expression → ℕ → ℕ → List Expression → Conjuncts
head_equations names head n i [] = record { goals = []; made_variables = []; next = n }
head_equations names head n i (t ∷ ts) =
    let r = head_equation names head n i t in
    before r.goals r.made_variables (head_equations names head r.next (suc i) ts)

-- a clause's goal: the head's equations in order, and then the body; its own variables are numbered
-- from n on, and the variables that are made after them
abbrev pub clause_goal : ℕ → ClauseForm → Conjuncts
clause_goal n c =
    let names = names_in n c in
    let r = head_equations names c.head (n + length (other_variables c)) 0 c.head in
    before r.goals r.made_variables (conjuncts_of names r.next c.body)

abbrev pub clause_goals : ℕ → List ClauseForm → Conjuncts
clause_goals n [] = record { goals = []; made_variables = []; next = n }
clause_goals n (c ∷ cs) =
    let r = clause_goal n c in
    before (conjunction r.goals ∷ []) [] (clause_goals r.next cs)

-- one clause is its goal; several are one disjunction, in order
abbrev pub one_or_either : List Flat_goal → Flat_goal
one_or_either (g ∷ []) = g
one_or_either gs = disjunction gs

-- the one goal of a predicate's clauses, over the head variables 0, 1, .., with the number of its
-- variables
pub record Normal_goal : Type 0 where
  pub arity : ℕ
  pub variables : ℕ
  pub body : Flat_goal

abbrev pub normal_goal : (arity : ℕ) → List ClauseForm → Normal_goal
normal_goal n cs =
    let r = clause_goals n cs in
    record { arity = n; variables = r.next; body = one_or_either r.goals }

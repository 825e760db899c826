-- What a clause is before its names are resolved: its terms with the candidates of each name, its
-- goals, and the numbers of its variables. (Mercury Language Reference Manual: Syntax; Goals; Clauses.)
use Rattle.std.specs.Prelude.{ℕ, Bool, true, false, nat_eq, List, [], ◌∷◌, map, Option, Some, None, codes, if◌then◌else◌}
use Rattle.mc_term_data.specs.Plain.{PlainTerm, PlainTerms, at, no_term, more_terms, Var, Int, Str, App, Items, Tailed, Conj, Disj}
use Rattle.mc_term_data.specs.Names.{count}
use Rattle.mc_term_data.specs.Shapes.{operands}
use Rattle.mc_source.specs.declared.name.Candidate.{Candidate}
use Rattle.mc_clause_syntax.specs.declared.goal_form.GoalForm.{GoalForm}
use Rattle.mc_clause_syntax.specs.declared.goal_form.GoalForm.TheVariants as G
use Rattle.mc_clause_syntax.specs.GoalForms.{goal_form}
use Rattle.mc_decl_syntax.specs.Plain.{Path}
use Rattle.mc_names.specs.Plain.{id, qualifiers, last_part}
use Rattle.mc_names.specs.Definitions.{comma, semicolon, cell_path, nil_path}
use Rattle.mc_names.specs.Linked.{Linked}
use Rattle.mc_names.specs.Candidates.{candidates}
use Rattle.mc_accepted.specs.Resolving.{Unresolved, any_variable, any_number, any_text, any_name, Unresolved_terms, no_terms, term_then, Unresolved_goal, equation, atom, all_of, one_of, choice, negation, exists, Unresolved_goals, no_goals, goal_then, Unresolved_clause}
use Rattle.mc_clauses.specs.Variables.{Numbers, Met, nothing_met, variable_of, quantified_by}

-- WALKS. A part of a clause is walked under quantifiers and after what was met so far: it makes
-- something, and more may be met.
abbrev pub Walk : Type 0 → Type 0
Walk A = Numbers → Met → A × Met

abbrev pub made : {A : Type 0} → A → Walk A
made a q m = (a, m)

abbrev pub on_made : {A B : Type 0} → (A → B) → Walk A → Walk B
on_made f walk q m =
    let r = walk q m in
    (f r.0, r.1)

-- one part and then another
abbrev pub both : {A B C : Type 0} → (A → B → C) → Walk A → Walk B → Walk C
both f first second q m =
    let r = first q m in
    let s = second q r.1 in
    (f r.0 s.0, s.1)

-- a part under a quantifier, with the variables that its list names
abbrev pub under :
    {A B : Type 0} → (list : PlainTerm) → (List ℕ → A → B) → Walk A → Walk B
under list f walk q m =
    let inner = quantified_by list q m in
    let r = walk inner.numbers inner.met in
    (f inner.vars r.0, r.1)

abbrev pub two_terms : Unresolved → Unresolved → Unresolved_terms
two_terms a b = term_then a (term_then b no_terms)

abbrev pub two_goals : Unresolved_goal → Unresolved_goal → Unresolved_goals
two_goals a b = goal_then a (goal_then b no_goals)

-- TERMS

abbrev pub variable_walk : List ℕ → Walk Unresolved
variable_walk x q m =
    let r = variable_of q x m in
    (any_variable r.0, r.1)

abbrev pub in_turn : List (Walk Unresolved) → Walk Unresolved_terms
in_turn [] = made no_terms
in_turn (t ∷ ts) = both term_then t (in_turn ts)

-- in the module of a number
module _ (l : Linked) (own : ℕ) where
  -- what a name over so many arguments may mean
  abbrev pub meanings : Path → (arity : ℕ) → List Candidate
  meanings w n = candidates l own (qualifiers w) (id (last_part w) n)

  abbrev pub binary : Path → Unresolved → Unresolved → Unresolved
  binary w a b = any_name (meanings w 2) (two_terms a b)

  -- a list is `[|]` over each element and what follows
  abbrev pub elements : List (Walk Unresolved) → (end : Walk Unresolved) → Walk Unresolved
  elements [] end = end
  elements (t ∷ ts) end = both (binary cell_path) t (elements ts end)

  -- and `[]` at its end
  abbrev pub nil : Walk Unresolved
  nil = made (any_name (meanings nil_path 0) no_terms)

  -- terms with a name between each two
  abbrev pub joined_by : Path → List (Walk Unresolved) → Walk Unresolved
  joined_by w [] = made (any_name (meanings w 0) no_terms)
  joined_by w (t ∷ []) = t
  joined_by w (t ∷ u ∷ us) = both (binary w) t (joined_by w (u ∷ us))

  abbrev mutual
    pub term_of : PlainTerm → Walk Unresolved
    term_of (at (Var x) line) = variable_walk x
    term_of (at (Int n) line) = made (any_number n)
    term_of (at (Str bytes) line) = made (any_text bytes)
    term_of (at (App w ts) line) =
        on_made (any_name (meanings w (count ts))) (in_turn (terms_of ts))
    term_of (at (Items ts) line) = elements (terms_of ts) nil
    term_of (at (Tailed ts t) line) = elements (terms_of ts) (term_of t)
    term_of (at (Conj ts) line) = joined_by comma (terms_of ts)
    term_of (at (Disj ts) line) = joined_by semicolon (terms_of ts)

    pub terms_of : PlainTerms → List (Walk Unresolved)
    terms_of no_term = []
    terms_of (more_terms t ts) = term_of t ∷ terms_of ts

-- GOALS

-- A term as a goal by itself; as a condition, by the list that it quantifies as a whole and the goal
-- under it; what has no answer where it is true for all values; and before an else part, where it is
-- a conditional.
pub record Goal : Type 0 where
  pub itself : Walk Unresolved_goal
  pub names : PlainTerm
  pub condition : Walk Unresolved_goal
  pub denied : Walk Unresolved_goal
  pub is_conditional : Bool
  pub before_else : (else_part : Walk Unresolved_goal) → Walk Unresolved_goal

abbrev pub no_list : PlainTerm
no_list = at (Items no_term) 0

abbrev pub plainly : Walk Unresolved_goal → Goal
plainly walk =
    record {
      itself = walk;
      names = no_list;
      condition = walk;
      denied = on_made negation walk;
      is_conditional = false;
      before_else = λ else_part. walk;
    }

-- `some [V] G`; as a condition it reaches over its then part
abbrev pub for_some : (list : PlainTerm) → Goal → Goal
for_some list g =
    record {
      itself = under list exists g.itself;
      names = list;
      condition = g.itself;
      denied = on_made negation (under list exists g.itself);
      is_conditional = false;
      before_else = λ else_part. g.itself;
    }

-- `all [V] (A => B)` is `not some [V] (A, not B)`; any other `all [V] A` is `not some [V] not A`
abbrev pub for_all : (list : PlainTerm) → Goal → Goal
for_all list g = plainly (on_made negation (under list exists g.denied))

-- `A => B` is `not (A, not B)`
abbrev pub not_implied : Goal → Goal → Walk Unresolved_goal
not_implied a b = both (λ x y. all_of (two_goals x (negation y))) a.itself b.itself

abbrev pub implied : Goal → Goal → Goal
implied a b =
    record {
      itself = on_made negation (not_implied a b);
      names = no_list;
      condition = on_made negation (not_implied a b);
      denied = not_implied a b;
      is_conditional = false;
      before_else = λ else_part. on_made negation (not_implied a b);
    }

-- `C -> T` with its else part
abbrev pub chosen : Goal → Goal → (else_part : Walk Unresolved_goal) → Walk Unresolved_goal
chosen c t else_part q m =
    let inner = quantified_by c.names q m in
    let rc = c.condition inner.numbers inner.met in
    let rt = t.itself inner.numbers rc.1 in
    let re = else_part q rt.1 in
    (choice inner.vars rc.0 rt.0 re.0, re.1)

abbrev pub conditional : Goal → Goal → Goal
conditional c t =
    record {
      itself = chosen c t (made (one_of no_goals));
      names = no_list;
      condition = chosen c t (made (one_of no_goals));
      denied = on_made negation (chosen c t (made (one_of no_goals)));
      is_conditional = true;
      before_else = chosen c t;
    }

abbrev pub conjuncts : List Goal → Walk Unresolved_goals
conjuncts [] = made no_goals
conjuncts (g ∷ gs) = both goal_then g.itself (conjuncts gs)

abbrev pub alone : Unresolved_goal → Unresolved_goals
alone g = goal_then g no_goals

abbrev pub one_or_several : Unresolved_goals → Unresolved_goal
one_or_several (goal_then g no_goals) = g
one_or_several gs = one_of gs

-- a conditional has all disjuncts behind it as its else part
abbrev pub disjuncts : List Goal → Walk Unresolved_goals
disjuncts [] = made no_goals
disjuncts (g ∷ gs) =
    if g.is_conditional
    then on_made alone (g.before_else (on_made one_or_several (disjuncts gs)))
    else both goal_then g.itself (disjuncts gs)

abbrev pub either : List Goal → Goal
either gs = plainly (on_made one_or_several (disjuncts gs))

abbrev pub true_goal : Goal
true_goal = plainly (made (all_of no_goals))

-- goals of one part, of two, and of a quantifier's list and a part
abbrev pub of_one_part : (Goal → Goal) → List Goal → Goal
of_one_part f (g ∷ []) = f g
of_one_part f gs = true_goal

abbrev pub of_two_parts : (Goal → Goal → Goal) → List Goal → Goal
of_two_parts f (a ∷ b ∷ []) = f a b
of_two_parts f gs = true_goal

abbrev pub of_list_and_part : (PlainTerm → Goal → Goal) → PlainTerms → List Goal → Goal
of_list_and_part f (more_terms list ts) (_ ∷ g ∷ []) = f list g
of_list_and_part f ts gs = true_goal

abbrev pub of_two_terms :
    (Walk Unresolved → Walk Unresolved → Goal) → List (Walk Unresolved) → Goal
of_two_terms f (a ∷ b ∷ []) = f a b
of_two_terms f ts = true_goal

abbrev pub equals : Walk Unresolved → Walk Unresolved → Goal
equals a b = plainly (both equation a b)

abbrev pub differs : Walk Unresolved → Walk Unresolved → Goal
differs a b = plainly (on_made negation (both equation a b))

-- in the module of a number
module _ (l : Linked) (own : ℕ) where
  -- A name over terms as a goal, by its form and what the terms are as goals. `fail` is the
  -- disjunction of none. Other forms are gone where state variables are written out: `A <= B` is
  -- `B => A`, `A <=> B` both, and `if` a disjunction that begins with a conditional.
  abbrev pub goal_by : GoalForm → Path → PlainTerms → List Goal → Goal
  goal_by G.Fail w ts gs = plainly (made (one_of no_goals))
  goal_by G.Conjunction w ts gs = plainly (on_made all_of (conjuncts gs))
  goal_by G.Disjunction w ts gs = either gs
  goal_by G.Arrow w ts gs = of_two_parts conditional gs
  goal_by G.Negation w ts gs = of_one_part (λ g. plainly (on_made negation g.itself)) gs
  goal_by G.Existential w ts gs = of_list_and_part for_some ts gs
  goal_by G.Universal w ts gs = of_list_and_part for_all ts gs
  goal_by G.Implication w ts gs = of_two_parts implied gs
  goal_by G.Unification w ts gs = of_two_terms equals (terms_of l own ts)
  goal_by G.Disunification w ts gs = of_two_terms differs (terms_of l own ts)
  goal_by G.Call w ts gs =
      plainly (on_made (atom (meanings l own w (count ts))) (in_turn (terms_of l own ts)))
  goal_by _ w ts gs = true_goal

  abbrev mutual
    pub goal_of : PlainTerm → Goal
    goal_of (at (Conj ts) line) = plainly (on_made all_of (conjuncts (goals_of ts)))
    goal_of (at (Disj ts) line) = either (goals_of ts)
    goal_of (at (App w ts) line) = goal_by (goal_form w (count ts)) w ts (goals_of ts)
    goal_of _ = true_goal

    pub goals_of : PlainTerms → List Goal
    goals_of no_term = []
    goals_of (more_terms t ts) = goal_of t ∷ goals_of ts

-- CLAUSES

-- the arguments of a head; the last of a function's is its result
abbrev pub arguments_of : PlainTerm → PlainTerms
arguments_of (at (App w ts) line) = ts
arguments_of _ = no_term

abbrev pub and_result : PlainTerms → PlainTerm → PlainTerms
and_result no_term r = more_terms r no_term
and_result (more_terms t ts) r = more_terms t (and_result ts r)

abbrev pub head_by : PlainTerm → Option (PlainTerm × PlainTerm) → PlainTerms
head_by t None = arguments_of t
head_by t (Some p) = and_result (arguments_of p.0) p.1

abbrev pub head_terms : PlainTerm → PlainTerms
head_terms h = head_by h (operands (codes "=") h)

-- A clause before its names are resolved, with its variables' names, by their numbers.
pub record Numbered_clause : Type 0 where
  pub clause : Unresolved_clause
  pub names : List (List ℕ)

-- the name of a variable in the source; a version of a state variable, `!N`, has none
abbrev pub source_name : List ℕ → List ℕ
source_name [] = []
source_name (b ∷ bs) = if nat_eq b 33 then [] else b ∷ bs

abbrev pub numbered : (pred : ℕ) → (Unresolved_terms × Unresolved_goal) × Met → Numbered_clause
numbered p r =
    record {
      clause = record { pred = p; head = r.0.0; body = r.0.1 };
      names = map source_name r.1.names;
    }

abbrev pub clause_walk :
    Linked → (own : ℕ) → PlainTerm → Option (PlainTerm × PlainTerm)
    → Walk (Unresolved_terms × Unresolved_goal)
clause_walk l own t None =
    on_made (λ head. (head, all_of no_goals)) (in_turn (terms_of l own (head_terms t)))
clause_walk l own t (Some r) =
    both (λ head body. (head, body)) (in_turn (terms_of l own (head_terms r.0)))
    (goal_of l own r.1).itself

-- A CLAUSE of a predicate, in the module of a number. Its state variables are written out already.
abbrev pub unresolved_clause : Linked → (own pred : ℕ) → PlainTerm → Numbered_clause
unresolved_clause l own p t =
    numbered p (clause_walk l own t (operands (codes ":-") t) [] nothing_met)

-- THE GOAL OF A QUERY, as a clause without arguments.
abbrev pub unresolved_query : Linked → (own pred : ℕ) → PlainTerm → Numbered_clause
unresolved_query l own p g =
    numbered p (on_made (λ body. (no_terms, body)) (goal_of l own g).itself [] nothing_met)

-- How many variables a clause brings to a normal goal, wherever their numbers begin.
use Rattle.std.proofs.Common.{◌≡◌, ℕ, suc, ◌+◌, List, [], ◌∷◌, ◌++◌, map, length, Bool, true, false, cond, Option, Some, None, refl, sym, ap, ap₂, ◌∙◌, arith, length-append}
use Rattle.std.proofs.lemmas.List.{length-map}
use Rattle.mc_program.specs.Programs.{TypeTerm, Expression, variable, constant, made, applied, Expressions, no_expressions, expression_then, Formula, Equal, Call, And, Or, If, Not, Exists, Formulas, no_formulas, formula_then, ClauseForm}
use Rattle.mc_program.specs.PlainPrograms.{plain_type}
use Rattle.mc_program.specs.declared.ty.Ty.{Ty}
use Rattle.mc_program.specs.declared.program.Resolved.{Resolved}
use Rattle.mc_accepted.specs.Normal.{other_variables, names_in, Conjuncts, the_variable, name_term, name_terms, equate, conjuncts_of, conjuncts_of_all, disjuncts_of, head_equation, head_equations, clause_goal, clause_goals, normal_goal}
use Rattle.mc_accepted.specs.NormalTypes.{TypedClause, clause_types, clauses_types, normal_types}
use Rattle.mc_goals.specs.Resolved.{clause_of, typed_clause, AsManyTypes, EachAsManyTypes}
use Rattle.mc_goals.specs.code.Naming.{variable_in}
use Rattle.mc_goals.proofs.Naming.{nothing}
use Rattle.mc_goals.proofs.Conjunctions.{by_sides, equation_by_sides}
use Rattle.mc_goals.proofs.ClauseGoals.{own_in, argument_by}

-- the variables that are made for terms, for the parts of an equation's side, and for goals
abbrev mutual
  pub made_in : Expression → ℕ
  made_in (variable v) = 0
  made_in (constant c) = 1
  made_in (made f ts) = suc (made_in_all ts)
  made_in (applied f ts) = suc (made_in_all ts)

  pub made_in_all : Expressions → ℕ
  made_in_all no_expressions = 0
  made_in_all (expression_then t ts) = made_in t + made_in_all ts

abbrev pub made_in_parts : Expression → ℕ
made_in_parts (variable v) = 0
made_in_parts (constant c) = 0
made_in_parts (made f ts) = made_in_all ts
made_in_parts (applied f ts) = made_in_all ts

abbrev pub made_by_sides : Expression → Expression → Option ℕ → Option ℕ → ℕ
made_by_sides a b (Some x) o = made_in_parts b
made_by_sides a b None (Some y) = made_in_parts a
made_by_sides a b None None = made_in a + made_in_parts b

abbrev mutual
  pub made_for : Formula → ℕ
  made_for (Equal a b) = made_by_sides a b (variable_in a) (variable_in b)
  made_for (Call p ts) = made_in_all ts
  made_for (And gs) = made_for_all gs
  made_for (Or gs) = made_for_all gs
  made_for (If vs c t e) = made_for c + (made_for t + made_for e)
  made_for (Not g) = made_for g
  made_for (Exists vs g) = made_for g

  pub made_for_all : Formulas → ℕ
  made_for_all no_formulas = 0
  made_for_all (formula_then g gs) = made_for g + made_for_all gs

module _ (names : ℕ → ℕ) where
  mutual
    named_next : (n : ℕ) (t : Expression) → (name_term names n t).next ≡ n + made_in t
    named_next n (variable v) = omega arith
    named_next n (constant c) = refl
    named_next n (made f ts) = let e : (name_terms names n ts).next ≡ n + made_in_all ts = all_named_next n ts in omega (arith, e)
    named_next n (applied f ts) = let e : (name_terms names n ts).next ≡ n + made_in_all ts = all_named_next n ts in omega (arith, e)

    all_named_next : (n : ℕ) (ts : Expressions) → (name_terms names n ts).next ≡ n + made_in_all ts
    all_named_next n no_expressions = omega arith
    all_named_next n (expression_then t ts) =
        let m = (name_term names n t).next in
        let e : m ≡ n + made_in t = named_next n t in
        let f : (name_terms names m ts).next ≡ m + made_in_all ts = all_named_next m ts in
        omega (arith, e, f)

  equated_next : (n x : ℕ) (t : Expression) → (equate names n x t).next ≡ n + made_in_parts t
  equated_next n x (variable v) = omega arith
  equated_next n x (constant c) = omega arith
  equated_next n x (made f ts) = all_named_next n ts
  equated_next n x (applied f ts) = all_named_next n ts

  sides_next : (n : ℕ) (a b : Expression) (o p : Option ℕ) → (by_sides names n a b o p).next ≡ n + made_by_sides a b o p
  sides_next n a b (Some x) p = equated_next n (names x) b
  sides_next n a b None (Some y) = equated_next n (names y) a
  sides_next n a b None None =
      let r = name_term names n a in
      let m = r.next in
      let e : m ≡ n + made_in a = named_next n a in
      let f : (equate names m (the_variable r) b).next ≡ m + made_in_parts b = equated_next m (the_variable r) b in
      omega (arith, e, f)

  mutual
    goal_next : (n : ℕ) (g : Formula) → (conjuncts_of names n g).next ≡ n + made_for g
    goal_next n (Equal a b) = ap (λ (r : Conjuncts). r.next) (equation_by_sides names n a b) ∙ sides_next n a b (variable_in a) (variable_in b)
    goal_next n (Call p ts) = all_named_next n ts
    goal_next n (And gs) = goals_next n gs
    goal_next n (Or gs) = disjuncts_next n gs
    goal_next n (If vs c t e) =
        let m = (conjuncts_of names n c).next in
        let k = (conjuncts_of names m t).next in
        let first : m ≡ n + made_for c = goal_next n c in
        let second : k ≡ m + made_for t = goal_next m t in
        let third : (conjuncts_of names k e).next ≡ k + made_for e = goal_next k e in
        omega (arith, first, second, third)
    goal_next n (Not g) = goal_next n g
    goal_next n (Exists vs g) = goal_next n g

    goals_next : (n : ℕ) (gs : Formulas) → (conjuncts_of_all names n gs).next ≡ n + made_for_all gs
    goals_next n no_formulas = omega arith
    goals_next n (formula_then g gs) =
        let m = (conjuncts_of names n g).next in
        let e : m ≡ n + made_for g = goal_next n g in
        let f : (conjuncts_of_all names m gs).next ≡ m + made_for_all gs = goals_next m gs in
        omega (arith, e, f)

    disjuncts_next : (n : ℕ) (gs : Formulas) → (disjuncts_of names n gs).next ≡ n + made_for_all gs
    disjuncts_next n no_formulas = omega arith
    disjuncts_next n (formula_then g gs) =
        let m = (conjuncts_of names n g).next in
        let e : m ≡ n + made_for g = goal_next n g in
        let f : (disjuncts_of names m gs).next ≡ m + made_for_all gs = disjuncts_next m gs in
        omega (arith, e, f)

abbrev pub made_for_argument : List Expression → ℕ → Expression → ℕ
made_for_argument hs i t = cond (own_in i hs (variable_in t)) 0 (made_in_parts t)

abbrev pub made_for_arguments : List Expression → ℕ → List Expression → ℕ
made_for_arguments hs i [] = 0
made_for_arguments hs i (t ∷ ts) = made_for_argument hs i t + made_for_arguments hs (suc i) ts

module _ (names : ℕ → ℕ) (hs : List Expression) where
  argument_next : (n i : ℕ) (t : Expression) → (head_equation names hs n i t).next ≡ n + made_for_argument hs i t
  argument_next n i t = ap (λ (r : Conjuncts). r.next) (argument_by names hs n i t) ∙ by_test (own_in i hs (variable_in t))
    where
      by_test : (b : Bool) → (cond b (nothing n) (equate names n i t)).next ≡ n + cond b 0 (made_in_parts t)
      by_test true = omega arith
      by_test false = equated_next names n i t

  arguments_next : (n i : ℕ) (ts : List Expression) → (head_equations names hs n i ts).next ≡ n + made_for_arguments hs i ts
  arguments_next n i [] = omega arith
  arguments_next n i (t ∷ ts) =
      let m = (head_equation names hs n i t).next in
      let e : m ≡ n + made_for_argument hs i t = argument_next n i t in
      let f : (head_equations names hs m (suc i) ts).next ≡ m + made_for_arguments hs (suc i) ts = arguments_next m (suc i) ts in
      omega (arith, e, f)

-- the variables that a clause brings
abbrev pub brought_by : ClauseForm → ℕ
brought_by c = length (other_variables c) + (made_for_arguments c.head 0 c.head + made_for c.body)

pub clause_next : (n : ℕ) (c : ClauseForm) → (clause_goal n c).next ≡ n + brought_by c
clause_next n c =
    let names = names_in n c in
    let k = n + length (other_variables c) in
    let m = (head_equations names c.head k 0 c.head).next in
    let e : m ≡ k + made_for_arguments c.head 0 c.head = arguments_next names c.head k 0 c.head in
    let f : (conjuncts_of names m c.body).next ≡ m + made_for c.body = goal_next names m c.body in
    omega (arith, e, f)

-- one clause has a type for each variable that it brings
one_brought : (ts : List TypeTerm) (c : TypedClause) → AsManyTypes ts c → length (clause_types c) ≡ brought_by c.clause
one_brought ts c h =
    let e : length (ts ++ (clause_types c ++ [])) ≡ length ts + (length (clause_types c) + 0) = length-append ts (clause_types c ++ []) ∙ ap (λ k. length ts + k) (length-append (clause_types c) []) in
    let f : (clause_goal (length ts) c.clause).next ≡ length ts + brought_by c.clause = clause_next (length ts) c.clause in
    let g : length (ts ++ (clause_types c ++ [])) ≡ (clause_goal (length ts) c.clause).next = h in
    omega (arith, e, f, g)

all_brought : (ts : List TypeTerm) (n : ℕ) (cs : List TypedClause) → EachAsManyTypes ts cs → n + length (clauses_types cs) ≡ (clause_goals n (map (λ (c : TypedClause). c.clause) cs)).next
all_brought ts n [] h = omega arith
all_brought ts n (c ∷ cs) h =
    let m = (clause_goal n c.clause).next in
    let one : length (clause_types c) ≡ brought_by c.clause = one_brought ts c h.0 in
    let next : m ≡ n + brought_by c.clause = clause_next n c.clause in
    let both : length (clause_types c ++ clauses_types cs) ≡ length (clause_types c) + length (clauses_types cs) = length-append (clause_types c) (clauses_types cs) in
    let rest : m + length (clauses_types cs) ≡ (clause_goals m (map (λ (d : TypedClause). d.clause) cs)).next = all_brought ts m cs h.1 in
    omega (arith, one, next, both, rest)

pub as_many : (ts : List TypeTerm) (cs : List TypedClause) → EachAsManyTypes ts cs → length (normal_types ts cs) ≡ (normal_goal (length ts) (map (λ (c : TypedClause). c.clause) cs)).variables
as_many ts cs h = length-append ts (clauses_types cs) ∙ all_brought ts (length ts) cs h

clauses_of : (rs : List Resolved) → map (λ (c : TypedClause). c.clause) (map typed_clause rs) ≡ map clause_of rs
clauses_of [] = refl
clauses_of (r ∷ rs) = ap (λ l. clause_of r ∷ l) (clauses_of rs)

-- a predicate's variables have as many types, where each clause's have
pub counted : (vs ts : List Ty) (rs : List Resolved) → map plain_type vs ≡ normal_types (map plain_type ts) (map typed_clause rs) → EachAsManyTypes (map plain_type ts) (map typed_clause rs) →
    length vs ≡ (clause_goals (length ts) (map clause_of rs)).next
counted vs ts rs e h =
    sym (length-map vs plain_type) ∙ ap length e ∙ as_many (map plain_type ts) (map typed_clause rs) h
    ∙ ap₂ (λ n cs. (clause_goals n cs).next) (length-map ts plain_type) (clauses_of rs)

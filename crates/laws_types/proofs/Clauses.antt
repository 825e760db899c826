-- The laws of clauses and queries, by their walks.
use Rattle.std.proofs.Common.{◌≡◌, inl, inr, ℕ, ◌<◌, List, [], ◌∷◌, ◌++◌, map, length, Option, Some, None, refl, sym, subst}
use Rattle.std.proofs.lemmas.List.{length-map}
use Rattle.std.specs.Prelude.{ℤ, codes, Contains}
use Rattle.mc_term_data.specs.Plain.{PlainTerm, PlainTerms, at, no_term, more_terms, Var, Int, Str, App, Items, Tailed, Conj, Disj}
use Rattle.mc_term_data.specs.Shapes.{operands}
use Rattle.mc_source.specs.declared.name.Candidate.{Candidate}
use Rattle.mc_program.specs.Values.{int, str}
use Rattle.mc_program.specs.Programs.{Source}
use Rattle.mc_model.specs.Lists.{In}
use Rattle.mc_model.specs.Types.{IsValue}
use Rattle.mc_accepted.specs.Resolving.{Unresolved, any_variable, any_number, any_text, any_name, Unresolved_terms, no_terms, term_then, Unresolved_goal, equation, atom, all_of, one_of, choice, negation, exists, Unresolved_goals, no_goals, goal_then, count, Step, push_variable, push_number, push_text, equate, choose, call, close_head, term_steps, terms_steps, goal_steps, goals_steps}
use Rattle.mc_names.specs.Linked.{Linked}
use Rattle.laws_made_types.specs.Known.{HasValues, AllHaveValues, GoalHasValues, GoalsHaveValues, AllLess, HasNames, AllHaveNames, GoalHasNames, GoalsHaveNames}
use Rattle.laws_language.proofs.FlatGoals.{in_left, in_right}
use Rattle.mc_clauses.specs.Variables.{Met, nothing_met}
use Rattle.mc_clauses.specs.Unresolved.{on_made, meanings, head_terms, goal_of, source_name, clause_walk}
use Rattle.laws_types.specs.Mentioned.{variables_in, variables_in_all, occurring, occurring_all, quantified, quantified_in_all}
use Rattle.laws_types.specs.ClauseLaws.{ClausesHaveNames, QueriesHaveNames, ClausesNameTheirOwn, QueriesNameTheirOwn, IsThere, AllThere, CandidatesAreThere, IsOfValues, AreOfValues, ClausesHaveValues}
use Rattle.laws_types.proofs.Walked.{next_in, Stands, Walked, Good, below_after}
use Rattle.laws_types.proofs.Combined.{TermHolds, TermsHold, GoalHolds, GoalsHold, Sourced, AllSourced, of_clause, good_rule, good_fact, good_query}
use Rattle.laws_types.proofs.Sources.{Both, both_operands, heads_sourced, any_term}
use Rattle.laws_types.proofs.Candidates.{meanings_there}

nothing_stands : Stands [] nothing_met
nothing_stands = record { around = λ x i. absurd i; outside = λ x i. absurd i }

module _ (Names : List Candidate → Type 0) (Number : ℤ → Type 0) (Text : List ℕ → Type 0) (l : Linked) (own : ℕ) (means : (w : List (List ℕ)) (n : ℕ) → Names (meanings l own w n)) where
  clause_good : (t : PlainTerm) (o : Option (PlainTerm × PlainTerm)) → Sourced Names Number Text t → Both Names Number Text o → Good (of_clause Names Number Text) (clause_walk l own t o)
  clause_good t None h k = good_fact Names Number Text l own means (head_terms t) (heads_sourced Names Number Text t h)
  clause_good t (Some r) h k = good_rule Names Number Text l own means (head_terms r.0) r.1 (heads_sourced Names Number Text r.0 k.0) k.1

  abbrev clause_met : PlainTerm → (Unresolved_terms × Unresolved_goal) × Met
  clause_met t = clause_walk l own t (operands (codes ":-") t) [] nothing_met

  pub clause_walked : (t : PlainTerm) → Sourced Names Number Text t → Walked (of_clause Names Number Text) [] nothing_met (clause_met t).0 (clause_met t).1
  clause_walked t h = clause_good t (operands (codes ":-") t) h (both_operands Names Number Text (codes ":-") t h) [] nothing_met nothing_stands

  abbrev query_met : PlainTerm → (Unresolved_terms × Unresolved_goal) × Met
  query_met g = on_made (λ (body : Unresolved_goal). (no_terms, body)) (goal_of l own g).itself [] nothing_met

  pub query_walked : (g : PlainTerm) → Sourced Names Number Text g → Walked (of_clause Names Number Text) [] nothing_met (query_met g).0 (query_met g).1
  query_walked g h = good_query Names Number Text l own means g h [] nothing_met nothing_stands

-- NAMES
module _ (n : ℕ) where
  abbrev Less : List ℕ → Type 0
  Less xs = (x : ℕ) → In x xs → x < n

  less_left : (xs ys : List ℕ) → Less (xs ++ ys) → Less xs
  less_left xs ys h x i = h x (in_left x xs ys i)

  less_right : (xs ys : List ℕ) → Less (xs ++ ys) → Less ys
  less_right xs ys h x i = h x (in_right x xs ys i)

  all_less : (vs : List ℕ) → Less vs → AllLess n vs
  all_less [] h = tt
  all_less (v ∷ vs) h = (h v (inl refl), all_less vs (λ x i. h x (inr i)))

  mutual
    term_named : (e : Unresolved) → Less (variables_in e) → HasNames n e
    term_named (any_variable v) h = h v (inl refl)
    term_named (any_number k) h = tt
    term_named (any_text bytes) h = tt
    term_named (any_name cs args) h = terms_named args h

    terms_named : (es : Unresolved_terms) → Less (variables_in_all es) → AllHaveNames n es
    terms_named no_terms h = tt
    terms_named (term_then e es) h = (term_named e (less_left (variables_in e) (variables_in_all es) h), terms_named es (less_right (variables_in e) (variables_in_all es) h))

  mutual
    goal_named : (g : Unresolved_goal) → Less (occurring g) → Less (quantified g) → GoalHasNames n g
    goal_named (equation a b) h k = (term_named a (less_left (variables_in a) (variables_in b) h), term_named b (less_right (variables_in a) (variables_in b) h))
    goal_named (atom cs args) h k = terms_named args h
    goal_named (all_of gs) h k = goals_named gs h k
    goal_named (one_of gs) h k = goals_named gs h k
    goal_named (choice vs c t e) h k =
        let inner = less_right vs (quantified c ++ (quantified t ++ quantified e)) k in
        let behind = less_right (quantified c) (quantified t ++ quantified e) inner in
        let seen = less_right (occurring c) (occurring t ++ occurring e) h in (
          all_less vs (less_left vs (quantified c ++ (quantified t ++ quantified e)) k),
          goal_named c (less_left (occurring c) (occurring t ++ occurring e) h) (less_left (quantified c) (quantified t ++ quantified e) inner),
          goal_named t (less_left (occurring t) (occurring e) seen) (less_left (quantified t) (quantified e) behind),
          goal_named e (less_right (occurring t) (occurring e) seen) (less_right (quantified t) (quantified e) behind),
        )
    goal_named (negation g) h k = goal_named g h k
    goal_named (exists vs g) h k = (all_less vs (less_left vs (quantified g) k), goal_named g h (less_right vs (quantified g) k))

    goals_named : (gs : Unresolved_goals) → Less (occurring_all gs) → Less (quantified_in_all gs) → GoalsHaveNames n gs
    goals_named no_goals h k = tt
    goals_named (goal_then g gs) h k = (
      goal_named g (less_left (occurring g) (occurring_all gs) h) (less_left (quantified g) (quantified_in_all gs) k),
      goals_named gs (less_right (occurring g) (occurring_all gs) h) (less_right (quantified g) (quantified_in_all gs) k),
    )

abbrev Plain : (Names : List Candidate → Type 0) → (r : (Unresolved_terms × Unresolved_goal) × Met) → Type 0
Plain Names r = Walked (of_clause Names (λ n. Unit {0}) (λ bytes. Unit {0})) [] nothing_met r.0 r.1

-- each variable of what was walked has a name
names_of_walk : (r : (Unresolved_terms × Unresolved_goal) × Met) → Plain (λ cs. Unit {0}) r → AllHaveNames (length (map source_name r.1.names)) r.0.0 × GoalHasNames (length (map source_name r.1.names)) r.0.1
names_of_walk r w =
    let head = variables_in_all r.0.0 in
    let body = occurring r.0.1 in
    let named = quantified r.0.1 in
    let below = below_after (of_clause (λ cs. Unit {0}) (λ n. Unit {0}) (λ bytes. Unit {0})) [] nothing_met r.1 r.0 nothing_stands w in
    let long : length (map source_name r.1.names) ≡ next_in r.1 = length-map r.1.names source_name in
    let less : Less (length (map source_name r.1.names)) ((head ++ body) ++ named) = λ x i. subst (λ k. x < k) (sym long) (below x i) in
    let n = length (map source_name r.1.names) in
    let outer = less_left n (head ++ body) named less in
    (terms_named n r.0.0 (less_left n head body outer), goal_named n r.0.1 (less_right n head body outer) (less_right n (head ++ body) named less))

pub clauses_have_names : ClausesHaveNames
clauses_have_names l own pred t =
    let any = λ (cs : List Candidate). Unit {0} in
    names_of_walk (clause_walk l own t (operands (codes ":-") t) [] nothing_met) (clause_walked any (λ n. Unit {0}) (λ bytes. Unit {0}) l own (λ w n. tt) t (any_term any t))

pub queries_have_names : QueriesHaveNames
queries_have_names l own pred g =
    let any = λ (cs : List Candidate). Unit {0} in
    names_of_walk (on_made (λ (body : Unresolved_goal). (no_terms, body)) (goal_of l own g).itself [] nothing_met) (query_walked any (λ n. Unit {0}) (λ bytes. Unit {0}) l own (λ w n. tt) g (any_term any g))

-- QUANTIFIERS
pub clauses_name_their_own : ClausesNameTheirOwn
clauses_name_their_own l own pred t =
    let any = λ (cs : List Candidate). Unit {0} in
    (clause_walked any (λ n. Unit {0}) (λ bytes. Unit {0}) l own (λ w n. tt) t (any_term any t)).own [] (λ x i j. j)

pub queries_name_their_own : QueriesNameTheirOwn
queries_name_their_own l own pred g =
    let any = λ (cs : List Candidate). Unit {0} in
    (query_walked any (λ n. Unit {0}) (λ bytes. Unit {0}) l own (λ w n. tt) g (any_term any g)).own [] (λ x i j. j)

-- CANDIDATES
module _ (l : Linked) where
  abbrev pub There : List Candidate → Type 0
  There cs = (c : Candidate) → Contains cs c → IsThere l c

  abbrev pub ThereIn : Unresolved → Type 0
  ThereIn e = TermHolds There (λ n. Unit {0}) (λ bytes. Unit {0}) e

  abbrev pub ThereInAll : Unresolved_terms → Type 0
  ThereInAll es = TermsHold There (λ n. Unit {0}) (λ bytes. Unit {0}) es

  abbrev pub ThereInGoal : Unresolved_goal → Type 0
  ThereInGoal g = GoalHolds There (λ n. Unit {0}) (λ bytes. Unit {0}) g

  abbrev pub ThereInGoals : Unresolved_goals → Type 0
  ThereInGoals gs = GoalsHold There (λ n. Unit {0}) (λ bytes. Unit {0}) gs

  steps_both : (xs ys : List Step) → AllThere l xs → AllThere l ys → AllThere l (xs ++ ys)
  steps_both [] ys h k = k
  steps_both (choose cs n ∷ xs) ys h k = (h.0, steps_both xs ys h.1 k)
  steps_both (call cs n ∷ xs) ys h k = (h.0, steps_both xs ys h.1 k)
  steps_both (push_variable v ∷ xs) ys h k = steps_both xs ys h k
  steps_both (push_number ∷ xs) ys h k = steps_both xs ys h k
  steps_both (push_text ∷ xs) ys h k = steps_both xs ys h k
  steps_both (equate ∷ xs) ys h k = steps_both xs ys h k
  steps_both (close_head p n ∷ xs) ys h k = steps_both xs ys h k

  mutual
    term_there : (e : Unresolved) → ThereIn e → AllThere l (term_steps e)
    term_there (any_variable v) h = tt
    term_there (any_number n) h = tt
    term_there (any_text bytes) h = tt
    term_there (any_name cs args) h = steps_both (terms_steps args) (choose cs (count args) ∷ []) (terms_there args h.1) (h.0, tt)

    terms_there : (es : Unresolved_terms) → ThereInAll es → AllThere l (terms_steps es)
    terms_there no_terms h = tt
    terms_there (term_then e es) h = steps_both (term_steps e) (terms_steps es) (term_there e h.0) (terms_there es h.1)

  mutual
    goal_there : (g : Unresolved_goal) → ThereInGoal g → AllThere l (goal_steps g)
    goal_there (equation a b) h = steps_both (term_steps a) (term_steps b ++ equate ∷ []) (term_there a h.0) (steps_both (term_steps b) (equate ∷ []) (term_there b h.1) tt)
    goal_there (atom cs args) h = steps_both (terms_steps args) (call cs (count args) ∷ []) (terms_there args h.1) (h.0, tt)
    goal_there (all_of gs) h = goals_there gs h
    goal_there (one_of gs) h = goals_there gs h
    goal_there (choice vs c t e) h = steps_both (goal_steps c) (goal_steps t ++ goal_steps e) (goal_there c h.0) (steps_both (goal_steps t) (goal_steps e) (goal_there t h.1) (goal_there e h.2))
    goal_there (negation g) h = goal_there g h
    goal_there (exists vs g) h = goal_there g h

    goals_there : (gs : Unresolved_goals) → ThereInGoals gs → AllThere l (goals_steps gs)
    goals_there no_goals h = tt
    goals_there (goal_then g gs) h = steps_both (goal_steps g) (goals_steps gs) (goal_there g h.0) (goals_there gs h.1)

  walk_there : (pred : ℕ) (head : Unresolved_terms) (body : Unresolved_goal) → ThereInAll head → ThereInGoal body → AllThere l (terms_steps head ++ close_head pred (count head) ∷ goal_steps body)
  walk_there pred head body h k = steps_both (terms_steps head) (close_head pred (count head) ∷ goal_steps body) (terms_there head h) (goal_there body k)

pub clause_there : (l : Linked) (own : ℕ) (t : PlainTerm) → let r : (Unresolved_terms × Unresolved_goal) × Met = clause_walk l own t (operands (codes ":-") t) [] nothing_met in ThereInAll l r.0.0 × ThereInGoal l r.0.1
clause_there l own t = (clause_walked (There l) (λ n. Unit {0}) (λ bytes. Unit {0}) l own (λ w n. meanings_there l own w n) t (any_term (There l) t)).holds

pub query_there : (l : Linked) (own : ℕ) (g : PlainTerm) → let r : (Unresolved_terms × Unresolved_goal) × Met = on_made (λ (body : Unresolved_goal). (no_terms, body)) (goal_of l own g).itself [] nothing_met in ThereInAll l r.0.0 × ThereInGoal l r.0.1
query_there l own g = (query_walked (There l) (λ n. Unit {0}) (λ bytes. Unit {0}) l own (λ w n. meanings_there l own w n) g (any_term (There l) g)).holds

pub candidates_are_there : CandidatesAreThere
candidates_are_there l own pred t =
    let rule : (Unresolved_terms × Unresolved_goal) × Met = clause_walk l own t (operands (codes ":-") t) [] nothing_met in
    let asked : (Unresolved_terms × Unresolved_goal) × Met = on_made (λ (body : Unresolved_goal). (no_terms, body)) (goal_of l own t).itself [] nothing_met in
    let c = clause_there l own t in
    let q = query_there l own t in
    (walk_there l pred rule.0.0 rule.0.1 c.0 c.1, walk_there l pred asked.0.0 asked.0.1 q.0 q.1)

-- VALUES
module _ (P : Source) where
  abbrev Number : ℤ → Type 0
  Number n = IsValue P (int n)

  abbrev Text : List ℕ → Type 0
  Text bytes = IsValue P (str bytes)

  abbrev Any : List Candidate → Type 0
  Any cs = Unit {0}

  mutual
    of_values : (t : PlainTerm) → IsOfValues P t → Sourced Any Number Text t
    of_values (at (Var x) line) h = tt
    of_values (at (Int n) line) h = h
    of_values (at (Str bytes) line) h = h
    of_values (at (App w ts) line) h = all_of_values ts h
    of_values (at (Items ts) line) h = all_of_values ts h
    of_values (at (Tailed ts t) line) h = (all_of_values ts h.0, of_values t h.1)
    of_values (at (Conj ts) line) h = all_of_values ts h
    of_values (at (Disj ts) line) h = all_of_values ts h

    all_of_values : (ts : PlainTerms) → AreOfValues P ts → AllSourced Any Number Text ts
    all_of_values no_term h = tt
    all_of_values (more_terms t ts) h = (of_values t h.0, all_of_values ts h.1)

  mutual
    term_values : (e : Unresolved) → TermHolds Any Number Text e → HasValues P e
    term_values (any_variable v) h = tt
    term_values (any_number n) h = h
    term_values (any_text bytes) h = h
    term_values (any_name cs args) h = terms_values args h.1

    terms_values : (es : Unresolved_terms) → TermsHold Any Number Text es → AllHaveValues P es
    terms_values no_terms h = tt
    terms_values (term_then e es) h = (term_values e h.0, terms_values es h.1)

  mutual
    goal_values : (g : Unresolved_goal) → GoalHolds Any Number Text g → GoalHasValues P g
    goal_values (equation a b) h = (term_values a h.0, term_values b h.1)
    goal_values (atom cs args) h = terms_values args h.1
    goal_values (all_of gs) h = goals_values gs h
    goal_values (one_of gs) h = goals_values gs h
    goal_values (choice vs c t e) h = (goal_values c h.0, goal_values t h.1, goal_values e h.2)
    goal_values (negation g) h = goal_values g h
    goal_values (exists vs g) h = goal_values g h

    goals_values : (gs : Unresolved_goals) → GoalsHold Any Number Text gs → GoalsHaveValues P gs
    goals_values no_goals h = tt
    goals_values (goal_then g gs) h = (goal_values g h.0, goals_values gs h.1)

pub clauses_have_values : ClausesHaveValues
clauses_have_values P l own pred t h =
    let s = of_values P t h in
    let rule : (Unresolved_terms × Unresolved_goal) × Met = clause_walk l own t (operands (codes ":-") t) [] nothing_met in
    let asked : (Unresolved_terms × Unresolved_goal) × Met = on_made (λ (body : Unresolved_goal). (no_terms, body)) (goal_of l own t).itself [] nothing_met in
    let c = (clause_walked (Any P) (Number P) (Text P) l own (λ w n. tt) t s).holds in
    let q = (query_walked (Any P) (Number P) (Text P) l own (λ w n. tt) t s).holds in (
      (terms_values P rule.0.0 c.0, goal_values P rule.0.1 c.1),
      (terms_values P asked.0.0 q.0, goal_values P asked.0.1 q.1),
    )

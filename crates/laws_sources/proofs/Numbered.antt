-- A term whose numbers and texts are values stays one where its state variables are written out.
use Rattle.std.proofs.Common.{ℕ, Bool, true, false, cond, List, [], ◌∷◌, Option, Some, None}
use Rattle.std.specs.Prelude.{not, ◌&&◌, codes}
use Rattle.mc_program.specs.Programs.{Source}
use Rattle.mc_term_data.specs.Plain.{PlainTerm, PlainTerms, at, no_term, more_terms, Var, Int, Str, App, Items, Tailed, Conj, Disj}
use Rattle.mc_term_data.specs.Names.{count}
use Rattle.mc_term_data.specs.Shapes.{is_the_word, two, operands}
use Rattle.mc_clause_syntax.specs.declared.goal_form.GoalForm.{GoalForm}
use Rattle.mc_clause_syntax.specs.declared.goal_form.GoalForm.TheVariants as G
use Rattle.mc_clause_syntax.specs.declared.state.StateForm.{StateForm}
use Rattle.mc_clause_syntax.specs.declared.state.StateForm.TheVariants.{Both, Before, After}
use Rattle.mc_clause_syntax.specs.declared.state_names.StatesWanted.TheVariants.{Updated}
use Rattle.mc_clause_syntax.specs.GoalForms.{goal_form}
use Rattle.mc_clause_syntax.specs.StateVariables.{state}
use Rattle.mc_clause_syntax.specs.States.{in_scope, quantified, states_of, states_in_all}
use Rattle.mc_state_variables.specs.Updates.{leave_out, common, updated}
use Rattle.mc_state_variables.specs.Versions.{Held, version, after_of, distinct, behind, entered, entered_behind, renewed, renewed_behind, handed, seen_outside, closing, closings, followed_by, and_then}
use Rattle.mc_state_variables.specs.Numbered.{one_version, with_before, behind_before, version_or, term_of, terms_of, Writing, Part, updates_of, in_order, in_negation, Branch, all_update, branch_of, each_branch, either, disjunction, versions_named, named_versions, quantifier, quantified_goal, negated, Condition, behind_condition, conditional, with_others, implied, both_ways, Goal, goal_parts, plain_goal, conditional_goal, behind_if, branches_of, conjunction_of, disjunction_of, written_by, quantified_condition, no_conditional, goal_by, goal_of, goals_of, head_states, line_of, fact_of, clause_of, numbered_clause, numbered_goal}
use Rattle.laws_types.specs.ClauseLaws.{IsOfValues, AreOfValues}

module _ (P : Source) where
  abbrev Good : PlainTerm → Type 0
  Good t = IsOfValues P t

  abbrev AllGood : PlainTerms → Type 0
  AllGood ts = AreOfValues P ts

  -- VERSIONS are variables
  closings_good : (xs us : List (List ℕ)) (l : ℕ) (hs : List Held) → AllGood (closings xs us l hs)
  closings_good xs us l [] = tt
  closings_good xs us l (h ∷ hs) = by_test (in_scope xs h.name && not (in_scope us h.name)) (closings_good xs us l hs)
    where
      by_test : (b : Bool) → AllGood (closings xs us l hs) → AllGood (cond b (more_terms (closing l h) (closings xs us l hs)) (closings xs us l hs))
      by_test true k = ((tt, (tt, tt)), k)
      by_test false k = k

  followed_good : (ts us : PlainTerms) → AllGood ts → AllGood us → AllGood (followed_by ts us)
  followed_good no_term us h k = k
  followed_good (more_terms t ts) us h k = (h.0, followed_good ts us h.1 k)

  and_then_good : (t : PlainTerm) (us : PlainTerms) → Good t → AllGood us → Good (and_then t us)
  and_then_good t no_term h k = h
  and_then_good (at (Conj ts) l) (more_terms u us) h k = followed_good ts (more_terms u us) h k
  and_then_good (at _ l) (more_terms u us) h k = (h, k)

  one_version_good : (hs : List Held) (l : ℕ) (s : StateForm × List ℕ) → Good (one_version hs l s)
  one_version_good hs l (Before, x) = tt
  one_version_good hs l (After, x) = tt
  one_version_good hs l (Both, x) = tt

  version_or_good : (hs : List Held) (s : Option (StateForm × List ℕ)) (l : ℕ) (t : PlainTerm) → Good t → Good (version_or hs s l t)
  version_or_good hs None l t h = h
  version_or_good hs (Some s) l t h = one_version_good hs l s

  with_before_good : (hs : List Held) (l : ℕ) (s : Option (StateForm × List ℕ)) (ts : PlainTerms) → AllGood ts → AllGood (with_before hs l s ts)
  with_before_good hs l None ts h = h
  with_before_good hs l (Some (Both, x)) ts h = (tt, h)
  with_before_good hs l (Some (Before, x)) ts h = h
  with_before_good hs l (Some (After, x)) ts h = h

  behind_before_good : (hs : List Held) (t : PlainTerm) (us : PlainTerms) → AllGood us → AllGood (behind_before hs t us)
  behind_before_good hs (at (App w ts) l) us h = with_before_good hs l (state w ts) us h
  behind_before_good hs _ us h = h

  mutual
    term_good : (hs : List Held) (t : PlainTerm) → Good t → Good (term_of hs t)
    term_good hs (at (App w ts) l) h = version_or_good hs (state w ts) l (at (App w (terms_of hs ts)) l) (terms_good hs ts h)
    term_good hs (at (Items ts) l) h = terms_good hs ts h
    term_good hs (at (Tailed ts t) l) h = (terms_good hs ts h.0, term_good hs t h.1)
    term_good hs (at (Conj ts) l) h = terms_good hs ts h
    term_good hs (at (Disj ts) l) h = terms_good hs ts h
    term_good hs _ h = h

    terms_good : (hs : List Held) (ts : PlainTerms) → AllGood ts → AllGood (terms_of hs ts)
    terms_good hs no_term h = tt
    terms_good hs (more_terms t ts) h = behind_before_good hs t (more_terms (term_of hs t) (terms_of hs ts)) (term_good hs t h.0, terms_good hs ts h.1)

  -- WHAT IS WRITTEN
  abbrev WritesGood : Writing → Type 0
  WritesGood w = (hs : List Held) (n : ℕ) → Good (w hs n).text

  abbrev PartsGood : List Part → Type 0
  PartsGood [] = Unit {0}
  PartsGood (p ∷ ps) = WritesGood p.writing × PartsGood ps

  abbrev BranchGood : Branch → Type 0
  BranchGood b = (xs : List (List ℕ)) → WritesGood (b.writing xs)

  abbrev BranchesGood : List Branch → Type 0
  BranchesGood [] = Unit {0}
  BranchesGood (b ∷ bs) = BranchGood b × BranchesGood bs

  record ConditionGood (c : Condition) : Type 0 where
    quantify : (hs : List Held) (us : List (List ℕ)) (t : PlainTerm) → Good t → Good (c.quantify hs us t)
    goal : WritesGood c.goal.writing

  record GoalGood (g : Goal) : Type 0 where
    part : WritesGood g.part.writing
    branch : BranchGood g.branch
    condition : ConditionGood g.condition

  abbrev GoalsGood : List Goal → Type 0
  GoalsGood [] = Unit {0}
  GoalsGood (g ∷ gs) = GoalGood g × GoalsGood gs

  in_order_good : (ps : List Part) → PartsGood ps → (hs : List Held) (n : ℕ) → AllGood (in_order ps hs n).text
  in_order_good [] h hs n = tt
  in_order_good (p ∷ ps) h hs n =
      let xs = common p.updates (updates_of ps) in
      (h.0 (renewed xs n hs) (renewed_behind xs n hs), in_order_good ps h.1 (handed p.updates (renewed xs n hs) hs) (p.writing (renewed xs n hs) (renewed_behind xs n hs)).next)

  in_negation_good : (ps : List Part) → PartsGood ps → (hs : List Held) (n : ℕ) → AllGood (in_negation ps hs n).text
  in_negation_good [] h hs n = tt
  in_negation_good (p ∷ ps) h hs n =
      let xs = p.updates in
      (h.0 (renewed xs n hs) (renewed_behind xs n hs), in_negation_good ps h.1 (handed p.updates (renewed xs n hs) hs) (p.writing (renewed xs n hs) (renewed_behind xs n hs)).next)

  branch_of_good : (l : ℕ) (p : Part) → WritesGood p.writing → BranchGood (branch_of l p)
  branch_of_good l p h xs hs n = and_then_good (p.writing hs n).text (closings xs p.updates l hs) (h hs n) (closings_good xs p.updates l hs)

  each_branch_good : (bs : List Branch) → BranchesGood bs → (xs : List (List ℕ)) (hs : List Held) (n : ℕ) → AllGood (each_branch bs xs hs n).text
  each_branch_good [] h xs hs n = tt
  each_branch_good (b ∷ bs) h xs hs n = (h.0 xs hs n, each_branch_good bs h.1 xs hs (b.writing xs hs n).next)

  either_good : (l : ℕ) (bs : List Branch) → BranchesGood bs → WritesGood (either l bs).writing
  either_good l bs h hs n = each_branch_good bs h (all_update bs) hs n

  disjunction_good : (l : ℕ) (bs : List Branch) → BranchesGood bs → BranchGood (disjunction l bs)
  disjunction_good l [] h = branch_of_good l (either l []) (either_good l [] h)
  disjunction_good l (b ∷ []) h = h.0
  disjunction_good l (b ∷ (c ∷ bs)) h = branch_of_good l (either l (b ∷ (c ∷ bs))) (either_good l (b ∷ (c ∷ bs)) h)

  -- QUANTIFIERS
  versions_named_good : (hs : List Held) (us : List (List ℕ)) (l : ℕ) (s : Option (StateForm × List ℕ)) (t : PlainTerm) (ts : PlainTerms) → Good t → AllGood ts → AllGood (versions_named hs us l s t ts)
  versions_named_good hs us l None t ts h k = (h, k)
  versions_named_good hs us l (Some s) t ts h k = (tt, by_test (in_scope us s.1))
    where
      by_test : (b : Bool) → AllGood (cond b (more_terms (version (after_of s.1 hs) l) ts) ts)
      by_test true = (tt, k)
      by_test false = k

  named_good : (hs : List Held) (us : List (List ℕ)) (ts : PlainTerms) → AllGood ts → AllGood (named_versions hs us ts)
  named_good hs us no_term h = tt
  named_good hs us (more_terms (at (App w ts) l) rest) h = versions_named_good hs us l (state w ts) (at (App w ts) l) (named_versions hs us rest) h.0 (named_good hs us rest h.1)
  named_good hs us (more_terms _ rest) h = (h.0, named_good hs us rest h.1)

  quantifier_good : (hs : List Held) (us : List (List ℕ)) (q : PlainTerm) → Good q → Good (quantifier hs us q)
  quantifier_good hs us (at (Items ts) l) h = named_good hs us ts h
  quantifier_good hs us _ h = h

  quantified_goal_good : (w : List ℕ) (l : ℕ) (q : PlainTerm) (p : Part) → Good q → WritesGood p.writing → WritesGood (quantified_goal w l q p)
  quantified_goal_good w l q p h k hs n =
      (quantifier_good (entered (quantified q) n hs) p.updates q h, (k (entered (quantified q) n hs) (entered_behind (quantified q) n), tt))

  negated_good : (p : Part) → WritesGood p.writing → WritesGood (negated p).writing
  negated_good p h hs n = h (renewed p.updates n hs) (renewed_behind p.updates n hs)

  -- CONDITIONALS
  conditional_good : (l : ℕ) (c : Condition) (p : Part) (us : List (List ℕ)) → ConditionGood c → WritesGood p.writing → BranchGood (conditional l c p us)
  conditional_good l c p us h k xs hs n =
      (h.quantify _ _ _ (h.goal _ _), (and_then_good _ _ (k _ _) (closings_good xs (leave_out c.names p.updates) l (seen_outside c.names (behind_condition l c p hs n) hs)), tt))

  with_others_good : (l : ℕ) (is : Bool) (b : Branch) (bs : List Branch) → BranchGood b → BranchesGood bs → BranchesGood (with_others l is b bs)
  with_others_good l true b bs h k = (disjunction_good l (b ∷ disjunction l bs ∷ []) (h, (disjunction_good l bs k, tt)), tt)
  with_others_good l false b bs h k = (h, k)

  implied_good : (l : ℕ) (a b : Part) → WritesGood a.writing → WritesGood b.writing → WritesGood (implied l a b)
  implied_good l a b h k hs n = in_negation_good (a ∷ b ∷ []) (h, (k, tt)) hs n

  both_ways_good : (l : ℕ) (a b : Part) → WritesGood a.writing → WritesGood b.writing → WritesGood (both_ways l a b)
  both_ways_good l a b h k hs n = (implied_good l a b h k hs n, (implied_good l b a k h hs (implied l a b hs n).next, tt))

  -- GOALS
  no_conditional_good : (l : ℕ) (p : Part) (c : Condition) → WritesGood p.writing → ConditionGood c → GoalGood (no_conditional l p c)
  no_conditional_good l p c h k = record { part = h; branch = branch_of_good l p h; condition = k }

  plain_goal_good : (l : ℕ) (us : List (List ℕ)) (w : Writing) → WritesGood w → GoalGood (plain_goal l us w)
  plain_goal_good l us w h = record {
    part = h;
    branch = branch_of_good l (record { updates = us; writing = w }) h;
    condition = record { quantify = λ hs vs t k. k; goal = h };
  }

  conditional_goal_good : (b : Branch) → BranchGood b → GoalGood (conditional_goal b)
  conditional_goal_good b h = record { part = h []; branch = h; condition = record { quantify = λ hs vs t k. k; goal = h [] } }

  behind_if_good : (us : List (List ℕ)) (g : Goal) → GoalGood g → GoalGood (behind_if us g)
  behind_if_good us g h = record { part = h.part; branch = h.branch; condition = record { quantify = λ hs vs t k. k; goal = h.part } }

  branches_good : (l : ℕ) (gs : List Goal) → GoalsGood gs → BranchesGood (branches_of l gs)
  branches_good l [] h = tt
  branches_good l (g ∷ []) h = (h.0.branch, tt)
  branches_good l (g ∷ (k ∷ gs)) h = with_others_good l g.is_conditional g.branch (branches_of l (k ∷ gs)) h.0.branch (branches_good l (k ∷ gs) h.1)

  parts_good : (gs : List Goal) → GoalsGood gs → PartsGood (goal_parts gs)
  parts_good [] h = tt
  parts_good (g ∷ gs) h = (h.0.part, parts_good gs h.1)

  conjunction_good : (l : ℕ) (gs : List Goal) → GoalsGood gs → WritesGood (conjunction_of l gs)
  conjunction_good l gs h hs n = in_order_good (goal_parts gs) (parts_good gs h) hs n

  disjunction_of_good : (l : ℕ) (gs : List Goal) → GoalsGood gs → WritesGood (disjunction_of l gs)
  disjunction_of_good l gs h = disjunction_good l (branches_of l gs) (branches_good l gs h) []

  written_good : (f : GoalForm) (w : List (List ℕ)) (l : ℕ) (ts : PlainTerms) (gs : List Goal) → AllGood ts → GoalsGood gs → WritesGood (written_by f w l ts gs)
  written_good G.Conjunction w l ts gs h k = conjunction_good l gs k
  written_good G.Disjunction w l ts gs h k = disjunction_of_good l gs k
  written_good G.Else w l ts gs h k = disjunction_of_good l gs k
  written_good G.Negation w l ts (g ∷ gs) h k = λ hs n. in_negation_good (g.part ∷ []) (k.0.part, tt) hs n
  written_good G.Implication w l ts (a ∷ (b ∷ gs)) h k = implied_good l a.part b.part k.0.part k.1.0.part
  written_good G.ReverseImplication w l ts (a ∷ (b ∷ gs)) h k = implied_good l b.part a.part k.1.0.part k.0.part
  written_good G.Equivalence w l ts (a ∷ (b ∷ gs)) h k = both_ways_good l a.part b.part k.0.part k.1.0.part
  written_good G.Universal w l (more_terms q ts) (a ∷ (g ∷ gs)) h k = quantified_goal_good (codes "all") l q (negated g.part) h.0 (negated_good g.part k.1.0.part)
  written_good G.Unification w l ts gs h k = λ hs n. terms_good hs ts h
  written_good G.Disunification w l ts gs h k = λ hs n. terms_good (renewed (states_in_all Updated ts) n hs) ts h
  written_good G.Call w l ts gs h k = λ hs n. terms_good hs ts h
  written_good _ w l ts gs h k = λ hs n. h

  quantified_condition_good : (l : ℕ) (q : PlainTerm) (p : Part) → Good q → WritesGood p.writing → ConditionGood (quantified_condition l q p)
  quantified_condition_good l q p h k = record { quantify = λ hs us t m. (quantifier_good hs us q h, (m, tt)); goal = k }

  goal_by_good : (f : GoalForm) (us w : List (List ℕ)) (l : ℕ) (ts : PlainTerms) (gs : List Goal) → AllGood ts → GoalsGood gs → GoalGood (goal_by f us w l ts gs)
  goal_by_good G.Arrow us w l ts (c ∷ (t ∷ gs)) h k = conditional_goal_good (conditional l c.condition t.part us) (conditional_good l c.condition t.part us k.0.condition k.1.0.part)
  goal_by_good G.Then us w l ts (c ∷ (t ∷ gs)) h k = conditional_goal_good (conditional l c.condition t.part us) (conditional_good l c.condition t.part us k.0.condition k.1.0.part)
  goal_by_good G.If us w l ts (g ∷ gs) h k = behind_if_good us g k.0
  goal_by_good G.Existential us w l (more_terms q ts) (p ∷ (g ∷ gs)) h k =
      no_conditional_good l (record { updates = us; writing = quantified_goal (codes "some") l q g.part }) (quantified_condition l q g.part) (quantified_goal_good (codes "some") l q g.part h.0 k.1.0.part) (quantified_condition_good l q g.part h.0 k.1.0.part)
  goal_by_good f us w l ts gs h k = plain_goal_good l us (written_by f w l ts gs) (written_good f w l ts gs h k)

  mutual
    goal_good : (t : PlainTerm) → Good t → GoalGood (goal_of t)
    goal_good (at (Conj ts) l) h = plain_goal_good l (updated (at (Conj ts) l)) (conjunction_of l (goals_of ts)) (conjunction_good l (goals_of ts) (goals_good ts h))
    goal_good (at (Disj ts) l) h = plain_goal_good l (updated (at (Disj ts) l)) (disjunction_of l (goals_of ts)) (disjunction_of_good l (goals_of ts) (goals_good ts h))
    goal_good (at (App w ts) l) h = goal_by_good (goal_form w (count ts)) (updated (at (App w ts) l)) w l ts (goals_of ts) h (goals_good ts h)
    goal_good (at (Var x) l) h = plain_goal_good l [] _ (λ hs n. h)
    goal_good (at (Int k) l) h = plain_goal_good l [] _ (λ hs n. h)
    goal_good (at (Str bytes) l) h = plain_goal_good l [] _ (λ hs n. h)
    goal_good (at (Items ts) l) h = plain_goal_good l [] _ (λ hs n. h)
    goal_good (at (Tailed ts t) l) h = plain_goal_good l [] _ (λ hs n. h)

    goals_good : (ts : PlainTerms) → AllGood ts → GoalsGood (goals_of ts)
    goals_good no_term h = tt
    goals_good (more_terms t ts) h = (goal_good t h.0, goals_good ts h.1)

  -- CLAUSES
  abbrev BothGood : Option (PlainTerm × PlainTerm) → Type 0
  BothGood None = Unit {0}
  BothGood (Some p) = Good p.0 × Good p.1

  two_good : (ts : PlainTerms) → AllGood ts → BothGood (two ts)
  two_good (more_terms a (more_terms b no_term)) h = (h.0, h.1.0)
  two_good _ h = tt

  operands_good : (name : List ℕ) (t : PlainTerm) → Good t → BothGood (operands name t)
  operands_good name (at (App w ts) line) h = by_test (is_the_word name w)
    where
      by_test : (b : Bool) → BothGood (cond b (two ts) None)
      by_test true = two_good ts h
      by_test false = tt
  operands_good name _ h = tt

  fact_good : (l : ℕ) (h : PlainTerm) (ts : PlainTerms) → Good h → AllGood ts → Good (fact_of l h ts)
  fact_good l h no_term g k = g
  fact_good l h (more_terms t no_term) g k = (g, (k.0, tt))
  fact_good l h (more_terms t (more_terms u ts)) g k = (g, (k, tt))

  clause_good : (t : PlainTerm) (o : Option (PlainTerm × PlainTerm)) → Good t → BothGood o → Good (clause_of t o)
  clause_good t None h k = fact_good (line_of t) (term_of (head_states t) t) (closings (states_of t) [] (line_of t) (head_states t)) (term_good (head_states t) t h) (closings_good (states_of t) [] (line_of t) (head_states t))
  clause_good t (Some (a, b)) h k = (term_good (head_states a) a k.0, ((goal_good b k.1).branch (states_of a) (head_states a) (behind 0 (distinct (states_of a))), tt))

  pub numbered_clause_good : (t : PlainTerm) → IsOfValues P t → IsOfValues P (numbered_clause t)
  numbered_clause_good t h = clause_good t (operands (codes ":-") t) h (operands_good (codes ":-") t h)

  pub numbered_goal_good : (t : PlainTerm) → IsOfValues P t → IsOfValues P (numbered_goal t)
  numbered_goal_good t h = (goal_good t h).part [] 0

-- State variables written out: each goal is given the version from which it starts and the version
-- with which it must end. (Mercury Language Reference Manual: State variables.)
use Rattle.std.specs.Prelude.{ℕ, Bool, true, false, List, [], ◌∷◌, ◌++◌, Option, Some, None, codes, if◌then◌else◌}
use Rattle.mc_term_data.specs.Plain.{PlainTerm, PlainTerms, at, no_term, more_terms, App, Items, Tailed, Conj, Disj}
use Rattle.mc_term_data.specs.Names.{count}
use Rattle.mc_term_data.specs.Shapes.{operands}
use Rattle.mc_clause_syntax.specs.declared.goal_form.GoalForm.{GoalForm}
use Rattle.mc_clause_syntax.specs.declared.goal_form.GoalForm.TheVariants as G
use Rattle.mc_clause_syntax.specs.declared.state.StateForm.{StateForm}
use Rattle.mc_clause_syntax.specs.declared.state.StateForm.TheVariants.{Both, Before, After}
use Rattle.mc_clause_syntax.specs.declared.state_names.StatesWanted.TheVariants.{Updated}
use Rattle.mc_clause_syntax.specs.GoalForms.{goal_form}
use Rattle.mc_clause_syntax.specs.StateVariables.{state}
use Rattle.mc_clause_syntax.specs.States.{in_scope, quantified, states_of, states_in_all}
use Rattle.mc_state_variables.specs.Updates.{leave_out, common, updated}
use Rattle.mc_state_variables.specs.Versions.{Held, version, before_of, after_of, distinct, begun, behind, entered, entered_behind, renewed, renewed_behind, handed, seen_outside, closings, and_then}

abbrev pub one_version : List Held → (line : ℕ) → StateForm × List ℕ → PlainTerm
one_version hs l (Before, x) = version (before_of x hs) l
one_version hs l (After, x) = version (after_of x hs) l
one_version hs l (Both, x) = version (after_of x hs) l

-- the version before, where both are asked for
abbrev pub with_before : List Held → (line : ℕ) → Option (StateForm × List ℕ) → PlainTerms → PlainTerms
with_before hs l (Some (Both, x)) ts = more_terms (version (before_of x hs) l) ts
with_before hs l _ ts = ts

abbrev pub behind_before : List Held → PlainTerm → PlainTerms → PlainTerms
behind_before hs (at (App w ts) l) us = with_before hs l (state w ts) us
behind_before hs t us = us

-- a state variable is one of its versions, any other term stays what it is
abbrev pub version_or :
    List Held → Option (StateForm × List ℕ) → (line : ℕ) → (otherwise : PlainTerm) → PlainTerm
version_or hs None l t = t
version_or hs (Some s) l t = one_version hs l s

abbrev mutual
  -- a term of an atom: a state variable is one of its versions, and as an argument `!X` is both
  pub term_of : List Held → PlainTerm → PlainTerm
  term_of hs (at (App w ts) l) = version_or hs (state w ts) l (at (App w (terms_of hs ts)) l)
  term_of hs (at (Items ts) l) = at (Items (terms_of hs ts)) l
  term_of hs (at (Tailed ts t) l) = at (Tailed (terms_of hs ts) (term_of hs t)) l
  term_of hs (at (Conj ts) l) = at (Conj (terms_of hs ts)) l
  term_of hs (at (Disj ts) l) = at (Disj (terms_of hs ts)) l
  term_of hs t = t

  pub terms_of : List Held → PlainTerms → PlainTerms
  terms_of hs no_term = no_term
  terms_of hs (more_terms t ts) = behind_before hs t (more_terms (term_of hs t) (terms_of hs ts))

-- what is written, and the first number of a version that is left
pub record Written (A : Type 0) : Type 0 where
  pub text : A
  pub next : ℕ

abbrev pub written : {A : Type 0} → A → ℕ → Written A
written a n = record { text = a; next = n }

abbrev pub on_text : {A B : Type 0} → (A → B) → Written A → Written B
on_text f w = record { text = f w.text; next = w.next }

-- a goal from the state variables in scope, with versions that are numbered from this number on
abbrev pub Writing : Type 0
Writing = List Held → ℕ → Written PlainTerm

-- a goal among others: what it updates, and how it is written
pub record Part : Type 0 where
  pub updates : List (List ℕ)
  pub writing : Writing

abbrev pub updates_of : List Part → List (List ℕ)
updates_of [] = []
updates_of (p ∷ ps) = p.updates ++ updates_of ps

-- a goal and those behind it
abbrev pub with_rest : Written PlainTerm → (ℕ → Written PlainTerms) → Written PlainTerms
with_rest w rest = on_text (λ ts. more_terms w.text ts) (rest w.next)

-- a goal that ends with new versions of these
abbrev pub ended : Part → (fresh : List (List ℕ)) → Writing
ended p xs hs n = p.writing (renewed xs n hs) (renewed_behind xs n hs)

-- A conjunction: the last goal that updates a state variable ends with its version after the whole,
-- each earlier one with a new version, from which the next starts.
abbrev pub in_order : List Part → List Held → ℕ → Written PlainTerms
in_order [] hs n = written no_term n
in_order (p ∷ ps) hs n =
    with_rest (ended p (common p.updates (updates_of ps)) hs n)
    (in_order ps
    (handed p.updates (renewed (common p.updates (updates_of ps)) n hs) hs))

-- goals one behind another within a negation: each ends with new versions, and none is seen outside
abbrev pub in_negation : List Part → List Held → ℕ → Written PlainTerms
in_negation [] hs n = written no_term n
in_negation (p ∷ ps) hs n =
    with_rest (ended p p.updates hs n)
    (in_negation ps (handed p.updates (renewed p.updates n hs) hs))

-- A branch among others: what it updates, and how it is written where the whole updates these: where
-- it doesn't update one of them, it ends with the equation of the versions after and before.
pub record Branch : Type 0 where
  pub updates : List (List ℕ)
  pub writing : (whole : List (List ℕ)) → Writing

abbrev pub all_update : List Branch → List (List ℕ)
all_update [] = []
all_update (b ∷ bs) = b.updates ++ all_update bs

abbrev pub branch_of : (line : ℕ) → Part → Branch
branch_of l p =
    record {
      updates = p.updates;
      writing =
          λ xs hs n. on_text (λ t. and_then t (closings xs p.updates l hs)) (p.writing hs n);
    }

abbrev pub each_branch : List Branch → (whole : List (List ℕ)) → List Held → ℕ → Written PlainTerms
each_branch [] xs hs n = written no_term n
each_branch (b ∷ bs) xs hs n = with_rest (b.writing xs hs n) (each_branch bs xs hs)

-- one of several branches
abbrev pub either : (line : ℕ) → List Branch → Part
either l bs =
    record {
      updates = all_update bs;
      writing = λ hs n. on_text (λ ts. at (Disj ts) l) (each_branch bs (all_update bs) hs n);
    }

-- several disjuncts are a disjunction, one is itself
abbrev pub disjunction : (line : ℕ) → List Branch → Branch
disjunction l (b ∷ []) = b
disjunction l bs = branch_of l (either l bs)

-- a quantifier's list: `!X` names the version before, and that after where the goal updates it
abbrev pub versions_named :
    List Held → (updates : List (List ℕ)) → (line : ℕ) → Option (StateForm × List ℕ)
    → (otherwise : PlainTerm) → PlainTerms → PlainTerms
versions_named hs us l None t ts = more_terms t ts
versions_named hs us l (Some s) t ts =
    more_terms (version (before_of s.1 hs) l)
    (if in_scope us s.1 then more_terms (version (after_of s.1 hs) l) ts else ts)

abbrev pub named_versions : List Held → (updates : List (List ℕ)) → PlainTerms → PlainTerms
named_versions hs us no_term = no_term
named_versions hs us (more_terms (at (App w ts) l) rest) =
    versions_named hs us l (state w ts) (at (App w ts) l) (named_versions hs us rest)
named_versions hs us (more_terms t rest) = more_terms t (named_versions hs us rest)

abbrev pub quantifier : List Held → (updates : List (List ℕ)) → PlainTerm → PlainTerm
quantifier hs us (at (Items ts) l) = at (Items (named_versions hs us ts)) l
quantifier hs us t = t

-- a goal under a quantifier, `some` or `all`, whose state variables begin anew
abbrev pub quantified_goal : (name : List ℕ) → (line : ℕ) → PlainTerm → Part → Writing
quantified_goal w l q p hs n =
    on_text
    (λ t.
    at
    (App (w ∷ [])
    (more_terms (quantifier (entered (quantified q) n hs) p.updates q) (more_terms t no_term)))
    l)
    (p.writing (entered (quantified q) n hs) (entered_behind (quantified q) n))

-- a goal by itself in a negation
abbrev pub negated : Part → Part
negated p = record { updates = []; writing = λ hs n. ended p p.updates hs n }

-- A condition: the names that it quantifies as a whole, over the then part too, its list of them, and
-- the goal under it.
pub record Condition : Type 0 where
  pub names : List (List ℕ)
  pub quantify : List Held → (updates : List (List ℕ)) → PlainTerm → PlainTerm
  pub goal : Part

abbrev pub unquantified : Part → Condition
unquantified p = record { names = []; quantify = λ hs us t. t; goal = p }

-- A condition with its then part is one conjunction in which the condition ends with new versions.
module _ (l : ℕ) (c : Condition) (then_part : Part) where
  abbrev pub inside : List Held → ℕ → List Held
  inside hs n = entered c.names n hs

  abbrev pub behind_condition : List Held → ℕ → List Held
  behind_condition hs n =
      handed c.goal.updates
      (renewed c.goal.updates (entered_behind c.names n) (inside hs n))
      (inside hs n)

  abbrev pub then_goal : (whole : List (List ℕ)) → List Held → ℕ → ℕ → Written PlainTerm
  then_goal xs hs n m =
      on_text
      (λ t.
      and_then t
      (closings xs (leave_out c.names then_part.updates) l
      (seen_outside c.names (behind_condition hs n) hs)))
      (then_part.writing (behind_condition hs n) m)

  abbrev pub arrow : PlainTerm → PlainTerm → PlainTerm
  arrow t u = at (App (codes "->" ∷ []) (more_terms t (more_terms u no_term))) l

  abbrev pub conditional_text :
      (whole : List (List ℕ)) → List Held → ℕ → Written PlainTerm → Written PlainTerm
  conditional_text xs hs n w =
      on_text
      (λ u. arrow (c.quantify (inside hs n) (c.goal.updates ++ then_part.updates) w.text) u)
      (then_goal xs hs n w.next)

  abbrev pub conditional : (updates : List (List ℕ)) → Branch
  conditional us =
      record {
        updates = us;
        writing =
            λ xs hs n.
            conditional_text xs hs n
            (ended c.goal c.goal.updates (inside hs n) (entered_behind c.names n));
      }

-- a branch before others: behind a conditional they are its else part
abbrev pub with_others : (line : ℕ) → Bool → Branch → List Branch → List Branch
with_others l true b bs = disjunction l (b ∷ disjunction l bs ∷ []) ∷ []
with_others l false b bs = b ∷ bs

abbrev pub applied : (name : List (List ℕ)) → (line : ℕ) → Written PlainTerms → Written PlainTerm
applied w l = on_text (λ ts. at (App w ts) l)

-- what `A => B` says
abbrev pub implied : (line : ℕ) → Part → Part → Writing
implied l a b hs n = applied (codes "=>" ∷ []) l (in_negation (a ∷ b ∷ []) hs n)

-- `A <=> B` is `A => B` and `B => A`
abbrev pub both_ways : (line : ℕ) → Part → Part → Writing
both_ways l a b hs n =
    on_text (λ ts. at (Conj ts) l)
    (with_rest (implied l a b hs n)
    (λ m. with_rest (implied l b a hs m) (λ k. written no_term k)))

-- A term as a goal: one among others, one of several branches, and a condition before its then part;
-- and whether it is a conditional, `C -> T`, before its else part.
pub record Goal : Type 0 where
  pub part : Part
  pub branch : Branch
  pub condition : Condition
  pub is_conditional : Bool

abbrev pub goal_parts : List Goal → List Part
goal_parts [] = []
goal_parts (g ∷ gs) = g.part ∷ goal_parts gs

abbrev pub no_conditional : (line : ℕ) → Part → Condition → Goal
no_conditional l p c =
    record { part = p; branch = branch_of l p; condition = c; is_conditional = false }

abbrev pub plain_goal : (line : ℕ) → (updates : List (List ℕ)) → Writing → Goal
plain_goal l us w =
    no_conditional l
    (record { updates = us; writing = w })
    (unquantified (record { updates = us; writing = w }))

abbrev pub conditional_goal : Branch → Goal
conditional_goal b =
    record {
      part = record { updates = b.updates; writing = b.writing [] };
      branch = b;
      condition = unquantified (record { updates = b.updates; writing = b.writing [] });
      is_conditional = true;
    }

-- the goal behind an `if`
abbrev pub behind_if : (updates : List (List ℕ)) → Goal → Goal
behind_if us g =
    record {
      part = record { updates = us; writing = g.part.writing };
      branch = record { updates = us; writing = g.branch.writing };
      condition = unquantified (record { updates = us; writing = g.part.writing });
      is_conditional = g.is_conditional;
    }

-- the disjuncts of a disjunction; a conditional before others is one with them behind its else
abbrev pub branches_of : (line : ℕ) → List Goal → List Branch
branches_of l [] = []
branches_of l (g ∷ []) = g.branch ∷ []
branches_of l (g ∷ h ∷ gs) =
    with_others l g.is_conditional g.branch (branches_of l (h ∷ gs))

abbrev pub conjunction_of : (line : ℕ) → List Goal → Writing
conjunction_of l gs hs n = on_text (λ ts. at (Conj ts) l) (in_order (goal_parts gs) hs n)

abbrev pub disjunction_of : (line : ℕ) → List Goal → Writing
disjunction_of l gs = (disjunction l (branches_of l gs)).writing []

-- How a goal is written, by its form, its name, its parts, and what they are as goals. `A <= B` is
-- `B => A`.
abbrev pub written_by :
    GoalForm → (name : List (List ℕ)) → (line : ℕ) → PlainTerms → List Goal → Writing
written_by G.Conjunction w l ts gs = conjunction_of l gs
written_by G.Disjunction w l ts gs = disjunction_of l gs
written_by G.Else w l ts gs = disjunction_of l gs
written_by G.Negation w l ts (g ∷ _) = λ hs n. applied w l (in_negation (g.part ∷ []) hs n)
written_by G.Implication w l ts (a ∷ b ∷ _) = implied l a.part b.part
written_by G.ReverseImplication w l ts (a ∷ b ∷ _) = implied l b.part a.part
written_by G.Equivalence w l ts (a ∷ b ∷ _) = both_ways l a.part b.part
written_by G.Universal w l (more_terms q ts) (_ ∷ g ∷ _) =
    quantified_goal (codes "all") l q (negated g.part)
written_by G.Unification w l ts gs = λ hs n. written (at (App w (terms_of hs ts)) l) n
written_by G.Disunification w l ts gs =
    λ hs n.
    written (at (App w (terms_of (renewed (states_in_all Updated ts) n hs) ts)) l)
    (renewed_behind (states_in_all Updated ts) n hs)
written_by G.Call w l ts gs = λ hs n. written (at (App w (terms_of hs ts)) l) n
written_by f w l ts gs = λ hs n. written (at (App w ts) l) n

-- a condition that is quantified as a whole
abbrev pub quantified_condition : (line : ℕ) → (list : PlainTerm) → Part → Condition
quantified_condition l q p =
    record {
      names = quantified q;
      quantify =
          λ hs us t.
          at (App (codes "some" ∷ []) (more_terms (quantifier hs us q) (more_terms t no_term))) l;
      goal = p;
    }

-- A name over parts as a goal, by its form, what it updates, and what its parts are as goals.
abbrev pub goal_by :
    GoalForm → (updates : List (List ℕ)) → (name : List (List ℕ)) → (line : ℕ) → PlainTerms
    → List Goal → Goal
goal_by G.Arrow us w l ts (c ∷ t ∷ _) = conditional_goal (conditional l c.condition t.part us)
goal_by G.Then us w l ts (c ∷ t ∷ _) = conditional_goal (conditional l c.condition t.part us)
goal_by G.If us w l ts (g ∷ _) = behind_if us g
goal_by G.Existential us w l (more_terms q ts) (p ∷ g ∷ _) =
    no_conditional l
    (record { updates = us; writing = quantified_goal (codes "some") l q g.part })
    (quantified_condition l q g.part)
goal_by f us w l ts gs = plain_goal l us (written_by f w l ts gs)

abbrev mutual
  pub goal_of : PlainTerm → Goal
  goal_of (at (Conj ts) l) =
      plain_goal l (updated (at (Conj ts) l)) (conjunction_of l (goals_of ts))
  goal_of (at (Disj ts) l) =
      plain_goal l (updated (at (Disj ts) l)) (disjunction_of l (goals_of ts))
  goal_of (at (App w ts) l) =
      goal_by (goal_form w (count ts)) (updated (at (App w ts) l)) w l ts (goals_of ts)
  goal_of (at m l) = plain_goal l [] (λ hs n. written (at m l) n)

  pub goals_of : PlainTerms → List Goal
  goals_of no_term = []
  goals_of (more_terms t ts) = goal_of t ∷ goals_of ts

-- the state variables of a head, each with its first and its last version
abbrev pub head_states : PlainTerm → List Held
head_states h = begun 0 (distinct (states_of h))

abbrev pub line_of : PlainTerm → ℕ
line_of (at n l) = l

abbrev pub rule_of : (line : ℕ) → PlainTerm → PlainTerm → PlainTerm
rule_of l h b =
    at (App (codes ":-" ∷ []) (more_terms h (more_terms b no_term))) l

-- a fact whose head has state variables gets the equations of their last versions with their first
abbrev pub fact_of : (line : ℕ) → PlainTerm → PlainTerms → PlainTerm
fact_of l h no_term = h
fact_of l h (more_terms t no_term) = rule_of l h t
fact_of l h ts = rule_of l h (at (Conj ts) l)

-- A clause with its state variables written out: in the head `!.X` is the first version and `!:X` the
-- last; the body starts from the first and ends with the last.
abbrev pub clause_of : PlainTerm → Option (PlainTerm × PlainTerm) → PlainTerm
clause_of t None =
    fact_of (line_of t) (term_of (head_states t) t)
    (closings (states_of t) [] (line_of t) (head_states t))
clause_of t (Some (h, b)) =
    rule_of (line_of t) (term_of (head_states h) h)
    ((goal_of b).branch.writing (states_of h) (head_states h)
    (behind 0 (distinct (states_of h)))).text

abbrev pub numbered_clause : PlainTerm → PlainTerm
numbered_clause t = clause_of t (operands (codes ":-") t)

-- the goal of a query
abbrev pub numbered_goal : PlainTerm → PlainTerm
numbered_goal t = ((goal_of t).part.writing [] 0).text

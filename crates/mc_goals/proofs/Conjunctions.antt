-- Goals put at the end of a conjunction, one after another.
use Rattle.std.proofs.Common.{◌≡◌, ◌≢◌, ℕ, ◌<◌, List, [], ◌∷◌, ◌++◌, length, Option, Some, None, refl, sym, ap, ap₂, ◌∙◌, append_assoc, append-nil, arith}
use Rattle.mc_program.specs.Programs.{Expression, variable, constant, made, applied, Expressions, no_expressions, expression_then, Formula, Equal, Call, And, Or, If, Not, Exists, Formulas, no_formulas, formula_then}
use Rattle.mc_model.specs.Flat as F
use Rattle.mc_model.specs.Flat.{Flat_goal, Flat_goals, no_flat, flat_then, flats}
use Rattle.mc_accepted.specs.Normal.{conjuncts, all_conjuncts, one_or_and, conjunction, around, Conjuncts, alone, the_variable, name_term, name_terms, equate, equation, conjuncts_of, conjuncts_of_all}
use Rattle.mc_goals.specs.code.Naming.{followed, with_goal, numbered, added, variable_in}
use Rattle.mc_goals.proofs.Naming.{followed-assoc, followed-nothing}

-- none of the goals is a conjunction
abbrev pub Single : List Flat_goal → Type 0
Single gs = all_conjuncts gs ≡ gs

all_conjuncts-append : (gs hs : List Flat_goal) → all_conjuncts (gs ++ hs) ≡ all_conjuncts gs ++ all_conjuncts hs
all_conjuncts-append [] hs = refl
all_conjuncts-append (g ∷ gs) hs = ap (λ l. conjuncts g ++ l) (all_conjuncts-append gs hs) ∙ sym (append_assoc (conjuncts g) (all_conjuncts gs) (all_conjuncts hs))

pub single-append : (gs hs : List Flat_goal) → Single gs → Single hs → Single (gs ++ hs)
single-append gs hs a b = all_conjuncts-append gs hs ∙ ap₂ (λ xs ys. xs ++ ys) a b

module _ (names : ℕ → ℕ) where
  mutual
    named_single : (n : ℕ) (t : Expression) → Single (name_term names n t).goals
    named_single n (variable v) = refl
    named_single n (constant c) = refl
    named_single n (made f ts) = let r = name_terms names n ts in single-append r.goals (F.Made r.next f r.variables ∷ []) (all_named_single n ts) refl
    named_single n (applied f ts) = let r = name_terms names n ts in single-append r.goals (F.Call f (r.variables ++ r.next ∷ []) ∷ []) (all_named_single n ts) refl

    all_named_single : (n : ℕ) (ts : Expressions) → Single (name_terms names n ts).goals
    all_named_single n no_expressions = refl
    all_named_single n (expression_then t ts) =
        let r = name_term names n t in single-append r.goals (name_terms names r.next ts).goals (named_single n t) (all_named_single r.next ts)

  pub equated_single : (n x : ℕ) (t : Expression) → Single (equate names n x t).goals
  equated_single n x (variable v) = refl
  equated_single n x (constant c) = refl
  equated_single n x (made f ts) = let r = name_terms names n ts in single-append r.goals (F.Made x f r.variables ∷ []) (all_named_single n ts) refl
  equated_single n x (applied f ts) = let r = name_terms names n ts in single-append r.goals (F.Call f (r.variables ++ x ∷ []) ∷ []) (all_named_single n ts) refl

  -- an equation by which of its sides are variables
  abbrev pub by_sides : ℕ → Expression → Expression → Option ℕ → Option ℕ → Conjuncts
  by_sides n a b (Some x) o = equate names n (names x) b
  by_sides n a b None (Some y) = equate names n (names y) a
  by_sides n a b None None = let r = name_term names n a in followed (added r) (equate names r.next (the_variable r) b)

  pub equation_by_sides : (n : ℕ) (a b : Expression) → equation names n a b ≡ by_sides n a b (variable_in a) (variable_in b)
  equation_by_sides n (variable x) b = refl
  equation_by_sides n (constant c) (variable y) = refl
  equation_by_sides n (constant c) (constant d) = refl
  equation_by_sides n (constant c) (made g us) = refl
  equation_by_sides n (constant c) (applied g us) = refl
  equation_by_sides n (made f ts) (variable y) = refl
  equation_by_sides n (made f ts) (constant d) = refl
  equation_by_sides n (made f ts) (made g us) = refl
  equation_by_sides n (made f ts) (applied g us) = refl
  equation_by_sides n (applied f ts) (variable y) = refl
  equation_by_sides n (applied f ts) (constant d) = refl
  equation_by_sides n (applied f ts) (made g us) = refl
  equation_by_sides n (applied f ts) (applied g us) = refl

  sides_single : (n : ℕ) (a b : Expression) (o p : Option ℕ) → Single (by_sides n a b o p).goals
  sides_single n a b (Some x) o = equated_single n (names x) b
  sides_single n a b None (Some y) = equated_single n (names y) a
  sides_single n a b None None =
      let r = name_term names n a in single-append r.goals (equate names r.next (the_variable r) b).goals (named_single n a) (equated_single r.next (the_variable r) b)

  mutual
    pub goal_single : (n : ℕ) (g : Formula) → Single (conjuncts_of names n g).goals
    goal_single n (Equal a b) = ap (λ (r : Conjuncts). all_conjuncts r.goals) (equation_by_sides n a b) ∙ sides_single n a b (variable_in a) (variable_in b) ∙ ap (λ (r : Conjuncts). r.goals) (sym (equation_by_sides n a b))
    goal_single n (Call p ts) = let r = name_terms names n ts in single-append r.goals (F.Call p r.variables ∷ []) (all_named_single n ts) refl
    goal_single n (And gs) = goals_single n gs
    goal_single n (Or gs) = refl
    goal_single n (If vs c t e) = refl
    goal_single n (Not g) = refl
    goal_single n (Exists vs g) = refl

    goals_single : (n : ℕ) (gs : Formulas) → Single (conjuncts_of_all names n gs).goals
    goals_single n no_formulas = refl
    goals_single n (formula_then g gs) = let r = conjuncts_of names n g in single-append r.goals (conjuncts_of_all names r.next gs).goals (goal_single n g) (goals_single r.next gs)

  -- so their conjunction is those goals
  pub goal_conjunction : (n : ℕ) (g : Formula) → conjunction (conjuncts_of names n g).goals ≡ one_or_and (conjuncts_of names n g).goals
  goal_conjunction n g = ap one_or_and (goal_single n g)

  -- one goal that is no conjunction
  pub followed_alone : (s s' : Conjuncts) (g h : Flat_goal) (n : ℕ) → s' ≡ with_goal h (numbered n s) → h ≡ g → s' ≡ followed s (alone g n)
  followed_alone s s' g h n is e = is ∙ ap (λ k. with_goal k (numbered n s)) e ∙ (λ i. record { goals = s.goals ++ g ∷ []; made_variables = sym (append-nil s.made_variables) i; next = n })

  -- the next of several goals
  pub next_goal : (s s' u : Conjuncts) (g : Formula) (gs : Formulas) → s' ≡ followed s (conjuncts_of names s.next g) →
      followed s (conjuncts_of_all names s.next (formula_then g gs)) ≡ u → followed s' (conjuncts_of_all names s'.next gs) ≡ u
  next_goal s s' u g gs is h =
      let r = conjuncts_of names s.next g in
      ap (λ (p : Conjuncts). followed p (conjuncts_of_all names p.next gs)) is ∙ followed-assoc s r (conjuncts_of_all names r.next gs) ∙ h

  pub no_goal : (s u : Conjuncts) → followed s (conjuncts_of_all names s.next no_formulas) ≡ u → s ≡ u
  no_goal s u h = sym (followed-nothing s) ∙ h

-- more than one goal
pub several : (gs : List Flat_goal) → 1 < length gs → one_or_and gs ≡ F.And (flats gs)
several [] h = absurd (omega (arith, h))
several (g ∷ []) h = absurd (omega (arith, h))
several (g ∷ k ∷ gs) h = refl

-- variables that there are
pub around_some : (vs : List ℕ) (g : Flat_goal) → length vs ≢ 0 → around vs g ≡ F.Exists vs g
around_some [] g h = absurd (h refl)
around_some (v ∷ vs) g h = refl

-- The walks of terms, goals and clauses: what each part of a clause is.
use Rattle.std.proofs.Common.{◌≡◌, ◌⊎◌, inl, inr, ℕ, ◌+◌, ◌<◌, ◌≤◌, Bool, true, false, cond, List, [], ◌∷◌, ◌++◌, length, Option, Some, None, refl, sym, subst, arith, ⊎_elim, length-append}
use Rattle.std.proofs.lemmas.Option.{none-some, same_Some}
use Rattle.std.specs.Prelude.{ℤ}
use Rattle.std.specs.Str.{bytes_eq}
use Rattle.mc_model.specs.Lists.{In, Apart}
use Rattle.mc_term_data.specs.Plain.{PlainTerm, PlainTerms, at, no_term, more_terms, Var, Int, Str, App, Items, Tailed, Conj, Disj}
use Rattle.mc_term_data.specs.Names.{count}
use Rattle.mc_source.specs.declared.name.Candidate.{Candidate}
use Rattle.mc_clause_syntax.specs.declared.goal_form.GoalForm.{GoalForm}
use Rattle.mc_clause_syntax.specs.declared.goal_form.GoalForm.TheVariants as G
use Rattle.mc_clause_syntax.specs.GoalForms.{goal_form}
use Rattle.mc_clause_syntax.specs.Limits.{is_anonymous}
use Rattle.mc_decl_syntax.specs.Plain.{Path}
use Rattle.mc_names.specs.Definitions.{comma, semicolon, cell_path, nil_path}
use Rattle.mc_names.specs.Numbers.{number_of}
use Rattle.mc_names.specs.Linked.{Linked}
use Rattle.mc_accepted.specs.Resolving.{Unresolved, any_variable, any_number, any_text, any_name, Unresolved_terms, no_terms, term_then, Unresolved_goal, equation, atom, all_of, one_of, choice, negation, exists, Unresolved_goals, no_goals, goal_then}
use Rattle.laws_language.proofs.FlatGoals.{in_left, in_right, in_either}
use Rattle.mc_clauses.specs.Variables.{Numbers, named, known_or_new, quantified_by}
use Rattle.mc_clauses.specs.Unresolved.{Walk, made, on_made, both, under, two_terms, two_goals, variable_walk, in_turn, meanings, elements, nil, joined_by, term_of, terms_of, Goal, plainly, for_some, for_all, not_implied, implied, chosen, conditional, conjuncts, alone, one_or_several, disjuncts, either, true_goal, of_one_part, of_two_parts, of_list_and_part, of_two_terms, equals, differs, goal_by, goal_of, goals_of}
use Rattle.laws_types.specs.Mentioned.{variables_in, variables_in_all, occurring, occurring_all, quantified, quantified_in_all, mentioned, all_mentioned, NamesItsOwn, PartsNameTheirOwn, DisjunctsNameTheirOwn}
use Rattle.laws_types.proofs.Walked.{numbers_of, next_in, Between, Part, Walked, Good, stands_after, Joins, good_both, Carries, good_on, good_made, Binds, good_under, opened, stands_under, first_apart, second_apart, both_grow, both_outside, first_occurs, second_occurs, first_named, second_named, first_hidden, under_grows, under_outside, under_occurs, under_named, under_hidden, under_apart}

apart_left : (xs X Y : List ℕ) → Apart xs (X ++ Y) → Apart xs X
apart_left xs X Y h x i j = h x i (in_left x X Y j)

apart_right : (xs X Y : List ℕ) → Apart xs (X ++ Y) → Apart xs Y
apart_right xs X Y h x i j = h x i (in_right x X Y j)

apart_both : (xs X Y : List ℕ) → Apart xs X → Apart xs Y → Apart xs (X ++ Y)
apart_both xs X Y h k x i j = ⊎_elim (λ e. h x i e) (λ e. k x i e) (in_either x X Y j)

fewer_left : (xs ys X : List ℕ) → Apart (xs ++ ys) X → Apart xs X
fewer_left xs ys X h x i j = h x (in_left x xs ys i) j

fewer_right : (xs ys X : List ℕ) → Apart (xs ++ ys) X → Apart ys X
fewer_right xs ys X h x i j = h x (in_right x xs ys i) j

none_apart : (X : List ℕ) → Apart [] X
none_apart X x i j = i

-- a number that a name means
number_in : (ns : Numbers) (x : List ℕ) (k : ℕ) → number_of ns x ≡ Some k → In k (numbers_of ns)
number_in [] x k e = absurd (none-some k e)
number_in (n ∷ ns) x k e = by_name (bytes_eq x n.0) e (λ d. number_in ns x k d)
  where
    by_name : (t : Bool) → cond t (Some n.1) (number_of ns x) ≡ Some k → (number_of ns x ≡ Some k → In k (numbers_of ns)) → In k (numbers_of (n ∷ ns))
    by_name true e rest = inl (sym (same_Some n.1 k e))
    by_name false e rest = inr (rest e)

numbers_both : (q f : Numbers) (k : ℕ) → In k (numbers_of (q ++ f)) → In k (numbers_of q) ⊎ In k (numbers_of f)
numbers_both [] f k i = inr i
numbers_both (n ∷ q) f k i = ⊎_elim (λ e. inl (inl e)) (λ h. ⊎_elim (λ a. inl (inr a)) (λ b. inr b) (numbers_both q f k h)) i

-- what the names, numbers and texts of a clause are
module _ (Names : List Candidate → Type 0) (Number : ℤ → Type 0) (Text : List ℕ → Type 0) where
  abbrev mutual
    pub TermHolds : Unresolved → Type 0
    TermHolds (any_variable v) = Unit {0}
    TermHolds (any_number n) = Number n
    TermHolds (any_text bytes) = Text bytes
    TermHolds (any_name cs args) = Names cs × TermsHold args

    pub TermsHold : Unresolved_terms → Type 0
    TermsHold no_terms = Unit {0}
    TermsHold (term_then e es) = TermHolds e × TermsHold es

  abbrev mutual
    pub GoalHolds : Unresolved_goal → Type 0
    GoalHolds (equation a b) = TermHolds a × TermHolds b
    GoalHolds (atom cs args) = Names cs × TermsHold args
    GoalHolds (all_of gs) = GoalsHold gs
    GoalHolds (one_of gs) = GoalsHold gs
    GoalHolds (choice vs c t e) = GoalHolds c × GoalHolds t × GoalHolds e
    GoalHolds (negation g) = GoalHolds g
    GoalHolds (exists vs g) = GoalHolds g

    pub GoalsHold : Unresolved_goals → Type 0
    GoalsHold no_goals = Unit {0}
    GoalsHold (goal_then g gs) = GoalHolds g × GoalsHold gs

  abbrev mutual
    pub Sourced : PlainTerm → Type 0
    Sourced (at (Var x) line) = Unit {0}
    Sourced (at (Int n) line) = Number n
    Sourced (at (Str bytes) line) = Text bytes
    Sourced (at (App w ts) line) = AllSourced ts
    Sourced (at (Items ts) line) = AllSourced ts
    Sourced (at (Tailed ts t) line) = AllSourced ts × Sourced t
    Sourced (at (Conj ts) line) = AllSourced ts
    Sourced (at (Disj ts) line) = AllSourced ts

    pub AllSourced : PlainTerms → Type 0
    AllSourced no_term = Unit {0}
    AllSourced (more_terms t ts) = Sourced t × AllSourced ts

  abbrev pub of_term : Part Unresolved
  of_term = record { occurs = variables_in; names = λ e. []; Own = λ X e. Unit {0}; Holds = TermHolds }

  abbrev pub of_terms : Part Unresolved_terms
  of_terms = record { occurs = variables_in_all; names = λ es. []; Own = λ X es. Unit {0}; Holds = TermsHold }

  abbrev pub of_goal : Part Unresolved_goal
  of_goal = record { occurs = occurring; names = quantified; Own = NamesItsOwn; Holds = GoalHolds }

  abbrev pub of_goals : Part Unresolved_goals
  of_goals =
      record {
        occurs = occurring_all;
        names = quantified_in_all;
        Own = λ X gs. PartsNameTheirOwn X gs × DisjunctsNameTheirOwn X gs;
        Holds = GoalsHold;
      }

  abbrev pub of_clause : Part (Unresolved_terms × Unresolved_goal)
  of_clause =
      record {
        occurs = λ r. variables_in_all r.0 ++ occurring r.1;
        names = λ r. quantified r.1;
        Own = λ X r. NamesItsOwn (X ++ variables_in_all r.0) r.1;
        Holds = λ r. TermsHold r.0 × GoalHolds r.1;
      }

  -- TERMS
  good_variable : (x : List ℕ) → Good of_term (variable_walk x)
  good_variable x q m s = by_name (is_anonymous x)
    where
      long : length (m.names ++ x ∷ []) ≡ next_in m + 1
      long = length-append m.names (x ∷ [])

      new : (y : ℕ) → y ≡ next_in m → Between (next_in m) (length (m.names ++ x ∷ [])) y
      new y e = let a : next_in m ≤ y = omega (arith, e) in let b : y < length (m.names ++ x ∷ []) = omega (arith, e, long) in (a, b)

      by_meaning : (o : Option ℕ) → number_of (q ++ m.free) x ≡ o → Walked of_term q m (any_variable (known_or_new o x m).0) (known_or_new o x m).1
      by_meaning (Some k) e =
          record {
            grows = omega arith;
            outside = λ y i. inl i;
            occurs = λ y i. ⊎_elim (λ same. ⊎_elim (λ h. inl (subst (λ z. In z (numbers_of q)) (sym same) h)) (λ h. inr (inl (subst (λ z. In z (numbers_of m.free)) (sym same) h))) (numbers_both q m.free k (number_in (q ++ m.free) x k e))) (λ z. absurd z) i;
            named = λ y i. absurd i;
            hidden = λ y i j. i;
            own = λ X apart. tt;
            holds = tt;
          }
      by_meaning None e =
          record {
            grows = omega (arith, long);
            outside = λ y i. ⊎_elim (λ same. inr (new y same)) (λ h. inl h) i;
            occurs = λ y i. ⊎_elim (λ same. inr (inr (new y same))) (λ z. absurd z) i;
            named = λ y i. absurd i;
            hidden = λ y i j. i;
            own = λ X apart. tt;
            holds = tt;
          }

      by_name : (t : Bool) → Walked of_term q m (any_variable (cond t (length m.names, named x m) (known_or_new (number_of (q ++ m.free) x) x m)).0) (cond t (length m.names, named x m) (known_or_new (number_of (q ++ m.free) x) x m)).1
      by_name true =
          record {
            grows = omega (arith, long);
            outside = λ y i. inl i;
            occurs = λ y i. ⊎_elim (λ same. inr (inr (new y same))) (λ z. absurd z) i;
            named = λ y i. absurd i;
            hidden = λ y i j. i;
            own = λ X apart. tt;
            holds = tt;
          }
      by_name false = by_meaning (number_of (q ++ m.free) x) refl

  good_number : (n : ℤ) → Number n → Good of_term (made (any_number n))
  good_number n h = good_made of_term (any_number n) (λ x i. i) (λ x i. i) (λ X. tt) h

  good_text : (bytes : List ℕ) → Text bytes → Good of_term (made (any_text bytes))
  good_text bytes h = good_made of_term (any_text bytes) (λ x i. i) (λ x i. i) (λ X. tt) h

  good_bare : (cs : List Candidate) → Names cs → Good of_term (made (any_name cs no_terms))
  good_bare cs h = good_made of_term (any_name cs no_terms) (λ x i. i) (λ x i. i) (λ X. tt) (h, tt)

  name_carries : (cs : List Candidate) → Names cs → Carries of_terms of_term (any_name cs)
  name_carries cs h = record { occurs = λ x es i. i; names = λ x es i. i; own = λ X es o a. tt; holds = λ es hs. (h, hs) }

  then_joins : Joins of_term of_terms of_terms term_then
  then_joins =
      record {
        occurs = λ x e es i. in_either x (variables_in e) (variables_in_all es) i;
        names = λ x e es i. absurd i;
        own = λ X e es o p a b c. tt;
        holds = λ e es h hs. (h, hs);
      }

  two_join : (cs : List Candidate) → Names cs → Joins of_term of_term of_term (λ a b. any_name cs (two_terms a b))
  two_join cs h =
      record {
        occurs = λ x a b i. ⊎_elim (λ j. inl j) (λ j. ⊎_elim (λ k. inr k) (λ z. absurd z) (in_either x (variables_in b) [] j)) (in_either x (variables_in a) (variables_in b ++ []) i);
        names = λ x a b i. absurd i;
        own = λ X a b o p c d e. tt;
        holds = λ a b ha hb. (h, (ha, (hb, tt)));
      }

  abbrev AllGood : List (Walk Unresolved) → Type 0
  AllGood [] = Unit {0}
  AllGood (t ∷ ts) = Good of_term t × AllGood ts

  good_turns : (ts : List (Walk Unresolved)) → AllGood ts → Good of_terms (in_turn ts)
  good_turns [] h = good_made of_terms no_terms (λ x i. i) (λ x i. i) (λ X. tt) tt
  good_turns (t ∷ ts) h = good_both of_term of_terms of_terms term_then t (in_turn ts) then_joins h.0 (good_turns ts h.1)

  -- in a module, where what names may mean is so
  module _ (l : Linked) (own : ℕ) (means : (w : Path) (n : ℕ) → Names (meanings l own w n)) where
    good_elements : (ts : List (Walk Unresolved)) (end : Walk Unresolved) → AllGood ts → Good of_term end → Good of_term (elements l own ts end)
    good_elements [] end h g = g
    good_elements (t ∷ ts) end h g =
        good_both of_term of_term of_term (λ a b. any_name (meanings l own cell_path 2) (two_terms a b)) t (elements l own ts end) (two_join (meanings l own cell_path 2) (means cell_path 2)) h.0
        (good_elements ts end h.1 g)

    good_joined : (w : Path) (ts : List (Walk Unresolved)) → AllGood ts → Good of_term (joined_by l own w ts)
    good_joined w [] h = good_bare (meanings l own w 0) (means w 0)
    good_joined w (t ∷ []) h = h.0
    good_joined w (t ∷ u ∷ us) h =
        good_both of_term of_term of_term (λ a b. any_name (meanings l own w 2) (two_terms a b)) t (joined_by l own w (u ∷ us)) (two_join (meanings l own w 2) (means w 2)) h.0
        (good_joined w (u ∷ us) h.1)

    mutual
      pub good_term : (t : PlainTerm) → Sourced t → Good of_term (term_of l own t)
      good_term (at (Var x) line) h = good_variable x
      good_term (at (Int n) line) h = good_number n h
      good_term (at (Str bytes) line) h = good_text bytes h
      good_term (at (App w ts) line) h =
          good_on of_terms of_term (any_name (meanings l own w (count ts))) (in_turn (terms_of l own ts)) (name_carries (meanings l own w (count ts)) (means w (count ts)))
          (good_turns (terms_of l own ts) (good_terms ts h))
      good_term (at (Items ts) line) h = good_elements (terms_of l own ts) (nil l own) (good_terms ts h) (good_bare (meanings l own nil_path 0) (means nil_path 0))
      good_term (at (Tailed ts t) line) h = good_elements (terms_of l own ts) (term_of l own t) (good_terms ts h.0) (good_term t h.1)
      good_term (at (Conj ts) line) h = good_joined comma (terms_of l own ts) (good_terms ts h)
      good_term (at (Disj ts) line) h = good_joined semicolon (terms_of l own ts) (good_terms ts h)

      pub good_terms : (ts : PlainTerms) → AllSourced ts → AllGood (terms_of l own ts)
      good_terms no_term h = tt
      good_terms (more_terms t ts) h = (good_term t h.0, good_terms ts h.1)

  -- GOALS
  negation_carries : Carries of_goal of_goal negation
  negation_carries = record { occurs = λ x g i. i; names = λ x g i. i; own = λ X g o a. o X a; holds = λ g h. h }

  exists_binds : Binds of_goal of_goal exists
  exists_binds =
      record {
        occurs = λ x vs g i. i;
        names = λ x vs g i. in_either x vs (quantified g) i;
        own = λ X vs g o inner apart. (fewer_left vs (quantified g) X apart, o (X ++ vs) (apart_both (quantified g) X vs (fewer_right vs (quantified g) X apart) inner));
        holds = λ vs g h. h;
      }

  all_carries : Carries of_goals of_goal all_of
  all_carries = record { occurs = λ x gs i. i; names = λ x gs i. i; own = λ X gs o a. (o X a).0; holds = λ gs h. h }

  one_carries : Carries of_goals of_goal one_or_several
  one_carries = record { occurs = occurs; names = names; own = own; holds = holds }
    where
      occurs : (x : ℕ) (gs : Unresolved_goals) → In x (occurring (one_or_several gs)) → In x (occurring_all gs)
      occurs x no_goals i = i
      occurs x (goal_then g no_goals) i = in_left x (occurring g) [] i
      occurs x (goal_then g (goal_then h hs)) i = i

      names : (x : ℕ) (gs : Unresolved_goals) → In x (quantified (one_or_several gs)) → In x (quantified_in_all gs)
      names x no_goals i = i
      names x (goal_then g no_goals) i = in_left x (quantified g) [] i
      names x (goal_then g (goal_then h hs)) i = i

      own : (X : List ℕ) (gs : Unresolved_goals) → ((Y : List ℕ) → Apart (quantified_in_all gs) Y → PartsNameTheirOwn Y gs × DisjunctsNameTheirOwn Y gs) → Apart (quantified (one_or_several gs)) X → NamesItsOwn X (one_or_several gs)
      own X no_goals o a = tt
      own X (goal_then g no_goals) o a = ((o X (λ x i j. ⊎_elim (λ h. a x h j) (λ h. h) (in_either x (quantified g) [] i))).1).0
      own X (goal_then g (goal_then h hs)) o a = (o X a).1

      holds : (gs : Unresolved_goals) → GoalsHold gs → GoalHolds (one_or_several gs)
      holds no_goals h = h
      holds (goal_then g no_goals) h = h.0
      holds (goal_then g (goal_then k ks)) h = h

  alone_carries : Carries of_goal of_goals alone
  alone_carries =
      record {
        occurs = λ x g i. ⊎_elim (λ h. h) (λ h. absurd h) (in_either x (occurring g) [] i);
        names = λ x g i. ⊎_elim (λ h. h) (λ h. absurd h) (in_either x (quantified g) [] i);
        own = λ X g o a.
            let apart = fewer_left (quantified g) [] X a in
            ((o (X ++ ([] ++ [])) (apart_both (quantified g) X ([] ++ []) apart (λ x i j. j)), tt), (o X apart, tt));
        holds = λ g h. (h, tt);
      }

  goals_join : Joins of_goal of_goals of_goals goal_then
  goals_join =
      record {
        occurs = λ x g gs i. in_either x (occurring g) (occurring_all gs) i;
        names = λ x g gs i. in_either x (quantified g) (quantified_in_all gs) i;
        own = λ X g gs o p first second apart.
            let here = fewer_left (quantified g) (quantified_in_all gs) X apart in
            let there = fewer_right (quantified g) (quantified_in_all gs) X apart in (
              (
                o (X ++ all_mentioned gs) (apart_both (quantified g) X (all_mentioned gs) here first),
                (p (X ++ mentioned g) (apart_both (quantified_in_all gs) X (mentioned g) there second)).0,
              ),
              (o X here, (p X there).1),
            );
        holds = λ g gs h hs. (h, hs);
      }

  equation_joins : Joins of_term of_term of_goal equation
  equation_joins =
      record {
        occurs = λ x a b i. in_either x (variables_in a) (variables_in b) i;
        names = λ x a b i. absurd i;
        own = λ X a b o p c d e. tt;
        holds = λ a b h k. (h, k);
      }

  -- `A, not B`
  but_not : Joins of_goal of_goal of_goal (λ x y. all_of (two_goals x (negation y)))
  but_not =
      record {
        occurs = λ x g h i. ⊎_elim (λ j. inl j) (λ j. inr (⊎_elim (λ k. k) (λ k. absurd k) (in_either x (occurring h) [] j))) (in_either x (occurring g) (occurring h ++ []) i);
        names = λ x g h i. ⊎_elim (λ j. inl j) (λ j. inr (⊎_elim (λ k. k) (λ k. absurd k) (in_either x (quantified h) [] j))) (in_either x (quantified g) (quantified h ++ []) i);
        own = λ X g h o p first second apart.
            let here = fewer_left (quantified g) (quantified h ++ []) X apart in
            let there = fewer_left (quantified h) [] X (fewer_right (quantified g) (quantified h ++ []) X apart) in
            let only : Apart (quantified g) ((occurring h ++ []) ++ (quantified h ++ [])) =
            λ x i j.
            ⊎_elim (λ k. ⊎_elim (λ a. apart_left (quantified g) (occurring h) (quantified h) first x i a) (λ a. a) (in_either x (occurring h) [] k))
            (λ k. ⊎_elim (λ a. apart_right (quantified g) (occurring h) (quantified h) first x i a) (λ a. a) (in_either x (quantified h) [] k))
            (in_either x (occurring h ++ []) (quantified h ++ []) j) in (
              o (X ++ ((occurring h ++ []) ++ (quantified h ++ []))) (apart_both (quantified g) X ((occurring h ++ []) ++ (quantified h ++ [])) here only),
              (
                p ((X ++ mentioned g) ++ ([] ++ [])) (apart_both (quantified h) (X ++ mentioned g) ([] ++ []) (apart_both (quantified h) X (mentioned g) there second) (λ x i j. j)),
                tt,
              ),
            );
        holds = λ g h a b. (a, (b, tt));
      }

  pub record GoodGoal (g : Goal) : Type 0 where
    pub itself : Good of_goal g.itself
    pub condition : Good of_goal g.condition
    pub denied : Good of_goal g.denied
    pub before_else : (e : Walk Unresolved_goal) → Good of_goal e → Good of_goal (g.before_else e)

  good_negation : (walk : Walk Unresolved_goal) → Good of_goal walk → Good of_goal (on_made negation walk)
  good_negation walk g = good_on of_goal of_goal negation walk negation_carries g

  good_plainly : (walk : Walk Unresolved_goal) → Good of_goal walk → GoodGoal (plainly walk)
  good_plainly walk g = record { itself = g; condition = g; denied = good_negation walk g; before_else = λ e h. g }

  good_exists : (list : PlainTerm) (walk : Walk Unresolved_goal) → Good of_goal walk → Good of_goal (under list exists walk)
  good_exists list walk g = good_under of_goal of_goal list exists walk exists_binds g

  good_for_some : (list : PlainTerm) (g : Goal) → GoodGoal g → GoodGoal (for_some list g)
  good_for_some list g h =
      let it = good_exists list g.itself h.itself in
      record { itself = it; condition = h.itself; denied = good_negation (under list exists g.itself) it; before_else = λ e k. h.itself }

  good_for_all : (list : PlainTerm) (g : Goal) → GoodGoal g → GoodGoal (for_all list g)
  good_for_all list g h = good_plainly (on_made negation (under list exists g.denied)) (good_negation (under list exists g.denied) (good_exists list g.denied h.denied))

  good_implied : (a b : Goal) → GoodGoal a → GoodGoal b → GoodGoal (implied a b)
  good_implied a b h k =
      let it = good_both of_goal of_goal of_goal (λ x y. all_of (two_goals x (negation y))) a.itself b.itself but_not h.itself k.itself in
      let not_it = good_negation (not_implied a b) it in
      record { itself = not_it; condition = not_it; denied = it; before_else = λ e j. not_it }

  -- two goals, and the variables of a quantifier around them
  abbrev of_two : Part (Unresolved_goal × Unresolved_goal)
  of_two =
      record {
        occurs = λ r. occurring r.0 ++ occurring r.1;
        names = λ r. quantified r.0 ++ quantified r.1;
        Own = λ X r. Unit {0};
        Holds = λ r. Unit {0};
      }

  abbrev of_framed : Part (List ℕ × (Unresolved_goal × Unresolved_goal))
  of_framed =
      record {
        occurs = λ r. occurring r.1.0 ++ occurring r.1.1;
        names = λ r. r.0 ++ (quantified r.1.0 ++ quantified r.1.1);
        Own = λ X r. Unit {0};
        Holds = λ r. Unit {0};
      }

  -- a conditional: its condition and then part stand under its list, its else part behind them
  good_chosen : (c t : Goal) (e : Walk Unresolved_goal) → GoodGoal c → GoodGoal t → Good of_goal e → Good of_goal (chosen c t e)
  good_chosen c t e hc ht he q m st =
      let s = quantified_by c.names q m in
      let o = opened q m c.names in
      let su = stands_under q m s st o in
      let rc = c.condition s.numbers s.met in
      let wc = hc.condition s.numbers s.met su in
      let sc = stands_after of_goal s.numbers s.met rc.1 rc.0 su wc in
      let rt = t.itself s.numbers rc.1 in
      let wt = ht.itself s.numbers rc.1 sc in
      let two : Walked of_two s.numbers s.met (rc.0, rt.0) rt.1 =
      record {
        grows = both_grow of_goal of_goal s.numbers s.met rc.1 rt.1 rc.0 rt.0 su wc wt;
        outside = both_outside of_goal of_goal s.numbers s.met rc.1 rt.1 rc.0 rt.0 su wc wt;
        occurs = λ x i. ⊎_elim (λ j. first_occurs of_goal of_goal s.numbers s.met rc.1 rt.1 rc.0 rt.0 su wc wt x j) (λ j. second_occurs of_goal of_goal s.numbers s.met rc.1 rt.1 rc.0 rt.0 su wc wt x j) (in_either x (occurring rc.0) (occurring rt.0) i);
        named = λ x i. ⊎_elim (λ j. first_named of_goal of_goal s.numbers s.met rc.1 rt.1 rc.0 rt.0 su wc wt x j) (λ j. second_named of_goal of_goal s.numbers s.met rc.1 rt.1 rc.0 rt.0 su wc wt x j) (in_either x (quantified rc.0) (quantified rt.0) i);
        hidden = λ x i k. ⊎_elim (λ j. first_hidden of_goal of_goal s.numbers s.met rc.1 rt.1 rc.0 rt.0 su wc wt x j k) (λ j. wt.hidden x j k) (in_either x (quantified rc.0) (quantified rt.0) i);
        own = λ X apart. tt;
        holds = tt;
      } in
      let framed : Walked of_framed q m (s.vars, (rc.0, rt.0)) rt.1 =
      record {
        grows = under_grows of_two q m s (rc.0, rt.0) rt.1 st o two;
        outside = under_outside of_two q m s (rc.0, rt.0) rt.1 st o two;
        occurs = under_occurs of_two q m s (rc.0, rt.0) rt.1 st o two;
        named = λ x i. under_named of_two q m s (rc.0, rt.0) rt.1 st o two x (in_either x s.vars (quantified rc.0 ++ quantified rt.0) i);
        hidden = λ x i k. under_hidden of_two q m s (rc.0, rt.0) rt.1 st o two x (in_either x s.vars (quantified rc.0 ++ quantified rt.0) i) k;
        own = λ X apart. tt;
        holds = tt;
      } in
      let sf = stands_after of_framed q m rt.1 (s.vars, (rc.0, rt.0)) st framed in
      let re = e q rt.1 in
      let we = he q rt.1 sf in
      let a : List ℕ × (Unresolved_goal × Unresolved_goal) = (s.vars, (rc.0, rt.0)) in
      let vs = s.vars in
      let nc = quantified rc.0 in
      let nt = quantified rt.0 in
      let ne = quantified re.0 in
      let parts : (x : ℕ) → In x (vs ++ (nc ++ (nt ++ ne))) → In x (vs ++ (nc ++ nt)) ⊎ In x ne =
      λ x i.
      ⊎_elim (λ j. inl (in_left x vs (nc ++ nt) j))
      (λ j.
      ⊎_elim (λ k. inl (in_right x vs (nc ++ nt) (in_left x nc nt k)))
      (λ k. ⊎_elim (λ z. inl (in_right x vs (nc ++ nt) (in_right x nc nt z))) (λ z. inr z) (in_either x nt ne k))
      (in_either x nc (nt ++ ne) j))
      (in_either x vs (nc ++ (nt ++ ne)) i) in
      let seen : (x : ℕ) → In x (occurring rc.0 ++ (occurring rt.0 ++ occurring re.0)) → In x (occurring rc.0 ++ occurring rt.0) ⊎ In x (occurring re.0) =
      λ x i.
      ⊎_elim (λ j. inl (in_left x (occurring rc.0) (occurring rt.0) j))
      (λ j. ⊎_elim (λ k. inl (in_right x (occurring rc.0) (occurring rt.0) k)) (λ k. inr k) (in_either x (occurring rt.0) (occurring re.0) j))
      (in_either x (occurring rc.0) (occurring rt.0 ++ occurring re.0) i) in
      let under : Apart (nc ++ nt) vs = under_apart of_two q m s (rc.0, rt.0) rt.1 st o two in
      let first : Apart nc (mentioned rt.0) = first_apart of_goal of_goal s.numbers s.met rc.1 rt.1 rc.0 rt.0 su wc wt in
      let second : Apart nt (mentioned rc.0) = second_apart of_goal of_goal s.numbers s.met rc.1 rt.1 rc.0 rt.0 su wc wt in
      record {
        grows = both_grow of_framed of_goal q m rt.1 re.1 a re.0 st framed we;
        outside = both_outside of_framed of_goal q m rt.1 re.1 a re.0 st framed we;
        occurs = λ x i. ⊎_elim (λ j. first_occurs of_framed of_goal q m rt.1 re.1 a re.0 st framed we x j) (λ j. second_occurs of_framed of_goal q m rt.1 re.1 a re.0 st framed we x j) (seen x i);
        named = λ x i. ⊎_elim (λ j. first_named of_framed of_goal q m rt.1 re.1 a re.0 st framed we x j) (λ j. second_named of_framed of_goal q m rt.1 re.1 a re.0 st framed we x j) (parts x i);
        hidden = λ x i k. ⊎_elim (λ j. first_hidden of_framed of_goal q m rt.1 re.1 a re.0 st framed we x j k) (λ j. we.hidden x j k) (parts x i);
        own = λ X apart.
            let behind = fewer_right vs (nc ++ (nt ++ ne)) X apart in
            let of_c = fewer_left nc (nt ++ ne) X behind in
            let of_te = fewer_right nc (nt ++ ne) X behind in
            let of_t = fewer_left nt ne X of_te in
            let of_e = fewer_right nt ne X of_te in (
              fewer_left vs (nc ++ (nt ++ ne)) X apart,
              wc.own (X ++ (vs ++ mentioned rt.0)) (apart_both nc X (vs ++ mentioned rt.0) of_c (apart_both nc vs (mentioned rt.0) (fewer_left nc nt vs under) first)),
              wt.own (X ++ (vs ++ mentioned rc.0)) (apart_both nt X (vs ++ mentioned rc.0) of_t (apart_both nt vs (mentioned rc.0) (fewer_right nc nt vs under) second)),
              we.own X of_e,
            );
        holds = (wc.holds, wt.holds, we.holds);
      }

  good_never : Good of_goal (made (one_of no_goals))
  good_never = good_made of_goal (one_of no_goals) (λ x i. i) (λ x i. i) (λ X. tt) tt

  good_true : GoodGoal true_goal
  good_true = good_plainly (made (all_of no_goals)) (good_made of_goal (all_of no_goals) (λ x i. i) (λ x i. i) (λ X. tt) tt)

  good_conditional : (c t : Goal) → GoodGoal c → GoodGoal t → GoodGoal (conditional c t)
  good_conditional c t h k =
      let it = good_chosen c t (made (one_of no_goals)) h k good_never in
      record { itself = it; condition = it; denied = good_negation (chosen c t (made (one_of no_goals))) it; before_else = λ e j. good_chosen c t e h k j }

  abbrev AllGoodGoals : List Goal → Type 0
  AllGoodGoals [] = Unit {0}
  AllGoodGoals (g ∷ gs) = GoodGoal g × AllGoodGoals gs

  good_conjuncts : (gs : List Goal) → AllGoodGoals gs → Good of_goals (conjuncts gs)
  good_conjuncts [] h = good_made of_goals no_goals (λ x i. i) (λ x i. i) (λ X. (tt, tt)) tt
  good_conjuncts (g ∷ gs) h = good_both of_goal of_goals of_goals goal_then g.itself (conjuncts gs) goals_join h.0.itself (good_conjuncts gs h.1)

  good_disjuncts : (gs : List Goal) → AllGoodGoals gs → Good of_goals (disjuncts gs)
  good_disjuncts [] h = good_made of_goals no_goals (λ x i. i) (λ x i. i) (λ X. (tt, tt)) tt
  good_disjuncts (g ∷ gs) h = by_form g.is_conditional (good_disjuncts gs h.1)
    where
      by_form : (b : Bool) → Good of_goals (disjuncts gs) → Good of_goals (cond b (on_made alone (g.before_else (on_made one_or_several (disjuncts gs)))) (both goal_then g.itself (disjuncts gs)))
      by_form true rest =
          good_on of_goal of_goals alone (g.before_else (on_made one_or_several (disjuncts gs))) alone_carries
          (h.0.before_else (on_made one_or_several (disjuncts gs)) (good_on of_goals of_goal one_or_several (disjuncts gs) one_carries rest))
      by_form false rest = good_both of_goal of_goals of_goals goal_then g.itself (disjuncts gs) goals_join h.0.itself rest

  good_either : (gs : List Goal) → AllGoodGoals gs → GoodGoal (either gs)
  good_either gs h = good_plainly (on_made one_or_several (disjuncts gs)) (good_on of_goals of_goal one_or_several (disjuncts gs) one_carries (good_disjuncts gs h))

  good_all : (gs : List Goal) → AllGoodGoals gs → GoodGoal (plainly (on_made all_of (conjuncts gs)))
  good_all gs h = good_plainly (on_made all_of (conjuncts gs)) (good_on of_goals of_goal all_of (conjuncts gs) all_carries (good_conjuncts gs h))

  good_one_part : (f : Goal → Goal) (gs : List Goal) → ((g : Goal) → GoodGoal g → GoodGoal (f g)) → AllGoodGoals gs → GoodGoal (of_one_part f gs)
  good_one_part f [] k h = good_true
  good_one_part f (g ∷ []) k h = k g h.0
  good_one_part f (g ∷ g' ∷ gs) k h = good_true

  good_two_parts : (f : Goal → Goal → Goal) (gs : List Goal) → ((a b : Goal) → GoodGoal a → GoodGoal b → GoodGoal (f a b)) → AllGoodGoals gs → GoodGoal (of_two_parts f gs)
  good_two_parts f [] k h = good_true
  good_two_parts f (a ∷ []) k h = good_true
  good_two_parts f (a ∷ b ∷ []) k h = k a b h.0 h.1.0
  good_two_parts f (a ∷ b ∷ c ∷ gs) k h = good_true

  good_list_and_part : (f : PlainTerm → Goal → Goal) (ts : PlainTerms) (gs : List Goal) → ((list : PlainTerm) (g : Goal) → GoodGoal g → GoodGoal (f list g)) → AllGoodGoals gs → GoodGoal (of_list_and_part f ts gs)
  good_list_and_part f no_term gs k h = good_true
  good_list_and_part f (more_terms list ts) [] k h = good_true
  good_list_and_part f (more_terms list ts) (a ∷ []) k h = good_true
  good_list_and_part f (more_terms list ts) (a ∷ g ∷ []) k h = k list g h.1.0
  good_list_and_part f (more_terms list ts) (a ∷ g ∷ c ∷ gs) k h = good_true

  good_two_terms : (f : Walk Unresolved → Walk Unresolved → Goal) (ts : List (Walk Unresolved)) → ((a b : Walk Unresolved) → Good of_term a → Good of_term b → GoodGoal (f a b)) → AllGood ts → GoodGoal (of_two_terms f ts)
  good_two_terms f [] k h = good_true
  good_two_terms f (a ∷ []) k h = good_true
  good_two_terms f (a ∷ b ∷ []) k h = k a b h.0 h.1.0
  good_two_terms f (a ∷ b ∷ c ∷ ts) k h = good_true

  good_equation : (a b : Walk Unresolved) → Good of_term a → Good of_term b → Good of_goal (both equation a b)
  good_equation a b h k = good_both of_term of_term of_goal equation a b equation_joins h k

  atom_carries : (cs : List Candidate) → Names cs → Carries of_terms of_goal (atom cs)
  atom_carries cs h = record { occurs = λ x es i. i; names = λ x es i. i; own = λ X es o a. tt; holds = λ es hs. (h, hs) }

  module _ (l : Linked) (own : ℕ) (means : (w : Path) (n : ℕ) → Names (meanings l own w n)) where
    good_by : (form : GoalForm) (w : Path) (ts : PlainTerms) (gs : List Goal) → AllSourced ts → AllGoodGoals gs → GoodGoal (goal_by l own form w ts gs)
    good_by G.True w ts gs s h = good_true
    good_by G.Fail w ts gs s h = good_plainly (made (one_of no_goals)) good_never
    good_by G.Conjunction w ts gs s h = good_all gs h
    good_by G.Disjunction w ts gs s h = good_either gs h
    good_by G.Arrow w ts gs s h = good_two_parts conditional gs good_conditional h
    good_by G.If w ts gs s h = good_true
    good_by G.Then w ts gs s h = good_true
    good_by G.Else w ts gs s h = good_true
    good_by G.Negation w ts gs s h = good_one_part (λ g. plainly (on_made negation g.itself)) gs (λ g k. good_plainly (on_made negation g.itself) (good_negation g.itself k.itself)) h
    good_by G.Existential w ts gs s h = good_list_and_part for_some ts gs good_for_some h
    good_by G.Universal w ts gs s h = good_list_and_part for_all ts gs good_for_all h
    good_by G.Implication w ts gs s h = good_two_parts implied gs good_implied h
    good_by G.ReverseImplication w ts gs s h = good_true
    good_by G.Equivalence w ts gs s h = good_true
    good_by G.Unification w ts gs s h = good_two_terms equals (terms_of l own ts) (λ a b j k. good_plainly (both equation a b) (good_equation a b j k)) (good_terms l own means ts s)
    good_by G.Disunification w ts gs s h =
        good_two_terms differs (terms_of l own ts) (λ a b j k. good_plainly (on_made negation (both equation a b)) (good_negation (both equation a b) (good_equation a b j k))) (good_terms l own means ts s)
    good_by G.Call w ts gs s h =
        good_plainly (on_made (atom (meanings l own w (count ts))) (in_turn (terms_of l own ts)))
        (good_on of_terms of_goal (atom (meanings l own w (count ts))) (in_turn (terms_of l own ts)) (atom_carries (meanings l own w (count ts)) (means w (count ts)))
        (good_turns (terms_of l own ts) (good_terms l own means ts s)))

    mutual
      pub good_goal : (t : PlainTerm) → Sourced t → GoodGoal (goal_of l own t)
      good_goal (at (Var x) line) h = good_true
      good_goal (at (Int n) line) h = good_true
      good_goal (at (Str bytes) line) h = good_true
      good_goal (at (App w ts) line) h = good_by (goal_form w (count ts)) w ts (goals_of l own ts) h (good_goals ts h)
      good_goal (at (Items ts) line) h = good_true
      good_goal (at (Tailed ts t) line) h = good_true
      good_goal (at (Conj ts) line) h = good_all (goals_of l own ts) (good_goals ts h)
      good_goal (at (Disj ts) line) h = good_either (goals_of l own ts) (good_goals ts h)

      pub good_goals : (ts : PlainTerms) → AllSourced ts → AllGoodGoals (goals_of l own ts)
      good_goals no_term h = tt
      good_goals (more_terms t ts) h = (good_goal t h.0, good_goals ts h.1)

    -- A CLAUSE AND A QUERY
    clause_joins : Joins of_terms of_goal of_clause (λ head body. (head, body))
    clause_joins =
        record {
          occurs = λ x head body i. in_either x (variables_in_all head) (occurring body) i;
          names = λ x head body i. inr i;
          own = λ X head body o p first second apart. p (X ++ variables_in_all head) (apart_both (quantified body) X (variables_in_all head) apart (apart_left (quantified body) (variables_in_all head) [] second));
          holds = λ head body h k. (h, k);
        }

    pub good_rule : (head : PlainTerms) (b : PlainTerm) → AllSourced head → Sourced b → Good of_clause (both (λ head body. (head, body)) (in_turn (terms_of l own head)) (goal_of l own b).itself)
    good_rule head b h k =
        good_both of_terms of_goal of_clause (λ head body. (head, body)) (in_turn (terms_of l own head)) (goal_of l own b).itself clause_joins (good_turns (terms_of l own head) (good_terms l own means head h))
        (good_goal b k).itself

    pub good_fact : (head : PlainTerms) → AllSourced head → Good of_clause (on_made (λ head. (head, all_of no_goals)) (in_turn (terms_of l own head)))
    good_fact head h =
        good_on of_terms of_clause (λ head. (head, all_of no_goals)) (in_turn (terms_of l own head))
        (record {
          occurs = λ x es i. ⊎_elim (λ j. j) (λ j. absurd j) (in_either x (variables_in_all es) [] i);
          names = λ x es i. i;
          own = λ X es o a. tt;
          holds = λ es k. (k, tt);
        }) (good_turns (terms_of l own head) (good_terms l own means head h))

    pub good_query : (g : PlainTerm) → Sourced g → Good of_clause (on_made (λ body. (no_terms, body)) (goal_of l own g).itself)
    good_query g h =
        good_on of_goal of_clause (λ body. (no_terms, body)) (goal_of l own g).itself
        (record {
          occurs = λ x b i. i;
          names = λ x b i. i;
          own = λ X b o a. o (X ++ []) (apart_both (quantified b) X [] a (λ x i j. j));
          holds = λ b k. (tt, k);
        }) (good_goal g h).itself

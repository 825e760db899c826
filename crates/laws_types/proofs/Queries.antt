-- The goal of a query is typed with the types of the variables that it asks for.
use Rattle.std.proofs.Common.{◌≡◌, ◌⊎◌, inl, inr, ℕ, zero, suc, ◌+◌, ◌<◌, List, [], ◌∷◌, ◌++◌, map, drop, length, get_or, Bool, true, false, cond, nat_eq, Option, Some, None, refl, sym, ap, ◌∙◌, subst, arith, append-nil, length-append, ⊎_elim}
use Rattle.std.proofs.lemmas.Bool.{eqb-true, eqb-false}
use Rattle.std.proofs.lemmas.List.{length-map}
use Rattle.mc_program.specs.Programs.{TypeTerm, variable_type, Source, Expression, variable, expressions, Formula, ClauseForm}
use Rattle.mc_model.specs.Flat.{Same}
use Rattle.mc_model.specs.Lists.{In, without, once, place_in}
use Rattle.mc_accepted.specs.Scope.{variables_in_all, occurring, free_of, quantified, scoped}
use Rattle.mc_accepted.specs.Typing.{TypedGoal}
use Rattle.mc_accepted.specs.Fits.{HeadsHave}
use Rattle.mc_accepted.specs.Normal.{Conjuncts, conjunction, conjuncts_of, head_place, has_place, is_place, no_arguments, named_by_quantifiers, other_variables, place_or, names_in, head_equation, head_equations, normal_goal}
use Rattle.mc_accepted.specs.NormalTypes.{TypedClause, normal_types, asked_of, unasked_of, free_variables, is_unasked}
use Rattle.mc_accepted.specs.MostGeneral.{type_at}
use Rattle.laws_language.proofs.FlatGoals.{in_left, in_right, in_either}
use Rattle.laws_language.proofs.ClauseNumbers.{IsArgument, is_argument, in_without, in_once, from_without, from_once}
use Rattle.laws_language.proofs.Scopes.{occurs, occurs_quantified}
use Rattle.laws_order.proofs.NormalScopes.{free_occurs, normal_goals_below}
use Rattle.laws_made_types.proofs.FlatTypings.{AllTyped, join, to_conjunction, from_conjunction}
use Rattle.laws_types.specs.GoalTypes.{GoalIsTyped}
use Rattle.laws_types.specs.QueryGoals.{as_query, QueriesAreTyped}
use Rattle.laws_types.proofs.Renumbered.{Alike, goal_alike}
use Rattle.laws_types.proofs.ManyClauses.{agreed, argument_below, at_first, at_second, at_default}
use Rattle.laws_types.proofs.ScopedTypes.{named_same, quantified_same, scoped_same}

-- LISTS

-- a variable is in a list or not
told : (v : ℕ) (xs : List ℕ) → In v xs ⊎ (In v xs → ⊥)
told v [] = inr (λ i. i)
told v (x ∷ xs) = by_test (nat_eq v x) (eqb-true v x) (eqb-false v x) (told v xs)
  where
    by_test : (t : Bool) → (t ≡ true → v ≡ x) → (t ≡ false → v ≡ x → ⊥) → In v xs ⊎ (In v xs → ⊥) → In v (x ∷ xs) ⊎ (In v (x ∷ xs) → ⊥)
    by_test true p q rest = inl (inl (p refl))
    by_test false p q rest = ⊎_elim (λ i. inl (inr i)) (λ out. inr (λ i. ⊎_elim (λ e. q refl e) (λ j. out j) i)) rest

-- those of a test are among all
asked_among : (names : ℕ → List ℕ) (xs : List ℕ) (v : ℕ) → In v (asked_of names xs) → In v xs
asked_among names [] v i = i
asked_among names (x ∷ xs) v i = by_test (is_unasked (names x)) i (asked_among names xs v)
  where
    by_test : (t : Bool) → In v (cond t (asked_of names xs) (x ∷ asked_of names xs)) → (In v (asked_of names xs) → In v xs) → In v (x ∷ xs)
    by_test true i rest = inr (rest i)
    by_test false i rest = ⊎_elim (λ e. inl e) (λ j. inr (rest j)) i

unasked_among : (names : ℕ → List ℕ) (xs : List ℕ) (v : ℕ) → In v (unasked_of names xs) → In v xs
unasked_among names [] v i = i
unasked_among names (x ∷ xs) v i = by_test (is_unasked (names x)) i (unasked_among names xs v)
  where
    by_test : (t : Bool) → In v (cond t (x ∷ unasked_of names xs) (unasked_of names xs)) → (In v (unasked_of names xs) → In v xs) → In v (x ∷ xs)
    by_test true i rest = ⊎_elim (λ e. inl e) (λ j. inr (rest j)) i
    by_test false i rest = inr (rest i)

-- the variables of a head that has variables alone
head_variables : (xs : List ℕ) → variables_in_all (expressions (map variable xs)) ≡ xs
head_variables [] = refl
head_variables (x ∷ xs) = ap (λ ys. x ∷ ys) (head_variables xs)

none_left : (xs : List ℕ) → no_arguments [] xs ≡ xs
none_left [] = refl
none_left (x ∷ xs) = ap (λ ys. x ∷ ys) (none_left xs)

-- without a place at the head a variable is one of the others
is_other : (head : List Expression) (v : ℕ) (xs : List ℕ) → head_place v head ≡ None → In v xs → In v (no_arguments head xs)
is_other head v [] none h = absurd h
is_other head v (y ∷ ys) none h = by_test (has_place (head_place y head)) (λ e. ap (λ z. has_place (head_place z head)) (sym e) ∙ ap has_place none) (is_other head v ys none)
  where
    by_test : (t : Bool) → (v ≡ y → t ≡ false) → (In v ys → In v (no_arguments head ys)) → In v (cond t (no_arguments head ys) (y ∷ no_arguments head ys))
    by_test true q rest = ⊎_elim (λ e. let f : true ≡ false = q e in cc) (λ i. rest i) h
    by_test false q rest = ⊎_elim (λ e. inl e) (λ i. inr (rest i)) h

others_among : (head : List Expression) (v : ℕ) (xs : List ℕ) → In v (no_arguments head xs) → In v xs
others_among head v [] i = i
others_among head v (y ∷ ys) i = by_test (has_place (head_place y head)) i (others_among head v ys)
  where
    by_test : (t : Bool) → In v (cond t (no_arguments head ys) (y ∷ no_arguments head ys)) → (In v (no_arguments head ys) → In v ys) → In v (y ∷ ys)
    by_test true i rest = inr (rest i)
    by_test false i rest = ⊎_elim (λ e. inl e) (λ j. inr (rest j)) i

-- what stands at the place of an argument
argument_is : (xs : List ℕ) (v k : ℕ) → IsArgument v k (map variable xs) → In v xs × (get_or xs k 0 ≡ v)
argument_is [] v k h = absurd h
argument_is (x ∷ xs) v zero h = (inl (sym (ap number h)), ap number h)
  where
    number : Expression → ℕ
    number (variable y) = y
    number e = 0
argument_is (x ∷ xs) v (suc k) h = let r = argument_is xs v k h in (inr r.0, r.1)

type_there : (τ : ℕ → TypeTerm) (xs : List ℕ) (k : ℕ) (d : TypeTerm) → k < length xs → get_or (map τ xs) k d ≡ τ (get_or xs k 0)
type_there τ [] k d lt = absurd (omega (arith, lt))
type_there τ (x ∷ xs) zero d lt = refl
type_there τ (x ∷ xs) (suc k) d lt = type_there τ xs k d (omega (arith, lt))

-- the type at a variable's place among some, and what stands behind them where it is none
at_place : (τ : ℕ → TypeTerm) (xs : List ℕ) (more : List TypeTerm) (v : ℕ) (d : TypeTerm) → In v xs → get_or (map τ xs ++ more) (place_in v xs) d ≡ τ v
at_place τ [] more v d i = absurd i
at_place τ (x ∷ xs) more v d i = by_test (nat_eq v x) (eqb-true v x) (eqb-false v x) (at_place τ xs more v d)
  where
    by_test : (t : Bool) → (t ≡ true → v ≡ x) → (t ≡ false → v ≡ x → ⊥) → (In v xs → get_or (map τ xs ++ more) (place_in v xs) d ≡ τ v) → get_or (τ x ∷ (map τ xs ++ more)) (cond t 0 (suc (place_in v xs))) d ≡ τ v
    by_test true p q rest = ap τ (sym (p refl))
    by_test false p q rest = ⊎_elim (λ e. absurd (q refl e)) (λ j. rest j) i

past_place : (τ : ℕ → TypeTerm) (xs : List ℕ) (more : List TypeTerm) (v : ℕ) (d : TypeTerm) → (In v xs → ⊥) → get_or (map τ xs ++ more) (place_in v xs) d ≡ get_or more 0 d
past_place τ [] more v d out = refl
past_place τ (x ∷ xs) more v d out = by_test (nat_eq v x) (eqb-true v x) (past_place τ xs more v d (λ i. out (inr i)))
  where
    by_test : (t : Bool) → (t ≡ true → v ≡ x) → get_or (map τ xs ++ more) (place_in v xs) d ≡ get_or more 0 d → get_or (τ x ∷ (map τ xs ++ more)) (cond t 0 (suc (place_in v xs))) d ≡ get_or more 0 d
    by_test true p rest = absurd (out (inl (p refl)))
    by_test false p rest = rest

both_none : {A : Type 0} (o : Option A) → o ≡ None ⊎ ((a : A) × (o ≡ Some a))
both_none None = inl refl
both_none (Some a) = inr (a, refl)

-- A QUERY, typed as a clause without arguments
module _ (P : Source) (names : ℕ → List ℕ) (g : Formula) (c : TypedClause) (typed : GoalIsTyped P [] (record { clause = record { head = []; body = g }; variables = c.variables; types = c.types; names = c.names } ∷ [])) where
  abbrev asked : List ℕ
  asked = asked_of names (free_variables g)

  abbrev unasked : List ℕ
  unasked = unasked_of names (free_variables g)

  abbrev goal : ClauseForm
  goal = record { head = []; body = g }

  abbrev query : TypedClause
  query = as_query names g c

  abbrev body : Formula
  body = quantified unasked (scoped asked g)

  abbrev head : List Expression
  head = map variable asked

  abbrev before : List ℕ
  before = other_variables goal

  abbrev others : List ℕ
  others = other_variables query.clause

  abbrev τ : ℕ → TypeTerm
  τ = type_at c.types

  abbrev made : List TypeTerm
  made = drop c.variables c.types

  abbrev declared : List TypeTerm
  declared = map τ asked

  abbrev arity : ℕ
  arity = length declared

  -- the variables of the goal, and those of the query
  goal_is : before ≡ once (occurring g ++ named_by_quantifiers g)
  goal_is = none_left (once (occurring g ++ named_by_quantifiers g))

  free_there : (v : ℕ) → In v (free_variables g) → In v (occurring g)
  free_there v i = subst (In v) (occurs [] g) (free_occurs (scoped [] g) v (from_once v (free_of (scoped [] g)) i))

  occurring_before : (v : ℕ) → In v (occurring g) → In v before
  occurring_before v i = subst (In v) (sym goal_is) (in_once v (occurring g ++ named_by_quantifiers g) (in_left v (occurring g) (named_by_quantifiers g) i))

  asked_before : (v : ℕ) → In v asked → In v before
  asked_before v i = occurring_before v (free_there v (asked_among names (free_variables g) v i))

  same_names : without (named_by_quantifiers (scoped asked g)) (occurring g) ≡ without (named_by_quantifiers g) (occurring g)
  same_names = named_same asked g (occurring g) (λ x i. i)

  occurring_body : occurring body ≡ occurring g
  occurring_body = occurs_quantified unasked (scoped asked g) ∙ occurs asked g

  named_body : (vs : List ℕ) (h : Formula) (v : ℕ) → In v (named_by_quantifiers (quantified vs h)) → In v vs ⊎ In v (named_by_quantifiers h)
  named_body [] h v i = inr i
  named_body (u ∷ us) h v i = in_either v (u ∷ us) (named_by_quantifiers h) i

  body_named : (vs : List ℕ) (h : Formula) (v : ℕ) → In v (named_by_quantifiers h) → In v (named_by_quantifiers (quantified vs h))
  body_named [] h v i = i
  body_named (u ∷ us) h v i = in_right v (u ∷ us) (named_by_quantifiers h) i

  others_before : (v : ℕ) → In v others → In v before
  others_before v i =
      let all = variables_in_all (expressions head) ++ (occurring body ++ named_by_quantifiers body) in
      let j = from_once v all (others_among head v (once all) i) in
      ⊎_elim (λ a. asked_before v (subst (In v) (head_variables asked) a))
      (λ b. ⊎_elim (λ o. occurring_before v (subst (In v) occurring_body o)) (λ n. of_named n) (in_either v (occurring body) (named_by_quantifiers body) b))
      (in_either v (variables_in_all (expressions head)) (occurring body ++ named_by_quantifiers body) j)
    where
      by_scopes : In v (named_by_quantifiers (scoped asked g)) → In v before
      by_scopes n =
          ⊎_elim (λ o. occurring_before v o)
          (λ out.
          let m = from_without v (named_by_quantifiers g) (occurring g) (subst (In v) same_names (in_without v (named_by_quantifiers (scoped asked g)) (occurring g) n out)) in
          subst (In v) (sym goal_is) (in_once v (occurring g ++ named_by_quantifiers g) (in_right v (occurring g) (named_by_quantifiers g) m)))
          (told v (occurring g))

      of_named : In v (named_by_quantifiers body) → In v before
      of_named n =
          ⊎_elim (λ u. occurring_before v (free_there v (unasked_among names (free_variables g) v u))) (λ s. by_scopes s)
          (named_body unasked (scoped asked g) v n)

  before_others : (v : ℕ) → head_place v head ≡ None → In v before → In v others
  before_others v none i =
      let all = variables_in_all (expressions head) ++ (occurring body ++ named_by_quantifiers body) in
      let j = from_once v (occurring g ++ named_by_quantifiers g) (subst (In v) goal_is i) in
      is_other head v (once all) none (in_once v all (in_right v (variables_in_all (expressions head)) (occurring body ++ named_by_quantifiers body) (of_goal j)))
    where
      of_goal : In v (occurring g ++ named_by_quantifiers g) → In v (occurring body ++ named_by_quantifiers body)
      of_goal j =
          ⊎_elim (λ o. in_left v (occurring body) (named_by_quantifiers body) (subst (In v) (sym occurring_body) o))
          (λ out.
          ⊎_elim (λ o. absurd (out o))
          (λ n.
          let m = from_without v (named_by_quantifiers (scoped asked g)) (occurring g) (subst (In v) (sym same_names) (in_without v (named_by_quantifiers g) (occurring g) n out)) in
          in_right v (occurring body) (named_by_quantifiers body) (body_named unasked (scoped asked g) v m))
          (in_either v (occurring g) (named_by_quantifiers g) j))
          (told v (occurring g))

  -- THE TYPES; what has none is of any one type
  abbrev none : TypeTerm
  none = variable_type 0

  abbrev of_goal : ℕ → TypeTerm
  of_goal x = get_or (map τ before ++ made) x none

  abbrev of_query : ℕ → TypeTerm
  of_query x = get_or (declared ++ (map τ others ++ made)) x none

  goal_types : normal_types [] (record { clause = goal; variables = c.variables; types = c.types; names = c.names } ∷ []) ≡ map τ before ++ made
  goal_types = append-nil (map τ before ++ made)

  query_types : normal_types declared (query ∷ []) ≡ declared ++ (map τ others ++ made)
  query_types = ap (λ ts. declared ++ ts) (append-nil (map τ others ++ made))

  of_argument : (v k : ℕ) → head_place v head ≡ Some k → (k < arity) × (of_query k ≡ τ v) × In v asked
  of_argument v k at =
      let it = is_argument v head k at in
      let less : k < length asked = omega (arith, argument_below v k head it, length-map asked variable) in
      let within : k < arity = omega (arith, less, length-map asked τ) in
      let stands = argument_is asked v k it in
      (within, at_first declared (map τ others ++ made) k none within ∙ type_there τ asked k none less ∙ ap τ stands.1, stands.0)

  behind_arguments : (i : ℕ) → of_query (arity + i) ≡ get_or (map τ others ++ made) i none
  behind_arguments i = at_second declared (map τ others ++ made) i none

  abbrev old : ℕ → ℕ
  old = names_in 0 goal

  abbrev new : ℕ → ℕ
  new = names_in arity query.clause

  old_is : (v : ℕ) → old v ≡ place_in v before
  old_is v = omega arith

  same : (v : ℕ) → of_goal (old v) ≡ of_query (new v)
  same v = ⊎_elim (λ lacks. of_other lacks) (λ p. of_head p.0 p.1) (both_none (head_place v head))
    where
      of_head : (k : ℕ) → head_place v head ≡ Some k → of_goal (old v) ≡ of_query (new v)
      of_head k at =
          let w = of_argument v k at in
          ap of_goal (old_is v) ∙ at_place τ before made v none (asked_before v w.2) ∙ sym w.1 ∙ sym (ap (λ o. of_query (place_or (arity + place_in v others) o)) at)

      of_other : head_place v head ≡ None → of_goal (old v) ≡ of_query (new v)
      of_other lacks =
          let there : of_query (new v) ≡ get_or (map τ others ++ made) (place_in v others) none =
          ap (λ o. of_query (place_or (arity + place_in v others) o)) lacks ∙ behind_arguments (place_in v others) in
          ap of_goal (old_is v)
          ∙ ⊎_elim (λ i. at_place τ before made v none i ∙ sym (at_place τ others made v none (before_others v lacks i)))
          (λ out. past_place τ before made v none out ∙ sym (past_place τ others made v none (λ i. out (others_before v i))))
          (told v before)
          ∙ sym there

  alike : Alike P of_goal of_query old new same (0 + length before) (arity + length others)
  alike i =
      let first : 0 + length before + i ≡ length (map τ before) + i = omega (arith, length-map before τ) in
      let second : arity + length others + i ≡ arity + (length (map τ others) + i) = omega (arith, length-map others τ) in
      ap of_goal first ∙ at_second (map τ before) made i none
      ∙ sym (ap of_query second ∙ behind_arguments (length (map τ others) + i) ∙ at_second (map τ others) made i none)

  -- the head has no equation that isn't typed
  heads_typed :
      (es : List ℕ) (i m : ℕ) → ((j : ℕ) → j < length es → of_query (i + j) ≡ τ (get_or es j 0)) → ((v : ℕ) → In v es → of_query (new v) ≡ τ v)
      → AllTyped P of_query (head_equations new head m i (map variable es)).goals × ((head_equations new head m i (map variable es)).next ≡ m)
  heads_typed [] i m at known = (tt, refl)
  heads_typed (v ∷ es) i m at known =
      let zero_less : 0 < length (v ∷ es) = omega arith in
      let start : i + 0 ≡ i = omega arith in
      let here : of_query i ≡ of_query (new v) = ap of_query (sym start) ∙ at 0 zero_less ∙ sym (known v (inl refl)) in
      let first = by_test (is_place i (head_place v head)) here in
      let rest = heads_typed es (suc i) m (λ j less. let next : suc i + j ≡ i + suc j = omega arith in let within : suc j < length (v ∷ es) = omega (arith, less) in ap of_query next ∙ at (suc j) within) (λ w j. known w (inr j)) in
      let r = head_equation new head m i (variable v) in
      let behind = subst (λ k. AllTyped P of_query (head_equations new head k (suc i) (map variable es)).goals × ((head_equations new head k (suc i) (map variable es)).next ≡ m)) (sym first.1) rest in
      (join P of_query r.goals (head_equations new head r.next (suc i) (map variable es)).goals first.0 behind.0, behind.1)
    where
      by_test : (t : Bool) → of_query i ≡ of_query (new v) → AllTyped P of_query (cond {A = Conjuncts} t (record { goals = []; made_variables = []; next = m }) (record { goals = Same i (new v) ∷ []; made_variables = []; next = m })).goals × ((cond {A = Conjuncts} t (record { goals = []; made_variables = []; next = m }) (record { goals = Same i (new v) ∷ []; made_variables = []; next = m })).next ≡ m)
      by_test true e = (tt, refl)
      by_test false e = ((e, tt), refl)

  argument_types : (v : ℕ) → In v asked → of_query (new v) ≡ τ v
  argument_types v i = sym (same v) ∙ ap of_goal (old_is v) ∙ at_place τ before made v none (asked_before v i)

  whole : GoalIsTyped P declared (query ∷ [])
  whole =
      let start = arity + length others in
      let r0 = conjuncts_of old (0 + length before) g in
      let r1 = conjuncts_of new start g in
      let b = conjuncts_of new start body in
      let many : length (map τ before ++ made) ≡ r0.next = ap length (sym goal_types) ∙ typed.as_many in
      let below = (normal_goals_below 0 (goal ∷ []) (refl, tt)).1 in
      let own = normal_types [] (record { clause = goal; variables = c.variables; types = c.types; names = c.names } ∷ []) in
      let first : TypedGoal P of_goal (conjunction r0.goals) =
      agreed P (type_at own) of_goal (conjunction r0.goals)
      (λ x i.
      let less : x < length own = subst (λ k. x < k) (sym typed.as_many) (below x i) in
      at_default own x (variable_type x) none less ∙ ap (λ ts. get_or ts x none) goal_types)
      typed.typed in
      let moved = goal_alike P of_goal of_query old new same g (0 + length before) start alike in
      let w = scoped_same P of_query new asked g start in
      let q = quantified_same P of_query new unasked (scoped asked g) start in
      let all : AllTyped P of_query b.goals = q.from (w.from (moved.typed (from_conjunction P of_goal r0.goals first))) in
      let heads = heads_typed asked 0 start (λ j less. let within : j < arity = omega (arith, less, length-map asked τ) in let start : 0 + j ≡ j = omega arith in ap of_query start ∙ at_first declared (map τ others ++ made) j none within ∙ type_there τ asked j none less) argument_types in
      let r = head_equations new head start 0 head in
      let behind : AllTyped P of_query (conjuncts_of new r.next body).goals = subst (λ k. AllTyped P of_query (conjuncts_of new k body).goals) (sym heads.1) all in
      let goals = r.goals ++ (conjuncts_of new r.next body).goals in
      let whole_goal : TypedGoal P of_query (conjunction goals) = to_conjunction P of_query goals (join P of_query r.goals (conjuncts_of new r.next body).goals heads.0 behind) in
      let next : (normal_goal arity (query.clause ∷ [])).variables ≡ b.next = ap (λ k. (conjuncts_of new k body).next) heads.1 in
      let ends : b.next ≡ r1.next = q.next ∙ w.next in
      let long : length (declared ++ (map τ others ++ made)) ≡ arity + (length others + length made) =
      omega (arith, length-append declared (map τ others ++ made), length-append (map τ others) made, length-map others τ) in
      let short : length (map τ before ++ made) ≡ length before + length made = omega (arith, length-append (map τ before) made, length-map before τ) in
      let count : length (declared ++ (map τ others ++ made)) ≡ (normal_goal arity (query.clause ∷ [])).variables =
      omega (arith, long, short, many, next, ends, moved.next.first, moved.next.second) in
      let types = normal_types declared (query ∷ []) in
      let body_below = (normal_goals_below arity (query.clause ∷ []) (ap length (refl) ∙ length-map asked variable ∙ sym (length-map asked τ), tt)).1 in
      record {
        as_many = ap length query_types ∙ count;
        typed =
            agreed P of_query (type_at types) (conjunction goals)
            (λ x i.
            let less : x < length types = subst (λ k. x < k) (sym (ap length query_types ∙ count)) (body_below x i) in
            ap (λ ts. get_or ts x none) (sym query_types) ∙ sym (at_default types x (variable_type x) none less))
            whole_goal;
      }

pub queries_are_typed : QueriesAreTyped
queries_are_typed P D names g types q =
    let c = q.goal in
    let general = q.general in
    let as_goal : TypedClause = record { clause = record { head = []; body = g }; variables = c.variables; types = c.types; names = c.names } in
    let typed : GoalIsTyped P [] (as_goal ∷ []) =
    subst (λ (f : ClauseForm). GoalIsTyped P [] (record { clause = f; variables = c.variables; types = c.types; names = c.names } ∷ [])) q.is
    (record { as_many = general.as_many; typed = general.typed }) in
    let asked = asked_of names (free_variables g) in
    let count : length (map variable asked) ≡ length (map (type_at c.types) asked) = length-map asked variable ∙ sym (length-map asked (type_at c.types)) in
    let made = whole P names g c typed in
    subst (λ ts. HeadsHave (length ts) ((as_query names g c).clause ∷ []) × GoalIsTyped P ts (as_query names g c ∷ [])) (sym q.taken) ((count, tt), made)

-- The most general types of a clause's variables and occurrences are those of its normal goal.
use Rattle.std.proofs.Common.{◌≡◌, inl, inr, ℕ, zero, suc, ◌+◌, ◌<◌, ◌≤◌, List, [], ◌∷◌, ◌++◌, map, drop, length, get_or, Bool, true, false, cond, refl, sym, ap, ap₂, ◌∙◌, subst, arith, append-nil}
use Rattle.std.specs.Prelude.{nat_lt}
use Rattle.std.proofs.lemmas.Bool.{cases_lt, lt-ltb, le-ltb}
use Rattle.std.proofs.lemmas.List.{length-map, map-append}
use Rattle.mc_program.specs.Programs.{TypeTerm, int_type, char_type, string_type, state_type, variable_type, union_type, TypeTerms, no_types, type_then, Source, Expression, expressions, ClauseForm}
use Rattle.mc_model.specs.Lists.{In}
use Rattle.mc_model.specs.Types.{instances_of}
use Rattle.mc_accepted.specs.Scope.{variables_in, variables_in_all, occurring}
use Rattle.mc_accepted.specs.ProperTypes.{Parameters, ProperType}
use Rattle.mc_accepted.specs.Typing.{TypedGoal}
use Rattle.mc_accepted.specs.Normal.{names_in, normal_goal, other_variables, named_by_quantifiers}
use Rattle.mc_accepted.specs.NormalTypes.{TypedClause, normal_types}
use Rattle.mc_accepted.specs.MostGeneral.{variables_of, variables_of_all, variables_of_each, bound_of, rigid_count, generalised, type_at, MostGeneral}
use Rattle.mc_accepted.specs.Resolving.{Unresolved_clause, resolved, steps_of}
use Rattle.mc_source.specs.declared.name.Candidate.{Candidate}
use Rattle.laws_made_types.specs.Makes.{makes, kept}
use Rattle.laws_made_types.specs.Traced.{Traces, HasTypes}
use Rattle.laws_made_types.specs.Known.{AllKnown, ClauseHasValues, ClauseHasNames}
use Rattle.laws_made_types.specs.MadeTypes.{first_made, AreVariableTypes, TypedWith, TypesAreGeneral}
use Rattle.laws_made_types.proofs.ClauseVariables.{in_left, IsArgument, is_argument, placed_other}
use Rattle.laws_made_types.proofs.FlatTypings.{has_both}
use Rattle.laws_made_types.proofs.PickedWalks.{walks_are_picked}
use Rattle.laws_made_types.proofs.Tracing.{goes_through}
use Rattle.laws_made_types.proofs.TracedClauses.{traces_are_typed}
use Rattle.laws_made_types.proofs.TypedClauses.{listed_has, typed_are_traced}
use Rattle.laws_made_types.proofs.NamedVariables.{clause_less}
use Rattle.laws_made_types.proofs.OthersOnce.{other_is_variable, distinct_others, at_in, place_at}

-- TYPES THAT ARE THEIR OWN INSTANCES

abbrev taken : (r : ℕ) → (ℕ → TypeTerm) → ℕ → TypeTerm
taken r σ v = cond (nat_lt v r) (variable_type v) (σ v)

same_taken : (r v : ℕ) → taken r variable_type v ≡ variable_type v
same_taken r v = by_test (nat_lt v r)
  where
    by_test : (t : Bool) → cond t (variable_type v) (variable_type v) ≡ variable_type v
    by_test true = refl
    by_test false = refl

mutual
  pub itself : (r : ℕ) (t : TypeTerm) → generalised r variable_type t ≡ t
  itself r int_type = refl
  itself r char_type = refl
  itself r string_type = refl
  itself r state_type = refl
  itself r (variable_type v) = same_taken r v
  itself r (union_type u ts) = ap (union_type u) (all_itself r ts)

  all_itself : (r : ℕ) (ts : TypeTerms) → instances_of (taken r variable_type) ts ≡ ts
  all_itself r no_types = refl
  all_itself r (type_then t ts) = ap₂ (λ x xs. type_then x xs) (itself r t) (all_itself r ts)

each_itself : (r : ℕ) (ts : List TypeTerm) → map (generalised r variable_type) ts ≡ ts
each_itself r [] = refl
each_itself r (t ∷ ts) = ap₂ (λ x xs. x ∷ xs) (itself r t) (each_itself r ts)

-- all numbers of a list are below another
abbrev AllUnder : ℕ → List ℕ → Type 0
AllUnder n [] = Unit {0}
AllUnder n (v ∷ vs) = (v < n) × AllUnder n vs

under_more : (n m : ℕ) (vs : List ℕ) → n ≤ m → AllUnder n vs → AllUnder m vs
under_more n m [] le h = tt
under_more n m (v ∷ vs) le h = (omega (arith, h.0, le), under_more n m vs le h.1)

under_first : (n : ℕ) (xs ys : List ℕ) → AllUnder n (xs ++ ys) → AllUnder n xs
under_first n [] ys h = tt
under_first n (x ∷ xs) ys h = (h.0, under_first n xs ys h.1)

under_second : (n : ℕ) (xs ys : List ℕ) → AllUnder n (xs ++ ys) → AllUnder n ys
under_second n [] ys h = h
under_second n (x ∷ xs) ys h = under_second n xs ys h.1

bound_step : (v : ℕ) (vs : List ℕ) → (v < bound_of (v ∷ vs)) × (bound_of vs ≤ bound_of (v ∷ vs))
bound_step v vs = elim (cases_lt v (bound_of vs)) [
  | inl lt ↦
      let e : bound_of (v ∷ vs) ≡ bound_of vs = ap (λ b. cond b (bound_of vs) (suc v)) (lt-ltb v (bound_of vs) lt) in
      (omega (arith, e, lt), omega (arith, e))
  | inr ge ↦
      let e : bound_of (v ∷ vs) ≡ suc v = ap (λ b. cond b (bound_of vs) (suc v)) (le-ltb v (bound_of vs) ge) in
      (omega (arith, e), omega (arith, e, ge))
]

bounded : (vs : List ℕ) → AllUnder (bound_of vs) vs
bounded [] = tt
bounded (v ∷ vs) = let b = bound_step v vs in (b.0, under_more (bound_of vs) (bound_of (v ∷ vs)) vs b.1 (bounded vs))

mutual
  rigid_same : (r : ℕ) (σ : ℕ → TypeTerm) (t : TypeTerm) → AllUnder r (variables_of t) → generalised r σ t ≡ t
  rigid_same r σ int_type h = refl
  rigid_same r σ char_type h = refl
  rigid_same r σ string_type h = refl
  rigid_same r σ state_type h = refl
  rigid_same r σ (variable_type v) h = ap (λ b. cond b (variable_type v) (σ v)) (lt-ltb v r h.0)
  rigid_same r σ (union_type u ts) h = ap (union_type u) (all_rigid_same r σ ts h)

  all_rigid_same : (r : ℕ) (σ : ℕ → TypeTerm) (ts : TypeTerms) → AllUnder r (variables_of_all ts) → instances_of (taken r σ) ts ≡ ts
  all_rigid_same r σ no_types h = refl
  all_rigid_same r σ (type_then t ts) h =
      ap₂ (λ x xs. type_then x xs) (rigid_same r σ t (under_first r (variables_of t) (variables_of_all ts) h)) (all_rigid_same r σ ts (under_second r (variables_of t) (variables_of_all ts) h))

each_rigid_same : (r : ℕ) (σ : ℕ → TypeTerm) (ts : List TypeTerm) → AllUnder r (variables_of_each ts) → map (generalised r σ) ts ≡ ts
each_rigid_same r σ [] h = refl
each_rigid_same r σ (t ∷ ts) h =
    ap₂ (λ x xs. x ∷ xs) (rigid_same r σ t (under_first r (variables_of t) (variables_of_each ts) h)) (each_rigid_same r σ ts (under_second r (variables_of t) (variables_of_each ts) h))

-- the declared types are rigid
pub declared_same : (σ : ℕ → TypeTerm) (ts : List TypeTerm) → map (generalised (rigid_count ts) σ) ts ≡ ts
declared_same σ ts = each_rigid_same (rigid_count ts) σ ts (bounded (variables_of_each ts))

-- LISTS OF TYPES

map_same : (f g : ℕ → TypeTerm) (xs : List ℕ) → ((x : ℕ) → In x xs → f x ≡ g x) → map f xs ≡ map g xs
map_same f g [] h = refl
map_same f g (x ∷ xs) h = ap₂ (λ y ys. y ∷ ys) (h x (inl refl)) (map_same f g xs (λ z i. h z (inr i)))

map_both : (f : ℕ → TypeTerm) (g : TypeTerm → TypeTerm) (xs : List ℕ) → map g (map f xs) ≡ map (λ x. g (f x)) xs
map_both f g [] = refl
map_both f g (x ∷ xs) = ap (λ ys. g (f x) ∷ ys) (map_both f g xs)

at_mapped : (f : ℕ → TypeTerm) (xs : List ℕ) (i d : ℕ) (t : TypeTerm) → i < length xs → get_or (map f xs) i t ≡ f (get_or xs i d)
at_mapped f [] i d t lt = absurd (omega (arith, lt))
at_mapped f (x ∷ xs) zero d t lt = refl
at_mapped f (x ∷ xs) (suc i) d t lt = at_mapped f xs i d t (omega (arith, lt))

-- types of variables, at each
has_each : (T : ℕ → TypeTerm) (g : TypeTerm → TypeTerm) (n : ℕ) (ts : List TypeTerm) → HasTypes T n (map g ts) → (v : ℕ) (d : TypeTerm) → v < length ts → T (n + v) ≡ g (get_or ts v d)
has_each T g n [] h v d lt = absurd (omega (arith, lt))
has_each T g n (t ∷ ts) h zero d lt = ap T (omega arith) ∙ h.0
has_each T g n (t ∷ ts) h (suc v) d lt = let e : n + suc v ≡ suc n + v = omega arith in ap T e ∙ has_each T g (suc n) ts h.1 v d (omega (arith, lt))

-- an argument is a variable of the head
argument_in : (x k : ℕ) (ts : List Expression) → IsArgument x k ts → In x (variables_in_all (expressions ts))
argument_in x k [] h = absurd h
argument_in x zero (t ∷ ts) h = in_left x (variables_in t) (variables_in_all (expressions ts)) (subst (λ e. In x (variables_in e)) (sym h) (inl refl))
argument_in x (suc k) (t ∷ ts) h = in_behind x (variables_in t) (variables_in_all (expressions ts)) (argument_in x k ts h)
  where
    in_behind : (y : ℕ) (xs ys : List ℕ) → In y ys → In y (xs ++ ys)
    in_behind y [] ys i = i
    in_behind y (z ∷ xs) ys i = inr (in_behind y xs ys i)

module _ (P : Source) (D : Parameters) (clause : Unresolved_clause) (picks : List Candidate) (vars : ℕ) (types : List TypeTerm) (names : List (List ℕ)) (known : AllKnown P D picks) (values : ClauseHasValues P clause) (named : ClauseHasNames vars clause) (are : AreVariableTypes P D clause picks vars types) where
  abbrev declared : List TypeTerm
  declared = (P.preds clause.pred).types

  abbrev n : ℕ
  n = length declared

  abbrev r : ℕ
  r = rigid_count declared

  abbrev form : ClauseForm
  form = resolved clause picks

  abbrev typed_form : TypedClause
  typed_form = record { clause = form; variables = vars; types = types; names = names }

  abbrev others : List ℕ
  others = other_variables form

  -- the types of the goal's variables
  abbrev whole : List TypeTerm
  whole = declared ++ (map (type_at types) others ++ drop vars types)

  whole_is : normal_types declared (typed_form ∷ []) ≡ whole
  whole_is = ap (λ us. declared ++ us) (append-nil (map (type_at types) others ++ drop vars types))

  other_below : (x : ℕ) → In x others → x < vars
  other_below x i = clause_less vars clause picks named x (other_is_variable form x i)

  -- SOME TYPING
  own_typing : (τ : ℕ → TypeTerm) × TypedWith P clause picks τ (drop vars types) × ((v : ℕ) → v < vars → τ v ≡ type_at types v)
  own_typing =
      let t = are.typed variable_type in
      let τ = t.0 in
      let made : kept (makes clause) t.1 ≡ drop vars types = t.4 ∙ each_itself r (drop vars types) in
      (τ, subst (TypedWith P clause picks τ) made (traces_are_typed P D clause picks τ t.1 known values t.2), (λ v lt. t.3 v lt ∙ itself r (type_at types v)))

  own_types : map own_typing.0 others ≡ map (type_at types) others
  own_types = map_same own_typing.0 (type_at types) others (λ x i. own_typing.2 x (other_below x i))

  typing_is : declared ++ (map own_typing.0 others ++ drop vars types) ≡ normal_types declared (typed_form ∷ [])
  typing_is = ap (λ us. declared ++ (us ++ drop vars types)) own_types ∙ sym whole_is

  -- ANY TYPING
  module _ (T : ℕ → TypeTerm) (proper : (v : ℕ) → ProperType D (T v)) (heads : (k : ℕ) → k < n → T k ≡ type_at declared k) (typed : TypedGoal P T (normal_goal n (form ∷ [])).body) where
    abbrev of_variable : ℕ → TypeTerm
    of_variable v = T (names_in n form v)

    traced : (trace : List TypeTerm) × Traces P D of_variable (steps_of clause) [] picks trace × HasTypes T (first_made P clause picks) (kept (makes clause) trace)
    traced =
        let t = are.typed variable_type in
        let w = walks_are_picked P D clause picks t.0 (goes_through P D t.0 (steps_of clause) [] picks t.1 t.2) in
        typed_are_traced P D clause picks T known w.0 proper w.1 heads typed

    abbrev given : (σ : ℕ → TypeTerm) × ((v : ℕ) → v < vars → of_variable v ≡ generalised r σ (type_at types v)) × (kept (makes clause) traced.0 ≡ map (generalised r σ) (drop vars types))
    given = are.general of_variable traced.0 traced.1

    abbrev g : TypeTerm → TypeTerm
    g = generalised r given.0

    at_head : HasTypes T 0 (map g declared)
    at_head = subst (HasTypes T 0) (sym (declared_same given.0 declared)) (listed_has T 0 declared (λ k lt. ap T (let e : 0 + k ≡ k = omega arith in e) ∙ heads k lt))

    other_at : (i : ℕ) → i < length others → T (n + i) ≡ g (type_at types (get_or others i 0))
    other_at i lt =
        let x = get_or others i 0 in
        let inside = at_in others i 0 lt in
        let number : names_in n form x ≡ n + i = placed_other n form x inside ∙ ap (λ j. n + j) (place_at others i 0 (distinct_others form) lt) in
        ap T (sym number) ∙ given.1 x (other_below x inside)

    at_others : HasTypes T n (map g (map (type_at types) others))
    at_others =
        let f : ℕ → TypeTerm = λ x. g (type_at types x) in
        subst (HasTypes T n) (sym (map_both (type_at types) g others))
        (listed_has T n (map f others)
        (λ i lt.
        let low : i < length others = omega (arith, lt, length-map others f) in
        other_at i low ∙ sym (at_mapped f others i 0 (variable_type i) low)))

    at_made : HasTypes T (n + length others) (map g (drop vars types))
    at_made = subst (HasTypes T (n + length others)) given.2 traced.2

    at_all : HasTypes T 0 (map g whole)
    at_all =
        let own = map (type_at types) others in
        let made = drop vars types in
        let parts : map g whole ≡ map g declared ++ (map g own ++ map g made) = map-append g declared (own ++ made) ∙ ap (λ us. map g declared ++ us) (map-append g own made) in
        subst (HasTypes T 0) (sym parts)
        (has_both T 0 n (map g declared) (map g own ++ map g made) (omega (arith, length-map declared g)) at_head
        (has_both T n (n + length others) (map g own) (map g made) (omega (arith, length-map own g, length-map others (type_at types))) at_others at_made))

    any_typing : (σ : ℕ → TypeTerm) × ((v : ℕ) → v < length (normal_types declared (typed_form ∷ [])) → T v ≡ generalised r σ (type_at (normal_types declared (typed_form ∷ [])) v))
    any_typing = (
      given.0,
      (λ v lt.
          let Q : List TypeTerm → Type 0 = λ ts. v < length ts → T v ≡ g (type_at ts v) in
          subst Q (sym whole_is) (λ low. ap T (let e : v ≡ 0 + v = omega arith in e) ∙ has_each T g 0 whole at_all v (variable_type v) low) lt),
    )

  pub most_general : MostGeneral P D declared typed_form
  most_general =
      let t = own_typing.1 in
      record {
        own = are.own;
        as_many = ap length (sym typing_is) ∙ t.as_many;
        heads = λ v k e.
            let inside = in_left v (variables_in_all (expressions form.head)) (occurring form.body ++ named_by_quantifiers form.body) (argument_in v k form.head (is_argument v form.head k e)) in
            sym (own_typing.2 v (clause_less vars clause picks named v inside)) ∙ t.heads v k e;
        typed = subst (λ ts. TypedGoal P (type_at ts) (normal_goal n (form ∷ [])).body) typing_is t.typed;
        general = any_typing;
        numbered = are.numbered;
      }

pub types_are_general : TypesAreGeneral
types_are_general P D clause picks vars types names known values named are = most_general P D clause picks vars types names known values named are

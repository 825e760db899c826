-- What stands at the numbers of a whole program's predicates.
use Rattle.std.proofs.Common.{◌≡◌, ◌⊎◌, inl, inr, ℕ, zero, suc, ◌+◌, ◌<◌, ◌≤◌, List, [], ◌∷◌, ◌++◌, map, length, get_or, refl, sym, ap, ◌∙◌, arith, ⊎_elim}
use Rattle.std.specs.Prelude.{Option, Some, None}
use Rattle.std.proofs.lemmas.Bool.{cases_lt}
use Rattle.std.proofs.lemmas.List.{length-map}
use Rattle.mc_program.specs.Programs.{ClauseForm, Predicate}
use Rattle.mc_program.specs.PlainPrograms.{no_pred}
use Rattle.mc_accepted.specs.NormalTypes.{TypedClause}
use Rattle.mc_names.specs.Linked.{Defined, Linked}
use Rattle.mc_type_table.specs.Rules.{definitions}
use Rattle.mc_declarations.specs.Declarations.{predicate_of}
use Rattle.laws_types.specs.GoalTypes.{forms_of}
use Rattle.mc_core_program.specs.Whole.{each_with_clauses}
use Rattle.mc_core_program.specs.Wholes.{behind, query_predicate, query_clauses, clauses_of, clauses_from, bare_predicates, all_clauses, all_predicates}
use Rattle.laws_types.specs.WholeTypes.{asked_predicate}

-- LISTS
pub front : {A : Type 0} (xs ys : List A) (k : ℕ) (d : A) → k < length xs → get_or (xs ++ ys) k d ≡ get_or xs k d
front [] ys k d less = absurd (omega arith)
front (x ∷ xs) ys zero d less = refl
front (x ∷ xs) ys (suc k) d less = let fewer : k < length xs = omega arith in front xs ys k d fewer

pub back : {A : Type 0} (xs ys : List A) (i : ℕ) (d : A) → get_or (xs ++ ys) (length xs + i) d ≡ get_or ys i d
back [] ys i d = let e : 0 + i ≡ i = omega arith in ap (λ k. get_or ys k d) e
back (x ∷ xs) ys i d =
    let e : suc (length xs) + i ≡ suc (length xs + i) = omega arith in
    ap (λ k. get_or (x ∷ (xs ++ ys)) k d) e ∙ back xs ys i d

pub joined : {A : Type 0} (xs ys : List A) → length (xs ++ ys) ≡ length xs + length ys
joined [] ys = let e : length ys ≡ 0 + length ys = omega arith in e
joined (x ∷ xs) ys = let rest = joined xs ys in omega (arith, rest)

pub past : {A : Type 0} (xs : List A) (k : ℕ) (d : A) → length xs ≤ k → get_or xs k d ≡ d
past [] k d far = refl
past (x ∷ xs) zero d far = absurd (omega arith)
past (x ∷ xs) (suc k) d far = let less : length xs ≤ k = omega arith in past xs k d less

mapped_at : {A B : Type 0} (f : A → B) (xs : List A) (k : ℕ) (d : A) (e : B) → f d ≡ e → get_or (map f xs) k e ≡ f (get_or xs k d)
mapped_at f [] k d e same = sym same
mapped_at f (x ∷ xs) zero d e same = refl
mapped_at f (x ∷ xs) (suc k) d e same = mapped_at f xs k d e same

-- PREDICATES WITH THEIR CLAUSES
types_stay : (ps : List Predicate) (css : List (List ClauseForm)) (k : ℕ) → (get_or (each_with_clauses ps css) k no_pred).types ≡ (get_or ps k no_pred).types
types_stay [] css k = refl
types_stay (p ∷ ps) [] zero = refl
types_stay (p ∷ ps) [] (suc k) = types_stay ps [] k
types_stay (p ∷ ps) (cs ∷ css) zero = refl
types_stay (p ∷ ps) (cs ∷ css) (suc k) = types_stay ps css k

clauses_at : (ps : List Predicate) (css : List (List ClauseForm)) (k : ℕ) → k < length ps → (get_or (each_with_clauses ps css) k no_pred).clauses ≡ get_or css k []
clauses_at [] css k less = absurd (omega arith)
clauses_at (p ∷ ps) [] zero less = refl
clauses_at (p ∷ ps) [] (suc k) less = let fewer : k < length ps = omega arith in clauses_at ps [] k fewer
clauses_at (p ∷ ps) (cs ∷ css) zero less = refl
clauses_at (p ∷ ps) (cs ∷ css) (suc k) less = let fewer : k < length ps = omega arith in clauses_at ps css k fewer

each_stays : (ps : List Predicate) (css : List (List ClauseForm)) → length (each_with_clauses ps css) ≡ length ps
each_stays [] css = refl
each_stays (p ∷ ps) [] = ap suc (each_stays ps [])
each_stays (p ∷ ps) (cs ∷ css) = ap suc (each_stays ps css)

module _ (l : Linked) (clauses : List (ℕ × TypedClause)) (query : Option TypedClause) where
  abbrev own_preds : List Predicate
  own_preds = map (predicate_of l (definitions l)) l.preds

  own_count : length own_preds ≡ length l.preds
  own_count = length-map l.preds (predicate_of l (definitions l))

  pub whole_count : length (all_predicates l clauses query) ≡ length (bare_predicates l query)
  whole_count = each_stays (bare_predicates l query) (map (map (λ (c : TypedClause). c.clause)) (all_clauses l clauses query))

  pub whole_types : (k : ℕ) → (get_or (all_predicates l clauses query) k no_pred).types ≡ (get_or (bare_predicates l query) k no_pred).types
  whole_types k = types_stay (bare_predicates l query) (map (map (λ (c : TypedClause). c.clause)) (all_clauses l clauses query)) k

  pub whole_clauses : (k : ℕ) → k < length (bare_predicates l query) → (get_or (all_predicates l clauses query) k no_pred).clauses ≡ forms_of (get_or (all_clauses l clauses query) k [])
  whole_clauses k less =
      clauses_at (bare_predicates l query) (map (map (λ (c : TypedClause). c.clause)) (all_clauses l clauses query)) k less
      ∙ mapped_at (map (λ (c : TypedClause). c.clause)) (all_clauses l clauses query) k [] [] refl

  -- a predicate that is declared
  pub own_at : (k : ℕ) → k < length l.preds → get_or (bare_predicates l query) k no_pred ≡ get_or own_preds k no_pred
  own_at k less =
      let within : k < length own_preds = omega (arith, less, own_count) in
      front own_preds (behind (query_predicate l) query) k no_pred within

  -- the query's
  asked_at : (q : Option TypedClause) → get_or (behind (query_predicate l) q) 0 no_pred ≡ asked_predicate l q
  asked_at None = refl
  asked_at (Some c) = refl

  pub query_at : (k : ℕ) → k ≡ length l.preds → get_or (bare_predicates l query) k no_pred ≡ asked_predicate l query
  query_at k is =
      let place : k ≡ length own_preds + 0 = omega (arith, is, own_count) in
      ap (λ i. get_or (bare_predicates l query) i no_pred) place
      ∙ back own_preds (behind (query_predicate l) query) 0 no_pred
      ∙ asked_at query

  few : (q : Option TypedClause) → length (behind (query_predicate l) q) ≤ 1
  few None = omega arith
  few (Some c) = omega arith

  -- none behind it
  pub past_all : (k : ℕ) → length l.preds < k → (get_or (bare_predicates l query) k no_pred ≡ no_pred) × (get_or own_preds k no_pred ≡ no_pred)
  past_all k more =
      let far : length own_preds ≤ k = omega (arith, more, own_count) in
      let beyond : length (own_preds ++ behind (query_predicate l) query) ≤ k = omega (arith, more, own_count, few query, joined own_preds (behind (query_predicate l) query)) in
      (past (own_preds ++ behind (query_predicate l) query) k no_pred beyond, past own_preds k no_pred far)

  -- THE CLAUSES of each
  from_count : (n : ℕ) (ds : List Defined) → length (clauses_from l clauses n ds) ≡ length ds
  from_count n [] = refl
  from_count n (d ∷ ds) = ap suc (from_count (suc n) ds)

  from_at : (n k : ℕ) (ds : List Defined) → k < length ds → get_or (clauses_from l clauses n ds) k [] ≡ clauses_of l clauses (n + k)
  from_at n k [] less = absurd (omega arith)
  from_at n zero (d ∷ ds) less = let e : n ≡ n + 0 = omega arith in ap (clauses_of l clauses) e
  from_at n (suc k) (d ∷ ds) less =
      let fewer : k < length ds = omega arith in
      let e : suc n + k ≡ n + suc k = omega arith in
      from_at (suc n) k ds fewer ∙ ap (clauses_of l clauses) e

  pub own_clauses : (k : ℕ) → k < length l.preds → get_or (all_clauses l clauses query) k [] ≡ clauses_of l clauses k
  own_clauses k less =
      let within : k < length (clauses_from l clauses 0 l.preds) = omega (arith, less, from_count 0 l.preds) in
      let start : 0 + k ≡ k = omega arith in
      front (clauses_from l clauses 0 l.preds) (behind (query_clauses l) query) k [] within ∙ from_at 0 k l.preds less ∙ ap (clauses_of l clauses) start

  pub asked_clauses : (k : ℕ) → k ≡ length l.preds → get_or (all_clauses l clauses query) k [] ≡ get_or (behind (query_clauses l) query) 0 []
  asked_clauses k is =
      let place : k ≡ length (clauses_from l clauses 0 l.preds) + 0 = omega (arith, is, from_count 0 l.preds) in
      ap (λ i. get_or (all_clauses l clauses query) i []) place
      ∙ back (clauses_from l clauses 0 l.preds) (behind (query_clauses l) query) 0 []

  -- there are no more
  pub within_all : (k : ℕ) → k < length (bare_predicates l query) → (k < length l.preds) ⊎ ((k ≡ length l.preds) × ((c : TypedClause) × (query ≡ Some c)))
  within_all k less = ⊎_elim (λ own. inl own) (λ far. inr (of_query far)) (cases_lt k (length l.preds))
    where
      by_query : (q : Option TypedClause) → k < length (own_preds ++ behind (query_predicate l) q) → length l.preds ≤ k → (k ≡ length l.preds) × ((c : TypedClause) × (q ≡ Some c))
      by_query None lt far = absurd (omega (arith, lt, far, own_count, joined own_preds (behind (query_predicate l) None)))
      by_query (Some c) lt far =
          let here : k ≡ length l.preds = omega (arith, lt, far, own_count, joined own_preds (behind (query_predicate l) (Some c))) in
          (here, (c, refl))

      of_query : length l.preds ≤ k → (k ≡ length l.preds) × ((c : TypedClause) × (query ≡ Some c))
      of_query far = by_query query less far

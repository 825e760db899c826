-- The types of the program that runs fit, and its procedures fit as far as types go.
use Rattle.std.proofs.Common.{◌≡◌, ℕ, zero, suc, ◌<◌, ◌≤◌, Bool, true, false, nat_eq, cond, List, [], ◌∷◌, ◌++◌, map, length, get_or, refl, sym, ap, ap₂, ◌∙◌, subst, arith, ⊎_elim}
use Rattle.std.specs.Prelude.{Option, Some, None}
use Rattle.std.proofs.lemmas.Bool.{cases_lt, eqb-true, eqb-false}
use Rattle.std.proofs.lemmas.List.{length-map}
use Rattle.mc_program.specs.Programs.{TypeTerm, variable_type, Predicate, Source}
use Rattle.mc_program.specs.PlainPrograms.{plain_pred, plain_program}
use Rattle.mc_model.specs.Lists.{from}
use Rattle.mc_model.specs.Scheduled.{Procedure}
use Rattle.mc_model.specs.Good.{System}
use Rattle.mc_accepted.specs.ProperTypes.{Parameters, ProperType, EachProper}
use Rattle.mc_accepted.specs.NormalTypes.{TypedClause, normal_types}
use Rattle.mc_accepted.specs.MostGeneral.{type_at, QueryTypes}
use Rattle.mc_accepted.specs.Fits.{HeadsHave, FitsTypes}
use Rattle.mc_names.specs.Linked.{Linked}
use Rattle.mc_type_table.specs.Rules.{type_faults}
use Rattle.mc_declarations.specs.Declarations.{parameter_counts}
use Rattle.mc_declarations.specs.Proper.{AreWellWritten, declared_for}
use Rattle.mc_declarations.proofs.Fitting.{all_declarations_fit}
use Rattle.laws_types.specs.GoalTypes.{forms_of, with_scopes, GoalIsTyped, EachIsTyped}
use Rattle.laws_types.specs.QueryGoals.{as_query}
use Rattle.laws_types.specs.ProcedureTypes.{TypesAreProper, TypesFit}
use Rattle.laws_types.proofs.ManyClauses.{general_is_typed, typed_goals_join}
use Rattle.laws_types.proofs.ScopedTypes.{scopes_keep_types}
use Rattle.laws_types.proofs.Queries.{queries_are_typed}
use Rattle.laws_types.proofs.Procedures.{typed_goals_fit}
use Rattle.mc_core_program.specs.Whole.{of_number, name_in, whole_clause}
use Rattle.mc_core_program.specs.Wholes.{asked, behind, final_definitions, query_clauses, clauses_of, bare_predicates, all_clauses, whole_source}
use Rattle.laws_types.specs.SeenTypes.{final, declared, AreSeenAs}
use Rattle.laws_types.specs.WholeTypes.{asked_predicate, seen_preds, seen_program, IsTypedIn, EachIsTypedIn, QueryIsTyped, IsOfGoal, WholeTypesFit}
use Rattle.laws_types.proofs.SeenTypes.{seen_types_are_final, final_twice, final_proper}
use Rattle.laws_types.proofs.Lifted.{asked_final, lifted}
use Rattle.laws_types.proofs.Places.{whole_count, whole_types, whole_clauses, own_at, query_at, past_all, own_clauses, asked_clauses, within_all}

-- what is asked of a predicate's clauses
abbrev Fit : Source → Parameters → List TypeTerm → List TypedClause → Type 0
Fit W D ts cs = HeadsHave (length ts) (forms_of cs) × EachIsTyped W ts cs × TypesAreProper D cs

proper_at : (D : Parameters) (ts : List TypeTerm) (k v : ℕ) → EachProper D ts → ProperType D (get_or ts k (variable_type v))
proper_at D [] k v p = tt
proper_at D (t ∷ ts) zero v p = p.0
proper_at D (t ∷ ts) (suc k) v p = proper_at D ts k v p.1

proper_each : (D : Parameters) (ts : List TypeTerm) (vs : List ℕ) → EachProper D ts → EachProper D (map (type_at ts) vs)
proper_each D ts [] p = tt
proper_each D ts (v ∷ vs) p = (proper_at D ts v v p, proper_each D ts vs p)

module _
    (l : Linked) (clauses : List (ℕ × TypedClause)) (query : Option TypedClause)
    (well : AreWellWritten l) (none : type_faults l ≡ []) (query_typed : QueryIsTyped l query query) where
  abbrev D : Parameters
  D = parameter_counts l

  abbrev W : Source
  W = whole_source l clauses query

  abbrev count : ℕ
  count = length l.preds

  abbrev f : TypeTerm → TypeTerm
  f t = final l t

  each_twice : (ts : List TypeTerm) → map f (map f ts) ≡ map f ts
  each_twice [] = refl
  each_twice (t ∷ ts) = ap₂ (λ x xs. x ∷ xs) (final_twice l 0 well none t) (each_twice ts)

  -- THE QUERY'S TYPES
  asked_twice : (q : Option TypedClause) → map f (asked_predicate l q).types ≡ (asked_predicate l q).types
  asked_twice None = refl
  asked_twice (Some c) = asked_final l (map f c.types) (asked c) ∙ ap (λ ts. map (type_at ts) (asked c)) (each_twice c.types)

  asked_proper : (q : Option TypedClause) → QueryIsTyped l query q → EachProper D (asked_predicate l q).types
  asked_proper None h = tt
  asked_proper (Some c) h = proper_each D (map f c.types) (asked c) (final_proper l 0 well none c.types h.3)

  -- PREDICATES as they are seen, and as they are
  query_types : (p : ℕ) → p ≡ count → (W.preds p).types ≡ (asked_predicate l query).types
  query_types p is = whole_types l clauses query p ∙ ap (λ (q : Predicate). q.types) (query_at l clauses query p is)

  own_types : (p : ℕ) → (p ≡ count → ⊥) → ((declared l).preds p).types ≡ (W.preds p).types
  own_types p other =
      ⊎_elim (λ less. ap (λ (q : Predicate). q.types) (sym (own_at l clauses query p less)) ∙ sym (whole_types l clauses query p))
      (λ far.
      let more : count < p = of_far far in
      let both = past_all l clauses query p more in
      ap (λ (q : Predicate). q.types) (both.1 ∙ sym both.0) ∙ sym (whole_types l clauses query p))
      (cases_lt p count)
    where
      of_far : count ≤ p → count < p
      of_far far = ⊎_elim (λ less. less) (λ le. let same : p ≡ count = omega (arith, far, le) in absurd (other same)) (cases_lt count p)

  seen_as : (own : ℕ) → AreSeenAs l (seen_preds l query own) W.preds
  seen_as own p = by_test (nat_eq p count) (eqb-true p count) (eqb-false p count)
    where
      by_test :
          (t : Bool)
          → (t ≡ true → p ≡ count)
          → (t ≡ false → p ≡ count → ⊥)
          → EachProper D (cond t (asked_predicate l query) ((declared_for l own).preds p)).types
          × (map f (cond t (asked_predicate l query) ((declared_for l own).preds p)).types ≡ (W.preds p).types)
      by_test true same other = (asked_proper query query_typed, asked_twice query ∙ sym (query_types p (same refl)))
      by_test false same other =
          let seen = seen_types_are_final l own well none p in
          (seen.0, seen.1 ∙ own_types p (other refl))

  -- A CLAUSE
  not_query : (p : ℕ) → p < count → p ≡ count → ⊥
  not_query p less is = omega (arith, less, is)

  declared_types : (own p : ℕ) → p < count → map f ((declared_for l own).preds p).types ≡ (W.preds p).types
  declared_types own p less = (seen_types_are_final l own well none p).1 ∙ own_types p (not_query p less)

  clause_typed : (own p : ℕ) (c : TypedClause) → IsTypedIn l query own p c → GoalIsTyped W (W.preds p).types (whole_clause (final_definitions l) c ∷ [])
  clause_typed own p c h =
      let ts = ((declared_for l own).preds p).types in
      let P = seen_program l query own in
      let here = general_is_typed P D ts (with_scopes c) (scopes_keep_types P D ts c h.general) in
      subst (λ us. GoalIsTyped W us (whole_clause (final_definitions l) c ∷ [])) (declared_types own p h.there)
      (lifted l own (seen_preds l query own) W.preds ts (with_scopes c) well none (seen_as own) here)

  clause_heads : (own p : ℕ) (c : TypedClause) → IsTypedIn l query own p c → length c.clause.head ≡ length (W.preds p).types
  clause_heads own p c h =
      let ts = ((declared_for l own).preds p).types in
      h.heads ∙ sym (length-map ts f) ∙ ap length (declared_types own p h.there)

  -- those of a predicate
  clauses_fit : (cs : List (ℕ × TypedClause)) (p : ℕ) → EachIsTypedIn l query cs → Fit W D (W.preds p).types (clauses_of l cs p)
  clauses_fit [] p h = (tt, tt, tt)
  clauses_fit ((q, c) ∷ cs) p h = by_test (nat_eq q p) (eqb-true q p) (clauses_fit cs p h.1)
    where
      by_test :
          (t : Bool)
          → (t ≡ true → q ≡ p)
          → Fit W D (W.preds p).types (clauses_of l cs p)
          → Fit W D (W.preds p).types (map (whole_clause (final_definitions l)) (cond t (c ∷ of_number p cs) (of_number p cs)))
      by_test false same rest = rest
      by_test true same rest =
          let own = h.0.0 in
          let typed : IsTypedIn l query own p c = subst (λ k. IsTypedIn l query own k c) (same refl) h.0.1 in (
            (clause_heads own p c typed, rest.0),
            (clause_typed own p c typed, rest.1),
            (final_proper l 0 well none c.types typed.proper, rest.2),
          )

  -- THE QUERY'S CLAUSE
  query_fits : (q : Option TypedClause) → QueryIsTyped l query q → Fit W D (asked_predicate l q).types (get_or (behind (query_clauses l) q) 0 [])
  query_fits None h = (tt, tt, tt)
  query_fits (Some c) h =
      let own = h.0 in
      let P = seen_program l query own in
      let body = c.clause.body in
      let form : c.clause ≡ record { head = []; body = body } = ap (λ hs. record { head = hs; body = body }) h.1 in
      let ts = map (type_at c.types) (asked c) in
      let of_query : QueryTypes P D (name_in c) body ts = record { goal = c; is = form; general = h.2; taken = refl } in
      let typed = queries_are_typed P D (name_in c) body ts of_query in
      let up = lifted l own (seen_preds l query own) W.preds ts (as_query (name_in c) body c) well none (seen_as own) typed.1 in
      let same = asked_final l c.types (asked c) in
      let many : length ts ≡ length (asked_predicate l (Some c)).types = sym (length-map ts f) ∙ ap length same in (
        subst (λ n. HeadsHave n (forms_of (query_clauses l c))) many typed.0,
        (subst (λ us. GoalIsTyped W us (query_clauses l c)) same up, tt),
        (final_proper l 0 well none c.types h.3, tt),
      )

  -- EACH PREDICATE
  module _ (each : EachIsTypedIn l query clauses) where
    pub predicate_fits : (k : ℕ) → k < length (bare_predicates l query) → Fit W D (W.preds k).types (get_or (all_clauses l clauses query) k []) × EachProper D (W.preds k).types
    predicate_fits k less = ⊎_elim (λ own. of_own own) (λ r. of_query r.0) (within_all l clauses query k less)
      where
        of_own : k < count → Fit W D (W.preds k).types (get_or (all_clauses l clauses query) k []) × EachProper D (W.preds k).types
        of_own own = (
          subst (Fit W D (W.preds k).types) (sym (own_clauses l clauses query k own)) (clauses_fit clauses k each),
          subst (EachProper D) (declared_types 0 k own) (final_proper l 0 well none ((declared_for l 0).preds k).types (seen_types_are_final l 0 well none k).0),
        )

        of_query : k ≡ count → Fit W D (W.preds k).types (get_or (all_clauses l clauses query) k []) × EachProper D (W.preds k).types
        of_query is =
            let types = sym (query_types k is) in (
              subst (Fit W D (W.preds k).types) (sym (asked_clauses l clauses query k is))
                  (subst (λ ts. Fit W D ts (get_or (behind (query_clauses l) query) 0 [])) types (query_fits query query_typed)),
              subst (EachProper D) types (asked_proper query query_typed),
            )

pub whole_types_fit : WholeTypesFit
whole_types_fit l clauses query whole well none each query_typed is =
    let D = parameter_counts l in
    let W = whole_source l clauses query in
    let declared_fits = (all_declarations_fit l well none).0 in
    let types : FitsTypes W D = record { arities = declared_fits.arities; parameters = declared_fits.parameters; arguments = declared_fits.arguments } in (
      subst (λ (P : Source). FitsTypes P D) (sym is.is) types,
      λ S more p source others of_goal. procedure_fits S more p (source ∙ is.is) source others of_goal,
    )
  where
    procedure_fits :
        (S : System) (more : List TypeTerm) (p : Procedure)
        → S.world.source ≡ whole_source l clauses query
        → S.world.source ≡ plain_program whole.program
        → EachProper (parameter_counts l) more
        → IsOfGoal whole more p → TypesFit S (parameter_counts l) p
    procedure_fits S more p is_whole source others of_goal =
        let D = parameter_counts l in
        let W = whole_source l clauses query in
        let k = p.pred in
        let cs = get_or (all_clauses l clauses query) k [] in
        let preds_count : length whole.program.preds ≡ length (bare_predicates l query) =
        sym (length-map whole.program.preds plain_pred) ∙ ap length is.preds ∙ whole_count l clauses query in
        let less : k < length (bare_predicates l query) = omega (arith, of_goal.there, preds_count) in
        let goals_count = is.goals.as_many in
        let there : k < length whole.goals.items = omega (arith, of_goal.there, goals_count) in
        let fits = predicate_fits l clauses query well none query_typed each k less in
        let join = typed_goals_join W (W.preds k).types cs fits.0.0 fits.0.1 in
        let typed = (is.typed k there).types in
        let back = sym is_whole in
        typed_goals_fit S D cs more p
        (record {
          clauses = ap (λ (P : Source). (P.preds k).clauses) is_whole ∙ whole_clauses l clauses query k less;
          heads = subst (λ (P : Source). HeadsHave (length (P.preds k).types) (forms_of cs)) back fits.0.0;
          goal = subst (λ (P : Source). GoalIsTyped P (P.preds k).types cs) back join;
          declared = subst (λ (P : Source). EachProper D (P.preds k).types) back fits.1;
          proper = fits.0.2;
          others = others;
          head = of_goal.head ∙ ap (λ (P : Source). from 0 (length (P.preds k).types)) (sym source);
          types =
              of_goal.types
              ∙ ap (λ ts. ts ++ more)
              (typed
              ∙ ap (λ ts. normal_types ts cs) (sym (whole_types l clauses query k) ∙ ap (λ (P : Source). (P.preds k).types) back));
        })

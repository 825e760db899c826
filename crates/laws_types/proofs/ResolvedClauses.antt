-- A clause that is typed where it stands is typed also where the query's predicate is declared.
use Rattle.std.proofs.Common.{◌≡◌, ℕ, suc, ◌<◌, ◌≤◌, Bool, true, false, nat_eq, cond, List, [], ◌∷◌, ◌++◌, map, drop, length, refl, sym, ap, ◌∙◌, subst, arith, append-nil}
use Rattle.std.specs.Prelude.{Option}
use Rattle.std.proofs.lemmas.Bool.{eqb-true}
use Rattle.std.proofs.lemmas.List.{length-map}
use Rattle.mc_source.specs.declared.name.Candidate.{Candidate}
use Rattle.mc_source.specs.declared.name.Candidate.TheVariants as C
use Rattle.mc_program.specs.Programs.{TypeTerm, Predicate, Source}
use Rattle.mc_program.specs.PlainPrograms.{no_pred}
use Rattle.mc_model.specs.Types.{instance_of}
use Rattle.mc_accepted.specs.ProperTypes.{Parameters}
use Rattle.mc_accepted.specs.NormalTypes.{TypedClause}
use Rattle.mc_accepted.specs.MostGeneral.{type_at, rigid_count, generalised, AreNumbered, MostGeneral}
use Rattle.mc_accepted.specs.Resolving.{Unresolved, any_variable, any_number, any_text, any_name, Unresolved_terms, no_terms, term_then, Unresolved_goal, equation, atom, all_of, one_of, choice, negation, exists, Unresolved_goals, no_goals, goal_then, Unresolved_clause, count, Step, push_variable, push_number, push_text, choose, equate, call, close_head, term_steps, terms_steps, goal_steps, goals_steps, steps_of, signature, Takes, topmost, below}
use Rattle.laws_made_types.specs.Makes.{makes, kept}
use Rattle.laws_made_types.specs.Traced.{Traces}
use Rattle.laws_made_types.specs.Known.{AllKnown}
use Rattle.laws_made_types.specs.MadeTypes.{AreVariableTypes}
use Rattle.laws_made_types.proofs.Generals.{types_are_general}
use Rattle.mc_names.specs.Linked.{Linked}
use Rattle.mc_type_table.specs.Visibility.{definitions_seen}
use Rattle.mc_clauses.specs.Unresolved.{unresolved_clause, unresolved_query}
use Rattle.mc_declarations.specs.Declarations.{parameter_counts, predicate_of}
use Rattle.laws_types.specs.ClauseLaws.{IsThere, AllThere}
use Rattle.laws_types.proofs.Clauses.{candidates_are_there}
use Rattle.mc_declarations.specs.Proper.{declared_for}
use Rattle.laws_types.proofs.ResolvedHeads.{resolved_heads_fit}
use Rattle.laws_types.proofs.Places.{past}
use Rattle.laws_types.specs.WholeTypes.{asked_predicate, seen_program}
use Rattle.laws_types.specs.ResolvedClauses.{typed_as, ResolvedAreTypedIn, ResolvedQueriesAreTyped}

-- STEPS that are no head's
abbrev NoHead : List Step → Type 0
NoHead [] = Unit {0}
NoHead (close_head p n ∷ steps) = ⊥
NoHead (s ∷ steps) = NoHead steps

none_both : (xs ys : List Step) → NoHead xs → NoHead ys → NoHead (xs ++ ys)
none_both [] ys h k = k
none_both (push_variable v ∷ xs) ys h k = none_both xs ys h k
none_both (push_number ∷ xs) ys h k = none_both xs ys h k
none_both (push_text ∷ xs) ys h k = none_both xs ys h k
none_both (choose cs n ∷ xs) ys h k = none_both xs ys h k
none_both (equate ∷ xs) ys h k = none_both xs ys h k
none_both (call cs n ∷ xs) ys h k = none_both xs ys h k
none_both (close_head p n ∷ xs) ys h k = absurd h

mutual
  term_none : (e : Unresolved) → NoHead (term_steps e)
  term_none (any_variable v) = tt
  term_none (any_number n) = tt
  term_none (any_text bytes) = tt
  term_none (any_name cs args) = none_both (terms_steps args) (choose cs (count args) ∷ []) (terms_none args) tt

  terms_none : (es : Unresolved_terms) → NoHead (terms_steps es)
  terms_none no_terms = tt
  terms_none (term_then e es) = none_both (term_steps e) (terms_steps es) (term_none e) (terms_none es)

mutual
  goal_none : (g : Unresolved_goal) → NoHead (goal_steps g)
  goal_none (equation a b) = none_both (term_steps a) (term_steps b ++ equate ∷ []) (term_none a) (none_both (term_steps b) (equate ∷ []) (term_none b) tt)
  goal_none (atom cs args) = none_both (terms_steps args) (call cs (count args) ∷ []) (terms_none args) tt
  goal_none (all_of gs) = goals_none gs
  goal_none (one_of gs) = goals_none gs
  goal_none (choice vs c t e) = none_both (goal_steps c) (goal_steps t ++ goal_steps e) (goal_none c) (none_both (goal_steps t) (goal_steps e) (goal_none t) (goal_none e))
  goal_none (negation g) = goal_none g
  goal_none (exists vs g) = goal_none g

  goals_none : (gs : Unresolved_goals) → NoHead (goals_steps gs)
  goals_none no_goals = tt
  goals_none (goal_then g gs) = none_both (goal_steps g) (goals_steps gs) (goal_none g) (goals_none gs)

-- what is there in steps is there in their parts
there_parts : (l : Linked) (xs ys : List Step) → AllThere l (xs ++ ys) → AllThere l xs × AllThere l ys
there_parts l [] ys h = (tt, h)
there_parts l (push_variable v ∷ xs) ys h = there_parts l xs ys h
there_parts l (push_number ∷ xs) ys h = there_parts l xs ys h
there_parts l (push_text ∷ xs) ys h = there_parts l xs ys h
there_parts l (choose cs n ∷ xs) ys h = let r = there_parts l xs ys h.1 in ((h.0, r.0), r.1)
there_parts l (equate ∷ xs) ys h = there_parts l xs ys h
there_parts l (call cs n ∷ xs) ys h = let r = there_parts l xs ys h.1 in ((h.0, r.0), r.1)
there_parts l (close_head p n ∷ xs) ys h = there_parts l xs ys h

-- TWO PROGRAMS that declare what is there alike
module _ (l : Linked) (D : Parameters) (Q Q' : Source) (same : (c : Candidate) → IsThere l c → signature Q D c ≡ signature Q' D c) where
  takes : (c : Candidate) (ts : List TypeTerm) → IsThere l c → Takes Q D c ts → Takes Q' D c ts
  takes c ts there h = (h.0, ap (map (instance_of h.0)) (sym (same c there)) ∙ h.1)

  module _ (τ : ℕ → TypeTerm) (zs zs' : List Step) (behind : (stack : List TypeTerm) (picks : List Candidate) (trace : List TypeTerm) → Traces Q D τ zs stack picks trace → Traces Q' D τ zs' stack picks trace) where
    moved :
        (xs : List Step) (stack : List TypeTerm) (picks : List Candidate) (trace : List TypeTerm)
        → NoHead xs → AllThere l xs → Traces Q D τ (xs ++ zs) stack picks trace → Traces Q' D τ (xs ++ zs') stack picks trace
    moved [] stack picks trace none there h = behind stack picks trace h
    moved (push_variable v ∷ xs) stack picks trace none there h = moved xs (stack ++ τ v ∷ []) picks trace none there h
    moved (push_number ∷ xs) stack picks trace none there h = (h.0, h.1, moved xs _ picks h.0 none there h.2)
    moved (push_text ∷ xs) stack picks trace none there h = (h.0, h.1, moved xs _ picks h.0 none there h.2)
    moved (choose cs n ∷ xs) stack [] trace none there h = absurd h
    moved (choose cs n ∷ xs) stack (c ∷ picks) trace none there h =
        (h.0, h.1, h.2, h.3, h.4, takes c (topmost n stack ++ h.2 ∷ []) (there.0 c h.0) h.5, moved xs (below n stack ++ h.2 ∷ []) picks h.3 none there.1 h.6)
    moved (equate ∷ xs) stack picks trace none there h = (h.0, h.1, moved xs (below 2 stack) picks trace none there h.2)
    moved (call cs n ∷ xs) stack [] trace none there h = absurd h
    moved (call cs n ∷ xs) stack (c ∷ picks) trace none there h =
        (h.0, h.1, takes c (topmost n stack) (there.0 c h.0) h.2, moved xs (below n stack) picks trace none there.1 h.3)
    moved (close_head p n ∷ xs) stack picks trace none there h = absurd none

  -- a clause of predicates with the same types
  clause_moved :
      (head : Unresolved_terms) (body : Unresolved_goal) (p p' : ℕ) (τ : ℕ → TypeTerm) (picks : List Candidate) (trace : List TypeTerm)
      → (Q.preds p).types ≡ (Q'.preds p').types
      → AllThere l (steps_of (record { pred = p; head = head; body = body }))
      → Traces Q D τ (steps_of (record { pred = p; head = head; body = body })) [] picks trace
      → Traces Q' D τ (steps_of (record { pred = p'; head = head; body = body })) [] picks trace
  clause_moved head body p p' τ picks trace types there h =
      let n = count head in
      let gs = goal_steps body in
      let parts = there_parts l (terms_steps head) (close_head p n ∷ gs) there in
      moved τ (close_head p n ∷ gs) (close_head p' n ∷ gs)
      (λ stack picks trace k.
      let whole = append-nil gs in
      let rest : Traces Q D τ (gs ++ []) (below n stack) picks trace = subst (λ steps. Traces Q D τ steps (below n stack) picks trace) (sym whole) k.1 in
      (k.0 ∙ types, subst (λ steps. Traces Q' D τ steps (below n stack) picks trace) whole (moved τ [] [] (λ stack picks trace e. e) gs (below n stack) picks trace (goal_none body) parts.1 rest)))
      (terms_steps head) [] picks trace (terms_none head) parts.0 h

-- most general types in one are so in the other
module _
    (l : Linked) (D : Parameters) (Q Q' : Source) (same : (c : Candidate) → IsThere l c → signature Q D c ≡ signature Q' D c)
    (head : Unresolved_terms) (body : Unresolved_goal) (p p' : ℕ) (types_same : (Q.preds p).types ≡ (Q'.preds p').types)
    (there : AllThere l (steps_of (record { pred = p; head = head; body = body }))) (there' : AllThere l (steps_of (record { pred = p'; head = head; body = body }))) where
  abbrev u : Unresolved_clause
  u = record { pred = p; head = head; body = body }

  abbrev u' : Unresolved_clause
  u' = record { pred = p'; head = head; body = body }

  pub variables_moved : (picks : List Candidate) (vars : ℕ) (types : List TypeTerm) → AreVariableTypes Q D u picks vars types → AreVariableTypes Q' D u' picks vars types
  variables_moved picks vars types are =
      record {
        own = are.own;
        general = λ τ trace h.
            subst
            (λ ts. (σ : ℕ → TypeTerm) × ((v : ℕ) → v < vars → τ v ≡ generalised (rigid_count ts) σ (type_at types v)) × (kept (makes u) trace ≡ map (generalised (rigid_count ts) σ) (drop vars types)))
            types_same (are.general τ trace (clause_moved l D Q' Q (λ c i. sym (same c i)) head body p' p τ picks trace (sym types_same) there' h));
        typed = λ σ.
            let r = are.typed σ in
            let moved = clause_moved l D Q Q' same head body p p' r.0 picks r.1 types_same there r.2 in
            let fits =
            subst
            (λ ts. ((v : ℕ) → v < vars → r.0 v ≡ generalised (rigid_count ts) σ (type_at types v)) × (kept (makes u) r.1 ≡ map (generalised (rigid_count ts) σ) (drop vars types)))
            types_same (r.3, r.4) in
            (r.0, r.1, moved, fits.0, fits.1);
        numbered = subst (λ ts. AreNumbered (rigid_count ts) types) types_same are.numbered;
      }

-- A MODULE'S VIEW with the query's predicate behind the others
module _ (l : Linked) (own : ℕ) (query : Option TypedClause) where
  abbrev P : Source
  P = declared_for l own

  abbrev P' : Source
  P' = seen_program l query own

  abbrev D : Parameters
  D = parameter_counts l

  abbrev number : ℕ
  number = length l.preds

  elsewhere : (p : ℕ) → (p ≡ number → ⊥) → (P.preds p).types ≡ (P'.preds p).types
  elsewhere p other = by_test (nat_eq p number) (eqb-true p number)
    where
      by_test : (t : Bool) → (t ≡ true → p ≡ number) → (P.preds p).types ≡ (cond t (asked_predicate l query) (P.preds p)).types
      by_test true same = absurd (other (same refl))
      by_test false same = refl

  alike : (c : Candidate) → IsThere l c → signature P D c ≡ signature P' D c
  alike (C.Con s) there = refl
  alike (C.Func f) there = elsewhere f (λ is. omega (arith, there, is))
  alike (C.Pred p) there = elsewhere p (λ is. omega (arith, there, is))
  alike (C.Char c) there = refl

  known_alike : (picks : List Candidate) → AllKnown P D picks → AllKnown P' D picks
  known_alike [] h = tt
  known_alike (C.Con s ∷ picks) h = (
    (
      h.0.0,
      record { listed = h.0.1.listed; parameters = h.0.1.parameters; arguments = h.0.1.arguments },
    ),
    known_alike picks h.1,
  )
  known_alike (C.Func f ∷ picks) h = (tt, known_alike picks h.1)
  known_alike (C.Pred p ∷ picks) h = (tt, known_alike picks h.1)
  known_alike (C.Char c ∷ picks) h = (h.0, known_alike picks h.1)

  no_types : (p : ℕ) → number ≤ p → (P.preds p).types ≡ []
  no_types p far =
      let long : length (map (predicate_of l (definitions_seen l own)) l.preds) ≡ number = length-map l.preds (predicate_of l (definitions_seen l own)) in
      let beyond : length (map (predicate_of l (definitions_seen l own)) l.preds) ≤ p = omega (arith, far, long) in
      ap (λ (q : Predicate). q.types) (past (map (predicate_of l (definitions_seen l own)) l.preds) p no_pred beyond)

pub resolved_are_typed_in : ResolvedAreTypedIn
resolved_are_typed_in l own p t picks vars types names query less h =
    let P = declared_for l own in
    let P' = seen_program l query own in
    let D = parameter_counts l in
    let u = (unresolved_clause l own p t).clause in
    let same = elsewhere l own query p (λ is. omega (arith, less, is)) in
    let there = (candidates_are_there l own p t).0 in
    let are = variables_moved l D P P' (alike l own query) u.head u.body p p same there there picks vars types h.general in
    let general = types_are_general P' D u picks vars types names (known_alike l own query picks h.known) (h.values P') h.named are in
    record {
      there = less;
      heads = resolved_heads_fit P D u picks h.resolves;
      general = subst (λ ts. MostGeneral P' D ts (typed_as u picks vars types names)) (sym same) general;
      proper = h.proper;
    }

pub resolved_queries_are_typed : ResolvedQueriesAreTyped
resolved_queries_are_typed l own g picks vars types names query h =
    let P = declared_for l own in
    let P' = seen_program l query own in
    let D = parameter_counts l in
    let n = length l.preds in
    let u = (unresolved_query l own n g).clause in
    let v = (unresolved_query l own (suc n) g).clause in
    let low : n ≤ n = omega arith in
    let high : n ≤ suc n = omega arith in
    let other : suc n ≡ n → ⊥ = λ is. omega (arith, is) in
    let none : (P'.preds (suc n)).types ≡ [] = sym (elsewhere l own query (suc n) other) ∙ no_types l own query (suc n) high in
    let same : (P.preds n).types ≡ (P'.preds (suc n)).types = no_types l own query n low ∙ sym none in
    let there = (candidates_are_there l own n g).1 in
    let there' = (candidates_are_there l own (suc n) g).1 in
    let are = variables_moved l D P P' (alike l own query) u.head u.body n (suc n) same there there' picks vars types h.general in
    let general = types_are_general P' D v picks vars types names (known_alike l own query picks h.known) (h.values P') h.named are in
    subst (λ ts. MostGeneral P' D ts (typed_as v picks vars types names)) none general

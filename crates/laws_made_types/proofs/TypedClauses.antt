-- What typings of a clause's normal goal say of its walk.
use Rattle.std.proofs.Common.{◌≡◌, ℕ, suc, ◌+◌, ◌<◌, List, [], ◌∷◌, ◌++◌, length, Bool, true, false, cond, refl, sym, ap, ◌∙◌, subst, arith, append_assoc, append-nil, length-append}
use Rattle.std.proofs.lemmas.List.{get_or_default}
use Rattle.mc_program.specs.Programs.{TypeTerm, variable_type, Source, Expression, variable, constant, made, applied, Expressions, ClauseForm}
use Rattle.mc_accepted.specs.ProperTypes.{Parameters, ProperType}
use Rattle.mc_accepted.specs.MostGeneral.{type_at}
use Rattle.mc_accepted.specs.Normal.{equate, head_place, is_place, head_equation, head_equations, conjuncts_of, names_in, other_variables}
use Rattle.mc_accepted.specs.Resolving.{Unresolved_terms, no_terms, term_then, count, listed_expressions, resolved, resolved_term, resolved_terms, resolved_goal, Step, close_head, term_steps, terms_steps, goal_steps}
use Rattle.mc_source.specs.declared.name.Candidate.{Candidate}
use Rattle.laws_made_types.specs.Known.{AllKnown, Picked}
use Rattle.laws_made_types.specs.Makes.{makes_parts, makes_head, makes_goal, makes, kept}
use Rattle.laws_made_types.specs.Traced.{Traces, HasTypes}
use Rattle.laws_made_types.specs.MadeTypes.{TypedAreTraced}
use Rattle.laws_made_types.proofs.Keeping.{kept_both, long_both}
use Rattle.laws_made_types.proofs.FlatTypings.{has_both, topmost_is, below_is, AllTyped, split, from_conjunction}
use Rattle.laws_made_types.proofs.TracedClauses.{head_next}
use Rattle.laws_made_types.proofs.TracedGoals.{parts_long}
use Rattle.laws_made_types.proofs.TypedTerms.{own, term_walks}
use Rattle.laws_made_types.proofs.TypedGoals.{goal_walks}
use Rattle.laws_made_types.proofs.ClauseVariables.{place_number}

-- the variables below a number have types as they are listed
pub listed_has : (T : ℕ → TypeTerm) (n : ℕ) (ts : List TypeTerm) → ((k : ℕ) → k < length ts → T (n + k) ≡ type_at ts k) → HasTypes T n ts
listed_has T n [] h = tt
listed_has T n (t ∷ ts) h =
    (ap T (omega arith) ∙ h 0 (omega arith), listed_has T (suc n) ts (λ k l. let e : suc n + k ≡ n + suc k = omega arith in ap T e ∙ h (suc k) (omega (arith, l)) ∙ get_or_default ts k (variable_type (suc k)) (variable_type k) l))

module _ (P : Source) (D : Parameters) (T : ℕ → TypeTerm) (proper : (v : ℕ) → ProperType D (T v)) (names : ℕ → ℕ) (head : List Expression) (at_place : (x i : ℕ) → is_place i (head_place x head) ≡ true → names x ≡ i) where
  abbrev τ : ℕ → TypeTerm
  τ = own P D T proper names

  -- an equation of the head is typed as that of its variable and its argument
  head_equated : (m i : ℕ) (e : Expression) → AllTyped P T (head_equation names head m i e).goals → AllTyped P T (equate names m i e).goals
  head_equated m i (variable x) h = by_test (is_place i (head_place x head)) (at_place x i) h
    where
      by_test : (t : Bool) → (t ≡ true → names x ≡ i) → AllTyped P T (cond t (record { goals = []; made_variables = []; next = m }) (equate names m i (variable x))).goals → AllTyped P T (equate names m i (variable x)).goals
      by_test true q h = (ap T (sym (q refl)), tt)
      by_test false q h = h
  head_equated m i (constant v) h = h
  head_equated m i (made f ts) h = h
  head_equated m i (applied f ts) h = h

  -- Where the equations of a head are typed, its walk goes on with the types of the head variables, which are numbered
  -- from i. Those of the occurrences are those of the variables that are made.
  record Head_walks (all steps : List Step) (picks : List Candidate) (us : Unresolved_terms) (es : Expressions) (left : List Candidate) : Type 0 where
    picked : Picked steps left
    known : AllKnown P D left
    trace : (m i : ℕ) → List TypeTerm
    long : (m i : ℕ) → length (trace m i) ≡ length (makes_head us)
    next : (m i : ℕ) → (head_equations names head m i (listed_expressions es)).next ≡ m + length (kept (makes_head us) (trace m i))
    has_made : (m i : ℕ) → HasTypes T m (kept (makes_head us) (trace m i))
    typed :
        (m i : ℕ) (stack ts more : List TypeTerm)
        → length ts ≡ count us
        → HasTypes T i ts
        → AllTyped P T (head_equations names head m i (listed_expressions es)).goals → Traces P D τ steps (stack ++ ts) left more → Traces P D τ all stack picks (trace m i ++ more)

  head_walks : (es : Unresolved_terms) (steps : List Step) (picks : List Candidate) → Picked (terms_steps es ++ steps) picks → AllKnown P D picks → Head_walks (terms_steps es ++ steps) steps picks es (resolved_terms es picks).0 (resolved_terms es picks).1
  head_walks no_terms steps picks picked known =
      record {
        picked = picked;
        known = known;
        trace = λ m i. [];
        long = λ m i. refl;
        next = λ m i. omega arith;
        has_made = λ m i. tt;
        typed = λ m i stack ts more long has h w. none stack ts more long w;
      }
    where
      none : (stack ts more : List TypeTerm) → length ts ≡ 0 → Traces P D τ steps (stack ++ ts) picks more → Traces P D τ steps stack picks more
      none stack [] more long w = subst (λ s. Traces P D τ steps s picks more) (append-nil stack) w
      none stack (t ∷ ts) more long w = absurd (omega (arith, long))
  head_walks (term_then e es) steps picks picked known =
      let r = resolved_term e picks in
      let rs = resolved_terms es r.1 in
      let later = terms_steps es ++ steps in
      let same : (term_steps e ++ terms_steps es) ++ steps ≡ term_steps e ++ later = append_assoc (term_steps e) (terms_steps es) steps in
      let a = term_walks P D T proper names e later picks (subst (λ s. Picked s picks) same picked) known in
      let b = head_walks es steps r.1 a.picked a.known in
      let after : ℕ → ℕ → ℕ = λ m i. (head_equation names head m i r.0).next in
      let first : ℕ → ℕ → List TypeTerm = λ m i. a.trace m (T i) in
      let second : ℕ → ℕ → List TypeTerm = λ m i. b.trace (after m i) (suc i) in
      let long : (m i : ℕ) → length (first m i) ≡ length (makes_parts e) = λ m i. a.long m (T i) ∙ sym (parts_long e) in
      let ends : (m i : ℕ) → after m i ≡ m + length (kept (makes_parts e) (first m i)) = λ m i. head_next names head m i r.0 ∙ a.parts_next m i (T i) in
      let parts : (m i : ℕ) → kept (makes_parts e ++ makes_head es) (first m i ++ second m i) ≡ kept (makes_parts e) (first m i) ++ kept (makes_head es) (second m i) =
      λ m i. kept_both (makes_parts e) (makes_head es) (first m i) (second m i) (long m i) in
      let whole :
      (m i : ℕ) (stack ts more : List TypeTerm)
      → length ts ≡ suc (count es)
      → HasTypes T i ts
      → AllTyped P T (head_equations names head m i (r.0 ∷ listed_expressions rs.0)).goals
      → Traces P D τ steps (stack ++ ts) rs.1 more → Traces P D τ (term_steps e ++ later) stack picks (first m i ++ (second m i ++ more)) =
      λ m i stack ts more.
      elim ts as (λ ts. length ts ≡ suc (count es) → HasTypes T i ts → AllTyped P T (head_equations names head m i (r.0 ∷ listed_expressions rs.0)).goals → Traces P D τ steps (stack ++ ts) rs.1 more → Traces P D τ (term_steps e ++ later) stack picks (first m i ++ (second m i ++ more))) [
        | [] ↦ λ long has h w. absurd (omega (arith, long))
        | t ∷ us ↦ λ long has h w.
            let here = head_equation names head m i r.0 in
            let z = split P T here.goals (head_equations names head here.next (suc i) (listed_expressions rs.0)).goals h in
            let w' : Traces P D τ steps ((stack ++ t ∷ []) ++ us) rs.1 more = subst (λ s. Traces P D τ steps s rs.1 more) (sym (append_assoc stack (t ∷ []) us)) w in
            let next = b.typed here.next (suc i) (stack ++ t ∷ []) us more (omega (arith, long)) has.1 z.1 w' in
            a.equated m i stack (second m i ++ more) (head_equated m i r.0 z.0) (subst (λ u. Traces P D τ later (stack ++ u ∷ []) r.1 (second m i ++ more)) (sym has.0) next)
      ] in
      record {
        picked = b.picked;
        known = b.known;
        trace = λ m i. first m i ++ second m i;
        long = λ m i. long_both (makes_parts e) (makes_head es) (first m i) (second m i) (long m i) (b.long (after m i) (suc i));
        next = λ m i.
            omega
            (arith, ends m i, b.next (after m i) (suc i), ap length (parts m i), length-append (kept (makes_parts e) (first m i)) (kept (makes_head es) (second m i)));
        has_made = λ m i.
            subst (HasTypes T m) (sym (parts m i))
            (has_both T m (after m i) (kept (makes_parts e) (first m i)) (kept (makes_head es) (second m i)) (ends m i) (a.parts_have m (T i)) (b.has_made (after m i) (suc i)));
        typed = λ m i stack ts more long has h w.
            subst (λ s. Traces P D τ s stack picks ((first m i ++ second m i) ++ more)) (sym same)
            (subst (λ us. Traces P D τ (term_steps e ++ later) stack picks us) (sym (append_assoc (first m i) (second m i) more)) (whole m i stack ts more long has h w));
      }

-- WHAT THE NORMAL GOAL HAS, A WALK TYPES
pub typed_are_traced : TypedAreTraced
typed_are_traced P D clause picks T known picked proper many at_head typed =
    let declared = (P.preds clause.pred).types in
    let n = length declared in
    let r = resolved_terms clause.head picks in
    let body = (resolved_goal clause.body r.1).0 in
    let c : ClauseForm = resolved clause picks in
    let names = names_in n c in
    let τ : ℕ → TypeTerm = λ v. T (names v) in
    let end = close_head clause.pred (count clause.head) ∷ goal_steps clause.body in
    let first = n + length (other_variables c) in
    let equations = head_equations names c.head first 0 c.head in
    let h = head_walks P D T proper names c.head (place_number n c) clause.head end picks picked known in
    let nil = append-nil (goal_steps clause.body) in
    let b = goal_walks P D T proper names clause.body [] r.1 (subst (λ s. Picked s r.1) (sym nil) h.picked) h.known in
    let z = split P T equations.goals (conjuncts_of names equations.next body).goals (from_conjunction P T (equations.goals ++ (conjuncts_of names equations.next body).goals) typed) in
    let of_head = h.trace first 0 in
    let of_body = b.conjuncts.trace equations.next in
    let in_body : Traces P D τ (goal_steps clause.body) [] r.1 (of_body ++ []) =
    subst (λ s. Traces P D τ s [] r.1 (of_body ++ [])) nil (b.conjuncts.typed equations.next [] [] z.1 (b.picked, refl)) in
    let closes : Traces P D τ end declared r.1 (of_body ++ []) =
    (topmost_is [] declared (count clause.head) (sym many), subst (λ s. Traces P D τ (goal_steps clause.body) s r.1 (of_body ++ [])) (sym (below_is [] declared (count clause.head) (sym many))) in_body) in
    let whole = h.typed first 0 [] declared (of_body ++ []) (sym many) (listed_has T 0 declared (λ k l. ap T (let e : 0 + k ≡ k = omega arith in e) ∙ at_head k l)) z.0 closes in
    let made : kept (makes clause) (of_head ++ (of_body ++ [])) ≡ kept (makes_head clause.head) of_head ++ kept (makes_goal clause.body) of_body =
    ap (λ us. kept (makes clause) (of_head ++ us)) (append-nil of_body) ∙ kept_both (makes_head clause.head) (makes_goal clause.body) of_head of_body (h.long first 0) in (
      of_head ++ (of_body ++ []),
      whole,
      subst (HasTypes T first) (sym made)
          (has_both T first equations.next (kept (makes_head clause.head) of_head) (kept (makes_goal clause.body) of_body) (h.next first 0) (h.has_made first 0) (b.conjuncts.has equations.next)),
    )

-- What the walk of a clause says of the typing of its normal goal.
use Rattle.std.proofs.Common.{◌≡◌, ℕ, zero, suc, ◌+◌, List, [], ◌∷◌, ◌++◌, map, length, Bool, true, false, cond, nat_eq, refl, sym, ap, ◌∙◌, subst, arith, ⊎_elim, append_assoc, append-nil, length-append}
use Rattle.std.proofs.Math.Seq.{get_or-append_seam}
use Rattle.std.proofs.lemmas.Bool.{eqb-true, eqb-false}
use Rattle.std.proofs.lemmas.List.{length-map}
use Rattle.mc_program.specs.Programs.{TypeTerm, variable_type, Source, Expression, variable, constant, made, applied, Expressions, no_expressions, expression_then, expressions, ClauseForm}
use Rattle.mc_model.specs.Lists.{In, place_in}
use Rattle.mc_accepted.specs.Scope.{variables_in, variables_in_all, occurring}
use Rattle.mc_accepted.specs.ProperTypes.{Parameters}
use Rattle.mc_accepted.specs.MostGeneral.{type_at}
use Rattle.mc_accepted.specs.Normal.{equate, head_place, is_place, head_equation, head_equations, conjuncts_of, other_variables, named_by_quantifiers, names_in}
use Rattle.mc_accepted.specs.Resolving.{Unresolved, Unresolved_terms, no_terms, term_then, count, listed_expressions, resolved, resolved_term, resolved_terms, resolved_goal, Step, close_head, term_steps, terms_steps, goal_steps}
use Rattle.mc_source.specs.declared.name.Candidate.{Candidate}
use Rattle.laws_made_types.specs.Known.{AllKnown, AllHaveValues}
use Rattle.laws_made_types.specs.Makes.{makes_parts, makes_head, makes_goal, makes, kept}
use Rattle.laws_made_types.specs.Traced.{Traces, HasTypes}
use Rattle.laws_made_types.specs.MadeTypes.{TypedWith, TracesAreTyped}
use Rattle.laws_made_types.proofs.Keeping.{kept_both, long_both, both_split}
use Rattle.laws_made_types.proofs.FlatTypings.{has_first, has_second, has_none, topmost_is, below_is, AllTyped, join, to_conjunction}
use Rattle.laws_made_types.proofs.TracedTerms.{Agrees, agrees_left, agrees_right, Walked, term_walked}
use Rattle.laws_made_types.proofs.TracedGoals.{parts_long, goal_walked}
use Rattle.laws_made_types.proofs.ClauseVariables.{clause_variables, IsArgument, is_argument, has_number}

-- a list of types as the types of variables
has_listed : (pre ts : List TypeTerm) (n : ℕ) → length pre ≡ n → HasTypes (type_at (pre ++ ts)) n ts
has_listed pre [] n e = tt
has_listed pre (t ∷ ts) n e =
    let here : type_at (pre ++ t ∷ ts) n ≡ t = ap (type_at (pre ++ t ∷ ts)) (sym e) ∙ get_or-append_seam pre t ts (variable_type (length pre)) in
    let long : length (pre ++ t ∷ []) ≡ suc n = omega (arith, e, length-append pre (t ∷ [])) in
    (here, subst (λ us. HasTypes (type_at us) (suc n) ts) (append_assoc pre (t ∷ []) ts) (has_listed (pre ++ t ∷ []) ts (suc n) long))

-- the types of variables by their places
has_at : (T τ : ℕ → TypeTerm) (n x : ℕ) (xs : List ℕ) → HasTypes T n (map τ xs) → In x xs → T (n + place_in x xs) ≡ τ x
has_at T τ n x [] h i = absurd i
has_at T τ n x (y ∷ ys) h i = by_test (nat_eq x y) (eqb-true x y) (eqb-false x y) (λ j. has_at T τ (suc n) x ys h.1 j)
  where
    by_test : (t : Bool) → (t ≡ true → x ≡ y) → (t ≡ false → x ≡ y → ⊥) → (In x ys → T (suc n + place_in x ys) ≡ τ x) → T (n + cond t 0 (suc (place_in x ys))) ≡ τ x
    by_test true p q rest = ap T (omega arith) ∙ h.0 ∙ ap τ (sym (p refl))
    by_test false p q rest = ⊎_elim (λ e. absurd (q refl e)) (λ j. let e : n + suc (place_in x ys) ≡ suc n + place_in x ys = omega arith in ap T e ∙ rest j) i

-- the numbers of a clause's variables have their types where the head variables and the others have them
clause_agrees : (T τ : ℕ → TypeTerm) (n : ℕ) (c : ClauseForm) → ((x k : ℕ) → IsArgument x k c.head → T k ≡ τ x) → HasTypes T n (map τ (other_variables c)) → Agrees T (names_in n c) τ (clause_variables c)
clause_agrees T τ n c arguments others x i = ⊎_elim (λ a. ap T a.2 ∙ arguments x a.0 a.1) (λ a. ap T a.1 ∙ has_at T τ n x (other_variables c) others a.0) (has_number n c x i)

expressions_listed : (es : Expressions) → expressions (listed_expressions es) ≡ es
expressions_listed no_expressions = refl
expressions_listed (expression_then e es) = ap (expression_then e) (expressions_listed es)

-- an equation of the head is that of its variable and its argument, or there is none
pub head_next : (names : ℕ → ℕ) (head : List Expression) (m i : ℕ) (e : Expression) → (head_equation names head m i e).next ≡ (equate names m i e).next
head_next names head m i (variable x) = by_test (is_place i (head_place x head))
  where
    by_test : (t : Bool) → (cond t (record { goals = []; made_variables = []; next = m }) (equate names m i (variable x))).next ≡ m
    by_test true = refl
    by_test false = refl
head_next names head m i (constant v) = refl
head_next names head m i (made f ts) = refl
head_next names head m i (applied f ts) = refl

head_typed : (P : Source) (T : ℕ → TypeTerm) (names : ℕ → ℕ) (head : List Expression) (m i : ℕ) (e : Expression) → AllTyped P T (equate names m i e).goals → AllTyped P T (head_equation names head m i e).goals
head_typed P T names head m i (variable x) h = by_test (is_place i (head_place x head))
  where
    by_test : (t : Bool) → AllTyped P T (cond t (record { goals = []; made_variables = []; next = m }) (equate names m i (variable x))).goals
    by_test true = tt
    by_test false = h
head_typed P T names head m i (constant v) h = h
head_typed P T names head m i (made f ts) h = h
head_typed P T names head m i (applied f ts) h = h

abbrev variable_of : Expression → ℕ
variable_of (variable x) = x
variable_of _ = 0

module _ (P : Source) (D : Parameters) (τ : ℕ → TypeTerm) where
  -- a variable's type is its own
  variable_has : (steps : List Step) (stack : List TypeTerm) (u : Unresolved) (e : Expression) (picks : List Candidate) (all : List TypeTerm) (x : ℕ) → (a : Walked P D τ steps stack u e picks all) → e ≡ variable x → τ x ≡ a.type
  variable_has steps stack u (variable y) picks all x a is =
      let none : length (a.inner ++ a.own) ≡ 0 = omega (arith, a.next_all (λ v. v) 0) in
      let named = a.as_named (λ v. v) 0 τ (λ v i. refl) (has_none τ 0 (a.inner ++ a.own) none) in
      ap τ (ap variable_of (sym is)) ∙ named.first
  variable_has steps stack u (constant v) picks all x a is = cc
  variable_has steps stack u (made f ts) picks all x a is = cc
  variable_has steps stack u (applied f ts) picks all x a is = cc

  -- what the walk of a head's arguments leaves
  record Head_walked (steps : List Step) (stack : List TypeTerm) (us : Unresolved_terms) (es : Expressions) (picks : List Candidate) (all : List TypeTerm) : Type 0 where
    types : List TypeTerm
    as_many : length types ≡ count us
    trace : List TypeTerm
    later : List TypeTerm
    splits : all ≡ trace ++ later
    long : length trace ≡ length (makes_head us)
    known : AllKnown P D picks
    rest : Traces P D τ steps (stack ++ types) picks later
    arguments : (T : ℕ → TypeTerm) (i x k : ℕ) → HasTypes T i types → IsArgument x k (listed_expressions es) → T (i + k) ≡ τ x
    next : (names : ℕ → ℕ) (head : List Expression) (m i : ℕ) → (head_equations names head m i (listed_expressions es)).next ≡ m + length (kept (makes_head us) trace)
    typed :
        (names : ℕ → ℕ) (head : List Expression) (m i : ℕ) (T : ℕ → TypeTerm)
        → Agrees T names τ (variables_in_all es)
        → HasTypes T m (kept (makes_head us) trace) → HasTypes T i types → AllTyped P T (head_equations names head m i (listed_expressions es)).goals

  head_walked : (es : Unresolved_terms) (steps : List Step) (stack : List TypeTerm) (picks : List Candidate) (all : List TypeTerm) → AllHaveValues P es → AllKnown P D picks → Traces P D τ (terms_steps es ++ steps) stack picks all →
      Head_walked steps stack es (resolved_terms es picks).0 (resolved_terms es picks).1 all
  head_walked no_terms steps stack picks all values known w =
      record {
        types = [];
        as_many = refl;
        trace = [];
        later = all;
        splits = refl;
        long = refl;
        known = known;
        rest = subst (λ s. Traces P D τ steps s picks all) (sym (append-nil stack)) w;
        arguments = λ T i x k has is. absurd is;
        next = λ names head m i. omega arith;
        typed = λ names head m i T agree has heads. tt;
      }
  head_walked (term_then e es) steps stack picks all values known w =
      let r = resolved_term e picks in
      let rs = resolved_terms es r.1 in
      let w' : Traces P D τ (term_steps e ++ (terms_steps es ++ steps)) stack picks all = subst (λ s. Traces P D τ s stack picks all) (append_assoc (term_steps e) (terms_steps es) steps) w in
      let a = term_walked P D τ e (terms_steps es ++ steps) stack picks all values.0 known w' in
      let b = head_walked es steps (stack ++ a.type ∷ []) r.1 a.later values.1 a.known a.rest in
      let bt = kept (makes_head es) b.trace in
      let long : length a.trace ≡ length (makes_parts e) = a.long ∙ sym (parts_long e) in
      let parts : kept (makes_parts e ++ makes_head es) (a.trace ++ b.trace) ≡ a.inner ++ bt = kept_both (makes_parts e) (makes_head es) a.trace b.trace long ∙ ap (λ us. us ++ bt) a.of_parts in
      record {
        types = a.type ∷ b.types;
        as_many = ap suc b.as_many;
        trace = a.trace ++ b.trace;
        later = b.later;
        splits = both_split all a.trace a.later b.trace b.later a.splits b.splits;
        long = long_both (makes_parts e) (makes_head es) a.trace b.trace long b.long;
        known = b.known;
        rest = subst (λ s. Traces P D τ steps s rs.1 b.later) (append_assoc stack (a.type ∷ []) b.types) b.rest;
        arguments = λ T i x k has is. argument T i x k a b has is;
        next = λ names head m i.
            let here = head_equation names head m i r.0 in
            omega (arith, head_next names head m i r.0, a.next_inner names m i, b.next names head here.next (suc i), length-append a.inner bt, ap length parts);
        typed = λ names head m i T agree has heads.
            let here = head_equation names head m i r.0 in
            let there = head_equations names head here.next (suc i) (listed_expressions rs.0) in
            let has' = subst (HasTypes T m) parts has in
            let x = a.equated names m i T (agrees_left T names τ (variables_in r.0) (variables_in_all rs.0) agree) (has_first T m a.inner bt has') heads.0 in
            let y =
            b.typed names head here.next (suc i) T (agrees_right T names τ (variables_in r.0) (variables_in_all rs.0) agree)
            (has_second T m here.next a.inner bt (head_next names head m i r.0 ∙ a.next_inner names m i) has') heads.1 in
            join P T here.goals there.goals (head_typed P T names head m i r.0 x) y;
      }
    where
      argument :
          (T : ℕ → TypeTerm) (i x k : ℕ)
          → (a : Walked P D τ (terms_steps es ++ steps) stack e (resolved_term e picks).0 (resolved_term e picks).1 all)
          → (b : Head_walked steps (stack ++ a.type ∷ []) es (resolved_terms es (resolved_term e picks).1).0 (resolved_terms es (resolved_term e picks).1).1 a.later)
          → HasTypes T i (a.type ∷ b.types)
          → IsArgument x k ((resolved_term e picks).0 ∷ listed_expressions (resolved_terms es (resolved_term e picks).1).0) → T (i + k) ≡ τ x
      argument T i x zero a b has is = ap T (omega arith) ∙ has.0 ∙ sym (variable_has (terms_steps es ++ steps) stack e (resolved_term e picks).0 (resolved_term e picks).1 all x a is)
      argument T i x (suc k) a b has is = let e : i + suc k ≡ suc i + k = omega arith in ap T e ∙ b.arguments T (suc i) x k has.1 is

-- WHAT A WALK TYPES, THE NORMAL GOAL HAS
pub traces_are_typed : TracesAreTyped
traces_are_typed P D clause picks τ trace known values w =
    let declared = (P.preds clause.pred).types in
    let n = length declared in
    let r = resolved_terms clause.head picks in
    let body = (resolved_goal clause.body r.1).0 in
    let c : ClauseForm = resolved clause picks in
    let end = close_head clause.pred (count clause.head) ∷ goal_steps clause.body in
    let h = head_walked P D τ clause.head end [] picks trace values.0 known w in
    let is_declared : h.types ≡ declared = sym (topmost_is [] h.types (count clause.head) h.as_many) ∙ h.rest.0 in
    let w' : Traces P D τ (goal_steps clause.body ++ []) [] r.1 h.later =
    subst (λ s. Traces P D τ s [] r.1 h.later) (sym (append-nil (goal_steps clause.body)))
    (subst (λ s. Traces P D τ (goal_steps clause.body) s r.1 h.later) (below_is [] h.types (count clause.head) h.as_many) h.rest.1) in
    let b = goal_walked P D τ clause.body [] [] r.1 h.later values.1 h.known w' in
    let others = other_variables c in
    let ht = kept (makes_head clause.head) h.trace in
    let bt = kept (makes_goal clause.body) b.trace in
    let whole_trace : trace ≡ h.trace ++ b.trace = both_split trace h.trace h.later b.trace b.later h.splits b.splits ∙ ap (λ us. (h.trace ++ b.trace) ++ us) b.rest.1 ∙ append-nil (h.trace ++ b.trace) in
    let all_made : kept (makes clause) trace ≡ ht ++ bt = ap (kept (makes clause)) whole_trace ∙ kept_both (makes_head clause.head) (makes_goal clause.body) h.trace b.trace h.long in
    let own = map τ others in
    let types = declared ++ (own ++ (ht ++ bt)) in
    let T : ℕ → TypeTerm = type_at types in
    let names = names_in n c in
    let first = n + length others in
    let equations = head_equations names c.head first 0 c.head in
    let whole : HasTypes T 0 types = has_listed [] types 0 refl in
    let at_head : HasTypes T 0 h.types = subst (HasTypes T 0) (sym is_declared) (has_first T 0 declared (own ++ (ht ++ bt)) whole) in
    let at_rest : HasTypes T n (own ++ (ht ++ bt)) = has_second T 0 n declared (own ++ (ht ++ bt)) (omega arith) whole in
    let at_own : HasTypes T n own = has_first T n own (ht ++ bt) at_rest in
    let long : length own ≡ length others = length-map others τ in
    let at_made : HasTypes T first (ht ++ bt) = has_second T n first own (ht ++ bt) (omega (arith, long)) at_rest in
    let at_arguments : (x k : ℕ) → IsArgument x k c.head → T k ≡ τ x = λ x k is. ap T (omega arith) ∙ h.arguments T 0 x k at_head is in
    let agrees : Agrees T names τ (clause_variables c) = clause_agrees T τ n c at_arguments at_own in
    let occurrences = occurring body ++ named_by_quantifiers body in
    let of_head : Agrees T names τ (variables_in_all r.0) =
    subst (λ es. Agrees T names τ (variables_in_all es)) (expressions_listed r.0) (agrees_left T names τ (variables_in_all (expressions c.head)) occurrences agrees) in
    let of_body : Agrees T names τ (occurring body) =
    agrees_left T names τ (occurring body) (named_by_quantifiers body) (agrees_right T names τ (variables_in_all (expressions c.head)) occurrences agrees) in
    let next = h.next names c.head first 0 in
    let it : TypedWith P clause picks τ (ht ++ bt) =
    record {
      as_many = omega (arith, long, next, b.conjuncts.next names equations.next, length-append declared (own ++ (ht ++ bt)), length-append own (ht ++ bt), length-append ht bt);
      heads = λ v k e.
          let of_types : HasTypes (type_at declared) 0 h.types = subst (HasTypes (type_at declared) 0) (sym is_declared) (has_listed [] declared 0 refl) in
          sym (h.arguments (type_at declared) 0 v k of_types (is_argument v c.head k e)) ∙ ap (type_at declared) (let z : 0 + k ≡ k = omega arith in z);
      typed =
          to_conjunction P T (equations.goals ++ (conjuncts_of names equations.next body).goals)
          (join P T equations.goals (conjuncts_of names equations.next body).goals
          (h.typed names c.head first 0 T of_head (has_first T first ht bt at_made) at_head)
          (b.conjuncts.typed names equations.next T of_body (has_second T first equations.next ht bt next at_made)));
    } in
    subst (TypedWith P clause picks τ) (sym all_made) it

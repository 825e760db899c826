-- The variables of a clause that picks make are those of the clause.
use Rattle.std.proofs.Common.{inl, inr, ℕ, ◌<◌, List, [], ◌∷◌, ◌++◌, sym, subst, ⊎_elim}
use Rattle.mc_program.specs.Programs.{Expressions, no_expressions, expression_then, expressions}
use Rattle.mc_model.specs.Lists.{In}
use Rattle.mc_accepted.specs.Scope.{variables_in, variables_in_all, occurring, occurring_all}
use Rattle.mc_accepted.specs.Normal.{named_by_quantifiers, named_by_quantifiers_of_all}
use Rattle.mc_accepted.specs.Resolving.{Unresolved, any_variable, any_number, any_text, any_name, Unresolved_terms, no_terms, term_then, Unresolved_goal, equation, atom, all_of, one_of, choice, negation, exists, Unresolved_goals, no_goals, goal_then, Unresolved_clause, named, called, resolved_term, resolved_terms, resolved_goal, resolved_goals, resolved, listed_expressions}
use Rattle.mc_source.specs.declared.name.Candidate.{Candidate}
use Rattle.mc_source.specs.declared.name.Candidate.TheVariants as C
use Rattle.laws_made_types.specs.Known.{AllLess, HasNames, AllHaveNames, GoalHasNames, GoalsHaveNames, ClauseHasNames}
use Rattle.laws_made_types.proofs.ClauseVariables.{in_left, in_right, clause_variables}

-- each number of a list is below another
abbrev pub Less : ℕ → List ℕ → Type 0
Less n xs = (v : ℕ) → In v xs → v < n

less_both : (n : ℕ) (xs ys : List ℕ) → Less n xs → Less n ys → Less n (xs ++ ys)
less_both n [] ys h k v i = k v i
less_both n (x ∷ xs) ys h k v i = ⊎_elim (λ e. h v (inl e)) (λ j. less_both n xs ys (λ w l. h w (inr l)) k v j) i

less_listed : (n : ℕ) (xs : List ℕ) → AllLess n xs → Less n xs
less_listed n [] h v i = absurd i
less_listed n (x ∷ xs) h v i = ⊎_elim (λ e. subst (λ w. w < n) (sym e) h.0) (λ j. less_listed n xs h.1 v j) i

none_less : (n : ℕ) → Less n []
none_less n v i = absurd i

module _ (n : ℕ) where
  named_less : (es : Expressions) (picks : List Candidate) → Less n (variables_in_all es) → Less n (variables_in (named es picks).0)
  named_less es [] h = h
  named_less es (C.Con s ∷ picks) h = h
  named_less es (C.Func f ∷ picks) h = h
  named_less es (C.Char c ∷ picks) h = none_less n
  named_less es (C.Pred p ∷ picks) h = h

  called_less : (es : Expressions) (picks : List Candidate) → Less n (variables_in_all es) → Less n (occurring (called es picks).0)
  called_less es [] h = h
  called_less es (C.Con s ∷ picks) h = h
  called_less es (C.Func f ∷ picks) h = h
  called_less es (C.Char c ∷ picks) h = h
  called_less es (C.Pred p ∷ picks) h = h

  called_none : (es : Expressions) (picks : List Candidate) → Less n (named_by_quantifiers (called es picks).0)
  called_none es [] = none_less n
  called_none es (C.Con s ∷ picks) = none_less n
  called_none es (C.Func f ∷ picks) = none_less n
  called_none es (C.Char c ∷ picks) = none_less n
  called_none es (C.Pred p ∷ picks) = none_less n

  mutual
    term_less : (e : Unresolved) (picks : List Candidate) → HasNames n e → Less n (variables_in (resolved_term e picks).0)
    term_less (any_variable v) picks h = less_listed n (v ∷ []) (h, tt)
    term_less (any_number k) picks h = none_less n
    term_less (any_text bytes) picks h = none_less n
    term_less (any_name cs args) picks h = let r = resolved_terms args picks in named_less r.0 r.1 (terms_less args picks h)

    terms_less : (es : Unresolved_terms) (picks : List Candidate) → AllHaveNames n es → Less n (variables_in_all (resolved_terms es picks).0)
    terms_less no_terms picks h = none_less n
    terms_less (term_then e es) picks h =
        let r = resolved_term e picks in
        less_both n (variables_in r.0) (variables_in_all (resolved_terms es r.1).0) (term_less e picks h.0) (terms_less es r.1 h.1)

  mutual
    goal_less : (g : Unresolved_goal) (picks : List Candidate) → GoalHasNames n g → Less n (occurring (resolved_goal g picks).0)
    goal_less (equation a b) picks h =
        let r = resolved_term a picks in
        less_both n (variables_in r.0) (variables_in (resolved_term b r.1).0) (term_less a picks h.0) (term_less b r.1 h.1)
    goal_less (atom cs args) picks h = let r = resolved_terms args picks in called_less r.0 r.1 (terms_less args picks h)
    goal_less (all_of gs) picks h = goals_less gs picks h
    goal_less (one_of gs) picks h = goals_less gs picks h
    goal_less (choice vs c t e) picks h =
        let rc = resolved_goal c picks in
        let rt = resolved_goal t rc.1 in
        let re = resolved_goal e rt.1 in
        less_both n (occurring rc.0) (occurring rt.0 ++ occurring re.0) (goal_less c picks h.1) (less_both n (occurring rt.0) (occurring re.0) (goal_less t rc.1 h.2) (goal_less e rt.1 h.3))
    goal_less (negation g) picks h = goal_less g picks h
    goal_less (exists vs g) picks h = goal_less g picks h.1

    goals_less : (gs : Unresolved_goals) (picks : List Candidate) → GoalsHaveNames n gs → Less n (occurring_all (resolved_goals gs picks).0)
    goals_less no_goals picks h = none_less n
    goals_less (goal_then g gs) picks h =
        let r = resolved_goal g picks in
        less_both n (occurring r.0) (occurring_all (resolved_goals gs r.1).0) (goal_less g picks h.0) (goals_less gs r.1 h.1)

  mutual
    named_by_less : (g : Unresolved_goal) (picks : List Candidate) → GoalHasNames n g → Less n (named_by_quantifiers (resolved_goal g picks).0)
    named_by_less (equation a b) picks h = none_less n
    named_by_less (atom cs args) picks h = let r = resolved_terms args picks in called_none r.0 r.1
    named_by_less (all_of gs) picks h = all_named_less gs picks h
    named_by_less (one_of gs) picks h = all_named_less gs picks h
    named_by_less (choice vs c t e) picks h =
        let rc = resolved_goal c picks in
        let rt = resolved_goal t rc.1 in
        let re = resolved_goal e rt.1 in
        let nc = named_by_quantifiers rc.0 in
        let nt = named_by_quantifiers rt.0 in
        let ne = named_by_quantifiers re.0 in
        less_both n vs (nc ++ (nt ++ ne)) (less_listed n vs h.0) (less_both n nc (nt ++ ne) (named_by_less c picks h.1) (less_both n nt ne (named_by_less t rc.1 h.2) (named_by_less e rt.1 h.3)))
    named_by_less (negation g) picks h = named_by_less g picks h
    named_by_less (exists vs g) picks h = less_both n vs (named_by_quantifiers (resolved_goal g picks).0) (less_listed n vs h.0) (named_by_less g picks h.1)

    all_named_less : (gs : Unresolved_goals) (picks : List Candidate) → GoalsHaveNames n gs → Less n (named_by_quantifiers_of_all (resolved_goals gs picks).0)
    all_named_less no_goals picks h = none_less n
    all_named_less (goal_then g gs) picks h =
        let r = resolved_goal g picks in
        less_both n (named_by_quantifiers r.0) (named_by_quantifiers_of_all (resolved_goals gs r.1).0) (named_by_less g picks h.0) (all_named_less gs r.1 h.1)

  head_less : (es : Expressions) → Less n (variables_in_all es) → Less n (variables_in_all (expressions (listed_expressions es)))
  head_less no_expressions h = none_less n
  head_less (expression_then e es) h =
      less_both n (variables_in e) (variables_in_all (expressions (listed_expressions es)))
      (λ v i. h v (in_left v (variables_in e) (variables_in_all es) i))
      (head_less es (λ v i. h v (in_right v (variables_in e) (variables_in_all es) i)))

  pub clause_less : (clause : Unresolved_clause) (picks : List Candidate) → ClauseHasNames n clause → Less n (clause_variables (resolved clause picks))
  clause_less clause picks h =
      let r = resolved_terms clause.head picks in
      let body = (resolved_goal clause.body r.1).0 in
      less_both n (variables_in_all (expressions (listed_expressions r.0))) (occurring body ++ named_by_quantifiers body) (head_less r.0 (terms_less clause.head picks h.0))
      (less_both n (occurring body) (named_by_quantifiers body) (goal_less clause.body r.1 h.1) (named_by_less clause.body r.1 h.1))

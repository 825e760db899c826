-- The quantifiers of a resolved clause name variables of their own.
use Rattle.std.proofs.Common.{ℕ, List, [], ◌∷◌, ◌++◌, ⊎_elim}
use Rattle.mc_source.specs.declared.name.Candidate.{Candidate}
use Rattle.mc_source.specs.declared.name.Candidate.TheVariants as C
use Rattle.mc_program.specs.Programs.{Expressions, no_expressions, expression_then, expressions, Formula, Equal, Call, And, Or, If, Not, Exists, Formulas, no_formulas, formula_then}
use Rattle.mc_model.specs.Lists.{Apart, Among}
use Rattle.mc_accepted.specs.Scope as S
use Rattle.mc_accepted.specs.Normal.{named_by_quantifiers, named_by_quantifiers_of_all}
use Rattle.mc_accepted.specs.Resolving.{Unresolved, any_variable, any_number, any_text, any_name, Unresolved_terms, no_terms, term_then, Unresolved_goal, equation, atom, all_of, one_of, choice, negation, exists, Unresolved_goals, no_goals, goal_then, Unresolved_clause, named, called, resolved_term, resolved_terms, resolved_goal, resolved_goals, listed_expressions, resolved}
use Rattle.laws_language.specs.ScopeLaws.{QuantifiersApart, PartsApart, DisjunctsApart}
use Rattle.laws_language.proofs.FlatGoals.{in_left, in_right, in_either}
use Rattle.laws_language.proofs.Scopes.{clauses_are_scoped}
use Rattle.laws_order.specs.NormalScopes as N
use Rattle.laws_order.specs.NormalScopes.{OwnNames, PartsOwnNames, DisjunctsOwnNames}
use Rattle.laws_order.proofs.ScopedNames.{scoped_named_apart}
use Rattle.mc_clauses.specs.Unresolved.{unresolved_clause, unresolved_query}
use Rattle.laws_types.specs.Mentioned.{variables_in, variables_in_all, occurring, occurring_all, quantified, quantified_in_all, mentioned, all_mentioned, NamesItsOwn, PartsNameTheirOwn, DisjunctsNameTheirOwn, ClauseNamesItsOwn}
use Rattle.laws_types.proofs.Clauses.{clauses_name_their_own, queries_name_their_own}
use Rattle.laws_truth.specs.Scopes.{ResolvedNameTheirOwn, ScopesFit, ResolvedScopesFit}

both_among : (X Y X' Y' : List ℕ) → Among X X' → Among Y Y' → Among (X ++ Y) (X' ++ Y')
both_among X Y X' Y' h k x i = ⊎_elim (λ a. in_left x X' Y' (h x a)) (λ a. in_right x X' Y' (k x a)) (in_either x X Y i)

itself : (X : List ℕ) → Among X X
itself X x i = i

fewer : (vs X X' : List ℕ) → Among X X' → Apart vs X' → Apart vs X
fewer vs X X' h a x i j = a x i (h x j)

-- THE VARIABLES of what is resolved were there before
named_variables : (es : Expressions) (picks : List Candidate) → Among (S.variables_in (named es picks).0) (S.variables_in_all es)
named_variables es [] x i = i
named_variables es (C.Con s ∷ picks) x i = i
named_variables es (C.Func f ∷ picks) x i = i
named_variables es (C.Char c ∷ picks) x i = absurd i
named_variables es (C.Pred p ∷ picks) x i = i

called_variables : (es : Expressions) (picks : List Candidate) → Among (S.occurring (called es picks).0) (S.variables_in_all es)
called_variables es [] x i = i
called_variables es (C.Con s ∷ picks) x i = i
called_variables es (C.Func f ∷ picks) x i = i
called_variables es (C.Char c ∷ picks) x i = i
called_variables es (C.Pred p ∷ picks) x i = i

called_names : (es : Expressions) (picks : List Candidate) → Among (named_by_quantifiers (called es picks).0) []
called_names es [] x i = i
called_names es (C.Con s ∷ picks) x i = i
called_names es (C.Func f ∷ picks) x i = i
called_names es (C.Char c ∷ picks) x i = i
called_names es (C.Pred p ∷ picks) x i = i

called_own : (es : Expressions) (picks : List Candidate) (X : List ℕ) → OwnNames X (called es picks).0
called_own es [] X = tt
called_own es (C.Con s ∷ picks) X = tt
called_own es (C.Func f ∷ picks) X = tt
called_own es (C.Char c ∷ picks) X = tt
called_own es (C.Pred p ∷ picks) X = tt

mutual
  term_variables : (e : Unresolved) (picks : List Candidate) → Among (S.variables_in (resolved_term e picks).0) (variables_in e)
  term_variables (any_variable v) picks x i = i
  term_variables (any_number n) picks x i = i
  term_variables (any_text bytes) picks x i = i
  term_variables (any_name cs args) picks x i = let r = resolved_terms args picks in terms_variables args picks x (named_variables r.0 r.1 x i)

  terms_variables : (es : Unresolved_terms) (picks : List Candidate) → Among (S.variables_in_all (resolved_terms es picks).0) (variables_in_all es)
  terms_variables no_terms picks = λ x i. i
  terms_variables (term_then e es) picks =
      let r = resolved_term e picks in
      both_among (S.variables_in r.0) (S.variables_in_all (resolved_terms es r.1).0) (variables_in e) (variables_in_all es) (term_variables e picks) (terms_variables es r.1)

mutual
  goal_variables : (g : Unresolved_goal) (picks : List Candidate) → Among (S.occurring (resolved_goal g picks).0) (occurring g)
  goal_variables (equation a b) picks =
      let r = resolved_term a picks in
      both_among (S.variables_in r.0) (S.variables_in (resolved_term b r.1).0) (variables_in a) (variables_in b) (term_variables a picks) (term_variables b r.1)
  goal_variables (atom cs args) picks = λ x i. let r = resolved_terms args picks in terms_variables args picks x (called_variables r.0 r.1 x i)
  goal_variables (all_of gs) picks = goals_variables gs picks
  goal_variables (one_of gs) picks = goals_variables gs picks
  goal_variables (choice vs c t e) picks =
      let rc = resolved_goal c picks in
      let rt = resolved_goal t rc.1 in
      let re = resolved_goal e rt.1 in
      both_among (S.occurring rc.0) (S.occurring rt.0 ++ S.occurring re.0) (occurring c) (occurring t ++ occurring e) (goal_variables c picks)
      (both_among (S.occurring rt.0) (S.occurring re.0) (occurring t) (occurring e) (goal_variables t rc.1) (goal_variables e rt.1))
  goal_variables (negation g) picks = goal_variables g picks
  goal_variables (exists vs g) picks = goal_variables g picks

  goals_variables : (gs : Unresolved_goals) (picks : List Candidate) → Among (S.occurring_all (resolved_goals gs picks).0) (occurring_all gs)
  goals_variables no_goals picks = λ x i. i
  goals_variables (goal_then g gs) picks =
      let r = resolved_goal g picks in
      both_among (S.occurring r.0) (S.occurring_all (resolved_goals gs r.1).0) (occurring g) (occurring_all gs) (goal_variables g picks) (goals_variables gs r.1)

mutual
  goal_names : (g : Unresolved_goal) (picks : List Candidate) → Among (named_by_quantifiers (resolved_goal g picks).0) (quantified g)
  goal_names (equation a b) picks = λ x i. i
  goal_names (atom cs args) picks = λ x i. let r = resolved_terms args picks in called_names r.0 r.1 x i
  goal_names (all_of gs) picks = goals_names gs picks
  goal_names (one_of gs) picks = goals_names gs picks
  goal_names (choice vs c t e) picks =
      let rc = resolved_goal c picks in
      let rt = resolved_goal t rc.1 in
      let re = resolved_goal e rt.1 in
      let nc = named_by_quantifiers rc.0 in
      let nt = named_by_quantifiers rt.0 in
      let ne = named_by_quantifiers re.0 in
      both_among vs (nc ++ (nt ++ ne)) vs (quantified c ++ (quantified t ++ quantified e)) (itself vs)
      (both_among nc (nt ++ ne) (quantified c) (quantified t ++ quantified e) (goal_names c picks) (both_among nt ne (quantified t) (quantified e) (goal_names t rc.1) (goal_names e rt.1)))
  goal_names (negation g) picks = goal_names g picks
  goal_names (exists vs g) picks = both_among vs (named_by_quantifiers (resolved_goal g picks).0) vs (quantified g) (itself vs) (goal_names g picks)

  goals_names : (gs : Unresolved_goals) (picks : List Candidate) → Among (named_by_quantifiers_of_all (resolved_goals gs picks).0) (quantified_in_all gs)
  goals_names no_goals picks = λ x i. i
  goals_names (goal_then g gs) picks =
      let r = resolved_goal g picks in
      both_among (named_by_quantifiers r.0) (named_by_quantifiers_of_all (resolved_goals gs r.1).0) (quantified g) (quantified_in_all gs) (goal_names g picks) (goals_names gs r.1)

goal_mentions : (g : Unresolved_goal) (picks : List Candidate) → Among (N.mentioned (resolved_goal g picks).0) (mentioned g)
goal_mentions g picks = let r = resolved_goal g picks in both_among (S.occurring r.0) (named_by_quantifiers r.0) (occurring g) (quantified g) (goal_variables g picks) (goal_names g picks)

goals_mention : (gs : Unresolved_goals) (picks : List Candidate) → Among (N.all_mentioned (resolved_goals gs picks).0) (all_mentioned gs)
goals_mention gs picks =
    let r = resolved_goals gs picks in
    both_among (S.occurring_all r.0) (named_by_quantifiers_of_all r.0) (occurring_all gs) (quantified_in_all gs) (goals_variables gs picks) (goals_names gs picks)

-- QUANTIFIERS
mutual
  goal_own : (g : Unresolved_goal) (picks : List Candidate) (X Y : List ℕ) → Among X Y → NamesItsOwn Y g → OwnNames X (resolved_goal g picks).0
  goal_own (equation a b) picks X Y h o = tt
  goal_own (atom cs args) picks X Y h o = let r = resolved_terms args picks in called_own r.0 r.1 X
  goal_own (all_of gs) picks X Y h o = parts_own gs picks X Y h o
  goal_own (one_of gs) picks X Y h o = disjuncts_own gs picks X Y h o
  goal_own (choice vs c t e) picks X Y h o =
      let rc = resolved_goal c picks in
      let rt = resolved_goal t rc.1 in (
        fewer vs X Y h o.0,
        goal_own c picks (X ++ (vs ++ N.mentioned rt.0)) (Y ++ (vs ++ mentioned t)) (both_among X (vs ++ N.mentioned rt.0) Y (vs ++ mentioned t) h (both_among vs (N.mentioned rt.0) vs (mentioned t) (itself vs) (goal_mentions t rc.1))) o.1,
        goal_own t rc.1 (X ++ (vs ++ N.mentioned rc.0)) (Y ++ (vs ++ mentioned c)) (both_among X (vs ++ N.mentioned rc.0) Y (vs ++ mentioned c) h (both_among vs (N.mentioned rc.0) vs (mentioned c) (itself vs) (goal_mentions c picks))) o.2,
        goal_own e rt.1 X Y h o.3,
      )
  goal_own (negation g) picks X Y h o = goal_own g picks X Y h o
  goal_own (exists vs g) picks X Y h o = (fewer vs X Y h o.0, goal_own g picks (X ++ vs) (Y ++ vs) (both_among X vs Y vs h (itself vs)) o.1)

  parts_own : (gs : Unresolved_goals) (picks : List Candidate) (X Y : List ℕ) → Among X Y → PartsNameTheirOwn Y gs → PartsOwnNames X (resolved_goals gs picks).0
  parts_own no_goals picks X Y h o = tt
  parts_own (goal_then g gs) picks X Y h o =
      let r = resolved_goal g picks in
      let rs = resolved_goals gs r.1 in (
        goal_own g picks (X ++ N.all_mentioned rs.0) (Y ++ all_mentioned gs) (both_among X (N.all_mentioned rs.0) Y (all_mentioned gs) h (goals_mention gs r.1)) o.0,
        parts_own gs r.1 (X ++ N.mentioned r.0) (Y ++ mentioned g) (both_among X (N.mentioned r.0) Y (mentioned g) h (goal_mentions g picks)) o.1,
      )

  disjuncts_own : (gs : Unresolved_goals) (picks : List Candidate) (X Y : List ℕ) → Among X Y → DisjunctsNameTheirOwn Y gs → DisjunctsOwnNames X (resolved_goals gs picks).0
  disjuncts_own no_goals picks X Y h o = tt
  disjuncts_own (goal_then g gs) picks X Y h o = (goal_own g picks X Y h o.0, disjuncts_own gs (resolved_goal g picks).1 X Y h o.1)

listed_variables : (es : Expressions) → Among (S.variables_in_all (expressions (listed_expressions es))) (S.variables_in_all es)
listed_variables no_expressions = λ x i. i
listed_variables (expression_then e es) =
    both_among (S.variables_in e) (S.variables_in_all (expressions (listed_expressions es))) (S.variables_in e) (S.variables_in_all es) (itself (S.variables_in e)) (listed_variables es)

pub resolved_name_their_own : ResolvedNameTheirOwn
resolved_name_their_own clause picks h =
    let r = resolved_terms clause.head picks in
    goal_own clause.body r.1 (S.variables_in_all (expressions (listed_expressions r.0))) (variables_in_all clause.head)
    (λ x i. terms_variables clause.head picks x (listed_variables r.0 x i)) h

-- SCOPES
mutual
  quantifiers_apart : (O X : List ℕ) (g : Formula) → Among O X → OwnNames X g → QuantifiersApart O g
  quantifiers_apart O X (Equal a b) h o = tt
  quantifiers_apart O X (Call p ts) h o = tt
  quantifiers_apart O X (And gs) h o = parts_apart O X gs h o
  quantifiers_apart O X (Or gs) h o = disjuncts_apart O X gs h o
  quantifiers_apart O X (If vs c t e) h o =
      let seen : (g : Formula) → Among (O ++ S.occurring g) (X ++ (vs ++ N.mentioned g)) =
      λ g. both_among O (S.occurring g) X (vs ++ N.mentioned g) h (λ x i. in_right x vs (N.mentioned g) (in_left x (S.occurring g) (named_by_quantifiers g) i)) in (
        fewer vs O X h o.0,
        quantifiers_apart (O ++ S.occurring t) (X ++ (vs ++ N.mentioned t)) c (seen t) o.1,
        quantifiers_apart (O ++ S.occurring c) (X ++ (vs ++ N.mentioned c)) t (seen c) o.2,
        quantifiers_apart O X e h o.3,
      )
  quantifiers_apart O X (Not g) h o = quantifiers_apart O X g h o
  quantifiers_apart O X (Exists vs g) h o = (fewer vs O X h o.0, quantifiers_apart O (X ++ vs) g (λ x i. in_left x X vs (h x i)) o.1)

  parts_apart : (O X : List ℕ) (gs : Formulas) → Among O X → PartsOwnNames X gs → PartsApart O gs
  parts_apart O X no_formulas h o = tt
  parts_apart O X (formula_then g gs) h o = (
    quantifiers_apart (O ++ S.occurring_all gs) (X ++ N.all_mentioned gs) g
        (both_among O (S.occurring_all gs) X (N.all_mentioned gs) h (λ x i. in_left x (S.occurring_all gs) (named_by_quantifiers_of_all gs) i)) o.0,
    parts_apart (O ++ S.occurring g) (X ++ N.mentioned g) gs (both_among O (S.occurring g) X (N.mentioned g) h (λ x i. in_left x (S.occurring g) (named_by_quantifiers g) i)) o.1,
  )

  disjuncts_apart : (O X : List ℕ) (gs : Formulas) → Among O X → DisjunctsOwnNames X gs → DisjunctsApart O gs
  disjuncts_apart O X no_formulas h o = tt
  disjuncts_apart O X (formula_then g gs) h o = (quantifiers_apart O X g h o.0, disjuncts_apart O X gs h o.1)

scopes_fit : (clause : Unresolved_clause) (picks : List Candidate) → ClauseNamesItsOwn clause → ScopesFit (resolved clause picks)
scopes_fit clause picks h =
    let c = resolved clause picks in
    let head = S.variables_in_all (expressions c.head) in
    let own = resolved_name_their_own clause picks h in
    (clauses_are_scoped c (quantifiers_apart head head c.body (itself head) own), scoped_named_apart c own)

pub resolved_scopes_fit : ResolvedScopesFit
resolved_scopes_fit l own pred t picks =
    (scopes_fit (unresolved_clause l own pred t).clause picks (clauses_name_their_own l own pred t), scopes_fit (unresolved_query l own pred t).clause picks (queries_name_their_own l own pred t))

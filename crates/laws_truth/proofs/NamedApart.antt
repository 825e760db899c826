-- The quantifiers of the clauses that run are named apart, where those of typed clauses are and those of the
-- query name new variables.
use Rattle.std.proofs.Common.{◌≡◌, inl, inr, ℕ, ◌<◌, nat_eq, Bool, true, false, if◌then◌else◌, List, [], ◌∷◌, ◌++◌, length, map, get_or, Option, Some, None, refl, sym, ap, ◌∙◌, subst, ⊎_elim}
use Rattle.mc_program.specs.Programs.{expressions, variable, Formula, Equal, Call, And, Or, If, Not, Exists, Formulas, no_formulas, formula_then}
use Rattle.mc_program.specs.PlainPrograms.{plain_program}
use Rattle.mc_model.specs.Lists.{In, Apart, Among, once, without}
use Rattle.laws_language.proofs.FlatGoals.{in_either, in_left, in_right}
use Rattle.mc_accepted.specs.Fits.{EachClauseHasScopes}
use Rattle.mc_accepted.specs.Normal.{named_by_quantifiers, named_by_quantifiers_of_all}
use Rattle.mc_accepted.specs.NormalTypes.{TypedClause, is_unasked, asked_of, unasked_of, free_variables, query_clause}
use Rattle.mc_accepted.specs.Scope.{variables_in_all, occurring, occurring_all, free_of, quantified, scoped, scoped_parts, scoped_disjuncts, clause_scoped, HasScopes, PartsHaveScopes, DisjunctsHaveScopes, ClauseHasScopes}
use Rattle.mc_names.specs.Linked.{Linked}
use Rattle.laws_types.specs.GoalTypes.{forms_of}
use Rattle.mc_core_program.specs.Whole.{of_number, name_in, whole_clause}
use Rattle.mc_core_program.specs.Wholes.{IsWhole, final_definitions, behind, query_clauses, clauses_of}
use Rattle.mc_core_program.specs.declared.whole_program_program.WholeProgram.{WholeProgram}
use Rattle.laws_order.specs.NormalScopes.{NamedApart, ClauseNamedApart, EachNamedApart, OwnNames}
use Rattle.laws_order.proofs.ScopedNames.{scoped_named_apart}
use Rattle.laws_truth.proofs.OwnNames.{NamesNewOnes}
use Rattle.laws_truth.proofs.Wholes.{clauses_of_query, declared_clauses, which}

-- ---- the query's clause
variables_are : (xs : List ℕ) → variables_in_all (expressions (map variable xs)) ≡ xs
variables_are [] = refl
variables_are (x ∷ xs) = ap (λ ys. x ∷ ys) (variables_are xs)

module _ (names : ℕ → List ℕ) where
  asked_is : (xs : List ℕ) (x : ℕ) → In x (asked_of names xs) → is_unasked (names x) ≡ false
  asked_is [] x i = absurd i
  asked_is (y ∷ ys) x i = at (is_unasked (names y)) refl (λ j. asked_is ys x j) i
    where
      at : (t : Bool) → is_unasked (names y) ≡ t → (In x (asked_of names ys) → is_unasked (names x) ≡ false) → In x (if t then asked_of names ys else y ∷ asked_of names ys) → is_unasked (names x) ≡ false
      at true e later i = later i
      at false e later (inl same) = ap (λ z. is_unasked (names z)) same ∙ e
      at false e later (inr i) = later i

  unasked_is : (xs : List ℕ) (x : ℕ) → In x (unasked_of names xs) → is_unasked (names x) ≡ true
  unasked_is [] x i = absurd i
  unasked_is (y ∷ ys) x i = at (is_unasked (names y)) refl (λ j. unasked_is ys x j) i
    where
      at : (t : Bool) → is_unasked (names y) ≡ t → (In x (unasked_of names ys) → is_unasked (names x) ≡ true) → In x (if t then y ∷ unasked_of names ys else unasked_of names ys) → is_unasked (names x) ≡ true
      at true e later (inl same) = ap (λ z. is_unasked (names z)) same ∙ e
      at true e later (inr i) = later i
      at false e later i = later i

  unasked_apart : (xs : List ℕ) → Apart (unasked_of names xs) (asked_of names xs)
  unasked_apart xs x i j = let e : true ≡ false = sym (unasked_is xs x i) ∙ asked_is xs x j in cc

  around_apart : (O vs : List ℕ) (g : Formula) → Apart vs O → NamedApart O g → NamedApart O (quantified vs g)
  around_apart O [] g a h = h
  around_apart O (v ∷ vs) g a h = (a, h)

  -- it is named apart where the quantifiers of the goal name variables of their own, the variables
  -- that the query asks for being around it
  pub query_named_apart : (g : Formula) → OwnNames (asked_of names (free_variables g)) g → ClauseNamedApart (query_clause names g)
  query_named_apart g own =
      let xs : List ℕ = asked_of names (free_variables g) in
      let same : variables_in_all (expressions (map variable xs)) ≡ xs = variables_are xs in
      let scoped_apart : NamedApart xs (scoped xs g) =
      subst (λ ys. NamedApart ys (scoped ys g)) same
      (scoped_named_apart (record { head = map variable xs; body = g }) (subst (λ ys. OwnNames ys g) (sym same) own)) in
      subst (λ ys. NamedApart ys (quantified (unasked_of names (free_variables g)) (scoped xs g))) (sym same)
      (around_apart xs (unasked_of names (free_variables g)) (scoped xs g) (unasked_apart (free_variables g)) scoped_apart)

-- ---- quantifiers where scopes are written out
apart_left : (xs O E : List ℕ) → Apart xs (O ++ E) → Apart xs O
apart_left xs O E h x i j = h x i (in_left x O E j)

apart_both : (xs ys O : List ℕ) → Apart xs O → Apart ys O → Apart (xs ++ ys) O
apart_both xs ys O h k x i j = ⊎_elim (λ e. h x e j) (λ e. k x e j) (in_either x xs ys i)

-- they name nothing that occurs outside
mutual
  names_outside : (O Q : List ℕ) (g : Formula) → HasScopes O Q g → Apart (named_by_quantifiers g) O
  names_outside O Q (Equal a b) h = λ x i j. i
  names_outside O Q (Call p ts) h = λ x i j. i
  names_outside O Q (And gs) h = names_of_parts O Q gs h
  names_outside O Q (Or gs) h = names_of_disjuncts O Q gs h
  names_outside O Q (If vs c t e) h =
      apart_both vs (named_by_quantifiers c ++ (named_by_quantifiers t ++ named_by_quantifiers e)) O h.0
      (apart_both (named_by_quantifiers c) (named_by_quantifiers t ++ named_by_quantifiers e) O
      (apart_left (named_by_quantifiers c) O (occurring t) (names_outside (O ++ occurring t) (Q ++ vs) c h.2))
      (apart_both (named_by_quantifiers t) (named_by_quantifiers e) O
      (apart_left (named_by_quantifiers t) O (occurring c) (names_outside (O ++ occurring c) (Q ++ vs) t h.3)) (names_outside O Q e h.4)))
  names_outside O Q (Not g) h = names_outside O Q g h.1
  names_outside O Q (Exists vs g) h = apart_both vs (named_by_quantifiers g) O h.0 (names_outside O (Q ++ vs) g h.1)

  names_of_parts : (O Q : List ℕ) (gs : Formulas) → PartsHaveScopes O Q gs → Apart (named_by_quantifiers_of_all gs) O
  names_of_parts O Q no_formulas h = λ x i j. i
  names_of_parts O Q (formula_then g gs) h =
      apart_both (named_by_quantifiers g) (named_by_quantifiers_of_all gs) O
      (apart_left (named_by_quantifiers g) O (occurring_all gs) (names_outside (O ++ occurring_all gs) Q g h.0))
      (apart_left (named_by_quantifiers_of_all gs) O (occurring g) (names_of_parts (O ++ occurring g) Q gs h.1))

  names_of_disjuncts : (O Q : List ℕ) (gs : Formulas) → DisjunctsHaveScopes O Q gs → Apart (named_by_quantifiers_of_all gs) O
  names_of_disjuncts O Q no_formulas h = λ x i j. i
  names_of_disjuncts O Q (formula_then g gs) h =
      apart_both (named_by_quantifiers g) (named_by_quantifiers_of_all gs) O (names_outside O Q g h.0) (names_of_disjuncts O Q gs h.1)

among_both : (xs ys us vs : List ℕ) → Among xs us → Among ys vs → Among (xs ++ ys) (us ++ vs)
among_both xs ys us vs h k x i = ⊎_elim (λ e. in_left x us vs (h x e)) (λ e. in_right x us vs (k x e)) (in_either x xs ys i)

names_around : (vs : List ℕ) (g : Formula) → Among (named_by_quantifiers g) (named_by_quantifiers (quantified vs g))
names_around [] g x i = i
names_around (v ∷ vs) g x i = in_right x (v ∷ vs) (named_by_quantifiers g) i

-- writing scopes out keeps quantifiers
mutual
  names_stay : (O : List ℕ) (g : Formula) → Among (named_by_quantifiers g) (named_by_quantifiers (scoped O g))
  names_stay O (Equal a b) = λ x i. i
  names_stay O (Call p ts) = λ x i. i
  names_stay O (And gs) = names_of_parts_stay O gs
  names_stay O (Or gs) = names_of_disjuncts_stay O gs
  names_stay O (If vs c t e) =
      let c' : Formula = scoped (O ++ (vs ++ occurring t)) c in
      let t' : Formula = scoped (O ++ (vs ++ occurring c)) t in
      let e' : Formula = scoped O e in
      among_both vs (named_by_quantifiers c ++ (named_by_quantifiers t ++ named_by_quantifiers e)) (vs ++ once (without (free_of c') (O ++ vs))) (named_by_quantifiers c' ++ (named_by_quantifiers t' ++ named_by_quantifiers e'))
      (λ x i. in_left x vs (once (without (free_of c') (O ++ vs))) i)
      (among_both (named_by_quantifiers c) (named_by_quantifiers t ++ named_by_quantifiers e) (named_by_quantifiers c') (named_by_quantifiers t' ++ named_by_quantifiers e') (names_stay (O ++ (vs ++ occurring t)) c)
      (among_both (named_by_quantifiers t) (named_by_quantifiers e) (named_by_quantifiers t') (named_by_quantifiers e') (names_stay (O ++ (vs ++ occurring c)) t) (names_stay O e)))
  names_stay O (Not g) = λ x i. names_around (once (without (free_of (scoped O g)) O)) (scoped O g) x (names_stay O g x i)
  names_stay O (Exists vs g) = among_both vs (named_by_quantifiers g) vs (named_by_quantifiers (scoped (O ++ vs) g)) (λ x i. i) (names_stay (O ++ vs) g)

  names_of_parts_stay : (O : List ℕ) (gs : Formulas) → Among (named_by_quantifiers_of_all gs) (named_by_quantifiers_of_all (scoped_parts O gs))
  names_of_parts_stay O no_formulas = λ x i. i
  names_of_parts_stay O (formula_then g gs) =
      among_both (named_by_quantifiers g) (named_by_quantifiers_of_all gs) (named_by_quantifiers (scoped (O ++ occurring_all gs) g)) (named_by_quantifiers_of_all (scoped_parts (O ++ occurring g) gs))
      (names_stay (O ++ occurring_all gs) g) (names_of_parts_stay (O ++ occurring g) gs)

  names_of_disjuncts_stay : (O : List ℕ) (gs : Formulas) → Among (named_by_quantifiers_of_all gs) (named_by_quantifiers_of_all (scoped_disjuncts O gs))
  names_of_disjuncts_stay O no_formulas = λ x i. i
  names_of_disjuncts_stay O (formula_then g gs) =
      among_both (named_by_quantifiers g) (named_by_quantifiers_of_all gs) (named_by_quantifiers (scoped O g)) (named_by_quantifiers_of_all (scoped_disjuncts O gs))
      (names_stay O g) (names_of_disjuncts_stay O gs)

-- So they are those of a query: what it asks for is apart from them where its scopes are written out.
module _ (names : ℕ → List ℕ) (g : Formula) (new : NamesNewOnes g) where
  query_is_apart : ClauseHasScopes (query_clause names g) → ClauseNamedApart (query_clause names g)
  query_is_apart h = query_named_apart names g (new xs apart)
    where
      xs : List ℕ
      xs = asked_of names (free_variables g)

      apart : Apart (named_by_quantifiers g) xs
      apart x i j =
          names_outside (variables_in_all (expressions (map variable xs))) [] (quantified (unasked_of names (free_variables g)) (scoped xs g)) h x
          (names_around (unasked_of names (free_variables g)) (scoped xs g) x (names_stay xs g x i))
          (subst (In x) (sym (variables_are xs)) j)

-- ---- all clauses of a program
-- those of typed clauses are named apart, with their scopes written out
abbrev pub ClausesNamedApart : List (ℕ × TypedClause) → Type 0
ClausesNamedApart [] = Unit {0}
ClausesNamedApart (c ∷ cs) = ClauseNamedApart (clause_scoped c.1.clause) × ClausesNamedApart cs

abbrev pub QueryNamesNewOnes : Option TypedClause → Type 0
QueryNamesNewOnes None = Unit {0}
QueryNamesNewOnes (Some c) = NamesNewOnes c.clause.body

-- so are those of the predicates of the program that runs, the query's where its scopes are written out
module _ (l : Linked) (clauses : List (ℕ × TypedClause)) (query : Option TypedClause) (apart : ClausesNamedApart clauses) (new : QueryNamesNewOnes query) where
  of_one : (p : ℕ) → EachNamedApart (forms_of (clauses_of l clauses p))
  of_one p = each clauses apart
    where
      each : (cs : List (ℕ × TypedClause)) → ClausesNamedApart cs → EachNamedApart (forms_of (clauses_of l cs p))
      each [] h = tt
      each ((q, c) ∷ cs) h = at (nat_eq q p) (each cs h.1)
        where
          at : (t : Bool) → EachNamedApart (forms_of (clauses_of l cs p)) → EachNamedApart (forms_of (map (whole_clause (final_definitions l)) (if t then c ∷ of_number p cs else of_number p cs)))
          at true later = (h.0, later)
          at false later = later

  of_query : (q : Option TypedClause) → QueryNamesNewOnes q → EachClauseHasScopes (forms_of (get_or (behind (query_clauses l) q) 0 [])) → EachNamedApart (forms_of (get_or (behind (query_clauses l) q) 0 []))
  of_query None h s = tt
  of_query (Some c) h s = (query_is_apart (name_in c) c.clause.body h s.0, tt)

  module _ (whole : WholeProgram) (is : IsWhole l clauses query whole) where
    pub whole_named_apart : ((c : TypedClause) → query ≡ Some c → EachClauseHasScopes ((plain_program whole.program).preds (length l.preds)).clauses) → (p : ℕ) → p < length whole.program.preds → EachNamedApart ((plain_program whole.program).preds p).clauses
    whole_named_apart scopes p less = ⊎_elim declared asked (which l clauses query whole is p less)
      where
        declared : p < length l.preds → EachNamedApart ((plain_program whole.program).preds p).clauses
        declared own = subst EachNamedApart (sym (declared_clauses l clauses query whole is p less own)) (of_one p)

        asked : (p ≡ length l.preds) × ((c : TypedClause) × (query ≡ Some c)) → EachNamedApart ((plain_program whole.program).preds p).clauses
        asked here =
            let same = clauses_of_query l clauses query whole is p less here.0 in
            let s = subst (λ n. EachClauseHasScopes ((plain_program whole.program).preds n).clauses) (sym here.0) (scopes here.1.0 here.1.1) in
            subst EachNamedApart (sym same) (of_query query new (subst EachClauseHasScopes same s))

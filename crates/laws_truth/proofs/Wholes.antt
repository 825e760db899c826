-- The predicates of the program that runs: those that are declared, and the query's behind them.
use Rattle.std.proofs.Common.{◌≡◌, ◌⊎◌, ℕ, zero, suc, ◌+◌, ◌<◌, List, [], ◌∷◌, ◌++◌, map, length, get_or, refl, sym, ap, ◌∙◌, subst, arith}
use Rattle.std.specs.Prelude.{Option, Some, None}
use Rattle.std.proofs.lemmas.List.{length-map}
use Rattle.mc_program.specs.Programs.{ClauseForm, Predicate, Source}
use Rattle.mc_program.specs.PlainPrograms.{plain_pred, plain_program, no_pred}
use Rattle.mc_accepted.specs.NormalTypes.{TypedClause}
use Rattle.mc_names.specs.Linked.{Linked}
use Rattle.mc_type_table.specs.Rules.{definitions}
use Rattle.mc_declarations.specs.Declarations.{predicate_of}
use Rattle.laws_types.specs.GoalTypes.{forms_of}
use Rattle.mc_core_program.specs.Whole.{each_with_clauses}
use Rattle.mc_core_program.specs.Wholes.{IsWhole, query_clauses, query_predicate, behind, clauses_of, bare_predicates, all_clauses, all_predicates}
use Rattle.mc_core_program.specs.declared.whole_program_program.WholeProgram.{WholeProgram}
use Rattle.laws_types.specs.WholeTypes.{asked_predicate}
use Rattle.laws_types.proofs.Places.{asked_clauses, joined, own_clauses, query_at, whole_clauses, whole_count, within_all}

builtins_stay : (ps : List Predicate) (css : List (List ClauseForm)) (k : ℕ) → (get_or (each_with_clauses ps css) k no_pred).builtin ≡ (get_or ps k no_pred).builtin
builtins_stay [] css k = refl
builtins_stay (p ∷ ps) [] zero = refl
builtins_stay (p ∷ ps) [] (suc k) = builtins_stay ps [] k
builtins_stay (p ∷ ps) (cs ∷ css) zero = refl
builtins_stay (p ∷ ps) (cs ∷ css) (suc k) = builtins_stay ps css k

module _ (l : Linked) (clauses : List (ℕ × TypedClause)) (query : Option TypedClause) (whole : WholeProgram) (is : IsWhole l clauses query whole) where
  abbrev P : Source
  P = plain_program whole.program

  pred_is : (p : ℕ) → P.preds p ≡ get_or (all_predicates l clauses query) p no_pred
  pred_is p = ap (λ (S : Source). S.preds p) is.is

  as_many : length whole.program.preds ≡ length (bare_predicates l query)
  as_many = sym (length-map whole.program.preds plain_pred) ∙ ap length is.preds ∙ whole_count l clauses query

  pub which : (p : ℕ) → p < length whole.program.preds → (p < length l.preds) ⊎ ((p ≡ length l.preds) × ((c : TypedClause) × (query ≡ Some c)))
  which p less = within_all l clauses query p (subst (λ n. p < n) as_many less)

  clauses_are : (p : ℕ) → p < length whole.program.preds → (P.preds p).clauses ≡ forms_of (get_or (all_clauses l clauses query) p [])
  clauses_are p less = ap (λ (d : Predicate). d.clauses) (pred_is p) ∙ whole_clauses l clauses query p (subst (λ n. p < n) as_many less)

  pub declared_clauses : (p : ℕ) → p < length whole.program.preds → p < length l.preds → (P.preds p).clauses ≡ forms_of (clauses_of l clauses p)
  declared_clauses p less own = clauses_are p less ∙ ap forms_of (own_clauses l clauses query p own)

  pub clauses_of_query : (p : ℕ) → p < length whole.program.preds → p ≡ length l.preds → (P.preds p).clauses ≡ forms_of (get_or (behind (query_clauses l) query) 0 [])
  clauses_of_query p less e = clauses_are p less ∙ ap forms_of (asked_clauses l clauses query p e)

  pub query_there : (c : TypedClause) → query ≡ Some c → length l.preds < length whole.program.preds
  query_there c e =
      let own : List Predicate = map (predicate_of l (definitions l)) l.preds in
      let many : length (bare_predicates l query) ≡ length own + 1 =
      ap (λ q. length (own ++ behind (query_predicate l) q)) e ∙ joined own (query_predicate l c ∷ []) in
      omega (arith, as_many, many, length-map l.preds (predicate_of l (definitions l)))

  none_asked : (q : Option TypedClause) → (asked_predicate l q).builtin ≡ None
  none_asked None = refl
  none_asked (Some c) = refl

  pub query_has_no_builtin : (P.preds (length l.preds)).builtin ≡ None
  query_has_no_builtin =
      ap (λ (d : Predicate). d.builtin) (pred_is (length l.preds))
      ∙ builtins_stay (bare_predicates l query) (map (map (λ (c : TypedClause). c.clause)) (all_clauses l clauses query)) (length l.preds)
      ∙ ap (λ (d : Predicate). d.builtin) (query_at l clauses query (length l.preds) refl)
      ∙ none_asked query

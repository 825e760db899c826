-- The quantifiers of typed clauses: they name variables of their own, so they are named apart where scopes
-- are written out, and those of a query name new ones.
use Rattle.std.proofs.Common.{ℕ, List, [], ◌∷◌, ◌++◌, map, length, Option, Some, None, sym, ap, ◌∙◌, subst}
use Rattle.std.specs.Option.{option_map, option_to_list}
use Rattle.mc_term_data.specs.Plain.{PlainTerm}
use Rattle.mc_source.specs.declared.name.Candidate.{Candidate}
use Rattle.mc_program.specs.Programs.{ClauseForm, expressions}
use Rattle.mc_accepted.specs.Resolving.{Unresolved_clause, resolved}
use Rattle.mc_accepted.specs.Scope.{clause_scoped, variables_in_all}
use Rattle.mc_decl_syntax.specs.Entries.{File}
use Rattle.mc_names.specs.Linked.{Linked}
use Rattle.mc_state_variables.specs.Numbered.{numbered_clause, numbered_goal}
use Rattle.mc_type_table.specs.Visibility.{definitions_seen}
use Rattle.mc_type_phase.specs.Typing.{ModuleClause, clauses_from}
use Rattle.mc_clauses.specs.Unresolved.{unresolved_clause, unresolved_query}
use Rattle.laws_types.specs.Mentioned.{ClauseNamesItsOwn}
use Rattle.laws_types.proofs.Clauses.{clauses_name_their_own, queries_name_their_own}
use Rattle.mc_goals.specs.Resolved.{typed_clause}
use Rattle.mc_type_phase.specs.Items.{Item, clause_item, query_item, items}
use Rattle.mc_type_phase.specs.Judging.{IsTyped, AreTyped}
use Rattle.mc_type_phase.specs.declared.judged.TypedClause.{TypedClause}
use Rattle.laws_order.specs.NormalScopes.{ClauseNamedApart}
use Rattle.laws_truth.proofs.ResolvedNames.{resolved_name_their_own, resolved_scopes_fit}
use Rattle.mc_compile.specs.Ruling.{numbered}
use Rattle.laws_truth.proofs.NamedApart.{ClausesNamedApart, QueryNamesNewOnes}
use Rattle.laws_truth.proofs.OwnNames.{NamesNewOnes, names_new_ones}

abbrev NamesItsOwn : ClauseForm → Type 0
NamesItsOwn c = ClauseNamedApart (clause_scoped c) × NamesNewOnes c.body

-- it does so whatever its names stand for
abbrev ItemNamesItsOwn : Item → Type 0
ItemNamesItsOwn i = (picks : List Candidate) → NamesItsOwn (resolved i.numbered.clause picks)

abbrev EachNamesItsOwn : List Item → Type 0
EachNamesItsOwn [] = Unit {0}
EachNamesItsOwn (i ∷ is) = ItemNamesItsOwn i × EachNamesItsOwn is

new_ones : (clause : Unresolved_clause) (picks : List Candidate) → ClauseNamesItsOwn clause → NamesNewOnes (resolved clause picks).body
new_ones clause picks own =
    let c : ClauseForm = resolved clause picks in
    names_new_ones (variables_in_all (expressions c.head)) c.body (resolved_name_their_own clause picks own)

module _ (l : Linked) where
  clause_names : (own pred : ℕ) (t : PlainTerm) (picks : List Candidate) → NamesItsOwn (resolved (unresolved_clause l own pred t).clause picks)
  clause_names own pred t picks = ((resolved_scopes_fit l own pred t picks).0.1, new_ones (unresolved_clause l own pred t).clause picks (clauses_name_their_own l own pred t))

  query_names : (own pred : ℕ) (t : PlainTerm) (picks : List Candidate) → NamesItsOwn (resolved (unresolved_query l own pred t).clause picks)
  query_names own pred t picks = ((resolved_scopes_fit l own pred t picks).1.1, new_ones (unresolved_query l own pred t).clause picks (queries_name_their_own l own pred t))

  clauses_name : (cs : List ModuleClause) (is : List Item) → EachNamesItsOwn is → EachNamesItsOwn (map (clause_item l) cs ++ is)
  clauses_name [] is h = h
  clauses_name (c ∷ cs) is h = (clause_names c.own c.pred (numbered_clause c.term), clauses_name cs is h)

  queries_name : (number : ℕ) (goal : Option PlainTerm) → EachNamesItsOwn (query_item l number goal)
  queries_name number None = tt
  queries_name number (Some goal) = (query_names 0 (length l.preds) (numbered_goal goal), tt)

  items_name : (files : List File) (number : ℕ) (goal : Option PlainTerm) → EachNamesItsOwn (items l files number goal)
  items_name files number goal = clauses_name (clauses_from l 0 files) (query_item l number goal) (queries_name number goal)

  -- ---- what they are resolved to
  abbrev Names : TypedClause → Type 0
  Names c = NamesItsOwn (typed_clause c.resolved).clause

  abbrev EachNames : List TypedClause → Type 0
  EachNames [] = Unit {0}
  EachNames (c ∷ cs) = Names c × EachNames cs

  typed_names : (i : Item) (c : TypedClause) → ItemNamesItsOwn i → IsTyped l (definitions_seen l) i c → Names c
  typed_names i c h typed =
      let picks : List Candidate = typed.resolved.typed.picks in
      subst NamesItsOwn (sym (typed.resolved.form ∙ ap (λ u. resolved u picks) typed.is)) (h picks)

  all_name : (is : List Item) (cs : List TypedClause) → EachNamesItsOwn is → AreTyped l (definitions_seen l) is cs → EachNames cs
  all_name [] cs h e = subst EachNames (sym e) tt
  all_name (i ∷ is) cs h e = subst EachNames (sym e.4) (typed_names i e.0 h.0 e.2, all_name is e.1 h.1 e.3)

  -- ---- the clauses, and the query behind them
  clauses_apart : (cs qs : List TypedClause) → EachNames (cs ++ qs) → ClausesNamedApart (map numbered cs) × EachNames qs
  clauses_apart [] qs h = (tt, h)
  clauses_apart (c ∷ cs) qs h = let rest = clauses_apart cs qs h.1 in ((h.0.0, rest.0), rest.1)

  query_new : (query : Option TypedClause) → EachNames (option_to_list query) → QueryNamesNewOnes (option_map (λ (c : TypedClause). typed_clause c.resolved) query)
  query_new None h = tt
  query_new (Some c) h = h.0.1

  pub typed_clauses_apart :
      (files : List File) (number : ℕ) (goal : Option PlainTerm) (clauses : List TypedClause) (query : Option TypedClause)
      → AreTyped l (definitions_seen l) (items l files number goal) (clauses ++ option_to_list query)
      → ClausesNamedApart (map numbered clauses) × QueryNamesNewOnes (option_map (λ (c : TypedClause). typed_clause c.resolved) query)
  typed_clauses_apart files number goal clauses query typed =
      let each = all_name (items l files number goal) (clauses ++ option_to_list query) (items_name files number goal) typed in
      let both = clauses_apart clauses (option_to_list query) each in
      (both.0, query_new query both.1)

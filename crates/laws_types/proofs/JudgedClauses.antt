-- What the phase that types clauses answers is typed in its modules.
use Rattle.std.proofs.Common.{◌≡◌, ℕ, List, [], ◌∷◌, map, length, sym, ap, ◌∙◌, subst}
use Rattle.mc_program.specs.Programs.{TypeTerm, ClauseForm, Source}
use Rattle.mc_program.specs.PlainPrograms.{plain_type, plain_clause}
use Rattle.mc_program.specs.declared.program.Resolved.{Resolved}
use Rattle.mc_accepted.specs.ProperTypes.{Parameters}
use Rattle.mc_accepted.specs.MostGeneral.{MostGeneral}
use Rattle.mc_accepted.specs.Resolving.{Unresolved_clause, resolved, steps_of}
use Rattle.laws_made_types.specs.Known.{ClauseHasValues, ClauseHasNames}
use Rattle.laws_made_types.proofs.KnownPicks.{picks_are_known}
use Rattle.mc_unresolved.specs.Unresolved.{plain_unresolved_clause}
use Rattle.mc_unresolved.specs.declared.clause.UnresolvedClause.{UnresolvedClause}
use Rattle.mc_typecheck.specs.Checked.{IsResolved}
use Rattle.mc_names.specs.Linked.{Linked}
use Rattle.mc_clauses.specs.Unresolved.{Numbered_clause, unresolved_clause, unresolved_query}
use Rattle.mc_declarations.specs.Declarations.{parameter_counts}
use Rattle.laws_types.proofs.Clauses.{clauses_have_names, queries_have_names}
use Rattle.mc_declarations.specs.Proper.{declared_for}
use Rattle.mc_goals.specs.Resolved.{typed_clause}
use Rattle.laws_types.specs.WholeTypes.{seen_program, IsTypedIn}
use Rattle.laws_types.specs.ResolvedClauses.{typed_as, IsResolvedIn}
use Rattle.laws_types.specs.KnownCandidates.{IsKnownIn}
use Rattle.laws_types.specs.JudgedClauses.{HasValues, JudgedClausesAreTyped, JudgedQueriesAreTyped}
use Rattle.laws_types.proofs.KnownCandidates.{candidates_are_known}
use Rattle.laws_types.proofs.ResolvedClauses.{resolved_are_typed_in, resolved_queries_are_typed}

-- a clause that was checked, whose names were read so
module _
    (l : Linked) (own : ℕ) (numbered : Numbered_clause) (clause : UnresolvedClause) (made : Resolved)
    (is : plain_unresolved_clause clause ≡ numbered.clause) (names : clause.names ≡ numbered.names)
    (known : IsKnownIn l own numbered.clause) (values : HasValues numbered) (named : ClauseHasNames (length numbered.names) numbered.clause)
    (r : IsResolved (declared_for l own) (parameter_counts l) clause made) where
  abbrev P : Source
  P = declared_for l own

  abbrev D : Parameters
  D = parameter_counts l

  abbrev v : Unresolved_clause
  v = plain_unresolved_clause clause

  abbrev pub types : List TypeTerm
  types = map plain_type made.var_types

  known_here : IsKnownIn l own v
  known_here = subst (IsKnownIn l own) (sym is) known

  here : IsResolvedIn l own v r.typed.picks (length clause.names) types
  here =
      record {
        resolves = r.typed.resolves;
        general = r.types;
        known = picks_are_known P D r.typed.resolves.0 (steps_of v) [] r.typed.picks known_here.0 r.typed.resolves.1;
        values = λ Q. subst (ClauseHasValues Q) (sym is) (values Q);
        named = subst (ClauseHasNames (length clause.names)) (sym is) (subst (λ ns. ClauseHasNames (length ns) numbered.clause) (sym names) named);
        proper = r.proper known_here.1;
      }

  pub resolved_there : IsResolvedIn l own numbered.clause r.typed.picks (length clause.names) types
  resolved_there = subst (λ u. IsResolvedIn l own u r.typed.picks (length clause.names) types) is here

  -- the clause that it is resolved to
  pub form_is : resolved numbered.clause r.typed.picks ≡ plain_clause made.clause
  form_is = sym (r.form ∙ ap (λ u. resolved u r.typed.picks) is)

  pub is_made : typed_as numbered.clause r.typed.picks (length clause.names) types made.var_names ≡ typed_clause made
  is_made =
      ap (λ (f : ClauseForm). record { clause = f; variables = length clause.names; types = types; names = made.var_names }) form_is
      ∙ ap (λ n. record { clause = plain_clause made.clause; variables = n; types = types; names = made.var_names }) (sym r.vars)

pub judged_clauses_are_typed : JudgedClausesAreTyped
judged_clauses_are_typed l own number t at query judged well none all less values typed =
    let numbered = unresolved_clause l own number t in
    let made = judged.resolved in
    let known = (candidates_are_known l own number t well none all).0 in
    let named = clauses_have_names l own number t in
    let r = typed.resolved in
    let there = resolved_there l own numbered typed.clause made typed.is typed.names known values named r in
    subst (IsTypedIn l query own number) (is_made l own numbered typed.clause made typed.is typed.names known values named r)
    (resolved_are_typed_in l own number t r.typed.picks (length typed.clause.names) (map plain_type made.var_types) made.var_names query less there)

pub judged_queries_are_typed : JudgedQueriesAreTyped
judged_queries_are_typed l own g at query judged well none all values typed =
    let number = length l.preds in
    let numbered = unresolved_query l own number g in
    let made = judged.resolved in
    let known = (candidates_are_known l own number g well none all).1 in
    let named = queries_have_names l own number g in
    let r = typed.resolved in
    let there = resolved_there l own numbered typed.clause made typed.is typed.names known values named r in
    let is = is_made l own numbered typed.clause made typed.is typed.names known values named r in
    let general = resolved_queries_are_typed l own g r.typed.picks (length typed.clause.names) (map plain_type made.var_types) made.var_names query there in
    let bare : (plain_clause made.clause).head ≡ [] = ap (λ (f : ClauseForm). f.head) (sym (form_is l own numbered typed.clause made typed.is typed.names known values named r)) in (
      own,
      bare,
      subst (MostGeneral (seen_program l query own) (parameter_counts l) []) is general,
      there.proper,
    )

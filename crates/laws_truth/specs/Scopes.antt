-- The scopes of clauses that are resolved: as their quantifiers name variables of their own, scopes
-- that are written out are those of the language, and are named apart. (Mercury Language Reference
-- Manual: Syntax, implicit quantification; Goals, quantification.)
use Rattle.std.specs.Prelude.{ℕ, List}
use Rattle.mc_term_data.specs.Plain.{PlainTerm}
use Rattle.mc_source.specs.declared.name.Candidate.{Candidate}
use Rattle.mc_program.specs.Programs.{expressions, ClauseForm}
use Rattle.mc_accepted.specs.Scope.{variables_in_all, clause_scoped, ClauseHasScopes}
use Rattle.mc_accepted.specs.Resolving.{Unresolved_clause, resolved}
use Rattle.laws_order.specs.NormalScopes.{OwnNames, ClauseNamedApart}
use Rattle.mc_names.specs.Linked.{Linked}
use Rattle.mc_clauses.specs.Unresolved.{unresolved_clause, unresolved_query}
use Rattle.laws_types.specs.Mentioned.{ClauseNamesItsOwn}

-- what a clause's quantifiers name is its own whatever its names stand for
abbrev pub ResolvedNameTheirOwn : Type 0
ResolvedNameTheirOwn =
    (clause : Unresolved_clause) (picks : List Candidate)
    → ClauseNamesItsOwn clause
    → OwnNames (variables_in_all (expressions (resolved clause picks).head))
    (resolved clause picks).body

-- what is asked of the scopes of a clause, by acceptance and by its order
abbrev pub ScopesFit : ClauseForm → Type 0
ScopesFit c = ClauseHasScopes (clause_scoped c) × ClauseNamedApart (clause_scoped c)

abbrev pub ResolvedScopesFit : Type 0
ResolvedScopesFit =
    (l : Linked) (own pred : ℕ) (t : PlainTerm) (picks : List Candidate)
    → ScopesFit (resolved (unresolved_clause l own pred t).clause picks)
    × ScopesFit (resolved (unresolved_query l own pred t).clause picks)

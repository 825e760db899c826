-- The head of a clause that picks type.
use Rattle.std.proofs.Common.{◌≡◌, suc, List, length, refl, ap, ◌∙◌}
use Rattle.mc_accepted.specs.Resolving.{Unresolved_terms, no_terms, term_then, count, resolved_term, resolved_terms, listed_expressions}
use Rattle.mc_source.specs.declared.name.Candidate.{Candidate}
use Rattle.laws_made_types.proofs.PickedWalks.{walks_are_picked}
use Rattle.laws_types.specs.WalkLaws.{ResolvedHeadsFit}

as_many : (es : Unresolved_terms) (picks : List Candidate) → length (listed_expressions (resolved_terms es picks).0) ≡ count es
as_many no_terms picks = refl
as_many (term_then e es) picks = ap suc (as_many es (resolved_term e picks).1)

pub resolved_heads_fit : ResolvedHeadsFit
resolved_heads_fit P D clause picks r = as_many clause.head picks ∙ (walks_are_picked P D clause picks r.0 r.1).1

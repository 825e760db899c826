use Rattle.std.proofs.Common.{◌≡◌, drop, map}
use Rattle.mc_term_data.specs.Plain.{plain_term, term_list}
use Rattle.mc_clause_syntax.specs.States.{all_placed}
use Rattle.mc_clause_syntax.specs.code.Scopes.{all_names}
use Rattle.mc_clause_syntax.proofs.scope.Scope.+placed.Given as goal

abbrev pub invariant-places_all-loop-term : goal.invariant-places_all-loop-term
invariant-places_all-loop-term l =
    all_placed (all_names l.self.sets.items) l.are_arguments (term_list (map plain_term (drop l.term-index l.terms))) ≡ all_placed (all_names l.self.sets.items) l.are_arguments (term_list (map plain_term l.terms))

-- How many arguments the parts of a name count as, at most.
use Rattle.std.proofs.Common.{◌≤◌, ◌+◌, ◌*◌, Bool, true, false, ◌&&◌, cond, List, [], ◌∷◌, length, map, arith}
use Rattle.mc_term_data.specs.Plain.{PlainTerm, at, Var, Int, Str, App, Items, Tailed, Conj, Disj, plain_term, term_list}
use Rattle.mc_term_data.specs.declared.term.Term.{Term}
use Rattle.mc_clause_syntax.specs.StateVariables.{state, both_versions}
use Rattle.mc_clause_syntax.specs.Limits.{width, argument_count}

one_or_two : (b : Bool) → cond b 2 1 ≤ 2
one_or_two true = omega arith
one_or_two false = omega arith

width_small : (in_clause : Bool) (t : PlainTerm) → width in_clause t ≤ 2
width_small in_clause (at (App w ts) l) = one_or_two (in_clause && both_versions (state w ts))
width_small in_clause (at (Var x) l) = omega arith
width_small in_clause (at (Int n) l) = omega arith
width_small in_clause (at (Str s) l) = omega arith
width_small in_clause (at (Items ts) l) = omega arith
width_small in_clause (at (Tailed ts t) l) = omega arith
width_small in_clause (at (Conj ts) l) = omega arith
width_small in_clause (at (Disj ts) l) = omega arith

pub at_most_two_each : (in_clause : Bool) (ts : List Term) → argument_count in_clause (term_list (map plain_term ts)) ≤ 2 * length ts
at_most_two_each in_clause [] = omega arith
at_most_two_each in_clause (t ∷ ts) = omega (arith, width_small in_clause (plain_term t), at_most_two_each in_clause ts)

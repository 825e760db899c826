-- How many terms a slice's plain terms are.
use Rattle.std.proofs.Common.{◌≡◌, List, [], ◌∷◌, length, map, refl, arith}
use Rattle.mc_term_data.specs.Plain.{plain_term, term_list}
use Rattle.mc_term_data.specs.declared.term.Term.{Term}
use Rattle.mc_term_data.specs.Names.{count}

pub count_is_length : (ts : List Term) → count (term_list (map plain_term ts)) ≡ length ts
count_is_length [] = refl
count_is_length (t ∷ ts) = let e = count_is_length ts in omega arith

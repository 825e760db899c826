use Rattle.std.proofs.Common.{◌≡◌, ◌∷◌, [], ◌<◌, List, length, map, refl, arith}
use Rattle.std.specs.Prelude.{None}
use Rattle.mc_term_data.specs.Plain.{plain_term, term_list}
use Rattle.mc_term_data.specs.declared.term.Term.{Term}
use Rattle.mc_defs_uses.specs.Twice as T
use Rattle.mc_defs_uses.proofs.twice.again_among.Goals as goal

short : (terms : List Term) → length terms < 2 → None ≡ T.again_among [] (term_list (map plain_term terms))
short [] lt = refl
short (t ∷ []) lt = refl
short (t ∷ u ∷ terms) lt = absurd (omega (arith, lt))

pub returns-in-empty : goal.returns-in-empty
returns-in-empty c = short c.args.terms.now c.in-empty.len_below

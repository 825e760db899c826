use Rattle.std.proofs.Common.{◌≡◌, ◌+◌, ◌*◌, map, take, vec_len}
use Rattle.mc_term_data.specs.Plain.{plain_term, depth}
use Rattle.mc_term_data.proofs.Depths.{deepest_of}
use Rattle.mc_term_data.proofs.Chains.{Hangs, seen}
use Rattle.mc_term_data.proofs.+copy.Given as goal

abbrev pub decreases-term::Term::copied : goal.decreases-term::Term::copied
decreases-term::Term::copied l = 4 * depth (plain_term l.self.now) + 1

abbrev pub decreases-term::Term::copied_over : goal.decreases-term::Term::copied_over
decreases-term::Term::copied_over l = 4 * depth (plain_term l.self.now)

abbrev pub decreases-copy::copied_row : goal.decreases-copy::copied_row
decreases-copy::copied_row l = 4 * deepest_of l.terms.now + 3

abbrev pub decreases-copy::copied_terms : goal.decreases-copy::copied_terms
decreases-copy::copied_terms l = 4 * deepest_of l.terms.now + 2

abbrev pub invariant-copy::copied_terms-loop-term : goal.invariant-copy::copied_terms-loop-term
invariant-copy::copied_terms-loop-term l = map plain_term l.copy ≡ map plain_term (take l.term-index l.terms)

abbrev pub invariant-term::Term::copied-down : goal.invariant-term::Term::copied-down
invariant-term::Term::copied-down l = Hangs (seen l.around.items) (plain_term l.rest) (plain_term l.self)

abbrev pub decreases-term::Term::copied-down : goal.decreases-term::Term::copied-down
decreases-term::Term::copied-down l = depth (plain_term l.rest)

abbrev pub invariant-term::Term::copied-up : goal.invariant-term::Term::copied-up
invariant-term::Term::copied-up l = Hangs (seen l.around.items) (plain_term l.copy) (plain_term l.self)

abbrev pub decreases-term::Term::copied-up : goal.decreases-term::Term::copied-up
decreases-term::Term::copied-up l = vec_len l.around

use Rattle.std.proofs.Common.{◌≡◌, ◌≤◌, ◌+◌, ◌*◌, ◌-◌, ◌^◌, take, max, min}
use Rattle.mc_term_data.specs.Plain.{plain_term, depth}
use Rattle.mc_term_data.proofs.Depths.{deepest_of}
use Rattle.mc_term_data.proofs.+depth.Given as goal

abbrev pub decreases-term::Term::depth : goal.decreases-term::Term::depth
decreases-term::Term::depth l = 4 * depth (plain_term l.self.now) + 1

abbrev pub decreases-term::Term::depth_over : goal.decreases-term::Term::depth_over
decreases-term::Term::depth_over l = 4 * depth (plain_term l.self.now)

abbrev pub decreases-depth::deepest_front : goal.decreases-depth::deepest_front
decreases-depth::deepest_front l = 4 * deepest_of l.terms.now + 3

abbrev pub decreases-depth::deepest : goal.decreases-depth::deepest
decreases-depth::deepest l = 4 * deepest_of l.terms.now + 2

abbrev pub invariant-depth::deepest-loop-term : goal.invariant-depth::deepest-loop-term
invariant-depth::deepest-loop-term l = l.greatest ≡ min (deepest_of (take l.term-index l.terms)) (2 ^ 32 - 1)

abbrev pub invariant-term::Term::depth-down : goal.invariant-term::Term::depth-down
invariant-term::Term::depth-down l = (min (max l.deepest (l.above + depth (plain_term l.rest))) (2 ^ 32 - 1) ≡ min (depth (plain_term l.self)) (2 ^ 32 - 1)) × (depth (plain_term l.rest) ≤ depth (plain_term l.self))

abbrev pub decreases-term::Term::depth-down : goal.decreases-term::Term::depth-down
decreases-term::Term::depth-down l = depth (plain_term l.rest)

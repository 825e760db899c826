use Rattle.std.proofs.Common.{◌≡◌, ◌≤◌, ◌↔◌, ◌+◌, ◌*◌, map, take}
use Rattle.mc_term_data.specs.Plain.{plain_term, depth}
use Rattle.mc_term_data.proofs.Depths.{deepest_of}
use Rattle.mc_term_data.proofs.+same.Given as goal

abbrev pub decreases-term::Term::same : goal.decreases-term::Term::same
decreases-term::Term::same l = 4 * depth (plain_term l.self.now) + 1

abbrev pub decreases-term::Term::same_over : goal.decreases-term::Term::same_over
decreases-term::Term::same_over l = 4 * depth (plain_term l.self.now)

abbrev pub decreases-same::same_rows : goal.decreases-same::same_rows
decreases-same::same_rows l = 4 * deepest_of l.left.now + 3

abbrev pub decreases-same::same_terms : goal.decreases-same::same_terms
decreases-same::same_terms l = 4 * deepest_of l.left.now + 2

abbrev pub invariant-same::same_terms-loop-k : goal.invariant-same::same_terms-loop-k
invariant-same::same_terms-loop-k l = map plain_term (take l.k l.left) ≡ map plain_term (take l.k l.right)

abbrev pub invariant-term::Term::same-down : goal.invariant-term::Term::same-down
invariant-term::Term::same-down l = ((plain_term l.left ≡ plain_term l.right) ↔ (plain_term l.self ≡ plain_term l.other)) × (depth (plain_term l.left) ≤ depth (plain_term l.self))

abbrev pub decreases-term::Term::same-down : goal.decreases-term::Term::same-down
decreases-term::Term::same-down l = depth (plain_term l.left)

use Rattle.std.proofs.Common.{◌≡◌, ℕ, ◌<◌, true, get_or}
use Rattle.mc_components.specs.Components.{steps}
use Rattle.mc_components.specs.code.Certificate.{all_below}
use Rattle.mc_components.proofs.certificate.goes_down.Given as goal

abbrev pub invariant-loop-number : goal.invariant-loop-number
invariant-loop-number l =
    (k : ℕ) → k < l.number
    → all_below l.components (get_or l.components k 0) (steps l.graph k) ≡ true

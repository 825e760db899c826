use Rattle.std.proofs.Common.{◌∙◌, ◌<◌, ◌-◌, List, ℕ, length, get_or, sym, ap, arith}
use Rattle.mc_modes.proofs.WaitingPlaces.{length-places, behind-at}
use Rattle.mc_modes.proofs.places.Places.get.Goals as goal

pub overflow_add-result : goal.overflow_add-result
overflow_add-result c =
    let p = c.self.inside in
    omega (arith, c.len-passed.ensures, p.passed.ok.0, length-places p.passed.items p.next p.rest, ap length c.self.view_is)

pub returns-else-k-passed : goal.returns-else-k-passed
returns-else-k-passed c =
    let p = c.self.inside in
    let k = c.args.k in
    let passed = c.len-passed.result in
    let here : k - passed < p.rest = omega (arith, c.len-passed.ensures, p.passed.ok.0, length-places p.passed.items p.next p.rest, ap length c.self.view_is) in
    sym (behind-at p.passed.items p.next p.rest k (k - passed) (omega (arith, c.len-passed.ensures, p.passed.ok.0)) here)
    ∙ ap (λ (xs : List ℕ). get_or xs k 0) c.self.view_is

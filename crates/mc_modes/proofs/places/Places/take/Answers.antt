use Rattle.std.proofs.Common.{◌≡◌, ◌∙◌, ◌-◌, ◌+◌, ◌++◌, List, ℕ, length, refl, sym, ap, arith}
use Rattle.std.specs.List.{remove}
use Rattle.mc_model.specs.Lists.{from}
use Rattle.mc_modes.proofs.WaitingPlaces.{length-places, behind-removed}
use Rattle.mc_modes.proofs.places.Places.take.Goals as goal

pub overflow_add-taken : goal.overflow_add-taken
overflow_add-taken c =
    let p = c.self.inside in
    omega (arith, c.len-passed.ensures, p.passed.ok.0, length-places p.passed.items p.next p.rest, ap length c.self.view_is)

pub overflow_add-self : goal.overflow_add-self
overflow_add-self c =
    let p = c.self.inside in
    omega (arith, c.len-passed.ensures, p.passed.ok.0, length-places p.passed.items p.next p.rest, ap length c.self.view_is)

pub overflow_add-self-2 : goal.overflow_add-self-2
overflow_add-self-2 c =
    let p = c.self.inside in
    omega (arith, c.len-passed.ensures, p.passed.ok.0, length-places p.passed.items p.next p.rest, ap length c.self.view_is)

pub overflow_sub-self-2 : goal.overflow_sub-self-2
overflow_sub-self-2 c =
    let p = c.self.inside in
    omega (arith, c.len-passed.ensures, p.passed.ok.0, length-places p.passed.items p.next p.rest, ap length c.self.view_is)

pub invariant_of-self-in_err-push_between : goal.invariant_of-self-in_err-push_between
invariant_of-self-in_err-push_between c =
    let p = c.self.inside in
    let few = c.push_between.ensures.few in
    (omega (arith, few, c.len-passed.ensures, p.passed.ok.0), omega (arith, c.len-passed.ensures, p.passed.ok.0, length-places p.passed.items p.next p.rest, ap length c.self.view_is))

pub invariant_of-self-2 : goal.invariant_of-self-2
invariant_of-self-2 c =
    let p = c.self.inside in
    let few = c.push_between.ensures.few in
    (omega (arith, few, c.len-passed.ensures, p.passed.ok.0), omega (arith, c.len-passed.ensures, p.passed.ok.0, length-places p.passed.items p.next p.rest, ap length c.self.view_is))

pub returns : goal.returns
returns c =
    let p = c.self.inside in
    let k = c.args.k in
    let j = k - c.len-passed.result in
    let gap : p.next + j - p.next ≡ j = omega arith in
    let here : k ≡ length p.passed.items + j = omega (arith, c.len-passed.ensures, p.passed.ok.0) in
    let there : p.rest - (j + 1) + (j + 1) ≡ p.rest = omega (arith, here, length-places p.passed.items p.next p.rest, ap length c.self.view_is) in
    ap (λ xs. xs ++ from (p.next + j + 1) (p.rest - (j + 1))) (c.in_ok-push_between.ensures.numbers ∙ ap (λ n. p.passed.items ++ from p.next n) gap)
    ∙ (sym (behind-removed p.passed.items p.next p.rest k j (p.next + j + 1) (p.rest - (j + 1)) here refl there) ∙ ap (λ (xs : List ℕ). remove xs k) c.self.view_is)

use Rattle.std.proofs.Common.{◌∙◌, ◌<◌, ◌≤◌, ◌-◌, ℕ, Bool, List, if◌then◌else◌, length, get_or, ap, sym, arith}
use Rattle.mc_accepted.specs.Arranged.{placed}
use Rattle.mc_mode_state.specs.States.{is_outside}
use Rattle.mc_mode_state.proofs.Numbers.{number-at}
use Rattle.mc_mode_state.proofs.Placing.{ascending-one}
use Rattle.mc_mode_state.proofs.state.State.seen.Goals as goal

pub is_outside-requires : goal.is_outside-requires
is_outside-requires c = number-at (length c.args.self.now.outside.items) c.args.own.now (c.loop-k.k - 1) c.requires (omega (arith, c.loop-k.invariant.within, c.loop-k-test.true))

pub loop-k-preserved : goal.loop-k-preserved
loop-k-preserved c =
    let own = c.args.own.now in
    let k = c.loop-k.k in
    let f : ℕ → Bool = is_outside c.args.self.now.outside.items in
    let x = get_or own (k - 1) 0 in
    let R = c.loop-k.row.items in
    let h : 0 < k = omega (arith, c.loop-k-test.true) in
    let l : k ≤ length own = c.loop-k.invariant.within in
    record {
      within = omega (arith, l);
      row = c.in_ok-place.ensures
          ∙ (ap (λ (t : Bool). if t then placed x R else R) c.is_outside.ensures
          ∙ (ap (λ (r : List ℕ). if f x then placed x r else r) c.loop-k.invariant.row
          ∙ sym (ascending-one f own k h l)));
    }

use Rattle.std.proofs.Common.{◌≡◌, ◌∙◌, ◌<◌, ◌≤◌, ◌-◌, ℕ, Bool, List, not, if◌then◌else◌, length, get_or, ap, sym, arith}
use Rattle.mc_model.specs.Stream.{is_bound}
use Rattle.mc_accepted.specs.Arranged.{placed}
use Rattle.mc_mode_state.specs.States.{point_of}
use Rattle.mc_mode_state.proofs.Numbers.{number-at}
use Rattle.mc_mode_state.proofs.Placing.{ascending-one}
use Rattle.mc_mode_state.proofs.state.State.free.Goals as goal

pub inst-requires : goal.inst-requires
inst-requires c = number-at (length c.args.self.now.insts.items) c.args.xs.now (c.loop-k.k - 1) c.requires (omega (arith, c.loop-k.invariant.within, c.loop-k-test.true))

pub loop-k-preserved : goal.loop-k-preserved
loop-k-preserved c =
    let xs = c.args.xs.now in
    let k = c.loop-k.k in
    let b = point_of c.args.self.now.insts.items in
    let x = get_or xs (k - 1) 0 in
    let R = c.loop-k.row.items in
    let h : 0 < k = omega (arith, c.loop-k-test.true) in
    let l : k ≤ length xs = c.loop-k.invariant.within in
    let e : c.is_bound.result ≡ is_bound (b x) = c.is_bound.ensures ∙ ap is_bound c.inst.ensures in
    record {
      within = omega (arith, l);
      row = c.in_ok-place.ensures
          ∙ (ap (λ (t : Bool). if not t then placed x R else R) e
          ∙ (ap (λ (r : List ℕ). if not (is_bound (b x)) then placed x r else r) c.loop-k.invariant.row
          ∙ sym (ascending-one (λ y. not (is_bound (b y))) xs k h l)));
    }

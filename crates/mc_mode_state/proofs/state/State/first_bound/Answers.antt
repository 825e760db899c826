use Rattle.std.proofs.Common.{◌∙◌, ◌<◌, ◌≤◌, ℕ, Bool, length, refl, ap, sym, arith}
use Rattle.mc_model.specs.Stream.{is_bound}
use Rattle.mc_mode_state.specs.States.{point_of}
use Rattle.mc_mode_state.proofs.Numbers.{below-rest}
use Rattle.mc_mode_state.proofs.Leasts.{first_that, least-first, first-here, first-on, first-none}
use Rattle.mc_mode_state.proofs.state.State.first_bound.Goals as goal

pub returns-then-is_bound : goal.returns-then-is_bound
returns-then-is_bound c = λ wanted ys e.
    let g : ℕ → Bool = λ x. is_bound (point_of c.args.self.now.insts.items x) in
    let xs = c.args.xs.now in
    let k = c.loop-x.x-index in
    let h : k < length xs = omega arith in
    sym (least-first g wanted ys) ∙ (ap (first_that g) (sym e) ∙ (sym c.loop-x.invariant.rest
    ∙ first-here g xs k h (sym (c.is_bound.ensures ∙ ap is_bound c.inst.ensures) ∙ c.if-is_bound.true)))

pub loop-x-preserved : goal.loop-x-preserved
loop-x-preserved c =
    let g : ℕ → Bool = λ x. is_bound (point_of c.args.self.now.insts.items x) in
    let xs = c.args.xs.now in
    let k = c.loop-x.x-index in
    let h : k < length xs = omega arith in
    let n = length c.args.self.now.insts.items in
    record {
      below = below-rest n n xs k refl c.loop-x.invariant.below h;
      rest = first-on g xs k h (sym (c.is_bound.ensures ∙ ap is_bound c.inst.ensures) ∙ c.if-is_bound.false) ∙ c.loop-x.invariant.rest;
    }

pub returns : goal.returns
returns c = λ wanted ys e.
    let g : ℕ → Bool = λ x. is_bound (point_of c.args.self.now.insts.items x) in
    let xs = c.args.xs.now in
    let k = c.loop-x.x-index in
    let h : length xs ≤ k = omega arith in
    sym (least-first g wanted ys) ∙ (ap (first_that g) (sym e) ∙ (sym c.loop-x.invariant.rest ∙ first-none g xs k h))

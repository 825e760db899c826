use Rattle.std.proofs.Common.{◌<◌, ◌≤◌, ℕ, length, get_or, subst, ◌∙◌, below_more, arith}
use Rattle.std.proofs.lemmas.List.{get_or_default}
use Rattle.mc_plain.proofs.control.widen_all.Goals as goal

pub loop-variable-preserved : goal.loop-variable-preserved
loop-variable-preserved c =
    let n : ℕ = length c.widen.new.frame.items in
    let wider : length c.loop-variable.frame.items ≤ n = c.in_ok-widen.ensures.wider in
    record {
      room = below_more (λ k. get_or c.args.variables.now k 0 < n) _ (λ k h. omega (arith, c.loop-variable.invariant.room k h)) c.in_ok-widen.ensures.room;
      wider = omega arith;
      same = λ h. c.in_ok-widen.ensures.same h ∙ c.loop-variable.invariant.same h;
      live = λ h x. c.in_ok-widen.ensures.live h (c.loop-variable.invariant.live h x);
      held = λ p h x. c.in_ok-widen.ensures.held p h (c.loop-variable.invariant.held p h x);
    }

pub returns-clause-room : goal.returns-clause-room
returns-clause-room c =
    λ k d h.
    subst (λ x. x < length c.loop-variable.frame.items) (get_or_default c.args.variables.now k 0 d h) (c.loop-variable.invariant.room k (omega arith))

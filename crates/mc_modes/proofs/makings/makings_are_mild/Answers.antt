use Rattle.std.proofs.Common.{◌≡◌, ℕ, List, true, length, map, get_or, subst, arith}
use Rattle.mc_model.specs.Flat.{Flat_goal}
use Rattle.mc_model.specs.PlainGoals.{plain_flat}
use Rattle.mc_modes.specs.code.Waiting.{nothing}
use Rattle.mc_modes.specs.code.Sleeping.{making_is_mild}
use Rattle.mc_modes.proofs.DelayedGoals.{but-one-on, below-in, goal-is}
use Rattle.mc_modes.proofs.makings.makings_are_mild.Goals as goal
use Rattle.mc_modes.proofs.makings.makings_are_mild.Goals.{else-j-place-via-then-j-place+in_ok-making_is_mild+else-not-branch, else-j-place-via-else-j-place}

pub making_is_mild-requires : goal.making_is_mild-requires
making_is_mild-requires c =
    below-in (length c.args.state.now.insts.items) c.args.goals.now c.loop-j.j c.index-goals-j.result (omega (arith, c.loop-j-test.true)) c.index-goals-j.is c.requires.variables

pub loop-j-preserved : goal.loop-j-preserved
loop-j-preserved c =
    let s = c.args.state.now in
    let gs = c.args.goals.now in
    let j = c.loop-j.j in
    let vs = c.in_ok-changed.changed.items in
    let mild : ℕ → Type 0 = λ i. making_is_mild s vs (get_or (map plain_flat gs) i nothing) ≡ true in
    but-one-on mild c.args.place j c.loop-j.invariant
    (elim c.else-j-place.branch [
      | else-j-place-via-then-j-place+in_ok-making_is_mild+else-not-branch w ↦ λ n.
          subst (λ (g : Flat_goal). making_is_mild s vs g ≡ true) (goal-is gs j w.index-goals-j.result (omega (arith, c.loop-j-test.true)) w.index-goals-j.is)
          (subst (λ (us : List ℕ). making_is_mild s us (plain_flat w.index-goals-j.result) ≡ true) w.deref.ensures.value (w.in_ok-making_is_mild.ensures w.if-not-branch.false))
      | else-j-place-via-else-j-place w ↦ λ n. absurd (n w.if-j-place.false)
    ])

use Rattle.std.proofs.Common.{◌≡◌, ◌<◌, ℕ, true, map, get_or}
use Rattle.mc_model.specs.PlainGoals.{plain_flat}
use Rattle.mc_modes.specs.code.Waiting.{nothing}
use Rattle.mc_modes.specs.code.Sleeping.{making_is_mild}
use Rattle.mc_modes.proofs.makings.makings_are_mild.Given as goal

abbrev pub invariant-loop-j : goal.invariant-loop-j
invariant-loop-j l =
    (i : ℕ) → i < l.j → (i ≡ l.place → ⊥) → making_is_mild l.state l.changed.items (get_or (map plain_flat l.goals) i nothing) ≡ true

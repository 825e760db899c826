use Rattle.std.proofs.Common.{◌≡◌, ◌<◌, ◌≤◌, ℕ, true, map, get_or}
use Rattle.mc_model.specs.PlainGoals.{plain_flat}
use Rattle.mc_procs.specs.Procedures.{source_of}
use Rattle.mc_modes.specs.Signatures.{declared_in}
use Rattle.mc_modes.specs.code.Waiting.{nothing}
use Rattle.mc_modes.specs.code.Sleeping.{may_be_mild}
use Rattle.mc_modes.proofs.sleeping.first_wild.Given as goal

abbrev pub invariant-loop-place : goal.invariant-loop-place
invariant-loop-place l =
    (j : ℕ) → l.fn.from ≤ j → j < l.place → may_be_mild (source_of l.procs) (declared_in l.sigs) (get_or (map plain_flat l.goals) j nothing) ≡ true

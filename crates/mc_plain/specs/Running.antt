-- A run that is under way, as callers see it.
use Rattle.std.specs.Prelude.{◌≡◌, ℕ, List, Option, Some, None, false, if◌then◌else◌}
use Rattle.mc_plain.specs.Rest.{Rest}
use Rattle.mc_plain.specs.code.RunState.{rest_in, IsRunning}
use Rattle.mc_plain.specs.declared.plain.Plain.{Plain}

-- what is left of a run over each input, or nothing that is known once memory was wanting
abbrev pub run_of : Plain → Option (List ℕ → Rest)
run_of p = if p.broken then None else Some (rest_in p.setting p.work)

-- what holds of every run, from its beginning on
abbrev pub IsRun : Plain → Type 0
IsRun p = p.broken ≡ false → IsRunning p.setting p.work

-- How a procedure that is looked at is raised.
use Rattle.std.specs.Prelude.{◌≡◌, ℕ, ◌+◌, ◌-◌, Option, Some, None, if◌then◌else◌}
use Rattle.mc_source.specs.Determinism.{Determinism, det, inferred, row_of, rank, Allows}
use Rattle.mc_source.specs.declared.det.Det.{Det}
use Rattle.mc_det_constraints.specs.Skeletons.{either}

abbrev pub starts : Option Det → Det
starts None = inferred det
starts (Some d) = d

-- how often a determinism can still be raised, at most
abbrev pub room : Det → ℕ
room d = 3 - ((if d.can_fail then 1 else 0) + rank (row_of d).most)

-- what is answered of a procedure: as it is declared, with its determinism and what its body comes to
abbrev pub Look : Option Det → (was : Det) → (now : Determinism) → Option Det → Type 0
Look (Some d) was now answer = answer ≡ None
Look None was now None = Allows (row_of was) now
Look None was now (Some d) =
    (d ≡ inferred (either (row_of was) now)) × (Allows (row_of was) now → ⊥)

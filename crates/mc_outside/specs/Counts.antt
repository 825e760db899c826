-- Counts of faults and of absent answers. Source: this project's profile.
use Rattle.std.specs.Prelude.{◌≡◌, ℕ, ◌+◌, ◌-◌, min, ◌^◌, ◌<◌, ◌⊎◌, Result, Ok, Err}
use Rattle.mc_outside.specs.declared.traits.FileAnswer.{FileAnswer}
use Rattle.mc_outside.specs.declared.traits.FileAnswer.TheVariants as file
use Rattle.mc_outside.specs.declared.traits.PutFault.{PutFault}
use Rattle.mc_outside.specs.declared.traits.PutFault.TheVariants as put

-- a count that is one greater, or stands at its end
abbrev pub raised : ℕ → ℕ
raised count = min (count + 1) (2 ^ 64 - 1)

-- a count rose in a call: it is greater after the call than before, or stands at its end after it
abbrev pub Rose : ℕ → ℕ → Type 0
Rose before now = (before < now) ⊎ (now ≡ 2 ^ 64 - 1)

-- the count of faults in a read of a file: it rose where the read failed, and else is as it was
abbrev pub ReadFaults : {T : Type 0} → Result T FileAnswer → ℕ → ℕ → Type 0
ReadFaults (Ok bytes) before now = now ≡ before
ReadFaults (Err file.Absent) before now = now ≡ before
ReadFaults (Err file.Failed) before now = Rose before now
ReadFaults (Err file.Memory) before now = now ≡ before

-- the count of absent answers in a read of a file: it rose where there was none, and else is as it
-- was
abbrev pub ReadAbsents : {T : Type 0} → Result T FileAnswer → ℕ → ℕ → Type 0
ReadAbsents (Ok bytes) before now = now ≡ before
ReadAbsents (Err file.Absent) before now = Rose before now
ReadAbsents (Err file.Failed) before now = now ≡ before
ReadAbsents (Err file.Memory) before now = now ≡ before

-- the count of faults in a taking from a source: it rose where the source failed, and else is as it
-- was
abbrev pub TakeFaults : {T E : Type 0} → Result T E → ℕ → ℕ → Type 0
TakeFaults (Ok count) before now = now ≡ before
TakeFaults (Err e) before now = Rose before now

-- the count of faults in a put: it rose where the sink failed, and else is as it was
abbrev pub PutFaults : {T : Type 0} → Result T PutFault → ℕ → ℕ → Type 0
PutFaults (Ok u) before now = now ≡ before
PutFaults (Err put.Failed) before now = Rose before now
PutFaults (Err put.Memory) before now = now ≡ before

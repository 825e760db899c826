use Rattle.std.proofs.Common.{◌≡◌, ℕ, ◌+◌, ◌-◌, vec_len}
use Rattle.mc_typecheck.specs.code.Numbering.{slot_of}
use Rattle.mc_typecheck.proofs.numbers.Numbers.put.Given as goal

abbrev pub invariant-room : goal.invariant-room
invariant-room l = ((k : ℕ) → slot_of l.self k ≡ slot_of l.fn.self k) × (l.self.rigid ≡ l.fn.self.rigid) × (l.self.met ≡ l.fn.self.met)

abbrev pub decreases-room : goal.decreases-room
decreases-room l = l.place + 1 - vec_len l.self.slots

use Rattle.std.proofs.Common.{◌-◌, ◌+◌, vec_len}
use Rattle.mc_goals.specs.code.Meeting.{IsKept}
use Rattle.mc_goals.proofs.numbering.Numbering.put.Given as goal

abbrev pub invariant-room : goal.invariant-room
invariant-room l = IsKept l.fn.self l.self

abbrev pub decreases-room : goal.decreases-room
decreases-room l = l.k + 1 - vec_len l.self.slots

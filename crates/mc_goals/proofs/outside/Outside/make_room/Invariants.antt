use Rattle.std.proofs.Common.{◌≡◌, ◌-◌, ◌+◌, vec_len}
use Rattle.mc_goals.specs.code.Outside.{count}
use Rattle.mc_goals.proofs.outside.Outside.make_room.Given as goal

abbrev pub invariant-room : goal.invariant-room
invariant-room l = count l.self ≡ count l.fn.self

abbrev pub decreases-room : goal.decreases-room
decreases-room l = l.place + 1 - vec_len l.self.counts

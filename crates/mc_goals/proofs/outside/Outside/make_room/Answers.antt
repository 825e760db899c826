use Rattle.std.proofs.Common.{◌∙◌}
use Rattle.mc_goals.specs.declared.outside.Outside.{Outside}
use Rattle.mc_goals.proofs.OutsideCounts.{count_room}
use Rattle.mc_goals.proofs.outside.Outside.make_room.Goals as goal

pub room-preserved : goal.room-preserved
room-preserved c =
    let next : Outside = record { counts = c.push.new.self } in
    count_room c.room.self next (c.in_ok-push.ensures {u = tt}).items ∙ c.room.invariant

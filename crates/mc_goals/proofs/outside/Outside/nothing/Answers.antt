use Rattle.mc_goals.specs.declared.outside.Outside.{Outside}
use Rattle.mc_goals.proofs.OutsideCounts.{count_nothing}
use Rattle.mc_goals.proofs.outside.Outside.nothing.Goals as goal

pub returns : goal.returns
returns c =
    let none : Outside = record { counts = c.new.result } in
    count_nothing none c.new.ensures.items

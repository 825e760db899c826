-- What is left of a run of the plain executor, as the items of a query.
use Rattle.std.specs.Prelude.{ℕ, List, [], map, Option, Some, None}
use Rattle.mc_model.specs.EventList.{End, Stuck, Stopped, Answer, Wrote, Read}
use Rattle.mc_model.specs.declared.run.Step.{Step}
use Rattle.mc_model.specs.declared.run.Step.TheVariants as N
use Rattle.mc_plain.specs.Rest.{Rest, answered, wrote, reads, ended, stuck, stopped}
use Rattle.mc_cmd.specs.code.Runs.{QueryItems}

abbrev pub items_of : Rest → QueryItems
items_of (answered values rest) = Answer (map Some values) (items_of rest)
items_of (wrote text rest) = Wrote text (items_of rest)
items_of (reads k rest) = Read k (items_of rest)
items_of ended = End
items_of stuck = Stuck
items_of (stopped h) = Stopped h

-- what is left over the empty input; once memory was wanting nothing is known
abbrev pub left_in : Option (List ℕ → Rest) → QueryItems
left_in None = End
left_in (Some rest) = items_of (rest [])

-- a step that wants no input
abbrev pub WantsNothing : Step → Type 0
WantsNothing (N.Wants k) = ⊥
WantsNothing _ = Unit {0}

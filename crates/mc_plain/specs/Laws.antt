-- Which runs are good, so that something comes next of them always.
use Rattle.std.specs.Prelude.{◌≡◌, ℕ, List, drop, Option, Some}
use Rattle.mc_program.specs.Values.{Val}
use Rattle.mc_model.specs.EventList.{Items, Each}
use Rattle.mc_model.specs.declared.run.Step.{Step}
use Rattle.mc_model.specs.declared.run.Input.{Input}
use Rattle.mc_builtins.specs.Reading.{IsNext}
use Rattle.mc_plain.specs.Rest.{Rest, reads, rest_of, Gives, IsFed, IsFine}

-- what a step leaves of a good run
abbrev pub GoodRunsStayGood : Type 0
GoodRunsStayGood = (s : Step) (old new : Rest) → Gives s old new → IsFine old → IsFine new

-- what is left, over an input in which that came next, of a good run that was fed
abbrev pub FedRunsStayGood : Type 0
FedRunsStayGood =
    (got : Input) (old new : List ℕ → Rest) → IsFed got (Some old) (Some new) →
    (input : List ℕ) (from : ℕ) (later : Rest) →
    old input ≡ reads from later → IsNext (drop from input) got →
    IsFine (old input) → IsFine (new input)

-- an event list that isn't stuck
abbrev pub GoodListsAreGood : Type 0
GoodListsAreGood =
    (xs : Items (List (Option Val))) → Each (λ os. Unit {0}) xs → IsFine (rest_of xs)

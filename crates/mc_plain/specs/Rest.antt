-- What is left of a run: what it shows, in order, and how it ends. (Mercury Language Reference
-- Manual: Semantics, strict sequential execution; this project's profile of budget and height.)
use Rattle.std.specs.Prelude.{◌≡◌, ℕ, List, drop, map, Option, Some, None}
use Rattle.mc_program.specs.Values.{Val, plain_value}
use Rattle.mc_model.specs.EventList as L
use Rattle.mc_model.specs.EventList.{Items, Halt, budget, too_deep, thrown}
use Rattle.mc_model.specs.Events.{bound_values}
use Rattle.mc_model.specs.declared.run.Step.{Step}
use Rattle.mc_model.specs.declared.run.Step.TheVariants as S
use Rattle.mc_model.specs.declared.run.Stop.{Stop}
use Rattle.mc_model.specs.declared.run.Stop.TheVariants as W
use Rattle.mc_model.specs.declared.run.Input.{Input}
use Rattle.mc_builtins.specs.Answers.{plain_exception}
use Rattle.mc_builtins.specs.Reading.{IsNext}

-- the answers, the texts that are written and the wishes for input of a run, and its end; `stuck` is
-- the end of a run that would read an unbound variable
pub data Rest : Type 0 where
  answered : (values : List Val) → Rest → Rest
  wrote : (text : List ℕ) → Rest → Rest
  reads : (from : ℕ) → Rest → Rest
  ended : Rest
  stuck : Rest
  stopped : Halt → Rest

-- an event list without its calls
abbrev pub rest_of : Items (List (Option Val)) → Rest
rest_of L.End = ended
rest_of L.Stuck = stuck
rest_of (L.Stopped h) = stopped h
rest_of (L.Answer os xs) = answered (bound_values os) (rest_of xs)
rest_of (L.Called c xs) = rest_of xs
rest_of (L.Wrote t xs) = wrote t (rest_of xs)
rest_of (L.Read k xs) = reads k (rest_of xs)

-- no unbound variable is read
abbrev pub IsFine : Rest → Type 0
IsFine (answered vs r) = IsFine r
IsFine (wrote t r) = IsFine r
IsFine (reads k r) = IsFine r
IsFine ended = Unit {0}
IsFine stuck = ⊥
IsFine (stopped h) = Unit {0}

-- why a run stops
abbrev pub plain_halt : Stop → Halt
plain_halt W.Budget = budget
plain_halt W.TooDeep = too_deep
plain_halt (W.Throw x) = thrown (plain_exception x)

-- what comes next of a rest, and what is left then; an end stays, and so does a wish for input
abbrev pub Gives : Step → Rest → Rest → Type 0
Gives (S.Answer values) old new = old ≡ answered (map plain_value values) new
Gives (S.Wrote text) old new = old ≡ wrote text new
Gives S.End old new = (old ≡ ended) × (new ≡ ended)
Gives (S.Stopped w) old new = (old ≡ stopped (plain_halt w)) × (new ≡ old)
Gives (S.Wants from) old new = ((later : Rest) × (old ≡ reads from later)) × (new ≡ old)

-- the same where nothing comes next: an unbound variable would be read
abbrev pub GivesIf : Option Step → Rest → Rest → Type 0
GivesIf None old new = (old ≡ stuck) × (new ≡ old)
GivesIf (Some s) old new = Gives s old new

-- what is left over each input, or nothing that is known once memory was wanting
abbrev pub FollowsIf : Option Step → Option (List ℕ → Rest) → Option (List ℕ → Rest) → Type 0
FollowsIf s None new = ⊥
FollowsIf s (Some old) None = ⊥
FollowsIf s (Some old) (Some new) = (input : List ℕ) → GivesIf s (old input) (new input)

abbrev pub Follows : Step → Option (List ℕ → Rest) → Option (List ℕ → Rest) → Type 0
Follows s old new = FollowsIf (Some s) old new

-- over some input no unbound variable is read
abbrev pub IsGood : Option (List ℕ → Rest) → Type 0
IsGood None = Unit {0}
IsGood (Some rest) = (input : List ℕ) × IsFine (rest input)

-- a run begins with all that is asked for
abbrev pub Begins : Option (List ℕ → Rest) → (List ℕ → Rest) → Type 0
Begins None asked = ⊥
Begins (Some rest) asked = (input : List ℕ) → rest input ≡ asked input

-- over each input, the run wants a line from one byte on
abbrev pub WantsLine : Option (List ℕ → Rest) → Type 0
WantsLine None = Unit {0}
WantsLine (Some rest) =
    (from : ℕ) × ((input : List ℕ) → (later : Rest) × (rest input ≡ reads from later))

-- where a wish for input comes next, a line is wanted
abbrev pub WantsIf : Option Step → Option (List ℕ → Rest) → Type 0
WantsIf (Some (S.Wants from)) new = WantsLine new
WantsIf _ new = Unit {0}

-- over each input in which this comes next at the byte from which a line is wanted, what is left is
-- what was, without the wish
abbrev pub IsFed : Input → Option (List ℕ → Rest) → Option (List ℕ → Rest) → Type 0
IsFed got None new = ⊥
IsFed got (Some old) None = ⊥
IsFed got (Some old) (Some new) =
    (input : List ℕ) (from : ℕ) (later : Rest) →
    old input ≡ reads from later → IsNext (drop from input) got → new input ≡ later

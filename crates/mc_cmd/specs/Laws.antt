-- Laws of the defined answer.
use Rattle.std.specs.Prelude.{◌≡◌, ℕ, List}
use Rattle.mc_outside.specs.Meaning.{Held}
use Rattle.mc_cmd.specs.Ends.{Outcome}
use Rattle.mc_cmd.specs.Outcome.{Defined}

-- Of words and of what files hold there is one defined answer at most.
abbrev pub AtMostOneAnswer : Type 0
AtMostOneAnswer =
    (words : List (List ℕ)) (held : Held) (o p : Outcome)
    → Defined words held o → Defined words held p → o ≡ p

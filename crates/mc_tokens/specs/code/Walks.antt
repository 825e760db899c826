-- What the walks inside comments and quotes answer, as the definitions have it.
use Rattle.std.specs.Prelude.{ℕ, ◌<◌, ◌≤◌, Option, Some, None, Result, Ok, Err, List, length, drop, [], ◌++◌, encode_utf8}
use Rattle.mc_tokens.specs.Spots.{Spot, At, Faulty, Between, Quoting, Plain, walk, layout, quote_turn}
use Rattle.mc_tokens.specs.Contents.{contents}
use Rattle.mc_tokens.specs.Answers.{Placed}
use Rattle.mc_tokens.specs.declared.token.FaultKind.TheVariants.{Unterminated}
use Rattle.mc_tokens.specs.declared.token.TokenFault.{TokenFault}
use Rattle.mc_tokens.specs.declared.quoting.Halt.{Halt}
use Rattle.mc_tokens.specs.declared.quoting.Halt.TheVariants.{TextEnds, Bad}
use Rattle.mc_tokens.specs.declared.quoting.Step.{Step}
use Rattle.mc_tokens.specs.declared.quoting.Step.TheVariants.{Closed, On}
use Rattle.mc_tokens.specs.declared.quoting.Escape.{Escape}

abbrev pub spot : Result ℕ TokenFault → Spot
spot (Ok i) = At i
spot (Err f) = Faulty f.kind f.at

-- where a walk between tokens goes on, or its fault
abbrev pub goes_on : List ℕ → Result ℕ TokenFault → Spot
goes_on text (Ok i) = layout Between i (drop i text)
goes_on text (Err f) = Faulty f.kind f.at

-- why a walk halts that began at a start
abbrev pub halted : ℕ → Halt → Spot
halted start TextEnds = Faulty Unterminated start
halted start (Bad f) = Faulty f.kind f.at

-- where the walk goes on after a comment that began at a start
abbrev pub comment_goes_on : ℕ → List ℕ → Result ℕ Halt → Spot
comment_goes_on start text (Ok i) = layout Between i (drop i text)
comment_goes_on start text (Err h) = halted start h

-- the walk inside quotes q that began at a start
abbrev pub quote_walk : (q start : ℕ) → Quoting → ℕ → List ℕ → Spot
quote_walk q start m p bs = walk (quote_turn q) (λ m p. Faulty Unterminated start) m 0 p bs

-- where it ends
abbrev pub quote_ends : ℕ → Result ℕ Halt → Spot
quote_ends start (Ok i) = At i
quote_ends start (Err h) = halted start h

-- where it goes on after an escape
abbrev pub escape_goes_on : (q start : ℕ) → List ℕ → Result Escape Halt → Spot
escape_goes_on q start text (Ok e) = quote_walk q start Plain e.next (drop e.next text)
escape_goes_on q start text (Err h) = halted start h

-- where it goes on after one character, one doubled quote or one escape, or where it ends
abbrev pub turn_goes_on : (q start : ℕ) → List ℕ → Result Step Halt → Spot
turn_goes_on q start text (Ok (On i)) = quote_walk q start Plain i (drop i text)
turn_goes_on q start text (Ok (Closed i)) = At i
turn_goes_on q start text (Err h) = halted start h

-- a step comes to a later place
abbrev pub StepsWithin : List ℕ → ℕ → Step → Type 0
StepsWithin text i (Closed j) = (i < j) × (j ≤ length text)
StepsWithin text i (On j) = (i < j) × (j ≤ length text)

abbrev pub HaltPlaced : List ℕ → ℕ → Halt → Type 0
HaltPlaced text from TextEnds = Unit {0}
HaltPlaced text from (Bad f) = Placed text from f

-- what an escape says: a character, or nothing where a line end stands after the backslash
abbrev pub escape_bytes : Option ℕ → List ℕ
escape_bytes None = []
escape_bytes (Some c) = encode_utf8 c

-- what the walk inside quotes q says from an escape on
abbrev pub escape_contents : ℕ → List ℕ → Result Escape Halt → List ℕ
escape_contents q text (Ok e) = escape_bytes e.says ++ contents q Plain 0 (drop e.next text)
escape_contents q text (Err h) = []

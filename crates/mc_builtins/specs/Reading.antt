-- What a builtin that reads is fed, and what it then does. (This project's profile of reading lines.)
use Rattle.std.specs.Prelude.{◌≡◌, ◌≢◌, ◌⊎◌, ℕ, ◌<◌, ◌≤◌, List, [], ◌∷◌, length}
use Rattle.std.specs.Str.{IsUtf8}
use Rattle.mc_program.specs.Values.{Val, con, str, no_vals, val_then}
use Rattle.mc_values.specs.Parts.{IsState}
use Rattle.mc_values.specs.Heap.{IsLive, value_at}
use Rattle.mc_values.specs.declared.heap.Heap.{Heap}
use Rattle.mc_model.specs.Outcomes.{Outcome, reads, reads_and_throws}
use Rattle.mc_model.specs.Builtins.{line_of, line_limit}
use Rattle.mc_model.specs.Builtins.{Library as Known}
use Rattle.mc_model.specs.declared.run.Input.{Input}
use Rattle.mc_model.specs.declared.run.Input.TheVariants as I
use Rattle.mc_builtins.specs.Answers.{plain_exception}
use Rattle.mc_builtins.specs.declared.reading.ReadResult.{ReadResult}
use Rattle.mc_builtins.specs.declared.reading.ReadResult.TheVariants as G

-- what is fed is the line that comes next in what is left of the input, or that nothing is left, or
-- that the line is too long
abbrev pub IsNext : (left : List ℕ) → Input → Type 0
IsNext left (I.Line line) = (left ≢ []) × (line ≡ line_of left) × (length line ≤ line_limit)
IsNext left I.End = left ≡ []
IsNext left I.TooLong = line_limit < length (line_of left)

-- the answer tells what the outcome is from the byte on that is read first, by what the Refs in it
-- stand for
abbrev pub TellsRead : Heap → (from : ℕ) → Outcome → ReadResult → Type 0
TellsRead h from does (G.Gives read after) =
    does ≡ reads from (value_at h read ∷ value_at h after ∷ [])
TellsRead h from does (G.Throws e) = does ≡ reads_and_throws from (plain_exception e)

-- a value that a reading gives: `eof`, or `ok` of a text
abbrev pub IsResult : Known → Val → Type 0
IsResult L v =
    (v ≡ con L.eof no_vals)
    ⊎ ((text : List ℕ) × (IsUtf8 text × (v ≡ con L.ok (val_then (str text) no_vals))))

-- what is given stands for such a value and a state of io
abbrev pub GivesResult : Known → Heap → ReadResult → Type 0
GivesResult L h (G.Gives read after) =
    IsLive h read
    × IsLive h after
    × IsResult L (value_at h read)
    × IsState (value_at h after)
GivesResult L h (G.Throws e) = Unit {0}

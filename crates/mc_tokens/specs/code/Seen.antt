-- What a walk over a text has found out, so that it need not look twice.
use Rattle.std.specs.Prelude.{◌≡◌, ℕ, ◌+◌, ◌<◌, ◌≤◌, ◌^◌, Option, Some, None, List, length, drop, slice_range}
use Rattle.std.specs.List.{prefix_len}
use Rattle.mc_tokens.specs.Classes.{is_digit_of}
use Rattle.mc_tokens.specs.Spots.{Faulty, Block, layout, Plain}
use Rattle.mc_tokens.specs.code.Walks.{quote_walk}
use Rattle.mc_tokens.specs.Tokens.{spelled}
use Rattle.mc_tokens.specs.declared.token.FaultKind.TheVariants.{Unterminated}
use Rattle.mc_tokens.specs.declared.seen.Run.{Run}
use Rattle.mc_tokens.specs.declared.seen.Seen.{Seen}

-- no */ follows from this place on, up to the text's end
abbrev pub OpenComment : List ℕ → Option ℕ → Type 0
OpenComment text None = Unit {0}
OpenComment text (Some m) =
    (m ≤ length text)
    × ((start : ℕ) → layout (Block start) m (drop m text) ≡ Faulty Unterminated start)

-- a walk inside the quotes q that is in this place finds no closing one, up to the text's end
abbrev pub OpenQuote : ℕ → List ℕ → Option ℕ → Type 0
OpenQuote q text None = Unit {0}
OpenQuote q text (Some m) =
    (m ≤ length text)
    × ((start : ℕ) → quote_walk q start Plain m (drop m text) ≡ Faulty Unterminated start)

-- the digits from a place to an end spell a number above 2^63
abbrev pub TooLarge : List ℕ → (from end : ℕ) → Type 0
TooLarge text from end = 2 ^ 63 < spelled 10 0 (slice_range text from end)

-- a run of decimal digits to its end; from each place before `large` they spell too large a number
pub record IsRun (text : List ℕ) (run : Run) : Type 0 where
  pub inside : (run.from ≤ run.end) × (run.end ≤ length text)
  pub longest : run.end ≡ run.from + prefix_len (is_digit_of 10) (drop run.from text)
  pub above : (k : ℕ) → run.from ≤ k → k < run.large → TooLarge text k run.end

abbrev pub KnownRun : List ℕ → Option Run → Type 0
KnownRun text None = Unit {0}
KnownRun text (Some run) = IsRun text run

-- what was seen holds of the text
pub record Holds (text : List ℕ) (seen : Seen) : Type 0 where
  pub comment : OpenComment text seen.comment
  pub single : OpenQuote 39 text seen.single
  pub double : OpenQuote 34 text seen.double
  pub digits : KnownRun text seen.digits

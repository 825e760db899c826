-- The tokens of one item (this project's profile: an item is the tokens up to a full stop that ends
-- it; where the text ends before, the item is cut off).
use Rattle.std.specs.Prelude.{◌≡◌, ℕ, ◌+◌, Bool, true, false, List, [], ◌∷◌, slice_range}
use Rattle.mc_tokens.specs.Tokens.{Tok, Fault, lexed}
use Rattle.mc_tokens.specs.declared.token.FaultKind.{FaultKind}
use Rattle.mc_tokens.specs.declared.token.Kind.{Kind}
use Rattle.mc_tokens.specs.declared.token.Kind.TheVariants.{End, Eof}

-- a token with its bytes and the place of its first byte
pub record Piece : Type 0 where
  pub kind : Kind
  pub bytes : List ℕ
  pub place : ℕ

-- whether a token of the kind ends an item: a full stop does, and the text's end cuts it off
abbrev pub ends : Kind → Bool
ends End = true
ends Eof = true
ends _ = false

-- Item text at k ps end stop: from the place at, after a token of kind k, the tokens up to the
-- first End or Eof are ps; end is the kind of that one, and stop the place after it.
pub data Item : List ℕ → ℕ → Kind → List Piece → (end : Kind) → (stop : ℕ) → Type 0 where
  over : {text : List ℕ} {at start stop : ℕ} {k e : Kind} →
      lexed text at k ≡ Tok e start stop → ends e ≡ true → Item text at k [] e stop
  next : {text : List ℕ} {at start stop last : ℕ} {k e end : Kind} {ps : List Piece} →
      lexed text at k ≡ Tok e start stop → ends e ≡ false → Item text stop e ps end last →
      Item text at k (record { kind = e; bytes = slice_range text start stop; place = start } ∷ ps)
      end last

-- Faulty text at k f place: the first fault of the item from the place at, after a token of kind k,
-- is f at place.
pub data Faulty : List ℕ → ℕ → Kind → FaultKind → ℕ → Type 0 where
  here :
      {text : List ℕ} {at place : ℕ} {k : Kind} {f : FaultKind} → lexed text at k ≡ Fault f place
      → Faulty text at k f place
  later : {text : List ℕ} {at start stop place : ℕ} {k e : Kind} {f : FaultKind} →
      lexed text at k ≡ Tok e start stop → ends e ≡ false → Faulty text stop e f place
      → Faulty text at k f place

-- Passes text at k last: last is the place after the next End, or the text's length where there is
-- none, past faults: after each the walk goes on at the byte after its place, where no token ends.
pub data Passes : List ℕ → ℕ → Kind → ℕ → Type 0 where
  over :
      {text : List ℕ} {at start stop : ℕ} {k e : Kind} → lexed text at k ≡ Tok e start stop
      → ends e ≡ true → Passes text at k stop
  next : {text : List ℕ} {at start stop last : ℕ} {k e : Kind} →
      lexed text at k ≡ Tok e start stop → ends e ≡ false → Passes text stop e last
      → Passes text at k last
  past : {text : List ℕ} {at place last : ℕ} {k : Kind} {f : FaultKind} →
      lexed text at k ≡ Fault f place → Passes text (place + 1) Eof last → Passes text at k last

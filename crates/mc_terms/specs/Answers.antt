-- What the reader answers for the item that begins in a place of a text (this project's profile).
use Rattle.std.specs.Prelude.{◌≡◌, ◌≢◌, ℕ, ◌+◌, ◌<◌, ◌≤◌, ◌⊎◌, List, Some, None, length}
use Rattle.mc_term_data.specs.Plain.{plain_term}
use Rattle.mc_term_data.specs.declared.term.Term.{Term}
use Rattle.mc_term_parser.specs.declared.lexeme.Lexeme.{Lexeme}
use Rattle.mc_term_parser.specs.Tree.{Tree, depth, too_large, term}
use Rattle.mc_term_parser.specs.Reads.{ReadsTerm}
use Rattle.mc_tokens.specs.declared.token.Kind.{Kind}
use Rattle.mc_tokens.specs.declared.token.Kind.TheVariants.{End, Eof}
use Rattle.mc_tokens.specs.declared.token.FaultKind.{FaultKind}
use Rattle.mc_tokens.specs.declared.token.FaultKind.TheVariants.{LeftOut}
use Rattle.mc_tokens.specs.Tokens.{Lexed, lexed, Tok, Fault}
use Rattle.mc_tokens.specs.Items.{Piece, Item, Faulty, Passes}
use Rattle.mc_terms.specs.declared.fault.ReadKind.{ReadKind}
use Rattle.mc_terms.specs.declared.fault.ReadKind.TheVariants.{Token, NotATerm, IntTooLarge, TooNested, Memory}
use Rattle.mc_terms.specs.Lines.{line_at}
use Rattle.mc_terms.specs.Lexemes.{lexemes}

-- the tokens of the item that begins in a place, the kind of the token that ends it, and the place
-- behind that one
abbrev pub AreItemTokens : List ℕ → ℕ → List Lexeme → (end : Kind) → (stop : ℕ) → Type 0
AreItemTokens text at ts end stop =
    (ps : List Piece) × Item text at Eof ps end stop × (lexemes text ps ≡ ts)

-- a full stop ends the item, and its tokens stand for a term, of which this is the tree
abbrev pub ItemReads : List ℕ → ℕ → Tree → ℕ → Type 0
ItemReads text at t stop =
    (ts : List Lexeme) × AreItemTokens text at ts End stop × ReadsTerm ts t 1200

-- why the tokens of an item are no term, by the kind of the token that ends it
abbrev pub AreNoTerm : List Lexeme → (end : Kind) → Type 0
AreNoTerm ts end =
    -- the text ends before a full stop, so that the item is cut off
    (end ≡ Eof)
    -- no term reads as the tokens
    ⊎ ((t : Tree) → ReadsTerm ts t 1200 → ⊥)

-- nothing but blanks and comments is left
abbrev pub IsOver : List ℕ → ℕ → Type 0
IsOver text at = (start : ℕ) × (stop : ℕ) × (lexed text at Eof ≡ Tok Eof start stop)

-- the item's first token, which may be its end, is on a line, and it isn't the text's end
abbrev pub BeginsOn : List ℕ → ℕ → ℕ → Type 0
BeginsOn text at line =
    (k : Kind)
    × (start : ℕ)
    × (stop : ℕ)
    × (lexed text at Eof ≡ Tok k start stop)
    × (k ≢ Eof)
    × (line ≡ line_at text start)

-- the place of a token, or of a fault
abbrev pub place_of : Lexed → ℕ
place_of (Tok k start stop) = start
place_of (Fault f place) = place

-- the line of an item: that of its first token, or of its first byte that is no token's
abbrev pub item_line : List ℕ → ℕ → ℕ
item_line text at = line_at text (place_of (lexed text at Eof))

-- the line of a faulty token: the fault's own, but for a form that is left out that of the item
abbrev pub token_line : FaultKind → (item own : ℕ) → ℕ
token_line LeftOut item own = item
token_line _ item own = own

-- The item is a term that is no deeper than 256 and holds no number that 64 bits don't hold.
abbrev pub IsItem : List ℕ → ℕ → Term → ℕ → Type 0
IsItem text at u next =
    (t : Tree)
    × ItemReads text at t next
    × (too_large t ≡ None)
    × (depth t ≤ 256)
    × (plain_term u ≡ term t)

-- Why an item isn't read, with the line of the fault and the place where reading goes on: after
-- want of memory the item's own.
abbrev pub IsRefused : List ℕ → ℕ → ReadKind → ℕ → ℕ → Type 0
IsRefused text at (Token f) line next =
    (place : ℕ)
    × Faulty text at Eof f place
    × (line ≡ token_line f (item_line text at) (line_at text place))
    × Passes text (place + 1) Eof next
IsRefused text at NotATerm line next =
    (ts : List Lexeme)
    × (end : Kind)
    × AreItemTokens text at ts end next
    × AreNoTerm ts end
    × BeginsOn text at line
IsRefused text at IntTooLarge line next =
    (t : Tree) × ItemReads text at t next × (too_large t ≡ Some line)
IsRefused text at TooNested line next =
    (t : Tree)
    × ItemReads text at t next
    × (too_large t ≡ None)
    × (256 < depth t)
    × BeginsOn text at line
IsRefused text at Memory line next = (line ≡ line_at text at) × (next ≡ at)

-- the place of the item's first faulty token
abbrev pub StandsAt : List ℕ → ℕ → ReadKind → ℕ → Type 0
StandsAt text at (Token f) place = Faulty text at Eof f place
StandsAt text at _ place = Unit {0}

-- Reading goes on behind the place where the item begins, and in the text, but after want of
-- memory.
abbrev pub IsOnward : List ℕ → ℕ → ReadKind → ℕ → Type 0
IsOnward text at Memory next = Unit {0}
IsOnward text at _ next = (at < next) × (next ≤ length text)

-- How the cells of a heap hold values: constants as they are, a constructor by its symbol and the
-- numbers of the cells that its arguments stand in, and a state of io by what it adds to the one in
-- an earlier cell.
use Rattle.std.specs.Prelude.{ℕ, pos, ◌<◌, List, [], ◌∷◌, ◌++◌, map, length, slice_index_or, Option, Some, None, All}
use Rattle.mc_program.specs.Values.{Val, int, char, str, con, state, vals, plain_value}
use Rattle.mc_program.specs.declared.value.Value.{Value, Int, Char, Str, Con, Io}
use Rattle.mc_values.specs.declared.cell.Cell.{Cell}
use Rattle.mc_values.specs.declared.cell.Cell.TheVariants as C
use Rattle.mc_values.specs.declared.cell.Args.{Args}
use Rattle.mc_values.specs.declared.cell.Args.TheVariants as A

abbrev pub refs_of : Args → List ℕ
refs_of A.None = []
refs_of (A.One refs) = refs
refs_of (A.Two refs) = refs
refs_of (A.More refs) = refs.value

-- the cell of a state of io that came before
abbrev pub refs_before : Option ℕ → List ℕ
refs_before None = []
refs_before (Some r) = r ∷ []

-- the cells that a cell names
abbrev pub named_of : Cell → List ℕ
named_of (C.Con symbol args) = refs_of args
named_of (C.Io s) = refs_before s.value.before
named_of _ = []

-- the bytes that were written where a value is a state of io
abbrev pub written_in : Val → List ℕ
written_in (state written taken) = written
written_in _ = []

-- the bytes that were written before
abbrev pub written_before : (ℕ → Val) → Option ℕ → List ℕ
written_before f None = []
written_before f (Some r) = written_in (f r)

-- the cells of the arguments of a cell's value
abbrev pub args_of : Cell → List ℕ
args_of (C.Con symbol args) = refs_of args
args_of _ = []

-- the value in a cell, by those in the cells that it names
abbrev pub value_of : (ℕ → Value) → Cell → Value
value_of f (C.Int n) = Int n
value_of f (C.Char c) = Char c
value_of f (C.Text t) = Str t
value_of f (C.Io s) =
    Io (written_before (λ r. plain_value (f r)) s.value.before ++ s.value.added) s.value.taken
value_of f (C.Con symbol args) = Con symbol (map f (refs_of args))

-- the same as plain data
abbrev pub plain_of : (ℕ → Val) → Cell → Val
plain_of f (C.Int n) = int n
plain_of f (C.Char c) = char c
plain_of f (C.Text t) = str t
plain_of f (C.Io s) = state (written_before f s.value.before ++ s.value.added) s.value.taken
plain_of f (C.Con symbol args) = con symbol (vals (map f (refs_of args)))

-- the value in a cell; past the last cell 0
abbrev pub owned_at : List Value → ℕ → Value
owned_at held r = slice_index_or held r (Int (pos 0))

-- these values and then those in the cells, each over the values before it
abbrev pub held_after : List Value → List Cell → List Value
held_after held [] = held
held_after held (c ∷ cells) = held_after (held ++ (value_of (owned_at held) c ∷ [])) cells

-- the values in the cells
abbrev pub held_in : List Cell → List Value
held_in cells = held_after [] cells

-- each cell names cells before it
abbrev pub AreCells : List Cell → Type 0
AreCells cells =
    (i : ℕ) (d : Cell) → i < length cells → All (λ r. r < i) (named_of (slice_index_or cells i d))

-- Values as a run of a program holds them. (Mercury Language Reference Manual: Types; this
-- project's profile of numbers, characters and strings.)
use Rattle.std.specs.Prelude.{◌≡◌, ◌<◌, ℕ, List, true, length, All, Option, IfSome}
use Rattle.std.specs.Str.{IsUtf8}
use Rattle.mc_program.specs.Values.{Val, int, char, str, con, state, Vals, no_vals, val_then}
use Rattle.mc_program.specs.Printed.{Names}
use Rattle.mc_program.specs.declared.program.Program.{Program}
use Rattle.mc_program.specs.declared.builtin.Builtin.{Builtin}
use Rattle.mc_program.specs.declared.builtin.Builtin.TheVariants.{ToCharList, ReadLine}
use Rattle.mc_model.specs.Builtins.{fits_64, is_scalar}
use Rattle.mc_model.specs.Builtins.{Library as Known}
use Rattle.mc_values.specs.Heap.{IsLive, value_at}
use Rattle.mc_values.specs.declared.heap.Heap.{Heap}
use Rattle.mc_builtins.specs.Answers.{known}
use Rattle.mc_builtins.specs.declared.library.Library.{Library}

abbrev mutual
  -- within the value each integer has 64 bits, each character is a Unicode scalar value, and each
  -- string is UTF-8
  pub IsProper : Val → Type 0
  IsProper (int n) = fits_64 n ≡ true
  IsProper (char c) = is_scalar c ≡ true
  IsProper (str bytes) = IsUtf8 bytes
  IsProper (con symbol args) = AllProper args
  IsProper (state written taken) = Unit {0}

  pub AllProper : Vals → Type 0
  AllProper no_vals = Unit {0}
  AllProper (val_then v vs) = IsProper v × AllProper vs

-- a value that clauses write as one: an integer, a character or a string
abbrev pub IsConstant : Val → Type 0
IsConstant (con symbol args) = ⊥
IsConstant (state written taken) = ⊥
IsConstant _ = Unit {0}

-- a value of a program: a proper one of whose symbols the program has each
pub record IsValue (P : Program) (v : Val) : Type 0 where
  pub named : Names P v
  pub proper : IsProper v

-- a Ref of a value of a program
pub record IsHeld (P : Program) (h : Heap) (r : ℕ) : Type 0 where
  pub live : IsLive h r
  pub value : IsValue P (value_at h r)

-- the Refs of a row, where there are some, are live
abbrev pub AreLive : Heap → List (Option ℕ) → Type 0
AreLive h refs = All (λ ref. IfSome ref (IsLive h)) refs

-- and stand for values of a program
abbrev pub AreHeld : Program → Heap → List (Option ℕ) → Type 0
AreHeld P h refs = All (λ ref. IfSome ref (IsHeld P h)) refs

-- where a builtin makes lists, their symbols are among so many
abbrev pub ListsAreNamed : (count : ℕ) → Known → Builtin → Type 0
ListsAreNamed n L ToCharList = (L.nil < n) × (L.cons < n)
ListsAreNamed n L _ = Unit {0}

-- where a builtin reads, the symbols of what a reading gives are among so many
abbrev pub ResultsAreNamed : (count : ℕ) → Known → Builtin → Type 0
ResultsAreNamed n L ReadLine = (L.ok < n) × (L.eof < n)
ResultsAreNamed n L _ = Unit {0}

-- the program has the symbols of lists, where the builtin makes some
abbrev pub HasLists : Library → Builtin → Type 0
HasLists l op = ListsAreNamed (length l.program.now.symbols) (known l) op

-- the program has the symbols of what a reading gives
pub record HasResults (l : Library) : Type 0 where
  pub ok : l.ok < length l.program.now.symbols
  pub eof : l.eof < length l.program.now.symbols

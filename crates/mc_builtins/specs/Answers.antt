-- What `apply` answers: a builtin's outcome, its values named by Refs of the heap. (Mercury Language
-- Reference Manual: the library; this project's profile.)
use Rattle.std.specs.Prelude.{◌≡◌, ℕ, List, [], ◌∷◌, Option, Some, None, IfSome}
use Rattle.std.specs.Str.{IsUtf8}
use Rattle.mc_program.specs.Values.{Val, str}
use Rattle.mc_program.specs.Printed.{names_of, printed, Names}
use Rattle.mc_program.specs.declared.program.Program.{Program}
use Rattle.mc_values.specs.Heap.{IsLive, value_at}
use Rattle.mc_values.specs.declared.heap.Heap.{Heap}
use Rattle.mc_model.specs.EventList.{Exc, zero_divide, error}
use Rattle.mc_model.specs.Outcomes.{Outcome, fails, gives, throws, writes, reads, reads_and_throws}
use Rattle.mc_model.specs.Builtins.{Library as Known}
use Rattle.mc_model.specs.declared.run.Exception.{Exception}
use Rattle.mc_model.specs.declared.run.Exception.TheVariants as X
use Rattle.mc_builtins.specs.declared.library.Library.{Library}
use Rattle.mc_builtins.specs.declared.applied.Applied.{Applied}
use Rattle.mc_builtins.specs.declared.applied.Applied.TheVariants as A

-- what builtins are told of a program: its symbols, and the text of a value by their names
abbrev pub known : Library → Known
known l =
    record {
      nil = l.nil;
      cons = l.cons;
      ok = l.ok;
      eof = l.eof;
      text_of = printed (names_of l.program.now);
    }

-- a string is UTF-8
abbrev pub IsText : Val → Type 0
IsText (str bytes) = IsUtf8 bytes
IsText _ = Unit {0}

-- a value of a program: the program has each of its symbols, and a string is UTF-8
pub record IsOf (P : Program) (v : Val) : Type 0 where
  pub named : Names P v
  pub text : IsText v

abbrev pub plain_exception : Exception → Exc
plain_exception X.ZeroDivide = zero_divide
plain_exception (X.Error text) = error text

-- a builtin reads the input from this byte on
abbrev pub ReadsFrom : ℕ → Outcome → Type 0
ReadsFrom k (reads from outputs) = from ≡ k
ReadsFrom k (reads_and_throws from e) = from ≡ k
ReadsFrom k _ = ⊥

-- the value of an output, where there is one
abbrev pub output_at : Heap → Option ℕ → List Val
output_at h None = []
output_at h (Some r) = value_at h r ∷ []

-- the answer tells what the outcome is over every input, by what the Refs in it stand for
abbrev pub Tells : Heap → ((input : List ℕ) → Outcome) → Applied → Type 0
Tells h does (A.Gives output) =
    IfSome output (IsLive h) × ((input : List ℕ) → does input ≡ gives (output_at h output))
Tells h does A.Fails = (input : List ℕ) → does input ≡ fails
Tells h does (A.Throws e) = (input : List ℕ) → does input ≡ throws (plain_exception e)
Tells h does (A.Wrote text after) =
    IsLive h after × ((input : List ℕ) → does input ≡ writes text (value_at h after ∷ []))
Tells h does (A.Reads from) = (input : List ℕ) → ReadsFrom from (does input)

-- How a call went: what it told, put and counted. (This project's profile.)
use Rattle.std.specs.Prelude.{◌≡◌, ℕ, List, [], ◌∷◌, ◌++◌, length, Contains, Option, Some, None, Ok, Err, IfSome}
use Rattle.mc_outside.specs.Counts.{Rose}
use Rattle.mc_outside.specs.Meaning.{Held, PutsFront}
use Rattle.mc_source.specs.declared.rule.Broken.{Broken}
use Rattle.mc_model.specs.EventList.{Ends, Halt, Exc, thrown}
use Rattle.mc_command_line.specs.Words.{Meaning, Bounds, meaning}
use Rattle.mc_compile.specs.Phases.{Breaks}
use Rattle.mc_compile.specs.Sources.{Sources}
use Rattle.mc_compile.specs.Ruling.{PlainExecutable}
use Rattle.mc_compile.specs.Compiling.{Compiles}
use Rattle.mc_compile.specs.declared.executable.Goal.{Goal}
use Rattle.mc_cmd.specs.declared.status.Status.{Status}
use Rattle.mc_cmd.specs.Messages.{absent_line, unreadable_line}
use Rattle.mc_cmd.specs.Ends.{Outcome, stop_of}
use Rattle.mc_cmd.specs.Outcome.{Defined, texts_in, These, Missing, files_of, sources_of, bounds_of, run_of_goal}

-- the store tells what it holds, and the sinks what was written
pub record Told (store : Option Held) (held : Held) (out : Option (List ℕ)) (before_out : List ℕ) (err : Option (List ℕ)) (before_err : List ℕ) : Type 0 where
  pub files : store ≡ Some held
  pub output : out ≡ Some before_out
  pub errors : err ≡ Some before_err

-- no count of faults rose
pub record NoneRose (files0 files1 out0 out1 err0 err1 : ℕ) : Type 0 where
  pub files : Rose files0 files1 → ⊥
  pub output : Rose out0 out1 → ⊥
  pub errors : Rose err0 err1 → ⊥

-- a sink was given these bytes
abbrev pub Wrote : Option (List ℕ) → Option (List ℕ) → List ℕ → Type 0
Wrote None after bytes = after ≡ None
Wrote (Some before) after bytes = after ≡ Some (before ++ bytes)

-- behind what was written before, the sinks hold the bytes of a defined answer, and the status is
-- its own
abbrev pub AnswersWhole :
    (words : List (List ℕ)) → Held → (before_out before_err : List ℕ)
    → Status → (after_out after_err : Option (List ℕ)) → Type 0
AnswersWhole words held before_out before_err status after_out after_err =
    (o : Outcome)
    × Defined words held o
    × (status ≡ o.status)
    × (after_out ≡ Some (before_out ++ o.out))
    × (after_err ≡ Some (before_err ++ o.err))

-- each sink was given a front part of a defined answer
abbrev pub PutsDefined :
    (words : List (List ℕ)) → Held → (out0 out1 err0 err1 : Option (List ℕ)) → Type 0
PutsDefined words held out0 out1 err0 err1 =
    (o : Outcome) × Defined words held o × PutsFront out0 out1 o.out × PutsFront err0 err1 o.err

-- the words mean a command, and P holds of the files that it names
abbrev pub OfFiles : (words : List (List ℕ)) → (List (List ℕ) → Type 0) → Type 0
OfFiles words P = (m : Meaning) × (meaning words ≡ Some m) × P (files_of m)

-- where it is told what the files hold, the first of these that isn't there is this one
abbrev pub Lacks : Option Held → List (List ℕ) → List ℕ → Type 0
Lacks None files file = Contains files file
Lacks (Some held) files file = texts_in held files ≡ Missing file

-- one of the files isn't there, on the error output was put the whole line that says so of it, and
-- nothing on the output
abbrev pub SaidAbsent :
    Option Held → (out0 out1 err0 err1 : Option (List ℕ)) → (files : List (List ℕ)) → Type 0
SaidAbsent store out0 out1 err0 err1 files =
    (file : List ℕ)
    × Lacks store files file
    × Wrote out0 out1 []
    × Wrote err0 err1 (absent_line file)

-- a text for each of the files: where it is told what these hold, it is theirs
abbrev pub HoldTexts : Option Held → (files texts : List (List ℕ)) → Type 0
HoldTexts None files texts = length texts ≡ length files
HoldTexts (Some held) files texts = texts_in held files ≡ These texts

-- the files are read one after another, and this is the one that can't be read: where it is told
-- what they hold, those before it are held
pub record CannotRead (store : Option Held) (files : List (List ℕ)) (file : List ℕ) : Type 0 where
  pub before : List (List ℕ)
  pub after : List (List ℕ)
  pub parts : files ≡ before ++ (file ∷ after)
  pub texts : List (List ℕ)
  pub holds : HoldTexts store before texts

-- on the error output was put a front part of the line that says of the file that can't be read
abbrev pub SaysUnreadable :
    Option Held → (before after : Option (List ℕ)) → (files : List (List ℕ)) → Type 0
SaysUnreadable store before after files =
    (file : List ℕ) × CannotRead store files file × PutsFront before after (unreadable_line file)

-- on the error output was put the whole line that says of the file that can't be read, and nothing
-- on the output
abbrev pub SaidUnreadable :
    Option Held → (out0 out1 err0 err1 : Option (List ℕ)) → (files : List (List ℕ)) → Type 0
SaidUnreadable store out0 out1 err0 err1 files =
    (file : List ℕ)
    × CannotRead store files file
    × Wrote out0 out1 []
    × Wrote err0 err1 (unreadable_line file)

-- The words mean a command, and P holds of it and of the sources that it compiles: its query, and
-- the texts of its files, where it is told what these hold.
pub record OfSources (words : List (List ℕ)) (store : Option Held) (P : Meaning → Sources → Type 0) : Type 0 where
  pub command : Meaning
  pub means : meaning words ≡ Some command
  pub texts : List (List ℕ)
  pub holds : HoldTexts store (files_of command) texts
  pub so : P command (sources_of command texts)

-- the sources break rules
abbrev pub BreaksRules : Meaning → Sources → Type 0
BreaksRules m s = (broken : List Broken) × Compiles s (Err (Breaks broken))

-- the run of the query or of `main`, where one is run, comes to its end within bounds
abbrev pub EndsWithin : Bounds → PlainExecutable → Type 0
EndsWithin b e = IfSome e.goal (λ goal. Ends (run_of_goal e.procs goal b.budget b.depth))

-- they compile, and what is run of them comes to its end within its bounds
abbrev pub RunsToEnd : Meaning → Sources → Type 0
RunsToEnd m s =
    (e : PlainExecutable) × Compiles s (Ok e) × EndsWithin (bounds_of m) e

-- They compile, and the run of the query, or of `main`, stops before its end for a reason of this
-- kind.
pub record StopsBy (IsSo : Halt → Type 0) (m : Meaning) (s : Sources) : Type 0 where
  pub executable : PlainExecutable
  pub compiles : Compiles s (Ok executable)
  pub goal : Goal
  pub asked : executable.goal ≡ Some goal
  pub halt : Halt
  pub stops :
      stop_of (run_of_goal executable.procs goal (bounds_of m).budget (bounds_of m).depth) ≡ Some halt
  pub so : IsSo halt

abbrev pub IsThrown : Halt → Type 0
IsThrown halt = (e : Exc) × (halt ≡ thrown e)

-- What is decided of words and files, and what is written of a decision.
use Rattle.std.specs.Prelude.{◌≡◌, ◌⊎◌, ℕ, ◌≤◌, List, [], map, Option, Some, None, Result, Ok, Err, IfOk}
use Rattle.std.specs.FinMap as finmap
use Rattle.mc_outside.specs.Counts.{Rose}
use Rattle.mc_outside.specs.Meaning.{Held, first_part, PutsFront}
use Rattle.mc_outside.specs.declared.traits.PutFault.{PutFault}
use Rattle.mc_outside.specs.declared.traits.PutFault.TheVariants as put
use Rattle.mc_outside.specs.declared.traits.FileAnswer.{FileAnswer}
use Rattle.mc_outside.specs.declared.traits.FileAnswer.TheVariants as A
use Rattle.mc_model.specs.EventList.{Ends}
use Rattle.mc_procs.specs.Procedures.{PlainProcs}
use Rattle.mc_command_line.specs.Words.{Meaning, meaning}
use Rattle.mc_command_line.specs.Plain.{plain_bounds}
use Rattle.mc_command_line.specs.declared.limits.Bounds.{Bounds}
use Rattle.mc_compile.specs.Phases.{Breaks}
use Rattle.mc_compile.specs.Ruling.{PlainExecutable}
use Rattle.mc_compile.specs.Compiling.{Compiles}
use Rattle.mc_compile.specs.declared.executable.Executable.{Executable}
use Rattle.mc_compile.specs.declared.executable.Goal.{Goal}
use Rattle.mc_compile.specs.declared.given.Given.{Given}
use Rattle.mc_cmd.specs.declared.status.Status.{Status}
use Rattle.mc_cmd.specs.declared.status.Status.TheVariants as S
use Rattle.mc_cmd.specs.declared.decision.Decision.{Decision}
use Rattle.mc_cmd.specs.declared.decision.Decision.TheVariants as D
use Rattle.mc_cmd.specs.Messages.{usage_line, absent_line, unreadable_line, broken_lines}
use Rattle.mc_cmd.specs.Ends.{Outcome, said}
use Rattle.mc_cmd.specs.Outcome.{files_of, bounds_of, sources_of, run_of_goal, written_goal}
use Rattle.mc_cmd.specs.Call.{CannotRead, HoldTexts, Lacks, Wrote}

abbrev pub given_names : List Given → List (List ℕ)
given_names gs = map (λ (g : Given). g.name) gs

-- Sources that compile, of which nothing is run.
pub record IsChecked (m : Meaning) (texts : List (List ℕ)) : Type 0 where
  pub executable : PlainExecutable
  pub compiles : Compiles (sources_of m texts) (Ok executable)
  pub unasked : executable.goal ≡ None

-- Sources that compile to procedures, with what is run over them.
pub record IsRan (m : Meaning) (texts : List (List ℕ)) (b : Bounds) (q : PlainProcs) (goal : Goal) : Type 0 where
  pub compiles : Compiles (sources_of m texts) (Ok (record { procs = q; goal = Some goal }))
  pub bounds : plain_bounds b ≡ bounds_of m

-- what is decided of a command whose sources compile
abbrev pub IsAnswered : Meaning → Executable → Decision → Type 0
IsAnswered m e D.Checked = e.goal ≡ None
IsAnswered m e (D.Ran b q goal) =
    (plain_bounds b ≡ bounds_of m) × ((e.procs ≡ q) × (e.goal ≡ Some goal))
IsAnswered m e _ = ⊥

-- what a decision says of a command and the texts of its files
abbrev pub Understood : Meaning → (texts : List (List ℕ)) → Decision → Type 0
Understood m texts (D.Rejected files broken) =
    (given_names files ≡ files_of m) × Compiles (sources_of m texts) (Err (Breaks broken))
Understood m texts D.Checked = IsChecked m texts
Understood m texts (D.Ran b q goal) = IsRan m texts b q goal
Understood m texts D.Memory = Unit {0}
Understood m texts _ = ⊥

-- why the reading of one file ends a call
abbrev pub IsHeld : Option Held → (file text : List ℕ) → Type 0
IsHeld None file text = Unit {0}
IsHeld (Some held) file text =
    (bytes : List ℕ) × ((finmap.get held file ≡ Some bytes) × (text ≡ first_part bytes))

abbrev pub IsNotHeld : Option Held → (file : List ℕ) → Type 0
IsNotHeld None file = Unit {0}
IsNotHeld (Some held) file = finmap.get held file ≡ None

abbrev pub StopsAt : Option Held → (file : List ℕ) → Decision → Type 0
StopsAt store file (D.Absent line) = IsNotHeld store file × (line.items ≡ absent_line file)
StopsAt store file (D.Unreadable line) = line.items ≡ unreadable_line file
StopsAt store file D.Memory = Unit {0}
StopsAt store file _ = ⊥

-- what is decided of a file that isn't read
abbrev pub IsStopped : (file : List ℕ) → FileAnswer → Decision → Type 0
IsStopped file A.Absent (D.Absent line) = line.items ≡ absent_line file
IsStopped file A.Failed (D.Unreadable line) = line.items ≡ unreadable_line file
IsStopped file _ D.Memory = Unit {0}
IsStopped file _ _ = ⊥

-- why the reading of files ends a call
abbrev pub Stops : Option Held → (files : List (List ℕ)) → Decision → Type 0
Stops store files (D.Absent line) =
    (file : List ℕ) × (Lacks store files file × (line.items ≡ absent_line file))
Stops store files (D.Unreadable line) =
    (file : List ℕ) × (CannotRead store files file × (line.items ≡ unreadable_line file))
Stops store files D.Memory = Unit {0}
Stops store files _ = ⊥

-- the words mean a command, of whose files these texts were read, and that is understood so
pub record IsOfTexts (words : List (List ℕ)) (store : Option Held) (d : Decision) : Type 0 where
  pub command : Meaning
  pub means : meaning words ≡ Some command
  pub texts : List (List ℕ)
  pub holds : HoldTexts store (files_of command) texts
  pub understood : Understood command texts d

-- the words mean a command, one of whose files ends the call
pub record IsOfFile (words : List (List ℕ)) (store : Option Held) (d : Decision) : Type 0 where
  pub command : Meaning
  pub means : meaning words ≡ Some command
  pub stops : Stops store (files_of command) d

-- what a decision says of the words and the files
abbrev pub IsDecided : (words : List (List ℕ)) → Option Held → Decision → Type 0
IsDecided words store D.Usage = meaning words ≡ None
IsDecided words store (D.Absent line) = IsOfFile words store (D.Absent line)
IsDecided words store (D.Unreadable line) = IsOfFile words store (D.Unreadable line)
IsDecided words store (D.Rejected files broken) = IsOfTexts words store (D.Rejected files broken)
IsDecided words store D.Checked = IsOfTexts words store D.Checked
IsDecided words store (D.Ran b q goal) = IsOfTexts words store (D.Ran b q goal)
IsDecided words store D.Memory = Unit {0}

-- and of the counts of the files
abbrev pub CountsFaults : Decision → ℕ → ℕ → Type 0
CountsFaults (D.Unreadable line) before now = Rose before now
CountsFaults D.Memory before now = before ≤ now
CountsFaults _ before now = now ≡ before

abbrev pub CountsAbsents : Decision → ℕ → ℕ → Type 0
CountsAbsents (D.Absent line) before now = Rose before now
CountsAbsents D.Memory before now = before ≤ now
CountsAbsents _ before now = now ≡ before

-- what is written of a decision, and the status where all of it was written
abbrev pub told_of : Decision → Outcome
told_of D.Usage = said usage_line S.Usage
told_of (D.Absent line) = said line.items S.Absent
told_of (D.Unreadable line) = said line.items S.ReadFault
told_of (D.Rejected files broken) = said (broken_lines (given_names files) broken) S.Rejected
told_of D.Checked = said [] S.Done
told_of (D.Ran b q goal) = written_goal (plain_bounds b) q goal
told_of D.Memory = said [] S.Memory

-- what is written of several pieces: all of them, or some from the front
abbrev pub Writes :
    {T : Type 0} → Option (List ℕ) → Option (List ℕ) → Result T PutFault → List ℕ → Type 0
Writes before after (Ok u) bytes = Wrote before after bytes
Writes before after (Err e) bytes = PutsFront before after bytes

-- the status after a writing: the one that was to be answered, where all was written
abbrev pub ended : Result Status PutFault → Status
ended (Ok s) = s
ended (Err put.Failed) = S.WriteFault
ended (Err put.Memory) = S.Memory

-- the counts of faults of both sinks: one of them rose where a put failed, and else they are as
-- they were
abbrev pub CountPuts : {T : Type 0} → Result T PutFault → (out0 out1 err0 err1 : ℕ) → Type 0
CountPuts (Err put.Failed) out0 out1 err0 err1 =
    ((out0 ≡ out1) × Rose err0 err1) ⊎ (Rose out0 out1 × (err0 ≡ err1))
CountPuts _ out0 out1 err0 err1 = (out0 ≡ out1) × (err0 ≡ err1)

-- at want of memory nothing is put
abbrev pub Quiet : Decision → Result Status PutFault → Type 0
Quiet D.Memory r = r ≡ Err put.Memory
Quiet _ r = Unit {0}

-- a run of which all was written, and whose status is that of an end, came to its end
abbrev pub EndsRun : Decision → Result Status PutFault → Type 0
EndsRun (D.Ran b q goal) r =
    IfOk r (λ s. s ≡ S.Done → Ends (run_of_goal q goal b.budget b.depth))
EndsRun _ r = Unit {0}

-- A sink before and after a call: what was written, and the count of faults.
pub record Sinks : Type 0 where
  pub before : Option (List ℕ)
  pub after : Option (List ℕ)
  pub faults_before : ℕ
  pub faults_after : ℕ

-- What a call did: it decided, and wrote what is told of the decision, or a front part of it.
pub record Happened (words : List (List ℕ)) (store : Option Held) (faults0 faults1 absents0 absents1 : ℕ) (out err : Sinks) (s : Status) : Type 0 where
  pub decision : Decision
  pub decided : IsDecided words store decision
  pub faults : CountsFaults decision faults0 faults1
  pub absents : CountsAbsents decision absents0 absents1
  pub written : Result Status PutFault
  pub output : Writes out.before out.after written (told_of decision).out
  pub errors : Writes err.before err.after written (told_of decision).err
  pub quiet : Quiet decision written
  pub ends : EndsRun decision written
  pub puts : CountPuts written out.faults_before out.faults_after err.faults_before err.faults_after
  pub told : IfOk written (λ t. t ≡ (told_of decision).status)
  pub status : s ≡ ended written

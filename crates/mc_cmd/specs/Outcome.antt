-- What a call of the command answers: the bytes on its output and on its error output, and the
-- status. (This project's profile.)
use Rattle.std.specs.Prelude.{◌≡◌, ℕ, Bool, true, false, List, [], ◌∷◌, Option, Some, None, Ok, Err}
use Rattle.std.specs.FinMap as finmap
use Rattle.mc_outside.specs.Meaning.{Held, first_part}
use Rattle.mc_command_line.specs.Words.{Meaning, Check, Run, Query, Bounds, meaning, query_text}
use Rattle.mc_program.specs.Values.{Val, state}
use Rattle.mc_program.specs.Printed.{printed}
use Rattle.mc_program.specs.Printed.{names_of as program_names}
use Rattle.mc_model.specs.Builtins.{outcome}
use Rattle.mc_model.specs.EventList.{Items}
use Rattle.mc_model.specs.Stream.{run_call, run_query}
use Rattle.mc_model.specs.Worlds.{library_of}
use Rattle.mc_procs.specs.Procedures.{PlainProcs, procedure_at}
use Rattle.mc_compile.specs.Phases.{Refusal, Breaks}
use Rattle.mc_compile.specs.Sources.{Sources}
use Rattle.mc_compile.specs.Ruling.{PlainExecutable}
use Rattle.mc_compile.specs.Compiling.{Compiles}
use Rattle.mc_compile.specs.declared.executable.Goal.{Goal}
use Rattle.mc_compile.specs.declared.executable.Goal.TheVariants as G
use Rattle.mc_cmd.specs.declared.status.Status.TheVariants as S
use Rattle.mc_cmd.specs.Messages.{usage_line, absent_line, broken_lines}
use Rattle.mc_cmd.specs.Ends.{Outcome, said, shown, written_run, written_main}

-- the files that a command names, in order
abbrev pub files_of : Meaning → List (List ℕ)
files_of (Check files) = files
files_of (Run bounds files) = files
files_of (Query first bounds goal files) = files

-- the text of its query
abbrev pub query_of : Meaning → Option (List ℕ)
query_of (Check files) = None
query_of (Run bounds files) = None
query_of (Query first bounds goal files) = Some (query_text goal)

-- whether the first answer alone is wanted
abbrev pub is_first : Meaning → Bool
is_first (Query first bounds goal files) = first
is_first _ = false

-- whether it runs `main`
abbrev pub is_run : Meaning → Bool
is_run (Run bounds files) = true
is_run _ = false

-- the bounds of a run; without one they are nothing
abbrev pub bounds_of : Meaning → Bounds
bounds_of (Check files) = record { budget = 0; depth = 0 }
bounds_of (Run bounds files) = bounds
bounds_of (Query first bounds goal files) = bounds

-- what is compiled of a command whose files hold these texts
abbrev pub sources_of : Meaning → (texts : List (List ℕ)) → Sources
sources_of m texts =
    record { texts = texts; query = query_of m; first = is_first m; wants_main = is_run m }

-- what is written where the sources go no further: the line of each broken rule
abbrev pub refusal : Meaning → Refusal → Outcome
refusal m (Breaks broken) = said (broken_lines (files_of m) broken) S.Rejected

-- the run of a query over procedures, over an empty input
abbrev pub run_of_query : PlainProcs → (query budget depth : ℕ) → Items (List (Option Val))
run_of_query q query n h =
    run_query (outcome (library_of q.program) []) (procedure_at q.added) n h
    (procedure_at q.added query)

-- what is written of it within bounds, by the names of the query's variables
abbrev pub written_query :
    Bounds → PlainProcs → (query : ℕ) → (variables : List (List ℕ)) → Outcome
written_query b q query variables =
    written_run b (printed (program_names q.program)) variables
    (shown (run_of_query q query b.budget b.depth))

-- the run of `main` over procedures: its call with io's first state, to which it gives the last one,
-- over an empty input
abbrev pub run_of_main : PlainProcs → (main budget depth : ℕ) → Items (List (Option Val))
run_of_main q main n h =
    run_call (outcome (library_of q.program) []) (procedure_at q.added) n h main
    (Some (state [] 0) ∷ None ∷ [])

-- the run of a goal over procedures
abbrev pub run_of_goal : PlainProcs → Goal → (budget depth : ℕ) → Items (List (Option Val))
run_of_goal q (G.Query number variables) n h = run_of_query q number n h
run_of_goal q (G.Main number) n h = run_of_main q number n h

-- what is written of it within bounds
abbrev pub written_goal : Bounds → PlainProcs → Goal → Outcome
written_goal b q (G.Query number variables) = written_query b q number variables
written_goal b q (G.Main number) = written_main b (run_of_main q number b.budget b.depth)

-- what is written of procedures within bounds; without a goal nothing is run
abbrev pub written_procedures : Bounds → PlainProcs → Option Goal → Outcome
written_procedures b q None = said [] S.Done
written_procedures b q (Some goal) = written_goal b q goal

-- what is written where the sources compile
abbrev pub written : Meaning → PlainExecutable → Outcome
written m e = written_procedures (bounds_of m) e.procs e.goal

-- What is answered of a command whose files hold these texts.
pub data Answers (m : Meaning) (texts : List (List ℕ)) : Outcome → Type 0 where
  refused : {r : Refusal} → Compiles (sources_of m texts) (Err r) → Answers m texts (refusal m r)
  ran :
      {e : PlainExecutable} → Compiles (sources_of m texts) (Ok e) → Answers m texts (written m e)

-- the texts that files hold, as much of each as is read, or the first file that isn't there
pub data Texts : Type 0 where
  These : List (List ℕ) → Texts
  Missing : (file : List ℕ) → Texts

abbrev pub with_text : List ℕ → Texts → Texts
with_text text (These texts) = These (text ∷ texts)
with_text text (Missing file) = Missing file

abbrev pub text_or_missing : (file : List ℕ) → Option (List ℕ) → Texts → Texts
text_or_missing file None rest = Missing file
text_or_missing file (Some bytes) rest = with_text (first_part bytes) rest

abbrev pub texts_in : Held → (files : List (List ℕ)) → Texts
texts_in held [] = These []
texts_in held (f ∷ fs) = text_or_missing f (finmap.get held f) (texts_in held fs)

abbrev pub AnswersOver : Meaning → Texts → Outcome → Type 0
AnswersOver m (These texts) o = Answers m texts o
AnswersOver m (Missing file) o = o ≡ said (absent_line file) S.Absent

abbrev pub DefinedFor : Option Meaning → Held → Outcome → Type 0
DefinedFor None held o = o ≡ said usage_line S.Usage
DefinedFor (Some m) held o = AnswersOver m (texts_in held (files_of m)) o

-- the defined answer of a list of words, by the bytes of each file
abbrev pub Defined : List (List ℕ) → Held → Outcome → Type 0
Defined words held o = DefinedFor (meaning words) held o

-- What sources are compiled to runs true: each run of each procedure is good, and so are those of the query and of `main`, which writes what its last state has gained.
-- (Mercury Language Reference Manual: Semantics; Modes; Determinism.)
use Rattle.std.specs.Prelude.{◌≡◌, ℕ, List, [], ◌∷◌, Option, Some, None, Ok}
use Rattle.mc_program.specs.Values.{Val, state}
use Rattle.mc_model.specs.Builtins.{outcome}
use Rattle.mc_model.specs.EventList.{Items}
use Rattle.mc_model.specs.Good.{System, TypeChoice, GoodRun, WritesAll, GoodProcedures, GoodQuery}
use Rattle.mc_model.specs.Stream.{run_call}
use Rattle.mc_model.specs.Truth.{stage}
use Rattle.mc_model.specs.Worlds.{library_of}
use Rattle.mc_procs.specs.Procedures.{as_system}
use Rattle.mc_compile.specs.Sources.{Sources}
use Rattle.mc_compile.specs.Ruling.{PlainExecutable}
use Rattle.mc_compile.specs.Compiling.{Compiles}
use Rattle.mc_compile.specs.declared.executable.Goal.TheVariants as G

-- the system of procedures that can be run, over an empty input
abbrev pub system_of_executable : PlainExecutable → System
system_of_executable e = as_system (outcome (library_of e.procs.program) []) e.procs

-- what `main` is called with: io's first state, to which it gives the last one
abbrev pub first_state : List (Option Val)
first_state = Some (state [] 0) ∷ None ∷ []

abbrev pub run_of_main : System → (n h number : ℕ) → Items (List (Option Val))
run_of_main S n h number = run_call S.world.outcome S.procs n h number first_state

-- a run of `main` is good, and writes what its last state has gained
pub record GoodMain (S : System) (n h number : ℕ) : Type 0 where
  pub run :
      (θ : TypeChoice)
      → GoodRun S θ (stage S.world n) (S.procs number).det.committed (S.procs number) first_state
      (run_of_main S n h number)
  pub writes : WritesAll first_state (run_of_main S n h number)

-- Procedures that can be run are good, and so is each run of what is run over them, at every budget
-- and height.
pub record IsTrueExecutable (e : PlainExecutable) : Type 0 where
  pub procedures : GoodProcedures (system_of_executable e)
  pub query :
      (number : ℕ) (variables : List (List ℕ)) → e.goal ≡ Some (G.Query number variables)
      → (n h : ℕ)
      → GoodQuery (system_of_executable e) n h ((system_of_executable e).procs number)
  pub main :
      (number : ℕ) → e.goal ≡ Some (G.Main number) → (n h : ℕ)
      → GoodMain (system_of_executable e) n h number

abbrev pub ExecutablesAreTrue : Type 0
ExecutablesAreTrue =
    (sources : Sources) (e : PlainExecutable)
    → Compiles sources (Ok e) → IsTrueExecutable e

-- What is written of procedures that run alike, with one goal, is the same.
use Rattle.std.proofs.Common.{◌≡◌, ℕ, List, [], ◌∷◌, Option, Some, None, refl, sym, ap, ap₂, ◌∙◌}
use Rattle.mc_command_line.specs.Words.{Bounds}
use Rattle.mc_program.specs.Printed.{printed, names_of}
use Rattle.mc_program.specs.Values.{Val, state}
use Rattle.mc_model.specs.Builtins.{Library, outcome}
use Rattle.mc_model.specs.EventList.{Items}
use Rattle.mc_model.specs.Stream.{run_call, run_query}
use Rattle.mc_model.specs.Worlds.{library_of}
use Rattle.mc_procs.specs.Procedures.{PlainProcs, procedure_at}
use Rattle.mc_compile.specs.Ruling.{PlainExecutable}
use Rattle.mc_compile.specs.declared.executable.Goal.{Goal}
use Rattle.mc_compile.specs.declared.executable.Goal.TheVariants as G
use Rattle.laws_one_answer.specs.OneAnswer.{RunAlike}
use Rattle.laws_one_answer.specs.OneCompiled.{OneExecutable, RunWithOne, OneToBeRun}
use Rattle.mc_cmd.specs.Ends.{Outcome, shown, written_run, written_main}
use Rattle.mc_cmd.specs.Outcome.{run_of_query, run_of_main, written_goal, written_procedures}

module _ (q r : PlainProcs) (alike : RunAlike q r) (with_one : RunWithOne q r) where
  one_query_run : (k n h : ℕ) → run_of_query q k n h ≡ run_of_query r k n h
  one_query_run k n h =
      alike.queries (outcome (library_of q.program) []) n h k
      ∙ ap (λ (l : Library). run_query (outcome l []) (procedure_at r.added) n h (procedure_at r.added k)) with_one.library

  one_main_run : (k n h : ℕ) → run_of_main q k n h ≡ run_of_main r k n h
  one_main_run k n h =
      alike.calls (outcome (library_of q.program) []) n h k (Some (state [] 0) ∷ None ∷ [])
      ∙ ap (λ (l : Library). run_call (outcome l []) (procedure_at r.added) n h k (Some (state [] 0) ∷ None ∷ [])) with_one.library

  goal_written : (b : Bounds) (goal : Goal) → written_goal b q goal ≡ written_goal b r goal
  goal_written b (G.Query number variables) =
      ap₂ (λ (names : List (List ℕ)) (xs : Items (List (Option Val))). written_run b (printed names) variables (shown xs)) with_one.names (one_query_run number b.budget b.depth)
  goal_written b (G.Main number) = ap (written_main b) (one_main_run number b.budget b.depth)

  procedures_written : (b : Bounds) (goal : Option Goal) → written_procedures b q goal ≡ written_procedures b r goal
  procedures_written b None = refl
  procedures_written b (Some goal) = goal_written b goal

pub written_as_one : OneToBeRun → (b : Bounds) (e f : PlainExecutable) → OneExecutable e f → written_procedures b e.procs e.goal ≡ written_procedures b f.procs f.goal
written_as_one to_be_run b e f one =
    procedures_written e.procs f.procs one.procs (to_be_run e.procs f.procs one.procs) b e.goal
    ∙ ap (written_procedures b f.procs) (sym one.goal)

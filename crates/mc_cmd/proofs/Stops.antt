-- How a run over procedures ends, and what is told of it.
use Rattle.std.proofs.Common.{◌≡◌, ◌≢◌, ℕ, List, [], ◌++◌, Option, Some, None, Result, Ok, Err, refl, sym, ap, ap₂, ◌∙◌, subst}
use Rattle.std.specs.Prelude.{IfOk, IfSome}
use Rattle.mc_outside.specs.Meaning.{Held}
use Rattle.mc_outside.specs.declared.traits.PutFault.{PutFault}
use Rattle.mc_outside.specs.declared.traits.PutFault.TheVariants as put
use Rattle.mc_model.specs.EventList as events
use Rattle.mc_model.specs.EventList.{End, Stuck, Stopped, Answer, Called, Wrote, Read, Ends, Halt, budget, too_deep, thrown}
use Rattle.mc_command_line.specs.Words.{Meaning, Bounds}
use Rattle.mc_command_line.specs.Plain.{plain_bounds}
use Rattle.mc_command_line.specs.declared.limits.Bounds.{Bounds as RunBounds}
use Rattle.mc_compile.specs.Ruling.{PlainExecutable}
use Rattle.mc_compile.specs.declared.executable.Goal.{Goal}
use Rattle.mc_compile.specs.declared.executable.Goal.TheVariants as G
use Rattle.mc_model.specs.declared.run.Stop.{Stop}
use Rattle.mc_cmd.specs.declared.status.Status.{Status}
use Rattle.mc_cmd.specs.declared.status.Status.TheVariants as S
use Rattle.mc_cmd.specs.declared.decision.Decision.TheVariants as D
use Rattle.mc_procs.specs.Procedures.{PlainProcs}
use Rattle.mc_cmd.specs.Ends.{said, stop_of, shown, end_line, end_status, written_main}
use Rattle.mc_cmd.specs.Outcome.{bounds_of, run_of_goal, run_of_query, written_procedures, written_goal, written}
use Rattle.mc_cmd.specs.Call.{EndsWithin, IsThrown, OfSources, StopsBy}
use Rattle.mc_cmd.specs.code.Runs.{QueryItems, EndsUnless, plain_end, plain_stop}
use Rattle.mc_cmd.specs.code.Decisions.{IsRan, IsOfTexts, told_of, ended}

-- what a run shows ends as the run does
pub stop_shown : (xs : QueryItems) → stop_of (shown xs) ≡ stop_of xs
stop_shown End = refl
stop_shown Stuck = refl
stop_shown (Stopped h) = refl
stop_shown (Answer a xs) = stop_shown xs
stop_shown (Called c xs) = stop_shown xs
stop_shown (Wrote t xs) = stop_shown xs
stop_shown (Read k xs) = stop_shown xs

pub ends_shown : (xs : QueryItems) → Ends (shown xs) → Ends xs
ends_shown End e = e
ends_shown Stuck e = e
ends_shown (Stopped h) e = e
ends_shown (Answer a xs) e = ends_shown xs e
ends_shown (Called c xs) e = ends_shown xs e
ends_shown (Wrote t xs) e = ends_shown xs e
ends_shown (Read k xs) e = ends_shown xs e

texts_shown : (xs : QueryItems) → events.written (shown xs) ≡ events.written xs
texts_shown End = refl
texts_shown Stuck = refl
texts_shown (Stopped h) = refl
texts_shown (Answer a xs) = texts_shown xs
texts_shown (Called c xs) = texts_shown xs
texts_shown (Wrote t xs) = ap (λ (bs : List ℕ). t ++ bs) (texts_shown xs)
texts_shown (Read k xs) = texts_shown xs

-- so what is written of a run of `main` is what is written of what it shows
pub main_same : (b : Bounds) (left xs : QueryItems) → left ≡ shown xs → written_main b left ≡ written_main b xs
main_same b left xs e =
    ap (written_main b) e
    ∙ ap₂ (λ (bs : List ℕ) (h : Option Halt). record { out = bs; err = end_line b h; status = end_status h }) (texts_shown xs) (stop_shown xs)

-- the status that is written of a goal's run is that of its end
pub goal_status : (b : Bounds) (q : PlainProcs) (goal : Goal) → (written_goal b q goal).status ≡ end_status (stop_of (run_of_goal q goal b.budget b.depth))
goal_status b q (G.Query number variables) = ap end_status (stop_shown (run_of_query q number b.budget b.depth))
goal_status b q (G.Main number) = refl

-- the statuses of runs
abbrev pub IsRunStatus : Status → Type 0
IsRunStatus S.Done = Unit {0}
IsRunStatus S.Threw = Unit {0}
IsRunStatus S.Budget = Unit {0}
IsRunStatus S.TooDeep = Unit {0}
IsRunStatus _ = ⊥

run_status : (h : Option Halt) → IsRunStatus (end_status h)
run_status None = tt
run_status (Some budget) = tt
run_status (Some too_deep) = tt
run_status (Some (thrown e)) = tt

pub ran_status : (b : RunBounds) (q : PlainProcs) (goal : Goal) (x : Status) → (told_of (D.Ran b q goal)).status ≡ x → IsRunStatus x
ran_status b q goal x t = subst IsRunStatus (sym (goal_status (plain_bounds b) q goal) ∙ t) (run_status (stop_of (run_of_goal q goal b.budget b.depth)))

-- of a stop the status isn't that of an end
stop_status : (s : Stop) → end_status (Some (plain_stop s)) ≢ S.Done
stop_status s e = at (plain_stop s) e
  where
    at : (h : Halt) → end_status (Some h) ≢ S.Done
    at budget e = cc
    at too_deep e = cc
    at (thrown x) e = cc

-- so where all was written, and the status is that of an end, the run ended
pub ends_unstopped : (s : Option Stop) (xs : QueryItems) (r : Result Status PutFault) → EndsUnless s xs → IfOk r (λ t. t ≡ end_status (plain_end s)) → IfOk r (λ t. t ≡ S.Done → Ends xs)
ends_unstopped None xs (Ok t) e i = λ d. e
ends_unstopped (Some s) xs (Ok t) e i = λ d. absurd (stop_status s (sym i ∙ d))
ends_unstopped None xs (Err f) e i = tt
ends_unstopped (Some s) xs (Err f) e i = tt

-- a run ends where what it shows does
pub ends_there : (r : Result Status PutFault) (left xs : QueryItems) → left ≡ shown xs → IfOk r (λ t. t ≡ S.Done → Ends left) → IfOk r (λ t. t ≡ S.Done → Ends xs)
ends_there (Ok t) left xs e f = λ d. ends_shown xs (subst Ends e (f d))
ends_there (Err p) left xs e f = tt

-- what was written whole with the status of an end
pub done_written : (r : Result Status PutFault) → ended r ≡ S.Done → r ≡ Ok S.Done
done_written (Ok u) e = ap Ok e
done_written (Err put.Failed) e = cc
done_written (Err put.Memory) e = cc

-- nothing is run
pub unasked_written : (m : Meaning) (e : PlainExecutable) → e.goal ≡ None → written m e ≡ said [] S.Done
unasked_written m e u = ap (written_procedures (bounds_of m) e.procs) u

pub unasked_ends : (b : Bounds) (e : PlainExecutable) → e.goal ≡ None → EndsWithin b e
unasked_ends b e u = subst (λ (o : Option Goal). IfSome o (λ goal. Ends (run_of_goal e.procs goal b.budget b.depth))) (sym u) tt

-- a goal over procedures is run
pub ran_written : (m : Meaning) (texts : List (List ℕ)) (b : RunBounds) (q : PlainProcs) (goal : Goal) → IsRan m texts b q goal → written m (record { procs = q; goal = Some goal }) ≡ told_of (D.Ran b q goal)
ran_written m texts b q goal a = ap (λ (k : Bounds). written_goal k q goal) (sym a.bounds)

pub ran_ends : (m : Meaning) (texts : List (List ℕ)) (b : RunBounds) (q : PlainProcs) (goal : Goal) → IsRan m texts b q goal → Ends (run_of_goal q goal b.budget b.depth) → EndsWithin (bounds_of m) (record { procs = q; goal = Some goal })
ran_ends m texts b q goal a n = subst (λ (k : Bounds). Ends (run_of_goal q goal k.budget k.depth)) a.bounds n

-- why a run stopped
pub record Stops (IsSo : Halt → Type 0) (h : Option Halt) : Type 0 where
  pub halt : Halt
  pub is : h ≡ Some halt
  pub so : IsSo halt

pub stops_thrown : (h : Option Halt) → end_status h ≡ S.Threw → Stops IsThrown h
stops_thrown None e = cc
stops_thrown (Some budget) e = cc
stops_thrown (Some too_deep) e = cc
stops_thrown (Some (thrown x)) e = record { halt = thrown x; is = refl; so = (x, refl) }

pub stops_spent : (h : Option Halt) → end_status h ≡ S.Budget → Stops (λ halt. halt ≡ budget) h
stops_spent None e = cc
stops_spent (Some budget) e = record { halt = budget; is = refl; so = refl }
stops_spent (Some too_deep) e = cc
stops_spent (Some (thrown x)) e = cc

pub stops_deep : (h : Option Halt) → end_status h ≡ S.TooDeep → Stops (λ halt. halt ≡ too_deep) h
stops_deep None e = cc
stops_deep (Some budget) e = cc
stops_deep (Some too_deep) e = record { halt = too_deep; is = refl; so = refl }
stops_deep (Some (thrown x)) e = cc

pub ran_stops : (IsSo : Halt → Type 0) (words : List (List ℕ)) (store : Option Held) (b : RunBounds) (q : PlainProcs) (goal : Goal) → IsOfTexts words store (D.Ran b q goal) → Stops IsSo (stop_of (run_of_goal q goal b.budget b.depth)) → OfSources words store (StopsBy IsSo)
ran_stops IsSo words store b q goal x s =
    let a = x.understood in
    record {
      command = x.command;
      means = x.means;
      texts = x.texts;
      holds = x.holds;
      so = record {
        executable = record { procs = q; goal = Some goal };
        compiles = a.compiles;
        goal = goal;
        asked = refl;
        halt = s.halt;
        stops = subst (λ (k : Bounds). stop_of (run_of_goal q goal k.budget k.depth) ≡ Some s.halt) a.bounds s.is;
        so = s.so;
      };
    }

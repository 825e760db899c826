-- What is left of a run of the plain executor, as the items of a query.
use Rattle.std.proofs.Common.{◌≡◌, ℕ, ◌<◌, List, [], ◌∷◌, map, length, get_or, Option, Some, None, Result, Ok, Err, refl, sym, ap, ◌∙◌, subst}
use Rattle.std.specs.Prelude.{IfOk}
use Rattle.std.proofs.lemmas.List.{get_or-map}
use Rattle.mc_base.specs.declared.memory.Memory.{Memory}
use Rattle.mc_program.specs.Values.{plain_value}
use Rattle.mc_program.specs.declared.value.Value.{Value}
use Rattle.mc_model.specs.EventList.{End, Stuck, Stopped, Answer, Called, Wrote, Read}
use Rattle.mc_model.specs.Events.{bound_values}
use Rattle.mc_model.specs.declared.run.Exception.TheVariants as E
use Rattle.mc_model.specs.declared.run.Stop.{Stop}
use Rattle.mc_model.specs.declared.run.Stop.TheVariants as H
use Rattle.mc_model.specs.declared.run.Step.{Step}
use Rattle.mc_model.specs.declared.run.Step.TheVariants as N
use Rattle.mc_model.specs.declared.run.Limits.{Limits}
use Rattle.mc_model.specs.declared.sched.Proc.{Proc}
use Rattle.mc_model.specs.PlainGoals.{plain_proc}
use Rattle.mc_model.specs.Scheduled.{Procedure}
use Rattle.mc_procs.specs.Procedures.{PlainProcs, no_procedure, procedure_at}
use Rattle.mc_flat_code.specs.Standing.{StandsFor, StandsForAll}
use Rattle.mc_flat_code.specs.declared.code.FlatProgram.{FlatProgram}
use Rattle.mc_flat_code.specs.declared.program.FlatQuery.{FlatQuery}
use Rattle.mc_plain.specs.Runs.{StandsForQuery, query_rest, main_rest}
use Rattle.mc_plain.specs.Rest.{Rest, rest_of, Gives, FollowsIf, Begins, plain_halt}
use Rattle.mc_program.specs.Printed.{names_of, printed}
use Rattle.mc_program.specs.declared.program.Program.{Program}
use Rattle.mc_command_line.specs.Words.{Bounds}
use Rattle.mc_cmd.specs.Ends.{shown, written_run}
use Rattle.mc_cmd.specs.Outcome.{run_of_main, run_of_query, written_query}
use Rattle.mc_cmd.specs.code.Runs.{QueryItems, from_next, bound, IsStep, plain_stop}
use Rattle.mc_cmd.specs.code.Procs.{WantsNothing, items_of, left_in}

-- the items of what is left of an event list are what it shows
pub rest_shown : (xs : QueryItems) → items_of (rest_of xs) ≡ shown xs
rest_shown End = refl
rest_shown Stuck = refl
rest_shown (Stopped h) = refl
rest_shown (Answer os xs) = ap (Answer (map Some (bound_values os))) (rest_shown xs)
rest_shown (Called c xs) = rest_shown xs
rest_shown (Wrote t xs) = ap (Wrote t) (rest_shown xs)
rest_shown (Read k xs) = ap (Read k) (rest_shown xs)

-- so a run that begins is left to show what its event list shows
pub begins_shown : (left : Option (List ℕ → Rest)) (asked : List ℕ → Rest) (xs : QueryItems) → Begins left asked → asked [] ≡ rest_of xs → left_in left ≡ shown xs
begins_shown None asked xs b e = absurd b
begins_shown (Some rest) asked xs b e = ap items_of (b [] ∙ e) ∙ rest_shown xs

stop_same : (s : Stop) → plain_halt s ≡ plain_stop s
stop_same H.Budget = refl
stop_same H.TooDeep = refl
stop_same (H.Throw E.ZeroDivide) = refl
stop_same (H.Throw (E.Error t)) = refl

bound_same : (values : List Value) → map Some (map plain_value values) ≡ bound values
bound_same [] = refl
bound_same (v ∷ vs) = ap (λ os. Some (plain_value v) ∷ os) (bound_same vs)

-- what follows in the executor's run is a step of the query's items, where it isn't a wish for input
step_of_rest : (s : Step) (old new : Rest) → WantsNothing s → Gives s old new → IsStep (items_of old) (items_of new) s
step_of_rest (N.Answer values) old new quiet g = ap (λ r. from_next (items_of r)) g ∙ ap (λ os. Answer os (items_of new)) (bound_same values)
step_of_rest (N.Wrote text) old new quiet g = ap (λ r. from_next (items_of r)) g
step_of_rest N.End old new quiet g = ap (λ r. from_next (items_of r)) g.0
step_of_rest (N.Stopped s) old new quiet g = ap (λ r. from_next (items_of r)) g.0 ∙ ap Stopped (stop_same s)
step_of_rest (N.Wants k) old new quiet g = absurd quiet

pub follows_step : (s : Step) (old new : Option (List ℕ → Rest)) → WantsNothing s → FollowsIf (Some s) old new → IsStep (left_in old) (left_in new) s
follows_step s None new quiet f = absurd f
follows_step s (Some old) None quiet f = absurd f
follows_step s (Some old) (Some new) quiet f = step_of_rest s (old []) (new []) quiet (f [])

-- a step that a run gives and that wants nothing
pub goes_on : (given : Option Step) (r : Result Step Memory) (old new : Option (List ℕ → Rest)) → IfOk r (λ s. (given ≡ Some s) × WantsNothing s) → FollowsIf given old new → IfOk r (IsStep (left_in old) (left_in new))
goes_on given (Ok s) old new w f = follows_step s old new w.1 (subst (λ g. FollowsIf g old new) w.0 f)
goes_on given (Err e) old new w f = tt

module _ (procs : List Proc) (query : ℕ) where
  -- the procedure of a number that came
  pub procedure_there : (got : Proc) → query < length procs → got ≡ get_or procs query got → plain_proc got ≡ procedure_at procs query
  procedure_there got l e = ap plain_proc e ∙ sym (get_or-map plain_proc procs query got no_procedure l)

  -- code that stands for the procedures stands for them with one of them as the query
  pub stands_there : (program : FlatProgram) (got : Proc) (r : Result FlatQuery Memory) → query < length procs → got ≡ get_or procs query got → StandsForAll program (procedure_at procs) →
      IfOk r (λ flat. (procs : ℕ → Procedure) → StandsForAll program procs → StandsForAll flat.program procs) → IfOk r (λ flat. StandsFor flat.program.code flat.query (plain_proc got)) → IfOk r (λ flat. StandsForQuery flat (procedure_at procs) (procedure_at procs query))
  stands_there program got (Ok flat) l e s p q = record {
    program = p (procedure_at procs) s;
    query = subst (StandsFor flat.program.code flat.query) (procedure_there got l e) q;
  }
  stands_there program got (Err m) l e s p q = tt

-- what is left of the run of a query that begins
pub left_first : (q : PlainProcs) (query : ℕ) (limits : Limits) (left : Option (List ℕ → Rest)) → Begins left (query_rest q.program limits (procedure_at q.added) (procedure_at q.added query)) → left_in left ≡ shown (run_of_query q query limits.budget limits.depth)
left_first q query limits left b = begins_shown left (query_rest q.program limits (procedure_at q.added) (procedure_at q.added query)) (run_of_query q query limits.budget limits.depth) b refl

-- and of that of `main`
pub main_first : (q : PlainProcs) (main : ℕ) (limits : Limits) (left : Option (List ℕ → Rest)) → Begins left (main_rest q.program limits (procedure_at q.added) main) → left_in left ≡ shown (run_of_main q main limits.budget limits.depth)
main_first q main limits left b = begins_shown left (main_rest q.program limits (procedure_at q.added) main) (run_of_main q main limits.budget limits.depth) b refl

-- what is written of a query's
pub written_same : (b : Bounds) (q : PlainProcs) (query : ℕ) (vs : List (List ℕ)) (program : Program) (left : QueryItems) → program ≡ q.program → left ≡ shown (run_of_query q query b.budget b.depth) → written_run b (printed (names_of program)) vs left ≡ written_query b q query vs
written_same b q query vs program left e l =
    ap (λ (p : Program). written_run b (printed (names_of p)) vs left) e ∙ ap (written_run b (printed (names_of q.program)) vs) l

-- The law of flat code: without its ticks it does what the goals and procedures do that it stands
-- for.
use Rattle.std.specs.Prelude.{◌≡◌, ℕ, List, Option}
use Rattle.mc_program.specs.Values.{Val}
use Rattle.mc_program.specs.declared.builtin.Builtin.{Builtin}
use Rattle.mc_model.specs.EventList as L
use Rattle.mc_model.specs.Outcomes.{Outcome}
use Rattle.mc_model.specs.Scheduled.{Node, Procedure}
use Rattle.mc_model.specs.Stream.{Bindings, stream, body_items, calls}
use Rattle.mc_flat_code.specs.Ticked.{events}
use Rattle.mc_flat_code.specs.Running.{IsCode, place_list, body_list, call_list}
use Rattle.mc_flat_code.specs.Standing.{Stands, StandsFor, StandsForAll}
use Rattle.mc_flat_code.specs.declared.code.Body.{Body}
use Rattle.mc_flat_code.specs.declared.code.FlatProgram.{FlatProgram}

-- a place does the goal that it stands for, and after each answer what the next place does
abbrev pub GoalsRunAsSource : Type 0
GoalsRunAsSource =
    (outcome : Builtin → List Val → Outcome) (f : FlatProgram) (procs : ℕ → Procedure) →
    IsCode f.code → StandsForAll f procs →
    (m h : ℕ) (n : Node) (q pc : ℕ) → Stands f.code n q pc → (e : Bindings) →
    events (place_list outcome f.code (call_list outcome f m) h pc e)
    ≡ L.bind
    (stream outcome (calls outcome procs m) h n e)
    (λ a. events (place_list outcome f.code (call_list outcome f m) h q a))

-- a body does what the procedure's body does
abbrev pub BodiesRunAsSource : Type 0
BodiesRunAsSource =
    (outcome : Builtin → List Val → Outcome) (f : FlatProgram) (procs : ℕ → Procedure) →
    IsCode f.code → StandsForAll f procs →
    (m h : ℕ) (b : Body) (p : Procedure) → StandsFor f.code b p → (vs : List (Option Val)) →
    events (body_list outcome f.code (call_list outcome f m) h b vs)
    ≡ body_items outcome (calls outcome procs m) h p vs

-- calls do what the calls of the procedures do
abbrev pub CallsRunAsSource : Type 0
CallsRunAsSource =
    (outcome : Builtin → List Val → Outcome) (f : FlatProgram) (procs : ℕ → Procedure) →
    IsCode f.code → StandsForAll f procs →
    (m h k : ℕ) (vs : List (Option Val)) →
    events (call_list outcome f m h k vs) ≡ calls outcome procs m h k vs

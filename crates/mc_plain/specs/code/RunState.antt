-- A run with its heap: what it stands for over each input, and what each step of it does.
use Rattle.std.specs.Prelude.{◌≡◌, ℕ, List, All, Option, Some, None}
use Rattle.mc_program.specs.Values.{Val}
use Rattle.mc_program.specs.declared.builtin.Builtin.{Builtin}
use Rattle.mc_program.specs.declared.builtin.Builtin.TheVariants.{ReadLine}
use Rattle.mc_values.specs.declared.heap.Heap.{Heap}
use Rattle.mc_model.specs.Builtins.{outcome}
use Rattle.mc_model.specs.Outcomes.{Outcome}
use Rattle.mc_model.specs.Stream.{apply_items, gather}
use Rattle.mc_model.specs.Worlds.{library_of}
use Rattle.mc_model.specs.declared.run.Step.{Step}
use Rattle.mc_model.specs.declared.run.Step.TheVariants.{Wants}
use Rattle.mc_builtins.specs.Answers.{known}
use Rattle.mc_plain.specs.Values.{IsHeld}
use Rattle.mc_plain.specs.Atoms.{ReadsFrom}
use Rattle.mc_flat_code.specs.Ticked.{Ticked, End, events}
use Rattle.mc_flat_code.specs.Running.{instr_at, variables_at, IsCode}
use Rattle.mc_flat_code.specs.declared.code.Instr.{Instr}
use Rattle.mc_flat_code.specs.declared.code.Instr.TheVariants.{Done, Apply}
use Rattle.mc_flat_code.specs.declared.code.Span.{Span}
use Rattle.mc_flat_code.specs.declared.code.FlatProgram.{FlatProgram}
use Rattle.mc_plain.specs.code.Machine.{Machine, Whole, Moved, left, cost}
use Rattle.mc_plain.specs.code.Views.{machine}
use Rattle.mc_plain.specs.code.Held.{AllHeld}
use Rattle.mc_plain.specs.code.Constants.{AreConstants}
use Rattle.mc_plain.specs.Names.{NamesAll}
use Rattle.mc_plain.specs.Rest.{Rest, rest_of, Gives, GivesIf}
use Rattle.mc_plain.specs.Rest.{reads as wish}
use Rattle.mc_plain.specs.declared.state.NextAction.TheVariants.{At}
use Rattle.mc_plain.specs.declared.state.Control.{Control}
use Rattle.mc_plain.specs.declared.state.RunContext.{RunContext}
use Rattle.mc_plain.specs.declared.state.RunState.{RunState}
use Rattle.mc_plain.specs.declared.step.StepResult.{StepResult}
use Rattle.mc_plain.specs.declared.step.StepResult.TheVariants as T

-- what is shown stays and it costs less, whatever the builtins, the heap and the run's outputs
abbrev pub Steps : FlatProgram → Control → Control → Type 0
Steps f old new =
    (outcome : Builtin → List Val → Outcome) (head last : List ℕ) (h : Heap) →
    IsCode f.code → Whole (machine h old) →
    Moved outcome f head last (machine h old) (machine h new)

-- the same over one heap
abbrev pub StepsIn : Heap → FlatProgram → Control → Control → Type 0
StepsIn h f old new =
    (outcome : Builtin → List Val → Outcome) (head last : List ℕ) →
    IsCode f.code → Whole (machine h old) →
    Moved outcome f head last (machine h old) (machine h new)

-- nothing is left of a run
abbrev pub HasEnded : FlatProgram → Control → Type 0
HasEnded f c =
    (outcome : Builtin → List Val → Outcome) (head last : List ℕ) (h : Heap) →
    left outcome f head last (machine h c) ≡ End

-- the goal that is run next is an answer
abbrev pub IsAtAnswer : FlatProgram → Control → Type 0
IsAtAnswer f c = (place : ℕ) × ((c.now ≡ At place) × (instr_at f.code place ≡ Some Done))

module _ (t : RunContext) where
  abbrev pub meaning : List ℕ → Builtin → List Val → Outcome
  meaning input = outcome (known t.library) input

  abbrev pub head_of : List ℕ
  head_of = variables_at t.flat.code t.head

  abbrev pub last_of : List ℕ
  last_of = variables_at t.flat.code t.last

  abbrev pub machine_of : RunState → Machine
  machine_of w = machine w.heap w.control

  abbrev pub left_in : RunState → List ℕ → Ticked (List (Option Val))
  left_in w input = left (meaning input) t.flat head_of last_of (machine_of w)

  abbrev pub cost_in : RunState → List ℕ → ℕ
  cost_in w input = cost (meaning input) t.flat head_of last_of (machine_of w)

  abbrev pub rest_in : RunState → List ℕ → Rest
  rest_in w input = rest_of (events (left_in w input))

  -- what holds of a setting, whatever is run
  pub record IsRunContext : Type 0 where
    pub code : IsCode t.flat.code
    pub knows : known t.library ≡ library_of t.library.program.now
    pub names : NamesAll t.library.program.now t.flat.code

  -- Refs of the code's constants, which are values of the program
  pub record HasConstants (h : Heap) : Type 0 where
    pub refs : AreConstants h t.flat.code t.constants.items
    pub held : All (IsHeld t.library.program.now h) t.constants.items

  -- what holds between steps
  pub record IsReady (w : RunState) : Type 0 where
    pub held : AllHeld t.library.program.now w.heap w.control
    pub constants : HasConstants w.heap
    pub whole : Whole (machine_of w)

  pub record Moves (old new : RunState) : Type 0 where
    pub ready : IsReady new
    pub moved :
        (input : List ℕ) → Moved (meaning input) t.flat head_of last_of (machine_of old) (machine_of new)

  -- a run that goes on at a place with this goal
  pub record IsAt (w : RunState) (place : ℕ) (goal : Instr) : Type 0 where
    pub setting : IsRunContext
    pub ready : IsReady w
    pub now : w.control.now ≡ At place
    pub goal_is : instr_at t.flat.code place ≡ Some goal

  -- a run that stands at a goal that reads, and wants a line of the input from a byte on
  pub record IsWaiting (w : RunState) (from : ℕ) : Type 0 where
    pub place : ℕ
    pub inputs : Span
    pub outputs : Span
    pub next : ℕ
    pub stands : IsAt w place (Apply ReadLine inputs outputs next)
    pub reads :
        (input : List ℕ) →
        ReadsFrom from
        (apply_items (meaning input ReadLine) (variables_at t.flat.code outputs) (machine_of w).bindings
        (gather (variables_at t.flat.code inputs) (machine_of w).bindings))
    pub shows : (input : List ℕ) → (later : Rest) × (rest_in w input ≡ wish from later)

  -- where a run shows that it wants a line, it stands so
  abbrev pub Waits : Step → RunState → Type 0
  Waits (Wants from) w = IsWaiting w from
  Waits _ w = Unit {0}

  abbrev pub WaitsIf : Option Step → RunState → Type 0
  WaitsIf None w = Unit {0}
  WaitsIf (Some s) w = Waits s w

  -- a step moves, or shows something, or none is taken, since an unbound variable would be read
  abbrev pub Stepped : RunState → StepResult → RunState → Type 0
  Stepped old T.Moved new = Moves old new
  Stepped old (T.Showed s) new =
      IsReady new
      × ((input : List ℕ) → Gives s (rest_in old input) (rest_in new input))
      × Waits s new
  Stepped old T.Stuck new =
      IsReady new × ((input : List ℕ) → GivesIf None (rest_in old input) (rest_in new input))

  abbrev pub Came : RunState → Option Step → RunState → Type 0
  Came old step new =
      IsReady new
      × ((input : List ℕ) → GivesIf step (rest_in old input) (rest_in new input))
      × WaitsIf step new

  -- what holds of a run that has not wanted memory
  pub record IsRunning (w : RunState) : Type 0 where
    pub setting : IsRunContext
    pub ready : IsReady w

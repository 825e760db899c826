-- Tests of fresh variables in goals whose order is known: each compares values of one type, whatever
-- types later variables get.
use Rattle.std.specs.Prelude.{ℕ, List, get_or}
use Rattle.mc_program.specs.Programs.{TypeTerm}
use Rattle.mc_model.specs.Flat.{Flat_goal}
use Rattle.mc_model.specs.PlainGoals.{plain_node}
use Rattle.mc_model.specs.declared.sched.GoalNode.{GoalNode}
use Rattle.mc_accepted.specs.FreshTests.{TestsAlike}
use Rattle.mc_procs.specs.Named.{NumbersBelow}
use Rattle.mc_mode_state.specs.Agreeing.{TypedAs}
use Rattle.mc_mode_state.specs.Answers.{FreshAlike}
use Rattle.mc_mode_state.specs.declared.state.State.{State}
use Rattle.mc_modes.specs.code.Waiting.{nothing}
use Rattle.mc_modes.specs.declared.ending.Begun.{Begun}
use Rattle.mc_modes.specs.declared.waiting.Found.{Found}
use Rattle.mc_modes.specs.declared.waiting.Found.TheVariants as V

-- of a goal over these variables
abbrev pub NodeAlike : List ℕ → State → GoalNode → Type 0
NodeAlike vs t node =
    (T : ℕ → TypeTerm) (next : ℕ) → TypedAs t T → NumbersBelow next vs
    → TestsAlike T next (plain_node node)

-- of the waiting goal that runs
abbrev pub FoundAlike : List Flat_goal → State → Found → Type 0
FoundAlike gs t (V.Ready k p) = FreshAlike (get_or gs k nothing) t p
FoundAlike gs t (V.NoneReady f) = Unit {0}

-- of a condition and a then part
abbrev pub BegunAlike : List ℕ → State → Begun → Type 0
BegunAlike vs t b =
    (T : ℕ → TypeTerm) (next : ℕ) → TypedAs t T → NumbersBelow next vs
    → TestsAlike T next (plain_node b.condition) × TestsAlike T next (plain_node b.then_part)

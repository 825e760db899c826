-- A builtin's arguments by their sides, and the tests of fresh variables that come after it.
use Rattle.std.specs.Prelude.{◌≡◌, ℕ, ◌<◌, Bool, true, false, List, [], ◌∷◌, length, map}
use Rattle.mc_program.specs.Programs.{TypeTerm}
use Rattle.mc_program.specs.declared.ty.Ty.{Ty}
use Rattle.mc_model.specs.PlainGoals.{plain_node}
use Rattle.mc_model.specs.Scheduled.{Node, Test, nodes}
use Rattle.mc_accepted.specs.FreshTests.{AllAlike}
use Rattle.mc_accepted.specs.Ordered.{at_inputs, at_outputs}
use Rattle.mc_accepted.specs.Unmarked.{unmarked}
use Rattle.mc_mode_state.specs.Nodes.{type_in}
use Rattle.mc_mode_state.specs.Agreeing.{TypedAs}
use Rattle.mc_mode_state.specs.declared.state.State.{State}
use Rattle.mc_mode_state.specs.declared.part.Part.{Part}

-- the arguments at inputs, or those at outputs
abbrev pub at_sides : (inputs : Bool) → List Bool → List ℕ → List ℕ
at_sides true bs xs = at_inputs bs xs
at_sides false bs xs = at_outputs bs xs

abbrev pub test_of : ℕ × ℕ → Node
test_of t = unmarked (Test t.0 t.1)

-- the variables of each test are there, and have one type
abbrev pub AlikeIn : List Ty → List (ℕ × ℕ) → Type 0
AlikeIn ts [] = Unit {0}
AlikeIn ts (t ∷ rest) =
    (t.0 < length ts) × (t.1 < length ts) × (type_in ts t.0 ≡ type_in ts t.1) × AlikeIn ts rest

-- each test in the goals compares values of one type, by the types that are there
abbrev pub TestsAgree : State → Part → Type 0
TestsAgree t p =
    (T : ℕ → TypeTerm) (next : ℕ) → TypedAs t T
    → AllAlike T next (nodes (map plain_node p.goals.items))

-- The law that procedures run as their bare forms do.
use Rattle.std.specs.Prelude.{◌≡◌, ℕ, List, Option}
use Rattle.mc_program.specs.Values.{Val}
use Rattle.mc_model.specs.Scheduled.{Node, Procedure}
use Rattle.mc_model.specs.Outcomes.{Outcome}
use Rattle.mc_model.specs.Stream.{Bindings, run, run_call, run_query}
use Rattle.mc_model.specs.Bare.{bare_node, bare_procedure}
use Rattle.mc_program.specs.declared.builtin.Builtin.{Builtin}

abbrev pub each_bare : (ℕ → Procedure) → ℕ → Procedure
each_bare procs k = bare_procedure (procs k)

-- at every budget and height, from all bindings and arguments
abbrev pub GoalsRunBare : Type 0
GoalsRunBare =
    (outcome : Builtin → List Val → Outcome) (procs : ℕ → Procedure) (n h : ℕ) (g : Node)
    (e : Bindings) →
    run outcome (each_bare procs) n h (bare_node g) e ≡ run outcome procs n h g e

abbrev pub CallsRunBare : Type 0
CallsRunBare =
    (outcome : Builtin → List Val → Outcome) (procs : ℕ → Procedure) (n h k : ℕ)
    (vs : List (Option Val)) →
    run_call outcome (each_bare procs) n h k vs ≡ run_call outcome procs n h k vs

abbrev pub QueriesRunBare : Type 0
QueriesRunBare =
    (outcome : Builtin → List Val → Outcome) (procs : ℕ → Procedure) (n h : ℕ) (q : Procedure) →
    run_query outcome (each_bare procs) n h (bare_procedure q) ≡ run_query outcome procs n h q

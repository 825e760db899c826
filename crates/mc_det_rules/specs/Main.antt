-- The procedure that `run` calls. (This project's profile.)
use Rattle.std.specs.Prelude.{◌≡◌, ℕ, true, List, [], Option, is_some, length}
use Rattle.std.specs.List.{find}
use Rattle.mc_source.specs.declared.det.Det.{Det}
use Rattle.mc_program.specs.Values.{Val}
use Rattle.mc_program.specs.declared.builtin.Builtin.{Builtin}
use Rattle.mc_model.specs.Lists.{from}
use Rattle.mc_model.specs.Outcomes.{Outcome, fails}
use Rattle.mc_accepted.specs.DeterminismFaults.{is_main, determinism_faults}
use Rattle.mc_procs.specs.Procedures.{PlainProcs, as_system}
use Rattle.mc_det.specs.Determinisms.{declared_procedure, declared_system}

-- the first procedure that is the `main` that is asked for; what builtins do doesn't matter for that
abbrev pub main_number : PlainProcs → Option ℕ
main_number q =
    find (λ k. is_main (as_system (λ op vs. fails) q) (declared_procedure q.added k))
    (from 0 (length q.added))

-- where `main` is asked for and procedures break no rule of determinism, there is one
abbrev pub MainIsThere : Type 0
MainIsThere =
    (outcome : Builtin → List Val → Outcome) (q : PlainProcs) (ds : ℕ → Det)
    → determinism_faults true (declared_system outcome q) ds ≡ [] → is_some (main_number q) ≡ true

-- The `main` that is run, told by a program's predicates and what is declared.
use Rattle.std.specs.Prelude.{ℕ, Bool, nat_eq, ◌&&◌, Some}
use Rattle.mc_program.specs.Programs.{Predicate}
use Rattle.mc_source.specs.declared.det.Det.{Det}
use Rattle.mc_accepted.specs.Ordered.{modes_of_procedure}
use Rattle.mc_accepted.specs.Inferred.{DeclaredProcedure}
use Rattle.mc_accepted.specs.DeterminismFaults.{is_main_name, are_states, takes_states, is_det_or_cc_multi}

abbrev pub main_by : (preds : ℕ → Predicate) → DeclaredProcedure → Bool
main_by preds d =
    d.exported
    && (nat_eq d.at.file 0
    && (is_main_name (preds d.procedure.pred).name
    && (are_states (preds d.procedure.pred).types
    && (takes_states (modes_of_procedure d.procedure) && is_det_or_cc_multi d.declared))))

abbrev pub is_wanted : Det → Bool
is_wanted d = is_det_or_cc_multi (Some d)

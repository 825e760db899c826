use Rattle.std.proofs.Common.{◌≡◌, ◌↔◌, ℕ, map, drop}
use Rattle.mc_program.specs.Programs.{TypeTerm}
use Rattle.mc_program.specs.PlainPrograms.{plain_type}
use Rattle.mc_model.specs.Types.{instance_of}
use Rattle.mc_procs.specs.VariableTypes.{type_in}
use Rattle.mc_self_check.specs.code.Bindings.{Agrees}
use Rattle.mc_self_check.proofs.matching.have_instance.Given as goal

abbrev pub invariant-loop-place : goal.invariant-loop-place
invariant-loop-place l =
    (σ : ℕ → TypeTerm)
    → (Agrees σ l.bound.items × (map (type_in l.types) (drop l.place l.variables) ≡ map (instance_of σ) (map plain_type (drop l.place l.patterns))))
    ↔ (map (type_in l.types) l.variables ≡ map (instance_of σ) (map plain_type l.patterns))

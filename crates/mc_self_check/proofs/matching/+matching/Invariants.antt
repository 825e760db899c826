use Rattle.std.proofs.Common.{◌≡◌, ◌↔◌, ℕ, map, drop}
use Rattle.mc_program.specs.Programs.{TypeTerm}
use Rattle.mc_program.specs.PlainPrograms.{plain_type}
use Rattle.mc_model.specs.Types.{instance_of}
use Rattle.mc_self_check.specs.code.Bindings.{Agrees}
use Rattle.mc_self_check.proofs.matching.+matching.Given as goal

abbrev pub invariant-all_match-loop-place : goal.invariant-all_match-loop-place
invariant-all_match-loop-place l =
    (σ : ℕ → TypeTerm)
    → (Agrees σ l.bound.items × (map plain_type (drop l.place l.types) ≡ map (instance_of σ) (map plain_type (drop l.place l.patterns))))
    ↔ (Agrees σ l.fn.bound.items × (map plain_type l.types ≡ map (instance_of σ) (map plain_type l.patterns)))

use Rattle.std.proofs.Common.{◌∙◌, ℕ, Bool, List, ◌++◌, length}
use Rattle.std.specs.List.{list_any}
use Rattle.mc_source.specs.Rules.{first_rules, by_place}
use Rattle.mc_model.specs.Lists.{from}
use Rattle.mc_accepted.specs.Inferred.{DeclaredSystem, system_of}
use Rattle.mc_accepted.specs.DeterminismFaults.{is_main, procedure_fault}
use Rattle.mc_procs.specs.Procedures.{source_of}
use Rattle.mc_det.specs.Determinisms.{declared_procedure, declared_system}
use Rattle.mc_det_rules.specs.code.Entry.{main_by}
use Rattle.mc_det_rules.proofs.Entering.{some_found, told_there}
use Rattle.mc_det_rules.proofs.entry.main_is_there.Goals as goal

pub returns : goal.returns
returns c = λ outcome q ds none.
    let D : DeclaredSystem = declared_system outcome q in
    let is_one : ℕ → Bool = λ k. main_by (source_of q).preds (declared_procedure q.added k) in
    let numbers : List ℕ = from 0 (length q.added) in
    some_found is_one numbers
    ∙ told_there (list_any is_one numbers) _ (by_place (first_rules (λ k. (D.procs k).at) (λ k. procedure_fault (system_of D ds) (D.procs k) ((system_of D ds).procs k)) numbers)) none

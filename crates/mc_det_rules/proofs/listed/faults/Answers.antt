use Rattle.std.proofs.Common.{List, ◌++◌, length, sym, ap, ap₂, ◌∙◌}
use Rattle.mc_source.specs.Rules.{broken_at, first_rules, by_place}
use Rattle.mc_source.specs.declared.rule.Broken.{Broken}
use Rattle.mc_model.specs.Lists.{from}
use Rattle.mc_model.specs.Good.{System}
use Rattle.mc_accepted.specs.DeterminismFaults.{procedure_fault}
use Rattle.mc_det_constraints.specs.Least.{assigned}
use Rattle.mc_det.specs.Determinisms.{declared_procedure}
use Rattle.mc_det.specs.MarkedProcedures.{determinisms_of}
use Rattle.mc_det_rules.specs.code.Listed.{place_of}
use Rattle.mc_det_rules.proofs.Bridging.{as_it_stands}
use Rattle.mc_det_rules.proofs.listed.faults.Goals as goal

pub returns : goal.returns
returns c outcome =
    let q = c.args.procs.now in
    let f = c.in_ok-main_fault.field-0 in
    let listed : System → List Broken = λ S. first_rules (place_of q) (λ k. procedure_fault S (declared_procedure q.added k) (S.procs k)) (from 0 (length q.added)) in
    c.in_ok-append.ensures.items
    ∙ ap₂ (λ (k l : List Broken). k ++ l)
    (c.in_ok-put.ensures
    ∙ ap (λ (l : List Broken). l ++ broken_at (record { file = 0; line = 1 }) f) c.new-faults.ensures.items
    ∙ ap (broken_at (record { file = 0; line = 1 })) (c.in_ok-main_fault.ensures outcome (assigned (determinisms_of q))))
    (c.in_ok-sort_by_place.ensures
    ∙ ap by_place (c.in_ok-sorted.ensures outcome ∙ sym (ap listed (as_it_stands outcome q))))

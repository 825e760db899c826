use Rattle.std.proofs.Common.{◌≡◌, ◌+◌, List, ℕ, Some, sym, subst, arith}
use Rattle.mc_accepted.specs.InstRules.{same_inst}
use Rattle.mc_insts.proofs.Growth.{extends_length}
use Rattle.mc_inst_table.specs.Plain.{plain_inst}
use Rattle.mc_signatures.specs.declared.rows.Step.TheVariants as S
use Rattle.mc_signatures.specs.code.Keys.{terms, term_at, IsInst, with_insts}
use Rattle.mc_signatures.specs.code.Rows.{IsRow}
use Rattle.mc_signatures.proofs.Choosing.{step_there, listed_row, defined_row}
use Rattle.mc_signatures.proofs.rows.row.Goals as goal

pub returns-in-Some-Listed-clause-row : goal.returns-in-Some-Listed-clause-row
returns-in-Some-Listed-clause-row c =
    let ts = terms c.args.insts.now in
    let step = c.in_ok-choices.field-0 in
    let cs = c.in-Some-Listed.choices in
    let form : step ≡ Some (S.Listed cs) = cc in (
      step_there ts c.args.place step (S.Listed cs) c.in_ok-choices.ensures form,
      λ body are. listed_row body ts c.args.place step cs c.in_ok-choices.ensures form,
    )

pub returns-in_ok-inst-in-Some-Defined-clause-row : goal.returns-in_ok-inst-in-Some-Defined-clause-row
returns-in_ok-inst-in-Some-Defined-clause-row c =
    let ts = terms c.args.insts.now in
    let us = terms c.expanded.new.insts in
    let step = c.in_ok-choices.field-0 in
    let d = c.in-Some-Defined.number in
    let given = c.in-Some-Defined.over in
    let body_is = c.in_ok-body-in-Some-Defined.body.now in
    let k = c.in_ok-inst-in-Some-Defined.inst in
    let form : step ≡ Some (S.Defined d given) = cc in
    let there = step_there ts c.args.place step (S.Defined d given) c.in_ok-choices.ensures form in
    let longer = extends_length ts us c.expanded.ensures.extends in
    let one : IsInst us k (with_insts ts given.items (plain_inst body_is)) =
    subst (λ (ks : List ℕ). IsInst us k (with_insts ts ks (plain_inst body_is))) c.as_slice.ensures.value c.in_ok-inst-in-Some-Defined.ensures.inst in (
      omega arith,
      λ body are.
          subst (λ r. IsRow body us (term_at us (4 + c.args.place)) (same_inst r)) (sym c.reference.ensures)
          (defined_row body ts us c.args.place step d given body_is k c.in_ok-choices.ensures form c.expanded.ensures.extends (c.in_ok-body-in-Some-Defined.ensures body are) one),
    )

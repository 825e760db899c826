use Rattle.std.proofs.Common.{◌≡◌, ap, arith}
use denote.Param.Weighed.{most}
use Rattle.mc_term_data.specs.declared.term.Term.{size-Term}
use Rattle.mc_state_variables.proofs.ByParts.{app_above, smaller_more}
use Rattle.mc_state_variables.proofs.branches.branch_kind.Goals as goal

pub returns-in-App-clause-small : goal.returns-in-App-clause-small
returns-in-App-clause-small c =
    let same = ap (most size-Term) c.as_slice-in-App-2.ensures.items in
    let above = app_above c.args.goal.now c.in-App.name c.in-App.parts c.in-App.is in
    smaller_more c.kind_by.result _ _ (omega (arith, same, above)) c.kind_by.ensures.small

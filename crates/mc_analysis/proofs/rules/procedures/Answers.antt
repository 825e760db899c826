use Rattle.std.specs.Prelude.{List}
use Rattle.mc_accepted.specs.InstRules.{PlainInstDef}
use Rattle.mc_insts.specs.Defining.{plain_definitions}
use Rattle.mc_analysis.specs.Premises.{HasInsts}
use Rattle.mc_analysis.specs.Rules.{AnalysisGives}
use Rattle.mc_analysis.proofs.Coming.{if_ok}
use Rattle.mc_analysis.proofs.rules.procedures.Goals as goal

pub defined_insts-requires-clause-fits : goal.defined_insts-requires-clause-fits
defined_insts-requires-clause-fits c = c.in_ok-check_fits.ensures {u = tt}

pub over_insts-requires-clause-fits : goal.over_insts-requires-clause-fits
over_insts-requires-clause-fits c = c.in_ok-check_fits.ensures {u = tt}

pub over_insts-requires-clause-program : goal.over_insts-requires-clause-program
over_insts-requires-clause-program c = (c.in_ok-insts.ensures {u = tt}).are_of

pub returns : goal.returns
returns c =
    let P = c.args.program in
    let ds = plain_definitions c.args.defs.now in
    if_ok c.over_insts.result
    (λ ruled. (es : List PlainInstDef) → HasInsts P es c.in_ok-insts.insts → AnalysisGives P es c.args.sigs.now c.args.goals.now c.args.exported.now c.args.runs ruled)
    (AnalysisGives P ds c.args.sigs.now c.args.goals.now c.args.exported.now c.args.runs)
    c.over_insts.ensures
    (λ ruled comes. comes ds (c.in_ok-insts.ensures {u = tt}))

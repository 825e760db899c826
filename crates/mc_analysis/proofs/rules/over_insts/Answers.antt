use Rattle.std.proofs.Common.{ℕ, Bool, [], List, sym, subst, ◌∙◌}
use Rattle.mc_source.specs.declared.rule.Broken.{Broken}
use Rattle.mc_program.specs.PlainPrograms.{plain_program}
use Rattle.mc_model.specs.Insts.{Graph}
use Rattle.mc_accepted.specs.InstRules.{PlainInstDef}
use Rattle.mc_insts.specs.Graphs.{graph_of}
use Rattle.mc_modes.specs.Signatures.{SigsFit}
use Rattle.mc_analysis.specs.Untidy.{AreUntidy}
use Rattle.mc_analysis.specs.Premises.{HasInsts}
use Rattle.mc_analysis.specs.Rules.{AnalysisGives}
use Rattle.mc_analysis.proofs.Coming.{none_listed, some_listed, if_ok, insts_on}
use Rattle.mc_analysis.proofs.rules.over_insts.Goals as goal

pub untidy_modes-requires-clause-program : goal.untidy_modes-requires-clause-program
untidy_modes-requires-clause-program c = c.requires.program

pub untidy_modes-requires-clause-sigs : goal.untidy_modes-requires-clause-sigs
untidy_modes-requires-clause-sigs c =
    subst (λ (n : ℕ). SigsFit n c.args.sigs.now) c.count.ensures (c.signatures_fit.ensures.0 (c.in_ok-self_check.ensures {u = tt}))

pub of_tidy-requires-clause-program : goal.of_tidy-requires-clause-program
of_tidy-requires-clause-program c = c.untidy_modes.ensures.program

pub of_tidy-requires-clause-sigs : goal.of_tidy-requires-clause-sigs
of_tidy-requires-clause-sigs c =
    subst (λ (n : ℕ). SigsFit n c.args.sigs.now) (c.count.ensures ∙ sym c.untidy_modes.ensures.count)
    (c.signatures_fit.ensures.0 (c.in_ok-self_check.ensures {u = tt}))

pub of_tidy-requires-clause-tidy : goal.of_tidy-requires-clause-tidy
of_tidy-requires-clause-tidy c =
    let P = plain_program c.args.program in
    let none = none_listed c.in_ok-untidy.untidy.items c.in_ok-untidy.untidy.len c.in_ok-untidy.untidy.ok.0 c.if-is_empty.ensures in
    subst (λ (G : Graph). AreUntidy P G c.args.sigs.now []) (sym c.untidy_modes.ensures.graph)
    (subst (λ (bs : List Broken). AreUntidy P (graph_of c.args.insts) c.args.sigs.now bs) none (c.in_ok-untidy.ensures {u = tt}).untidy)

pub returns-then-is_empty : goal.returns-then-is_empty
returns-then-is_empty c =
    let P = c.args.program in
    let J = c.untidy_modes.new.insts in
    if_ok c.of_tidy.result
    (λ ruled. (ds : List PlainInstDef) → HasInsts P ds J → AnalysisGives P ds c.args.sigs.now c.args.goals.now c.args.exported.now c.args.runs ruled)
    (λ ruled. (ds : List PlainInstDef) → HasInsts P ds c.args.insts → AnalysisGives P ds c.args.sigs.now c.args.goals.now c.args.exported.now c.args.runs ruled)
    c.of_tidy.ensures
    (λ ruled comes ds has.
    comes ds (insts_on P ds c.args.insts J c.untidy_modes.ensures.program c.untidy_modes.ensures.graph c.untidy_modes.ensures.count has))

pub of_untidy-requires-clause-program : goal.of_untidy-requires-clause-program
of_untidy-requires-clause-program c = c.untidy_modes.ensures.program

pub of_untidy-requires-clause-sigs : goal.of_untidy-requires-clause-sigs
of_untidy-requires-clause-sigs c =
    subst (λ (n : ℕ). SigsFit n c.args.sigs.now) (c.count.ensures ∙ sym c.untidy_modes.ensures.count)
    (c.signatures_fit.ensures.0 (c.in_ok-self_check.ensures {u = tt}))

pub of_untidy-requires-clause-untidy : goal.of_untidy-requires-clause-untidy
of_untidy-requires-clause-untidy c =
    subst (λ (G : Graph). AreUntidy (plain_program c.args.program) G c.args.sigs.now c.in_ok-untidy.untidy.items) (sym c.untidy_modes.ensures.graph) (c.in_ok-untidy.ensures {u = tt}).untidy

pub of_untidy-requires-clause-some : goal.of_untidy-requires-clause-some
of_untidy-requires-clause-some c =
    some_listed c.in_ok-untidy.untidy.items c.in_ok-untidy.untidy.len c.in_ok-untidy.untidy.ok.0 c.if-is_empty.ensures

pub returns : goal.returns
returns c =
    let P = c.args.program in
    let J = c.untidy_modes.new.insts in
    if_ok c.of_untidy.result
    (λ ruled. (runs : Bool) (ds : List PlainInstDef) → HasInsts P ds J → AnalysisGives P ds c.args.sigs.now c.args.goals.now c.args.exported.now runs ruled)
    (λ ruled. (ds : List PlainInstDef) → HasInsts P ds c.args.insts → AnalysisGives P ds c.args.sigs.now c.args.goals.now c.args.exported.now c.args.runs ruled)
    c.of_untidy.ensures
    (λ ruled comes ds has.
    comes c.args.runs ds (insts_on P ds c.args.insts J c.untidy_modes.ensures.program c.untidy_modes.ensures.graph c.untidy_modes.ensures.count has))

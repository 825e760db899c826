use Rattle.std.proofs.Common.{true, map, sym, ap, ◌∙◌}
use Rattle.mc_model.specs.Outcomes.{fails}
use Rattle.mc_accepted.specs.Least.{least}
use Rattle.mc_accepted.specs.Switched.{misses_none}
use Rattle.mc_procs.specs.Procedures.{as_system}
use Rattle.mc_procs.specs.VariableTypes.{type_in}
use Rattle.mc_switch.specs.Types.{inst_in}
use Rattle.mc_switch.specs.code.Choices.{first_variables}
use Rattle.mc_switch.specs.code.Labels.{plain_opened}
use Rattle.mc_switch.proofs.Choosing.{chosen_covered, chosen_opened, may_be_least, opens_self}
use Rattle.mc_switch.proofs.choice.chosen.Goals as goal

pub returns-in-Some-clause-chosen : goal.returns-in-Some-clause-chosen
returns-in-Some-clause-chosen c =
    λ outcome out ds same opens.
    let S = as_system outcome c.args.procs.now in
    let T = type_in c.args.types.now in
    let insts = c.args.insts.now in
    chosen_covered S T insts out c.args.out.now ds c.args.disjuncts.now c.in-Some.x same opens
    (sym c.in-Some.is
    ∙ c.in_ok-x.ensures outcome ds opens
    ∙ ap (least (misses_none S T (inst_in insts) ds)) (c.as_slice-candidates.ensures.value ∙ c.in_ok-candidates.ensures))

pub returns-in-Some-clause-may_be : goal.returns-in-Some-clause-may_be
returns-in-Some-clause-may_be c =
    let os = c.args.disjuncts.now in
    let ds = map plain_opened os in
    let test = misses_none (as_system (λ _ _. fails) c.args.procs.now) (type_in c.args.types.now) (inst_in c.args.insts.now) ds in
    may_be_least test c.args.insts.now c.args.out.now os (first_variables os) _
    (sym c.in-Some.is
    ∙ c.in_ok-x.ensures (λ _ _. fails) ds (opens_self os)
    ∙ ap (least test) (c.as_slice-candidates.ensures.value ∙ c.in_ok-candidates.ensures))

pub returns-clause-chosen : goal.returns-clause-chosen
returns-clause-chosen c =
    λ outcome out ds same opens.
    let S = as_system outcome c.args.procs.now in
    let T = type_in c.args.types.now in
    let insts = c.args.insts.now in
    let left = c.as_slice-candidates.ensures.value ∙ c.in_ok-candidates.ensures in
    chosen_opened S T insts out c.args.out.now ds c.args.disjuncts.now c.least.result same opens
    (sym c.in-None.is ∙ c.in_ok-x.ensures outcome ds opens ∙ ap (least (misses_none S T (inst_in insts) ds)) left)
    (c.least.ensures ∙ ap (least (λ _. true)) left)

pub returns-clause-may_be : goal.returns-clause-may_be
returns-clause-may_be c =
    let os = c.args.disjuncts.now in
    may_be_least (λ _. true) c.args.insts.now c.args.out.now os (first_variables os) c.least.result
    (c.least.ensures ∙ ap (least (λ _. true)) (c.as_slice-candidates.ensures.value ∙ c.in_ok-candidates.ensures))

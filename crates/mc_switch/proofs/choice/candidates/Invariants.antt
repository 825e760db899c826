use Rattle.std.proofs.Common.{◌≡◌, ◌++◌, map, drop}
use Rattle.mc_switch.specs.declared.opening.Opening.{Opening}
use Rattle.mc_switch.specs.code.Choices.{may_be, those_that}
use Rattle.mc_switch.proofs.choice.candidates.Given as goal

abbrev pub invariant-loop-opening : goal.invariant-loop-opening
invariant-loop-opening l =
    l.candidates.items ++ those_that (may_be l.insts l.out l.disjuncts) (map (λ (o : Opening). o.variable) (drop l.opening-index l.opens))
    ≡ those_that (may_be l.insts l.out l.disjuncts) (map (λ (o : Opening). o.variable) l.opens)

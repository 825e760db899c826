use Rattle.std.proofs.Common.{◌≡◌, inl, inr, Some, List, refl, sym, subst}
use Rattle.mc_insts.specs.declared.chains.Chain.{Chain}
use Rattle.mc_insts.specs.code.Chains.{next_in, Comes}
use Rattle.mc_accepted.specs.InstRules.{LeadsTo}
use Rattle.mc_insts.proofs.Chained.{comes_one, next_is}
use Rattle.mc_insts.proofs.chains.walk.Goals as goal
use Rattle.mc_insts.proofs.chains.walk.Goals.{then-step-turn, else-step-turn}

pub returns-then-at-passed : goal.returns-then-at-passed
returns-then-at-passed c =
    let cs : List Chain = c.args.chains.now in
    let e : next_in cs c.loop-step.at ≡ Some c.in-Names.next = next_is cs c.loop-step.at c.in-Names.next c.get.result.now c.loop-step.invariant.there c.get.ensures c.in-Names.is in
    let ring : LeadsTo (next_in cs) c.loop-step.passed c.in-Names.next = comes_one cs c.loop-step.passed c.loop-step.at c.in-Names.next c.loop-step.invariant.passed e in
    record {
      known = (
        c.requires.all c.loop-step.at c.in-Names.next e,
        inr (comes_one cs c.args.start c.loop-step.at c.in-Names.next c.loop-step.invariant.comes e),
        subst (λ k. LeadsTo (next_in cs) k c.in-Names.next) (sym c.if-at-passed.true) ring,
      );
    }

pub loop-step-preserved : goal.loop-step-preserved
loop-step-preserved c =
    let cs : List Chain = c.args.chains.now in
    let e : next_in cs c.loop-step.at ≡ Some c.in-Names.next = next_is cs c.loop-step.at c.in-Names.next c.get.result.now c.loop-step.invariant.there c.get.ensures c.in-Names.is in
    record {
      there = c.requires.all c.loop-step.at c.in-Names.next e;
      comes = inr (comes_one cs c.args.start c.loop-step.at c.in-Names.next c.loop-step.invariant.comes e);
      passed =
          elim c.if-step-turn.branch [
            | then-step-turn w ↦ subst (λ k. Comes cs k c.in-Names.next) (sym w.passed-is) (inl refl)
            | else-step-turn w ↦ subst (λ k. Comes cs k c.in-Names.next) (sym w.passed-is) (inr (comes_one cs c.loop-step.passed c.loop-step.at c.in-Names.next c.loop-step.invariant.passed e))
          ];
    }

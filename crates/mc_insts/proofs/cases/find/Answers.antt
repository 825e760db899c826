use Rattle.std.proofs.Common.{◌≡◌, ap, ◌∙◌, sym, arith, Some, get_or}
use Rattle.mc_insts.specs.declared.graph.Case.{Case}
use Rattle.mc_insts.proofs.Found.{find_at, none_between, all_below, all_above}
use Rattle.mc_insts.proofs.cases.find.Goals as goal

pub returns-then-case-functor : goal.returns-then-case-functor
returns-then-case-functor c =
    let e = c.index-cases-middle.is in
    let f : (get_or c.args.cases.now _ c.index-cases-middle.result).functor ≡ c.args.functor = ap (λ (w : Case). w.functor) (sym e) ∙ c.if-case-functor.true in
    find_at c.args.cases.now c.args.functor c.requires _ c.index-cases-middle.result (omega arith) f ∙ ap (λ (w : Case). Some w.args) (sym e)

pub loop-low-preserved-then-case-functor-2 : goal.loop-low-preserved-then-case-functor-2
loop-low-preserved-then-case-functor-2 c = record {
  within = omega arith;
  order = omega arith;
  below = all_below c.args.cases.now c.requires _ c.args.functor c.index-cases-middle.result (omega arith) c.index-cases-middle.is c.if-case-functor-2.true;
  above = c.loop-low.invariant.above;
}

pub loop-low-preserved : goal.loop-low-preserved
loop-low-preserved c = record {
  within = omega arith;
  order = omega arith;
  below = c.loop-low.invariant.below;
  above = all_above c.args.cases.now c.requires _ c.args.functor c.index-cases-middle.result c.index-cases-middle.is (omega arith);
}

pub returns : goal.returns
returns c = none_between c.args.cases.now c.loop-low.low c.loop-low.high c.args.functor c.loop-low-test.false c.loop-low.invariant.below c.loop-low.invariant.above

use Rattle.std.proofs.Common.{◌∙◌, ◌+◌, ℕ, List, map, take, sym, ap, subst}
use Rattle.mc_insts.proofs.Results.{if_ok}
use Rattle.mc_insts.proofs.Growth.{extends_on}
use Rattle.mc_inst_table.specs.declared.inst.Functor.{Functor}
use Rattle.mc_inst_table.specs.declared.inst.Inst.{Inst}
use Rattle.mc_inst_table.specs.Plain.{plain_functor, plain_inst}
use Rattle.mc_signatures.specs.code.Keys.{terms, functor_of, AreInsts, with_insts}
use Rattle.mc_signatures.proofs.Expanding.{below_later, insts_step, defined_is, bound_is}
use Rattle.mc_signatures.proofs.expansion.+inst.Goals as goal

pub expanded-returns-in_ok-given-in-Defined-clause-inst : goal.expanded-returns-in_ok-given-in-Defined-clause-inst
expanded-returns-in_ok-given-in-Defined-clause-inst t c =
    let all = subst (λ (us : List Inst). AreInsts (terms c.all_expanded.new.insts) c.in_ok-given-in-Defined.given.items (map (with_insts (terms c.args.insts.now) c.args.over.now) (map plain_inst us))) c.as_slice.ensures.items c.in_ok-given-in-Defined.ensures.insts in
    if_ok _ _ c.insert.result
    (λ k one.
    defined_is (terms c.args.insts.now) (terms c.all_expanded.new.insts) (terms c.insert.new.self) c.args.over.now c.in_ok-given-in-Defined.given.items
    c.args.inst.now c.in-Defined.number c.in-Defined.given k c.in-Defined.is all one)
    c.insert.ensures.inst

pub expanded-returns-in_ok-named-in-Bound-clause-inst : goal.expanded-returns-in_ok-named-in-Bound-clause-inst
expanded-returns-in_ok-named-in-Bound-clause-inst t c =
    let all = subst (λ (us : List Inst). AreInsts (terms c.all_expanded-in-Bound.new.insts) c.in_ok-listed-in-Bound.listed.items (map (with_insts (terms c.args.insts.now) c.args.over.now) (map plain_inst us))) c.as_slice-in-Bound.ensures.items c.in_ok-listed-in-Bound.ensures.insts in
    if_ok _ _ c.insert-in-Bound.result
    (λ k one.
    bound_is (terms c.args.insts.now) (terms c.all_expanded-in-Bound.new.insts) (terms c.insert-in-Bound.new.self) c.args.over.now c.in_ok-listed-in-Bound.listed.items
    c.args.inst.now c.in-Bound.functors c.in-Bound.listed (map functor_of c.in_ok-named-in-Bound.named.items) k c.in-Bound.is (c.in_ok-named-in-Bound.ensures ∙ ap (λ (fs : List Functor). map plain_functor fs) c.as_slice-in-Bound-2.ensures.items) all one)
    c.insert-in-Bound.ensures.inst

pub all_expanded-loop-inst-preserved : goal.all_expanded-loop-inst-preserved
all_expanded-loop-inst-preserved t c =
    let ts0 = terms c.args.insts.now in
    let ts = terms c.loop-inst.insts in
    let us = terms c.expanded.new.insts in
    record {
      extends = extends_on ts0 ts us c.loop-inst.invariant.extends c.expanded.ensures.extends;
      below = below_later ts us c.args.over.now c.expanded.ensures.extends c.loop-inst.invariant.below;
      insts = subst (λ (ks : List ℕ). AreInsts us ks (map (with_insts ts0 c.args.over.now) (map plain_inst (take (c.loop-inst.inst-index + 1) c.args.listed.now)))) (sym c.in_ok-push.ensures.items)
          (insts_step ts0 ts us c.args.over.now c.args.listed.now c.loop-inst.inst-index c.inst-item.result c.loop-inst.all.items c.in_ok-number.number c.loop-inst.invariant.extends c.expanded.ensures.extends c.requires c.loop-inst-test.true c.inst-item.is c.loop-inst.invariant.insts c.in_ok-number.ensures.inst);
    }

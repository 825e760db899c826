use Rattle.std.proofs.Common.{◌≡◌, ℕ, ◌+◌, List, [], ◌∷◌, ◌++◌, length, sym, ap, ◌∙◌, subst, arith}
use Rattle.std.specs.declared.alloc.Global.{Global}
use Rattle.std.specs.declared.vec.Vec.{Vec}
use Rattle.mc_model.specs.declared.inst.Choice.{Choice}
use Rattle.mc_insts.specs.declared.define.InstDef.{InstDef}
use Rattle.mc_insts.specs.declared.graph.Node.{Node}
use Rattle.mc_insts.specs.declared.graph.Node.TheVariants as N
use Rattle.mc_insts.specs.code.Bounds.{MakesCases, MakesNodes}
use Rattle.mc_insts.specs.code.Functors.{Functor}
use Rattle.mc_insts.specs.code.Lists.{Extends}
use Rattle.mc_insts.specs.code.Shown.{Distinct}
use Rattle.mc_insts.proofs.Growth.{extends_on}
use Rattle.mc_insts.proofs.MakingNodes.{makes_bound, makes_other, choices_fit}
use Rattle.mc_insts.proofs.bounds.nodes_of.Goals as goal
use Rattle.mc_insts.proofs.bounds.nodes_of.Goals.{in-Bound+in_ok-cases+in_ok-push, in_default}

nodes_items : (v w : Vec Node Global) → v ≡ w → v.items ≡ w.items
nodes_items v w e = ap (λ (u : Vec Node Global). u.items) e

pub cases_of-requires : goal.cases_of-requires
cases_of-requires c = (
  c.requires.fit.0,
  choices_fit c.requires.fit.0 (length c.args.insts.now) c.args.defs.now c.as_slice-listed.result.now c.loop-def.def-index c.def-item.result c.in-Bound.choices c.as_slice.result.now
      c.as_slice-listed.ensures.items c.requires.fit.1 c.requires.count (omega arith) c.def-item.is c.in-Bound.is c.as_slice.ensures.items,
)

pub returns-in_err-cases-clause-extends : goal.returns-in_err-cases-clause-extends
returns-in_err-cases-clause-extends c = extends_on _ _ _ c.loop-def.invariant.extends c.cases_of.ensures.extends

pub loop-def-preserved : goal.loop-def-preserved
loop-def-preserved c =
    let listed : List InstDef = c.as_slice-listed.result.now in
    let is : List ℕ = c.args.insts.now in
    let i : ℕ = c.loop-def.def-index in
    let d : InstDef = c.def-item.result in
    record {
      extends = elim c.match-def.branch [
        | in-Bound+in_ok-cases+in_ok-push w ↦ subst (Extends c.args.functors.now) (sym w.functors-is) (extends_on _ _ _ c.loop-def.invariant.extends w.cases_of.ensures.extends)
        | in_default w ↦ subst (Extends c.args.functors.now) (sym w.functors-is) c.loop-def.invariant.extends
      ];
      distinct = elim c.match-def.branch [
        | in-Bound+in_ok-cases+in_ok-push w ↦ (λ h. subst Distinct (sym w.functors-is) (w.cases_of.ensures.distinct (c.loop-def.invariant.distinct h)))
        | in_default w ↦ (λ h. subst Distinct (sym w.functors-is) (c.loop-def.invariant.distinct h))
      ];
      nodes = elim c.match-def.branch [
        | in-Bound+in_ok-cases+in_ok-push w ↦
            (let items : c.match-def.nodes.items ≡ c.loop-def.nodes.items ++ N.Bound w.in_ok-cases.cases ∷ [] = nodes_items _ _ w.nodes-is ∙ w.in_ok-push.ensures.items in
            subst (λ (ns : List Node). MakesNodes c.match-def.functors is listed (i + 1) ns) (sym items)
            (subst (λ (fs : List Functor). MakesNodes fs is listed (i + 1) (c.loop-def.nodes.items ++ N.Bound w.in_ok-cases.cases ∷ [])) (sym w.functors-is)
            (makes_bound c.loop-def.functors w.cases_of.new.functors is listed i d w.in-Bound.choices w.in_ok-cases.cases c.loop-def.nodes.items w.cases_of.ensures.extends (omega arith)
            c.def-item.is w.in-Bound.is
            (subst (λ (cs : List Choice). MakesCases w.cases_of.new.functors is cs w.in_ok-cases.cases) w.as_slice.ensures.items w.in_ok-cases.ensures.cases) c.loop-def.invariant.nodes)))
        | in_default w ↦
            (subst (λ (ns : List Node). MakesNodes c.match-def.functors is listed (i + 1) ns) (sym (nodes_items _ _ w.nodes-is))
            (subst (λ (fs : List Functor). MakesNodes fs is listed (i + 1) c.loop-def.nodes.items) (sym w.functors-is)
            (makes_other c.loop-def.functors is listed i d c.loop-def.nodes.items (omega arith) c.def-item.is (λ cs e. w.in_default.not-Bound cs e) c.loop-def.invariant.nodes)))
      ];
    }

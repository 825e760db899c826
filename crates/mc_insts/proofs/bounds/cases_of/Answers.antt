use Rattle.std.proofs.Common.{rules, ◌≡◌, ℕ, ◌+◌, List, length, map, take, get_or, sym, ap, ◌∙◌, subst, arith}
use Rattle.std.proofs.lemmas.List.{take_all}
use Rattle.std.proofs.lemmas.List.Sorted.{IsNonDecreasingBy-from_sort_by_key}
use Rattle.mc_model.specs.declared.inst.InstRef.{InstRef}
use Rattle.mc_model.specs.declared.inst.Choice.{Choice}
use Rattle.mc_insts.specs.declared.graph.Case.{Case}
use Rattle.mc_insts.specs.Defining.{AllFitThere}
use Rattle.mc_insts.specs.code.Functors.{Functor}
use Rattle.mc_insts.specs.code.Bounds.{inst_in, IsCase, AreCases, MakesCases}
use Rattle.mc_insts.proofs.Growth.{extends_on}
use Rattle.mc_insts.proofs.MadeNodes.{arity_at, cases_push}
use Rattle.mc_insts.proofs.Results.{if_ok}
use Rattle.mc_insts.proofs.bounds.cases_of.Goals as goal

-- the arguments that were read
read : (cs : List Choice) (k : ℕ) (d : Choice) (rs : List InstRef) → d ≡ get_or cs k d → rs ≡ d.args → (get_or cs k d).args ≡ rs
read cs k d rs e f = sym (f ∙ ap (λ (x : Choice). x.args) e)

pub args_of-requires : goal.args_of-requires
args_of-requires c = (
  c.requires.0,
  subst (AllFitThere c.requires.0 (length c.args.insts.now)) (read c.args.choices.now c.loop-choice.choice-index c.choice-item.result c.as_slice.result.now c.choice-item.is c.as_slice.ensures.items)
      (arity_at c.requires.0 (length c.args.insts.now) c.args.choices.now c.requires.1 c.loop-choice.choice-index c.choice-item.result (omega arith)).1,
)

pub loop-choice-preserved : goal.loop-choice-preserved
loop-choice-preserved c =
    let choices : List Choice = c.args.choices.now in
    let i : ℕ = c.loop-choice.choice-index in
    let fs : List Functor = c.insert.new.self in
    let d : Case = record { functor = c.in_ok-functor.functor; args = c.in_ok-args.args } in
    let here : IsCase fs c.args.insts.now c.choice-item.result d =
    record { within = c.in_ok-functor.ensures.there; functor = c.in_ok-functor.ensures.functor; args = c.in_ok-args.ensures ∙ ap (map (inst_in c.args.insts.now)) c.as_slice.ensures.items } in
    record {
      extends = extends_on _ _ _ c.loop-choice.invariant.extends c.insert.ensures.extends;
      distinct = λ h. c.insert.ensures.distinct (c.loop-choice.invariant.distinct h);
      cases = subst (AreCases fs c.args.insts.now (take (i + 1) choices)) (sym c.in_ok-push.ensures.items)
          (cases_push c.loop-choice.functors fs c.args.insts.now choices i c.choice-item.result d c.loop-choice.cases.items c.insert.ensures.extends (omega arith) c.choice-item.is c.loop-choice.invariant.cases here);
    }

pub returns-clause-cases : goal.returns-clause-cases
returns-clause-cases c =
    if_ok _ _ c.of.result
    (λ row e.
    subst (MakesCases c.loop-choice.functors c.args.insts.now c.args.choices.now) (sym e)
    (record {
      as_written = c.loop-choice.cases.items;
      are = subst (λ (cs : List Choice). AreCases c.loop-choice.functors c.args.insts.now cs c.loop-choice.cases.items) (take_all c.loop-choice.choice-index c.args.choices.now (omega arith)) c.loop-choice.invariant.cases;
      same = c.sort_by_key.ensures.permutation;
      ordered = IsNonDecreasingBy-from_sort_by_key (λ (x : Case). x.functor) _ c.in_ok-sort_by_key.ensures.sorted (λ a r q k. search rules);
    }))
    c.of.ensures.elements

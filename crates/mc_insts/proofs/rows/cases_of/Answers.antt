use Rattle.std.proofs.Common.{◌≡◌, ◌+◌, List, get_or, map, take, refl, sym, subst, arith}
use Rattle.std.proofs.lemmas.List.{take_all}
use Rattle.mc_program.specs.PlainPrograms.{plain_program, plain_type}
use Rattle.mc_insts.specs.declared.graph.Case.{Case}
use Rattle.mc_insts.specs.declared.rows.Constructor.{Constructor}
use Rattle.mc_insts.specs.code.TypeRows.{terms, terms_at}
use Rattle.mc_insts.specs.code.Tables.{CaseIs, CasesAre}
use Rattle.mc_insts.proofs.Found.{get_any}
use Rattle.mc_insts.proofs.Growth.{extends_on}
use Rattle.mc_insts.proofs.Growing.{args_are, cases_step}
use Rattle.mc_insts.proofs.Results.{if_ok}
use Rattle.mc_insts.proofs.rows.cases_of.Goals as goal

pub loop-constructor-preserved : goal.loop-constructor-preserved
loop-constructor-preserved c =
    let P = plain_program c.args.program.now in
    let ts0 = terms c.args.types.now in
    let ts = terms c.loop-constructor.types in
    let us = terms c.rows_of.new.types in
    let es = terms_at ts0 c.args.env.now in
    let i = c.loop-constructor.constructor-index in
    let d : Constructor = get_or c.args.constructors.now i (record { functor = 0; symbol = 0 }) in
    let e = c.rows_of.ensures.extends in
    let made : Case = record { functor = d.functor; args = c.in_ok-args.args } in
    let one : CaseIs P us es made d = record {
      functor = refl;
      args = args_are P d.symbol ts0 ts us c.args.env.now c.in_ok-args.args (map plain_type c.args_of.result.now) c.loop-constructor.invariant.extends c.requires c.args_of.ensures c.in_ok-args.ensures.rows;
    } in
    record {
      extends = extends_on _ ts us c.loop-constructor.invariant.extends e;
      cases = subst (λ (zs : List Case). CasesAre P us es zs (take (i + 1) c.args.constructors.now)) (sym c.in_ok-push.ensures.items)
          (cases_step P ts us es c.loop-constructor.cases.items c.args.constructors.now i made d e c.loop-constructor-test.true (get_any c.args.constructors.now i (record { functor = 0; symbol = 0 }) d c.loop-constructor-test.true) c.loop-constructor.invariant.cases one);
    }

pub returns-clause-cases : goal.returns-clause-cases
returns-clause-cases c =
    let P = plain_program c.args.program.now in
    let us = terms c.loop-constructor.types in
    let es = terms_at (terms c.args.types.now) c.args.env.now in
    let whole : take c.loop-constructor.constructor-index c.args.constructors.now ≡ c.args.constructors.now = take_all c.loop-constructor.constructor-index c.args.constructors.now (let x = c.loop-constructor-test.false in omega arith) in
    if_ok _ _ c.of.result
    (λ cases e. subst (λ (zs : List Case). CasesAre P us es zs c.args.constructors.now) (sym e) (subst (λ (ds : List Constructor). CasesAre P us es c.loop-constructor.cases.items ds) whole c.loop-constructor.invariant.cases))
    c.of.ensures.elements

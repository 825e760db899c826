use Rattle.std.proofs.Common.{List, [], ◌∷◌, length, sym, ap, subst, arith, length-append}
use Rattle.mc_insts.specs.declared.define.InstDef.{InstDef}
use Rattle.mc_insts.specs.Defining.{plain_definitions}
use Rattle.mc_insts.proofs.Growth.{extends_same, extends_on}
use Rattle.mc_insts.proofs.Results.{if_ok, match_none}
use Rattle.mc_signatures.specs.code.Keys.{terms}
use Rattle.mc_signatures.specs.code.Rows.{IsExpanded}
use Rattle.mc_signatures.proofs.InstKeys.{keys_length}
use Rattle.mc_signatures.proofs.Choosing.{AreMany, none_made, many_step, all_made, match_some}
use Rattle.mc_signatures.proofs.rows.rows.Goals as goal

pub loop-place-init : goal.loop-place-init
loop-place-init c =
    let ts = terms c.args.insts.now in
    let defs = c.new-defs.result.items in
    record {
      extends = extends_same ts;
      count = ap (λ (ds : List InstDef). length ds) c.new-defs.ensures.items;
      many = λ body are.
          subst (λ (ds : List InstDef). AreMany body ts (plain_definitions ds)) (sym c.new-defs.ensures.items)
          (none_made body ts (omega (arith, keys_length c.args.insts.now)));
    }

pub loop-place-preserved : goal.loop-place-preserved
loop-place-preserved c =
    let ts = terms c.loop-place.insts in
    let us = terms c.row.new.insts in
    let defs = c.loop-place.defs.items in
    let def = c.in-Some.def in
    let place = c.loop-place.place in
    let is = match_some _ _ c.in_ok-def.field-0 def c.in-Some.is c.in_ok-def.ensures.row in
    let grown = c.in_ok-push-in-Some.ensures.items in
    let count = c.loop-place.invariant.count in
    record {
      extends = extends_on (terms c.args.insts.now) ts us c.loop-place.invariant.extends c.row.ensures.extends;
      count = omega (arith, ap (λ (ds : List InstDef). length ds) grown, length-append defs (def ∷ []));
      many = λ body are.
          many_step body ts us defs c.push.new.self.items def place c.row.ensures.extends count
          (c.loop-place.invariant.many body are) is.0 (is.1 body are) grown;
    }

pub returns-in-None-clause-rows : goal.returns-in-None-clause-rows
returns-in-None-clause-rows c =
    let past = match_none _ _ c.in_ok-def.field-0 c.in-None.is c.in_ok-def.ensures.row in
    let all = c.loop-place.defs.items in
    if_ok _ _ c.of.result
    (λ defs is body are.
    subst (λ (ds : List InstDef). IsExpanded body (terms c.row.new.insts) (plain_definitions ds)) (sym is)
    (all_made body (terms c.loop-place.insts) c.row.new.insts all c.loop-place.place c.row.ensures.extends
    c.loop-place.invariant.count (c.loop-place.invariant.many body are) past))
    c.of.ensures.elements

use Rattle.std.proofs.Common.{List, map, sym, subst}
use Rattle.mc_model.specs.declared.inst.Choice.{Choice}
use Rattle.mc_insts.specs.Defining.{plain_choice}
use Rattle.mc_insts.proofs.Results.{if_ok}
use Rattle.mc_signatures.specs.code.Keys.{functor_of}
use Rattle.mc_signatures.specs.code.Rows.{Chosen, NoneSame}
use Rattle.mc_signatures.proofs.Choosing.{goes_on_step, goes_on_last, unlisted_step}
use Rattle.mc_signatures.proofs.rows.choices.Goals as goal

pub loop-functor-preserved : goal.loop-functor-preserved
loop-functor-preserved c =
    let before = c.loop-functor.choices.items in
    let choice = c.in_ok-choice.choice in
    let none : NoneSame (map plain_choice before) (plain_choice choice) =
    subst (λ (us : List Choice). NoneSame (map plain_choice us) (plain_choice choice)) c.as_slice.ensures.value (c.is_listed.ensures c.if-is_listed.false) in
    record {
      there = c.in_ok-end.ensures.there;
      goes =
          goes_on_step c.args.named.now c.args.listed.now c.loop-functor.functor-index c.loop-functor.rest c.in_ok-end.end
          c.functor-item.result before c.push.new.self.items choice c.loop-functor-test.true c.functor-item.is
          c.in_ok-end.ensures.end c.in_ok-end.ensures.there c.in_ok-choice.ensures c.in_ok-push.ensures.items c.loop-functor.invariant.goes;
      unlisted = unlisted_step before c.push.new.self.items choice c.loop-functor.invariant.unlisted none c.in_ok-push.ensures.items;
    }

pub returns-clause-chosen : goal.returns-clause-chosen
returns-clause-chosen c =
    let named = c.args.named.now in
    let listed = c.args.listed.now in
    let all = c.loop-functor.choices.items in
    if_ok _ _ c.of.result
    (λ row is.
    subst (λ (us : List Choice). Chosen (map functor_of named) listed (map plain_choice us)) (sym is)
    (goes_on_last named listed c.loop-functor.functor-index c.loop-functor.rest (map plain_choice all) c.loop-functor-test.false c.if-rest-listed.false c.loop-functor.invariant.goes))
    c.of.ensures.elements

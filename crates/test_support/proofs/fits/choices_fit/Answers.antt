use Rattle.std.proofs.Common.{◌≡◌, length, false, subst, arith}
use Rattle.std.specs.Set.{is_member}
use Rattle.std.specs.Str.{bytes_eq}
use Rattle.mc_base.specs.NameSets.{put}
use Rattle.mc_insts.specs.Defining.{AllFitThere}
use Rattle.test_support.proofs.Seen.{was_new, choice_more}
use Rattle.test_support.proofs.fits.choices_fit.Goals as goal

pub loop-choice-preserved : goal.loop-choice-preserved
loop-choice-preserved c =
    let n = c.args.nodes in
    let m = c.args.definitions in
    let d = c.choice-item.result in
    let names = c.loop-choice.names in
    let complete : length d.args ≡ d.arity = omega (arith, c.if-len-choice.false, c.len.ensures) in
    let fit : AllFitThere n m d.args = subst (AllFitThere n m) c.as_slice.ensures.items (c.args_fit.ensures c.if-not-args_fit.false) in
    let new : is_member bytes_eq names d.name ≡ false =
    subst (λ x. is_member bytes_eq names x ≡ false) c.bytes.ensures.items (was_new _ _ c.in_ok-added.ensures.added c.if-not-added.false) in
    let put_in : c.insert.new.self ≡ put names d.name = subst (λ x. c.insert.new.self ≡ put names x) c.bytes.ensures.items c.in_ok-added.ensures.ok in
    choice_more n m c.args.choices.now c.loop-choice.choice-index d names c.insert.new.self (omega arith) c.choice-item.is c.loop-choice.invariant complete fit new put_in

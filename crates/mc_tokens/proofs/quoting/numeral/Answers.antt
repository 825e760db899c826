use Rattle.std.proofs.Common.{◌+◌, ◌*◌, min, get_or, drop, sym, ap, ap₂, ◌∙◌, arith}
use Rattle.mc_tokens.specs.Classes.{hex_value}
use Rattle.mc_tokens.specs.Spots.{Digits}
use Rattle.mc_tokens.specs.Contents.{contents}
use Rattle.mc_tokens.specs.code.Walks.{quote_walk}
use Rattle.mc_tokens.proofs.Escapes.{nothing_said, cut_step, digit_walk, digit_says, cut_walk, cut_says}
use Rattle.mc_tokens.proofs.quoting.numeral.Goals as goal

pub loop-i-preserved : goal.loop-i-preserved
loop-i-preserved c =
    let text = c.args.text.now in
    let (v, e, w, s) = c.loop-i.invariant.walk in
    let d = sym c.in-Some.ensures.some in
    record {
      walk = (
        c.args.base * v + hex_value (get_or text c.loop-i.i 0),
        c.min-value.ensures ∙ ap₂ (λ a b. min (c.args.base * a + b) 1114112) e c.in-Some.ensures.value.0 ∙ cut_step c.args.base v (hex_value (get_or text c.loop-i.i 0)) 1114112,
        (λ q start. w q start ∙ digit_walk q start c.args.at c.loop-i.i text c.loop-i-test.true c.args.base v c.loop-i.some d),
        (λ q. s q ∙ digit_says q 0 0 c.loop-i.i text c.loop-i-test.true c.args.base v c.loop-i.some d),
      );
      above = omega arith;
      bound = omega arith;
    }

pub returns-in_default-clause-value : goal.returns-in_default-clause-value
returns-in_default-clause-value c =
    let text = c.args.text.now in
    let (v, e, w, s) = c.loop-i.invariant.walk in
    λ q start. w q start ∙ cut_walk q start c.args.at c.loop-i.i text c.loop-i-test.true c.args.base v c.loop-i.some (sym c.in_default.ensures.some)
    ∙ ap (λ u. quote_walk q start (Digits c.args.at c.args.base u c.loop-i.some) c.loop-i.i (drop c.loop-i.i text)) (sym e) ∙ c.numeral_end.ensures.value q start

pub returns-in_default-clause-says : goal.returns-in_default-clause-says
returns-in_default-clause-says c =
    let text = c.args.text.now in
    let i = c.loop-i.i in
    let (v, e, w, s) = c.loop-i.invariant.walk in
    λ q. s q ∙ cut_says q 0 0 i text c.loop-i-test.true c.args.base v c.loop-i.some (sym c.in_default.ensures.some)
    ∙ ap (λ u. contents q (Digits 0 c.args.base u c.loop-i.some) 0 (drop i text)) (sym e) ∙ c.numeral_end.ensures.says q

pub returns-clause-says : goal.returns-clause-says
returns-clause-says c =
    let (v, e, w, s) = c.loop-i.invariant.walk in
    λ q. s q ∙ nothing_said q (Digits 0 c.args.base v c.loop-i.some) c.loop-i.i c.args.text.now c.loop-i-test.false

use Rattle.std.proofs.Common.{◌≡◌, ◌+◌, ◌*◌, ◌<◌, min, get_or, sym, ap, ◌∙◌, arith}
use Rattle.mc_tokens.specs.Classes.{hex_value}
use Rattle.mc_tokens.specs.Spots.{Exact}
use Rattle.mc_tokens.specs.code.Walks.{escape_goes_on, escape_contents}
use Rattle.mc_tokens.proofs.Escapes.{nothing_said, more_walk, more_says, no_digit_walk, no_digit_says, exact_walk, exact_says}
use Rattle.mc_tokens.proofs.quoting.exact.Goals as goal
use Rattle.mc_tokens.proofs.quoting.exact.Goals.{After-exact_end}

pub returns-in_default-clause-value : goal.returns-in_default-clause-value
returns-in_default-clause-value c =
    let text = c.args.text.now in
    let (v, e, w, s) = c.loop-i.invariant.walk in
    λ q start. w q start ∙ no_digit_walk q start c.args.at c.loop-i.i text c.loop-i-test.true c.loop-i.left v (sym c.in_default.ensures.some) ∙ sym (c.no_escape.ensures.value start)

-- the value with the last digit
last_value : (c : After-exact_end) → c.min-value.result ≡ min (16 * c.loop-i.invariant.walk.0 + hex_value (get_or c.args.text.now c.loop-i.i 0)) 1114112
last_value c =
    let e = c.loop-i.invariant.walk.1 in
    omega (arith, e, c.in-Some.ensures.value.0, c.min-value.ensures)

pub returns-then-left-eq0-clause-value : goal.returns-then-left-eq0-clause-value
returns-then-left-eq0-clause-value c =
    let text = c.args.text.now in
    let (v, e, w, s) = c.loop-i.invariant.walk in
    λ q start. w q start ∙ exact_walk q start c.args.at c.loop-i.i text c.loop-i-test.true c.loop-i.left v (sym c.in-Some.ensures.some) c.if-left-eq0.true c.min-value.result (last_value c)
    ∙ ap (escape_goes_on q start text) (sym c.exact_end.ensures)

pub returns-then-left-eq0-clause-says : goal.returns-then-left-eq0-clause-says
returns-then-left-eq0-clause-says c =
    let text = c.args.text.now in
    let i = c.loop-i.i in
    let (v, e, w, s) = c.loop-i.invariant.walk in
    λ q. s q ∙ exact_says q 0 c.args.at i text c.loop-i-test.true c.loop-i.left v (sym c.in-Some.ensures.some) c.if-left-eq0.true c.min-value.result (last_value c)
    ∙ ap (escape_contents q text) (sym c.exact_end.ensures)

pub returns-in_default-clause-says : goal.returns-in_default-clause-says
returns-in_default-clause-says c =
    let (v, e, w, s) = c.loop-i.invariant.walk in
    λ q. s q ∙ no_digit_says q 0 0 c.loop-i.i c.args.text.now c.loop-i-test.true c.loop-i.left v (sym c.in_default.ensures.some)

pub returns-clause-says : goal.returns-clause-says
returns-clause-says c =
    let (v, e, w, s) = c.loop-i.invariant.walk in
    λ q. s q ∙ nothing_said q (Exact 0 c.loop-i.left v) c.loop-i.i c.args.text.now c.loop-i-test.false

pub loop-i-preserved : goal.loop-i-preserved
loop-i-preserved c =
    let text = c.args.text.now in
    let i = c.loop-i.i in
    let (v, e, w, s) = c.loop-i.invariant.walk in
    let more : 0 < c.loop-i.left = omega arith in
    record {
      walk = (
        16 * v + hex_value (get_or text i 0),
        omega (arith, e, c.in-Some.ensures.value.0, c.min-value.ensures),
        (λ q start. w q start ∙ more_walk q start c.args.at i text c.loop-i-test.true c.loop-i.left v (sym c.in-Some.ensures.some) more),
        (λ q. s q ∙ more_says q 0 0 i text c.loop-i-test.true c.loop-i.left v (sym c.in-Some.ensures.some) more),
      );
      above = omega arith;
      bound = omega arith;
    }

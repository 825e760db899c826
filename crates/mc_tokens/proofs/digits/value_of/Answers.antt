use Rattle.std.proofs.Common.{◌≡◌, ◌+◌, ◌*◌, get_or, drop, sym, ap, ap₂, ◌∙◌, arith, mul_comm}
use Rattle.mc_tokens.specs.Tokens.{spelled}
use Rattle.mc_tokens.specs.Classes.{hex_value}
use Rattle.mc_tokens.proofs.Forms.{value_in}
use Rattle.mc_tokens.proofs.Spelled.{spelled_next, spelled_grows}
use Rattle.mc_tokens.proofs.digits.value_of.Goals as goal
use Rattle.mc_tokens.proofs.digits.value_of.Goals.{After-from-in-loop-x-2}

-- the value with the next digit
stepped : (c : After-from-in-loop-x-2) → spelled c.args.base (c.from.result * c.from-in-loop-x.result + c.from-in-loop-x-2.result) (drop (c.loop-x.x-index + 1) c.args.digits.now) ≡ spelled c.args.base 0 c.args.digits.now
stepped c =
    let ds = c.args.digits.now in
    let k = c.loop-x.x-index in
    let d : c.from-in-loop-x-2.result ≡ hex_value (get_or ds k 0) = c.from-in-loop-x-2.ensures ∙ c.unwrap_or-digit.ensures ∙ value_in c.digit_of.result (hex_value (get_or ds k 0)) (c.digit_of.ensures.some ∙ c.requires.digits k (omega arith)) c.digit_of.ensures.value in
    let m : c.from.result * c.from-in-loop-x.result ≡ c.args.base * c.loop-x.value = ap₂ (λ a b. a * b) c.from.ensures c.from-in-loop-x.ensures ∙ mul_comm _ _ in
    ap (λ v. spelled c.args.base v (drop (k + 1) ds)) (ap₂ (λ a b. a + b) m d) ∙ sym (spelled_next c.args.base c.loop-x.value ds k (omega arith)) ∙ c.loop-x.invariant.rest

pub returns-then-next : goal.returns-then-next
returns-then-next c =
    let e = stepped (goal.at.returns-then-next c).After-from-in-loop-x-2 in
    let g = spelled_grows c.args.base (c.from.result * c.from-in-loop-x.result + c.from-in-loop-x-2.result) (drop (c.loop-x.x-index + 1) c.args.digits.now) c.requires.base.0 in
    omega (arith, e, g, c.if-next.true)

pub loop-x-preserved : goal.loop-x-preserved
loop-x-preserved c = record {
  rest = stepped (goal.at.loop-x-preserved c).After-from-in-loop-x-2;
  small = omega (arith, c.if-next.false);
}

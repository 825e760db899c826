use Rattle.std.proofs.Common.{sym, ◌∙◌, arith}
use Rattle.mc_tokens.specs.Items as I
use Rattle.mc_tokens.proofs.walker.pass_item.Goals as goal

pub returns-then-ends_item : goal.returns-then-ends_item
returns-then-ends_item c = record {
  passes = c.loop-token.invariant.passes c.in-Ok.token.end (I.over (sym c.in-Ok.ensures.value) (sym c.ends_item.ensures ∙ c.if-ends_item.true));
  within = (omega (arith, c.in-Ok.ensures.order.0, c.in-Ok.ensures.order.1), c.in-Ok.ensures.order.2);
  seen = c.next_seen.ensures.seen;
}

pub loop-token-preserved-else-ends_item : goal.loop-token-preserved-else-ends_item
loop-token-preserved-else-ends_item c = record {
  above = omega (arith, c.in-Ok.ensures.order.0, c.in-Ok.ensures.order.1);
  bound = c.in-Ok.ensures.order.2;
  seen = c.next_seen.ensures.seen;
  passes = λ last p. c.loop-token.invariant.passes last (I.next (sym c.in-Ok.ensures.value) (sym c.ends_item.ensures ∙ c.if-ends_item.false) p);
}

pub loop-token-preserved : goal.loop-token-preserved
loop-token-preserved c = record {
  above = omega (arith, c.in-Err.ensures.placed.0);
  bound = omega (arith, c.in-Err.ensures.placed.1);
  seen = c.next_seen.ensures.seen;
  passes = λ last p. c.loop-token.invariant.passes last (I.past (sym c.in-Err.ensures.value) p);
}

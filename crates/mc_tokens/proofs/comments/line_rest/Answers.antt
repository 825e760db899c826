use Rattle.std.proofs.Common.{◌∙◌, arith}
use Rattle.mc_tokens.proofs.Layouts.{line_run, line_char, line_bad, line_stops, line_ends}
use Rattle.mc_tokens.proofs.comments.line_rest.Goals as goal

pub returns-then-i-text-clause-value : goal.returns-then-i-text-clause-value
returns-then-i-text-clause-value c =
    let text = c.args.text.now in
    c.loop-i.invariant.walk ∙ line_run _ _ text c.skip_class-i.ensures.value ∙ line_ends _ text c.if-i-text.true

pub returns-then-text-i-eq10-clause-value : goal.returns-then-text-i-eq10-clause-value
returns-then-text-i-eq10-clause-value c =
    let text = c.args.text.now in
    c.loop-i.invariant.walk ∙ line_run _ _ text c.skip_class-i.ensures.value ∙ line_stops _ text (omega arith) c.if-text-i-eq10.true

pub returns-then-len-eq0-clause-value : goal.returns-then-len-eq0-clause-value
returns-then-len-eq0-clause-value c =
    let text = c.args.text.now in
    c.loop-i.invariant.walk ∙ line_run _ _ text c.skip_class-i.ensures.value ∙ line_bad _ _ text (omega arith) c.if-text-i-eq10.false c.char_len-len.ensures.value c.if-len-eq0.true

pub loop-i-preserved : goal.loop-i-preserved
loop-i-preserved c =
    let text = c.args.text.now in
    record {
      walk = c.loop-i.invariant.walk ∙ line_run _ _ text c.skip_class-i.ensures.value ∙ line_char _ _ _ text (omega arith) c.if-text-i-eq10.false c.char_len-len.ensures.value (omega arith) (omega arith) (omega arith);
      above = omega arith;
      bound = omega arith;
    }

use Rattle.std.proofs.Common.{sym, ◌∙◌, arith}
use Rattle.std.proofs.lemmas.Result.{err_from_is_err_and}
use Rattle.mc_tokens.specs.Classes.{is_blank}
use Rattle.mc_tokens.proofs.CharLen.{inside, run_stop}
use Rattle.mc_tokens.proofs.Layouts.{blank_run, begins_line, begins_block, begins_token}
use Rattle.mc_tokens.proofs.comments.layout_rest.Goals as goal
use Rattle.mc_tokens.proofs.comments.layout_rest.Goals.{else-b-eq47-via-then-b-eq47+else-byte_at-eq42, else-b-eq47-via-else-b-eq47}

pub returns-in_err-i-clause-value : goal.returns-in_err-i-clause-value
returns-in_err-i-clause-value c =
    let text = c.args.text.now in
    let p = err_from_is_err_and c.from_residual.result c.from_residual.ensures.1 in
    rw (p.1, p.2) (c.loop-i.invariant.walk ∙ blank_run _ _ text c.skip_class-i.ensures.value
    ∙ begins_line _ text (inside text _ (omega (arith, c.byte_at-b.ensures, c.if-b-eq37.true))) (sym c.byte_at-b.ensures ∙ c.if-b-eq37.true) ∙ c.in_err-i.ensures.value)

pub loop-i-preserved-then-b-eq37 : goal.loop-i-preserved-then-b-eq37
loop-i-preserved-then-b-eq37 c =
    let text = c.args.text.now in
    record {
      walk = c.loop-i.invariant.walk ∙ blank_run _ _ text c.skip_class-i.ensures.value
          ∙ begins_line _ text (inside text _ (omega (arith, c.byte_at-b.ensures, c.if-b-eq37.true))) (sym c.byte_at-b.ensures ∙ c.if-b-eq37.true) ∙ c.in_ok-i.ensures.value;
      above = omega (arith, c.in_ok-i.ensures.within.0);
      bound = c.in_ok-i.ensures.within.1;
      known = c.loop-i.invariant.known;
    }

pub returns-in_err-i-2-clause-value : goal.returns-in_err-i-2-clause-value
returns-in_err-i-2-clause-value c =
    let text = c.args.text.now in
    let p = err_from_is_err_and c.from_residual-in_err-i-2.result c.from_residual-in_err-i-2.ensures.1 in
    rw (p.1, p.2) (c.loop-i.invariant.walk ∙ blank_run _ _ text c.skip_class-i.ensures.value
    ∙ begins_block _ text (inside text _ (omega (arith, c.byte_at.ensures, c.if-byte_at-eq42.true))) (sym c.byte_at-b.ensures ∙ c.if-b-eq47.true) (sym c.byte_at.ensures ∙ c.if-byte_at-eq42.true) ∙ c.in_err-i-2.ensures.value)

pub loop-i-preserved : goal.loop-i-preserved
loop-i-preserved c =
    let text = c.args.text.now in
    record {
      walk = c.loop-i.invariant.walk ∙ blank_run _ _ text c.skip_class-i.ensures.value
          ∙ begins_block _ text (inside text _ (omega (arith, c.byte_at.ensures, c.if-byte_at-eq42.true))) (sym c.byte_at-b.ensures ∙ c.if-b-eq47.true) (sym c.byte_at.ensures ∙ c.if-byte_at-eq42.true) ∙ c.in_ok-i-2.ensures.value;
      above = omega (arith, c.in_ok-i-2.ensures.within.0);
      bound = c.in_ok-i-2.ensures.within.1;
      known = c.in_ok-i-2.ensures.known;
    }

pub returns-else-b-eq47-clause-value : goal.returns-else-b-eq47-clause-value
returns-else-b-eq47-clause-value c =
    let text = c.args.text.now in
    c.loop-i.invariant.walk ∙ blank_run _ _ text c.skip_class-i.ensures.value
    ∙ begins_token _ text (run_stop is_blank text _ _ c.loop-i.invariant.bound c.skip_class-i.ensures.value) (λ e. c.if-b-eq37.false (c.byte_at-b.ensures ∙ e))
    (λ e f. elim c.else-b-eq47.branch [ else-b-eq47-via-then-b-eq47+else-byte_at-eq42 w ↦ w.if-byte_at-eq42.false (w.byte_at.ensures ∙ f) | else-b-eq47-via-else-b-eq47 w ↦ w.if-b-eq47.false (c.byte_at-b.ensures ∙ e) ])

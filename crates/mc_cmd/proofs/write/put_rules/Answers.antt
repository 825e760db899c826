use Rattle.std.proofs.Common.{ℕ, List, sym, ◌∙◌, subst}
use Rattle.mc_outside.specs.Meaning.{PutsFront}
use Rattle.mc_cmd.specs.Messages.{broken_line, broken_lines}
use Rattle.mc_cmd.specs.code.Decisions.{given_names}
use Rattle.mc_cmd.proofs.Puts.{more_written, part_written, broken_pieces, passed_front}
use Rattle.mc_cmd.proofs.write.put_rules.Goals as goal

pub loop-rule-preserved : goal.loop-rule-preserved
loop-rule-preserved g c =
    let i = c.loop-rule.invariant in
    let w = c.in_ok-put_rule.ensures {u = tt} in
    record {
      faults = w.faults ∙ i.faults;
      lines = more_written (broken_line (given_names c.args.files.now)) c.args.broken.now c.loop-rule.rule-index c.rule-item.result _ _ _ c.loop-rule-test.true c.rule-item.is i.lines w.written;
    }

pub returns-in_err-put_rule-clause-written : goal.returns-in_err-put_rule-clause-written
returns-in_err-put_rule-clause-written g c =
    let i = c.loop-rule.invariant in
    let w = c.in_err-put_rule.ensures {u = tt} in
    passed_front _ (g.E.Sink.written c.args.err.now) (g.E.Sink.written c.put_rule.new.err) c.from_residual.result (broken_lines (given_names c.args.files.now) c.args.broken.now) c.from_residual.ensures.1
    (subst (λ (bs : List ℕ). PutsFront (g.E.Sink.written c.args.err.now) (g.E.Sink.written c.put_rule.new.err) bs) (sym (broken_pieces (given_names c.args.files.now) c.args.broken.now))
    (part_written (broken_line (given_names c.args.files.now)) c.args.broken.now c.loop-rule.rule-index c.rule-item.result _ _ _ c.loop-rule-test.true c.rule-item.is i.lines w.written))

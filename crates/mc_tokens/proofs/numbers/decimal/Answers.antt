use Rattle.std.proofs.Common.{◌≡◌, ◌+◌, drop, sym, ap, ◌∙◌, arith}
use Rattle.std.specs.List.{prefix_len}
use Rattle.std.specs.Prelude.{slice_range}
use Rattle.mc_tokens.specs.Classes.{is_digit_of}
use Rattle.mc_tokens.specs.code.Values.{span}
use Rattle.mc_tokens.proofs.Forms.{later_run, run_digits, decimal_float, decimal_number, number_large, number_small}
use Rattle.mc_tokens.proofs.numbers.decimal.Goals as goal
use Rattle.mc_tokens.proofs.numbers.decimal.Goals.{After-run_at-run}

-- the end of the run, as that of the digits from start on
run_end : (c : After-run_at-run) → c.run_at-run.result.end ≡ c.args.start + prefix_len (is_digit_of 10) (drop c.args.start c.args.text.now)
run_end c = later_run (is_digit_of 10) c.run_at-run.result.from c.args.start c.run_at-run.result.end c.args.text.now c.run_at-run.ensures.inside.0 (omega arith) c.run_at-run.ensures.run.longest

pub returns-then-is_fraction-clause-value : goal.returns-then-is_fraction-clause-value
returns-then-is_fraction-clause-value c =
    ap (span c.args.start) c.fault.ensures
    ∙ sym (decimal_float c.args.start c.run_at-run.result.end c.args.text.now (run_end (goal.at.returns-then-is_fraction-clause-value c).After-run_at-run) (sym c.is_fraction.ensures ∙ c.if-is_fraction.true))

pub returns-then-start-run-clause-value : goal.returns-then-start-run-clause-value
returns-then-start-run-clause-value c =
    ap (span c.args.start) c.fault-then-start-run.ensures
    ∙ sym (decimal_number c.args.start c.run_at-run.result.end c.args.text.now (run_end (goal.at.returns-then-start-run-clause-value c).After-run_at-run) (sym c.is_fraction.ensures ∙ c.if-is_fraction.false)
    ∙ number_large 10 c.args.start c.run_at-run.result.end (slice_range c.args.text.now c.args.start c.run_at-run.result.end) (c.run_at-run.ensures.run.above c.args.start c.run_at-run.ensures.inside.0 c.if-start-run.true))

pub value_of-requires-clause-digits : goal.value_of-requires-clause-digits
value_of-requires-clause-digits c = run_digits (is_digit_of 10) c.args.start c.run_at-run.result.end c.args.text.now (run_end (goal.at.value_of-requires-clause-digits c).After-run_at-run)

pub large_end-requires-clause-digits : goal.large_end-requires-clause-digits
large_end-requires-clause-digits c = run_digits (is_digit_of 10) c.args.start c.run_at-run.result.end c.args.text.now (run_end (goal.at.large_end-requires-clause-digits c).After-run_at-run)

pub returns-in-Some-clause-value : goal.returns-in-Some-clause-value
returns-in-Some-clause-value c =
    sym (decimal_number c.args.start c.run_at-run.result.end c.args.text.now (run_end (goal.at.returns-in-Some-clause-value c).After-run_at-run) (sym c.is_fraction.ensures ∙ c.if-is_fraction.false)
    ∙ number_small 10 c.args.start c.run_at-run.result.end c.in-Some.value (slice_range c.args.text.now c.args.start c.run_at-run.result.end) c.in-Some.ensures.0 c.in-Some.ensures.1)

pub returns-in-None-clause-value : goal.returns-in-None-clause-value
returns-in-None-clause-value c =
    ap (span c.args.start) c.fault-in-None.ensures
    ∙ sym (decimal_number c.args.start c.run_at-run.result.end c.args.text.now (run_end (goal.at.returns-in-None-clause-value c).After-run_at-run) (sym c.is_fraction.ensures ∙ c.if-is_fraction.false)
    ∙ number_large 10 c.args.start c.run_at-run.result.end (slice_range c.args.text.now c.args.start c.run_at-run.result.end) c.in-None.ensures)

pub returns-in-None-clause-known : goal.returns-in-None-clause-known
returns-in-None-clause-known c = record {
  inside = (omega arith, c.run_at-run.ensures.run.inside.1);
  longest = run_end (goal.at.returns-in-None-clause-known c).After-run_at-run;
  above = c.large_end.ensures;
}

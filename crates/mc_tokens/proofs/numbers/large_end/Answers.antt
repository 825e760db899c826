use Rattle.std.proofs.Common.{◌-◌, refl, arith}
use Rattle.mc_tokens.specs.Classes.{is_digit_of}
use Rattle.mc_tokens.proofs.Forms.{later_digits, large_up_to}
use Rattle.mc_tokens.proofs.numbers.large_end.Goals as goal

pub is_too_large-requires-clause-digits : goal.is_too_large-requires-clause-digits
is_too_large-requires-clause-digits c = later_digits (is_digit_of 10) c.args.start (c.args.end - 20) c.args.end c.args.text.now (omega arith) c.requires.range.1 c.requires.digits

pub returns-then-is_too_large : goal.returns-then-is_too_large
returns-then-is_too_large c = large_up_to c.args.text.now c.args.start (c.args.end - 20) c.args.end (omega arith) c.requires.range.1 (c.if-is_too_large.ensures.0 refl)

pub is_too_large-requires-2-clause-digits : goal.is_too_large-requires-2-clause-digits
is_too_large-requires-2-clause-digits c = later_digits (is_digit_of 10) c.args.start c.loop-last.last c.args.end c.args.text.now c.loop-last.invariant.above c.requires.range.1 c.requires.digits

pub returns-then-is_too_large-2 : goal.returns-then-is_too_large-2
returns-then-is_too_large-2 c = large_up_to c.args.text.now c.args.start c.loop-last.last c.args.end c.loop-last.invariant.below c.requires.range.1 (c.if-is_too_large-2.ensures.0 refl)

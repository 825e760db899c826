use Rattle.std.proofs.Common.{◌-◌, ◌≤◌, false, length, drop}
use Rattle.mc_term_parser.specs.code.Seen.{no_seen}
use Rattle.mc_term_parser.specs.code.Views.{readings}
use Rattle.mc_term_parser.specs.code.Arguments.{ReadsArguments}
use Rattle.mc_term_parser.proofs.arguments.leading_arguments.Given as goal

abbrev pub invariant-arguments : goal.invariant-arguments
invariant-arguments l = record {
  within : l.at ≤ length l.tokens;
  reads : ReadsArguments no_seen (drop l.from l.tokens) false (readings l.parts) (drop l.at l.tokens);
}

abbrev pub decreases-arguments : goal.decreases-arguments
decreases-arguments l = length l.tokens - l.at

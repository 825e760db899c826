use Rattle.std.proofs.Common.{drop}
use Rattle.mc_term_parser.specs.code.Views.{state}
use Rattle.mc_term_parser.proofs.Falls.{weight}
use Rattle.mc_term_parser.proofs.Ends.{Runs}
use Rattle.mc_term_parser.proofs.starting.read.Given as goal

abbrev pub invariant-run : goal.invariant-run
invariant-run l = Runs (drop 0 l.tokens) (state l.tokens l.machine)

abbrev pub decreases-run : goal.decreases-run
decreases-run l = weight (state l.tokens l.machine)

use Rattle.std.proofs.Common.{◌≢◌, ◌<◌, ℕ}
use Rattle.mc_inst_table.specs.code.Others.{number_of}
use Rattle.mc_inst_table.proofs.others.Given.is_shared.Given as goal

abbrev pub invariant-loop-earlier : goal.invariant-loop-earlier
invariant-loop-earlier l =
    (q : ℕ) → q < l.earlier → number_of l.self l.number q ≢ number_of l.self l.number l.parameter

use Rattle.std.proofs.Common.{◌≡◌, ◌≢◌, ◌<◌, ℕ, true, false, slice_index_or}
use Rattle.mc_inst_table.specs.code.Others.{number_of}
use Rattle.mc_inst_table.proofs.others.Given.reaches_others.Given as goal

abbrev pub invariant-loop-parameter : goal.invariant-loop-parameter
invariant-loop-parameter l =
    (p : ℕ) → p < l.parameter
    → (slice_index_or l.self.spoiled (number_of l.self l.number p) false ≡ false)
    × ((q : ℕ) → q < p → number_of l.self l.number q ≢ number_of l.self l.number p)

use Rattle.std.proofs.Common.{ℕ, ◌<◌}
use Rattle.mc_insts.specs.Defining.{plain_definitions, AreSound}
use Rattle.mc_insts.specs.code.Chains.{ChainsAre}
use Rattle.mc_insts.proofs.define.test_all.Given as goal

abbrev pub invariant-loop-k : goal.invariant-loop-k
invariant-loop-k l =
    (first : ℕ) → 0 < first → ChainsAre (plain_definitions l.defs) first l.chains → AreSound (plain_definitions l.defs) l.k

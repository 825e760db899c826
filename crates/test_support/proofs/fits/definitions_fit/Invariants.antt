use Rattle.std.proofs.Common.{ℕ, ◌<◌, length}
use Rattle.mc_accepted.specs.InstRules.{definition_at}
use Rattle.mc_insts.specs.Defining.{plain_definitions, DefinitionFits}
use Rattle.test_support.proofs.fits.definitions_fit.Given as goal

abbrev pub invariant-loop-k : goal.invariant-loop-k
invariant-loop-k l =
    (k : ℕ) → k < l.k → DefinitionFits l.nodes (length l.defs) (definition_at (plain_definitions l.defs) k)

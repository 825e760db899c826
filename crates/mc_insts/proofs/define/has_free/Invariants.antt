use Rattle.std.proofs.Common.{ℕ, ◌<◌, List, map, take}
use Rattle.mc_accepted.specs.InstRules.{PlainInstDef, OneHasFree}
use Rattle.mc_insts.specs.Defining.{plain_choice}
use Rattle.mc_insts.specs.code.Chains.{ChainsAre}
use Rattle.mc_insts.proofs.define.has_free.Given as goal

abbrev pub invariant-loop-choice : goal.invariant-loop-choice
invariant-loop-choice l =
    (ds : List PlainInstDef) (first : ℕ) → 0 < first → ChainsAre ds first l.chains
    → OneHasFree ds (map plain_choice (take l.choice-index l.choices)) → ⊥

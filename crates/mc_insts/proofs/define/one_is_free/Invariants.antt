use Rattle.std.proofs.Common.{ℕ, ◌<◌, List, take}
use Rattle.mc_accepted.specs.InstRules.{PlainInstDef, OneIsFree}
use Rattle.mc_insts.specs.code.Chains.{ChainsAre}
use Rattle.mc_insts.proofs.define.one_is_free.Given as goal

abbrev pub invariant-loop-inst : goal.invariant-loop-inst
invariant-loop-inst l =
    (ds : List PlainInstDef) (first : ℕ) → 0 < first → ChainsAre ds first l.chains → OneIsFree ds (take l.inst-index l.insts) → ⊥

use Rattle.std.proofs.Common.{◌≡◌, ℕ, List, length}
use Rattle.mc_accepted.specs.InstRules.{PlainInstDef}
use Rattle.mc_insts.specs.code.Chains.{AllThere, ChainsAre}
use Rattle.mc_insts.proofs.chains.follow_all.Given as goal

abbrev pub invariant-loop-k : goal.invariant-loop-k
invariant-loop-k l = record {
  all : AllThere l.chains;
  count : length l.chains ≡ length l.fn.chains;
  are : (ds : List PlainInstDef) (first : ℕ) → ChainsAre ds first l.fn.chains → ChainsAre ds first l.chains;
}

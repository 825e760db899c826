use Rattle.std.proofs.Common.{◌≡◌, ℕ, ◌<◌, length, get_or}
use Rattle.mc_insts.specs.declared.chains.Chain.TheVariants as C
use Rattle.mc_insts.specs.code.Chains.{chain_at}
use Rattle.mc_insts.proofs.define.insts_of.Given as goal

abbrev pub invariant-loop-chain : goal.invariant-loop-chain
invariant-loop-chain l = record {
  count : length l.insts.items ≡ l.chain-index;
  each : (k : ℕ) → k < l.chain-index → chain_at l.listed k ≡ C.Node (get_or l.insts.items k 0);
}

use Rattle.std.proofs.Common.{◌≡◌, ℕ, ◌+◌, ◌<◌, ◌^◌, length, take}
use Rattle.mc_accepted.specs.InstRules.{definition_at}
use Rattle.mc_insts.specs.Defining.{plain_definitions, bounds_of}
use Rattle.mc_insts.specs.code.Chains.{chain_at, first_chain}
use Rattle.mc_insts.proofs.define.first_chains.Given as goal

abbrev pub invariant-loop-def : goal.invariant-loop-def
invariant-loop-def l = record {
  small : l.next < 2 ^ 32;
  count : length l.chains.items ≡ l.def-index;
  next : l.next ≡ l.first + bounds_of (take l.def-index (plain_definitions l.listed));
  are :
      (k : ℕ) → k < l.def-index
      → chain_at l.chains.items k ≡ first_chain (plain_definitions l.listed) l.first k (definition_at (plain_definitions l.listed) k);
}

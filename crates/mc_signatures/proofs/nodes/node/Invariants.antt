use Rattle.std.proofs.Common.{ℕ}
use Rattle.mc_insts.specs.Defining.{plain_definitions, IsNode}
use Rattle.mc_signatures.proofs.nodes.node.Given as goal

-- the inst at hand has the node of the first
abbrev pub invariant-loop : goal.invariant-loop
invariant-loop l = (n : ℕ) → IsNode (plain_definitions l.defs) 4 l.named n → IsNode (plain_definitions l.defs) 4 l.fn.inst n

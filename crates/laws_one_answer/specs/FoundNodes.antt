-- Functions that look for nodes exist that tell the truth of a graph. (Mercury Language Reference
-- Manual: Modes, insts.)
use Rattle.std.specs.Prelude.{ℕ, List, [], ◌∷◌, Option, None}
use Rattle.mc_program.specs.Programs.{TypeTerm}
use Rattle.mc_accepted.specs.NodeOracle.{NodeOracle}
use Rattle.mc_insts.specs.Graphs.{count_of}
use Rattle.laws_order.specs.SomeTest.{TypesMet}
use Rattle.mc_procs.specs.Procedures.{PlainProcs, source_of, insts_of}
use Rattle.mc_mode_state.specs.Agreeing.{OracleAgrees, StateInvariant, TypedAs}
use Rattle.mc_mode_state.specs.declared.state.State.{State}
use Rattle.laws_graphs.specs.Nodes.{Finds}

-- No inst is what one of no insts allows. No order asks for it, so a node may have been found for it.
abbrev pub of_some : (List ℕ → Option ℕ) → List ℕ → Option ℕ
of_some f [] = None
of_some f (i ∷ is) = f (i ∷ is)

abbrev pub joins_some : NodeOracle → NodeOracle
joins_some C = record C { joined = λ t is. of_some (C.joined t) is }

-- Where finitely many types are met under each type, some functions agree with what is there, whatever
-- types other variables have, and tell the truth of the nodes of the graph.
abbrev pub FoundNodes : Type 0
FoundNodes =
    (q : PlainProcs) (s : State) → StateInvariant q s → ((t : TypeTerm) → TypesMet (source_of q) t)
    → (C : NodeOracle)
    × ((T : ℕ → TypeTerm) → TypedAs s T → OracleAgrees q s C T)
    × Finds (source_of q) (count_of q.insts) (insts_of q) (joins_some C)

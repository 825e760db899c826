-- Functions that look for nodes exist: what is told for all that agree with a state is told of some.
-- (Mercury Language Reference Manual: Modes, insts.)
use Rattle.std.specs.Prelude.{◌≡◌, ℕ}
use Rattle.mc_program.specs.Programs.{TypeTerm}
use Rattle.mc_model.specs.Good.{System}
use Rattle.mc_accepted.specs.NodeOracle.{NodeOracle}
use Rattle.mc_accepted.specs.code.Truthful.{Truthful}
use Rattle.mc_insts.specs.Graphs.{count_of}
use Rattle.laws_order.specs.SomeTest.{TypesMet}
use Rattle.mc_procs.specs.Procedures.{PlainProcs, source_of, insts_of}
use Rattle.mc_mode_state.specs.Agreeing.{OracleAgrees, StateInvariant, TypedAs}
use Rattle.mc_mode_state.specs.declared.state.State.{State}
use Rattle.laws_modes.specs.OrdersNamed.{FindsBelow}

-- Where finitely many types are met under each type, some functions agree with what is there, whatever
-- types other variables have, find no node that isn't there, and tell the truth of each system of the
-- program and its insts.
abbrev pub SomeAgree : Type 0
SomeAgree =
    (q : PlainProcs) (s : State) → StateInvariant q s → ((t : TypeTerm) → TypesMet (source_of q) t)
    → (C : NodeOracle)
    × ((T : ℕ → TypeTerm) → TypedAs s T → OracleAgrees q s C T)
    × FindsBelow (count_of q.insts) C
    × ((S : System)
    → S.world.source ≡ source_of q → S.insts ≡ insts_of q → (T : ℕ → TypeTerm)
    → Truthful S T C)

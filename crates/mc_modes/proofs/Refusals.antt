-- A refusal leaves of the procedures all but their graph, which may have more nodes.
use Rattle.std.proofs.Common.{Result, OnErr}
use Rattle.mc_procs.specs.Procedures.{PlainProcs}
use Rattle.mc_mode_state.specs.Agreeing.{StateExtends, LaterByTrail, OnlyGrown}
use Rattle.mc_mode_state.specs.declared.state.State.{State}
use Rattle.mc_mode_state.proofs.Growths.{only_grown_trans, refused_by, refused_after}
use Rattle.mc_mode_state.proofs.Steps.{stepped-trans}

-- after a step to the same state, and a refusal
pub refused_moved : {A E : Type 0} (res : Result A E) (q r : PlainProcs) (s t : State) → StateExtends q r s t → OnErr res (OnlyGrown q r)
refused_moved res q r s t m = refused_by res q r (record { others = m.nodes.others; grown = m.nodes.grown })

pub refused_moved_after : {A E : Type 0} (res : Result A E) (q r u : PlainProcs) (s t : State) → StateExtends q r s t → OnlyGrown r u → OnErr res (OnlyGrown q u)
refused_moved_after res q r u s t m n = refused_by res q u (only_grown_trans q r u (record { others = m.nodes.others; grown = m.nodes.grown }) n)

-- after two steps
pub refused_after_two : {A E : Type 0} (res : Result A E) (q r u w : PlainProcs) (s t v : State) → LaterByTrail q r s t → LaterByTrail r u t v → OnlyGrown u w → OnErr res (OnlyGrown q w)
refused_after_two res q r u w s t v p n g = refused_after res q u w s v (stepped-trans q r u s t v p n) g

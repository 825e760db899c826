-- Procedures whose graph may have more nodes, and that are the same otherwise.
use Rattle.std.proofs.Common.{◌∙◌, Result, Ok, Err, OnErr, refl, ap, subst}
use Rattle.mc_insts.specs.Growing.{Grown}
use Rattle.mc_insts.specs.declared.insts.Insts.{Insts}
use Rattle.mc_procs.specs.Procedures.{PlainProcs, source_of, with_insts}
use Rattle.mc_mode_state.specs.Nodes.{NodesMoved}
use Rattle.mc_mode_state.specs.Agreeing.{LaterByTrail, OnlyGrown}
use Rattle.mc_mode_state.specs.declared.nodes.Nodes.{Nodes}
use Rattle.mc_mode_state.specs.declared.state.State.{State}
use Rattle.mc_mode_state.proofs.Found.{grown-refl, grown-trans}

pub only_grown_refl : (q : PlainProcs) → OnlyGrown q q
only_grown_refl q = record { others = refl; grown = grown-refl (source_of q) q.insts }

pub only_grown_trans : (q r u : PlainProcs) → OnlyGrown q r → OnlyGrown r u → OnlyGrown q u
only_grown_trans q r u m n = record {
  others = n.others ∙ ap (λ z. with_insts z u.insts) m.others;
  grown = grown-trans (source_of q) q.insts r.insts u.insts m.grown (subst (λ P. Grown P r.insts u.insts) (ap source_of m.others) n.grown);
}

-- after a step
pub stepped_grown : (q r : PlainProcs) (s t : State) → LaterByTrail q r s t → OnlyGrown q r
stepped_grown q r s t p = record { others = p.moved.nodes.others; grown = p.moved.nodes.grown }

pub stepped_then_grown : (q r u : PlainProcs) (s t : State) → LaterByTrail q r s t → OnlyGrown r u → OnlyGrown q u
stepped_then_grown q r u s t p n = only_grown_trans q r u (stepped_grown q r s t p) n

pub nodes_grown : (q r : PlainProcs) (N M : Nodes) → NodesMoved q r N M → OnlyGrown q r
nodes_grown q r N M m = record { others = m.others; grown = m.grown }

-- a refusal, after none, one, or a step and one of such calls
pub refused_here : {A E : Type 0} (res : Result A E) (q : PlainProcs) → OnErr res (OnlyGrown q q)
refused_here (Ok a) q = tt
refused_here (Err e) q = only_grown_refl q

pub refused_by : {A E : Type 0} (res : Result A E) (q r : PlainProcs) → OnlyGrown q r → OnErr res (OnlyGrown q r)
refused_by (Ok a) q r n = tt
refused_by (Err e) q r n = n

pub refused_stepped : {A E : Type 0} (res : Result A E) (q r : PlainProcs) (s t : State) → LaterByTrail q r s t → OnErr res (OnlyGrown q r)
refused_stepped res q r s t p = refused_by res q r (stepped_grown q r s t p)

pub refused_after : {A E : Type 0} (res : Result A E) (q r u : PlainProcs) (s t : State) → LaterByTrail q r s t → OnlyGrown r u → OnErr res (OnlyGrown q u)
refused_after res q r u s t p n = refused_by res q u (stepped_then_grown q r u s t p n)

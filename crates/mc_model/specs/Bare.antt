-- Bare procedures: what a run depends on, without what the compiler keeps besides. So sources
-- determine one run, whatever numbers their insts have. (This project's profile of strict sequential
-- execution.)
use Rattle.std.specs.Prelude.{ℕ, List, [], map, Bool, false, if◌then◌else◌}
use Rattle.mc_source.specs.Determinism.{inferred, det}
use Rattle.mc_source.specs.declared.det.Det.{Det}
use Rattle.mc_source.specs.declared.det.Most.TheVariants.{Many}
use Rattle.mc_model.specs.Scheduled.{Node, node, Scheduled, Conj, Disj, Switch, Ite, Not, Exists, Assign, Test, Build, Take, Const, TestConst, Call, Apply, Nodes, no_nodes, node_then, Arms, no_arms, arm_then, Procedure}
use Rattle.mc_model.specs.Stream.{is_bound}

-- a goal with its order, its arms, its implied places and its marks, without the insts that it
-- changes and its determinism
abbrev mutual
  pub bare_node : Node → Node
  bare_node (node s changes d pruned) = node (bare_scheduled s) [] (inferred det) pruned

  pub bare_scheduled : Scheduled → Scheduled
  bare_scheduled (Conj ns) = Conj (bare_nodes ns)
  bare_scheduled (Disj ns) = Disj (bare_nodes ns)
  bare_scheduled (Switch v arms) = Switch v (bare_arms arms)
  bare_scheduled (Ite vs c t e) = Ite vs (bare_node c) (bare_node t) (bare_node e)
  bare_scheduled (Not n) = Not (bare_node n)
  bare_scheduled (Exists vs n) = Exists vs (bare_node n)
  bare_scheduled (Assign v w) = Assign v w
  bare_scheduled (Test v w) = Test v w
  bare_scheduled (Build v s ys) = Build v s ys
  bare_scheduled (Take v s ys) = Take v s ys
  bare_scheduled (Const v c) = Const v c
  bare_scheduled (TestConst v c) = TestConst v c
  bare_scheduled (Call p xs implied last) = Call p xs implied last
  bare_scheduled (Apply op xs ys) = Apply op xs ys

  pub bare_nodes : Nodes → Nodes
  bare_nodes no_nodes = no_nodes
  bare_nodes (node_then n ns) = node_then (bare_node n) (bare_nodes ns)

  pub bare_arms : Arms → Arms
  bare_arms no_arms = no_arms
  bare_arms (arm_then l n arms) = arm_then l (bare_node n) (bare_arms arms)

-- whether an argument is bound, as an inst: `free` or `ground`
abbrev pub bare_inst : ℕ → ℕ
bare_inst i = if is_bound i then 1 else 0

-- whether the procedure gives its first answer alone, as a determinism
abbrev pub bare_det : Bool → Det
bare_det committed = record { can_fail = false; most = Many; committed = committed }

-- A procedure by its body, which of its head variables are bound at a call and at an answer, and
-- whether it is committed.
abbrev pub bare_procedure : Procedure → Procedure
bare_procedure p =
    record {
      pred = p.pred;
      head = p.head;
      first = map bare_inst p.first;
      last = map bare_inst p.last;
      body = bare_node p.body;
      det = bare_det p.det.committed;
      var_types = [];
    }

-- Goals that answer once by their form: equations, builtins, negations, pruned goals, and conjunctions,
-- conditions and quantified goals of such.
use Rattle.std.specs.Prelude.{true, false}
use Rattle.mc_model.specs.Scheduled.{Node, node, Scheduled, Conj, Disj, Switch, Ite, Not, Exists, Assign, Test, Build, Take, Const, TestConst, Call, Apply, Nodes, no_nodes, node_then}

abbrev mutual
  pub Once : Node → Type 0
  Once (node s changes d false) = OnceIn s
  Once (node s changes d true) = Unit {0}

  pub OnceIn : Scheduled → Type 0
  OnceIn (Conj ns) = AllOnce ns
  OnceIn (Disj ns) = ⊥
  OnceIn (Switch x arms) = ⊥
  OnceIn (Ite vs c t f) = Once c × Once t × Once f
  OnceIn (Not n) = Unit {0}
  OnceIn (Exists vs n) = Once n
  OnceIn (Assign x y) = Unit {0}
  OnceIn (Test x y) = Unit {0}
  OnceIn (Build x f ys) = Unit {0}
  OnceIn (Take x f ys) = Unit {0}
  OnceIn (Const x c) = Unit {0}
  OnceIn (TestConst x c) = Unit {0}
  OnceIn (Call p xs implied last) = ⊥
  OnceIn (Apply op xs ys) = Unit {0}

  pub AllOnce : Nodes → Type 0
  AllOnce no_nodes = Unit {0}
  AllOnce (node_then n ns) = Once n × AllOnce ns

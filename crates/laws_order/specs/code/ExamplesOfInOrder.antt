-- A goal that is in order whichever test tells inclusion, and one that isn't.
use Rattle.std.specs.Prelude.{[], ◌∷◌, Some, false, true, pos}
use Rattle.mc_program.specs.Values.{int}
use Rattle.mc_program.specs.Programs.{int_type}
use Rattle.mc_source.specs.Determinism.{inferred, det, semidet}
use Rattle.mc_model.specs.Outcomes.{fails}
use Rattle.mc_model.specs.Flat as F
use Rattle.mc_model.specs.Scheduled.{Node, node, Const, TestConst, Procedure}
use Rattle.mc_model.specs.Good.{System}
use Rattle.mc_accepted.specs.Ordered.{Insts, also}
use Rattle.mc_accepted.specs.Fits.{type_of}
use Rattle.mc_accepted.specs.Accepted.{entered}
use Rattle.mc_accepted.specs.InOrder.{InOrder}
use Rattle.laws_order.specs.code.Examples.{source}
use Rattle.laws_order.specs.code.ExamplesOfNodes.{few}

-- X becomes 1, and X is compared with 1
abbrev pub becomes_one : Node
becomes_one = node (Const 0 (int (pos 1))) ((0, 1) ∷ []) (inferred det) false

abbrev pub is_one : Node
is_one = node (TestConst 0 (int (pos 1))) [] (inferred semidet) true

-- `p(X) :- X = 1.` in the mode (out)
abbrev pub ones : Procedure
ones =
    record {
      pred = 0;
      head = 0 ∷ [];
      first = 0 ∷ [];
      last = 1 ∷ [];
      body = becomes_one;
      det = inferred det;
      var_types = int_type ∷ [];
    }

abbrev pub one_system : System
one_system =
    record {
      world = record { source = source; outcome = λ op vs. fails };
      count = 1;
      procs = λ k. ones;
      insts = few;
    }

-- this goal is `X = 1` in order, from a free X to one that is bound
abbrev pub OneInOrder : Node → Type 0
OneInOrder n =
    let before : Insts = entered ones.head ones.first in
    InOrder one_system (type_of one_system ones) 1 ones.head ones.first ones.last before
    (F.Is 0 (int (pos 1))) n (Some (also 0 1 before))

abbrev pub OnesInOrder : Type 0
OnesInOrder = OneInOrder becomes_one × (OneInOrder is_one → ⊥)

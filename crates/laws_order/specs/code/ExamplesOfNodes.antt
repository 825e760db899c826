-- Functions that look for nodes and tell the truth of a graph: the laws of the order have premises
-- that can be met. Over nodes each goal in order has the insts that it changes.
use Rattle.std.specs.Prelude.{◌≡◌, ◌≢◌, ℕ, zero, suc, List, [], ◌∷◌, map, replicate, Option, Some, None, Bool, true, false, nat_eq, ◌&&◌, if◌then◌else◌}
use Rattle.mc_program.specs.Programs.{int_type, Source}
use Rattle.mc_model.specs.Outcomes.{fails}
use Rattle.mc_model.specs.Insts.{free, ground, dead, Graph}
use Rattle.mc_model.specs.Flat as F
use Rattle.mc_model.specs.Flat.{Flat_goal, no_flat, flat_then}
use Rattle.mc_model.specs.Scheduled.{Node, node, Scheduled, Conj, Disj, Not, Exists, Assign, Procedure, nodes}
use Rattle.mc_model.specs.Good.{System}
use Rattle.mc_accepted.specs.Accepted.{entered}
use Rattle.mc_accepted.specs.Fits.{type_of}
use Rattle.mc_accepted.specs.Typing.{TypedGoal}
use Rattle.mc_accepted.specs.Unmarked.{unmarked}
use Rattle.mc_accepted.specs.Arranged.{Verdict, in_order, arrange}
use Rattle.mc_accepted.specs.InOrder.{modes_declared}
use Rattle.mc_accepted.specs.NodeOracle.{NodeOracle, of_nodes}
use Rattle.mc_accepted.specs.code.Truthful.{Truthful, AllDeclared}
use Rattle.laws_order.specs.OrderLaws.{Below, FlatScopes}
use Rattle.laws_order.specs.Tidying.{EndsTidily, TidyPoint}
use Rattle.mc_source.specs.Determinism.{inferred, det}
use Rattle.laws_order.specs.code.Examples as example

-- node 0 is free, 1 ground, and each other one dead
abbrev pub few : Graph
few zero = free
few (suc zero) = ground
few (suc (suc i)) = dead

abbrev pub each_is : ℕ → List ℕ → Bool
each_is i [] = true
each_is i (j ∷ js) = nat_eq j i && each_is i js

abbrev pub joined : List ℕ → Option ℕ
joined [] = None
joined (i ∷ is) = if each_is i is then Some i else None

abbrev pub fits : ℕ → ℕ → Bool
fits zero zero = true
fits zero (suc j) = false
fits (suc zero) zero = false
fits (suc zero) (suc j) = true
fits (suc (suc i)) zero = false
fits (suc (suc i)) (suc zero) = false
fits (suc (suc i)) (suc (suc j)) = true

abbrev pub is_dead : ℕ → Bool
is_dead zero = false
is_dead (suc zero) = false
is_dead (suc (suc i)) = true

abbrev pub takes_constants : ℕ → Bool
takes_constants zero = false
takes_constants (suc i) = true

abbrev pub narrowed : ℕ → (symbol : ℕ) → Option (List ℕ)
narrowed zero s = None
narrowed i s = Some (replicate (example.symbol s).name.arity i)

abbrev pub chosen : NodeOracle
chosen =
    record {
      is_dead = is_dead;
      over = λ s is. None;
      joined = λ t is. joined is;
      narrowed = narrowed;
      takes_constants = takes_constants;
      fits = λ i j t. fits i j;
    }

-- `p(X, Y) :- Y = X.`, from the first argument
abbrev pub copies : Procedure
copies =
    record {
      pred = 0;
      head = 0 ∷ 1 ∷ [];
      first = 1 ∷ 0 ∷ [];
      last = 1 ∷ 1 ∷ [];
      body = unmarked (Assign 1 0);
      det = inferred det;
      var_types = int_type ∷ int_type ∷ [];
    }

-- predicates of two integers, and no builtin
abbrev pub source : Source
source =
    record {
      symbols = example.symbol;
      symbols_of = example.source.symbols_of;
      preds =
          λ k.
          record {
            name = record { module_name = []; bytes = k ∷ []; arity = 2 };
            types = int_type ∷ int_type ∷ [];
            clauses = [];
            builtin = None;
          };
    }

abbrev pub system : System
system =
    record {
      world = record { source = source; outcome = λ op vs. fails };
      count = 1;
      procs = λ k. copies;
      insts = few;
    }

-- a goal with the variables that it changes, which become ground
abbrev pub ground_after : List ℕ → Scheduled → Node
ground_after xs s = node s (map (λ x. (x, 1)) xs) (inferred det) false

abbrev pub PremisesAreMet : Type 0
PremisesAreMet =
    Truthful system (type_of system copies) chosen
    × ((p : ℕ) → AllDeclared system (type_of system copies) p (modes_declared system p))
    × (modes_declared system 0
    ≡ record { proc = 0; modes = (1, 1) ∷ (0, 1) ∷ []; never = false } ∷ [])
    × (modes_declared system 1 ≡ [])
    × EndsTidily system
    × Below 2 copies.head
    × FlatScopes copies.head (F.Same 1 0)
    × TypedGoal source (type_of system copies) (F.Same 1 0)
    × TidyPoint system (type_of system copies) (entered copies.head copies.first)
    × (arrange (of_nodes chosen) source (modes_declared system) (type_of system copies) 2
    copies.head copies.first copies.last (F.Same 1 0)
    ≡ in_order (ground_after (1 ∷ []) (Assign 1 0)))

-- a goal of X and Y, variables 0 and 1, in its order over nodes; it may have variable 2 too, W
abbrev pub over_nodes : Flat_goal → Verdict
over_nodes g =
    arrange (of_nodes chosen) source (modes_declared system) (type_of system copies) 3
    copies.head copies.first copies.last g

abbrev pub both : Flat_goal → Flat_goal → Flat_goal
both g h = F.And (flat_then g (flat_then h no_flat))

abbrev pub fails_always : Flat_goal
fails_always = F.Or no_flat

-- `W = X, Y = W`, which is in order as it is and when it is turned
abbrev pub by_another : Node
by_another =
    ground_after (1 ∷ 2 ∷ [])
    (Conj (nodes (ground_after (2 ∷ []) (Assign 2 0) ∷ ground_after (1 ∷ []) (Assign 1 2) ∷ [])))

-- What a conjunction changes is in order of variables. After a disjunction, W is free again. Where
-- the end is unreachable a goal changes nothing, though a part of it does, and nor does a negation.
abbrev pub ChangesAreKept : Type 0
ChangesAreKept =
    (over_nodes (F.Same 1 0) ≡ in_order (ground_after (1 ∷ []) (Assign 1 0)))
    × (over_nodes (both (F.Same 1 2) (F.Same 2 0)) ≡ in_order by_another)
    × (over_nodes
    (F.Or (flat_then (both (F.Same 2 0) (F.Same 1 2)) (flat_then (F.Same 1 0) no_flat)))
    ≡ in_order
    (ground_after (1 ∷ [])
    (Disj (nodes (by_another ∷ ground_after (1 ∷ []) (Assign 1 0) ∷ [])))))
    × (over_nodes (both (F.Same 1 0) fails_always)
    ≡ in_order
    (ground_after []
    (Conj
    (nodes (ground_after (1 ∷ []) (Assign 1 0) ∷ ground_after [] (Disj (nodes [])) ∷ [])))))
    × (over_nodes (both (F.Not (F.Exists (2 ∷ []) (F.Same 2 0))) (F.Same 1 0))
    ≡ in_order
    (ground_after (1 ∷ [])
    (Conj
    (nodes
    (ground_after []
    (Not
    (ground_after (2 ∷ []) (Exists (2 ∷ []) (ground_after (2 ∷ []) (Assign 2 0)))))
    ∷ ground_after (1 ∷ []) (Assign 1 0) ∷ [])))))
    × (over_nodes (F.Same 1 0) ≢ in_order (unmarked (Assign 1 0)))

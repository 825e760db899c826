-- An order that is computed has no switch.
use Rattle.std.proofs.Common.{ℕ, List, [], ◌∷◌, Option}
use Rattle.mc_program.specs.Programs.{TypeTerm}
use Rattle.mc_model.specs.Flat.{Flat_goal, Flat_goals}
use Rattle.mc_model.specs.Scheduled.{Node, Nodes, no_nodes, node_then}
use Rattle.mc_model.specs.Good.{System}
use Rattle.mc_accepted.specs.Arranged.{test_nodes, nodes_before}
use Rattle.mc_accepted.specs.Ordered.{Insts}
use Rattle.mc_accepted.specs.code.Standing as R
use Rattle.mc_accepted.specs.code.Standing.{fresh_tests, Standing, StandingAll, StandingAny}
use Rattle.laws_accepted.specs.KeptLaws.{NoSwitch, NoSwitchAmong, OrdersHaveNoSwitch}

no_tests : (ts : List (ℕ × ℕ)) → NoSwitchAmong (test_nodes ts)
no_tests [] = tt
no_tests (t ∷ ts) = (tt, no_tests ts)

none_before : (ns ms : Nodes) → NoSwitchAmong ns → NoSwitchAmong ms → NoSwitchAmong (nodes_before ns ms)
none_before no_nodes ms h k = k
none_before (node_then n ns) ms h k = (h.0, none_before ns ms h.1 k)

module _ (S : System) (T : ℕ → TypeTerm) where
  mutual
    none_in : {O : List ℕ} {n : ℕ} {b : Insts} {g : Flat_goal} {x : Node} {o : Option Insts} {m : ℕ} → Standing S T O n b g x o m → NoSwitch x
    none_in (R.assign bx by nd) = tt
    none_in (R.assign_back bx by nd) = tt
    none_in (R.test bx by st nd) = tt
    none_in (R.build bx ab ns nd over) = tt
    none_in (R.take bx nd a over) = tt
    none_in (R.take_never bx nd never) = tt
    none_in (R.put bx) = tt
    none_in (R.test_constant bx nd a) = tt
    none_in (R.test_never bx nd never) = tt
    none_in (R.call lt u nd a) = tt
    none_in (R.apply e u nd i a) = tt
    none_in (R.apply_freshly {n = n} {b = b} {op = op} {xs = xs} f) = (tt, no_tests (fresh_tests S T n b op xs))
    none_in (R.conj h) = none_in_all h
    none_in (R.disj h j) = none_in_any h
    none_in (R.ite g none h k j) = (none_in g, none_in h, none_in k)
    none_in (R.ite_never g k j) = (none_in g, tt, none_in k)
    none_in (R.neg g none) = none_in g
    none_in (R.some g) = none_in g

    none_in_all : {O : List ℕ} {n : ℕ} {b : Insts} {gs : Flat_goals} {ns : Nodes} {o : Option Insts} {m : ℕ} → StandingAll S T O n b gs ns o m → NoSwitchAmong ns
    none_in_all R.done = tt
    none_in_all (R.dropped p h) = (none_in h, tt)
    none_in_all (R.next p h r) = (none_in h, none_in_all r)
    none_in_all (R.implied_outputs {n = n} {b = b} {c = c} {op = op} {xs = xs} {ns = ns} p f r) = none_before (R.fresh_nodes S T n b c op xs) ns (tt, no_tests (fresh_tests S T n b op xs)) (none_in_all r)

    none_in_any : {O : List ℕ} {n : ℕ} {b : Insts} {gs : Flat_goals} {ns : Nodes} {os : List (Option Insts)} {m : ℕ} → StandingAny S T O n b gs ns os m → NoSwitchAmong ns
    none_in_any R.no_other = tt
    none_in_any (R.either h r) = (none_in h, none_in_any r)

pub orders_have_no_switch : OrdersHaveNoSwitch
orders_have_no_switch S T O n b g x o m h = none_in S T h

-- Laws of accepted procedures: constructors that types list, committed procedures, switches.
use Rattle.std.proofs.Common.{◌≡◌, ℕ, List, [], ◌∷◌, map, Option, Some, None, Bool, true, false, cond, nat_eq, ◌&&◌, refl}
use Rattle.mc_program.specs.Programs.{TypeTerm}
use Rattle.mc_model.specs.Lists.{In, is_in}
use Rattle.mc_model.specs.Types.{type_at, instance_of, AllOfTypes}
use Rattle.mc_model.specs.Flat.{Flat_goal, Flat_goals}
use Rattle.mc_model.specs.Scheduled.{Node, node, Scheduled, Conj, Disj, Switch, Ite, Not, Exists, Assign, Test, Build, Take, Const, TestConst, Call, Apply, Nodes, no_nodes, node_then, Arms}
use Rattle.mc_model.specs.Good.{System}
use Rattle.mc_accepted.specs.Ordered.{Insts, IsEmpty, tested_by, Ordered, OrderedNode, OrderedAll, OrderedAny, OrderedArms, assign, assign_back, test, build, take, take_never, put, test_constant, test_never, call, apply, implied_alone, conj, disj, switch, ite, ite_never, neg, some, kept, done, dropped, next, implied_outputs, no_other, either, no_arm, arm}
use Rattle.laws_language.specs.AcceptedLaws.{ValuesAreListed, CommittedMayAnswer, SwitchesOpen, OpenInside, AllSwitchesOpen, ArmsOpen, AcceptedSwitchesOpen}
use Rattle.laws_language.proofs.FlatWhole.{is_in_true}
use Rattle.laws_language.proofs.Inclusions.{no_types}

pub values_are_listed : ValuesAreListed
values_are_listed P s u vs ts h = by_tests (nat_eq (P.symbols s).of_type u) (is_in s (P.symbols_of u)) refl h
  where
    by_tests : (a b : Bool) → is_in s (P.symbols_of u) ≡ b → AllOfTypes P vs (cond (a && b) (Some (map (instance_of (type_at ts)) (P.symbols s).args)) None) → In s (P.symbols_of u)
    by_tests true true e o = is_in_true s (P.symbols_of u) e
    by_tests true false e o = absurd (no_types P vs o)
    by_tests false b e o = absurd (no_types P vs o)

pub committed_may_answer : CommittedMayAnswer
committed_may_answer S p a e = a.declared e

tests_open : (tests : List (ℕ × ℕ)) (ns : Nodes) → AllSwitchesOpen ns → AllSwitchesOpen (tested_by tests ns)
tests_open [] ns h = h
tests_open (pair ∷ tests) ns h = (tt, tests_open tests ns h)

-- an empty node has no switch
empty_opens : (n : Node) → IsEmpty n → SwitchesOpen n
empty_opens (node (Conj no_nodes) changes det pruned) e = tt
empty_opens (node (Conj (node_then m ns)) changes det pruned) e = absurd e
empty_opens (node (Disj ns) changes det pruned) e = absurd e
empty_opens (node (Switch x arms) changes det pruned) e = absurd e
empty_opens (node (Ite vs c t k) changes det pruned) e = absurd e
empty_opens (node (Not n) changes det pruned) e = absurd e
empty_opens (node (Exists vs n) changes det pruned) e = absurd e
empty_opens (node (Assign x y) changes det pruned) e = absurd e
empty_opens (node (Test x y) changes det pruned) e = absurd e
empty_opens (node (Build x s ys) changes det pruned) e = absurd e
empty_opens (node (Take x s ys) changes det pruned) e = absurd e
empty_opens (node (Const x v) changes det pruned) e = absurd e
empty_opens (node (TestConst x v) changes det pruned) e = absurd e
empty_opens (node (Call p xs implied last) changes det pruned) e = absurd e
empty_opens (node (Apply op xs ys) changes det pruned) e = absurd e

module _ (S : System) (T : ℕ → TypeTerm) where
  mutual
    inside_opens : (O Q : List ℕ) (b : Insts) (g : Flat_goal) (s : Scheduled) (o : Option Insts) → Ordered S T O Q b g s o → OpenInside s
    inside_opens O Q b g s o (assign bx by nd) = tt
    inside_opens O Q b g s o (assign_back bx by nd) = tt
    inside_opens O Q b g s o (test bx by st nd) = tt
    inside_opens O Q b g s o (build bx bys ns nd over) = tt
    inside_opens O Q b g s o (take bx nd a over) = tt
    inside_opens O Q b g s o (take_never bx nd never) = tt
    inside_opens O Q b g s o (put bx) = tt
    inside_opens O Q b g s o (test_constant bx nd a) = tt
    inside_opens O Q b g s o (test_never bx nd never) = tt
    inside_opens O Q b g s o (call lt us nd af) = tt
    inside_opens O Q b g s o (apply e us nd i af) = tt
    inside_opens O Q b g s o (implied_alone r) = all_open _ _ _ _ _ _ r
    inside_opens O Q b g s o (conj r) = all_open _ _ _ _ _ _ r
    inside_opens O Q b g s o (disj r j) = any_open _ _ _ _ _ _ r
    inside_opens O Q b g s o (switch bx i r j) = arms_open _ _ _ _ _ _ _ r
    inside_opens O Q b g s o (ite out c none t e j) = (node_opens _ _ _ _ _ _ c, node_opens _ _ _ _ _ _ t, node_opens _ _ _ _ _ _ e)
    inside_opens O Q b g s o (ite_never {t = t} out c empty e j) = (node_opens _ _ _ _ _ _ c, empty_opens t empty, node_opens _ _ _ _ _ _ e)
    inside_opens O Q b g s o (neg n none) = node_opens _ _ _ _ _ _ n
    inside_opens O Q b g s o (some out n) = node_opens _ _ _ _ _ _ n

    node_opens : (O Q : List ℕ) (b : Insts) (g : Flat_goal) (n : Node) (o : Option Insts) → OrderedNode S T O Q b g n o → SwitchesOpen n
    node_opens O Q b g n o (kept r k) = inside_opens _ _ _ _ _ _ r

    all_open : (O Q : List ℕ) (b : Insts) (gs : Flat_goals) (ns : Nodes) (o : Option Insts) → OrderedAll S T O Q b gs ns o → AllSwitchesOpen ns
    all_open O Q b gs ns o done = tt
    all_open O Q b gs ns o (dropped p n) = (node_opens _ _ _ _ _ _ n, tt)
    all_open O Q b gs ns o (next p n r) = (node_opens _ _ _ _ _ _ n, all_open _ _ _ _ _ _ r)
    all_open O Q b gs ns o (implied_outputs tests p e m f nd d a y u i af kc r) = (tt, tests_open tests _ (all_open _ _ _ _ _ _ r))

    any_open : (O Q : List ℕ) (b : Insts) (gs : Flat_goals) (ns : Nodes) (os : List (Option Insts)) → OrderedAny S T O Q b gs ns os → AllSwitchesOpen ns
    any_open O Q b gs ns os no_other = tt
    any_open O Q b gs ns os (either n r) = (node_opens _ _ _ _ _ _ n, any_open _ _ _ _ _ _ r)

    arms_open : (O Q : List ℕ) (b : Insts) (x : ℕ) (gs : Flat_goals) (arms : Arms) (os : List (Option Insts)) → OrderedArms S T O Q b x gs arms os → ArmsOpen x arms
    arms_open O Q b x gs arms os no_arm = tt
    arms_open O Q b x gs arms os (arm parts label opens away n r) = (opens, node_opens _ _ _ _ _ _ n, arms_open _ _ _ _ _ _ _ r)

pub accepted_switches_open : AcceptedSwitchesOpen
accepted_switches_open S p a = node_opens S _ _ _ _ _ _ _ a.ordered

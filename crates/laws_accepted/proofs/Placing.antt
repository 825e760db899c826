-- What the computed faults tell of the relations.
use Rattle.std.proofs.Common.{◌≡◌, ◌↔◌, ℕ, ◌≤◌, List, [], ◌∷◌, Option, Some, None, Bool, true, false, not, ◌&&◌, ◌||◌, if◌then◌else◌, refl, arith}
use Rattle.std.specs.Option.{option_or}
use Rattle.mc_program.specs.Programs.{TypeTerm}
use Rattle.mc_source.specs.Determinism.{Determinism, rank, is_many}
use Rattle.mc_source.specs.declared.det.Most.{Most}
use Rattle.mc_source.specs.declared.det.Most.TheVariants.{Zero, One, Many}
use Rattle.mc_model.specs.Good.{System}
use Rattle.mc_model.specs.Scheduled.{Node, node, Scheduled, Conj, Disj, Switch, Ite, Not, Exists, Assign, Test, Build, Take, Const, TestConst, Call, Apply, Nodes, no_nodes, node_then, Arms, no_arms, arm_then}
use Rattle.mc_accepted.specs.Ordered.{Insts}
use Rattle.mc_accepted.specs.Determined.{Known, learned, insts_after, determined, none_fails, no_disjunct_fails, is_io, is_io_in, one_is_io, Placed, PlacedIn, AllPlaced, EachPlaced, ArmsPlaced, IoHere, IoPlaced, IoPlacedIn, IoAllPlaced, IoEachPlaced, IoArmsPlaced}
use Rattle.mc_accepted.specs.DeterminismFaults.{is_empty, is_wrong_io, condition_first, first_misplaced, first_misplaced_in, misplaced_of_all, misplaced_of_each, misplaced_of_arms, misplaces_io, misplaces_io_in, all_misplace_io, each_misplaces_io, arms_misplace_io}
use Rattle.laws_accepted.specs.FaultLaws.{MisplacedTells, MisplacesIoTells}

both_none : {A B : Type 0} (o u : Option ℕ) → ((o ≡ None) ↔ A) → ((u ≡ None) ↔ B) → (option_or o u ≡ None) ↔ (A × B)
both_none None u h k = ((λ e. (h.0 refl, k.0 e)), λ p. k.1 p.1)
both_none (Some x) u h k = ((λ e. cc), λ p. h.1 p.0)

all_three : {A B C : Type 0} (o u w : Option ℕ) → ((o ≡ None) ↔ A) → ((u ≡ None) ↔ B) → ((w ≡ None) ↔ C) → (option_or o (option_or u w) ≡ None) ↔ (A × B × C)
all_three None None w h k l = ((λ e. (h.0 refl, k.0 refl, l.0 e)), λ p. l.1 p.2)
all_three None (Some x) w h k l = ((λ e. cc), λ p. k.1 p.1)
all_three (Some x) u w h k l = ((λ e. cc), λ p. h.1 p.0)

call_told : (committed first : Bool) (implied : List ℕ) (p : ℕ) → ((if committed && not (first && is_empty implied) then Some p else None) ≡ None) ↔ (committed ≡ true → (first ≡ true) × (implied ≡ []))
call_told false first implied p = ((λ e c. cc), λ h. refl)
call_told true true [] p = ((λ e c. (refl, refl)), λ h. refl)
call_told true true (k ∷ ks) p = ((λ e c. cc), λ h. let q = h refl in cc)
call_told true false implied p = ((λ e c. cc), λ h. let q = h refl in cc)

module _ (S : System) (T : ℕ → TypeTerm) where
  mutual
    told : (b : Insts) (known : Known) (first : Bool) (n : Node) → (first_misplaced S T b known first n ≡ None) ↔ Placed S T b known first n
    told b known first (node s changes d m) = told_in b known (first || m) s

    told_in : (b : Insts) (known : Known) (first : Bool) (s : Scheduled) → (first_misplaced_in S T b known first s ≡ None) ↔ PlacedIn S T b known first s
    told_in b known first (Conj ns) = told_all b known first ns
    told_in b known first (Disj ns) = told_each b known first ns
    told_in b known first (Switch x arms) = told_arms b known first x arms
    told_in b known first (Ite vs c t e) =
        all_three (first_misplaced S T b known (condition_first S T b known first c t) c) (first_misplaced S T (insts_after c b) known first t) (first_misplaced S T b known first e)
        (told b known (condition_first S T b known first c t) c) (told (insts_after c b) known first t) (told b known first e)
    told_in b known first (Not n) = told b known true n
    told_in b known first (Exists vs n) = told b known first n
    told_in b known first (Assign x y) = ((λ e. tt), λ u. refl)
    told_in b known first (Test x y) = ((λ e. tt), λ u. refl)
    told_in b known first (Build x s ys) = ((λ e. tt), λ u. refl)
    told_in b known first (Take x s ys) = ((λ e. tt), λ u. refl)
    told_in b known first (Const x v) = ((λ e. tt), λ u. refl)
    told_in b known first (TestConst x v) = ((λ e. tt), λ u. refl)
    told_in b known first (Call p xs implied last) = call_told (S.procs p).det.committed first implied p
    told_in b known first (Apply op xs ys) = ((λ e. tt), λ u. refl)

    told_all : (b : Insts) (known : Known) (first : Bool) (ns : Nodes) → (misplaced_of_all S T b known first ns ≡ None) ↔ AllPlaced S T b known first ns
    told_all b known first no_nodes = ((λ e. tt), λ u. refl)
    told_all b known first (node_then n ns) =
        both_none (first_misplaced S T b known (first && none_fails S T (insts_after n b) known ns) n) (misplaced_of_all S T (insts_after n b) known first ns)
        (told b known (first && none_fails S T (insts_after n b) known ns) n) (told_all (insts_after n b) known first ns)

    told_each : (b : Insts) (known : Known) (first : Bool) (ns : Nodes) → (misplaced_of_each S T b known first ns ≡ None) ↔ EachPlaced S T b known first ns
    told_each b known first no_nodes = ((λ e. tt), λ u. refl)
    told_each b known first (node_then n ns) =
        both_none (first_misplaced S T b known first n) (misplaced_of_each S T b known first ns)
        (told b known first n) (told_each b known first ns)

    told_arms : (b : Insts) (known : Known) (first : Bool) (x : ℕ) (arms : Arms) → (misplaced_of_arms S T b known first x arms ≡ None) ↔ ArmsPlaced S T b known first x arms
    told_arms b known first x no_arms = ((λ e. tt), λ u. refl)
    told_arms b known first x (arm_then l n arms) =
        both_none (first_misplaced S T b (learned x l known) first n) (misplaced_of_arms S T b known first x arms)
        (told b (learned x l known) first n) (told_arms b known first x arms)

pub misplaced_tells : MisplacedTells
misplaced_tells S T b known first n = told S T b known first n

neither : {A B : Type 0} (o u : Bool) → ((o ≡ false) ↔ A) → ((u ≡ false) ↔ B) → ((o || u) ≡ false) ↔ (A × B)
neither false u h k = ((λ e. (h.0 refl, k.0 e)), λ p. k.1 p.1)
neither true u h k = ((λ e. cc), λ p. h.1 p.0)

none_of_three : {A B C : Type 0} (o u w : Bool) → ((o ≡ false) ↔ A) → ((u ≡ false) ↔ B) → ((w ≡ false) ↔ C) → ((o || (u || w)) ≡ false) ↔ (A × B × C)
none_of_three false false w h k l = ((λ e. (h.0 refl, k.0 refl, l.0 e)), λ p. l.1 p.2)
none_of_three false true w h k l = ((λ e. cc), λ p. k.1 p.1)
none_of_three true u w h k l = ((λ e. cc), λ p. h.1 p.0)

same_fact : (o : Bool) → (o ≡ false) ↔ (o ≡ false)
same_fact o = ((λ e. e), λ e. e)

once_told : (first : Bool) (m : Most) → ((not first && is_many m) ≡ false) ↔ (first ≡ false → rank m ≤ 1)
once_told true m = ((λ e f. cc), λ h. refl)
once_told false Zero = ((λ e f. omega arith), λ h. refl)
once_told false One = ((λ e f. omega arith), λ h. refl)
once_told false Many = ((λ e f. cc), λ h. absurd (omega (arith, h refl)))

disjuncts_told : (first io none : Bool) → ((first && (io && not none)) ≡ false) ↔ (first ≡ true → io ≡ true → none ≡ true)
disjuncts_told false io none = ((λ e f g. cc), λ h. refl)
disjuncts_told true false none = ((λ e f g. cc), λ h. refl)
disjuncts_told true true true = ((λ e f g. refl), λ h. refl)
disjuncts_told true true false = ((λ e f g. cc), λ h. let q = h refl refl in cc)

module _ (S : System) (T : ℕ → TypeTerm) where
  here_told : (io first m : Bool) (d : Determinism) → (is_wrong_io io first m d ≡ false) ↔ IoHere S T io first m d
  here_told false first m d = ((λ e. tt), λ u. refl)
  here_told true first m d =
      none_of_three m d.can_fail (not first && is_many d.most) (same_fact m) (same_fact d.can_fail) (once_told first d.most)

  mutual
    io_told : (b : Insts) (known : Known) (first : Bool) (n : Node) → (misplaces_io S T b known first n ≡ false) ↔ IoPlaced S T b known first n
    io_told b known first (node s changes d m) =
        neither (is_wrong_io (is_io_in S T s) first m (determined S T b known (node s changes d m))) (misplaces_io_in S T b known (first || m) s)
        (here_told (is_io_in S T s) first m (determined S T b known (node s changes d m))) (io_told_in b known (first || m) s)

    io_told_in : (b : Insts) (known : Known) (first : Bool) (s : Scheduled) → (misplaces_io_in S T b known first s ≡ false) ↔ IoPlacedIn S T b known first s
    io_told_in b known first (Conj ns) = io_told_all b known first ns
    io_told_in b known first (Disj ns) =
        neither (first && (one_is_io S T ns && not (no_disjunct_fails S T b known ns))) (each_misplaces_io S T b known first ns)
        (disjuncts_told first (one_is_io S T ns) (no_disjunct_fails S T b known ns)) (io_told_each b known first ns)
    io_told_in b known first (Switch x arms) = io_told_arms b known first x arms
    io_told_in b known first (Ite vs c t e) =
        none_of_three (is_io S T c) (misplaces_io S T (insts_after c b) known first t) (misplaces_io S T b known first e)
        (same_fact (is_io S T c)) (io_told (insts_after c b) known first t) (io_told b known first e)
    io_told_in b known first (Not n) = same_fact (is_io S T n)
    io_told_in b known first (Exists vs n) = io_told b known first n
    io_told_in b known first (Assign x y) = ((λ e. tt), λ u. refl)
    io_told_in b known first (Test x y) = ((λ e. tt), λ u. refl)
    io_told_in b known first (Build x s ys) = ((λ e. tt), λ u. refl)
    io_told_in b known first (Take x s ys) = ((λ e. tt), λ u. refl)
    io_told_in b known first (Const x v) = ((λ e. tt), λ u. refl)
    io_told_in b known first (TestConst x v) = ((λ e. tt), λ u. refl)
    io_told_in b known first (Call p xs implied last) = ((λ e. tt), λ u. refl)
    io_told_in b known first (Apply op xs ys) = ((λ e. tt), λ u. refl)

    io_told_all : (b : Insts) (known : Known) (first : Bool) (ns : Nodes) → (all_misplace_io S T b known first ns ≡ false) ↔ IoAllPlaced S T b known first ns
    io_told_all b known first no_nodes = ((λ e. tt), λ u. refl)
    io_told_all b known first (node_then n ns) =
        neither (misplaces_io S T b known (first && none_fails S T (insts_after n b) known ns) n) (all_misplace_io S T (insts_after n b) known first ns)
        (io_told b known (first && none_fails S T (insts_after n b) known ns) n) (io_told_all (insts_after n b) known first ns)

    io_told_each : (b : Insts) (known : Known) (first : Bool) (ns : Nodes) → (each_misplaces_io S T b known first ns ≡ false) ↔ IoEachPlaced S T b known first ns
    io_told_each b known first no_nodes = ((λ e. tt), λ u. refl)
    io_told_each b known first (node_then n ns) =
        neither (misplaces_io S T b known first n) (each_misplaces_io S T b known first ns)
        (io_told b known first n) (io_told_each b known first ns)

    io_told_arms : (b : Insts) (known : Known) (first : Bool) (x : ℕ) (arms : Arms) → (arms_misplace_io S T b known first x arms ≡ false) ↔ IoArmsPlaced S T b known first x arms
    io_told_arms b known first x no_arms = ((λ e. tt), λ u. refl)
    io_told_arms b known first x (arm_then l n arms) =
        neither (misplaces_io S T b (learned x l known) first n) (arms_misplace_io S T b known first x arms)
        (io_told b (learned x l known) first n) (io_told_arms b known first x arms)

pub misplaces_io_tells : MisplacesIoTells
misplaces_io_tells S T b known first n = io_told S T b known first n

-- What is kept of arms of several disjuncts, group by group: where it merges the ends of each group
-- that shares an arm, the arms of the switch form merge their disjuncts. (Mercury Language Reference
-- Manual: Determinism, switches; Modes, insts.)
use Rattle.std.specs.Prelude.{◌≡◌, ◌⊎◌, ℕ, ◌<◌, ◌≤◌, zero, suc, map, true, ◌||◌, List, [], ◌∷◌, Option, Some, None}
use Rattle.mc_program.specs.Programs.{TypeTerm}
use Rattle.mc_model.specs.Scheduled.{Label, Node, node, Scheduled, Conj, Disj, Switch, Ite, Not, Exists, Assign, Test, Build, Take, Const, TestConst, Call, Apply, Nodes, no_nodes, node_then}
use Rattle.mc_model.specs.Flat.{Flat_goal, variables_of}
use Rattle.mc_model.specs.Insts.{free}
use Rattle.mc_model.specs.Stream.{is_bound}
use Rattle.mc_model.specs.Good.{System}
use Rattle.mc_accepted.specs.Determined.{insts_after}
use Rattle.mc_accepted.specs.Fits.{FitsInsts}
use Rattle.mc_accepted.specs.Inclusion.{AllFree, NoneIs}
use Rattle.mc_accepted.specs.MergedArms.{never_ends, ends, ChangesMerge, ArmsMerge}
use Rattle.mc_accepted.specs.Ordered.{Insts}
use Rattle.mc_accepted.specs.Switched.{Disjunct, Kept, goals_of, labels_of, openings_of, opens_with, those, chosen, formed, disjuncts}
use Rattle.mc_accepted.specs.Tidy.{EachIsTidy}
use Rattle.mc_accepted.specs.code.Standing.{Standing}
use Rattle.laws_order.specs.OrderLaws.{Below}
use Rattle.laws_order.specs.Tidying.{TidyPoint, ChangesTidy}
use Rattle.laws_accepted.specs.FormLaws.{BoundAreOutside}

-- what is said of a group of disjuncts, with the insts before and after the whole disjunction
abbrev pub OfGroup : Type 1
OfGroup = (before after : Insts) → List Disjunct → Type 0

module _ (S : System) (T : ℕ → TypeTerm) (kept : (before after : Insts) → Kept) (Holds : OfGroup) where
  -- one disjunct is an arm as it is; several share one, and are looked at again
  abbrev pub OfArm : (again : List Disjunct → Type 0) → (before after : Insts) → List Disjunct → Type 0
  OfArm again b c (d ∷ []) = Unit {0}
  OfArm again b c ds = Holds b c ds × again ds

  abbrev pub OfArms : (List Disjunct → Type 0) → ℕ → List Disjunct → List Label → Type 0
  OfArms arm x ds [] = Unit {0}
  OfArms arm x ds (l ∷ ls) = arm (those (opens_with x l) ds) × OfArms arm x ds ls

  abbrev pub OfChosen :
      (List ℕ → List Disjunct → Type 0) → (out : List ℕ) → List Disjunct → Option ℕ → Type 0
  OfChosen arm out ds None = Unit {0}
  OfChosen arm out ds (Some x) = OfArms (arm (x ∷ out)) x ds (labels_of x ds)

  -- it holds of each group that shares an arm of these disjuncts' switch form
  abbrev pub OfGroups :
      (variables : ℕ) → (before after : Insts) → (out : List ℕ) → List Disjunct → Type 0
  OfGroups zero b c out ds = Unit {0}
  OfGroups (suc k) b c out ds =
      OfChosen (λ out. OfArm (OfGroups k b c out) b c) out ds (chosen S T out b ds)

  -- and of each group of a goal
  abbrev mutual
    pub OfEachGroup : Insts → Node → Type 0
    OfEachGroup b (node s changes d m) = OfEachIn b (insts_after (node s changes d m) b) s

    pub OfEachIn : (before after : Insts) → Scheduled → Type 0
    OfEachIn b c (Conj ns) = OfEachInAll b ns
    OfEachIn b c (Disj ns) =
        OfGroups (openings_of (disjuncts S T kept b ns)) b c [] (disjuncts S T kept b ns)
        × OfEachInEach b ns
    OfEachIn b c (Switch x arms) = Unit {0}
    OfEachIn b c (Ite vs n t e) =
        OfEachGroup b n × OfEachGroup (insts_after n b) t × OfEachGroup b e
    OfEachIn b c (Not n) = OfEachGroup b n
    OfEachIn b c (Exists vs n) = OfEachGroup b n
    OfEachIn b c (Assign x y) = Unit {0}
    OfEachIn b c (Test x y) = Unit {0}
    OfEachIn b c (Build x s ys) = Unit {0}
    OfEachIn b c (Take x s ys) = Unit {0}
    OfEachIn b c (Const x v) = Unit {0}
    OfEachIn b c (TestConst x v) = Unit {0}
    OfEachIn b c (Call p xs implied last) = Unit {0}
    OfEachIn b c (Apply op xs ys) = Unit {0}

    pub OfEachInAll : Insts → Nodes → Type 0
    OfEachInAll b no_nodes = Unit {0}
    OfEachInAll b (node_then n ns) = OfEachGroup b n × OfEachInAll (insts_after n b) ns

    pub OfEachInEach : Insts → Nodes → Type 0
    OfEachInEach b no_nodes = Unit {0}
    OfEachInEach b (node_then n ns) = OfEachGroup b n × OfEachInEach b ns

-- what is kept of a group merges the ends of its disjuncts
abbrev pub merges_group :
    System → (ℕ → TypeTerm) → ((before after : Insts) → Kept) → OfGroup
merges_group S T kept b c ds = ChangesMerge S T b c (ends S T b (goals_of ds)) (kept b c ds)

-- At the ends of a group's disjuncts each variable that is bound before or after the whole is free at
-- all or at none, and its insts are tidy. It is one of so many variables.
abbrev pub even_group : System → (ℕ → TypeTerm) → (variables : ℕ) → OfGroup
even_group S T top b c ds =
    (v : ℕ)
    → (is_bound (b v) || is_bound (c v)) ≡ true
    → (v < top)
    × (AllFree S.insts (map (λ (e : Insts). e v) (ends S T b (goals_of ds)))
    ⊎ NoneIs free S.insts (map (λ (e : Insts). e v) (ends S T b (goals_of ds))))
    × EachIsTidy S.world.source S.insts (map (λ (e : Insts). e v) (ends S T b (goals_of ds))) (T v)

-- no part of the goal is a switch, as in an order that is computed
abbrev mutual
  pub NoSwitch : Node → Type 0
  NoSwitch (node s changes d m) = NoSwitchIn s

  pub NoSwitchIn : Scheduled → Type 0
  NoSwitchIn (Conj ns) = NoSwitchAmong ns
  NoSwitchIn (Disj ns) = NoSwitchAmong ns
  NoSwitchIn (Switch x arms) = ⊥
  NoSwitchIn (Ite vs n t e) = NoSwitch n × NoSwitch t × NoSwitch e
  NoSwitchIn (Not n) = NoSwitch n
  NoSwitchIn (Exists vs n) = NoSwitch n
  NoSwitchIn (Assign x y) = Unit {0}
  NoSwitchIn (Test x y) = Unit {0}
  NoSwitchIn (Build x s ys) = Unit {0}
  NoSwitchIn (Take x s ys) = Unit {0}
  NoSwitchIn (Const x v) = Unit {0}
  NoSwitchIn (TestConst x v) = Unit {0}
  NoSwitchIn (Call p xs implied last) = Unit {0}
  NoSwitchIn (Apply op xs ys) = Unit {0}

  pub NoSwitchAmong : Nodes → Type 0
  NoSwitchAmong no_nodes = Unit {0}
  NoSwitchAmong (node_then n ns) = NoSwitch n × NoSwitchAmong ns

-- Where what is kept of each group that shares an arm merges the ends of its disjuncts, the arms of
-- the switch form merge.
abbrev pub KeptMergeArms : Type 0
KeptMergeArms =
    (S : System) (T : ℕ → TypeTerm) (kept : (before after : Insts) → Kept) (b : Insts) (n : Node)
    → NoSwitch n → OfEachGroup S T kept (merges_group S T kept) b n
    → ArmsMerge S T b (formed S T kept b n)

-- Where one goal is the switch form of another for what is kept in two ways, the same is kept in both
-- of each group that shares an arm.
abbrev pub FormsTellKept : Type 0
FormsTellKept =
    (S : System) (T : ℕ → TypeTerm) (kept also : (before after : Insts) → Kept) (b : Insts) (n : Node)
    → formed S T kept b n ≡ formed S T also b n
    → OfEachGroup S T kept (λ b c ds. kept b c ds ≡ also b c ds) b n

-- an order that is computed has no switch
abbrev pub OrdersHaveNoSwitch : Type 0
OrdersHaveNoSwitch =
    (S : System) (T : ℕ → TypeTerm) (O : List ℕ) (n : ℕ) (b : Insts) (g : Flat_goal) (x : Node)
    (o : Option Insts) (m : ℕ) → Standing S T O n b g x o m → NoSwitch x

-- the point after a goal's switch form is reachable where that after the goal is
abbrev pub FormsEndAlike : Type 0
FormsEndAlike =
    (S : System) (T : ℕ → TypeTerm) (kept : (before after : Insts) → Kept) (b : Insts) (n : Node)
    → never_ends S T b (formed S T kept b n) ≡ never_ends S T b n

-- So it is in an order that is computed, from tidy insts, where what is bound before it occurs outside
-- it or not in it.
abbrev pub GroupsAreEven : Type 0
GroupsAreEven =
    (S : System) (T : ℕ → TypeTerm) (kept : (before after : Insts) → Kept) (O : List ℕ) (n : ℕ)
    (b : Insts) (g : Flat_goal) (x : Node) (o : Option Insts) (m top : ℕ) → FitsInsts S.insts
    → Standing S T O n b g x o m → m ≤ top → Below n (variables_of g) → ((y : ℕ) → n ≤ y → b y ≡ 0)
    → BoundAreOutside O b (variables_of g) → ChangesTidy S T x → TidyPoint S T b
    → OfEachGroup S T kept (even_group S T top) b x

-- The kept insts of a switch's arms of several disjuncts: those of the disjuncts, merged. (Mercury
-- Language Reference Manual: Modes, insts; Determinism, switches.)
use Rattle.std.specs.Prelude.{◌≡◌, ℕ, List, [], ◌∷◌, ◌++◌, map, Bool, true, false, not, ◌&&◌, ◌||◌, if◌then◌else◌}
use Rattle.mc_program.specs.Programs.{TypeTerm}
use Rattle.mc_source.specs.Determinism.{is_zero}
use Rattle.mc_model.specs.Insts.{InstNode, free, ground, unique, dead, bound}
use Rattle.mc_model.specs.Scheduled.{Node, node, Scheduled, Conj, Disj, Switch, Ite, Not, Exists, Assign, Test, Build, Take, Const, TestConst, Call, Apply, Nodes, no_nodes, node_then, Arms, no_arms, arm_then}
use Rattle.mc_model.specs.Stream.{is_bound}
use Rattle.mc_model.specs.Good.{System}
use Rattle.mc_accepted.specs.Inclusion.{Merged}
use Rattle.mc_accepted.specs.Ordered.{Insts, change_at, RisesFrom, EachChanges, builtin_most}
use Rattle.mc_accepted.specs.Determined.{insts_after, excludes}

-- whether a node allows the constants of the builtin types
abbrev pub takes_constants : InstNode → Bool
takes_constants free = false
takes_constants ground = true
takes_constants unique = true
takes_constants dead = true
takes_constants (bound ls) = false

-- a variable has this inst after each of the branches
abbrev pub EachGives : (x i : ℕ) → List Insts → Type 0
EachGives x i [] = Unit {0}
EachGives x i (e ∷ ends) = (e x ≡ i) × EachGives x i ends

module _ (S : System) (T : ℕ → TypeTerm) where
  -- whether the point after a goal is unreachable: of a deconstruction that the inst excludes, of a
  -- call that is declared to have no answer, and of goals whose parts leave no way
  abbrev mutual
    pub never_ends : Insts → Node → Bool
    never_ends b (node s changes d m) = never_ends_in b s

    pub never_ends_in : Insts → Scheduled → Bool
    never_ends_in b (Conj ns) = one_never_ends b ns
    never_ends_in b (Disj ns) = each_never_ends b ns
    never_ends_in b (Switch x arms) = each_arm_never_ends b arms
    never_ends_in b (Ite vs c t e) =
        (never_ends b c || never_ends (insts_after c b) t) && never_ends b e
    never_ends_in b (Not n) = false
    never_ends_in b (Exists vs n) = never_ends b n
    never_ends_in b (Assign x y) = false
    never_ends_in b (Test x y) = false
    never_ends_in b (Build x s ys) = false
    never_ends_in b (Take x s ys) = excludes S T (b x) s
    never_ends_in b (Const x v) = false
    never_ends_in b (TestConst x v) = not (takes_constants (S.insts (b x)))
    never_ends_in b (Call p xs implied last) = is_zero (S.procs p).det.most
    never_ends_in b (Apply op xs ys) = is_zero (builtin_most op)

    pub one_never_ends : Insts → Nodes → Bool
    one_never_ends b no_nodes = false
    one_never_ends b (node_then n ns) = never_ends b n || one_never_ends (insts_after n b) ns

    pub each_never_ends : Insts → Nodes → Bool
    each_never_ends b no_nodes = true
    each_never_ends b (node_then n ns) = never_ends b n && each_never_ends b ns

    pub each_arm_never_ends : Insts → Arms → Bool
    each_arm_never_ends b no_arms = true
    each_arm_never_ends b (arm_then l n arms) = never_ends b n && each_arm_never_ends b arms

  -- the insts after branches from one point, as far as those are reachable
  abbrev pub with_end : Insts → Node → List Insts → List Insts
  with_end b n ends = if never_ends b n then ends else insts_after n b ∷ ends

  abbrev pub ends : Insts → Nodes → List Insts
  ends b no_nodes = []
  ends b (node_then n ns) = with_end b n (ends b ns)

  abbrev pub arm_ends : Insts → Arms → List Insts
  arm_ends b no_arms = []
  arm_ends b (arm_then l n arms) = with_end b n (arm_ends b arms)

  -- the same of the disjuncts that arms are made of: an arm that is a disjunction or a switch again
  -- is one of several disjuncts
  abbrev mutual
    pub disjunct_ends : Insts → Arms → List Insts
    disjunct_ends b no_arms = []
    disjunct_ends b (arm_then l n arms) = ends_in_arm b n ++ disjunct_ends b arms

    pub ends_in_arm : Insts → Node → List Insts
    ends_in_arm b (node (Disj ns) changes d m) = ends b ns
    ends_in_arm b (node (Switch x arms) changes d m) = disjunct_ends b arms
    ends_in_arm b n = with_end b n []

  -- What an arm of several disjuncts changes, where the whole has these insts before and after it:
  -- a variable that was bound, or that the whole binds, gets the merged inst of the ends, and where
  -- these give it one inst, just that; any other stays free. Nothing is changed where no end is
  -- reachable.
  abbrev pub ChangesMerge : (before after : Insts) → (ends : List Insts) → List (ℕ × ℕ) → Type 0
  ChangesMerge b c [] changes = changes ≡ []
  ChangesMerge b c (e ∷ es) changes =
      RisesFrom 0 changes
      × EachChanges b changes
      × ((x : ℕ)
      → (is_bound (b x) || is_bound (c x)) ≡ true
      → Merged S.world.source S.insts (map (λ (d : Insts). d x) (e ∷ es))
      (change_at x changes (b x)) (T x))
      × ((x i : ℕ)
      → (is_bound (b x) || is_bound (c x)) ≡ true
      → EachGives x i (e ∷ es) → change_at x changes (b x) ≡ i)
      × ((x : ℕ) → (is_bound (b x) || is_bound (c x)) ≡ false → change_at x changes (b x) ≡ 0)

  -- an arm of several disjuncts merges the ends of these, however they are in arms again
  abbrev pub ArmMerges : (before after : Insts) → Node → Type 0
  ArmMerges b c (node (Disj ns) changes d m) = ChangesMerge b c (ends b ns) changes
  ArmMerges b c (node (Switch x arms) changes d m) = ChangesMerge b c (disjunct_ends b arms) changes
  ArmMerges b c n = Unit {0}

  -- In a goal in switch form each such arm changes what its disjuncts change together. The arms of
  -- an arm that is a switch again go by the insts around the whole disjunction too.
  abbrev mutual
    pub ArmsMerge : Insts → Node → Type 0
    ArmsMerge b (node s changes d m) = ArmsMergeIn b (insts_after (node s changes d m) b) s

    pub ArmsMergeIn : (before after : Insts) → Scheduled → Type 0
    ArmsMergeIn b c (Conj ns) = ArmsMergeInAll b ns
    ArmsMergeIn b c (Disj ns) = ArmsMergeInEach b ns
    ArmsMergeIn b c (Switch x arms) = EachArmMerges b c arms
    ArmsMergeIn b c (Ite vs n t e) =
        ArmsMerge b n × ArmsMerge (insts_after n b) t × ArmsMerge b e
    ArmsMergeIn b c (Not n) = ArmsMerge b n
    ArmsMergeIn b c (Exists vs n) = ArmsMerge b n
    ArmsMergeIn b c (Assign x y) = Unit {0}
    ArmsMergeIn b c (Test x y) = Unit {0}
    ArmsMergeIn b c (Build x s ys) = Unit {0}
    ArmsMergeIn b c (Take x s ys) = Unit {0}
    ArmsMergeIn b c (Const x v) = Unit {0}
    ArmsMergeIn b c (TestConst x v) = Unit {0}
    ArmsMergeIn b c (Call p xs implied last) = Unit {0}
    ArmsMergeIn b c (Apply op xs ys) = Unit {0}

    pub ArmsMergeInAll : Insts → Nodes → Type 0
    ArmsMergeInAll b no_nodes = Unit {0}
    ArmsMergeInAll b (node_then n ns) = ArmsMerge b n × ArmsMergeInAll (insts_after n b) ns

    pub ArmsMergeInEach : Insts → Nodes → Type 0
    ArmsMergeInEach b no_nodes = Unit {0}
    ArmsMergeInEach b (node_then n ns) = ArmsMerge b n × ArmsMergeInEach b ns

    pub EachArmMerges : (before after : Insts) → Arms → Type 0
    EachArmMerges b c no_arms = Unit {0}
    EachArmMerges b c (arm_then l n arms) =
        ArmMerges b c n × MergeInside b c n × EachArmMerges b c arms

    pub MergeInside : (before after : Insts) → Node → Type 0
    MergeInside b c (node s changes d m) = ArmsMergeIn b c s

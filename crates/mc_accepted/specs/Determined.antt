-- The determinism of scheduled goals, the contexts in which they stand, and where io may stand.
-- (Mercury Language Reference Manual: Determinism; this project's profile of io.)
use Rattle.std.specs.Prelude.{◌≡◌, ℕ, ◌≤◌, List, [], ◌∷◌, Option, Some, None, Bool, true, false, not, nat_eq, ◌&&◌, ◌||◌, if◌then◌else◌}
use Rattle.std.specs.List.{list_any, list_all}
use Rattle.std.specs.Cmp.Lexicographic.{pointwise}
use Rattle.mc_program.specs.Values.{Val, same_value}
use Rattle.mc_program.specs.Programs.{TypeTerm, union_type, FullName}
use Rattle.mc_model.specs.Insts.{Listed, InstNode, free, ground, unique, dead, bound}
use Rattle.mc_source.specs.Determinism.{Determinism, row_of, conj, disj, ite, negated, pruned, erroneous, det, semidet, rank, greater}
use Rattle.mc_model.specs.Scheduled.{Label, for_symbol, for_constant, Node, node, Scheduled, Conj, Disj, Switch, Ite, Not, Exists, Assign, Test, Build, Take, Const, TestConst, Call, Apply, Nodes, no_nodes, node_then, Arms, no_arms, arm_then}
use Rattle.mc_model.specs.Stream.{is_bound}
use Rattle.mc_model.specs.Good.{System}
use Rattle.mc_accepted.specs.Ordered.{Insts, change_at, binds_one, variables_of_node}
use Rattle.mc_program.specs.declared.builtin.Builtin.{Builtin}
use Rattle.mc_program.specs.declared.builtin.Builtin.TheVariants as B
use Rattle.mc_source.specs.declared.det.Most.TheVariants.{Zero, One}

-- the symbols and constants of variables that are known in the arms of switches
abbrev pub Known : Type 0
Known = ℕ → Option Label

abbrev pub nothing_known : Known
nothing_known = λ x. None

abbrev pub learned : ℕ → Label → Known → Known
learned x l known = λ y. if nat_eq y x then Some l else known y

abbrev pub knows_symbol : Option Label → ℕ → Bool
knows_symbol None s = false
knows_symbol (Some (for_symbol f)) s = nat_eq f s
knows_symbol (Some (for_constant v)) s = false

abbrev pub knows_constant : Option Label → Val → Bool
knows_constant None v = false
knows_constant (Some (for_symbol f)) v = false
knows_constant (Some (for_constant w)) v = same_value w v

-- whether a node allows a constructor by its name
abbrev pub lists_name : List Listed → FullName → Bool
lists_name [] name = false
lists_name (l ∷ ls) name =
    (pointwise nat_eq l.name name.bytes && nat_eq l.arity name.arity) || lists_name ls name

abbrev pub allows_name : InstNode → FullName → Bool
allows_name free name = false
allows_name ground name = true
allows_name unique name = true
allows_name dead name = true
allows_name (bound ls) name = lists_name ls name

-- the insts after a goal
abbrev pub insts_after : Node → Insts → Insts
insts_after (node s changes d is_pruned) b = λ x. change_at x changes (b x)

-- whether an argument of a deconstruction is tested: it is bound, or stood before
abbrev pub tested : List ℕ → (is_there : ℕ → Bool) → Bool
tested [] is_there = false
tested (y ∷ ys) is_there = is_there y || tested ys (λ x. if nat_eq x y then true else is_there x)

-- the declared determinisms of builtins
abbrev pub builtin_determinism : Builtin → Determinism
builtin_determinism B.IntLess = semidet
builtin_determinism B.IntGreater = semidet
builtin_determinism B.IntAtMost = semidet
builtin_determinism B.IntAtLeast = semidet
builtin_determinism B.StringToInt = semidet
builtin_determinism B.CharFromInt = semidet
builtin_determinism B.CharIsDigit = semidet
builtin_determinism B.Error = erroneous
builtin_determinism op = det

-- whether a builtin leaves a state dead
abbrev pub is_io_builtin : Builtin → Bool
is_io_builtin B.WriteString = true
is_io_builtin B.WriteChar = true
is_io_builtin B.WriteInt = true
is_io_builtin B.Write = true
is_io_builtin B.Nl = true
is_io_builtin B.ReadLine = true
is_io_builtin op = false

-- a call, and then a test of each implied argument
abbrev pub then_tests : List ℕ → Determinism → Determinism
then_tests [] d = d
then_tests (k ∷ implied) d = then_tests implied (conj d semidet)

abbrev pub is_dead : InstNode → Bool
is_dead dead = true
is_dead i = false

module _ (S : System) (T : ℕ → TypeTerm) where
  -- the constructors that a type and an inst allow; none is told of a type that is no union
  abbrev pub allowed_of : ℕ → List ℕ → List ℕ
  allowed_of i [] = []
  allowed_of i (s ∷ ss) =
      if allows_name (S.insts i) (S.world.source.symbols s).name then s ∷ allowed_of i ss
      else allowed_of i ss

  abbrev pub allowed_in : TypeTerm → ℕ → Option (List ℕ)
  allowed_in (union_type u ts) i = Some (allowed_of i (S.world.source.symbols_of u))
  allowed_in _ i = None

  abbrev pub is_alone : ℕ → Option (List ℕ) → Bool
  is_alone s (Some (f ∷ fs)) = list_all (λ g. nat_eq g s) (f ∷ fs)
  is_alone s _ = false

  -- whether an inst excludes the symbol
  abbrev pub excludes : ℕ → ℕ → Bool
  excludes i s = not (allows_name (S.insts i) (S.world.source.symbols s).name)

  -- a deconstruction
  abbrev pub take_determinism : Insts → Known → ℕ → ℕ → List ℕ → Determinism
  take_determinism b known x s ys =
      record {
        can_fail =
            tested ys (λ y. is_bound (b y))
            || not (is_alone s (allowed_in (T x) (b x)) || knows_symbol (known x) s);
        most = if excludes (b x) s then Zero else One;
      }

  abbrev pub has_arm : ℕ → Arms → Bool
  has_arm s no_arms = false
  has_arm s (arm_then (for_symbol f) n arms) = nat_eq f s || has_arm s arms
  has_arm s (arm_then (for_constant v) n arms) = has_arm s arms

  -- whether some symbol that type and inst allow has no arm; constants are never covered
  abbrev pub misses : Option (List ℕ) → Arms → Bool
  misses None arms = true
  misses (Some ss) arms = not (list_all (λ s. has_arm s arms) ss)

  -- the determinism of a goal by the table, from the insts before it and what is known of its
  -- variables
  abbrev mutual
    pub determined : Insts → Known → Node → Determinism
    determined b known (node s changes d is_pruned) =
        if is_pruned then pruned (determined_in b known s) else determined_in b known s

    pub determined_in : Insts → Known → Scheduled → Determinism
    determined_in b known (Conj ns) = determined_all b known ns
    determined_in b known (Disj ns) = determined_any b known ns
    determined_in b known (Switch x arms) =
        record {
          can_fail =
              misses (allowed_in (T x) (b x)) arms || (determined_arms b known x arms).can_fail;
          most = (determined_arms b known x arms).most;
        }
    determined_in b known (Ite vs c t e) =
        ite (determined b known c) (determined (insts_after c b) known t) (determined b known e)
    determined_in b known (Not n) = negated (determined b known n)
    determined_in b known (Exists vs n) = determined b known n
    determined_in b known (Assign x y) = det
    determined_in b known (Test x y) = semidet
    determined_in b known (Build x s ys) = det
    determined_in b known (Take x s ys) = take_determinism b known x s ys
    determined_in b known (Const x v) = det
    determined_in b known (TestConst x v) =
        record { can_fail = not (knows_constant (known x) v); most = One }
    determined_in b known (Call p xs implied last) = then_tests implied (row_of (S.procs p).det)
    determined_in b known (Apply op xs ys) = builtin_determinism op

    pub determined_all : Insts → Known → Nodes → Determinism
    determined_all b known no_nodes = det
    determined_all b known (node_then n ns) =
        conj (determined b known n) (determined_all (insts_after n b) known ns)

    pub determined_any : Insts → Known → Nodes → Determinism
    determined_any b known no_nodes = record { can_fail = true; most = Zero }
    determined_any b known (node_then n ns) =
        disj (determined b known n) (determined_any b known ns)

    -- some arm can fail; the most answers of an arm
    pub determined_arms : Insts → Known → ℕ → Arms → Determinism
    determined_arms b known x no_arms = record { can_fail = false; most = Zero }
    determined_arms b known x (arm_then l n arms) =
        record {
          can_fail =
              (determined b (learned x l known) n).can_fail
              || (determined_arms b known x arms).can_fail;
          most =
              greater (determined b (learned x l known) n).most
              (determined_arms b known x arms).most;
        }

  -- whether no part of what is left of a conjunction can fail, and no disjunct of a disjunction
  abbrev pub none_fails : Insts → Known → Nodes → Bool
  none_fails b known no_nodes = true
  none_fails b known (node_then n ns) =
      not (determined b known n).can_fail && none_fails (insts_after n b) known ns

  abbrev pub no_disjunct_fails : Insts → Known → Nodes → Bool
  no_disjunct_fails b known no_nodes = true
  no_disjunct_fails b known (node_then n ns) =
      not (determined b known n).can_fail && no_disjunct_fails b known ns

  -- Contexts: a goal is in `first` where only its first answer is asked for, else in `all`. A
  -- committed call stands in `first`, without implied arguments.
  abbrev mutual
    pub Placed : Insts → Known → (first : Bool) → Node → Type 0
    Placed b known first (node s changes d is_pruned) = PlacedIn b known (first || is_pruned) s

    pub PlacedIn : Insts → Known → (first : Bool) → Scheduled → Type 0
    PlacedIn b known first (Conj ns) = AllPlaced b known first ns
    PlacedIn b known first (Disj ns) = EachPlaced b known first ns
    PlacedIn b known first (Switch x arms) = ArmsPlaced b known first x arms
    PlacedIn b known first (Ite vs c t e) =
        Placed b known
        (not (binds_one (variables_of_node t) b (insts_after c b))
        || (first && not (determined (insts_after c b) known t).can_fail)) c
        × Placed (insts_after c b) known first t × Placed b known first e
    PlacedIn b known first (Not n) = Placed b known true n
    PlacedIn b known first (Exists vs n) = Placed b known first n
    PlacedIn b known first (Assign x y) = Unit {0}
    PlacedIn b known first (Test x y) = Unit {0}
    PlacedIn b known first (Build x s ys) = Unit {0}
    PlacedIn b known first (Take x s ys) = Unit {0}
    PlacedIn b known first (Const x v) = Unit {0}
    PlacedIn b known first (TestConst x v) = Unit {0}
    PlacedIn b known first (Call p xs implied last) =
        (S.procs p).det.committed ≡ true → (first ≡ true) × (implied ≡ [])
    PlacedIn b known first (Apply op xs ys) = Unit {0}

    -- in `first`, a part of a conjunction is in `first` where no part after it can fail
    pub AllPlaced : Insts → Known → (first : Bool) → Nodes → Type 0
    AllPlaced b known first no_nodes = Unit {0}
    AllPlaced b known first (node_then n ns) =
        Placed b known (first && none_fails (insts_after n b) known ns) n
        × AllPlaced (insts_after n b) known first ns

    pub EachPlaced : Insts → Known → (first : Bool) → Nodes → Type 0
    EachPlaced b known first no_nodes = Unit {0}
    EachPlaced b known first (node_then n ns) = Placed b known first n × EachPlaced b known first ns

    pub ArmsPlaced : Insts → Known → (first : Bool) → ℕ → Arms → Type 0
    ArmsPlaced b known first x no_arms = Unit {0}
    ArmsPlaced b known first x (arm_then l n arms) =
        Placed b (learned x l known) first n × ArmsPlaced b known first x arms

  -- whether a goal holds a call that leaves a variable dead
  abbrev pub leaves_dead : List ℕ → Bool
  leaves_dead is = list_any (λ i. is_dead (S.insts i)) is

  abbrev mutual
    pub is_io : Node → Bool
    is_io (node s changes d is_pruned) = is_io_in s

    pub is_io_in : Scheduled → Bool
    is_io_in (Conj ns) = one_is_io ns
    is_io_in (Disj ns) = one_is_io ns
    is_io_in (Switch x arms) = arm_is_io arms
    is_io_in (Ite vs c t e) = is_io c || (is_io t || is_io e)
    is_io_in (Not n) = is_io n
    is_io_in (Exists vs n) = is_io n
    is_io_in (Assign x y) = false
    is_io_in (Test x y) = false
    is_io_in (Build x s ys) = false
    is_io_in (Take x s ys) = false
    is_io_in (Const x v) = false
    is_io_in (TestConst x v) = false
    is_io_in (Call p xs implied last) = leaves_dead (S.procs p).last
    is_io_in (Apply op xs ys) = is_io_builtin op

    pub one_is_io : Nodes → Bool
    one_is_io no_nodes = false
    one_is_io (node_then n ns) = is_io n || one_is_io ns

    pub arm_is_io : Arms → Bool
    arm_is_io no_arms = false
    arm_is_io (arm_then l n arms) = is_io n || arm_is_io arms

  -- An io goal is not pruned and cannot fail; in `all` it succeeds at most once.
  abbrev pub IoHere : Bool → (first pruned : Bool) → Determinism → Type 0
  IoHere false first is_pruned d = Unit {0}
  IoHere true first is_pruned d =
      (is_pruned ≡ false) × (d.can_fail ≡ false) × (first ≡ false → rank d.most ≤ 1)

  -- where io goals stand: in no negation, condition or pruned goal; in `first`, a disjunction that
  -- holds one has only disjuncts that cannot fail
  abbrev mutual
    pub IoPlaced : Insts → Known → (first : Bool) → Node → Type 0
    IoPlaced b known first (node s changes d is_pruned) =
        IoHere (is_io_in s) first is_pruned (determined b known (node s changes d is_pruned))
        × IoPlacedIn b known (first || is_pruned) s

    pub IoPlacedIn : Insts → Known → (first : Bool) → Scheduled → Type 0
    IoPlacedIn b known first (Conj ns) = IoAllPlaced b known first ns
    IoPlacedIn b known first (Disj ns) =
        (first ≡ true → one_is_io ns ≡ true → no_disjunct_fails b known ns ≡ true)
        × IoEachPlaced b known first ns
    IoPlacedIn b known first (Switch x arms) = IoArmsPlaced b known first x arms
    IoPlacedIn b known first (Ite vs c t e) =
        (is_io c ≡ false) × IoPlaced (insts_after c b) known first t × IoPlaced b known first e
    IoPlacedIn b known first (Not n) = is_io n ≡ false
    IoPlacedIn b known first (Exists vs n) = IoPlaced b known first n
    IoPlacedIn b known first (Assign x y) = Unit {0}
    IoPlacedIn b known first (Test x y) = Unit {0}
    IoPlacedIn b known first (Build x s ys) = Unit {0}
    IoPlacedIn b known first (Take x s ys) = Unit {0}
    IoPlacedIn b known first (Const x v) = Unit {0}
    IoPlacedIn b known first (TestConst x v) = Unit {0}
    IoPlacedIn b known first (Call p xs implied last) = Unit {0}
    IoPlacedIn b known first (Apply op xs ys) = Unit {0}

    pub IoAllPlaced : Insts → Known → (first : Bool) → Nodes → Type 0
    IoAllPlaced b known first no_nodes = Unit {0}
    IoAllPlaced b known first (node_then n ns) =
        IoPlaced b known (first && none_fails (insts_after n b) known ns) n
        × IoAllPlaced (insts_after n b) known first ns

    pub IoEachPlaced : Insts → Known → (first : Bool) → Nodes → Type 0
    IoEachPlaced b known first no_nodes = Unit {0}
    IoEachPlaced b known first (node_then n ns) =
        IoPlaced b known first n × IoEachPlaced b known first ns

    pub IoArmsPlaced : Insts → Known → (first : Bool) → ℕ → Arms → Type 0
    IoArmsPlaced b known first x no_arms = Unit {0}
    IoArmsPlaced b known first x (arm_then l n arms) =
        IoPlaced b (learned x l known) first n × IoArmsPlaced b known first x arms

-- Ordered goals: how a scheduled goal comes from a normal goal, with the insts before and after it.
-- (Mercury Language Reference Manual: Modes, strict sequential semantics; this project's profile of
-- implied modes and uniqueness.)
--
-- This is the relation that soundness rests on: a conjunction may run its goals in any mode-correct
-- order. That the first mode-correct goal is the one that is taken is said where goals are
-- scheduled.
use Rattle.std.specs.Prelude.{◌≡◌, ◌≢◌, ◌⊎◌, ℕ, suc, ◌<◌, ◌≤◌, List, [], ◌∷◌, ◌++◌, map, Option, Some, None, Bool, true, false, not, nat_eq, ◌&&◌, ◌||◌, if◌then◌else◌}
use Rattle.mc_program.specs.Values.{Val, con, state}
use Rattle.mc_program.specs.Programs.{TypeTerm, state_type}
use Rattle.mc_model.specs.Insts.{dead, bound, AllowsSymbol, AllowsConstants}
use Rattle.mc_accepted.specs.Inclusion.{Included, Merged}
use Rattle.mc_model.specs.Outcomes.{inputs_of}
use Rattle.mc_model.specs.Flat as F
use Rattle.mc_model.specs.Flat.{Flat_goal, Flat_goals, no_flat, flat_then, variables_of, variables_of_all, free_in, free_in_all}
use Rattle.mc_model.specs.Lists.{Apart, Distinct, In, is_in, without}
use Rattle.mc_model.specs.Scheduled.{Label, for_symbol, for_constant, Node, node, Scheduled, Conj, Disj, Switch, Ite, Not, Exists, Assign, Test, Build, Take, Const, TestConst, Call, Apply, Nodes, no_nodes, node_then, Arms, no_arms, arm_then, Procedure}
use Rattle.mc_model.specs.Stream.{is_bound}
use Rattle.mc_model.specs.Good.{System}
use Rattle.mc_source.specs.Determinism.{inferred, semidet}
use Rattle.mc_program.specs.declared.builtin.Builtin.{Builtin}
use Rattle.mc_program.specs.declared.builtin.Builtin.TheVariants as B
use Rattle.mc_source.specs.declared.det.Det.{Det}
use Rattle.mc_source.specs.declared.det.Most.{Most}
use Rattle.mc_source.specs.declared.det.Most.TheVariants.{Zero, One, Many}

-- the insts of variables, by their nodes; node 0 is `free`, 1 `ground`, 2 `unique`, 3 `dead`
abbrev pub Insts : Type 0
Insts = ℕ → ℕ

-- a variable gets an inst
abbrev pub also : ℕ → ℕ → Insts → Insts
also x i b = λ y. if nat_eq y x then i else b y

abbrev pub is_state : TypeTerm → Bool
is_state state_type = true
is_state _ = false

-- an argument's inst at the call and at an answer
abbrev pub Mode : Type 0
Mode = ℕ × ℕ

abbrev pub in_mode : Mode
in_mode = (1, 1)

abbrev pub out_mode : Mode
out_mode = (0, 1)

abbrev pub di_mode : Mode
di_mode = (2, 3)

abbrev pub uo_mode : Mode
uo_mode = (0, 2)

-- the modes of a builtin's arguments
abbrev pub plain_modes : List Bool → List Mode
plain_modes [] = []
plain_modes (b ∷ bs) = (if b then in_mode else out_mode) ∷ plain_modes bs

abbrev pub modes_of : Builtin → List Mode
modes_of B.WriteString = in_mode ∷ di_mode ∷ uo_mode ∷ []
modes_of B.WriteChar = in_mode ∷ di_mode ∷ uo_mode ∷ []
modes_of B.WriteInt = in_mode ∷ di_mode ∷ uo_mode ∷ []
modes_of B.Write = in_mode ∷ di_mode ∷ uo_mode ∷ []
modes_of B.Nl = di_mode ∷ uo_mode ∷ []
modes_of B.ReadLine = out_mode ∷ di_mode ∷ uo_mode ∷ []
modes_of op = plain_modes (inputs_of op)

abbrev pub zipped : List ℕ → List ℕ → List Mode
zipped [] ls = []
zipped (i ∷ is) [] = []
zipped (i ∷ is) (l ∷ ls) = (i, l) ∷ zipped is ls

abbrev pub modes_of_procedure : Procedure → List Mode
modes_of_procedure p = zipped p.first p.last

-- one of the goals, and the others in order
pub data Picks : Flat_goals → Flat_goal → Flat_goals → Type 0 where
  here : {g : Flat_goal} {gs : Flat_goals} → Picks (flat_then g gs) g gs
  there :
      {k g : Flat_goal} {gs rest : Flat_goals} → Picks gs g rest
      → Picks (flat_then k gs) g (flat_then k rest)

-- some of the goals, and the others, both in order
pub data Parts : Flat_goals → Flat_goals → Flat_goals → Type 0 where
  no_part : Parts no_flat no_flat no_flat
  to_part :
      {g : Flat_goal} {gs hs ks : Flat_goals} → Parts gs hs ks
      → Parts (flat_then g gs) (flat_then g hs) ks
  to_rest :
      {g : Flat_goal} {gs hs ks : Flat_goals} → Parts gs hs ks
      → Parts (flat_then g gs) hs (flat_then g ks)

-- the disjuncts of one arm: one is that goal, several are their disjunction
abbrev pub arm_goal : Flat_goals → Flat_goal
arm_goal (flat_then g no_flat) = g
arm_goal gs = F.Or gs

-- all variables of a scheduled goal; those that no part of it quantifies
abbrev mutual
  pub variables_of_node : Node → List ℕ
  variables_of_node (node s changes det pruned) = variables_of_scheduled s

  pub variables_of_scheduled : Scheduled → List ℕ
  variables_of_scheduled (Conj ns) = variables_of_nodes ns
  variables_of_scheduled (Disj ns) = variables_of_nodes ns
  variables_of_scheduled (Switch v arms) = v ∷ variables_of_arms arms
  variables_of_scheduled (Ite vs c t e) =
      vs ++ (variables_of_node c ++ (variables_of_node t ++ variables_of_node e))
  variables_of_scheduled (Not n) = variables_of_node n
  variables_of_scheduled (Exists vs n) = vs ++ variables_of_node n
  variables_of_scheduled (Assign v w) = v ∷ w ∷ []
  variables_of_scheduled (Test v w) = v ∷ w ∷ []
  variables_of_scheduled (Build v s ys) = v ∷ ys
  variables_of_scheduled (Take v s ys) = v ∷ ys
  variables_of_scheduled (Const v c) = v ∷ []
  variables_of_scheduled (TestConst v c) = v ∷ []
  variables_of_scheduled (Call p xs implied last) = xs
  variables_of_scheduled (Apply op xs ys) = xs ++ ys

  pub variables_of_nodes : Nodes → List ℕ
  variables_of_nodes no_nodes = []
  variables_of_nodes (node_then n ns) = variables_of_node n ++ variables_of_nodes ns

  pub variables_of_arms : Arms → List ℕ
  variables_of_arms no_arms = []
  variables_of_arms (arm_then l n arms) = variables_of_node n ++ variables_of_arms arms

abbrev mutual
  pub free_in_node : Node → List ℕ
  free_in_node (node s changes det pruned) = free_in_scheduled s

  pub free_in_scheduled : Scheduled → List ℕ
  free_in_scheduled (Conj ns) = free_in_nodes ns
  free_in_scheduled (Disj ns) = free_in_nodes ns
  free_in_scheduled (Switch v arms) = v ∷ free_in_arms arms
  free_in_scheduled (Ite vs c t e) = without (free_in_node c ++ free_in_node t) vs ++ free_in_node e
  free_in_scheduled (Not n) = free_in_node n
  free_in_scheduled (Exists vs n) = without (free_in_node n) vs
  free_in_scheduled (Assign v w) = v ∷ w ∷ []
  free_in_scheduled (Test v w) = v ∷ w ∷ []
  free_in_scheduled (Build v s ys) = v ∷ ys
  free_in_scheduled (Take v s ys) = v ∷ ys
  free_in_scheduled (Const v c) = v ∷ []
  free_in_scheduled (TestConst v c) = v ∷ []
  free_in_scheduled (Call p xs implied last) = xs
  free_in_scheduled (Apply op xs ys) = xs ++ ys

  pub free_in_nodes : Nodes → List ℕ
  free_in_nodes no_nodes = []
  free_in_nodes (node_then n ns) = free_in_node n ++ free_in_nodes ns

  pub free_in_arms : Arms → List ℕ
  free_in_arms no_arms = []
  free_in_arms (arm_then l n arms) = free_in_node n ++ free_in_arms arms

-- whether a goal binds one of these variables; None comes where the point after it is unreachable
abbrev pub binds_one : List ℕ → Insts → Insts → Bool
binds_one [] b c = false
binds_one (x ∷ xs) b c = if not (is_bound (b x)) && is_bound (c x) then true else binds_one xs b c

-- a goal is pruned where the point after it is reachable and it binds no variable that occurs
-- outside it
abbrev pub is_pruned : (outside : List ℕ) → Insts → Option Insts → Bool
is_pruned O b None = false
is_pruned O b (Some c) = not (binds_one O b c)

-- none of these variables is bound that was free
abbrev pub BindsNone : List ℕ → Insts → Option Insts → Type 0
BindsNone xs b None = Unit {0}
BindsNone xs b (Some c) = binds_one xs b c ≡ false

-- The kept changes: the insts of variables that differ after the goal, in order of variables; none
-- where the point after it is unreachable.
abbrev pub change_at : ℕ → List (ℕ × ℕ) → ℕ → ℕ
change_at x [] i = i
change_at x (change ∷ changes) i = if nat_eq x change.0 then change.1 else change_at x changes i

abbrev pub RisesFrom : ℕ → List (ℕ × ℕ) → Type 0
RisesFrom n [] = Unit {0}
RisesFrom n (change ∷ changes) = (n ≤ change.0) × RisesFrom (suc change.0) changes

abbrev pub EachChanges : Insts → List (ℕ × ℕ) → Type 0
EachChanges b [] = Unit {0}
EachChanges b (change ∷ changes) = (b change.0 ≢ change.1) × EachChanges b changes

abbrev pub KeepsChanges : Insts → Option Insts → List (ℕ × ℕ) → Type 0
KeepsChanges b None changes = changes ≡ []
KeepsChanges b (Some c) changes =
    ((x : ℕ) → c x ≡ change_at x changes (b x)) × RisesFrom 0 changes × EachChanges b changes

-- the places of a call's implied arguments: outputs whose variable is bound, or was an output
-- before
abbrev pub implied_places : (place : ℕ) → List Mode → List ℕ → (is_there : ℕ → Bool) → List ℕ
implied_places k [] xs is_there = []
implied_places k (m ∷ ms) [] is_there = []
implied_places k (m ∷ ms) (x ∷ xs) is_there =
    if is_bound m.0 || not (is_bound m.1) then implied_places (suc k) ms xs is_there
    else if is_there x then k ∷ implied_places (suc k) ms xs is_there
    else implied_places (suc k) ms xs (λ y. if nat_eq y x then true else is_there y)

abbrev pub FreshenedHere :
    Bool → ℕ → ℕ → List (ℕ × ℕ) → (List (ℕ × ℕ) → Type 0) → Type 0
FreshenedHere false x z tests Q = (z ≡ x) × Q tests
FreshenedHere true x z [] Q = ⊥
FreshenedHere true x z (test ∷ tests) Q = (test ≡ (z, x)) × Q tests

-- the arguments with fresh variables in the places of implied ones, and the pairs of variables that
-- are tested, in order
abbrev pub Freshened :
    (place : ℕ) → (implied : List ℕ) → (xs fresh : List ℕ) → List (ℕ × ℕ) → Type 0
Freshened k is [] [] tests = tests ≡ []
Freshened k is (x ∷ xs) (z ∷ zs) tests =
    FreshenedHere (is_in k is) x z tests (Freshened (suc k) is xs zs)
Freshened k is _ _ tests = ⊥

-- the fresh variables of tests
abbrev pub firsts : List (ℕ × ℕ) → List ℕ
firsts [] = []
firsts (test ∷ tests) = test.0 ∷ firsts tests

-- tests before other goals; a test changes no inst, and is pruned since it binds nothing
abbrev pub tested_by : List (ℕ × ℕ) → Nodes → Nodes
tested_by [] ns = ns
tested_by (test ∷ tests) ns =
    node_then (node (Test test.0 test.1) [] (inferred semidet) true) (tested_by tests ns)

-- how often a variable stands in a list
abbrev pub times_in : ℕ → List ℕ → ℕ
times_in x [] = 0
times_in x (y ∷ ys) = if nat_eq x y then suc (times_in x ys) else times_in x ys

-- the arguments at inputs, and those at outputs
abbrev pub at_inputs : List Bool → List ℕ → List ℕ
at_inputs [] xs = []
at_inputs (b ∷ bs) [] = []
at_inputs (b ∷ bs) (x ∷ xs) = if b then x ∷ at_inputs bs xs else at_inputs bs xs

abbrev pub at_outputs : List Bool → List ℕ → List ℕ
at_outputs [] xs = []
at_outputs (b ∷ bs) [] = []
at_outputs (b ∷ bs) (x ∷ xs) = if b then at_outputs bs xs else x ∷ at_outputs bs xs

-- the ends that are reachable
abbrev pub reachable : List (Option Insts) → List Insts
reachable [] = []
reachable (None ∷ os) = reachable os
reachable (Some c ∷ os) = c ∷ reachable os

-- unreachable after what never answers
abbrev pub unless_never : Most → Insts → Option Insts
unless_never Zero b = None
unless_never One b = Some b
unless_never Many b = Some b

-- `error` is declared erroneous
abbrev pub builtin_most : Builtin → Most
builtin_most B.Error = Zero
builtin_most op = One

-- free variables of a deconstruction get the insts of the symbol's arguments
abbrev pub take_all : List ℕ → List ℕ → Insts → Insts
take_all [] is b = b
take_all (y ∷ ys) [] b = b
take_all (y ∷ ys) (i ∷ is) b = take_all ys is (if is_bound (b y) then b else also y i b)

abbrev pub AllBound : List ℕ → Insts → Type 0
AllBound [] b = Unit {0}
AllBound (x ∷ xs) b = (is_bound (b x) ≡ true) × AllBound xs b

abbrev pub IsEmpty : Node → Type 0
IsEmpty (node (Conj no_nodes) changes det pruned) = (changes ≡ []) × (pruned ≡ false)
IsEmpty n = ⊥

-- an equation
abbrev pub IsEquation : Node → Type 0
IsEquation (node (Assign v w) changes det pruned) = Unit {0}
IsEquation (node (Test v w) changes det pruned) = Unit {0}
IsEquation (node (Build v s ys) changes det pruned) = Unit {0}
IsEquation (node (Take v s ys) changes det pruned) = Unit {0}
IsEquation (node (Const v c) changes det pruned) = Unit {0}
IsEquation (node (TestConst v c) changes det pruned) = Unit {0}
IsEquation n = ⊥

-- each run of the goal deconstructs x against a label before its first goal that is no equation
abbrev mutual
  pub Opens : ℕ → Label → Node → Type 0
  Opens x l (node s changes det pruned) = OpensScheduled x l s

  pub OpensScheduled : ℕ → Label → Scheduled → Type 0
  OpensScheduled x l (Conj ns) = OneOpens x l ns
  OpensScheduled x l (Disj ns) = EachOpens x l ns
  OpensScheduled x l (Switch v arms) = EachArmOpens x l arms
  OpensScheduled x l (Exists vs n) = Opens x l n
  OpensScheduled x l (Take v s ys) = (v ≡ x) × (l ≡ for_symbol s)
  OpensScheduled x l (TestConst v c) = (v ≡ x) × (l ≡ for_constant c)
  OpensScheduled x l s = ⊥

  pub OneOpens : ℕ → Label → Nodes → Type 0
  OneOpens x l no_nodes = ⊥
  OneOpens x l (node_then n ns) = IsEquation n × (Opens x l n ⊎ OneOpens x l ns)

  pub EachOpens : ℕ → Label → Nodes → Type 0
  EachOpens x l no_nodes = Unit {0}
  EachOpens x l (node_then n ns) = Opens x l n × EachOpens x l ns

  pub EachArmOpens : ℕ → Label → Arms → Type 0
  EachArmOpens x l no_arms = Unit {0}
  EachArmOpens x l (arm_then k n arms) = Opens x l n × EachArmOpens x l arms

-- a label for a constant is an integer, a character or a string
abbrev pub IsLabel : Label → Type 0
IsLabel (for_symbol s) = Unit {0}
IsLabel (for_constant (con s vs)) = ⊥
IsLabel (for_constant (state written taken)) = ⊥
IsLabel (for_constant v) = Unit {0}

-- no arm has the label
abbrev pub AbsentFrom : Label → Arms → Type 0
AbsentFrom l no_arms = Unit {0}
AbsentFrom l (arm_then k n arms) = (l ≢ k) × AbsentFrom l arms

module _ (S : System) (T : ℕ → TypeTerm) where
  -- no variable of the atom is dead
  abbrev pub NoneDead : List ℕ → Insts → Type 0
  NoneDead [] b = Unit {0}
  NoneDead (x ∷ xs) b = (S.insts (b x) ≢ dead) × NoneDead xs b

  abbrev pub NoneState : List ℕ → Type 0
  NoneState [] = Unit {0}
  NoneState (x ∷ xs) = (is_state (T x) ≡ false) × NoneState xs

  -- The variables of each pair have one type and are bound. A builtin whose state is tested so is an
  -- io goal that can fail, which the rules of determinism refuse.
  abbrev pub TestsInOrder : List (ℕ × ℕ) → Insts → Type 0
  TestsInOrder [] c = Unit {0}
  TestsInOrder (test ∷ tests) c =
      (T test.0 ≡ T test.1)
      × (c test.0 ≢ 0)
      × (c test.1 ≢ 0)
      × TestsInOrder tests c

  -- the bound inst of one symbol over these insts
  abbrev pub IsSymbolOver : ℕ → ℕ → List ℕ → Type 0
  IsSymbolOver i s is =
      S.insts i
      ≡ bound
      (record {
        name = (S.world.source.symbols s).name.bytes;
        arity = (S.world.source.symbols s).name.arity;
        args = is;
      } ∷ [])

  -- A mode is usable where each argument with an initial inst that isn't free is included in it. A
  -- variable at an input place whose final inst is dead stands at no other place of the call.
  abbrev pub UsableAt : List ℕ → List Mode → List ℕ → Insts → Type 0
  UsableAt all [] [] b = Unit {0}
  UsableAt all (m ∷ ms) (x ∷ xs) b =
      (m.0 ≢ 0
      → (is_bound (b x) ≡ true)
      × Included S.world.source S.insts (b x) m.0 (T x)
      × (S.insts m.1 ≡ dead → times_in x all ≡ 1))
      × UsableAt all ms xs b
  UsableAt all _ _ b = ⊥

  abbrev pub Usable : List Mode → List ℕ → Insts → Type 0
  Usable ms xs b = UsableAt xs ms xs b

  -- The insts after a call, argument by argument. Which outputs are implied goes by what is bound
  -- before the call, and by the outputs before.
  pub data AfterArguments :
      (is_there : ℕ → Bool) → List Mode → List ℕ → Insts → Insts → Type 0 where
    no_more : {is_there : ℕ → Bool} {b : Insts} → AfterArguments is_there [] [] b b
    -- `free >> free` takes any variable and keeps its inst
    not_passed :
        {is_there : ℕ → Bool} {b c : Insts} {x : ℕ} {ms : List Mode} {xs : List ℕ}
        → AfterArguments is_there ms xs b c → AfterArguments is_there ((0, 0) ∷ ms) (x ∷ xs) b c
    -- an output has the final inst
    output :
        {is_there : ℕ → Bool} {b c : Insts} {x l : ℕ} {ms : List Mode} {xs : List ℕ} → l ≢ 0
        → is_there x ≡ false
        → AfterArguments (λ y. if nat_eq y x then true else is_there y) ms xs (also x l b) c
        → AfterArguments is_there ((0, l) ∷ ms) (x ∷ xs) b c
    -- an implied argument is tested and keeps its inst
    implied :
        {is_there : ℕ → Bool} {b c : Insts} {x l : ℕ} {ms : List Mode} {xs : List ℕ} → l ≢ 0
        → is_there x ≡ true → AfterArguments is_there ms xs b c
        → AfterArguments is_there ((0, l) ∷ ms) (x ∷ xs) b c
    -- an input becomes dead where its final inst is; any other keeps its inst where the final inst
    -- includes it, else has the final inst
    dies :
        {is_there : ℕ → Bool} {b c : Insts} {x i l : ℕ} {ms : List Mode} {xs : List ℕ} → i ≢ 0
        → S.insts l ≡ dead → AfterArguments is_there ms xs (also x l b) c
        → AfterArguments is_there ((i, l) ∷ ms) (x ∷ xs) b c
    keeps :
        {is_there : ℕ → Bool} {b c : Insts} {x i l : ℕ} {ms : List Mode} {xs : List ℕ} → i ≢ 0
        → S.insts l ≢ dead → Included S.world.source S.insts (b x) l (T x)
        → AfterArguments is_there ms xs b c → AfterArguments is_there ((i, l) ∷ ms) (x ∷ xs) b c
    becomes :
        {is_there : ℕ → Bool} {b c : Insts} {x i l : ℕ} {ms : List Mode} {xs : List ℕ} → i ≢ 0
        → S.insts l ≢ dead → (Included S.world.source S.insts (b x) l (T x) → ⊥)
        → AfterArguments is_there ms xs (also x l b) c
        → AfterArguments is_there ((i, l) ∷ ms) (x ∷ xs) b c

  abbrev pub After : List Mode → List ℕ → Insts → Insts → Type 0
  After ms xs b c = AfterArguments (λ x. is_bound (b x)) ms xs b c

  -- The insts after branches from one point, whose reachable ends these are; the point after them
  -- is unreachable where no end is. A variable that occurs outside has the merged inst, so it is
  -- free at all ends or at none; any other counts as free, or stays as it was.
  abbrev pub Joined : List ℕ → Insts → List Insts → Option Insts → Type 0
  Joined O b [] o = o ≡ None
  Joined O b (c ∷ ends) None = ⊥
  Joined O b (c ∷ ends) (Some e) =
      (x : ℕ)
      → (In x O
      → Merged S.world.source S.insts (map (λ (d : Insts). d x) (c ∷ ends)) (e x) (T x))
      × ((In x O → ⊥) → (e x ≡ 0) ⊎ (e x ≡ b x))

  mutual
    -- Ordered O Q b g s o: a normal goal g, whose variables outside are O, and its scheduled goal
    -- s, whose variables outside are Q, with the insts b before and o after, where None is an
    -- unreachable point.
    pub data Ordered : (O Q : List ℕ) → Insts → Flat_goal → Scheduled → Option Insts → Type 0 where
      assign :
          {O Q : List ℕ} {b : Insts} {x y : ℕ} → b x ≡ 0 → b y ≢ 0 → NoneDead (x ∷ y ∷ []) b
          → Ordered O Q b (F.Same x y) (Assign x y)
          (Some (also x (b y) (if is_state (T y) then also y 3 b else b)))
      assign_back :
          {O Q : List ℕ} {b : Insts} {x y : ℕ} → b x ≡ 0 → b y ≢ 0 → NoneDead (x ∷ y ∷ []) b
          → Ordered O Q b (F.Same y x) (Assign x y)
          (Some (also x (b y) (if is_state (T y) then also y 3 b else b)))
      test :
          {O Q : List ℕ} {b : Insts} {x y : ℕ} → b x ≢ 0 → b y ≢ 0 → is_state (T x) ≡ false
          → NoneDead (x ∷ y ∷ []) b → Ordered O Q b (F.Same x y) (Test x y) (Some b)
      build :
          {O Q : List ℕ} {b : Insts} {x s i : ℕ} {ys : List ℕ} → b x ≡ 0 → AllBound ys b
          → NoneState ys → NoneDead ys b → IsSymbolOver i s (map b ys)
          → Ordered O Q b (F.Made x s ys) (Build x s ys) (Some (also x i b))
      take :
          {O Q : List ℕ} {b : Insts} {x s i : ℕ} {ys is : List ℕ} → b x ≢ 0 → NoneDead (x ∷ ys) b
          → AllowsSymbol S.world.source (S.insts (b x)) (b x) s (λ js. js ≡ is)
          → IsSymbolOver i s is
          → Ordered O Q b (F.Made x s ys) (Take x s ys) (Some (take_all ys is (also x i b)))
      take_never :
          {O Q : List ℕ} {b : Insts} {x s : ℕ} {ys : List ℕ} → b x ≢ 0 → NoneDead (x ∷ ys) b
          → (AllowsSymbol S.world.source (S.insts (b x)) (b x) s (λ js. Unit {0}) → ⊥)
          → Ordered O Q b (F.Made x s ys) (Take x s ys) None
      put :
          {O Q : List ℕ} {b : Insts} {x : ℕ} {v : Val} → b x ≡ 0
          → Ordered O Q b (F.Is x v) (Const x v) (Some (also x 1 b))
      test_constant :
          {O Q : List ℕ} {b : Insts} {x : ℕ} {v : Val} → b x ≢ 0 → NoneDead (x ∷ []) b
          → AllowsConstants (S.insts (b x)) → Ordered O Q b (F.Is x v) (TestConst x v) (Some b)
      test_never :
          {O Q : List ℕ} {b : Insts} {x : ℕ} {v : Val} → b x ≢ 0 → NoneDead (x ∷ []) b
          → (AllowsConstants (S.insts (b x)) → ⊥) → Ordered O Q b (F.Is x v) (TestConst x v) None
      call :
          {O Q : List ℕ} {b c : Insts} {p : ℕ} {xs : List ℕ} {last : Bool} → p < S.count
          → Usable (modes_of_procedure (S.procs p)) xs b → NoneDead xs b
          → After (modes_of_procedure (S.procs p)) xs b c
          → Ordered O Q b (F.Call (S.procs p).pred xs)
          (Call p xs (implied_places 0 (modes_of_procedure (S.procs p)) xs (λ x. is_bound (b x))) last)
          (unless_never (S.procs p).det.most c)
      apply :
          {O Q : List ℕ} {b c : Insts} {p : ℕ} {op : Builtin} {xs : List ℕ}
          → (S.world.source.preds p).builtin ≡ Some op → Usable (modes_of op) xs b → NoneDead xs b
          → implied_places 0 (modes_of op) xs (λ x. is_bound (b x)) ≡ []
          → After (modes_of op) xs b c
          → Ordered O Q b (F.Call p xs)
          (Apply op (at_inputs (inputs_of op) xs) (at_outputs (inputs_of op) xs))
          (unless_never (builtin_most op) c)
      -- a builtin with implied outputs that stands alone is the conjunction of it and their tests
      implied_alone :
          {O Q : List ℕ} {b : Insts} {p : ℕ} {xs : List ℕ} {n m : Node} {ns : Nodes}
          {o : Option Insts}
          → OrderedAll O Q b (flat_then (F.Call p xs) no_flat) (node_then n (node_then m ns)) o
          → Ordered O Q b (F.Call p xs) (Conj (node_then n (node_then m ns))) o
      conj :
          {O Q : List ℕ} {b : Insts} {gs : Flat_goals} {ns : Nodes} {o : Option Insts}
          → OrderedAll O Q b gs ns o → Ordered O Q b (F.And gs) (Conj ns) o
      disj :
          {O Q : List ℕ} {b : Insts} {gs : Flat_goals} {ns : Nodes} {os : List (Option Insts)}
          {o : Option Insts} → OrderedAny O Q b gs ns os → Joined O b (reachable os) o
          → Ordered O Q b (F.Or gs) (Disj ns) o
      switch :
          {O Q : List ℕ} {b : Insts} {x : ℕ} {gs : Flat_goals} {arms : Arms}
          {os : List (Option Insts)} {o : Option Insts} → b x ≢ 0 → In x (free_in_all gs)
          → OrderedArms O Q b x gs arms os → Joined O b (reachable os) o
          → Ordered O Q b (F.Or gs) (Switch x arms) o
      -- A condition binds nothing that occurs outside it and its then part. The variables that are
      -- free in a condition or a negation count as outside its parts.
      ite :
          {O Q : List ℕ} {b c : Insts} {vs : List ℕ} {g h k : Flat_goal} {n t u : Node}
          {o o' o'' : Option Insts} → Apart vs O
          → OrderedNode (O ++ (without (free_in g) vs ++ variables_of h))
          (Q ++ variables_of_node t) b g n (Some c) → BindsNone (without (free_in g) vs) b (Some c)
          → OrderedNode (O ++ variables_of g) (Q ++ variables_of_node n) c h t o
          → OrderedNode O Q b k u o' → Joined O b (reachable (o ∷ o' ∷ [])) o''
          → Ordered O Q b (F.If vs g h k) (Ite vs n t u) o''
      -- where the point after a condition is unreachable, its then part stands as the empty
      -- conjunction
      ite_never :
          {O Q : List ℕ} {b : Insts} {vs : List ℕ} {g h k : Flat_goal} {n t u : Node}
          {o o'' : Option Insts} → Apart vs O
          → OrderedNode (O ++ (without (free_in g) vs ++ variables_of h)) Q b g n None → IsEmpty t
          → OrderedNode O Q b k u o → Joined O b (reachable (o ∷ [])) o''
          → Ordered O Q b (F.If vs g h k) (Ite vs n t u) o''
      neg :
          {O Q : List ℕ} {b : Insts} {g : Flat_goal} {n : Node} {o : Option Insts}
          → OrderedNode (O ++ free_in g) Q b g n o → BindsNone (free_in g) b o
          → Ordered O Q b (F.Not g) (Not n) (Some b)
      some :
          {O Q : List ℕ} {b : Insts} {vs : List ℕ} {g : Flat_goal} {n : Node} {o : Option Insts}
          → Apart vs O → OrderedNode O Q b g n o → Ordered O Q b (F.Exists vs g) (Exists vs n) o

    -- with the kept changes and the mark for pruned goals
    pub data OrderedNode : (O Q : List ℕ) → Insts → Flat_goal → Node → Option Insts → Type 0 where
      kept :
          {O Q : List ℕ} {b : Insts} {g : Flat_goal} {s : Scheduled} {changes : List (ℕ × ℕ)}
          {det : Det} {o : Option Insts} → Ordered O Q b g s o → KeepsChanges b o changes
          → OrderedNode O Q b g (node s changes det (is_pruned Q b o)) o

    -- the parts of a conjunction in the order in which they run; after an unreachable point the
    -- rest is dropped
    pub data OrderedAll : (O Q : List ℕ) → Insts → Flat_goals → Nodes → Option Insts → Type 0 where
      done : {O Q : List ℕ} {b : Insts} → OrderedAll O Q b no_flat no_nodes (Some b)
      dropped :
          {O Q : List ℕ} {b : Insts} {g : Flat_goal} {gs rest : Flat_goals} {n : Node}
          → Picks gs g rest → OrderedNode (O ++ variables_of_all rest) Q b g n None
          → OrderedAll O Q b gs (node_then n no_nodes) None
      next :
          {O Q : List ℕ} {b c : Insts} {g : Flat_goal} {gs rest : Flat_goals} {n : Node}
          {ns : Nodes} {o : Option Insts} → Picks gs g rest
          → OrderedNode (O ++ variables_of_all rest) (Q ++ variables_of_nodes ns) b g n (Some c)
          → OrderedAll (O ++ variables_of g) (Q ++ variables_of_node n) c rest ns o
          → OrderedAll O Q b gs (node_then n ns) o
      -- an implied output of a builtin stands as a fresh variable of its type, which is tested
      -- directly after the builtin
      implied_outputs :
          {O Q : List ℕ} {b c : Insts} {p : ℕ} {op : Builtin} {xs zs : List ℕ}
          {gs rest : Flat_goals} {changes : List (ℕ × ℕ)} {d : Det} {ns : Nodes}
          {o : Option Insts} (tests : List (ℕ × ℕ)) → Picks gs (F.Call p xs) rest
          → (S.world.source.preds p).builtin ≡ Some op → builtin_most op ≡ One
          → Freshened 0 (implied_places 0 (modes_of op) xs (λ x. is_bound (b x))) xs zs tests
          → NoneDead xs b → Distinct (firsts tests)
          → Apart (firsts tests) (O ++ (Q ++ variables_of_all gs)) → TestsInOrder tests c
          → Usable (modes_of op) zs b
          → implied_places 0 (modes_of op) zs (λ x. is_bound (b x)) ≡ []
          → After (modes_of op) zs b c → KeepsChanges b (Some c) changes
          → OrderedAll (O ++ (xs ++ zs)) (Q ++ (xs ++ zs)) c rest ns o
          → OrderedAll O Q b gs
          (node_then
          (node (Apply op (at_inputs (inputs_of op) zs) (at_outputs (inputs_of op) zs)) changes d
          (is_pruned (Q ++ variables_of_nodes (tested_by tests ns)) b (Some c)))
          (tested_by tests ns)) o

    -- disjuncts, with the insts after each
    pub data OrderedAny :
        (O Q : List ℕ) → Insts → Flat_goals → Nodes → List (Option Insts) → Type 0 where
      no_other : {O Q : List ℕ} {b : Insts} → OrderedAny O Q b no_flat no_nodes []
      either :
          {O Q : List ℕ} {b : Insts} {g : Flat_goal} {gs : Flat_goals} {n : Node} {ns : Nodes}
          {o : Option Insts} {os : List (Option Insts)} → OrderedNode O Q b g n o
          → OrderedAny O Q b gs ns os → OrderedAny O Q b (flat_then g gs) (node_then n ns) (o ∷ os)

    -- the arms of a switch on a variable, with the insts after each: the disjuncts of one symbol or
    -- constant share an arm, in order
    pub data OrderedArms :
        (O Q : List ℕ) → Insts → ℕ → Flat_goals → Arms → List (Option Insts) → Type 0 where
      no_arm : {O Q : List ℕ} {b : Insts} {x : ℕ} → OrderedArms O Q b x no_flat no_arms []
      arm :
          {O Q : List ℕ} {b : Insts} {x : ℕ} {gs hs ks : Flat_goals} {l : Label} {n : Node}
          {arms : Arms} {o : Option Insts} {os : List (Option Insts)} → Parts gs hs ks → IsLabel l
          → Opens x l n → AbsentFrom l arms → OrderedNode O Q b (arm_goal hs) n o
          → OrderedArms O Q b x ks arms os → OrderedArms O Q b x gs (arm_then l n arms) (o ∷ os)

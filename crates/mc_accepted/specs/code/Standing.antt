-- Ordered goals without what is told of them later: no determinisms, no marks, and builtins' fresh
-- variables as the order numbers them, of whatever types. O is what occurs outside; n and m are the
-- next numbers for a variable before and after. It stands between the order that is computed and the
-- relation of ordered goals.
use Rattle.std.specs.Prelude.{◌≡◌, ◌≢◌, ℕ, ◌+◌, ◌<◌, List, [], ◌∷◌, ◌++◌, map, length, Option, Some, None, false, if◌then◌else◌}
use Rattle.mc_program.specs.Values.{Val}
use Rattle.mc_program.specs.Programs.{TypeTerm}
use Rattle.mc_model.specs.Insts.{AllowsSymbol, AllowsConstants}
use Rattle.mc_model.specs.Outcomes.{inputs_of}
use Rattle.mc_model.specs.Flat as F
use Rattle.mc_model.specs.Flat.{Flat_goal, Flat_goals, no_flat, flat_then, variables_of, variables_of_all, free_in}
use Rattle.mc_model.specs.Lists.{In, without}
use Rattle.mc_model.specs.Scheduled.{Node, Scheduled, Conj, Disj, Ite, Not, Exists, Assign, Test, Build, Take, Const, TestConst, Call, Apply, Nodes, no_nodes, node_then}
use Rattle.mc_model.specs.Stream.{is_bound}
use Rattle.mc_model.specs.Good.{System}
use Rattle.mc_accepted.specs.Inclusion.{Merged}
use Rattle.mc_accepted.specs.Ordered.{Insts, also, is_state, modes_of, modes_of_procedure, Picks, implied_places, at_inputs, at_outputs, reachable, unless_never, builtin_most, take_all, AllBound, BindsNone, NoneDead, NoneState, IsSymbolOver, Usable, After}
use Rattle.mc_accepted.specs.Unmarked.{unmarked}
use Rattle.mc_accepted.specs.Arranged.{fresh_at, tests_at, test_nodes, nodes_before, changing}
use Rattle.mc_accepted.specs.NodeOracle.{other_node}
use Rattle.mc_program.specs.declared.builtin.Builtin.{Builtin}

module _ (S : System) (T : ℕ → TypeTerm) where
  abbrev pub implied_of : Builtin → List ℕ → Insts → List ℕ
  implied_of op xs b = implied_places 0 (modes_of op) xs (λ x. is_bound (b x))

  -- the arguments with fresh variables at implied places, and the tests of those
  abbrev pub freshened : (n : ℕ) → Insts → Builtin → List ℕ → List ℕ
  freshened n b op xs = fresh_at 0 (implied_of op xs b) xs n

  abbrev pub fresh_tests : (n : ℕ) → Insts → Builtin → List ℕ → List (ℕ × ℕ)
  fresh_tests n b op xs = tests_at 0 (implied_of op xs b) xs n

  -- a builtin with implied outputs, with the fresh variables that stand for them, and with their
  -- tests
  pub record Freshly (n : ℕ) (b c : Insts) (p : ℕ) (op : Builtin) (xs : List ℕ) : Type 0 where
    pub builtin : (S.world.source.preds p).builtin ≡ Some op
    pub usable : Usable S T (modes_of op) xs b
    pub alive : NoneDead S T xs b
    pub implies : implied_of op xs b ≢ []
    pub after : After S T (modes_of op) (freshened n b op xs) b c

  -- a goal with the insts that it changes
  abbrev pub keeping : (next : ℕ) → Insts → Option Insts → Scheduled → Node
  keeping n b o s = changing other_node n b o s

  abbrev pub fresh_nodes : (n : ℕ) → (b c : Insts) → Builtin → List ℕ → Nodes
  fresh_nodes n b c op xs =
      let zs = freshened n b op xs in
      let ts = fresh_tests n b op xs in
      node_then
      (keeping (n + length ts) b (Some c)
      (Apply op (at_inputs (inputs_of op) zs) (at_outputs (inputs_of op) zs)))
      (test_nodes ts)

  -- After branches a variable of the goal that occurs outside has the merged inst, any other of the
  -- goal is free, and no other variable is changed.
  abbrev pub JoinedOwn : (own O : List ℕ) → Insts → List Insts → Option Insts → Type 0
  JoinedOwn own O b [] o = o ≡ None
  JoinedOwn own O b (c ∷ ends) None = ⊥
  JoinedOwn own O b (c ∷ ends) (Some e) =
      (x : ℕ)
      → (In x own
      → In x O
      → Merged S.world.source S.insts (map (λ (d : Insts). d x) (c ∷ ends)) (e x) (T x))
      × (In x own → (In x O → ⊥) → e x ≡ 0)
      × ((In x own → ⊥) → e x ≡ b x)

  mutual
    pub data Standing :
        (O : List ℕ) → (n : ℕ) → Insts → Flat_goal → Node → Option Insts → (m : ℕ) → Type 0 where
      assign :
          {O : List ℕ} {n : ℕ} {b : Insts} {x y : ℕ} → b x ≡ 0 → b y ≢ 0
          → NoneDead S T (x ∷ y ∷ []) b
          → Standing O n b (F.Same x y)
          (keeping n b (Some (also x (b y) (if is_state (T y) then also y 3 b else b))) (Assign x y))
          (Some (also x (b y) (if is_state (T y) then also y 3 b else b))) n
      assign_back :
          {O : List ℕ} {n : ℕ} {b : Insts} {x y : ℕ} → b x ≡ 0 → b y ≢ 0
          → NoneDead S T (x ∷ y ∷ []) b
          → Standing O n b (F.Same y x)
          (keeping n b (Some (also x (b y) (if is_state (T y) then also y 3 b else b))) (Assign x y))
          (Some (also x (b y) (if is_state (T y) then also y 3 b else b))) n
      test :
          {O : List ℕ} {n : ℕ} {b : Insts} {x y : ℕ} → b x ≢ 0 → b y ≢ 0
          → is_state (T x) ≡ false → NoneDead S T (x ∷ y ∷ []) b
          → Standing O n b (F.Same x y) (keeping n b (Some b) (Test x y)) (Some b) n
      build :
          {O : List ℕ} {n : ℕ} {b : Insts} {x s i : ℕ} {ys : List ℕ} → b x ≡ 0
          → AllBound ys b → NoneState S T ys → NoneDead S T ys b
          → IsSymbolOver S T i s (map b ys)
          → Standing O n b (F.Made x s ys) (keeping n b (Some (also x i b)) (Build x s ys))
          (Some (also x i b)) n
      take :
          {O : List ℕ} {n : ℕ} {b : Insts} {x s i : ℕ} {ys is : List ℕ} → b x ≢ 0
          → NoneDead S T (x ∷ ys) b
          → AllowsSymbol S.world.source (S.insts (b x)) (b x) s (λ js. js ≡ is)
          → IsSymbolOver S T i s is
          → Standing O n b (F.Made x s ys)
          (keeping n b (Some (take_all ys is (also x i b))) (Take x s ys))
          (Some (take_all ys is (also x i b))) n
      take_never :
          {O : List ℕ} {n : ℕ} {b : Insts} {x s : ℕ} {ys : List ℕ} → b x ≢ 0
          → NoneDead S T (x ∷ ys) b
          → (AllowsSymbol S.world.source (S.insts (b x)) (b x) s (λ js. Unit {0}) → ⊥)
          → Standing O n b (F.Made x s ys) (keeping n b None (Take x s ys)) None n
      put :
          {O : List ℕ} {n : ℕ} {b : Insts} {x : ℕ} {v : Val} → b x ≡ 0
          → Standing O n b (F.Is x v) (keeping n b (Some (also x 1 b)) (Const x v))
          (Some (also x 1 b)) n
      test_constant :
          {O : List ℕ} {n : ℕ} {b : Insts} {x : ℕ} {v : Val} → b x ≢ 0
          → NoneDead S T (x ∷ []) b → AllowsConstants (S.insts (b x))
          → Standing O n b (F.Is x v) (keeping n b (Some b) (TestConst x v)) (Some b) n
      test_never :
          {O : List ℕ} {n : ℕ} {b : Insts} {x : ℕ} {v : Val} → b x ≢ 0
          → NoneDead S T (x ∷ []) b → (AllowsConstants (S.insts (b x)) → ⊥)
          → Standing O n b (F.Is x v) (keeping n b None (TestConst x v)) None n
      call :
          {O : List ℕ} {n : ℕ} {b c : Insts} {p : ℕ} {xs : List ℕ} → p < S.count
          → Usable S T (modes_of_procedure (S.procs p)) xs b → NoneDead S T xs b
          → After S T (modes_of_procedure (S.procs p)) xs b c
          → Standing O n b (F.Call (S.procs p).pred xs)
          (keeping n b (unless_never (S.procs p).det.most c)
          (Call p xs (implied_places 0 (modes_of_procedure (S.procs p)) xs (λ x. is_bound (b x)))
          false))
          (unless_never (S.procs p).det.most c) n
      apply :
          {O : List ℕ} {n : ℕ} {b c : Insts} {p : ℕ} {op : Builtin} {xs : List ℕ}
          → (S.world.source.preds p).builtin ≡ Some op → Usable S T (modes_of op) xs b
          → NoneDead S T xs b → implied_of op xs b ≡ [] → After S T (modes_of op) xs b c
          → Standing O n b (F.Call p xs)
          (keeping n b (unless_never (builtin_most op) c)
          (Apply op (at_inputs (inputs_of op) xs) (at_outputs (inputs_of op) xs)))
          (unless_never (builtin_most op) c) n
      apply_freshly :
          {O : List ℕ} {n : ℕ} {b c : Insts} {p : ℕ} {op : Builtin} {xs : List ℕ}
          → Freshly n b c p op xs
          → Standing O n b (F.Call p xs)
          (keeping (n + length (fresh_tests n b op xs)) b (Some c) (Conj (fresh_nodes n b c op xs)))
          (Some c)
          (n + length (fresh_tests n b op xs))
      conj :
          {O : List ℕ} {n m : ℕ} {b : Insts} {gs : Flat_goals} {ns : Nodes} {o : Option Insts}
          → StandingAll O n b gs ns o m → Standing O n b (F.And gs) (keeping m b o (Conj ns)) o m
      disj :
          {O : List ℕ} {n m : ℕ} {b : Insts} {gs : Flat_goals} {ns : Nodes}
          {os : List (Option Insts)} {o : Option Insts} → StandingAny O n b gs ns os m
          → JoinedOwn (variables_of_all gs) O b (reachable os) o
          → Standing O n b (F.Or gs) (keeping m b o (Disj ns)) o m
      ite :
          {O : List ℕ} {n n1 n2 m : ℕ} {b c : Insts} {vs : List ℕ} {g h k : Flat_goal}
          {x y z : Node} {o o' o'' : Option Insts}
          → Standing (O ++ (without (free_in g) vs ++ variables_of h)) n b g x (Some c) n1
          → BindsNone (without (free_in g) vs) b (Some c)
          → Standing (O ++ variables_of g) n1 c h y o n2 → Standing O n2 b k z o' m
          → JoinedOwn (variables_of (F.If vs g h k)) O b (reachable (o ∷ o' ∷ [])) o''
          → Standing O n b (F.If vs g h k) (keeping m b o'' (Ite vs x y z)) o'' m
      ite_never :
          {O : List ℕ} {n n1 m : ℕ} {b : Insts} {vs : List ℕ} {g h k : Flat_goal} {x z : Node}
          {o o'' : Option Insts}
          → Standing (O ++ (without (free_in g) vs ++ variables_of h)) n b g x None n1
          → Standing O n1 b k z o m
          → JoinedOwn (variables_of (F.If vs g h k)) O b (reachable (o ∷ [])) o''
          → Standing O n b (F.If vs g h k)
          (keeping m b o'' (Ite vs x (unmarked (Conj no_nodes)) z)) o'' m
      neg :
          {O : List ℕ} {n m : ℕ} {b : Insts} {g : Flat_goal} {x : Node} {o : Option Insts}
          → Standing (O ++ free_in g) n b g x o m → BindsNone (free_in g) b o
          → Standing O n b (F.Not g) (keeping m b (Some b) (Not x)) (Some b) m
      some :
          {O : List ℕ} {n m : ℕ} {b : Insts} {vs : List ℕ} {g : Flat_goal} {x : Node}
          {o : Option Insts} → Standing O n b g x o m
          → Standing O n b (F.Exists vs g) (keeping m b o (Exists vs x)) o m

    pub data StandingAll :
        (O : List ℕ) → (n : ℕ) → Insts → Flat_goals → Nodes → Option Insts → (m : ℕ)
        → Type 0 where
      done : {O : List ℕ} {n : ℕ} {b : Insts} → StandingAll O n b no_flat no_nodes (Some b) n
      dropped :
          {O : List ℕ} {n m : ℕ} {b : Insts} {g : Flat_goal} {gs rest : Flat_goals} {x : Node}
          → Picks gs g rest → Standing (O ++ variables_of_all rest) n b g x None m
          → StandingAll O n b gs (node_then x no_nodes) None m
      next :
          {O : List ℕ} {n n1 m : ℕ} {b c : Insts} {g : Flat_goal} {gs rest : Flat_goals}
          {x : Node} {ns : Nodes} {o : Option Insts} → Picks gs g rest
          → Standing (O ++ variables_of_all rest) n b g x (Some c) n1
          → StandingAll (O ++ variables_of g) n1 c rest ns o m
          → StandingAll O n b gs (node_then x ns) o m
      implied_outputs :
          {O : List ℕ} {n m : ℕ} {b c : Insts} {p : ℕ} {op : Builtin} {xs : List ℕ}
          {gs rest : Flat_goals} {ns : Nodes} {o : Option Insts} → Picks gs (F.Call p xs) rest
          → Freshly n b c p op xs
          → StandingAll (O ++ (xs ++ freshened n b op xs)) (n + length (fresh_tests n b op xs)) c
          rest ns o m
          → StandingAll O n b gs (nodes_before (fresh_nodes n b c op xs) ns) o m

    pub data StandingAny :
        (O : List ℕ) → (n : ℕ) → Insts → Flat_goals → Nodes → List (Option Insts) → (m : ℕ)
        → Type 0 where
      no_other : {O : List ℕ} {n : ℕ} {b : Insts} → StandingAny O n b no_flat no_nodes [] n
      either :
          {O : List ℕ} {n n1 m : ℕ} {b : Insts} {g : Flat_goal} {gs : Flat_goals} {x : Node}
          {ns : Nodes} {o : Option Insts} {os : List (Option Insts)} → Standing O n b g x o n1
          → StandingAny O n1 b gs ns os m
          → StandingAny O n b (flat_then g gs) (node_then x ns) (o ∷ os) m

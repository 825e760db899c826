-- Goals of which one follows the other have one determinism, and break one rule.
use Rattle.std.proofs.Common.{◌≡◌, ℕ, Bool, true, cond, not, nat_eq, ◌&&◌, ◌||◌, List, [], ◌∷◌, ◌++◌, Option, Some, None, refl, ap, ap₂, ◌∙◌}
use Rattle.std.specs.Option.{option_or}
use Rattle.mc_program.specs.Programs.{TypeTerm, Source}
use Rattle.std.specs.List.{list_all}
use Rattle.mc_source.specs.Determinism.{Determinism, row_of, pruned, is_zero, greater}
use Rattle.mc_source.specs.declared.det.Det.{Det}
use Rattle.mc_source.specs.declared.det.Most.{Most}
use Rattle.mc_source.specs.declared.det.Most.TheVariants.{Zero, One}
use Rattle.mc_model.specs.Good.{System}
use Rattle.mc_model.specs.Stream.{is_bound}
use Rattle.mc_model.specs.Scheduled.{for_symbol, for_constant, Node, node, Scheduled, Conj, Disj, Switch, Ite, Not, Exists, Assign, Test, Build, Take, Const, TestConst, Call, Apply, Nodes, Arms}
use Rattle.mc_accepted.specs.Ordered.{Insts, binds_one, variables_of_node, variables_of_scheduled, variables_of_nodes, variables_of_arms}
use Rattle.mc_accepted.specs.Determined.{Known, learned, knows_symbol, insts_after, tested, then_tests, allowed_in, is_alone, take_determinism, has_arm, misses, determined, determined_in, determined_all, determined_any, determined_arms, none_fails, no_disjunct_fails, is_io, is_io_in, one_is_io, arm_is_io}
use Rattle.mc_accepted.specs.DeterminismFaults.{is_empty, is_wrong_io, condition_first, first_misplaced, first_misplaced_in, misplaced_of_all, misplaced_of_each, misplaced_of_arms, misplaces_io, misplaces_io_in, all_misplace_io, each_misplaces_io, arms_misplace_io}
use Rattle.mc_accepted.specs.MergedArms.{never_ends, never_ends_in, one_never_ends, each_never_ends, each_arm_never_ends}
use Rattle.mc_accepted.specs.PrunedMarks.{mark_of}
use Rattle.laws_graphs.specs.Follows.{IsAtom, InstsFollow, Follows, follows, FollowsIn, atom, conj, disj, switch, ite, negated, some, AllFollow, no_more, and_then, EachFollows, no_other, either, ArmsFollow, no_arm, arm, Told}
use Rattle.mc_source.specs.Determinism as D

binds-alike : (xs : List ℕ) (b c b' c' : Insts) → ((x : ℕ) → is_bound (b x) ≡ is_bound (b' x)) → ((x : ℕ) → is_bound (c x) ≡ is_bound (c' x)) → binds_one xs b c ≡ binds_one xs b' c'
binds-alike [] b c b' c' f g = refl
binds-alike (x ∷ xs) b c b' c' f g = ap₂ (λ (t u : Bool). cond t true u) (ap₂ (λ (t u : Bool). not t && u) (f x) (g x)) (binds-alike xs b c b' c' f g)

tested-alike : (ys : List ℕ) (f g : ℕ → Bool) → ((x : ℕ) → f x ≡ g x) → tested ys f ≡ tested ys g
tested-alike [] f g h = refl
tested-alike (y ∷ ys) f g h = ap₂ (λ (t u : Bool). t || u) (h y) (tested-alike ys (λ x. cond (nat_eq x y) true (f x)) (λ x. cond (nat_eq x y) true (g x)) (λ x. ap (cond (nat_eq x y) true) (h x)))

ite-same : (x x' y y' z z' : Determinism) → x ≡ x' → y ≡ y' → z ≡ z' → D.ite x y z ≡ D.ite x' y' z'
ite-same x x' y y' z z' e f g = ap (λ (d : Determinism). D.ite d y z) e ∙ ap₂ (λ (d k : Determinism). D.ite x' d k) f g

module _ (P : Source) (T : ℕ → TypeTerm) (first : ℕ) (R : TypeTerm → ℕ → ℕ → Type 0) where
  abbrev F : Insts → Insts → Node → Node → Type 0
  F b c n m = Follows P T first R b c n m

  abbrev FI : Insts → Insts → Scheduled → Scheduled → Type 0
  FI b c s r = FollowsIn P T first R b c s r

  abbrev FA : Insts → Insts → Nodes → Nodes → Type 0
  FA b c ns ms = AllFollow P T first R b c ns ms

  abbrev FE : Insts → Insts → Nodes → Nodes → Type 0
  FE b c ns ms = EachFollows P T first R b c ns ms

  abbrev FR : Insts → Insts → Arms → Arms → Type 0
  FR b c ns ms = ArmsFollow P T first R b c ns ms

  abbrev IF : Insts → Insts → Type 0
  IF b c = InstsFollow P T first R b c

  pub after-follow : (b c : Insts) (n m : Node) → F b c n m → IF (insts_after n b) (insts_after m c)
  after-follow b c n m (follows f a) = a

  -- ---- variables
  mutual
    pub variables-same : (b c : Insts) (n m : Node) → F b c n m → variables_of_node n ≡ variables_of_node m
    variables-same b c n m (follows {s = s} {r = r} f a) = variables-in-same b c s r f

    variables-in-same : (b c : Insts) (s r : Scheduled) → FI b c s r → variables_of_scheduled s ≡ variables_of_scheduled r
    variables-in-same b c s r (atom a) = refl
    variables-in-same b c s r (conj f) = variables-all-same b c _ _ f
    variables-in-same b c s r (disj f) = variables-each-same b c _ _ f
    variables-in-same b c s r (switch {x = x} lt f) = ap (λ (xs : List ℕ). x ∷ xs) (variables-arms-same b c _ _ f)
    variables-in-same b c s r (ite {vs = vs} f g h) = ap₂ (λ (xs ys : List ℕ). vs ++ (xs ++ ys)) (variables-same b c _ _ f) (ap₂ (λ (xs ys : List ℕ). xs ++ ys) (variables-same _ _ _ _ g) (variables-same b c _ _ h))
    variables-in-same b c s r (negated f) = variables-same b c _ _ f
    variables-in-same b c s r (some {vs = vs} f) = ap (λ (xs : List ℕ). vs ++ xs) (variables-same b c _ _ f)

    pub variables-all-same : (b c : Insts) (ns ms : Nodes) → FA b c ns ms → variables_of_nodes ns ≡ variables_of_nodes ms
    variables-all-same b c ns ms no_more = refl
    variables-all-same b c ns ms (and_then f g) = ap₂ (λ (xs ys : List ℕ). xs ++ ys) (variables-same b c _ _ f) (variables-all-same _ _ _ _ g)

    variables-each-same : (b c : Insts) (ns ms : Nodes) → FE b c ns ms → variables_of_nodes ns ≡ variables_of_nodes ms
    variables-each-same b c ns ms no_other = refl
    variables-each-same b c ns ms (either f g) = ap₂ (λ (xs ys : List ℕ). xs ++ ys) (variables-same b c _ _ f) (variables-each-same b c _ _ g)

    variables-arms-same : (b c : Insts) (ns ms : Arms) → FR b c ns ms → variables_of_arms ns ≡ variables_of_arms ms
    variables-arms-same b c ns ms no_arm = refl
    variables-arms-same b c ns ms (arm f g) = ap₂ (λ (xs ys : List ℕ). xs ++ ys) (variables-same b c _ _ f) (variables-arms-same b c _ _ g)

  has-arm-same : (b c : Insts) (s : ℕ) (S U : System) (ns ms : Arms) → FR b c ns ms → has_arm S T s ns ≡ has_arm U T s ms
  has-arm-same b c s S U ns ms no_arm = refl
  has-arm-same b c s S U ns ms (arm {l = for_symbol f} x g) = ap (λ (t : Bool). nat_eq f s || t) (has-arm-same b c s S U _ _ g)
  has-arm-same b c s S U ns ms (arm {l = for_constant v} x g) = has-arm-same b c s S U _ _ g

  misses-same : (b c : Insts) (o : Option (List ℕ)) (S U : System) (ns ms : Arms) → FR b c ns ms → misses S T o ns ≡ misses U T o ms
  misses-same b c None S U ns ms f = refl
  misses-same b c (Some ss) S U ns ms f = ap not (each ss)
    where
      each : (ss : List ℕ) → list_all (λ s. has_arm S T s ns) ss ≡ list_all (λ s. has_arm U T s ms) ss
      each [] = refl
      each (s ∷ ss) = ap₂ (λ (t u : Bool). t && u) (has-arm-same b c s S U ns ms f) (each ss)

  module _ (S U : System) (told : Told P T first R S U) where
    -- ---- determinism
    take-same : (b c : Insts) (known : Known) (x s : ℕ) (ys : List ℕ) → IF b c → IsAtom P T first (Take x s ys) → take_determinism S T b known x s ys ≡ take_determinism U T c known x s ys
    take-same b c known x s ys h a =
        ap₂ (λ (p : Bool) (q : Most). record { can_fail = p; most = q })
        (ap₂ (λ (p : Bool) (o : Option (List ℕ)). p || not (is_alone S T s o || knows_symbol (known x) s)) (tested-alike ys (λ y. is_bound (b y)) (λ y. is_bound (c y)) h.bound) (told.allowed (T x) (b x) (c x) (h.own x a.0)))
        (ap (λ (p : Bool). cond p Zero One) (told.excluded (T x) _ s (b x) (c x) a.2 (h.own x a.0)))

    atom-same : (b c : Insts) (known : Known) (s : Scheduled) → IF b c → IsAtom P T first s → determined_in S T b known s ≡ determined_in U T c known s
    atom-same b c known (Conj ns) h a = absurd a
    atom-same b c known (Disj ns) h a = absurd a
    atom-same b c known (Switch x ns) h a = absurd a
    atom-same b c known (Ite vs g k l) h a = absurd a
    atom-same b c known (Not n) h a = absurd a
    atom-same b c known (Exists vs n) h a = absurd a
    atom-same b c known (Assign x y) h a = refl
    atom-same b c known (Test x y) h a = refl
    atom-same b c known (Build x s ys) h a = refl
    atom-same b c known (Take x s ys) h a = take-same b c known x s ys h a
    atom-same b c known (Const x v) h a = refl
    atom-same b c known (TestConst x v) h a = refl
    atom-same b c known (Call p xs is l) h a = ap (λ (d : Det). then_tests is (row_of d)) (told.dets p)
    atom-same b c known (Apply op xs ys) h a = refl

    mutual
      pub determined-same : (b c : Insts) (known : Known) (n m : Node) → IF b c → F b c n m → determined S T b known n ≡ determined U T c known m
      determined-same b c known n m h (follows {s = s} {r = r} {m = t} f a) = ap (λ (d : Determinism). cond t (pruned d) d) (determined-in-same b c known s r h f)

      determined-in-same : (b c : Insts) (known : Known) (s r : Scheduled) → IF b c → FI b c s r → determined_in S T b known s ≡ determined_in U T c known r
      determined-in-same b c known s r h (atom a) = atom-same b c known s h a
      determined-in-same b c known s r h (conj f) = determined-all-same b c known _ _ h f
      determined-in-same b c known s r h (disj f) = determined-any-same b c known _ _ h f
      determined-in-same b c known s r h (switch {x = x} {ns = ns} {ms = ms} lt f) =
          let o = told.allowed (T x) (b x) (c x) (h.own x lt) in
          ap₂ (λ (p : Bool) (d : Determinism). record { can_fail = p || d.can_fail; most = d.most })
          (ap (λ (o : Option (List ℕ)). misses S T o ns) o ∙ misses-same b c (allowed_in U T (T x) (c x)) S U ns ms f) (determined-arms-same b c known x _ _ h f)
      determined-in-same b c known s r h (ite f g k) =
          ite-same _ _ _ _ _ _ (determined-same b c known _ _ h f) (determined-same _ _ known _ _ (after-follow b c _ _ f) g) (determined-same b c known _ _ h k)
      determined-in-same b c known s r h (negated f) = ap D.negated (determined-same b c known _ _ h f)
      determined-in-same b c known s r h (some f) = determined-same b c known _ _ h f

      determined-all-same : (b c : Insts) (known : Known) (ns ms : Nodes) → IF b c → FA b c ns ms → determined_all S T b known ns ≡ determined_all U T c known ms
      determined-all-same b c known ns ms h no_more = refl
      determined-all-same b c known ns ms h (and_then f g) = ap₂ D.conj (determined-same b c known _ _ h f) (determined-all-same _ _ known _ _ (after-follow b c _ _ f) g)

      determined-any-same : (b c : Insts) (known : Known) (ns ms : Nodes) → IF b c → FE b c ns ms → determined_any S T b known ns ≡ determined_any U T c known ms
      determined-any-same b c known ns ms h no_other = refl
      determined-any-same b c known ns ms h (either f g) = ap₂ D.disj (determined-same b c known _ _ h f) (determined-any-same b c known _ _ h g)

      determined-arms-same : (b c : Insts) (known : Known) (x : ℕ) (ns ms : Arms) → IF b c → FR b c ns ms → determined_arms S T b known x ns ≡ determined_arms U T c known x ms
      determined-arms-same b c known x ns ms h no_arm = refl
      determined-arms-same b c known x ns ms h (arm {l = l} f g) =
          ap₂ (λ (d e : Determinism). record { can_fail = d.can_fail || e.can_fail; most = greater d.most e.most }) (determined-same b c (learned x l known) _ _ h f) (determined-arms-same b c known x _ _ h g)

    pub none-fails-same : (b c : Insts) (known : Known) (ns ms : Nodes) → IF b c → FA b c ns ms → none_fails S T b known ns ≡ none_fails U T c known ms
    none-fails-same b c known ns ms h no_more = refl
    none-fails-same b c known ns ms h (and_then f g) = ap₂ (λ (d : Determinism) (t : Bool). not d.can_fail && t) (determined-same b c known _ _ h f) (none-fails-same _ _ known _ _ (after-follow b c _ _ f) g)

    no-disjunct-same : (b c : Insts) (known : Known) (ns ms : Nodes) → IF b c → FE b c ns ms → no_disjunct_fails S T b known ns ≡ no_disjunct_fails U T c known ms
    no-disjunct-same b c known ns ms h no_other = refl
    no-disjunct-same b c known ns ms h (either f g) = ap₂ (λ (d : Determinism) (t : Bool). not d.can_fail && t) (determined-same b c known _ _ h f) (no-disjunct-same b c known _ _ h g)

    -- ---- io
    io-atom-same : (s : Scheduled) → IsAtom P T first s → is_io_in S T s ≡ is_io_in U T s
    io-atom-same (Conj ns) a = absurd a
    io-atom-same (Disj ns) a = absurd a
    io-atom-same (Switch x ns) a = absurd a
    io-atom-same (Ite vs g k l) a = absurd a
    io-atom-same (Not n) a = absurd a
    io-atom-same (Exists vs n) a = absurd a
    io-atom-same (Assign x y) a = refl
    io-atom-same (Test x y) a = refl
    io-atom-same (Build x s ys) a = refl
    io-atom-same (Take x s ys) a = refl
    io-atom-same (Const x v) a = refl
    io-atom-same (TestConst x v) a = refl
    io-atom-same (Call p xs is l) a = told.dead p
    io-atom-same (Apply op xs ys) a = refl

    mutual
      pub io-same : (b c : Insts) (n m : Node) → F b c n m → is_io S T n ≡ is_io U T m
      io-same b c n m (follows {s = s} {r = r} f a) = io-in-same b c s r f

      io-in-same : (b c : Insts) (s r : Scheduled) → FI b c s r → is_io_in S T s ≡ is_io_in U T r
      io-in-same b c s r (atom a) = io-atom-same s a
      io-in-same b c s r (conj f) = io-all-same b c _ _ f
      io-in-same b c s r (disj f) = io-each-same b c _ _ f
      io-in-same b c s r (switch lt f) = io-arms-same b c _ _ f
      io-in-same b c s r (ite f g k) = ap₂ (λ (p q : Bool). p || q) (io-same b c _ _ f) (ap₂ (λ (p q : Bool). p || q) (io-same _ _ _ _ g) (io-same b c _ _ k))
      io-in-same b c s r (negated f) = io-same b c _ _ f
      io-in-same b c s r (some f) = io-same b c _ _ f

      io-all-same : (b c : Insts) (ns ms : Nodes) → FA b c ns ms → one_is_io S T ns ≡ one_is_io U T ms
      io-all-same b c ns ms no_more = refl
      io-all-same b c ns ms (and_then f g) = ap₂ (λ (p q : Bool). p || q) (io-same b c _ _ f) (io-all-same _ _ _ _ g)

      io-each-same : (b c : Insts) (ns ms : Nodes) → FE b c ns ms → one_is_io S T ns ≡ one_is_io U T ms
      io-each-same b c ns ms no_other = refl
      io-each-same b c ns ms (either f g) = ap₂ (λ (p q : Bool). p || q) (io-same b c _ _ f) (io-each-same b c _ _ g)

      io-arms-same : (b c : Insts) (ns ms : Arms) → FR b c ns ms → arm_is_io S T ns ≡ arm_is_io U T ms
      io-arms-same b c ns ms no_arm = refl
      io-arms-same b c ns ms (arm f g) = ap₂ (λ (p q : Bool). p || q) (io-same b c _ _ f) (io-arms-same b c _ _ g)

    -- ---- unreachable ends
    never-atom-same : (b c : Insts) (s : Scheduled) → IF b c → IsAtom P T first s → never_ends_in S T b s ≡ never_ends_in U T c s
    never-atom-same b c (Conj ns) h a = absurd a
    never-atom-same b c (Disj ns) h a = absurd a
    never-atom-same b c (Switch x ns) h a = absurd a
    never-atom-same b c (Ite vs g k l) h a = absurd a
    never-atom-same b c (Not n) h a = absurd a
    never-atom-same b c (Exists vs n) h a = absurd a
    never-atom-same b c (Assign x y) h a = refl
    never-atom-same b c (Test x y) h a = refl
    never-atom-same b c (Build x s ys) h a = refl
    never-atom-same b c (Take x s ys) h a = told.excluded (T x) _ s (b x) (c x) a.2 (h.own x a.0)
    never-atom-same b c (Const x v) h a = refl
    never-atom-same b c (TestConst x v) h a = ap not (told.constants (T x) v (b x) (c x) a.1 (h.own x a.0))
    never-atom-same b c (Call p xs is l) h a = ap (λ (d : Det). is_zero d.most) (told.dets p)
    never-atom-same b c (Apply op xs ys) h a = refl

    mutual
      pub never-same : (b c : Insts) (n m : Node) → IF b c → F b c n m → never_ends S T b n ≡ never_ends U T c m
      never-same b c n m h (follows {s = s} {r = r} f a) = never-in-same b c s r h f

      never-in-same : (b c : Insts) (s r : Scheduled) → IF b c → FI b c s r → never_ends_in S T b s ≡ never_ends_in U T c r
      never-in-same b c s r h (atom a) = never-atom-same b c s h a
      never-in-same b c s r h (conj f) = never-all-same b c _ _ h f
      never-in-same b c s r h (disj f) = never-each-same b c _ _ h f
      never-in-same b c s r h (switch lt f) = never-arms-same b c _ _ h f
      never-in-same b c s r h (ite f g k) =
          ap₂ (λ (p q : Bool). p && q) (ap₂ (λ (p q : Bool). p || q) (never-same b c _ _ h f) (never-same _ _ _ _ (after-follow b c _ _ f) g)) (never-same b c _ _ h k)
      never-in-same b c s r h (negated f) = refl
      never-in-same b c s r h (some f) = never-same b c _ _ h f

      never-all-same : (b c : Insts) (ns ms : Nodes) → IF b c → FA b c ns ms → one_never_ends S T b ns ≡ one_never_ends U T c ms
      never-all-same b c ns ms h no_more = refl
      never-all-same b c ns ms h (and_then f g) = ap₂ (λ (p q : Bool). p || q) (never-same b c _ _ h f) (never-all-same _ _ _ _ (after-follow b c _ _ f) g)

      never-each-same : (b c : Insts) (ns ms : Nodes) → IF b c → FE b c ns ms → each_never_ends S T b ns ≡ each_never_ends U T c ms
      never-each-same b c ns ms h no_other = refl
      never-each-same b c ns ms h (either f g) = ap₂ (λ (p q : Bool). p && q) (never-same b c _ _ h f) (never-each-same b c _ _ h g)

      never-arms-same : (b c : Insts) (ns ms : Arms) → IF b c → FR b c ns ms → each_arm_never_ends S T b ns ≡ each_arm_never_ends U T c ms
      never-arms-same b c ns ms h no_arm = refl
      never-arms-same b c ns ms h (arm f g) = ap₂ (λ (p q : Bool). p && q) (never-same b c _ _ h f) (never-arms-same b c _ _ h g)

    pub mark-same : (Q : List ℕ) (b c : Insts) (n m : Node) → IF b c → F b c n m → mark_of S T Q b n ≡ mark_of U T Q c m
    mark-same Q b c n m h f = ap₂ (λ (p q : Bool). not (p || q)) (never-same b c n m h f) (binds-alike Q b (insts_after n b) c (insts_after m c) h.bound (after-follow b c n m f).bound)

    -- ---- the rules of determinism
    condition-same : (b c : Insts) (known : Known) (t : Bool) (g g' h h' : Node) → IF b c → F b c g g' → F (insts_after g b) (insts_after g' c) h h' → condition_first S T b known t g h ≡ condition_first U T c known t g' h'
    condition-same b c known t g g' h h' i f k =
        ap₂ (λ (p q : Bool). not p || q)
        (ap (λ (xs : List ℕ). binds_one xs b (insts_after g b)) (variables-same _ _ h h' k) ∙ binds-alike (variables_of_node h') b (insts_after g b) c (insts_after g' c) i.bound (after-follow b c g g' f).bound)
        (ap (λ (d : Determinism). t && not d.can_fail) (determined-same _ _ known h h' (after-follow b c g g' f) k))

    misplaced-atom-same : (b c : Insts) (known : Known) (t : Bool) (s : Scheduled) → IsAtom P T first s → first_misplaced_in S T b known t s ≡ first_misplaced_in U T c known t s
    misplaced-atom-same b c known t (Conj ns) a = absurd a
    misplaced-atom-same b c known t (Disj ns) a = absurd a
    misplaced-atom-same b c known t (Switch x ns) a = absurd a
    misplaced-atom-same b c known t (Ite vs g k l) a = absurd a
    misplaced-atom-same b c known t (Not n) a = absurd a
    misplaced-atom-same b c known t (Exists vs n) a = absurd a
    misplaced-atom-same b c known t (Assign x y) a = refl
    misplaced-atom-same b c known t (Test x y) a = refl
    misplaced-atom-same b c known t (Build x s ys) a = refl
    misplaced-atom-same b c known t (Take x s ys) a = refl
    misplaced-atom-same b c known t (Const x v) a = refl
    misplaced-atom-same b c known t (TestConst x v) a = refl
    misplaced-atom-same b c known t (Call p xs is l) a = ap (λ (d : Det). cond (d.committed && not (t && is_empty is)) (Some p) None) (told.dets p)
    misplaced-atom-same b c known t (Apply op xs ys) a = refl

    mutual
      pub misplaced-same : (b c : Insts) (known : Known) (t : Bool) (n m : Node) → IF b c → F b c n m → first_misplaced S T b known t n ≡ first_misplaced U T c known t m
      misplaced-same b c known t n m h (follows {s = s} {r = r} {m = p} f a) = misplaced-in-same b c known (t || p) s r h f

      misplaced-in-same : (b c : Insts) (known : Known) (t : Bool) (s r : Scheduled) → IF b c → FI b c s r → first_misplaced_in S T b known t s ≡ first_misplaced_in U T c known t r
      misplaced-in-same b c known t s r h (atom a) = misplaced-atom-same b c known t s a
      misplaced-in-same b c known t s r h (conj f) = misplaced-all-same b c known t _ _ h f
      misplaced-in-same b c known t s r h (disj f) = misplaced-each-same b c known t _ _ h f
      misplaced-in-same b c known t s r h (switch {x = x} lt f) = misplaced-arms-same b c known t x _ _ h f
      misplaced-in-same b c known t s r h (ite {g = g} {h = l} {g' = g'} {h' = l'} f k e) =
          ap₂ (λ (p q : Option ℕ). option_or p q)
          (ap (λ (u : Bool). first_misplaced S T b known u g) (condition-same b c known t g g' l l' h f k) ∙ misplaced-same b c known (condition_first U T c known t g' l') g g' h f)
          (ap₂ (λ (p q : Option ℕ). option_or p q) (misplaced-same _ _ known t _ _ (after-follow b c _ _ f) k) (misplaced-same b c known t _ _ h e))
      misplaced-in-same b c known t s r h (negated f) = misplaced-same b c known true _ _ h f
      misplaced-in-same b c known t s r h (some f) = misplaced-same b c known t _ _ h f

      misplaced-all-same : (b c : Insts) (known : Known) (t : Bool) (ns ms : Nodes) → IF b c → FA b c ns ms → misplaced_of_all S T b known t ns ≡ misplaced_of_all U T c known t ms
      misplaced-all-same b c known t ns ms h no_more = refl
      misplaced-all-same b c known t ns ms h (and_then {n = n} {m = m} f g) =
          ap₂ (λ (p q : Option ℕ). option_or p q)
          (ap (λ (u : Bool). first_misplaced S T b known (t && u) n) (none-fails-same _ _ known _ _ (after-follow b c _ _ f) g) ∙ misplaced-same b c known _ n m h f)
          (misplaced-all-same _ _ known t _ _ (after-follow b c _ _ f) g)

      misplaced-each-same : (b c : Insts) (known : Known) (t : Bool) (ns ms : Nodes) → IF b c → FE b c ns ms → misplaced_of_each S T b known t ns ≡ misplaced_of_each U T c known t ms
      misplaced-each-same b c known t ns ms h no_other = refl
      misplaced-each-same b c known t ns ms h (either f g) = ap₂ (λ (p q : Option ℕ). option_or p q) (misplaced-same b c known t _ _ h f) (misplaced-each-same b c known t _ _ h g)

      misplaced-arms-same : (b c : Insts) (known : Known) (t : Bool) (x : ℕ) (ns ms : Arms) → IF b c → FR b c ns ms → misplaced_of_arms S T b known t x ns ≡ misplaced_of_arms U T c known t x ms
      misplaced-arms-same b c known t x ns ms h no_arm = refl
      misplaced-arms-same b c known t x ns ms h (arm {l = l} f g) = ap₂ (λ (p q : Option ℕ). option_or p q) (misplaced-same b c (learned x l known) t _ _ h f) (misplaced-arms-same b c known t x _ _ h g)

    io-place-atom-same : (b c : Insts) (known : Known) (t : Bool) (s : Scheduled) → IsAtom P T first s → misplaces_io_in S T b known t s ≡ misplaces_io_in U T c known t s
    io-place-atom-same b c known t (Conj ns) a = absurd a
    io-place-atom-same b c known t (Disj ns) a = absurd a
    io-place-atom-same b c known t (Switch x ns) a = absurd a
    io-place-atom-same b c known t (Ite vs g k l) a = absurd a
    io-place-atom-same b c known t (Not n) a = absurd a
    io-place-atom-same b c known t (Exists vs n) a = absurd a
    io-place-atom-same b c known t (Assign x y) a = refl
    io-place-atom-same b c known t (Test x y) a = refl
    io-place-atom-same b c known t (Build x s ys) a = refl
    io-place-atom-same b c known t (Take x s ys) a = refl
    io-place-atom-same b c known t (Const x v) a = refl
    io-place-atom-same b c known t (TestConst x v) a = refl
    io-place-atom-same b c known t (Call p xs is l) a = refl
    io-place-atom-same b c known t (Apply op xs ys) a = refl

    mutual
      pub io-place-same : (b c : Insts) (known : Known) (t : Bool) (n m : Node) → IF b c → F b c n m → misplaces_io S T b known t n ≡ misplaces_io U T c known t m
      io-place-same b c known t n m h (follows {s = s} {r = r} {ss = ss} {rs = rs} {d = d} {m = p} f a) =
          ap₂ (λ (u v : Bool). u || v)
          (ap₂ (λ (u : Bool) (e : Determinism). is_wrong_io u t p e) (io-in-same b c s r f) (determined-same b c known (node s ss d p) (node r rs d p) h (follows f a))) (io-place-in-same b c known (t || p) s r h f)

      io-place-in-same : (b c : Insts) (known : Known) (t : Bool) (s r : Scheduled) → IF b c → FI b c s r → misplaces_io_in S T b known t s ≡ misplaces_io_in U T c known t r
      io-place-in-same b c known t s r h (atom a) = io-place-atom-same b c known t s a
      io-place-in-same b c known t s r h (conj f) = io-place-all-same b c known t _ _ h f
      io-place-in-same b c known t s r h (disj f) =
          ap₂ (λ (u v : Bool). (t && u) || v) (ap₂ (λ (p q : Bool). p && not q) (io-each-same b c _ _ f) (no-disjunct-same b c known _ _ h f)) (io-place-each-same b c known t _ _ h f)
      io-place-in-same b c known t s r h (switch {x = x} lt f) = io-place-arms-same b c known t x _ _ h f
      io-place-in-same b c known t s r h (ite f k e) =
          ap₂ (λ (p q : Bool). p || q) (io-same b c _ _ f) (ap₂ (λ (p q : Bool). p || q) (io-place-same _ _ known t _ _ (after-follow b c _ _ f) k) (io-place-same b c known t _ _ h e))
      io-place-in-same b c known t s r h (negated f) = io-same b c _ _ f
      io-place-in-same b c known t s r h (some f) = io-place-same b c known t _ _ h f

      io-place-all-same : (b c : Insts) (known : Known) (t : Bool) (ns ms : Nodes) → IF b c → FA b c ns ms → all_misplace_io S T b known t ns ≡ all_misplace_io U T c known t ms
      io-place-all-same b c known t ns ms h no_more = refl
      io-place-all-same b c known t ns ms h (and_then {n = n} {m = m} f g) =
          ap₂ (λ (p q : Bool). p || q)
          (ap (λ (u : Bool). misplaces_io S T b known (t && u) n) (none-fails-same _ _ known _ _ (after-follow b c _ _ f) g) ∙ io-place-same b c known _ n m h f)
          (io-place-all-same _ _ known t _ _ (after-follow b c _ _ f) g)

      io-place-each-same : (b c : Insts) (known : Known) (t : Bool) (ns ms : Nodes) → IF b c → FE b c ns ms → each_misplaces_io S T b known t ns ≡ each_misplaces_io U T c known t ms
      io-place-each-same b c known t ns ms h no_other = refl
      io-place-each-same b c known t ns ms h (either f g) = ap₂ (λ (p q : Bool). p || q) (io-place-same b c known t _ _ h f) (io-place-each-same b c known t _ _ h g)

      io-place-arms-same : (b c : Insts) (known : Known) (t : Bool) (x : ℕ) (ns ms : Arms) → IF b c → FR b c ns ms → arms_misplace_io S T b known t x ns ≡ arms_misplace_io U T c known t x ms
      io-place-arms-same b c known t x ns ms h no_arm = refl
      io-place-arms-same b c known t x ns ms h (arm {l = l} f g) = ap₂ (λ (p q : Bool). p || q) (io-place-same b c (learned x l known) t _ _ h f) (io-place-arms-same b c known t x _ _ h g)

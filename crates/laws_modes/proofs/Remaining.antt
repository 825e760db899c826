-- A goal that waits does so as long as its reason holds.
use Rattle.std.proofs.Common.{◌≡◌, ◌⊎◌, inl, inr, ℕ, suc, ◌≤◌, Bool, true, false, cond, not, ◌&&◌, ◌||◌, nat_eq, List, [], ◌∷◌, ◌++◌, Option, Some, None, refl, ap, ap₂, sym, ◌∙◌, subst, ⊎_elim}
use Rattle.std.specs.List.{list_any}
use Rattle.std.proofs.Math.Nat.{lt_of_lt_of_le, not-le_of_lt}
use Rattle.mc_program.specs.Programs.{TypeTerm, Source}
use Rattle.mc_program.specs.declared.builtin.Builtin.{Builtin}
use Rattle.mc_model.specs.Flat as F
use Rattle.mc_model.specs.Flat.{Flat_goal, Flat_goals, no_flat, flat_then, variables_of, variables_of_all, free_in}
use Rattle.mc_model.specs.Lists.{In, is_in, without, Among}
use Rattle.mc_model.specs.Scheduled.{Node, Scheduled, Conj, Disj, Ite, Exists, Nodes, no_nodes}
use Rattle.mc_model.specs.Stream.{is_bound}
use Rattle.mc_accepted.specs.Ordered.{Mode, is_state, modes_of, times_in}
use Rattle.mc_accepted.specs.Unmarked.{unmarked}
use Rattle.mc_accepted.specs.Arranged.{Operations, Declared, Fault, waits, negated_binds, branches_differ, lacks, alone, two_goals, count_flat, with_fresh, Point, Arranged, runs, breaks, Trial, Waiting, Picked, takes, none_runs, Branches, all_run, one_breaks, variables_of_waiting, or_first, picked, pick, behind, goes_on, with_branch, and_branches, no_branch, each_branch, wrapped, stuck, in_turn, wait, atom, best, better, called, call_of, binds, branched, conditional, negation, trial, trials, usable, is_input}
use Rattle.laws_language.proofs.FlatGoals.{in_left, in_right, in_either}
use Rattle.laws_language.proofs.FlatWhole.{in_or_not}
use Rattle.laws_order.proofs.OthersStay.{in-condition, in-then, not-in, Stays, Kept, Keeps, keeps}
use Rattle.laws_modes.specs.Waits.{Below, SameOutside, OneFault, SameAt, NumberedOn, Alike, OwnAlone}
use Rattle.laws_modes.specs.Reasons.{Why, Wider, IsWaiting, Waits, Runs, Leaves, StillSo, OneIsFree, IsOneOf, inputs_at, Unusable, Remains, Carried, Since, Told, Tells, Blocked, EachBlocked, CallBlocked, GoalRemains, AreGoals, OneWaits, HasCome, ThenRuns, IsAtom}
use Rattle.laws_modes.proofs.Alike.{alike, outside-both, outside-more, outside-fresh}

-- ---- tests
any-true : (f : ℕ → Bool) (xs : List ℕ) (x : ℕ) → In x xs → f x ≡ true → list_any f xs ≡ true
any-true f [] x i e = absurd i
any-true f (z ∷ xs) x i e = at (f z) (list_any f xs) (⊎_elim (λ q. inl (ap f (sym q) ∙ e)) (λ j. inr (any-true f xs x j e)) i)
  where
    at : (t u : Bool) → (t ≡ true) ⊎ (u ≡ true) → (t || u) ≡ true
    at true u k = refl
    at false true k = refl
    at false false k = ⊎_elim (λ q. q) (λ q. q) k

or-true : (t u : Bool) → u ≡ true → (t || u) ≡ true
or-true true u e = refl
or-true false u e = e

and-false : (t u : Bool) → u ≡ false → (t && u) ≡ false
and-false true u e = e
and-false false u e = refl

in-fresh : (x : ℕ) (vs zs : List ℕ) → In x (with_fresh vs zs) → In x vs ⊎ In x zs
in-fresh x vs [] i = inl i
in-fresh x vs (z ∷ zs) i = in_either x vs (z ∷ zs) i

in-fresh-left : (x : ℕ) (vs zs : List ℕ) → In x vs → In x (with_fresh vs zs)
in-fresh-left x vs [] i = i
in-fresh-left x vs (z ∷ zs) i = in_left x vs (z ∷ zs) i

-- ---- results that wait
waits-kind : (f e : Fault) → OneFault f e → IsWaiting f → IsWaiting e
waits-kind (waits k vs) (waits j us) s w = tt
waits-kind (waits k vs) (negated_binds v) s w = absurd s
waits-kind (waits k vs) (branches_differ v) s w = absurd s
waits-kind (waits k vs) lacks s w = absurd s
waits-kind (negated_binds v) e s w = absurd w
waits-kind (branches_differ v) e s w = absurd w
waits-kind lacks e s w = absurd w

module _ {I : Type 0} where
  waits-then : (t : Bool) (p q : Arranged I) → t ≡ true → Waits p → Waits (cond t p q)
  waits-then true p q e w = w
  waits-then false p q e w = absurd (cc e)

  waits-else : (t : Bool) (p q : Arranged I) → t ≡ false → Waits q → Waits (cond t p q)
  waits-else true p q e w = absurd (cc e)
  waits-else false p q e w = w

  waits-alike : (own : List ℕ) (first : ℕ) (r q : Arranged I) → Alike own first r q → Waits r → Waits q
  waits-alike own first (runs gs o n zs) q k w = absurd w
  waits-alike own first (breaks f) (runs gs o n zs) k w = absurd k
  waits-alike own first (breaks f) (breaks e) k w = waits-kind f e k w

  -- branches of which one waits
  abbrev BranchesWait : Branches I → Type 0
  BranchesWait (all_run gs ends n) = ⊥
  BranchesWait (one_breaks f) = IsWaiting f

  branch-behind : (g : Node) (o : Option (Point I)) (B : Branches I) → BranchesWait B → BranchesWait (with_branch g o B)
  branch-behind g o (all_run gs ends n) w = absurd w
  branch-behind g o (one_breaks f) w = w

  waits-behind : (gs : Nodes) (r : Arranged I) → Waits r → Waits (behind gs r)
  waits-behind gs (runs hs o n zs) w = absurd w
  waits-behind gs (breaks f) w = w

module _ {I : Type 0} (Op : Operations I) where
  waits-wrapped : (f : ℕ → Option (Point I) → Nodes → Scheduled) (b : Point I) (r : Arranged I) → Waits r → Waits (wrapped Op f b r)
  waits-wrapped f b (runs hs o n zs) w = absurd w
  waits-wrapped f b (breaks e) w = w

  first-branch : (b : Point I) (r : Arranged I) (rest : ℕ → Branches I) → Waits r → BranchesWait (and_branches Op b r rest)
  first-branch b (runs hs o n zs) rest w = absurd w
  first-branch b (breaks f) rest w = w

  -- the first one runs, and a later one waits
  later-branch : (own : List ℕ) (first : ℕ) (b : Point I) (r q : Arranged I) (rest : ℕ → Branches I) → Alike own first r q → Runs r → ((m : ℕ) → first ≤ m → BranchesWait (rest m)) → BranchesWait (and_branches Op b q rest)
  later-branch own first b (breaks f) q rest k w h = absurd w
  later-branch own first b (runs gs o n zs) (breaks f) rest k w h = absurd k
  later-branch own first b (runs gs o n zs) (runs hs p m ys) rest k w h = branch-behind (alone Op m b p hs) p (rest m) (h m k.1)

  narrower : (y z : Why) (b c : Point I) → Wider y z → StillSo Op z b c → StillSo Op y b c
  narrower y z b c w h = (λ vs i. let q = w.0 vs i in let f = h.0 q.0 q.1 in (f.0, q.2 f.0 f.1, f.2), λ x i. h.1 x (w.1 x i))

  pub wider-remains : (own fewer : List ℕ) (first : ℕ) (t : Trial I) (O : List ℕ) (b : Point I) (y z : Why) → Among fewer own → Wider y z → Remains Op fewer first t O b y → Remains Op own first t O b z
  wider-remains own fewer first t O b y z a w r U m c lm s h = r U m c lm (λ x i. s x (a x i)) (narrower y z b c w h)

  pub later-remains : (own : List ℕ) (first : ℕ) (t : Trial I) (O V : List ℕ) (b d : Point I) (y : Why) → SameOutside own O V → SameAt y.looked_at b d → Remains Op own first t O b y → Remains Op own first t V d y
  later-remains own first t O V b d y e l r U m c lm s h = r U m c lm (λ x i. e x i ∙ s x i) (h.0, λ x i. l x i ∙ h.1 x i)

  -- what a later try tells holds where it is so as told of the point before
  carried : (first : ℕ) (ran : List ℕ) (b c d e : Point I) (y z : Why) → Since Op first ran b c d e → StillSo Op z b c → Carried Op ran first y d z → StillSo Op y d e
  carried first ran b c d e y z s h k = (
    λ x i.
        let q = k.0 x i in
        let f = h.0 q.0 q.1 in
        let a = q.2 f.0 f.1 in
        (f.0, a.0, ⊎_elim (λ j. ap Op.is_bound (sym ((s f.0 a.1).0 j)) ∙ a.2 j) (λ off. ap Op.is_bound (((s f.0 a.1).1 off).1) ∙ f.2) (in_or_not f.0 ran)),
    λ x i.
        let q = k.1 x i in
        ⊎_elim (λ j. (s x q.0).0 j)
        (λ off. ((s x q.0).1 off).0 ∙ (h.1 x (⊎_elim (λ j. absurd (off j)) (λ j. j) q.1) ∙ sym (((s x q.0).1 off).1))) (in_or_not x ran),
  )

  since-from : (first : ℕ) (vs : List ℕ) (n m : ℕ) (b c d e : Point I) → first ≤ n → first ≤ m → SameAt vs d e → Stays vs n b d → Stays vs m c e → Since Op first vs b c d e
  since-from first vs n m b c d e ln lm s p q x lt = ((λ i. s x i), (λ off. (p x off (lt_of_lt_of_le lt ln), q x off (lt_of_lt_of_le lt lm))))

module _ {I : Type 0} (Op : Operations I) (P : Source) (declared : ℕ → List Declared) (T : ℕ → TypeTerm) (own : List ℕ) (first : ℕ) (below : Below first own) where
  abbrev trying : Flat_goal → Trial I
  trying g = trial Op P declared T g

  abbrev GoalWaits : Flat_goal → List ℕ → Point I → Why → Type 0
  GoalWaits g O b y = GoalRemains Op P declared T own first g O b y

  alike-own : (g : Flat_goal) → Among (variables_of g) own → (O U : List ℕ) (n m : ℕ) (b c : Point I) → first ≤ n → first ≤ m → SameOutside own O U → SameAt (variables_of g) b c → Alike (variables_of g) first (trying g O n b) (trying g U m c)
  alike-own g w O U n m b c ln lm s h = alike Op P declared T (variables_of g) first (λ x i. below x (w x i)) g (λ x i. i) O U n m b c ln lm (λ x i. s x (w x i)) h

  pub unchanged-remains : (O : List ℕ) (b : Point I) (y : Why) (g : Flat_goal) (n : ℕ) → first ≤ n → Among (variables_of g) own → Among (variables_of g) y.looked_at → Waits (trying g O n b) → GoalWaits g O b y
  unchanged-remains O b y g n ln w a r U m c lm s h = waits-alike (variables_of g) first _ _ (alike-own g w O U n m b c ln lm s (λ x i. h.1 x (a x i))) r

  -- ---- atoms
  dead-atom : (xs : List ℕ) (x : ℕ) (b c : Point I) (y : Why) (r : Arranged I) → In x xs → In x y.looked_at → Op.is_dead (b x) ≡ true → StillSo Op y b c → Waits (atom Op P declared T xs c r)
  dead-atom xs x b c y r i l e h = waits-then (list_any (λ z. Op.is_dead (c z)) xs) _ r (any-true (λ z. Op.is_dead (c z)) xs x i (ap Op.is_dead (sym (h.1 x l)) ∙ e)) tt

  pub dead-remains : (O : List ℕ) (b : Point I) (y : Why) (g : Flat_goal) (x : ℕ) → IsAtom g → In x (variables_of g) → In x y.looked_at → Op.is_dead (b x) ≡ true → GoalWaits g O b y
  dead-remains O b y (F.Same u v) x a i l e U m c lm s h = dead-atom (u ∷ v ∷ []) x b c y _ i l e h
  dead-remains O b y (F.Made u f vs) x a i l e U m c lm s h = dead-atom (u ∷ vs) x b c y _ i l e h
  dead-remains O b y (F.Is u v) x a i l e U m c lm s h = dead-atom (u ∷ []) x b c y _ i l e h
  dead-remains O b y (F.Call p vs) x a i l e U m c lm s h = dead-atom vs x b c y _ i l e h
  dead-remains O b y (F.And gs) x a i l e U m c lm s h = absurd a
  dead-remains O b y (F.Or gs) x a i l e U m c lm s h = absurd a
  dead-remains O b y (F.If vs g k j) x a i l e U m c lm s h = absurd a
  dead-remains O b y (F.Not g) x a i l e U m c lm s h = absurd a
  dead-remains O b y (F.Exists vs g) x a i l e U m c lm s h = absurd a

  waits-atom : (xs : List ℕ) (c : Point I) (r : Arranged I) → Waits r → Waits (atom Op P declared T xs c r)
  waits-atom xs c r w = at (list_any (λ z. Op.is_dead (c z)) xs)
    where
      at : (t : Bool) → Waits (cond t (wait Op P declared T xs c) r)
      at true = tt
      at false = w

  free-one : (x : ℕ) (c : Point I) → OneIsFree Op (x ∷ []) c → Op.is_bound (c x) ≡ false
  free-one x c f = ⊎_elim (λ e. ap (λ z. Op.is_bound (c z)) (sym e) ∙ f.2) (λ j. absurd j) f.1

  pub equation-remains : (O : List ℕ) (b : Point I) (y : Why) (x z : ℕ) → IsOneOf (x ∷ []) y.free → IsOneOf (z ∷ []) y.free → GoalWaits (F.Same x z) O b y
  equation-remains O b y x z i j U m c lm s h =
      waits-atom (x ∷ z ∷ []) c _ (waits-else (Op.is_bound (c x)) _ _ (free-one x c (h.0 (x ∷ []) i)) (waits-else (Op.is_bound (c z)) _ _ (free-one z c (h.0 (z ∷ []) j)) tt))

  pub construction-remains : (O : List ℕ) (b : Point I) (y : Why) (x f : ℕ) (zs : List ℕ) → IsOneOf (x ∷ []) y.free → ((us : List ℕ) × IsOneOf us y.free × Among us zs) ⊎ ((z : ℕ) × In z zs × (is_state (T z) ≡ true)) → GoalWaits (F.Made x f zs) O b y
  construction-remains O b y x f zs i k U m c lm s h =
      waits-atom (x ∷ zs) c _
      (waits-else (Op.is_bound (c x)) _ _ (free-one x c (h.0 (x ∷ []) i))
      (waits-then (list_any unfit zs) _ _
      (⊎_elim (λ q. let a = h.0 q.0 q.1 in any-true unfit zs a.0 (q.2 a.0 a.1) (ap (λ t. not t || is_state (T a.0)) a.2))
      (λ q. any-true unfit zs q.0 q.1 (or-true (not (Op.is_bound (c q.0))) (is_state (T q.0)) q.2)) k) tt))
    where
      unfit : ℕ → Bool
      unfit v = not (Op.is_bound (c v)) || is_state (T v)

  unusable : (all : List ℕ) (ms : List Mode) (xs : List ℕ) (y : Why) (b c : Point I) → StillSo Op y b c → Unusable Op P declared T all ms xs y b → usable Op P declared T all ms xs c ≡ false
  unusable all [] [] y b c h k = absurd k
  unusable all [] (x ∷ xs) y b c h k = refl
  unusable all (m ∷ ms) [] y b c h k = refl
  unusable all (m ∷ ms) (x ∷ xs) y b c h k =
      ⊎_elim (λ q. ap₂ (λ s t. (not s || t) && usable Op P declared T all ms xs c) q.0 (no-input q.1 q.2))
      (λ q. and-false (not (is_bound m.0) || is_input Op P declared T all m x c) (usable Op P declared T all ms xs c) (unusable all ms xs y b c h q)) k
    where
      no-input : In x y.looked_at → is_input Op P declared T all m x b ≡ false → is_input Op P declared T all m x c ≡ false
      no-input l e = ap (λ (j : I). Op.is_bound j && (Op.fits j m.0 (T x) && (not (Op.is_dead (Op.node m.1)) || nat_eq (times_in x all) 1))) (sym (h.1 x l)) ∙ e

  free-input : (all : List ℕ) (ms : List Mode) (xs : List ℕ) (c : Point I) (z : ℕ) → In z (inputs_at Op P declared T ms xs) → Op.is_bound (c z) ≡ false → usable Op P declared T all ms xs c ≡ false
  free-input all [] xs c z i e = absurd i
  free-input all (m ∷ ms) [] c z i e = absurd i
  free-input all (m ∷ ms) (x ∷ xs) c z i e = at (is_bound m.0) i (λ j. free-input all ms xs c z j e)
    where
      at : (t : Bool) → In z (cond t (x ∷ inputs_at Op P declared T ms xs) (inputs_at Op P declared T ms xs)) → (In z (inputs_at Op P declared T ms xs) → usable Op P declared T all ms xs c ≡ false) →
          ((not t || is_input Op P declared T all m x c) && usable Op P declared T all ms xs c) ≡ false
      at true j f =
          ⊎_elim
          (λ q. ap (λ u. (u && (Op.fits (c x) m.0 (T x) && (not (Op.is_dead (Op.node m.1)) || nat_eq (times_in x all) 1))) && usable Op P declared T all ms xs c) (ap (λ w. Op.is_bound (c w)) (sym q) ∙ e))
          (λ l. and-false (is_input Op P declared T all m x c) (usable Op P declared T all ms xs c) (f l)) j
      at false j f = f j

  blocked : (ms : List Mode) (xs : List ℕ) (y : Why) (b c : Point I) → StillSo Op y b c → Blocked Op P declared T ms xs y b → usable Op P declared T xs ms xs c ≡ false
  blocked ms xs y b c h k = ⊎_elim (λ q. let a = h.0 q.0 q.1 in free-input xs ms xs c a.0 (q.2 a.0 a.1) a.2) (λ q. unusable xs ms xs y b c h q) k

  no-best : (ds : List Declared) (xs : List ℕ) (y : Why) (b c : Point I) → StillSo Op y b c → EachBlocked Op P declared T xs ds y b → best Op P declared T ds xs c ≡ None
  no-best [] xs y b c h k = refl
  no-best (d ∷ ds) xs y b c h k =
      ap (λ t. cond t (Some (better Op P declared T xs c d (best Op P declared T ds xs c))) (best Op P declared T ds xs c)) (blocked d.modes xs y b c h k.0) ∙ no-best ds xs y b c h k.1

  blocked-waits : (o : Option Builtin) (p : ℕ) (xs : List ℕ) (y : Why) (m : ℕ) (b c : Point I) → StillSo Op y b c → CallBlocked Op P declared T o p xs y b → Waits (call_of Op P declared T o p xs m c)
  blocked-waits None p xs y m b c h k = subst (λ (o : Option Declared). Waits (called Op P declared T o xs m c)) (sym (no-best (declared p) xs y b c h k)) tt
  blocked-waits (Some op) p xs y m b c h k = waits-else (usable Op P declared T xs (modes_of op) xs c) _ _ (blocked (modes_of op) xs y b c h k) tt

  pub call-remains : (O : List ℕ) (b : Point I) (y : Why) (p : ℕ) (xs : List ℕ) → CallBlocked Op P declared T (P.preds p).builtin p xs y b → GoalWaits (F.Call p xs) O b y
  call-remains O b y p xs k U m c lm s h = waits-atom xs c _ (blocked-waits (P.preds p).builtin p xs y m b c h k)

  -- ---- goals in goals
  waits-negation : (xs : List ℕ) (c : Point I) (r : Arranged I) → Waits r → Waits (negation Op P declared T xs c r)
  waits-negation xs c (runs gs o n zs) w = absurd w
  waits-negation xs c (breaks f) w = w

  pub negation-remains : (O : List ℕ) (b : Point I) (y : Why) (g : Flat_goal) → GoalWaits g (O ++ free_in g) b y → GoalWaits (F.Not g) O b y
  negation-remains O b y g r U m c lm s h = waits-negation (free_in g) c _ (r (U ++ free_in g) m c lm (outside-more own O U (free_in g) s) h)

  pub quantified-remains : (O : List ℕ) (b : Point I) (y : Why) (vs : List ℕ) (g : Flat_goal) → GoalWaits g O b y → GoalWaits (F.Exists vs g) O b y
  quantified-remains O b y vs g r U m c lm s h = waits-wrapped Op (λ j o gs. Exists vs (alone Op j c o gs)) c _ (r U m c lm s h)

  waits-branched : (v : Option ℕ) (f : Nodes → Scheduled) (vs O : List ℕ) (b : Point I) (B : Branches I) → BranchesWait B → Waits (branched Op P declared T v f vs O b B)
  waits-branched v f vs O b (all_run gs ends n) w = absurd w
  waits-branched v f vs O b (one_breaks e) w = w

  one-waits : (gs : Flat_goals) → Among (variables_of_all gs) own → (O U : List ℕ) (b c : Point I) (y : Why) (m : ℕ) → first ≤ m → SameOutside own O U → StillSo Op y b c → OneWaits Op P declared T own first gs O b y →
      BranchesWait (each_branch Op (trials Op P declared T gs) U m c)
  one-waits no_flat w O U b c y m lm s h k = absurd k
  one-waits (flat_then g gs) w O U b c y m lm s h k =
      ⊎_elim (λ r. first-branch Op c _ _ (r U m c lm s h))
      (λ q.
      later-branch Op (variables_of g) first c (trying g O q.0.0 b) (trying g U m c) (λ j. each_branch Op (trials Op P declared T gs) U j c)
      (alike-own g (λ x i. w x (in_left x (variables_of g) (variables_of_all gs) i)) O U q.0.0 m b c q.0.1 lm s (λ x i. h.1 x (q.1 x i))) q.0.2
      (λ j lj. one-waits gs (λ x i. w x (in_right x (variables_of g) (variables_of_all gs) i)) O U b c y j lj s h q.2)) k

  pub disjunction-remains : (O : List ℕ) (b : Point I) (y : Why) (gs : Flat_goals) → Among (variables_of_all gs) own → OneWaits Op P declared T own first gs O b y → GoalWaits (F.Or gs) O b y
  disjunction-remains O b y gs w k U m c lm s h = waits-branched None Disj (variables_of_all gs) U c _ (one-waits gs w O U b c y m lm s h k)

  waits-conditional : (vs xs zs O : List ℕ) (c : Point I) (r : Arranged I) (t : ℕ → Point I → Arranged I) (e : ℕ → Arranged I) → Waits r → Waits (conditional Op P declared T vs xs zs O c r t e)
  waits-conditional vs xs zs O c (runs gs o n ys) t e w = absurd w
  waits-conditional vs xs zs O c (breaks f) t e w = w

  pub condition-remains : (O : List ℕ) (b : Point I) (y : Why) (vs : List ℕ) (g h k : Flat_goal) → GoalWaits g (O ++ (without (free_in g) vs ++ variables_of h)) b y → GoalWaits (F.If vs g h k) O b y
  condition-remains O b y vs g h k r U m c lm s l =
      waits-conditional vs (without (free_in g) vs) (variables_of (F.If vs g h k)) U c _ _ _
      (r (U ++ (without (free_in g) vs ++ variables_of h)) m c lm (outside-more own O U (without (free_in g) vs ++ variables_of h) s) l)

  then-waits : (vs xs zs us O : List ℕ) (n m : ℕ) (b c d : Point I) (r q : Arranged I) (t : ℕ → Point I → Arranged I) (e : ℕ → Arranged I) → first ≤ n → first ≤ m → Alike us first r q → Kept us n b r → Kept us m c q → Leaves r d →
      ((a : Point I) → Since Op first us b c d a → (j : ℕ) → first ≤ j → Waits (t j a)) → Waits (conditional Op P declared T vs xs zs O c q t e)
  then-waits vs xs zs us O n m b c d (breaks f) q t e ln lm k p p' l h = absurd l
  then-waits vs xs zs us O n m b c d (runs gs None i ys) q t e ln lm k p p' l h = absurd l
  then-waits vs xs zs us O n m b c d (runs gs (Some a) i ys) (breaks f) t e ln lm k p p' l h = absurd k
  then-waits vs xs zs us O n m b c d (runs gs (Some a) i ys) (runs hs None j ys') t e ln lm k p p' l h = absurd k.2
  then-waits vs xs zs us O n m b c d (runs gs (Some a) i ys) (runs hs (Some a') j ys') t e ln lm k p p' l h =
      waits-branched (binds Op P declared T xs c (Some a')) (two_goals (Ite vs (alone Op j c (Some a') hs))) zs O c _
      (first-branch Op a' (t j a') _ (h a' (subst (λ (u : Point I). Since Op first us b c u a') l (since-from Op first us n m b c a a' ln lm k.2 p.1 p'.1)) j k.1))

  pub then-remains : (O : List ℕ) (b : Point I) (y : Why) (vs : List ℕ) (g h k : Flat_goal) (n : ℕ) (d : Point I) (z : Why) → first ≤ n → Among (variables_of (F.If vs g h k)) own →
      Leaves (trying g (O ++ (without (free_in g) vs ++ variables_of h)) n b) d → GoalWaits h (O ++ variables_of g) d z → Among (variables_of g) y.looked_at → Carried Op (variables_of g) first z d y → GoalWaits (F.If vs g h k) O b y
  then-remains O b y vs g h k n d z ln w l r a q U m c lm s e =
      let V = without (free_in g) vs ++ variables_of h in
      then-waits vs (without (free_in g) vs) (variables_of (F.If vs g h k)) (variables_of g) U n m b c d (trying g (O ++ V) n b) (trying g (U ++ V) m c) _ _ ln lm
      (alike-own g (λ x i. w x (in-condition vs g h k x i)) (O ++ V) (U ++ V) n m b c ln lm (outside-more own O U V s) (λ x i. e.1 x (a x i)))
      (keeps Op P declared T g (O ++ V) n b) (keeps Op P declared T g (U ++ V) m c) l
      (λ u su j lj. r (U ++ variables_of g) j u lj (outside-more own O U (variables_of g) s) (carried Op first (variables_of g) b c d u z y su e q))

  same-behind : (us vs : List ℕ) (b c d e : Point I) (y : Why) → Below first vs → Since Op first us b c d e → StillSo Op y b c → Among vs y.looked_at → SameAt vs d e
  same-behind us vs b c d e y w s h a x i =
      ⊎_elim (λ j. (s x (w x i)).0 j) (λ off. ((s x (w x i)).1 off).0 ∙ (h.1 x (a x i) ∙ sym (((s x (w x i)).1 off).1))) (in_or_not x us)

  else-waits : (vs xs zs us U O V : List ℕ) (n m : ℕ) (b c : Point I) (r q : Arranged I) (h : Flat_goal) (y : Why) (e : ℕ → Arranged I) → Among (variables_of h) own → first ≤ n → first ≤ m → SameOutside own O V → StillSo Op y b c →
      Alike us first r q → Kept us n b r → Kept us m c q → ThenRuns Op P declared T own first h O y r → ((j : ℕ) → first ≤ j → Waits (e j)) →
      Waits (conditional Op P declared T vs xs zs U c q (λ j d. trying h V j d) e)
  else-waits vs xs zs us U O V n m b c (breaks f) q h y e w ln lm s l k p p' t g = absurd t
  else-waits vs xs zs us U O V n m b c (runs gs o i ys) (breaks f) h y e w ln lm s l k p p' t g = absurd k
  else-waits vs xs zs us U O V n m b c (runs gs None i ys) (runs hs (Some d) j ys') h y e w ln lm s l k p p' t g = absurd k.2
  else-waits vs xs zs us U O V n m b c (runs gs (Some a) i ys) (runs hs None j ys') h y e w ln lm s l k p p' t g = absurd k.2
  else-waits vs xs zs us U O V n m b c (runs gs None i ys) (runs hs None j ys') h y e w ln lm s l k p p' t g =
      waits-branched None (two_goals (Ite vs (alone Op j c None hs))) zs U c _ (branch-behind (unmarked (Conj no_nodes)) None _ (first-branch Op c (e j) no_branch (g j k.1)))
  else-waits vs xs zs us U O V n m b c (runs gs (Some a) i ys) (runs hs (Some d) j ys') h y e w ln lm s l k p p' t g =
      waits-branched (binds Op P declared T xs c (Some d)) (two_goals (Ite vs (alone Op j c (Some d) hs))) zs U c _
      (later-branch Op (variables_of h) first d (trying h O t.1.0 a) (trying h V j d) (λ u. and_branches Op c (e u) no_branch)
      (alike-own h w O V t.1.0 j a d t.1.1 k.1 s (same-behind us (variables_of h) b c a d y (λ x i. below x (w x i)) (since-from Op first us n m b c a d ln lm k.2 p.1 p'.1) l t.0)) t.1.2
      (λ u lu. first-branch Op c (e u) no_branch (g u lu)))

  pub else-remains : (O : List ℕ) (b : Point I) (y : Why) (vs : List ℕ) (g h k : Flat_goal) (n : ℕ) → first ≤ n → Among (variables_of (F.If vs g h k)) own →
      ThenRuns Op P declared T own first h (O ++ variables_of g) y (trying g (O ++ (without (free_in g) vs ++ variables_of h)) n b) → Among (variables_of g) y.looked_at → GoalWaits k O b y → GoalWaits (F.If vs g h k) O b y
  else-remains O b y vs g h k n ln w t a r U m c lm s e =
      let V = without (free_in g) vs ++ variables_of h in
      else-waits vs (without (free_in g) vs) (variables_of (F.If vs g h k)) (variables_of g) U (O ++ variables_of g) (U ++ variables_of g) n m b c (trying g (O ++ V) n b) (trying g (U ++ V) m c) h y (λ j. trying k U j c)
      (λ x i. w x (in-then vs g h k x i)) ln lm (outside-more own O U (variables_of g) s) e
      (alike-own g (λ x i. w x (in-condition vs g h k x i)) (O ++ V) (U ++ V) n m b c ln lm (outside-more own O U V s) (λ x i. e.1 x (a x i)))
      (keeps Op P declared T g (O ++ V) n b) (keeps Op P declared T g (U ++ V) m c) t (λ j lj. r U j c lj s e)

  -- ---- conjunctions
  pub conjunction-remains : (O : List ℕ) (b : Point I) (y : Why) (gs : Flat_goals) → Remains Op own first (in_turn Op P declared T (count_flat gs) (trials Op P declared T gs)) O b y → GoalWaits (F.And gs) O b y
  conjunction-remains O b y gs r U m c lm s h = waits-wrapped Op (λ j o hs. Conj hs) c _ (r U m c lm s h)

  pub turns-begin : (O : List ℕ) (b : Point I) (y : Why) (k : ℕ) (ws : List (Waiting I)) → HasCome Op P declared T own first k ws O b k ws O b [] y
  turns-begin O b y k ws U m c lm s h = (U, m, c, lm, s, (λ x lt. ((λ i. absurd i), (λ off. (refl, refl)))), λ w. w)

  -- what is known of a waiting goal
  abbrev Known : Waiting I → Type 0
  Known w = OwnAlone w.variables first w.trial × Keeps w.variables w.trial × Among w.variables own

  abbrev AllKnown : List (Waiting I) → Type 0
  AllKnown [] = Unit {0}
  AllKnown (w ∷ ws) = Known w × AllKnown ws

  known-goal : (g : Flat_goal) → Among (variables_of g) own → Known (record { variables = variables_of g; trial = trying g })
  known-goal g a = (alike Op P declared T (variables_of g) first (λ x i. below x (a x i)) g (λ x i. i), keeps Op P declared T g, a)

  all-known : (ws : List (Waiting I)) → AreGoals Op P declared T own first ws → AllKnown ws
  all-known [] k = tt
  all-known (w ∷ ws) k = (subst Known (sym k.0.2) (known-goal k.0.0 k.0.1), all-known ws k.1)

  abbrev PickedSo : (b c : Point I) → Picked I → Picked I → Type 0
  PickedSo b c (none_runs f) q = Unit {0}
  PickedSo b c (takes us xs gs None i) q = Unit {0}
  PickedSo b c (takes us xs gs (Some d) i) (none_runs f) = ⊥
  PickedSo b c (takes us xs gs (Some d) i) (takes vs ys hs None j) = ⊥
  PickedSo b c (takes us xs gs (Some d) i) (takes vs ys hs (Some e) j) = (first ≤ j) × SameOutside own us vs × (xs ≡ ys) × Since Op first us b c d e

  or-first-so : (b c : Point I) (f e : Fault) (p q : Picked I) → PickedSo b c p q → PickedSo b c (or_first f p) (or_first e q)
  or-first-so b c f e (takes us xs gs None i) q k = tt
  or-first-so b c f e (takes us xs gs (Some d) i) (none_runs g) k = absurd k
  or-first-so b c f e (takes us xs gs (Some d) i) (takes vs ys hs None j) k = absurd k
  or-first-so b c f e (takes us xs gs (Some d) i) (takes vs ys hs (Some a) j) k = k
  or-first-so b c f e (none_runs None) q k = tt
  or-first-so b c f e (none_runs (Some (waits j vs))) q k = tt
  or-first-so b c f e (none_runs (Some (negated_binds v))) q k = tt
  or-first-so b c f e (none_runs (Some (branches_differ v))) q k = tt
  or-first-so b c f e (none_runs (Some lacks)) q k = tt

  -- a list of own variables and numbered-on ones tells the same ones
  since-fresh : (us zs : List ℕ) (b c d e : Point I) → NumberedOn us first zs → Since Op first us b c d e → Since Op first (with_fresh us zs) b c d e
  since-fresh us zs b c d e f s x lt = (
    λ i. (s x lt).0 (⊎_elim (λ j. j) (λ j. ⊎_elim (λ l. l) (λ le. absurd (not-le_of_lt lt le)) (f x j)) (in-fresh x us zs i)),
    λ off. (s x lt).1 (λ i. off (in-fresh-left x us zs i)),
  )

  outside-own : (us zs ys : List ℕ) → NumberedOn us first zs → NumberedOn us first ys → SameOutside us zs ys → SameOutside own (with_fresh us zs) (with_fresh us ys)
  outside-own us zs ys f g s = outside-fresh own us zs ys (λ x i. ⊎_elim (s x) (λ off. none x i zs f off ∙ sym (none x i ys g off)) (in_or_not x us))
    where
      none : (x : ℕ) → In x own → (vs : List ℕ) → NumberedOn us first vs → (In x us → ⊥) → is_in x vs ≡ false
      none x i vs h off = not-in x vs (λ j. ⊎_elim off (λ le. not-le_of_lt (below x i) le) (h x j))

  picked-so : (w : Waiting I) (ws : List (Waiting I)) (O : List ℕ) (n m : ℕ) (b c : Point I) (y : Why) (Rest : Type 0) (r q : Arranged I) (p p' : Picked I) → first ≤ n → first ≤ m →
      (Among w.variables y.looked_at → Alike w.variables first r q × Alike w.variables first q r) → Kept w.variables n b r → Kept w.variables m c q →
      (Remains Op own first w.trial O b y → Waits q) → (Rest → PickedSo b c p p') → Told Op own first w O b y r Rest → PickedSo b c (picked w ws r p) (picked w ws q p')
  picked-so w ws O n m b c y Rest (runs gs None i zs) q p p' ln lm k kr kq wq rest t = tt
  picked-so w ws O n m b c y Rest (runs gs (Some d) i zs) (breaks f) p p' ln lm k kr kq wq rest t = absurd ((k t).0)
  picked-so w ws O n m b c y Rest (runs gs (Some d) i zs) (runs hs None j ys) p p' ln lm k kr kq wq rest t = absurd ((k t).0.2)
  picked-so w ws O n m b c y Rest (runs gs (Some d) i zs) (runs hs (Some e) j ys) p p' ln lm k kr kq wq rest t =
      let a = (k t).0 in
      let u = (k t).1 in
      (a.1, outside-own w.variables zs ys a.4 u.4 a.3, refl, since-fresh w.variables zs b c d e a.4 (since-from Op first w.variables n m b c d e ln lm a.2 kr.1 kq.1))
  picked-so w ws O n m b c y Rest (breaks lacks) q p p' ln lm k kr kq wq rest t = tt
  picked-so w ws O n m b c y Rest (breaks (waits i vs)) (runs hs o j ys) p p' ln lm k kr kq wq rest t = absurd (wq t.0)
  picked-so w ws O n m b c y Rest (breaks (waits i vs)) (breaks (waits j us)) p p' ln lm k kr kq wq rest t = rest t.1
  picked-so w ws O n m b c y Rest (breaks (waits i vs)) (breaks (negated_binds v)) p p' ln lm k kr kq wq rest t = absurd (wq t.0)
  picked-so w ws O n m b c y Rest (breaks (waits i vs)) (breaks (branches_differ v)) p p' ln lm k kr kq wq rest t = absurd (wq t.0)
  picked-so w ws O n m b c y Rest (breaks (waits i vs)) (breaks lacks) p p' ln lm k kr kq wq rest t = absurd (wq t.0)
  picked-so w ws O n m b c y Rest (breaks (negated_binds x)) (runs hs o j ys) p p' ln lm k kr kq wq rest t = absurd ((k t.0).0)
  picked-so w ws O n m b c y Rest (breaks (negated_binds x)) (breaks (waits j us)) p p' ln lm k kr kq wq rest t = absurd ((k t.0).0)
  picked-so w ws O n m b c y Rest (breaks (negated_binds x)) (breaks (negated_binds v)) p p' ln lm k kr kq wq rest t = or-first-so b c (negated_binds x) (negated_binds v) p p' (rest t.1)
  picked-so w ws O n m b c y Rest (breaks (negated_binds x)) (breaks (branches_differ v)) p p' ln lm k kr kq wq rest t = absurd ((k t.0).0)
  picked-so w ws O n m b c y Rest (breaks (negated_binds x)) (breaks lacks) p p' ln lm k kr kq wq rest t = absurd ((k t.0).0)
  picked-so w ws O n m b c y Rest (breaks (branches_differ x)) (runs hs o j ys) p p' ln lm k kr kq wq rest t = absurd ((k t.0).0)
  picked-so w ws O n m b c y Rest (breaks (branches_differ x)) (breaks (waits j us)) p p' ln lm k kr kq wq rest t = absurd ((k t.0).0)
  picked-so w ws O n m b c y Rest (breaks (branches_differ x)) (breaks (negated_binds v)) p p' ln lm k kr kq wq rest t = absurd ((k t.0).0)
  picked-so w ws O n m b c y Rest (breaks (branches_differ x)) (breaks (branches_differ v)) p p' ln lm k kr kq wq rest t = or-first-so b c (branches_differ x) (branches_differ v) p p' (rest t.1)
  picked-so w ws O n m b c y Rest (breaks (branches_differ x)) (breaks lacks) p p' ln lm k kr kq wq rest t = absurd ((k t.0).0)

  pick-so : (vs ws : List (Waiting I)) (O U : List ℕ) (n m : ℕ) (b c : Point I) (y : Why) → AllKnown ws → first ≤ n → first ≤ m → SameOutside own O U → StillSo Op y b c → Tells Op own first vs ws O n b y → PickedSo b c (pick vs ws O n b) (pick vs ws U m c)
  pick-so vs [] O U n m b c y k ln lm s h t = tt
  pick-so vs (w ∷ ws) O U n m b c y k ln lm s h t =
      let V = variables_of_waiting (vs ++ ws) in
      let outer = outside-more own O U V s in
      picked-so w (vs ++ ws) (O ++ V) n m b c y (Tells Op own first (vs ++ w ∷ []) ws O n b y) (w.trial (O ++ V) n b) (w.trial (U ++ V) m c) (pick (vs ++ w ∷ []) ws O n b) (pick (vs ++ w ∷ []) ws U m c) ln lm
      (λ a. (
        k.0.0 (O ++ V) (U ++ V) n m b c ln lm (λ x i. outer x (k.0.2 x i)) (λ x i. h.1 x (a x i)),
        k.0.0 (U ++ V) (O ++ V) m n c b lm ln (λ x i. sym (outer x (k.0.2 x i))) (λ x i. sym (h.1 x (a x i))),
      ))
      (k.0.1 (O ++ V) n b) (k.0.1 (U ++ V) m c) (λ r. r (U ++ V) m c lm outer h)
      (λ rest. pick-so (vs ++ w ∷ []) ws O U n m b c y k.1 ln lm s h rest) t

  since-on : (ran vs : List ℕ) (b c d e d' e' : Point I) → Since Op first ran b c d e → Since Op first vs d e d' e' → Since Op first (vs ++ ran) b c d' e'
  since-on ran vs b c d e d' e' s t x lt = (
    λ i.
        ⊎_elim (λ j. (t x lt).0 j)
        (λ off. ((t x lt).1 off).0 ∙ ((s x lt).0 (⊎_elim (λ j. absurd (off j)) (λ j. j) (in_either x vs ran i)) ∙ sym (((t x lt).1 off).1))) (in_or_not x vs),
    λ off. (
      ((t x lt).1 (λ j. off (in_left x vs ran j))).0 ∙ ((s x lt).1 (λ j. off (in_right x vs ran j))).0,
      ((t x lt).1 (λ j. off (in_left x vs ran j))).1 ∙ ((s x lt).1 (λ j. off (in_right x vs ran j))).1,
    ),
  )

  pub turns-go-on : (O : List ℕ) (b : Point I) (y : Why) (k j n m : ℕ) (ws us rest : List (Waiting I)) (Q vs ran : List ℕ) (d e : Point I) (gs : Nodes) (z all : Why) →
      HasCome Op P declared T own first k ws O b (suc j) us Q d ran y → AreGoals Op P declared T own first us → first ≤ n → Tells Op own first [] us Q n d z →
      pick [] us Q n d ≡ takes vs rest gs (Some e) m → Carried Op ran first z d all → Wider y all → HasCome Op P declared T own first k ws O b j rest (Q ++ vs) e (vs ++ ran) all
  turns-go-on O b y k j n m ws us rest Q vs ran d e gs z all come goals ln tells picks carry wide U i c li s h =
      let r = come U i c li s (narrower Op y all b c wide h) in
      step r.0 r.2 r.4 r.5 (pick [] us r.0 r.1 r.2)
      (subst (λ p. PickedSo d r.2 p (pick [] us r.0 r.1 r.2)) picks (pick-so [] us Q r.0 n r.1 d r.2 z (all-known us goals) ln r.3 r.4 (carried Op first ran b c d r.2 z all r.5 h carry) tells))
      r.6
    where
      Come : Type 0
      Come =
          (X : List ℕ) × (l : ℕ) × (a : Point I) × (first ≤ l) × SameOutside own (Q ++ vs) X × Since Op first (vs ++ ran) b c e a
          × (Waits (in_turn Op P declared T j rest X l a) → Waits (in_turn Op P declared T k ws U i c))

      step : (X : List ℕ) (a : Point I) → SameOutside own Q X → Since Op first ran b c d a → (q : Picked I) → PickedSo d a (takes vs rest gs (Some e) m) q →
          (Waits (goes_on (stuck Op P declared T us a) q (λ vs' ys l a'. in_turn Op P declared T j ys (X ++ vs') l a')) → Waits (in_turn Op P declared T k ws U i c)) → Come
      step X a o t (none_runs f) p w = absurd p
      step X a o t (takes vs' ys hs None l) p w = absurd p
      step X a o t (takes vs' ys hs (Some a') l) p w =
          (X ++ vs', l, a', p.0, outside-both own Q X vs vs' o p.1, since-on ran vs b c d a e a' t p.3, λ v. w (waits-behind hs _ (subst (λ (zs : List (Waiting I)). Waits (in_turn Op P declared T j zs (X ++ vs') l a')) p.2 v)))

  waits-picked : (w : Waiting I) (ws : List (Waiting I)) (r : Arranged I) (p : Picked I) → Waits r → picked w ws r p ≡ p
  waits-picked w ws (runs gs o n zs) p k = absurd k
  waits-picked w ws (breaks (waits j vs)) p k = refl
  waits-picked w ws (breaks (negated_binds v)) p k = absurd k
  waits-picked w ws (breaks (branches_differ v)) p k = absurd k
  waits-picked w ws (breaks lacks) p k = absurd k

  -- all of them wait
  abbrev EachRemains : (tried waiting : List (Waiting I)) → List ℕ → Point I → Why → Type 0
  EachRemains vs [] O b y = Unit {0}
  EachRemains vs (w ∷ ws) O b y = Remains Op own first w.trial (O ++ variables_of_waiting (vs ++ ws)) b y × EachRemains (vs ++ w ∷ []) ws O b y

  no-first : (f : Fault) (p : Picked I) → or_first f p ≡ none_runs None → ⊥
  no-first f (takes vs ws gs o n) e = cc e
  no-first f (none_runs None) e = cc e
  no-first f (none_runs (Some (waits j vs))) e = cc e
  no-first f (none_runs (Some (negated_binds v))) e = cc e
  no-first f (none_runs (Some (branches_differ v))) e = cc e
  no-first f (none_runs (Some lacks)) e = cc e

  each-of : (vs ws : List (Waiting I)) (O : List ℕ) (n : ℕ) (b : Point I) (y : Why) → Tells Op own first vs ws O n b y → pick vs ws O n b ≡ none_runs None → EachRemains vs ws O b y
  each-of vs [] O n b y t e = tt
  each-of vs (w ∷ ws) O n b y t e = at (w.trial (O ++ variables_of_waiting (vs ++ ws)) n b) (pick (vs ++ w ∷ []) ws O n b) t e (λ t' e'. each-of (vs ++ w ∷ []) ws O n b y t' e')
    where
      at : (r : Arranged I) (p : Picked I) → Told Op own first w (O ++ variables_of_waiting (vs ++ ws)) b y r (Tells Op own first (vs ++ w ∷ []) ws O n b y) → picked w (vs ++ ws) r p ≡ none_runs None →
          (Tells Op own first (vs ++ w ∷ []) ws O n b y → p ≡ none_runs None → EachRemains (vs ++ w ∷ []) ws O b y) → Remains Op own first w.trial (O ++ variables_of_waiting (vs ++ ws)) b y × EachRemains (vs ++ w ∷ []) ws O b y
      at (runs gs o j zs) p k q f = absurd (cc q)
      at (breaks (waits j us)) p k q f = (k.0, f k.1 q)
      at (breaks (negated_binds v)) p k q f = absurd (no-first (negated_binds v) p q)
      at (breaks (branches_differ v)) p k q f = absurd (no-first (branches_differ v) p q)
      at (breaks lacks) p k q f = absurd (cc q)

  none-picked : (vs ws : List (Waiting I)) (O U : List ℕ) (m : ℕ) (b c : Point I) (y : Why) → first ≤ m → SameOutside own O U → StillSo Op y b c → EachRemains vs ws O b y → pick vs ws U m c ≡ none_runs None
  none-picked vs [] O U m b c y lm s h k = refl
  none-picked vs (w ∷ ws) O U m b c y lm s h k =
      let V = variables_of_waiting (vs ++ ws) in
      waits-picked w (vs ++ ws) (w.trial (U ++ V) m c) (pick (vs ++ w ∷ []) ws U m c) (k.0 (U ++ V) m c lm (outside-more own O U V s) h) ∙ none-picked (vs ++ w ∷ []) ws O U m b c y lm s h k.1

  pub turns-stop : (O : List ℕ) (b : Point I) (y : Why) (k j n : ℕ) (ws us : List (Waiting I)) (Q ran : List ℕ) (d : Point I) (z all : Why) → HasCome Op P declared T own first k ws O b (suc j) us Q d ran y →
      Tells Op own first [] us Q n d z → pick [] us Q n d ≡ none_runs None → Carried Op ran first z d all → Wider y all → Remains Op own first (in_turn Op P declared T k ws) O b all
  turns-stop O b y k j n ws us Q ran d z all come tells none carry wide U m c lm s h =
      let r = come U m c lm s (narrower Op y all b c wide h) in
      r.6
      (subst (λ p. Waits (goes_on (stuck Op P declared T us r.2) p (λ vs rest l a. in_turn Op P declared T j rest (r.0 ++ vs) l a)))
      (sym (none-picked [] us Q r.0 r.1 d r.2 z r.3 r.4 (carried Op first ran b c d r.2 z all r.5 h carry) (each-of [] us Q n d z tells none))) tt)

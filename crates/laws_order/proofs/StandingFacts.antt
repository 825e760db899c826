-- What a goal that stands in its order changes, and which variables its nodes have.
use Rattle.std.proofs.Common.{◌≡◌, ◌⊎◌, inl, inr, ℕ, suc, ◌+◌, ◌<◌, ◌≤◌, Bool, true, false, cond, nat_eq, List, [], ◌∷◌, ◌++◌, length, Option, Some, None, refl, ◌∙◌, ⊎_elim, arith}
use Rattle.std.proofs.Math.Nat.{le_trans, le_refl, lt_of_lt_of_le}
use Rattle.std.proofs.lemmas.Bool.{eqb-true}
use Rattle.mc_program.specs.Programs.{TypeTerm}
use Rattle.mc_model.specs.Outcomes.{inputs_of}
use Rattle.mc_model.specs.Flat as F
use Rattle.mc_model.specs.Flat.{Flat_goal, Flat_goals, variables_of, variables_of_all}
use Rattle.mc_model.specs.Lists.{In, is_in}
use Rattle.mc_model.specs.Scheduled.{Node, Nodes, no_nodes, node_then}
use Rattle.mc_model.specs.Stream.{is_bound}
use Rattle.mc_model.specs.Good.{System}
use Rattle.mc_accepted.specs.Ordered.{Insts, Mode, is_state, also, at_inputs, at_outputs, reachable, unless_never, take_all, AfterArguments, no_more, not_passed, output, implied, dies, keeps, becomes, Picks, here, there, variables_of_node, variables_of_nodes}
use Rattle.mc_accepted.specs.Arranged.{fresh_at, tests_at, test_nodes, nodes_before}
use Rattle.mc_accepted.specs.code.Standing as S
use Rattle.mc_accepted.specs.code.Standing.{implied_of, freshened, fresh_tests, Freshly, fresh_nodes, JoinedOwn, Standing, StandingAll, StandingAny}
use Rattle.mc_program.specs.declared.builtin.Builtin.{Builtin}
use Rattle.mc_source.specs.declared.det.Most.{Most}
use Rattle.mc_source.specs.declared.det.Most.TheVariants.{Zero, One, Many}
use Rattle.laws_order.proofs.OthersStay.{in-condition, in-then, in-else, Within}
use Rattle.laws_language.proofs.FlatGoals.{in_either, in_left, in_right}

pub picks-goal : {gs rest : Flat_goals} {g : Flat_goal} → Picks gs g rest → (x : ℕ) → In x (variables_of g) → In x (variables_of_all gs)
picks-goal (here {g = g} {gs = gs}) x i = in_left x (variables_of g) (variables_of_all gs) i
picks-goal (there {k = k} {gs = gs} p) x i = in_right x (variables_of k) (variables_of_all gs) (picks-goal p x i)

pub picks-rest : {gs rest : Flat_goals} {g : Flat_goal} → Picks gs g rest → (x : ℕ) → In x (variables_of_all rest) → In x (variables_of_all gs)
picks-rest (here {g = g} {gs = gs}) x i = in_right x (variables_of g) (variables_of_all gs) i
picks-rest (there {k = k} {gs = gs} {rest = rest} p) x i =
    ⊎_elim (λ j. in_left x (variables_of k) (variables_of_all gs) j) (λ j. in_right x (variables_of k) (variables_of_all gs) (picks-rest p x j)) (in_either x (variables_of k) (variables_of_all rest) i)

-- ---- what is changed
abbrev pub Stays : (own : List ℕ) → (n m : ℕ) → Insts → Insts → Type 0
Stays own n m b c = (y : ℕ) → (In y own → ⊥) → (y < n) ⊎ (m ≤ y) → c y ≡ b y

abbrev pub EndStays : (own : List ℕ) → (n m : ℕ) → Insts → Option Insts → Type 0
EndStays own n m b None = Unit {0}
EndStays own n m b (Some c) = Stays own n m b c

abbrev pub EachStays : (own : List ℕ) → (n m : ℕ) → Insts → List Insts → Type 0
EachStays own n m b [] = Unit {0}
EachStays own n m b (c ∷ cs) = Stays own n m b c × EachStays own n m b cs

pub widened : (own vs : List ℕ) (n n' m m' : ℕ) (b : Insts) (o : Option Insts) → Within vs own → n' ≤ n → m ≤ m' → EndStays vs n m b o → EndStays own n' m' b o
widened own vs n n' m m' b None w p q s = tt
widened own vs n n' m m' b (Some c) w p q s = λ y off r. s y (λ i. off (w y i)) (⊎_elim (λ lt. inl (lt_of_lt_of_le lt p)) (λ le. inr (le_trans q le)) r)

pub each-widened : (own vs : List ℕ) (n n' m m' : ℕ) (b : Insts) (cs : List Insts) → Within vs own → n' ≤ n → m ≤ m' → EachStays vs n m b cs → EachStays own n' m' b cs
each-widened own vs n n' m m' b [] w p q s = tt
each-widened own vs n n' m m' b (c ∷ cs) w p q s = (widened own vs n n' m m' b (Some c) w p q s.0, each-widened own vs n n' m m' b cs w p q s.1)

pub chained : (own : List ℕ) (n k m : ℕ) (b c : Insts) (o : Option Insts) → n ≤ k → k ≤ m → Stays own n k b c → EndStays own k m c o → EndStays own n m b o
chained own n k m b c None p q s t = tt
chained own n k m b c (Some d) p q s t = λ y off r. t y off (⊎_elim (λ lt. inl (lt_of_lt_of_le lt p)) (λ le. inr le) r) ∙ s y off (⊎_elim (λ lt. inl lt) (λ le. inr (le_trans q le)) r)

pub with-each : (own : List ℕ) (n m : ℕ) (b : Insts) (o : Option Insts) (os : List (Option Insts)) → EndStays own n m b o → EachStays own n m b (reachable os) → EachStays own n m b (reachable (o ∷ os))
with-each own n m b None os s t = t
with-each own n m b (Some c) os s t = (s, t)

pub also-off : (x i : ℕ) (b : Insts) (y : ℕ) → (y ≡ x → ⊥) → also x i b y ≡ b y
also-off x i b y off = at (nat_eq y x) (eqb-true y x)
  where
    at : (t : Bool) → (t ≡ true → y ≡ x) → cond t i (b y) ≡ b y
    at true e = absurd (off (e refl))
    at false e = refl

pub cond-off : (t : Bool) (b c : Insts) (y : ℕ) → c y ≡ b y → cond t b c y ≡ b y
cond-off true b c y e = refl
cond-off false b c y e = e

pub state-off : (t : Bool) (b c : Insts) (y : ℕ) → c y ≡ b y → cond t c b y ≡ b y
state-off true b c y e = e
state-off false b c y e = refl

pub take-off : (ys is : List ℕ) (b : Insts) (y : ℕ) → (In y ys → ⊥) → take_all ys is b y ≡ b y
take-off [] is b y off = refl
take-off (x ∷ xs) [] b y off = refl
take-off (x ∷ xs) (i ∷ is) b y off = take-off xs is (cond (is_bound (b x)) b (also x i b)) y (λ j. off (inr j)) ∙ cond-off (is_bound (b x)) b (also x i b) y (also-off x i b y (λ e. off (inl e)))

pub fresh-range : (k : ℕ) (is xs : List ℕ) (n x : ℕ) → In x (fresh_at k is xs n) → In x xs ⊎ ((n ≤ x) × (x < n + length (tests_at k is xs n)))
fresh-range k is [] n x i = absurd i
fresh-range k is (y ∷ xs) n x i = at (is_in k is) i (fresh-range (suc k) is xs (suc n) x) (fresh-range (suc k) is xs n x)
  where
    at : (t : Bool) → In x (cond t (n ∷ fresh_at (suc k) is xs (suc n)) (y ∷ fresh_at (suc k) is xs n)) → (In x (fresh_at (suc k) is xs (suc n)) → In x xs ⊎ ((suc n ≤ x) × (x < suc n + length (tests_at (suc k) is xs (suc n))))) →
        (In x (fresh_at (suc k) is xs n) → In x xs ⊎ ((n ≤ x) × (x < n + length (tests_at (suc k) is xs n)))) →
        ((x ≡ y) ⊎ In x xs) ⊎ ((n ≤ x) × (x < n + length (cond t ((n, y) ∷ tests_at (suc k) is xs (suc n)) (tests_at (suc k) is xs n))))
    at true j f g = ⊎_elim (λ e. inr (omega (arith, e), omega (arith, e))) (λ l. ⊎_elim (λ q. inl (inr q)) (λ q. inr (omega (arith, q), omega (arith, q))) (f l)) j
    at false j f g = ⊎_elim (λ e. inl (inl e)) (λ l. ⊎_elim (λ q. inl (inr q)) (λ q. inr q) (g l)) j

tests-range : (k : ℕ) (is xs : List ℕ) (n x : ℕ) → In x (variables_of_nodes (test_nodes (tests_at k is xs n))) → In x xs ⊎ ((n ≤ x) × (x < n + length (tests_at k is xs n)))
tests-range k is [] n x i = absurd i
tests-range k is (y ∷ xs) n x i = at (is_in k is) i (tests-range (suc k) is xs (suc n) x) (tests-range (suc k) is xs n x)
  where
    at : (t : Bool) → In x (variables_of_nodes (test_nodes (cond t ((n, y) ∷ tests_at (suc k) is xs (suc n)) (tests_at (suc k) is xs n)))) →
        (In x (variables_of_nodes (test_nodes (tests_at (suc k) is xs (suc n)))) → In x xs ⊎ ((suc n ≤ x) × (x < suc n + length (tests_at (suc k) is xs (suc n))))) →
        (In x (variables_of_nodes (test_nodes (tests_at (suc k) is xs n))) → In x xs ⊎ ((n ≤ x) × (x < n + length (tests_at (suc k) is xs n)))) →
        ((x ≡ y) ⊎ In x xs) ⊎ ((n ≤ x) × (x < n + length (cond t ((n, y) ∷ tests_at (suc k) is xs (suc n)) (tests_at (suc k) is xs n))))
    at true j f g = ⊎_elim (λ e. inr (omega (arith, e), omega (arith, e))) (λ l. ⊎_elim (λ e. inl (inl e)) (λ r. ⊎_elim (λ q. inl (inr q)) (λ q. inr (omega (arith, q), omega (arith, q))) (f r)) l) j
    at false j f g = ⊎_elim (λ q. inl (inr q)) (λ q. inr q) (g j)

inputs-in : (bs : List Bool) (xs : List ℕ) (x : ℕ) → In x (at_inputs bs xs) → In x xs
inputs-in [] xs x i = absurd i
inputs-in (b ∷ bs) [] x i = absurd i
inputs-in (true ∷ bs) (y ∷ xs) x i = ⊎_elim (λ e. inl e) (λ j. inr (inputs-in bs xs x j)) i
inputs-in (false ∷ bs) (y ∷ xs) x i = inr (inputs-in bs xs x i)

outputs-in : (bs : List Bool) (xs : List ℕ) (x : ℕ) → In x (at_outputs bs xs) → In x xs
outputs-in [] xs x i = absurd i
outputs-in (b ∷ bs) [] x i = absurd i
outputs-in (true ∷ bs) (y ∷ xs) x i = inr (outputs-in bs xs x i)
outputs-in (false ∷ bs) (y ∷ xs) x i = ⊎_elim (λ e. inl e) (λ j. inr (outputs-in bs xs x j)) i

apply-in : (bs : List Bool) (xs : List ℕ) (x : ℕ) → In x (at_inputs bs xs ++ at_outputs bs xs) → In x xs
apply-in bs xs x i = ⊎_elim (λ j. inputs-in bs xs x j) (λ j. outputs-in bs xs x j) (in_either x (at_inputs bs xs) (at_outputs bs xs) i)

before-either : (ns ms : Nodes) (x : ℕ) → In x (variables_of_nodes (nodes_before ns ms)) → In x (variables_of_nodes ns) ⊎ In x (variables_of_nodes ms)
before-either no_nodes ms x i = inr i
before-either (node_then n ns) ms x i =
    ⊎_elim (λ j. inl (in_left x (variables_of_node n) (variables_of_nodes ns) j)) (λ j. ⊎_elim (λ l. inl (in_right x (variables_of_node n) (variables_of_nodes ns) l)) (λ l. inr l) (before-either ns ms x j))
    (in_either x (variables_of_node n) (variables_of_nodes (nodes_before ns ms)) i)

module _ (Y : System) (T : ℕ → TypeTerm) where
  pub after-off : {f : ℕ → Bool} {ms : List Mode} {xs : List ℕ} {b c : Insts} → AfterArguments Y T f ms xs b c → (y : ℕ) → (In y xs → ⊥) → c y ≡ b y
  after-off no_more y off = refl
  after-off (not_passed a) y off = after-off a y (λ j. off (inr j))
  after-off (output {b = b} {x = x} {l = l} p q a) y off = after-off a y (λ j. off (inr j)) ∙ also-off x l b y (λ e. off (inl e))
  after-off (implied p q a) y off = after-off a y (λ j. off (inr j))
  after-off (dies {b = b} {x = x} {l = l} p q a) y off = after-off a y (λ j. off (inr j)) ∙ also-off x l b y (λ e. off (inl e))
  after-off (keeps p q r a) y off = after-off a y (λ j. off (inr j))
  after-off (becomes {b = b} {x = x} {l = l} p q r a) y off = after-off a y (λ j. off (inr j)) ∙ also-off x l b y (λ e. off (inl e))

  never-stays : (own : List ℕ) (n m : ℕ) (b c : Insts) (t : Most) → Stays own n m b c → EndStays own n m b (unless_never t c)
  never-stays own n m b c Zero s = tt
  never-stays own n m b c One s = s
  never-stays own n m b c Many s = s

  joined-stays : (own O : List ℕ) (n m : ℕ) (b : Insts) (ends : List Insts) (o : Option Insts) → JoinedOwn Y T own O b ends o → EndStays own n m b o
  joined-stays own O n m b [] None e = tt
  joined-stays own O n m b [] (Some c) e = cc
  joined-stays own O n m b (c ∷ ends) None h = tt
  joined-stays own O n m b (c ∷ ends) (Some e) h = λ y off r. (h y).2 off

  abbrev pub Ranged : (own : List ℕ) → (n m : ℕ) → Insts → Option Insts → Type 0
  Ranged own n m b o = (n ≤ m) × EndStays own n m b o

  assigned-off : (x y : ℕ) (b : Insts) (z : ℕ) → (z ≡ x → ⊥) → (z ≡ y → ⊥) → also x (b y) (cond (is_state (T y)) (also y 3 b) b) z ≡ b z
  assigned-off x y b z p q = also-off x (b y) (cond (is_state (T y)) (also y 3 b) b) z p ∙ state-off (is_state (T y)) b (also y 3 b) z (also-off y 3 b z q)

  pub freshly-stays : (n : ℕ) (b c : Insts) {p : ℕ} (op : Builtin) (xs : List ℕ) → Freshly Y T n b c p op xs → Stays xs n (n + length (fresh_tests Y T n b op xs)) b c
  freshly-stays n b c op xs f = λ z off k. after-off f.after z (λ j. ⊎_elim off (λ r. ⊎_elim (λ lt. omega (arith, lt, r)) (λ le. omega (arith, le, r)) k) (fresh-range 0 (implied_of Y T op xs b) xs n z j))

  mutual
    pub stays : {O : List ℕ} {n m : ℕ} {b : Insts} {g : Flat_goal} {x : Node} {o : Option Insts} → Standing Y T O n b g x o m → Ranged (variables_of g) n m b o
    stays (S.assign {n = n} {b = b} {x = x} {y = y} p q r) = (le_refl n, λ z off k. assigned-off x y b z (λ e. off (inl e)) (λ e. off (inr (inl e))))
    stays (S.assign_back {n = n} {b = b} {x = x} {y = y} p q r) = (le_refl n, λ z off k. assigned-off x y b z (λ e. off (inr (inl e))) (λ e. off (inl e)))
    stays (S.test {n = n} p q r a) = (le_refl n, λ z off k. refl)
    stays (S.build {n = n} {b = b} {x = x} {i = i} p q r a h) = (le_refl n, λ z off k. also-off x i b z (λ e. off (inl e)))
    stays (S.take {n = n} {b = b} {x = x} {i = i} {ys = ys} {is = is} p q r a) = (le_refl n, λ z off k. take-off ys is (also x i b) z (λ j. off (inr j)) ∙ also-off x i b z (λ e. off (inl e)))
    stays (S.take_never {n = n} p q r) = (le_refl n, tt)
    stays (S.put {n = n} {b = b} {x = x} p) = (le_refl n, λ z off k. also-off x 1 b z (λ e. off (inl e)))
    stays (S.test_constant {n = n} p q r) = (le_refl n, λ z off k. refl)
    stays (S.test_never {n = n} p q r) = (le_refl n, tt)
    stays (S.call {n = n} {b = b} {c = c} {p = p} {xs = xs} lt u a h) = (le_refl n, never-stays xs n n b c (Y.procs p).det.most (λ z off k. after-off h z off))
    stays (S.apply {n = n} {b = b} {c = c} {op = op} {xs = xs} e u a i h) = (le_refl n, never-stays xs n n b c _ (λ z off k. after-off h z off))
    stays (S.apply_freshly {n = n} {b = b} {c = c} {op = op} {xs = xs} f) = (omega arith, freshly-stays n b c op xs f)
    stays (S.conj s) = all-stays s
    stays (S.disj {O = O} {n = n} {m = m} {b = b} {gs = gs} {os = os} {o = o} s j) = ((any-stays s).0, joined-stays (variables_of_all gs) O n m b (reachable os) o j)
    stays (S.ite {O = O} {n = n} {m = m} {b = b} {vs = vs} {g = g} {h = h} {k = k} {o = o} {o' = o'} {o'' = o''} s p t u j) =
        (le_trans (stays s).0 (le_trans (stays t).0 (stays u).0), joined-stays (variables_of (F.If vs g h k)) O n m b (reachable (o ∷ o' ∷ [])) o'' j)
    stays (S.ite_never {O = O} {n = n} {m = m} {b = b} {vs = vs} {g = g} {h = h} {k = k} {o = o} {o'' = o''} s u j) = (le_trans (stays s).0 (stays u).0, joined-stays (variables_of (F.If vs g h k)) O n m b (reachable (o ∷ [])) o'' j)
    stays (S.neg s p) = ((stays s).0, λ z off k. refl)
    stays (S.some {n = n} {m = m} {b = b} {vs = vs} {g = g} {o = o} s) = ((stays s).0, widened (vs ++ variables_of g) (variables_of g) n n m m b o (λ x i. in_right x vs (variables_of g) i) (le_refl n) (le_refl m) (stays s).1)

    pub all-stays : {O : List ℕ} {n m : ℕ} {b : Insts} {gs : Flat_goals} {ns : Nodes} {o : Option Insts} → StandingAll Y T O n b gs ns o m → Ranged (variables_of_all gs) n m b o
    all-stays (S.done {n = n}) = (le_refl n, λ z off k. refl)
    all-stays (S.dropped p s) = ((stays s).0, tt)
    all-stays (S.next {n = n} {n1 = n1} {m = m} {b = b} {c = c} {g = g} {gs = gs} {rest = rest} {o = o} p s r) = (
      le_trans (stays s).0 (all-stays r).0,
      chained (variables_of_all gs) n n1 m b c o (stays s).0 (all-stays r).0
          (widened (variables_of_all gs) (variables_of g) n n n1 n1 b (Some c) (picks-goal p) (le_refl n) (le_refl n1) (stays s).1)
          (widened (variables_of_all gs) (variables_of_all rest) n1 n1 m m c o (picks-rest p) (le_refl n1) (le_refl m) (all-stays r).1),
    )
    all-stays (S.implied_outputs {n = n} {m = m} {b = b} {c = c} {op = op} {xs = xs} {gs = gs} {rest = rest} {o = o} p f r) = (
      le_trans (omega arith) (all-stays r).0,
      chained (variables_of_all gs) n (n + length (fresh_tests Y T n b op xs)) m b c o (omega arith) (all-stays r).0
          (widened (variables_of_all gs) xs n n (n + length (fresh_tests Y T n b op xs)) (n + length (fresh_tests Y T n b op xs)) b (Some c) (picks-goal p) (le_refl n) (le_refl _) (freshly-stays n b c op xs f))
          (widened (variables_of_all gs) (variables_of_all rest) (n + length (fresh_tests Y T n b op xs)) (n + length (fresh_tests Y T n b op xs)) m m c o (picks-rest p) (le_refl _) (le_refl m) (all-stays r).1),
    )

    pub any-stays : {O : List ℕ} {n m : ℕ} {b : Insts} {gs : Flat_goals} {ns : Nodes} {os : List (Option Insts)} → StandingAny Y T O n b gs ns os m → (n ≤ m) × EachStays (variables_of_all gs) n m b (reachable os)
    any-stays (S.no_other {n = n}) = (le_refl n, tt)
    any-stays (S.either {n = n} {n1 = n1} {m = m} {b = b} {g = g} {gs = gs} {o = o} {os = os} s r) = (
      le_trans (stays s).0 (any-stays r).0,
      with-each (variables_of g ++ variables_of_all gs) n m b o os
          (widened (variables_of g ++ variables_of_all gs) (variables_of g) n n n1 m b o (λ x i. in_left x (variables_of g) (variables_of_all gs) i) (le_refl n) (any-stays r).0 (stays s).1)
          (each-widened (variables_of g ++ variables_of_all gs) (variables_of_all gs) n1 n m m b (reachable os) (λ x i. in_right x (variables_of g) (variables_of_all gs) i) (stays s).0 (le_refl m) (any-stays r).1),
    )

  -- ---- which variables its nodes have
  abbrev pub Placed : (own : List ℕ) → (n m : ℕ) → ℕ → Type 0
  Placed own n m y = In y own ⊎ ((n ≤ y) × (y < m))

  placed-more : (own vs : List ℕ) (n n' m m' y : ℕ) → Within vs own → n' ≤ n → m ≤ m' → Placed vs n m y → Placed own n' m' y
  placed-more own vs n n' m m' y w p q r = ⊎_elim (λ i. inl (w y i)) (λ k. inr (le_trans p k.0, lt_of_lt_of_le k.1 q)) r

  pub fresh-placed : (n : ℕ) (b c : Insts) (op : Builtin) (xs : List ℕ) (y : ℕ) → In y (variables_of_nodes (fresh_nodes Y T n b c op xs)) → Placed xs n (n + length (fresh_tests Y T n b op xs)) y
  fresh-placed n b c op xs y i =
      ⊎_elim (λ j. fresh-range 0 (implied_of Y T op xs b) xs n y (apply-in (inputs_of op) (freshened Y T n b op xs) y j)) (λ j. tests-range 0 (implied_of Y T op xs b) xs n y j)
      (in_either y (at_inputs (inputs_of op) (freshened Y T n b op xs) ++ at_outputs (inputs_of op) (freshened Y T n b op xs)) (variables_of_nodes (test_nodes (fresh_tests Y T n b op xs))) i)

  mutual
    pub node-placed : {O : List ℕ} {n m : ℕ} {b : Insts} {g : Flat_goal} {x : Node} {o : Option Insts} → Standing Y T O n b g x o m → (y : ℕ) → In y (variables_of_node x) → Placed (variables_of g) n m y
    node-placed (S.assign p q r) y i = inl i
    node-placed (S.assign_back p q r) y i = inl (⊎_elim (λ e. inr (inl e)) (λ j. ⊎_elim (λ e. inl e) (λ a. absurd a) j) i)
    node-placed (S.test p q r a) y i = inl i
    node-placed (S.build p q r a h) y i = inl i
    node-placed (S.take p q r a) y i = inl i
    node-placed (S.take_never p q r) y i = inl i
    node-placed (S.put p) y i = inl i
    node-placed (S.test_constant p q r) y i = inl i
    node-placed (S.test_never p q r) y i = inl i
    node-placed (S.call lt u a h) y i = inl i
    node-placed (S.apply {op = op} {xs = xs} e u a k h) y i = inl (apply-in (inputs_of op) xs y i)
    node-placed (S.apply_freshly {n = n} {b = b} {c = c} {op = op} {xs = xs} f) y i = fresh-placed n b c op xs y i
    node-placed (S.conj s) y i = all-placed s y i
    node-placed (S.disj s j) y i = any-placed s y i
    node-placed (S.ite {n = n} {n1 = n1} {n2 = n2} {m = m} {vs = vs} {g = g} {h = h} {k = k} {x = xc} {y = xt} {z = xe} s p t u j) y i =
        ⊎_elim (λ l. inl (in_left y vs (variables_of g ++ (variables_of h ++ variables_of k)) l))
        (λ l. ⊎_elim (λ r. placed-more (variables_of (F.If vs g h k)) (variables_of g) n n n1 m y (in-condition vs g h k) (le_refl n) (le_trans (stays t).0 (stays u).0) (node-placed s y r))
        (λ l2. ⊎_elim (λ r. placed-more (variables_of (F.If vs g h k)) (variables_of h) n1 n n2 m y (in-then vs g h k) (stays s).0 (stays u).0 (node-placed t y r))
        (λ r. placed-more (variables_of (F.If vs g h k)) (variables_of k) n2 n m m y (in-else vs g h k) (le_trans (stays s).0 (stays t).0) (le_refl m) (node-placed u y r))
        (in_either y (variables_of_node xt) (variables_of_node xe) l2))
        (in_either y (variables_of_node xc) (variables_of_node xt ++ variables_of_node xe) l))
        (in_either y vs (variables_of_node xc ++ (variables_of_node xt ++ variables_of_node xe)) i)
    node-placed (S.ite_never {n = n} {n1 = n1} {m = m} {vs = vs} {g = g} {h = h} {k = k} {x = xc} {z = xe} s u j) y i =
        ⊎_elim (λ l. inl (in_left y vs (variables_of g ++ (variables_of h ++ variables_of k)) l))
        (λ l. ⊎_elim (λ r. placed-more (variables_of (F.If vs g h k)) (variables_of g) n n n1 m y (in-condition vs g h k) (le_refl n) (stays u).0 (node-placed s y r))
        (λ r. placed-more (variables_of (F.If vs g h k)) (variables_of k) n1 n m m y (in-else vs g h k) (stays s).0 (le_refl m) (node-placed u y r))
        (in_either y (variables_of_node xc) (variables_of_node xe) l))
        (in_either y vs (variables_of_node xc ++ variables_of_node xe) i)
    node-placed (S.neg s p) y i = node-placed s y i
    node-placed (S.some {n = n} {m = m} {vs = vs} {g = g} {x = x} s) y i =
        ⊎_elim (λ l. inl (in_left y vs (variables_of g) l)) (λ l. placed-more (vs ++ variables_of g) (variables_of g) n n m m y (λ z j. in_right z vs (variables_of g) j) (le_refl n) (le_refl m) (node-placed s y l)) (in_either y vs (variables_of_node x) i)

    pub all-placed : {O : List ℕ} {n m : ℕ} {b : Insts} {gs : Flat_goals} {ns : Nodes} {o : Option Insts} → StandingAll Y T O n b gs ns o m → (y : ℕ) → In y (variables_of_nodes ns) → Placed (variables_of_all gs) n m y
    all-placed S.done y i = absurd i
    all-placed (S.dropped {n = n} {m = m} {g = g} {gs = gs} {x = x} p s) y i =
        ⊎_elim (λ l. placed-more (variables_of_all gs) (variables_of g) n n m m y (picks-goal p) (le_refl n) (le_refl m) (node-placed s y l)) (λ a. absurd a) (in_either y (variables_of_node x) [] i)
    all-placed (S.next {n = n} {n1 = n1} {m = m} {g = g} {gs = gs} {rest = rest} {x = x} {ns = ns} p s r) y i =
        ⊎_elim (λ l. placed-more (variables_of_all gs) (variables_of g) n n n1 m y (picks-goal p) (le_refl n) (all-stays r).0 (node-placed s y l))
        (λ l. placed-more (variables_of_all gs) (variables_of_all rest) n1 n m m y (picks-rest p) (stays s).0 (le_refl m) (all-placed r y l)) (in_either y (variables_of_node x) (variables_of_nodes ns) i)
    all-placed (S.implied_outputs {n = n} {m = m} {b = b} {c = c} {op = op} {xs = xs} {gs = gs} {rest = rest} {ns = ns} p f r) y i =
        ⊎_elim (λ l. placed-more (variables_of_all gs) xs n n (n + length (fresh_tests Y T n b op xs)) m y (picks-goal p) (le_refl n) (all-stays r).0 (fresh-placed n b c op xs y l))
        (λ l. placed-more (variables_of_all gs) (variables_of_all rest) (n + length (fresh_tests Y T n b op xs)) n m m y (picks-rest p) (omega arith) (le_refl m) (all-placed r y l))
        (before-either (fresh_nodes Y T n b c op xs) ns y i)

    pub any-placed : {O : List ℕ} {n m : ℕ} {b : Insts} {gs : Flat_goals} {ns : Nodes} {os : List (Option Insts)} → StandingAny Y T O n b gs ns os m → (y : ℕ) → In y (variables_of_nodes ns) → Placed (variables_of_all gs) n m y
    any-placed S.no_other y i = absurd i
    any-placed (S.either {n = n} {n1 = n1} {m = m} {g = g} {gs = gs} {x = x} {ns = ns} s r) y i =
        ⊎_elim (λ l. placed-more (variables_of g ++ variables_of_all gs) (variables_of g) n n n1 m y (λ z j. in_left z (variables_of g) (variables_of_all gs) j) (le_refl n) (any-stays r).0 (node-placed s y l))
        (λ l. placed-more (variables_of g ++ variables_of_all gs) (variables_of_all gs) n1 n m m y (λ z j. in_right z (variables_of g) (variables_of_all gs) j) (stays s).0 (le_refl m) (any-placed r y l))
        (in_either y (variables_of_node x) (variables_of_nodes ns) i)

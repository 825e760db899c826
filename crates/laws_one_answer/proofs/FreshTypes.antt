-- Each variable that an order makes is tested against one of its goal's, so it has the type of that one.
use Rattle.std.proofs.Common.{◌≡◌, ◌⊎◌, inl, inr, ℕ, suc, ◌+◌, ◌<◌, ◌≤◌, Bool, true, false, cond, List, [], ◌∷◌, ◌++◌, length, get_or, Option, refl, sym, ap, ap₂, ◌∙◌, subst, ⊎_elim, arith}
use Rattle.std.proofs.lemmas.Bool.{cases_lt}
use Rattle.mc_program.specs.Programs.{TypeTerm, variable_type, Source}
use Rattle.mc_model.specs.Flat.{Flat_goal, Flat_goals, variables_of, variables_of_all}
use Rattle.mc_model.specs.Good.{System}
use Rattle.mc_model.specs.Lists.{In, is_in}
use Rattle.mc_model.specs.Scheduled.{Node, node, Scheduled, Conj, Disj, Switch, Ite, Not, Exists, Assign, Test, Build, Take, Const, TestConst, Call, Apply, Nodes, no_nodes, node_then}
use Rattle.mc_accepted.specs.Arranged.{tests_at, test_nodes, nodes_before}
use Rattle.mc_accepted.specs.FreshTests.{TestsAlike, AlikeIn, AllAlike}
use Rattle.mc_accepted.specs.Ordered.{Insts, variables_of_node, variables_of_scheduled, variables_of_nodes}
use Rattle.mc_accepted.specs.code.Standing as R
use Rattle.mc_accepted.specs.code.Standing.{implied_of, fresh_tests, fresh_nodes, Standing, StandingAll, StandingAny}
use Rattle.laws_language.proofs.FlatGoals.{in_left, in_right}
use Rattle.laws_order.proofs.OthersStay.{in-condition, in-then, in-else}
use Rattle.laws_order.specs.OrderLaws.{Below}
use Rattle.laws_order.proofs.StandingFacts.{picks-goal, picks-rest, stays}
use Rattle.laws_graphs.specs.Follows.{Follows, follows, FollowsIn, atom, conj, disj, switch, ite, negated, some, AllFollow, no_more, and_then, EachFollows, no_other, either}

-- a goal tests the first variable against the second
abbrev mutual
  pub HasTest : (v w : ℕ) → Node → Type 0
  HasTest v w (node s changes d m) = TestIn v w s

  pub TestIn : (v w : ℕ) → Scheduled → Type 0
  TestIn v w (Conj ns) = TestAmong v w ns
  TestIn v w (Disj ns) = TestAmong v w ns
  TestIn v w (Ite vs c t e) = HasTest v w c ⊎ (HasTest v w t ⊎ HasTest v w e)
  TestIn v w (Not n) = HasTest v w n
  TestIn v w (Exists vs n) = HasTest v w n
  TestIn v w (Test x y) = (v ≡ x) × (w ≡ y)
  TestIn v w s = ⊥

  pub TestAmong : (v w : ℕ) → Nodes → Type 0
  TestAmong v w no_nodes = ⊥
  TestAmong v w (node_then n ns) = HasTest v w n ⊎ TestAmong v w ns

-- ---- a test of a fresh variable compares values of one type
module _ (T : ℕ → TypeTerm) (next v w : ℕ) (fresh : next ≤ v) where
  mutual
    pub test_alike : (n : Node) → TestsAlike T next n → HasTest v w n → T v ≡ T w
    test_alike (node s changes d m) a h = alike_in s a h

    alike_in : (s : Scheduled) → AlikeIn T next s → TestIn v w s → T v ≡ T w
    alike_in (Conj ns) a h = alike_among ns a h
    alike_in (Disj ns) a h = alike_among ns a h
    alike_in (Ite vs c t e) a h = ⊎_elim (λ k. test_alike c a.0 k) (λ k. ⊎_elim (λ l. test_alike t a.1 l) (λ l. test_alike e a.2 l) k) h
    alike_in (Not n) a h = test_alike n a h
    alike_in (Exists vs n) a h = test_alike n a h
    alike_in (Test x y) a h = ap T h.0 ∙ (a (subst (λ (z : ℕ). next ≤ z) h.0 fresh) ∙ sym (ap T h.1))
    alike_in (Switch x arms) a h = absurd h
    alike_in (Assign x y) a h = absurd h
    alike_in (Build x s ys) a h = absurd h
    alike_in (Take x s ys) a h = absurd h
    alike_in (Const x c) a h = absurd h
    alike_in (TestConst x c) a h = absurd h
    alike_in (Call p xs implied last) a h = absurd h
    alike_in (Apply op xs ys) a h = absurd h

    alike_among : (ns : Nodes) → AllAlike T next ns → TestAmong v w ns → T v ≡ T w
    alike_among no_nodes a h = absurd h
    alike_among (node_then n ns) a h = ⊎_elim (λ k. test_alike n a.0 k) (λ k. alike_among ns a.1 k) h

-- ---- goals that follow have the same tests
module _ (P : Source) (T : ℕ → TypeTerm) (first : ℕ) (Rel : TypeTerm → ℕ → ℕ → Type 0) (v w : ℕ) where
  mutual
    pub test_follows : (b c : Insts) (n m : Node) → Follows P T first Rel b c n m → HasTest v w n → HasTest v w m
    test_follows b c n m (follows {s = s} {r = r} f i) h = test_in b c s r f h

    test_in : (b c : Insts) (s r : Scheduled) → FollowsIn P T first Rel b c s r → TestIn v w s → TestIn v w r
    test_in b c s r (atom a) h = h
    test_in b c s r (conj f) h = test_all b c _ _ f h
    test_in b c s r (disj f) h = test_each b c _ _ f h
    test_in b c s r (switch lt f) h = absurd h
    test_in b c s r (ite f g k) h = ⊎_elim (λ l. inl (test_follows b c _ _ f l)) (λ l. inr (⊎_elim (λ j. inl (test_follows _ _ _ _ g j)) (λ j. inr (test_follows b c _ _ k j)) l)) h
    test_in b c s r (negated f) h = test_follows b c _ _ f h
    test_in b c s r (some f) h = test_follows b c _ _ f h

    test_all : (b c : Insts) (ns ms : Nodes) → AllFollow P T first Rel b c ns ms → TestAmong v w ns → TestAmong v w ms
    test_all b c ns ms no_more h = h
    test_all b c ns ms (and_then f g) h = ⊎_elim (λ k. inl (test_follows b c _ _ f k)) (λ k. inr (test_all _ _ _ _ g k)) h

    test_each : (b c : Insts) (ns ms : Nodes) → EachFollows P T first Rel b c ns ms → TestAmong v w ns → TestAmong v w ms
    test_each b c ns ms no_other h = h
    test_each b c ns ms (either f g) h = ⊎_elim (λ k. inl (test_follows b c _ _ f k)) (λ k. inr (test_each b c _ _ g k)) h

  mutual
    pub test_leads : (b c : Insts) (n m : Node) → Follows P T first Rel b c n m → HasTest v w m → HasTest v w n
    test_leads b c n m (follows {s = s} {r = r} f i) h = leads_in b c s r f h

    leads_in : (b c : Insts) (s r : Scheduled) → FollowsIn P T first Rel b c s r → TestIn v w r → TestIn v w s
    leads_in b c s r (atom a) h = h
    leads_in b c s r (conj f) h = leads_all b c _ _ f h
    leads_in b c s r (disj f) h = leads_each b c _ _ f h
    leads_in b c s r (switch lt f) h = absurd h
    leads_in b c s r (ite f g k) h = ⊎_elim (λ l. inl (test_leads b c _ _ f l)) (λ l. inr (⊎_elim (λ j. inl (test_leads _ _ _ _ g j)) (λ j. inr (test_leads b c _ _ k j)) l)) h
    leads_in b c s r (negated f) h = test_leads b c _ _ f h
    leads_in b c s r (some f) h = test_leads b c _ _ f h

    leads_all : (b c : Insts) (ns ms : Nodes) → AllFollow P T first Rel b c ns ms → TestAmong v w ms → TestAmong v w ns
    leads_all b c ns ms no_more h = h
    leads_all b c ns ms (and_then f g) h = ⊎_elim (λ k. inl (test_leads b c _ _ f k)) (λ k. inr (leads_all _ _ _ _ g k)) h

    leads_each : (b c : Insts) (ns ms : Nodes) → EachFollows P T first Rel b c ns ms → TestAmong v w ms → TestAmong v w ns
    leads_each b c ns ms no_other h = h
    leads_each b c ns ms (either f g) h = ⊎_elim (λ k. inl (test_leads b c _ _ f k)) (λ k. inr (leads_each b c _ _ g k)) h

-- a variable that is tested occurs
module _ (v w : ℕ) where
  mutual
    test_occurs : (n : Node) → HasTest v w n → In v (variables_of_node n)
    test_occurs (node s changes d m) h = occurs_in s h

    occurs_in : (s : Scheduled) → TestIn v w s → In v (variables_of_scheduled s)
    occurs_in (Conj ns) h = occurs_among ns h
    occurs_in (Disj ns) h = occurs_among ns h
    occurs_in (Ite vs c t e) h =
        in_right v vs (variables_of_node c ++ (variables_of_node t ++ variables_of_node e))
        (⊎_elim (λ k. in_left v (variables_of_node c) (variables_of_node t ++ variables_of_node e) (test_occurs c k))
        (λ k.
        in_right v (variables_of_node c) (variables_of_node t ++ variables_of_node e)
        (⊎_elim (λ l. in_left v (variables_of_node t) (variables_of_node e) (test_occurs t l)) (λ l. in_right v (variables_of_node t) (variables_of_node e) (test_occurs e l)) k)) h)
    occurs_in (Not n) h = test_occurs n h
    occurs_in (Exists vs n) h = in_right v vs (variables_of_node n) (test_occurs n h)
    occurs_in (Test x y) h = inl h.0
    occurs_in (Switch x arms) h = absurd h
    occurs_in (Assign x y) h = absurd h
    occurs_in (Build x s ys) h = absurd h
    occurs_in (Take x s ys) h = absurd h
    occurs_in (Const x c) h = absurd h
    occurs_in (TestConst x c) h = absurd h
    occurs_in (Call p xs implied last) h = absurd h
    occurs_in (Apply op xs ys) h = absurd h

    occurs_among : (ns : Nodes) → TestAmong v w ns → In v (variables_of_nodes ns)
    occurs_among no_nodes h = absurd h
    occurs_among (node_then n ns) h = ⊎_elim (λ k. in_left v (variables_of_node n) (variables_of_nodes ns) (test_occurs n k)) (λ k. in_right v (variables_of_node n) (variables_of_nodes ns) (occurs_among ns k)) h

-- ---- fresh variables are tested
-- it is tested against one of these
abbrev pub Tested : List ℕ → (v : ℕ) → Node → Type 0
Tested xs v x = (w : ℕ) × In w xs × HasTest v w x

abbrev TestedAmong : List ℕ → (v : ℕ) → Nodes → Type 0
TestedAmong xs v ns = (w : ℕ) × In w xs × TestAmong v w ns

among_before : (v w : ℕ) (gs hs : Nodes) → TestAmong v w gs → TestAmong v w (nodes_before gs hs)
among_before v w no_nodes hs h = absurd h
among_before v w (node_then g gs) hs h = ⊎_elim (λ k. inl k) (λ k. inr (among_before v w gs hs k)) h

among_behind : (v w : ℕ) (gs hs : Nodes) → TestAmong v w hs → TestAmong v w (nodes_before gs hs)
among_behind v w no_nodes hs h = h
among_behind v w (node_then g gs) hs h = inr (among_behind v w gs hs h)

first_or_later : (n v : ℕ) → n ≤ v → (v ≡ n) ⊎ (suc n ≤ v)
first_or_later n v le = ⊎_elim (λ l. inr (omega (arith, l))) (λ l. inl (omega (arith, l, le))) (cases_lt n v)

tests_tested : (k : ℕ) (is xs : List ℕ) (n v : ℕ) → n ≤ v → v < n + length (tests_at k is xs n) → TestedAmong xs v (test_nodes (tests_at k is xs n))
tests_tested k is [] n v le lt = absurd (omega (arith, le, lt))
tests_tested k is (x ∷ xs) n v le lt = at (is_in k is) (λ le lt. tests_tested (suc k) is xs (suc n) v le lt) (λ lt. tests_tested (suc k) is xs n v le lt) lt
  where
    more : (ns : Nodes) → TestedAmong xs v ns → TestedAmong (x ∷ xs) v ns
    more ns r = (r.0, inr r.1, r.2)

    at : (t : Bool)
        → (suc n ≤ v → v < suc n + length (tests_at (suc k) is xs (suc n)) → TestedAmong xs v (test_nodes (tests_at (suc k) is xs (suc n))))
        → (v < n + length (tests_at (suc k) is xs n) → TestedAmong xs v (test_nodes (tests_at (suc k) is xs n)))
        → v < n + length (cond t ((n, x) ∷ tests_at (suc k) is xs (suc n)) (tests_at (suc k) is xs n))
        → TestedAmong (x ∷ xs) v (test_nodes (cond t ((n, x) ∷ tests_at (suc k) is xs (suc n)) (tests_at (suc k) is xs n)))
    at false one other l = more (test_nodes (tests_at (suc k) is xs n)) (other l)
    at true one other l =
        ⊎_elim (λ e. (x, inl refl, inl (e, refl)))
        (λ le'. let r = more (test_nodes (tests_at (suc k) is xs (suc n))) (one le' (omega (arith, l))) in (r.0, r.1, inr r.2)) (first_or_later n v le)

module _ (S : System) (T : ℕ → TypeTerm) where
  mutual
    pub fresh_tested : {O : List ℕ} {n m : ℕ} {b : Insts} {g : Flat_goal} {x : Node} {o : Option Insts} → Standing S T O n b g x o m → (v : ℕ) → n ≤ v → v < m → Tested (variables_of g) v x
    fresh_tested (R.assign p q r) v le lt = absurd (omega (arith, le, lt))
    fresh_tested (R.assign_back p q r) v le lt = absurd (omega (arith, le, lt))
    fresh_tested (R.test p q r a) v le lt = absurd (omega (arith, le, lt))
    fresh_tested (R.build p q r a h) v le lt = absurd (omega (arith, le, lt))
    fresh_tested (R.take p q r a) v le lt = absurd (omega (arith, le, lt))
    fresh_tested (R.take_never p q r) v le lt = absurd (omega (arith, le, lt))
    fresh_tested (R.put p) v le lt = absurd (omega (arith, le, lt))
    fresh_tested (R.test_constant p q r) v le lt = absurd (omega (arith, le, lt))
    fresh_tested (R.test_never p q r) v le lt = absurd (omega (arith, le, lt))
    fresh_tested (R.call l u a h) v le lt = absurd (omega (arith, le, lt))
    fresh_tested (R.apply e u a i h) v le lt = absurd (omega (arith, le, lt))
    fresh_tested (R.apply_freshly {n = n} {b = b} {op = op} {xs = xs} f) v le lt =
        let r = tests_tested 0 (implied_of S T op xs b) xs n v le lt in
        (r.0, r.1, inr r.2)
    fresh_tested (R.conj s) v le lt = all_tested s v le lt
    fresh_tested (R.disj s j) v le lt = any_tested s v le lt
    fresh_tested (R.ite {n1 = n1} {n2 = n2} {vs = vs} {g = g} {h = h} {k = k} s p t u j) v le lt =
        ⊎_elim (λ l. let r = fresh_tested s v le l in (r.0, in-condition vs g h k r.0 r.1, inl r.2))
        (λ l.
        ⊎_elim (λ i. let r = fresh_tested t v l i in (r.0, in-then vs g h k r.0 r.1, inr (inl r.2)))
        (λ i. let r = fresh_tested u v i lt in (r.0, in-else vs g h k r.0 r.1, inr (inr r.2))) (cases_lt v n2)) (cases_lt v n1)
    fresh_tested (R.ite_never {n1 = n1} {vs = vs} {g = g} {h = h} {k = k} s u j) v le lt =
        ⊎_elim (λ l. let r = fresh_tested s v le l in (r.0, in-condition vs g h k r.0 r.1, inl r.2))
        (λ l. let r = fresh_tested u v l lt in (r.0, in-else vs g h k r.0 r.1, inr (inr r.2))) (cases_lt v n1)
    fresh_tested (R.neg s p) v le lt = fresh_tested s v le lt
    fresh_tested (R.some {vs = vs} {g = g} s) v le lt = (let r = fresh_tested s v le lt in (r.0, in_right r.0 vs (variables_of g) r.1, r.2))

    all_tested : {O : List ℕ} {n m : ℕ} {b : Insts} {gs : Flat_goals} {ns : Nodes} {o : Option Insts} → StandingAll S T O n b gs ns o m → (v : ℕ) → n ≤ v → v < m → TestedAmong (variables_of_all gs) v ns
    all_tested R.done v le lt = absurd (omega (arith, le, lt))
    all_tested (R.dropped p s) v le lt = (let r = fresh_tested s v le lt in (r.0, picks-goal p r.0 r.1, inl r.2))
    all_tested (R.next {n1 = n1} p s r) v le lt =
        ⊎_elim (λ l. let a = fresh_tested s v le l in (a.0, picks-goal p a.0 a.1, inl a.2))
        (λ l. let a = all_tested r v l lt in (a.0, picks-rest p a.0 a.1, inr a.2)) (cases_lt v n1)
    all_tested (R.implied_outputs {n = n} {b = b} {c = c} {op = op} {xs = xs} {ns = ns} p f r) v le lt =
        ⊎_elim
        (λ l.
        let a = tests_tested 0 (implied_of S T op xs b) xs n v le l in
        (a.0, picks-goal p a.0 a.1, among_before v a.0 (fresh_nodes S T n b c op xs) ns (inr a.2)))
        (λ l. let a = all_tested r v l lt in (a.0, picks-rest p a.0 a.1, among_behind v a.0 (fresh_nodes S T n b c op xs) ns a.2)) (cases_lt v (n + length (fresh_tests S T n b op xs)))

    any_tested : {O : List ℕ} {n m : ℕ} {b : Insts} {gs : Flat_goals} {ns : Nodes} {os : List (Option Insts)} → StandingAny S T O n b gs ns os m → (v : ℕ) → n ≤ v → v < m → TestedAmong (variables_of_all gs) v ns
    any_tested R.no_other v le lt = absurd (omega (arith, le, lt))
    any_tested (R.either {n1 = n1} {g = g} {gs = gs} s r) v le lt =
        ⊎_elim (λ l. let a = fresh_tested s v le l in (a.0, in_left a.0 (variables_of g) (variables_of_all gs) a.1, inl a.2))
        (λ l. let a = any_tested r v l lt in (a.0, in_right a.0 (variables_of g) (variables_of_all gs) a.1, inr a.2)) (cases_lt v n1)

-- ---- the types of two orders of one goal
same_list : {A : Type 0} (xs ys : List A) (d : ℕ → A) → length xs ≡ length ys → ((k : ℕ) → k < length xs → get_or xs k (d k) ≡ get_or ys k (d k)) → xs ≡ ys
same_list [] [] d e h = refl
same_list [] (y ∷ ys) d e h = absurd (omega (arith, e))
same_list (x ∷ xs) [] d e h = absurd (omega (arith, e))
same_list (x ∷ xs) (y ∷ ys) d e h = ap₂ (λ z zs. z ∷ zs) (h 0 (omega arith)) (same_list xs ys (λ k. d (suc k)) (omega (arith, e)) (λ k lt. h (suc k) (omega (arith, lt))))

abbrev typed : List TypeTerm → ℕ → TypeTerm
typed ts x = get_or ts x (variable_type x)

-- Where as many variables have types as two orders of a goal number, and the orders have the same
-- tests, the types are the same if the goal's own are.
module _ (S U : System) (ts us : List TypeTerm) (O Q : List ℕ) (own : ℕ) (b c : Insts) (g : Flat_goal) (x y : Node) (d e : Option Insts)
    (first : Standing S (typed ts) O own b g x d (length ts)) (second : Standing U (typed us) Q own c g y e (length us)) (below : Below own (variables_of g))
    (there_x : Below (length ts) (variables_of_node x)) (there_y : Below (length us) (variables_of_node y)) (same_own : (w : ℕ) → w < own → typed ts w ≡ typed us w)
    (alike_x : TestsAlike (typed ts) own x) (alike_y : TestsAlike (typed us) own y) (on : (v w : ℕ) → HasTest v w x → HasTest v w y) (back : (v w : ℕ) → HasTest v w y → HasTest v w x) where
  own_x : own ≤ length ts
  own_x = (stays S (typed ts) first).0

  own_y : own ≤ length us
  own_y = (stays U (typed us) second).0

  no_less : length ts ≤ length us
  no_less = at (cases_lt (length us) (length ts))
    where
      at : (length us < length ts) ⊎ (length ts ≤ length us) → length ts ≤ length us
      at (inr le) = le
      at (inl lt) =
          let r = fresh_tested S (typed ts) first (length us) own_y lt in
          let l = there_y (length us) (test_occurs (length us) r.0 y (on (length us) r.0 r.2)) in
          absurd (omega (arith, l))

  no_more_there : length us ≤ length ts
  no_more_there = at (cases_lt (length ts) (length us))
    where
      at : (length ts < length us) ⊎ (length us ≤ length ts) → length us ≤ length ts
      at (inr le) = le
      at (inl lt) =
          let r = fresh_tested U (typed us) second (length ts) own_x lt in
          let l = there_x (length ts) (test_occurs (length ts) r.0 x (back (length ts) r.0 r.2)) in
          absurd (omega (arith, l))

  one_type : (v : ℕ) → v < length ts → typed ts v ≡ typed us v
  one_type v lt = at (cases_lt v own)
    where
      at : (v < own) ⊎ (own ≤ v) → typed ts v ≡ typed us v
      at (inl l) = same_own v l
      at (inr le) =
          let r = fresh_tested S (typed ts) first v le lt in
          test_alike (typed ts) own v r.0 le x alike_x r.2 ∙ (same_own r.0 (below r.0 r.1) ∙ sym (test_alike (typed us) own v r.0 le y alike_y (on v r.0 r.2)))

  pub types_alike : ts ≡ us
  types_alike = (let l = no_less in let m = no_more_there in same_list ts us variable_type (omega (arith, l, m)) one_type)

-- A goal that stands in its order is the order of an ordered goal.
use Rattle.std.proofs.Common.{◌≡◌, ◌≢◌, ◌⊎◌, inl, inr, ℕ, zero, suc, ◌+◌, ◌<◌, ◌≤◌, Bool, true, false, cond, nat_eq, List, [], ◌∷◌, ◌++◌, map, length, Option, Some, None, refl, ap, sym, ◌∙◌, subst, ⊎_elim, arith}
use Rattle.std.proofs.Math.Nat.{le_trans, le_refl, lt_of_lt_of_le, not-le_of_lt}
use Rattle.std.proofs.lemmas.Bool.{eqb-true, eqb-false}
use Rattle.mc_program.specs.Programs.{TypeTerm, Source}
use Rattle.mc_model.specs.Insts.{InstNode, free, ground, unique, dead, bound}
use Rattle.mc_model.specs.Outcomes.{inputs_of}
use Rattle.mc_model.specs.Flat as F
use Rattle.mc_model.specs.Flat.{Flat_goal, Flat_goals, no_flat, flat_then, variables_of, variables_of_all, free_in}
use Rattle.mc_model.specs.Lists.{Apart, In, is_in, without}
use Rattle.mc_model.specs.Scheduled.{Node, node, Scheduled, Conj, Disj, Switch, Ite, Not, Exists, Assign, Test, Build, Take, Const, TestConst, Call, Apply, Nodes, no_nodes, node_then, Arms, no_arms, arm_then}
use Rattle.mc_model.specs.Stream.{is_bound}
use Rattle.mc_model.specs.Good.{System}
use Rattle.mc_source.specs.Determinism.{inferred, det}
use Rattle.mc_accepted.specs.Inclusion.{Merged, LeastAbove, MergedNodes, AllFree, NoneIs, NoneMore, NoMoreThere}
use Rattle.mc_accepted.specs.Ordered as R
use Rattle.mc_accepted.specs.Ordered.{Insts, Mode, modes_of, modes_of_procedure, implied_places, at_inputs, at_outputs, reachable, firsts, tested_by, is_pruned, UsableAt, change_at, RisesFrom, EachChanges, KeepsChanges, Joined, Picks, here, there, variables_of_node, variables_of_scheduled, variables_of_nodes, variables_of_arms, Ordered, OrderedNode, OrderedAll, OrderedAny, kept}
use Rattle.mc_accepted.specs.Unmarked.{unmarked, all_kept, changed_node, changed_nodes, untold_scheduled, untold_arms}
use Rattle.mc_accepted.specs.Arranged.{test_nodes, nodes_before, with_change, changes_from, changes}
use Rattle.mc_accepted.specs.NodeOracle.{other_node}
use Rattle.mc_accepted.specs.FreshTests.{TestsAlike, AllAlike}
use Rattle.mc_accepted.specs.code.Standing as S
use Rattle.mc_accepted.specs.code.Standing.{implied_of, freshened, fresh_tests, Freshly, keeping, JoinedOwn, Standing, StandingAll, StandingAny}
use Rattle.mc_program.specs.declared.builtin.Builtin.{Builtin}
use Rattle.laws_order.specs.OrderLaws.{Below, Clear, FlatScopes, PartsScoped, DisjunctsScoped, StandingIsOrdered}
use Rattle.laws_order.proofs.OthersStay.{in-condition, in-then, in-else}
use Rattle.laws_order.proofs.Arranging.{not-both, is-set, below-both, below-left, below-right, below-more, free-is-own, has-tests}
use Rattle.laws_order.proofs.StandingFacts as W
use Rattle.laws_order.proofs.StandingFacts.{Stays, EndStays, EachStays, Placed, widened, chained, with-each, picks-goal, picks-rest, fresh-range}
use Rattle.laws_order.proofs.FreshOutputs as N
use Rattle.laws_order.proofs.FreshOutputs.{Fresh, Alike, FreeOn, Known, is-other}
use Rattle.laws_language.proofs.FlatGoals.{in_either, in_left, in_right}
use Rattle.laws_language.proofs.FlatWhole.{in_list, is_in_true}
use Rattle.laws_language.proofs.ClauseNumbers.{from_without}

-- ---- kept changes
abbrev kept_here : ℕ → Bool → (after : ℕ) → List (ℕ × ℕ) → List (ℕ × ℕ)
kept_here k same i later = with_change k (cond same None (Some i)) later

abbrev later_than : ℕ → ℕ → Insts → Insts → List (ℕ × ℕ)
later_than k j b c = changes_from other_node (suc k) j b c

rises-less : (k : ℕ) (xs : List (ℕ × ℕ)) → RisesFrom (suc k) xs → RisesFrom k xs
rises-less k [] h = tt
rises-less k (x ∷ xs) h = (omega (arith, h.0), h.1)

rises : (j k : ℕ) (b c : Insts) → RisesFrom k (changes_from other_node k j b c)
rises zero k b c = tt
rises (suc j) k b c = at (nat_eq (b k) (c k)) (rises j (suc k) b c)
  where
    at : (t : Bool) → RisesFrom (suc k) (later_than k j b c) → RisesFrom k (kept_here k t (c k) (later_than k j b c))
    at true h = rises-less k (later_than k j b c) h
    at false h = (le_refl k, h)

each-changes : (j k : ℕ) (b c : Insts) → EachChanges b (changes_from other_node k j b c)
each-changes zero k b c = tt
each-changes (suc j) k b c = at (nat_eq (b k) (c k)) refl (each-changes j (suc k) b c)
  where
    at : (t : Bool) → nat_eq (b k) (c k) ≡ t → EachChanges b (later_than k j b c) → EachChanges b (kept_here k t (c k) (later_than k j b c))
    at true e h = h
    at false e h = (eqb-false (b k) (c k) e, h)

change-before : (j k : ℕ) (b c : Insts) (x i : ℕ) → x < k → change_at x (changes_from other_node k j b c) i ≡ i
change-before zero k b c x i lt = refl
change-before (suc j) k b c x i lt = at (nat_eq (b k) (c k)) (change-before j (suc k) b c x i (omega (arith, lt)))
  where
    at : (t : Bool) → change_at x (later_than k j b c) i ≡ i → change_at x (kept_here k t (c k) (later_than k j b c)) i ≡ i
    at true h = h
    at false h = ap (λ t. cond t (c k) (change_at x (later_than k j b c) i)) (is-other x k (λ e. omega (arith, lt, e))) ∙ h

change-at : (j k : ℕ) (b c : Insts) (x : ℕ) → k ≤ x → (k + j ≤ x → c x ≡ b x) → change_at x (changes_from other_node k j b c) (b x) ≡ c x
change-at zero k b c x le h = sym (h (omega (arith, le)))
change-at (suc j) k b c x le h = at (nat_eq (b k) (c k)) refl (nat_eq x k) refl (λ lt. change-at j (suc k) b c x lt (λ q. h (omega (arith, q))))
  where
    later : nat_eq x k ≡ false → suc k ≤ x
    later e = (let ne = eqb-false x k e in omega (arith, le, ne))

    at : (t : Bool) → nat_eq (b k) (c k) ≡ t → (u : Bool) → nat_eq x k ≡ u → (suc k ≤ x → change_at x (later_than k j b c) (b x) ≡ c x) → change_at x (kept_here k t (c k) (later_than k j b c)) (b x) ≡ c x
    at true p true q r = change-before j (suc k) b c x (b x) (let e = eqb-true x k q in omega (arith, e)) ∙ subst (λ y. b y ≡ c y) (sym (eqb-true x k q)) (eqb-true (b k) (c k) p)
    at true p false q r = r (later q)
    at false p true q r = ap (λ t. cond t (c k) (change_at x (later_than k j b c) (b x))) q ∙ ap c (sym (eqb-true x k q))
    at false p false q r = ap (λ t. cond t (c k) (change_at x (later_than k j b c) (b x))) q ∙ r (later q)

pub keeps-changes : (m : ℕ) (b c : Insts) → ((x : ℕ) → m ≤ x → c x ≡ b x) → KeepsChanges b (Some c) (changes other_node m b (Some c))
keeps-changes m b c h = ((λ x. sym (change-at m 0 b c x (omega arith) (λ le. h x (omega (arith, le))))), rises m 0 b c, each-changes m 0 b c)

abbrev pub EndFrom : ℕ → Insts → Option Insts → Type 0
EndFrom m b None = Unit {0}
EndFrom m b (Some c) = (x : ℕ) → m ≤ x → c x ≡ b x

keeps-end : (m : ℕ) (b : Insts) (o : Option Insts) → EndFrom m b o → KeepsChanges b o (changes other_node m b o)
keeps-end m b None h = refl
keeps-end m b (Some c) h = keeps-changes m b c h

pub end-from : (own : List ℕ) (n m : ℕ) (b : Insts) (o : Option Insts) → Below n own → n ≤ m → EndStays own n m b o → EndFrom m b o
end-from own n m b None bo le h = tt
end-from own n m b (Some c) bo le h = λ x lx. h x (λ i. not-le_of_lt (lt_of_lt_of_le (bo x i) le) lx) (inr lx)

-- ---- a goal has the variables of its order
abbrev changed_scheduled : Scheduled → Scheduled
changed_scheduled s = untold_scheduled all_kept s

abbrev changed_arms : Arms → Arms
changed_arms arms = untold_arms all_kept arms

mutual
  node-variables : (n : Node) → variables_of_node (changed_node n) ≡ variables_of_node n
  node-variables (node s changes d pruned) = scheduled-variables s

  scheduled-variables : (s : Scheduled) → variables_of_scheduled (changed_scheduled s) ≡ variables_of_scheduled s
  scheduled-variables (Conj ns) = nodes-variables ns
  scheduled-variables (Disj ns) = nodes-variables ns
  scheduled-variables (Switch v arms) = ap (λ xs. v ∷ xs) (arms-variables arms)
  scheduled-variables (Ite vs c t e) =
      ap (λ xs. vs ++ (xs ++ (variables_of_node (changed_node t) ++ variables_of_node (changed_node e)))) (node-variables c)
      ∙ ap (λ xs. vs ++ (variables_of_node c ++ (xs ++ variables_of_node (changed_node e)))) (node-variables t)
      ∙ ap (λ xs. vs ++ (variables_of_node c ++ (variables_of_node t ++ xs))) (node-variables e)
  scheduled-variables (Not n) = node-variables n
  scheduled-variables (Exists vs n) = ap (λ xs. vs ++ xs) (node-variables n)
  scheduled-variables (Assign v w) = refl
  scheduled-variables (Test v w) = refl
  scheduled-variables (Build v s ys) = refl
  scheduled-variables (Take v s ys) = refl
  scheduled-variables (Const v c) = refl
  scheduled-variables (TestConst v c) = refl
  scheduled-variables (Call p xs is last) = refl
  scheduled-variables (Apply op xs ys) = refl

  nodes-variables : (ns : Nodes) → variables_of_nodes (changed_nodes ns) ≡ variables_of_nodes ns
  nodes-variables no_nodes = refl
  nodes-variables (node_then n ns) = ap (λ xs. xs ++ variables_of_nodes (changed_nodes ns)) (node-variables n) ∙ ap (λ xs. variables_of_node n ++ xs) (nodes-variables ns)

  arms-variables : (arms : Arms) → variables_of_arms (changed_arms arms) ≡ variables_of_arms arms
  arms-variables no_arms = refl
  arms-variables (arm_then l n arms) = ap (λ xs. xs ++ variables_of_arms (changed_arms arms)) (node-variables n) ∙ ap (λ xs. variables_of_node n ++ xs) (arms-variables arms)

tested-order : (ts : List (ℕ × ℕ)) (ns : Nodes) → changed_nodes (tested_by ts ns) ≡ nodes_before (test_nodes ts) (changed_nodes ns)
tested-order [] ns = refl
tested-order (t ∷ ts) ns = ap (λ ms. node_then (unmarked (Test t.0 t.1)) ms) (tested-order ts ns)

-- ---- scopes, where less occurs outside
fewer-more : (x : ℕ) (O U vs : List ℕ) → (In x U → In x O) → In x (U ++ vs) → In x (O ++ vs)
fewer-more x O U vs f i = ⊎_elim (λ j. in_left x O vs (f j)) (λ j. in_right x O vs j) (in_either x U vs i)

mutual
  scopes-fewer : (g : Flat_goal) (O U : List ℕ) → ((x : ℕ) → In x (variables_of g) → In x U → In x O) → FlatScopes O g → FlatScopes U g
  scopes-fewer (F.Same x y) O U w h = tt
  scopes-fewer (F.Made x s ys) O U w h = tt
  scopes-fewer (F.Is x v) O U w h = tt
  scopes-fewer (F.Call p xs) O U w h = tt
  scopes-fewer (F.And gs) O U w h = parts-fewer gs O U w h
  scopes-fewer (F.Or gs) O U w h = disjuncts-fewer gs O U w h
  scopes-fewer (F.If vs c t e) O U w h = (
    (λ x i j. h.0 x i (w x (in_left x vs (variables_of c ++ (variables_of t ++ variables_of e)) i) j)),
    scopes-fewer c (O ++ (without (free_in c) vs ++ variables_of t)) (U ++ (without (free_in c) vs ++ variables_of t)) (λ x i j. fewer-more x O U (without (free_in c) vs ++ variables_of t) (λ k. w x (in-condition vs c t e x i) k) j) h.1,
    scopes-fewer t (O ++ variables_of c) (U ++ variables_of c) (λ x i j. fewer-more x O U (variables_of c) (λ k. w x (in-then vs c t e x i) k) j) h.2,
    scopes-fewer e O U (λ x i j. w x (in-else vs c t e x i) j) h.3,
  )
  scopes-fewer (F.Not g) O U w h = scopes-fewer g (O ++ free_in g) (U ++ free_in g) (λ x i j. fewer-more x O U (free_in g) (λ k. w x i k) j) h
  scopes-fewer (F.Exists vs g) O U w h = ((λ x i j. h.0 x i (w x (in_left x vs (variables_of g) i) j)), scopes-fewer g O U (λ x i j. w x (in_right x vs (variables_of g) i) j) h.1)

  parts-fewer : (gs : Flat_goals) (O U : List ℕ) → ((x : ℕ) → In x (variables_of_all gs) → In x U → In x O) → PartsScoped O gs → PartsScoped U gs
  parts-fewer no_flat O U w h = tt
  parts-fewer (flat_then g gs) O U w h = (
    scopes-fewer g (O ++ variables_of_all gs) (U ++ variables_of_all gs) (λ x i j. fewer-more x O U (variables_of_all gs) (λ k. w x (in_left x (variables_of g) (variables_of_all gs) i) k) j) h.0,
    parts-fewer gs (O ++ variables_of g) (U ++ variables_of g) (λ x i j. fewer-more x O U (variables_of g) (λ k. w x (in_right x (variables_of g) (variables_of_all gs) i) k) j) h.1,
  )

  disjuncts-fewer : (gs : Flat_goals) (O U : List ℕ) → ((x : ℕ) → In x (variables_of_all gs) → In x U → In x O) → DisjunctsScoped O gs → DisjunctsScoped U gs
  disjuncts-fewer no_flat O U w h = tt
  disjuncts-fewer (flat_then g gs) O U w h =
      (scopes-fewer g O U (λ x i j. w x (in_left x (variables_of g) (variables_of_all gs) i) j) h.0, disjuncts-fewer gs O U (λ x i j. w x (in_right x (variables_of g) (variables_of_all gs) i) j) h.1)

parts-goal : {gs rest : Flat_goals} {g : Flat_goal} → Picks gs g rest → (O : List ℕ) → PartsScoped O gs → FlatScopes (O ++ variables_of_all rest) g
parts-goal here O h = h.0
parts-goal (there {k = k} {g = g} {rest = rest} p) O h =
    scopes-fewer g ((O ++ variables_of k) ++ variables_of_all rest) (O ++ (variables_of k ++ variables_of_all rest))
    (λ x i j. ⊎_elim (λ l. in_left x (O ++ variables_of k) (variables_of_all rest) (in_left x O (variables_of k) l))
    (λ l. ⊎_elim (λ q. in_left x (O ++ variables_of k) (variables_of_all rest) (in_right x O (variables_of k) q)) (λ q. in_right x (O ++ variables_of k) (variables_of_all rest) q) (in_either x (variables_of k) (variables_of_all rest) l))
    (in_either x O (variables_of k ++ variables_of_all rest) j))
    (parts-goal p (O ++ variables_of k) h.1)

parts-rest : {gs rest : Flat_goals} {g : Flat_goal} → Picks gs g rest → (O : List ℕ) → PartsScoped O gs → PartsScoped (O ++ variables_of g) rest
parts-rest here O h = h.1
parts-rest (there {k = k} {g = g} {gs = gs} {rest = rest} p) O h = (
  scopes-fewer k (O ++ variables_of_all gs) ((O ++ variables_of g) ++ variables_of_all rest)
      (λ x i j. ⊎_elim (λ l. ⊎_elim (λ q. in_left x O (variables_of_all gs) q) (λ q. in_right x O (variables_of_all gs) (picks-goal p x q)) (in_either x O (variables_of g) l)) (λ l. in_right x O (variables_of_all gs) (picks-rest p x l))
      (in_either x (O ++ variables_of g) (variables_of_all rest) j))
      h.0,
  parts-fewer rest ((O ++ variables_of k) ++ variables_of g) ((O ++ variables_of g) ++ variables_of k)
      (λ x i j. ⊎_elim (λ l. ⊎_elim (λ q. in_left x (O ++ variables_of k) (variables_of g) (in_left x O (variables_of k) q)) (λ q. in_right x (O ++ variables_of k) (variables_of g) q) (in_either x O (variables_of g) l))
      (λ l. in_left x (O ++ variables_of k) (variables_of g) (in_right x O (variables_of k) l)) (in_either x (O ++ variables_of g) (variables_of k) j))
      (parts-rest p (O ++ variables_of k) h.1),
)

abbrev pub FreeFrom : ℕ → Insts → Type 0
FreeFrom n b = (y : ℕ) → n ≤ y → b y ≡ 0

pub free-later : (own : List ℕ) (n m : ℕ) (b c : Insts) → Below n own → n ≤ m → Stays own n m b c → FreeFrom n b → FreeFrom m c
free-later own n m b c bo le s fr y ly = s y (λ i. not-le_of_lt (lt_of_lt_of_le (bo y i) le) ly) (inr ly) ∙ fr y (le_trans le ly)

module _ (Y : System) (T : ℕ → TypeTerm) where
  abbrev pub P : Source
  P = Y.world.source

  -- insts that are one merge to it
  abbrev insts_at : List Insts → ℕ → List ℕ
  insts_at cs x = map (λ (c : Insts). c x) cs

  abbrev pub Each : ℕ → List ℕ → Type 0
  Each i [] = Unit {0}
  Each i (j ∷ js) = (j ≡ i) × Each i js

  each-free : (i : ℕ) (js : List ℕ) → Each i js → Y.insts i ≡ free → AllFree Y.insts js
  each-free i [] h e = tt
  each-free i (j ∷ js) h e = (ap Y.insts h.0 ∙ e, each-free i js h.1 e)

  none-is : (N : InstNode) (i : ℕ) (js : List ℕ) → Each i js → Y.insts i ≢ N → NoneIs N Y.insts js
  none-is N i [] h e = tt
  none-is N i (j ∷ js) h e = ((λ q. e (sym (ap Y.insts h.0) ∙ q)), none-is N i js h.1 e)

  none-more : (i : ℕ) (js : List ℕ) (t : TypeTerm) → Each i js → NoneMore P Y.insts js Y.insts i t
  none-more i [] t h = tt
  none-more i (j ∷ js) t h = (subst (λ k. NoMoreThere P Y.insts k Y.insts i t) (sym h.0) (λ path e a. a), none-more i js t h.1)

  pub merged-one : (i j : ℕ) (js : List ℕ) (t : TypeTerm) → Each i (j ∷ js) → Merged P Y.insts (j ∷ js) i t
  merged-one i j js t h = at (Y.insts i) refl
    where
      least-above : LeastAbove P Y.insts (j ∷ js) i t
      least-above = record { above = none-more i (j ∷ js) t h; least = λ H proper k m. subst (λ l. NoMoreThere P Y.insts l H k t) h.0 m.0 }

      at : (N : InstNode) → Y.insts i ≡ N → MergedNodes Y.insts (j ∷ js) N (LeastAbove P Y.insts (j ∷ js) i t)
      at free e = each-free i (j ∷ js) h e
      at dead e = (none-is free i (j ∷ js) h (λ q. (let r : dead ≡ free = sym e ∙ q in cc)), inl (ap Y.insts h.0 ∙ e))
      at ground e = (none-is free i (j ∷ js) h (λ q. (let r : ground ≡ free = sym e ∙ q in cc)), none-is dead i (j ∷ js) h (λ q. (let r : ground ≡ dead = sym e ∙ q in cc)), least-above)
      at unique e = (none-is free i (j ∷ js) h (λ q. (let r : unique ≡ free = sym e ∙ q in cc)), none-is dead i (j ∷ js) h (λ q. (let r : unique ≡ dead = sym e ∙ q in cc)), least-above)
      at (bound ls) e = (none-is free i (j ∷ js) h (λ q. (let r : bound ls ≡ free = sym e ∙ q in cc)), none-is dead i (j ∷ js) h (λ q. (let r : bound ls ≡ dead = sym e ∙ q in cc)), least-above)

  each-end : (own : List ℕ) (n m : ℕ) (b : Insts) (cs : List Insts) (x : ℕ) → EachStays own n m b cs → (In x own → ⊥) → x < n → Each (b x) (insts_at cs x)
  each-end own n m b [] x h off lt = tt
  each-end own n m b (c ∷ cs) x h off lt = (h.0 x off (inl lt), each-end own n m b cs x h.1 off lt)

  is-nothing : (x : ℕ) (xs : List ℕ) → is_in x xs ≡ false → In x xs → ⊥
  is-nothing x xs e i = not-both (is_in x xs) (in_list x xs i) e

  joined : (own O : List ℕ) (n m : ℕ) (b : Insts) (ends : List Insts) (o : Option Insts) → Below n O → EachStays own n m b ends → JoinedOwn Y T own O b ends o → Joined Y T O b ends o
  joined own O n m b [] o bo s h = h
  joined own O n m b (c ∷ cs) None bo s h = h
  joined own O n m b (c ∷ cs) (Some e) bo s h = λ x. at x (is_in x own) refl
    where
      at : (x : ℕ) (t : Bool) → is_in x own ≡ t → (In x O → Merged P Y.insts (insts_at (c ∷ cs) x) (e x) (T x)) × ((In x O → ⊥) → (e x ≡ 0) ⊎ (e x ≡ b x))
      at x true p = ((λ i. (h x).0 (is_in_true x own p) i), (λ off. inl ((h x).1 (is_in_true x own p) off)))
      at x false p = (
        (λ i. subst (λ k. Merged P Y.insts (insts_at (c ∷ cs) x) k (T x)) (sym ((h x).2 (is-nothing x own p))) (merged-one (b x) (c x) (insts_at cs x) (T x) (each-end own n m b (c ∷ cs) x s (is-nothing x own p) (bo x i)))),
        (λ off. inr ((h x).2 (is-nothing x own p))),
      )

  usable-length : (all : List ℕ) (ms : List Mode) (xs : List ℕ) (b : Insts) → UsableAt Y T all ms xs b → length ms ≡ length xs
  usable-length all [] [] b u = refl
  usable-length all [] (x ∷ xs) b u = absurd u
  usable-length all (m ∷ ms) [] b u = absurd u
  usable-length all (m ∷ ms) (x ∷ xs) b u = ap suc (usable-length all ms xs b u.1)

  record Marked (O Q : List ℕ) (b : Insts) (g : Flat_goal) (x : Node) (o : Option Insts) : Type 0 where
    goal : Node
    order : changed_node goal ≡ x
    ordered : OrderedNode Y T O Q b g goal o

  record MarkedAll (O Q : List ℕ) (b : Insts) (gs : Flat_goals) (ns : Nodes) (o : Option Insts) : Type 0 where
    goals : Nodes
    order : changed_nodes goals ≡ ns
    ordered : OrderedAll Y T O Q b gs goals o

  record MarkedAny (O Q : List ℕ) (b : Insts) (gs : Flat_goals) (ns : Nodes) (os : List (Option Insts)) : Type 0 where
    goals : Nodes
    order : changed_nodes goals ≡ ns
    ordered : OrderedAny Y T O Q b gs goals os

  finish : {O Q : List ℕ} {n m : ℕ} {b : Insts} {g : Flat_goal} {s : Scheduled} {o : Option Insts} → Standing Y T O n b g (keeping Y T m b o s) o m → Below n (variables_of g) → (u : Scheduled) → changed_scheduled u ≡ s → Ordered Y T O Q b g u o →
      Marked O Q b g (keeping Y T m b o s) o
  finish {O = O} {Q = Q} {n = n} {m = m} {b = b} {g = g} {o = o} d bg u e r =
      record {
        goal = node u (changes other_node m b o) (inferred det) (is_pruned Q b o);
        order = ap (λ k. keeping Y T m b o k) e;
        ordered = kept r (keeps-end m b o (end-from (variables_of g) n m b o bg (W.stays Y T d).0 (W.stays Y T d).1));
      }

  implied-alone : {O Q xs : List ℕ} {b : Insts} {p : ℕ} {y : Node} {o : Option Insts} (ts : List (ℕ × ℕ)) → ts ≢ [] → OrderedAll Y T O Q b (flat_then (F.Call p xs) no_flat) (node_then y (tested_by ts no_nodes)) o →
      Ordered Y T O Q b (F.Call p xs) (Conj (node_then y (tested_by ts no_nodes))) o
  implied-alone [] ne h = absurd (ne refl)
  implied-alone (t ∷ ts) ne h = R.implied_alone h

  nothing-behind : (ns : Nodes) → nodes_before ns no_nodes ≡ ns
  nothing-behind no_nodes = refl
  nothing-behind (node_then n ns) = ap (node_then n) (nothing-behind ns)

  three-same : (vs : List ℕ) (c t e x y z : Node) → changed_node c ≡ x → changed_node t ≡ y → changed_node e ≡ z → changed_scheduled (Ite vs c t e) ≡ Ite vs x y z
  three-same vs c t e x y z p q r = ap (λ k. Ite vs k (changed_node t) (changed_node e)) p ∙ ap (λ k. Ite vs x k (changed_node e)) q ∙ ap (λ k. Ite vs x y k) r

  -- a builtin with its tests before goals that are ordered
  module _ (O Q : List ℕ) (n m : ℕ) (b c : Insts) (p : ℕ) (op : Builtin) (xs : List ℕ) (f : Freshly Y T n b c p op xs) (gs rest : Flat_goals) (pick : Picks gs (F.Call p xs) rest) (bo : Below n O) (bg : Below n (variables_of_all gs)) (cl : Clear n m Q) (fr : FreeFrom n b)
      (le : n + length (fresh_tests Y T n b op xs) ≤ m) (first : ℕ) (from : first ≤ n) (al : AllAlike T first (test_nodes (fresh_tests Y T n b op xs))) where
    abbrev there_before : ℕ → Bool
    there_before x = is_bound (b x)

    abbrev end : ℕ
    end = n + length (fresh_tests Y T n b op xs)

    below_xs : Below n xs
    below_xs x i = bg x (picks-goal pick x i)

    view : Fresh n there_before (modes_of op) xs (freshened Y T n b op xs) (fresh_tests Y T n b op xs)
    view = N.fresh-view 0 (modes_of op) xs there_before (implied_of Y T op xs b) n (usable-length xs (modes_of op) xs b f.usable) (λ j le. refl)

    alike : Alike n there_before there_before
    alike y lt = refl

    free_on : FreeOn n there_before
    free_on y ly = ap is_bound (fr y ly)

    known : Known Y T n there_before b
    known y lt e = is-set (b y) e

    fresh_apart : Apart (firsts (fresh_tests Y T n b op xs)) (O ++ (Q ++ variables_of_all gs))
    fresh_apart x i j =
        (let r = N.firsts-range 0 (implied_of Y T op xs b) xs n x i in
        ⊎_elim (λ l. not-le_of_lt (bo x l) r.0)
        (λ l. ⊎_elim (λ q. ⊎_elim (λ lt. not-le_of_lt lt r.0) (λ lx. not-le_of_lt (lt_of_lt_of_le r.1 le) lx) (cl x q)) (λ q. not-le_of_lt (bg x q) r.0) (in_either x Q (variables_of_all gs) l))
        (in_either x O (Q ++ variables_of_all gs) j))

    implied-before : (ns : Nodes) (o : Option Insts) → OrderedAll Y T (O ++ (xs ++ freshened Y T n b op xs)) (Q ++ (xs ++ freshened Y T n b op xs)) c rest ns o →
        OrderedAll Y T O Q b gs
        (node_then
        (node (Apply op (at_inputs (inputs_of op) (freshened Y T n b op xs)) (at_outputs (inputs_of op) (freshened Y T n b op xs))) (changes other_node end b (Some c)) (inferred det)
        (is_pruned (Q ++ variables_of_nodes (tested_by (fresh_tests Y T n b op xs) ns)) b (Some c)))
        (tested_by (fresh_tests Y T n b op xs) ns)) o
    implied-before ns o h =
        R.implied_outputs (fresh_tests Y T n b op xs) pick f.builtin (N.has-one op xs there_before f.implies) (N.freshened-is 0 (implied_of Y T op xs b) xs n) f.alive (N.firsts-distinct 0 (implied_of Y T op xs b) xs n) fresh_apart
        (N.tests-in-order Y T first 0 (implied_of Y T op xs b) xs n c from al (N.tests-set Y T n view f.after (N.none-freed op) (le_refl n) below_xs alike free_on known)) (N.usable-freshly Y T n b view (le_refl n) below_xs f.usable)
        (N.none-implied n view 0 there_before (le_refl n) below_xs alike free_on) f.after
        (keeps-changes end b c (λ x lx. W.freshly-stays Y T n b c op xs f x (λ i. not-le_of_lt (below_xs x i) (le_trans (omega arith) lx)) (inr lx))) h

  below-freshened : (n : ℕ) (b : Insts) (op : Builtin) (xs : List ℕ) → Below n xs → Below (n + length (fresh_tests Y T n b op xs)) (freshened Y T n b op xs)
  below-freshened n b op xs bx x i = ⊎_elim (λ j. lt_of_lt_of_le (bx x j) (omega arith)) (λ r. r.1) (fresh-range 0 (implied_of Y T op xs b) xs n x i)

  clear-both : (n m : ℕ) (xs ys : List ℕ) → Clear n m xs → Clear n m ys → Clear n m (xs ++ ys)
  clear-both n m xs ys p q x i = ⊎_elim (λ j. p x j) (λ j. q x j) (in_either x xs ys i)

  clear-less : (n n' m m' : ℕ) (xs : List ℕ) → n ≤ n' → m' ≤ m → Clear n m xs → Clear n' m' xs
  clear-less n n' m m' xs p q h x i = ⊎_elim (λ lt. inl (lt_of_lt_of_le lt p)) (λ le. inr (le_trans q le)) (h x i)

  -- variables of goals in an earlier range, and in a later one
  placed-before : (own xs : List ℕ) (n k m : ℕ) → Below n own → n ≤ k → ((y : ℕ) → In y xs → Placed Y T own n k y) → Clear k m xs
  placed-before own xs n k m bo le h x i = ⊎_elim (λ j. inl (lt_of_lt_of_le (bo x j) le)) (λ r. inl r.1) (h x i)

  placed-after : (own xs : List ℕ) (n k m : ℕ) → Below n own → ((y : ℕ) → In y xs → Placed Y T own k m y) → Clear n k xs
  placed-after own xs n k m bo h x i = ⊎_elim (λ j. inl (bo x j)) (λ r. inr r.0) (h x i)

  mutual
    marked : {O : List ℕ} {n m : ℕ} {b : Insts} {g : Flat_goal} {x : Node} {o : Option Insts} → Standing Y T O n b g x o m → (Q : List ℕ) → Below n O → Below n (variables_of g) → FlatScopes O g → Clear n m Q → FreeFrom n b → (first : ℕ) → first ≤ n → TestsAlike T first x → Marked O Q b g x o
    marked (S.assign {O = O} {x = x} {y = y} p q r) Q bo bg sc cl fr first le al = finish (S.assign {O = O} p q r) bg (Assign x y) refl (R.assign p q r)
    marked (S.assign_back {O = O} {x = x} {y = y} p q r) Q bo bg sc cl fr first le al = finish (S.assign_back {O = O} p q r) bg (Assign x y) refl (R.assign_back p q r)
    marked (S.test {O = O} {x = x} {y = y} p q r a) Q bo bg sc cl fr first le al = finish (S.test {O = O} p q r a) bg (Test x y) refl (R.test p q r a)
    marked (S.build {O = O} {x = x} {s = s} {ys = ys} p q r a h) Q bo bg sc cl fr first le al = finish (S.build {O = O} p q r a h) bg (Build x s ys) refl (R.build p q r a h)
    marked (S.take {O = O} {x = x} {s = s} {ys = ys} p q r a) Q bo bg sc cl fr first le al = finish (S.take {O = O} p q r a) bg (Take x s ys) refl (R.take p q r a)
    marked (S.take_never {O = O} {x = x} {s = s} {ys = ys} p q r) Q bo bg sc cl fr first le al = finish (S.take_never {O = O} p q r) bg (Take x s ys) refl (R.take_never p q r)
    marked (S.put {O = O} {x = x} {v = v} p) Q bo bg sc cl fr first le al = finish (S.put {O = O} p) bg (Const x v) refl (R.put p)
    marked (S.test_constant {O = O} {x = x} {v = v} p q r) Q bo bg sc cl fr first le al = finish (S.test_constant {O = O} p q r) bg (TestConst x v) refl (R.test_constant p q r)
    marked (S.test_never {O = O} {x = x} {v = v} p q r) Q bo bg sc cl fr first le al = finish (S.test_never {O = O} p q r) bg (TestConst x v) refl (R.test_never p q r)
    marked (S.call {O = O} {b = b} {p = p} {xs = xs} lt u a h) Q bo bg sc cl fr first le al = finish (S.call {O = O} lt u a h) bg (Call p xs (implied_places 0 (modes_of_procedure (Y.procs p)) xs (λ x. is_bound (b x))) false) refl (R.call lt u a h)
    marked (S.apply {O = O} {op = op} {xs = xs} e u a i h) Q bo bg sc cl fr first le al = finish (S.apply {O = O} e u a i h) bg (Apply op (at_inputs (inputs_of op) xs) (at_outputs (inputs_of op) xs)) refl (R.apply e u a i h)
    marked (S.apply_freshly {O = O} {n = n} {b = b} {c = c} {p = p} {op = op} {xs = xs} f) Q bo bg sc cl fr first le al =
        finish (S.apply_freshly {O = O} f) bg
        (Conj
        (node_then
        (node (Apply op (at_inputs (inputs_of op) (freshened Y T n b op xs)) (at_outputs (inputs_of op) (freshened Y T n b op xs))) (changes other_node (n + length (fresh_tests Y T n b op xs)) b (Some c)) (inferred det)
        (is_pruned (Q ++ variables_of_nodes (tested_by (fresh_tests Y T n b op xs) no_nodes)) b (Some c)))
        (tested_by (fresh_tests Y T n b op xs) no_nodes)))
        (ap (λ ms. Conj (node_then (keeping Y T (n + length (fresh_tests Y T n b op xs)) b (Some c) (Apply op (at_inputs (inputs_of op) (freshened Y T n b op xs)) (at_outputs (inputs_of op) (freshened Y T n b op xs)))) ms)) (tested-order (fresh_tests Y T n b op xs) no_nodes ∙ nothing-behind (test_nodes (fresh_tests Y T n b op xs))))
        (implied-alone (fresh_tests Y T n b op xs) (has-tests 0 (modes_of op) xs (λ x. is_bound (b x)) (implied_of Y T op xs b) n (λ j h. h) f.implies)
        (implied-before O Q n (n + length (fresh_tests Y T n b op xs)) b c p op xs f (flat_then (F.Call p xs) no_flat) no_flat here bo (below-both n xs [] bg (λ y i. absurd i)) cl fr (le_refl _) first le al.1 no_nodes (Some c) R.done))
    marked (S.conj {O = O} s) Q bo bg sc cl fr first le al = (let r = marked-all s Q bo bg sc cl fr first le al in finish (S.conj s) bg (Conj r.goals) (ap Conj r.order) (R.conj r.ordered))
    marked (S.disj {O = O} {n = n} {m = m} {b = b} {gs = gs} {os = os} {o = o} s j) Q bo bg sc cl fr first le al =
        (let r = marked-any s Q bo bg sc cl fr first le al in
        finish (S.disj s j) bg (Disj r.goals) (ap Disj r.order) (R.disj r.ordered (joined (variables_of_all gs) O n m b (reachable os) o bo (W.any-stays Y T s).1 j)))
    marked (S.ite {O = O} {n = n} {n1 = n1} {n2 = n2} {m = m} {b = b} {c = c} {vs = vs} {g = g} {h = h} {k = k} {x = x} {y = y} {z = z} {o = o} {o' = o'} {o'' = o''} s p t u j) Q bo bg sc cl fr first le al =
        (let own : List ℕ = variables_of (F.If vs g h k) in
        let sg = W.stays Y T s in let sh = W.stays Y T t in let sk = W.stays Y T u in
        let below_g : Below n (variables_of g) = λ z i. bg z (in-condition vs g h k z i) in
        let below_h : Below n (variables_of h) = λ z i. bg z (in-then vs g h k z i) in
        let below_k : Below n (variables_of k) = λ z i. bg z (in-else vs g h k z i) in
        let below_beside : Below n (O ++ (without (free_in g) vs ++ variables_of h)) = below-both n O (without (free_in g) vs ++ variables_of h) bo (below-both n (without (free_in g) vs) (variables_of h) (λ z i. below_g z (free-is-own g z (from_without z (free_in g) vs i))) below_h) in
        let rg = marked s (Q ++ variables_of_node y) below_beside below_g sc.1 (clear-both n n1 Q (variables_of_node y) (clear-less n n m n1 Q (le_refl n) (le_trans sh.0 sk.0) cl) (placed-after (variables_of h) (variables_of_node y) n n1 n2 below_h (λ w i. W.node-placed Y T t w i))) fr first le al.0 in
        let rh = marked t (Q ++ variables_of_node x) (below-both n1 O (variables_of g) (below-more n n1 O sg.0 bo) (below-more n n1 (variables_of g) sg.0 below_g)) (below-more n n1 (variables_of h) sg.0 below_h) sc.2
        (clear-both n1 n2 Q (variables_of_node x) (clear-less n n1 m n2 Q sg.0 sk.0 cl) (placed-before (variables_of g) (variables_of_node x) n n1 n2 below_g sg.0 (λ w i. W.node-placed Y T s w i))) (free-later (variables_of g) n n1 b c below_g sg.0 sg.1 fr) first (le_trans le sg.0) al.1 in
        let rk = marked u Q (below-more n n2 O (le_trans sg.0 sh.0) bo) (below-more n n2 (variables_of k) (le_trans sg.0 sh.0) below_k) sc.3 (clear-less n n2 m m Q (le_trans sg.0 sh.0) (le_refl m) cl) (λ w lw. fr w (le_trans (le_trans sg.0 sh.0) lw)) first (le_trans le (le_trans sg.0 sh.0)) al.2 in
        finish (S.ite s p t u j) bg (Ite vs rg.goal rh.goal rk.goal) (three-same vs rg.goal rh.goal rk.goal x y z rg.order rh.order rk.order)
        (R.ite sc.0 (subst (λ ws. OrderedNode Y T (O ++ (without (free_in g) vs ++ variables_of h)) (Q ++ ws) b g rg.goal (Some c)) (ap variables_of_node (sym rh.order) ∙ node-variables rh.goal) rg.ordered) p
        (subst (λ ws. OrderedNode Y T (O ++ variables_of g) (Q ++ ws) c h rh.goal o) (ap variables_of_node (sym rg.order) ∙ node-variables rg.goal) rh.ordered) rk.ordered
        (joined own O n m b (reachable (o ∷ o' ∷ [])) o'' bo
        (with-each own n m b o (o' ∷ [])
        (chained own n n1 m b c o sg.0 (le_trans sh.0 sk.0) (widened own (variables_of g) n n n1 n1 b (Some c) (in-condition vs g h k) (le_refl n) (le_refl n1) sg.1) (widened own (variables_of h) n1 n1 n2 m c o (in-then vs g h k) (le_refl n1) sk.0 sh.1))
        (with-each own n m b o' [] (widened own (variables_of k) n2 n m m b o' (in-else vs g h k) (le_trans sg.0 sh.0) (le_refl m) sk.1) tt)) j)))
    marked (S.ite_never {O = O} {n = n} {n1 = n1} {m = m} {b = b} {vs = vs} {g = g} {h = h} {k = k} {x = x} {z = z} {o = o} {o'' = o''} s u j) Q bo bg sc cl fr first le al =
        (let own : List ℕ = variables_of (F.If vs g h k) in
        let sg = W.stays Y T s in let sk = W.stays Y T u in
        let below_g : Below n (variables_of g) = λ z i. bg z (in-condition vs g h k z i) in
        let below_h : Below n (variables_of h) = λ z i. bg z (in-then vs g h k z i) in
        let below_k : Below n (variables_of k) = λ z i. bg z (in-else vs g h k z i) in
        let below_beside : Below n (O ++ (without (free_in g) vs ++ variables_of h)) = below-both n O (without (free_in g) vs ++ variables_of h) bo (below-both n (without (free_in g) vs) (variables_of h) (λ z i. below_g z (free-is-own g z (from_without z (free_in g) vs i))) below_h) in
        let rg = marked s Q below_beside below_g sc.1 (clear-less n n m n1 Q (le_refl n) sk.0 cl) fr first le al.0 in
        let rk = marked u Q (below-more n n1 O sg.0 bo) (below-more n n1 (variables_of k) sg.0 below_k) sc.3 (clear-less n n1 m m Q sg.0 (le_refl m) cl) (λ w lw. fr w (le_trans sg.0 lw)) first (le_trans le sg.0) al.2 in
        finish (S.ite_never s u j) bg (Ite vs rg.goal (unmarked (Conj no_nodes)) rk.goal) (three-same vs rg.goal (unmarked (Conj no_nodes)) rk.goal x (unmarked (Conj no_nodes)) z rg.order refl rk.order)
        (R.ite_never sc.0 rg.ordered (refl, refl) rk.ordered
        (joined own O n m b (reachable (o ∷ [])) o'' bo (with-each own n m b o [] (widened own (variables_of k) n1 n m m b o (in-else vs g h k) sg.0 (le_refl m) sk.1) tt) j)))
    marked (S.neg {O = O} {n = n} {g = g} s p) Q bo bg sc cl fr first le al =
        (let r = marked s Q (below-both n O (free_in g) bo (λ w i. bg w (free-is-own g w i))) bg sc cl fr first le al in finish (S.neg s p) bg (Not r.goal) (ap Not r.order) (R.neg r.ordered p))
    marked (S.some {O = O} {n = n} {vs = vs} {g = g} s) Q bo bg sc cl fr first le al =
        (let r = marked s Q bo (below-right n vs (variables_of g) bg) sc.1 cl fr first le al in finish (S.some s) bg (Exists vs r.goal) (ap (Exists vs) r.order) (R.some sc.0 r.ordered))

    marked-all : {O : List ℕ} {n m : ℕ} {b : Insts} {gs : Flat_goals} {ns : Nodes} {o : Option Insts} → StandingAll Y T O n b gs ns o m → (Q : List ℕ) → Below n O → Below n (variables_of_all gs) → PartsScoped O gs → Clear n m Q → FreeFrom n b → (first : ℕ) → first ≤ n → AllAlike T first ns → MarkedAll O Q b gs ns o
    marked-all S.done Q bo bg sc cl fr first le al = record { goals = no_nodes; order = refl; ordered = R.done }
    marked-all (S.dropped {O = O} {n = n} {rest = rest} p s) Q bo bg sc cl fr first le al =
        (let r = marked s Q (below-both n O (variables_of_all rest) bo (λ w i. bg w (picks-rest p w i))) (λ w i. bg w (picks-goal p w i)) (parts-goal p O sc) cl fr first le al.0 in
        record { goals = node_then r.goal no_nodes; order = ap (λ k. node_then k no_nodes) r.order; ordered = R.dropped p r.ordered })
    marked-all (S.next {O = O} {n = n} {n1 = n1} {m = m} {b = b} {c = c} {g = g} {gs = gs} {rest = rest} {x = x} {ns = ns} {o = o} p s r) Q bo bg sc cl fr first le al =
        (let sg = W.stays Y T s in let sr = W.all-stays Y T r in
        let below_g : Below n (variables_of g) = λ w i. bg w (picks-goal p w i) in
        let below_rest : Below n (variables_of_all rest) = λ w i. bg w (picks-rest p w i) in
        let one = marked s (Q ++ variables_of_nodes ns) (below-both n O (variables_of_all rest) bo below_rest) below_g (parts-goal p O sc)
        (clear-both n n1 Q (variables_of_nodes ns) (clear-less n n m n1 Q (le_refl n) sr.0 cl) (placed-after (variables_of_all rest) (variables_of_nodes ns) n n1 m below_rest (λ w i. W.all-placed Y T r w i))) fr first le al.0 in
        let others = marked-all r (Q ++ variables_of_node x) (below-both n1 O (variables_of g) (below-more n n1 O sg.0 bo) (below-more n n1 (variables_of g) sg.0 below_g)) (below-more n n1 (variables_of_all rest) sg.0 below_rest) (parts-rest p O sc)
        (clear-both n1 m Q (variables_of_node x) (clear-less n n1 m m Q sg.0 (le_refl m) cl) (placed-before (variables_of g) (variables_of_node x) n n1 m below_g sg.0 (λ w i. W.node-placed Y T s w i))) (free-later (variables_of g) n n1 b c below_g sg.0 sg.1 fr) first (le_trans le sg.0) al.1 in
        record {
          goals = node_then one.goal others.goals;
          order = ap (λ k. node_then k (changed_nodes others.goals)) one.order ∙ ap (node_then x) others.order;
          ordered =
              R.next p (subst (λ ws. OrderedNode Y T (O ++ variables_of_all rest) (Q ++ ws) b g one.goal (Some c)) (ap variables_of_nodes (sym others.order) ∙ nodes-variables others.goals) one.ordered)
              (subst (λ ws. OrderedAll Y T (O ++ variables_of g) (Q ++ ws) c rest others.goals o) (ap variables_of_node (sym one.order) ∙ node-variables one.goal) others.ordered);
        })
    marked-all (S.implied_outputs {O = O} {n = n} {m = m} {b = b} {c = c} {p = p} {op = op} {xs = xs} {gs = gs} {rest = rest} {ns = ns} {o = o} pick f r) Q bo bg sc cl fr first le al =
        (let sr = W.all-stays Y T r in
        let zs : List ℕ = freshened Y T n b op xs in
        let ts : List (ℕ × ℕ) = fresh_tests Y T n b op xs in
        let end : ℕ = n + length (fresh_tests Y T n b op xs) in
        let from_n : n ≤ end = omega arith in
        let below_xs : Below n xs = λ w i. bg w (picks-goal pick w i) in
        let below_rest : Below n (variables_of_all rest) = λ w i. bg w (picks-rest pick w i) in
        let below_both : Below end (xs ++ zs) = below-both end xs zs (below-more n end xs from_n below_xs) (below-freshened n b op xs below_xs) in
        let alike = N.alike-before Y T first (test_nodes ts) ns al.1 in
        let others = marked-all r (Q ++ (xs ++ zs)) (below-both end O (xs ++ zs) (below-more n end O from_n bo) below_both) (below-more n end (variables_of_all rest) from_n below_rest)
        (parts-fewer rest (O ++ xs) (O ++ (xs ++ zs))
        (λ w i j. ⊎_elim (λ l. in_left w O xs l) (λ l. ⊎_elim (λ q. in_right w O xs q) (λ q. ⊎_elim (λ e. in_right w O xs e) (λ e. absurd (not-le_of_lt (below_rest w i) e.0)) (fresh-range 0 (implied_of Y T op xs b) xs n w q)) (in_either w xs zs l)) (in_either w O (xs ++ zs) j))
        (parts-rest pick O sc))
        (clear-both end m Q (xs ++ zs) (clear-less n end m m Q from_n (le_refl m) cl) (λ w i. inl (below_both w i))) (free-later xs n end b c below_xs from_n (W.freshly-stays Y T n b c op xs f) fr) first (le_trans le from_n) alike.1 in
        record {
          goals =
              node_then
              (node (Apply op (at_inputs (inputs_of op) zs) (at_outputs (inputs_of op) zs)) (changes other_node end b (Some c)) (inferred det) (is_pruned (Q ++ variables_of_nodes (tested_by ts others.goals)) b (Some c)))
              (tested_by ts others.goals);
          order = ap (node_then (keeping Y T end b (Some c) (Apply op (at_inputs (inputs_of op) zs) (at_outputs (inputs_of op) zs)))) (tested-order ts others.goals ∙ ap (nodes_before (test_nodes ts)) others.order);
          ordered = implied-before O Q n m b c p op xs f gs rest pick bo bg cl fr sr.0 first le alike.0 others.goals o others.ordered;
        })

    marked-any : {O : List ℕ} {n m : ℕ} {b : Insts} {gs : Flat_goals} {ns : Nodes} {os : List (Option Insts)} → StandingAny Y T O n b gs ns os m → (Q : List ℕ) → Below n O → Below n (variables_of_all gs) → DisjunctsScoped O gs → Clear n m Q → FreeFrom n b → (first : ℕ) → first ≤ n → AllAlike T first ns → MarkedAny O Q b gs ns os
    marked-any S.no_other Q bo bg sc cl fr first le al = record { goals = no_nodes; order = refl; ordered = R.no_other }
    marked-any (S.either {O = O} {n = n} {n1 = n1} {m = m} {g = g} {gs = gs} {x = x} s r) Q bo bg sc cl fr first le al =
        (let sg = W.stays Y T s in let sr = W.any-stays Y T r in
        let one = marked s Q bo (below-left n (variables_of g) (variables_of_all gs) bg) sc.0 (clear-less n n m n1 Q (le_refl n) sr.0 cl) fr first le al.0 in
        let others = marked-any r Q (below-more n n1 O sg.0 bo) (below-more n n1 (variables_of_all gs) sg.0 (below-right n (variables_of g) (variables_of_all gs) bg)) sc.1 (clear-less n n1 m m Q sg.0 (le_refl m) cl) (λ w lw. fr w (le_trans sg.0 lw)) first (le_trans le sg.0) al.1 in
        record { goals = node_then one.goal others.goals; order = ap (λ k. node_then k (changed_nodes others.goals)) one.order ∙ ap (node_then x) others.order; ordered = R.either one.ordered others.ordered })

pub standing-is-ordered : StandingIsOrdered
standing-is-ordered S T O Q n m b g x o s al bo bg sc cl fr = (let r = marked S T s Q bo bg sc cl fr n (le_refl n) al in (r.goal, r.order, r.ordered))

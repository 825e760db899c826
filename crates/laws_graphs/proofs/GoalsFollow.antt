-- Orders of one goal over nodes that mean one thing: one follows the other.
use Rattle.std.proofs.Common.{◌≡◌, ℕ, zero, suc, ◌+◌, ◌<◌, ◌≤◌, Bool, true, false, cond, nat_eq, nat_lt, List, [], ◌∷◌, map, Option, Some, None, refl, ap, sym, ◌∙◌, subst, arith}
use Rattle.std.proofs.Math.Nat.{le_refl, le_trans}
use Rattle.std.proofs.Math.Path.{fun_ext}
use Rattle.std.proofs.lemmas.Bool.{eqb-true, eqb-false, ltb-true, ltb-false}
use Rattle.mc_program.specs.Programs.{TypeTerm, Source}
use Rattle.mc_model.specs.Flat.{Flat_goal, variables_of}
use Rattle.mc_model.specs.Stream.{is_bound}
use Rattle.mc_model.specs.Scheduled.{Node, Scheduled, Conj, Disj, Ite, Not, Exists, Nodes, no_nodes, node_then}
use Rattle.mc_accepted.specs.Ordered.{Insts, change_at}
use Rattle.mc_accepted.specs.Accepted.{entered}
use Rattle.mc_accepted.specs.Determined.{insts_after}
use Rattle.mc_accepted.specs.Typing.{TypedGoal}
use Rattle.mc_accepted.specs.Calls.{CallsOnly}
use Rattle.mc_accepted.specs.Unmarked.{unmarked}
use Rattle.mc_accepted.specs.Arranged.{Declared, Verdict, in_order, faulty, unmet, Arranged, alone, nodes_before, test_nodes, with_change, changes_from, changing, trial, first_unmet, unless_unmet, judged, entry, arrange}
use Rattle.mc_accepted.specs.NodeOracle.{NodeOracle, of_nodes, other_node}
use Rattle.laws_graphs.specs.Related.{Below, Related, DeclaredRelated, NodesRelated}
use Rattle.laws_graphs.specs.Nodes.{MeanOne}
use Rattle.laws_graphs.specs.Follows.{InstsFollow, Follows, follows, FollowsIn, atom, conj, disj, ite, negated, some, AllFollow, no_more, and_then, EachFollows, no_other, either, OrdersFollow}
use Rattle.laws_graphs.proofs.Following.{single, PointsRelated, Step, EachBranch, no_branches, a_branch, Closed, Matched, lacks_here, lacks_there, both_break, both_run}
use Rattle.laws_graphs.proofs.Trials.{goal-match}
use Rattle.laws_graphs.proofs.OneVerdicts.{entry-related}
use Rattle.laws_graphs.proofs.NodesMeanOne.{nodes-related}
use Rattle.laws_graphs.proofs.Determining.{after-follow}

-- ---- what is changed leads to the end
abbrev kept_here : ℕ → Bool → (after : ℕ) → List (ℕ × ℕ) → List (ℕ × ℕ)
kept_here k same i rest = with_change k (cond same None (Some i)) rest

abbrev later_than : ℕ → ℕ → Insts → Insts → List (ℕ × ℕ)
later_than k j b c = changes_from other_node (suc k) j b c

other-number : (x y : ℕ) → (x ≡ y → ⊥) → nat_eq x y ≡ false
other-number x y n = at (nat_eq x y) (eqb-true x y)
  where
    at : (t : Bool) → (t ≡ true → x ≡ y) → t ≡ false
    at true e = absurd (n (e refl))
    at false e = refl

change-before : (j k : ℕ) (b c : Insts) (x i : ℕ) → x < k → change_at x (changes_from other_node k j b c) i ≡ i
change-before zero k b c x i lt = refl
change-before (suc j) k b c x i lt = at (nat_eq (b k) (c k)) (change-before j (suc k) b c x i (omega (arith, lt)))
  where
    at : (t : Bool) → change_at x (later_than k j b c) i ≡ i → change_at x (kept_here k t (c k) (later_than k j b c)) i ≡ i
    at true h = h
    at false h = ap (λ t. cond t (c k) (change_at x (later_than k j b c) i)) (other-number x k (λ e. omega (arith, lt, e))) ∙ h

change-at : (j k : ℕ) (b c : Insts) (x : ℕ) → k ≤ x → (k + j ≤ x → c x ≡ b x) → change_at x (changes_from other_node k j b c) (b x) ≡ c x
change-at zero k b c x le h = sym (h (omega (arith, le)))
change-at (suc j) k b c x le h = at (nat_eq (b k) (c k)) refl (nat_eq x k) refl (λ lt. change-at j (suc k) b c x lt (λ q. h (omega (arith, q))))
  where
    later : nat_eq x k ≡ false → suc k ≤ x
    later e = (let ne = eqb-false x k e in omega (arith, le, ne))

    at : (t : Bool) → nat_eq (b k) (c k) ≡ t → (u : Bool) → nat_eq x k ≡ u → (suc k ≤ x → change_at x (later_than k j b c) (b x) ≡ c x) → change_at x (kept_here k t (c k) (later_than k j b c)) (b x) ≡ c x
    at true p true q r = change-before j (suc k) b c x (b x) (let e = eqb-true x k q in omega (arith, e)) ∙ subst (λ y. b y ≡ c y) (sym (eqb-true x k q)) (eqb-true (b k) (c k) p)
    at true p false q r = r (later q)
    at false p true q r = ap (λ t. cond t (c k) (change_at x (later_than k j b c) (b x))) q ∙ ap c (sym (eqb-true x k q))
    at false p false q r = ap (λ t. cond t (c k) (change_at x (later_than k j b c) (b x))) q ∙ r (later q)

-- the insts after goals that run one behind another
abbrev after_all : Nodes → Insts → Insts
after_all no_nodes b = b
after_all (node_then g gs) b = after_all gs (insts_after g b)

after-before : (gs hs : Nodes) (b : Insts) → after_all (nodes_before gs hs) b ≡ after_all hs (after_all gs b)
after-before no_nodes hs b = refl
after-before (node_then g gs) hs b = after-before gs hs (insts_after g b)

abbrev Reaches : Insts → Option Insts → Type 0
Reaches b None = Unit {0}
Reaches b (Some d) = b ≡ d

module _ (P : Source) (T : ℕ → TypeTerm) (first : ℕ) (R : TypeTerm → ℕ → ℕ → Type 0) (C E : NodeOracle) (rel : Related (of_nodes C) (of_nodes E) R P) where
  abbrev F : Insts → Insts → Node → Node → Type 0
  F b c g h = Follows P T first R b c g h

  abbrev FA : Insts → Insts → Nodes → Nodes → Type 0
  FA b c gs hs = AllFollow P T first R b c gs hs

  abbrev IF : Insts → Insts → Type 0
  IF b c = InstsFollow P T first R b c

  abbrev PR : ℕ → Insts → Insts → Type 0
  PR n b c = PointsRelated (of_nodes C) (of_nodes E) R P T first n b c

  abbrev S : Insts → Insts → Option Insts → Option Insts → ℕ → Type 0
  S b c o p n = Step (of_nodes C) (of_nodes E) R P T first b c o p n

  abbrev pub AllRun : Insts → Insts → Nodes → Nodes → Option Insts → Option Insts → Type 0
  AllRun b c gs hs o p = FA b c gs hs × Reaches (after_all gs b) o × Reaches (after_all hs c) p

  abbrev pub OneRuns : Insts → Insts → Node → Node → Option Insts → Option Insts → Type 0
  OneRuns b c g h o p = F b c g h × Reaches (insts_after g b) o × Reaches (insts_after h c) p

  to-all : (b c : Insts) (g h : Node) (o p : Option Insts) → OneRuns b c g h o p → AllRun b c (single g) (single h) o p
  to-all b c g h o p x = (and_then x.0 no_more, x.1, x.2)

  pub insts-follow : (n : ℕ) (b c : Insts) → PR n b c → IF b c
  insts-follow n b c h = record { own = h.own; bound = λ x. at x (nat_lt x first) (ltb-true x first) (ltb-false x first) }
    where
      at : (x : ℕ) (t : Bool) → (t ≡ true → x < first) → (t ≡ false → first ≤ x) → is_bound (b x) ≡ is_bound (c x)
      at x true p q = rel.bound (T x) (b x) (c x) (h.own x (p refl))
      at x false p q = h.bound x (q refl)

  made-after : (n : ℕ) (b d : Insts) (s : Scheduled) → ((x : ℕ) → n ≤ x → d x ≡ b x) → insts_after (changing other_node n b (Some d) s) b ≡ d
  made-after n b d s h = fun_ext (λ x. change-at n 0 b d x (omega arith) (λ le. h x (omega (arith, le))))

  made-one : (b c : Insts) (s r : Scheduled) (o p : Option Insts) (n : ℕ) → S b c o p n → FollowsIn P T first R b c s r → OneRuns b c (changing other_node n b o s) (changing other_node n c p r) o p
  made-one b c s r None None n x f = (follows f (insts-follow x.before b c x.begins), tt, tt)
  made-one b c s r None (Some e) n x f = absurd x.ends
  made-one b c s r (Some d) None n x f = absurd x.ends
  made-one b c s r (Some d) (Some e) n x f = (follows f (subst (λ a. IF a (insts_after (changing other_node n c (Some e) r) c)) (sym here) (subst (λ a. IF d a) (sym there) (insts-follow n d e x.ends))), here, there)
    where
      here : insts_after (changing other_node n b (Some d) s) b ≡ d
      here = made-after n b d s (λ y le. x.ends.free_here y le ∙ sym (x.begins.free_here y (le_trans x.on le)))

      there : insts_after (changing other_node n c (Some e) r) c ≡ e
      there = made-after n c e r (λ y le. x.ends.free_there y le ∙ sym (x.begins.free_there y (le_trans x.on le)))

  follow-before : (b c : Insts) (gs hs ks ls : Nodes) → FA b c gs hs → FA (after_all gs b) (after_all hs c) ks ls → FA b c (nodes_before gs ks) (nodes_before hs ls)
  follow-before b c gs hs ks ls no_more k = k
  follow-before b c gs hs ks ls (and_then f g) k = and_then f (follow-before _ _ _ _ ks ls g k)

  all-before : (b d c e : Insts) (gs hs ks ls : Nodes) (o p : Option Insts) → AllRun b c gs hs (Some d) (Some e) → AllRun d e ks ls o p → AllRun b c (nodes_before gs ks) (nodes_before hs ls) o p
  all-before b d c e gs hs ks ls o p x y = (
    follow-before b c gs hs ks ls x.0 (subst (λ a. FA a (after_all hs c) ks ls) (sym x.1) (subst (λ a. FA d a ks ls) (sym x.2) y.0)),
    subst (λ a. Reaches a o) (sym (after-before gs ks b ∙ ap (after_all ks) x.1)) y.1,
    subst (λ a. Reaches a p) (sym (after-before hs ls c ∙ ap (after_all ls) x.2)) y.2,
  )

  tests-after : (ts : List (ℕ × ℕ)) (b : Insts) → after_all (test_nodes ts) b ≡ b
  tests-after [] b = refl
  tests-after (t ∷ ts) b = tests-after ts b

  tests-follow : (ts : List (ℕ × ℕ)) (b c : Insts) → IF b c → FA b c (test_nodes ts) (test_nodes ts)
  tests-follow [] b c h = no_more
  tests-follow (t ∷ ts) b c h = and_then (follows (atom tt) h) (tests-follow ts b c h)

  by-one : (b c : Insts) (gs hs : Nodes) (o p : Option Insts) (n : ℕ) → S b c o p n → FA b c gs hs → Reaches (after_all gs b) o → Reaches (after_all hs c) p → OneRuns b c (alone (of_nodes C) n b o gs) (alone (of_nodes E) n c p hs) o p
  by-one b c gs hs o p n x no_more r q = made-one b c (Conj no_nodes) (Conj no_nodes) o p n x (conj no_more)
  by-one b c gs hs o p n x (and_then f no_more) r q = (f, r, q)
  by-one b c gs hs o p n x (and_then f (and_then g k)) r q = made-one b c _ _ o p n x (conj (and_then f (and_then g k)))

  each-follows : (b c : Insts) (gs hs : Nodes) → EachBranch (of_nodes C) (of_nodes E) R P T first AllRun OneRuns b c gs hs → EachFollows P T first R b c gs hs
  each-follows b c gs hs no_branches = no_other
  each-follows b c gs hs (a_branch x k) = either x.2.0 (each-follows b c _ _ k)

  pub follow-closed : Closed (of_nodes C) (of_nodes E) R P T first AllRun OneRuns
  follow-closed =
      record {
        done = λ b c. (no_more, refl, refl);
        before = all-before;
        tests = λ n b c ts h. (tests-follow ts b c (insts-follow n b c h), tests-after ts b, tests-after ts c);
        atom = λ b c s o p n a x. to-all b c _ _ o p (made-one b c s s o p n x (atom a));
        by_one = λ b c gs hs o p n x f. by-one b c gs hs o p n x f.0 f.1 f.2;
        conj = λ b c gs hs o p n x f. to-all b c _ _ o p (made-one b c (Conj gs) (Conj hs) o p n x (conj f.0));
        disj = λ b c gs hs o p n x f. to-all b c _ _ o p (made-one b c (Disj gs) (Disj hs) o p n x (disj (each-follows b c gs hs f)));
        negation = λ b c g h o p n x f. to-all b c _ _ (Some b) (Some c) (made-one b c (Not g) (Not h) (Some b) (Some c) n x (negated f.0));
        some = λ vs b c g h o p n x f. to-all b c _ _ o p (made-one b c (Exists vs g) (Exists vs h) o p n x (some f.0));
        ite = λ vs b d c e g h k g' h' k' o p n w x y z.
            to-all b c _ _ o p
            (made-one b c (Ite vs g h k) (Ite vs g' h' k') o p n w
            (ite x.0 (subst (λ a. F a (insts_after g' c) h h') (sym x.1) (subst (λ a. F d a h h') (sym x.2) y.2.0)) z.2.0));
        ite_never = λ vs b c g k g' k' o p n w x z.
            to-all b c _ _ o p
            (made-one b c (Ite vs g (unmarked (Conj no_nodes)) k) (Ite vs g' (unmarked (Conj no_nodes)) k') o p n w
            (ite x.0 (follows (conj no_more) (after-follow P T first R b c g g' x.0)) z.2.0));
      }

-- ---- verdicts
abbrev goal_in : Verdict → Node
goal_in (in_order g) = g
goal_in (faulty f) = unmarked (Conj no_nodes)
goal_in (unmet k) = unmarked (Conj no_nodes)

abbrev entering : ℕ → ℕ → Insts → Insts
entering y i b = λ x. cond (nat_eq x y) i (b x)

entry-is : (C : NodeOracle) (P : Source) (declared : ℕ → List Declared) (T : ℕ → TypeTerm) (xs is : List ℕ) → entry (of_nodes C) P declared T xs is ≡ entered xs is
entry-is C P declared T [] is = refl
entry-is C P declared T (y ∷ ys) [] = refl
entry-is C P declared T (y ∷ ys) (i ∷ is) = ap (entering y i) (entry-is C P declared T ys is)

module _ (P : Source) (Counts : ℕ → Type 0) (declared other : ℕ → List Declared) (T : ℕ → TypeTerm) (first : ℕ) (R : TypeTerm → ℕ → ℕ → Type 0) (C E : NodeOracle) (rel : Related (of_nodes C) (of_nodes E) R P) (dec : DeclaredRelated (of_nodes C) (of_nodes E) R P Counts declared other) where
  unless-goal : (g x : Node) (o : Option ℕ) → unless_unmet g o ≡ in_order x → g ≡ x
  unless-goal g x None e = ap goal_in e
  unless-goal g x (Some k) e = absurd (cc e)

  judged-follow : (m : ℕ) (xs ls ms : List ℕ) (b c : Insts) (r s : Arranged ℕ) (x y : Node) → first ≤ m → PointsRelated (of_nodes C) (of_nodes E) R P T first m b c →
      Matched (of_nodes C) (of_nodes E) R P T first (AllRun P T first R C E rel) (OneRuns P T first R C E rel) m b c r s →
      judged (of_nodes C) P declared T xs ls b r ≡ in_order x → judged (of_nodes E) P other T xs ms c s ≡ in_order y → Follows P T first R b c x y
  judged-follow m xs ls ms b c r s x y lm h lacks_here p q = absurd (cc p)
  judged-follow m xs ls ms b c r s x y lm h lacks_there p q = absurd (cc q)
  judged-follow m xs ls ms b c r s x y lm h (both_break f) p q = absurd (cc p)
  judged-follow m xs ls ms b c r s x y lm h (both_run None (Some e) a k ln) p q = absurd k
  judged-follow m xs ls ms b c r s x y lm h (both_run (Some d) None a k ln) p q = absurd k
  judged-follow m xs ls ms b c r s x y lm h (both_run {gs = gs} {hs = hs} None None {n = n} a k ln) p q =
      subst (λ z. Follows P T first R b c z y) (ap goal_in p)
      (subst (λ z. Follows P T first R b c (alone (of_nodes C) n b None gs) z) (ap goal_in q)
      (by-one P T first R C E rel b c gs hs None None n (record { before = m; first_is = lm; on = ln; begins = h; ends = tt }) a.0 tt tt).0)
  judged-follow m xs ls ms b c r s x y lm h (both_run {gs = gs} {hs = hs} (Some d) (Some e) {n = n} a k ln) p q =
      subst (λ z. Follows P T first R b c z y) (unless-goal (alone (of_nodes C) n b (Some d) gs) x (first_unmet (of_nodes C) P declared T 0 xs ls d) p)
      (subst (λ z. Follows P T first R b c (alone (of_nodes C) n b (Some d) gs) z) (unless-goal (alone (of_nodes E) n c (Some e) hs) y (first_unmet (of_nodes E) P other T 0 xs ms e) q)
      (by-one P T first R C E rel b c gs hs (Some d) (Some e) n (record { before = m; first_is = lm; on = ln; begins = h; ends = k }) a.0 a.1 a.2).0)

  pub entry-follows : (next : ℕ) (xs is js : List ℕ) → Below first xs → first ≤ next → NodesRelated (of_nodes C) (of_nodes E) R is js (map T xs) → InstsFollow P T first R (entered xs is) (entered xs js)
  entry-follows next xs is js v le ri =
      subst (λ a. InstsFollow P T first R a (entered xs js)) (entry-is C P declared T xs is)
      (subst (λ a. InstsFollow P T first R (entry (of_nodes C) P declared T xs is) a) (entry-is E P other T xs js)
      (insts-follow P T first R C E rel next (entry (of_nodes C) P declared T xs is) (entry (of_nodes E) P other T xs js) (entry-related (of_nodes C) (of_nodes E) R P Counts declared other T first rel dec next xs is js le v ri)))

  pub order-follows : (next : ℕ) (xs is ls js ms : List ℕ) (g : Flat_goal) (x y : Node) → CallsOnly Counts g → TypedGoal P T g → Below first (variables_of g) → Below first xs → first ≤ next → NodesRelated (of_nodes C) (of_nodes E) R is js (map T xs) →
      arrange (of_nodes C) P declared T next xs is ls g ≡ in_order x → arrange (of_nodes E) P other T next xs js ms g ≡ in_order y → Follows P T first R (entered xs is) (entered xs js) x y
  order-follows next xs is ls js ms g x y a t w v le ri p q =
      subst (λ a. Follows P T first R a (entered xs js) x y) (entry-is C P declared T xs is)
      (subst (λ a. Follows P T first R (entry (of_nodes C) P declared T xs is) a x y) (entry-is E P other T xs js)
      (judged-follow next xs ls ms (entry (of_nodes C) P declared T xs is) (entry (of_nodes E) P other T xs js) (trial (of_nodes C) P declared T g xs next (entry (of_nodes C) P declared T xs is)) (trial (of_nodes E) P other T g xs next (entry (of_nodes E) P other T xs js)) x y le
      (entry-related (of_nodes C) (of_nodes E) R P Counts declared other T first rel dec next xs is js le v ri)
      (goal-match (of_nodes C) (of_nodes E) R P Counts declared other T first rel dec (AllRun P T first R C E rel) (OneRuns P T first R C E rel) (follow-closed P T first R C E rel) g a t w xs next (entry (of_nodes C) P declared T xs is) (entry (of_nodes E) P other T xs js) le
      (entry-related (of_nodes C) (of_nodes E) R P Counts declared other T first rel dec next xs is js le v ri)) p q))

pub orders-follow : OrdersFollow
orders-follow P D m n G H C E counts declared other T types apart here there dec next xs is ls js ms g a t w v ri x y p q =
    let rel = nodes-related P D m n G H C E types apart here there in (
      entry-follows P (λ p. counts p ≡ true) declared other T next (MeanOne P m G n H) C E rel dec next xs is js v (le_refl next) ri,
      order-follows P (λ p. counts p ≡ true) declared other T next (MeanOne P m G n H) C E rel dec next xs is ls js ms g x y a t w v (le_refl next) ri p q,
    )

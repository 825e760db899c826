-- One order over related insts, but for changes and marks.
use Rattle.std.proofs.Common.{◌≡◌, ℕ, suc, ◌≤◌, Bool, true, false, cond, nat_eq, List, [], ◌∷◌, map, Option, Some, None, refl, ap, ap₂, sym, ◌∙◌, subst, inl, inr}
use Rattle.std.proofs.Math.Nat.{le_trans, not-le_of_lt}
use Rattle.std.proofs.lemmas.Bool.{eqb-true}
use Rattle.mc_program.specs.Programs.{TypeTerm, Source}
use Rattle.mc_model.specs.Flat.{Flat_goal, variables_of}
use Rattle.mc_model.specs.Scheduled.{Node, Conj, Disj, Ite, Not, Exists, Nodes, no_nodes, node_then}
use Rattle.mc_accepted.specs.Typing.{TypedGoal}
use Rattle.mc_accepted.specs.Calls.{CallsOnly}
use Rattle.mc_accepted.specs.Unmarked.{unmarked, unmarked_node, unmarked_nodes}
use Rattle.mc_accepted.specs.Arranged.{Operations, Declared, faulty, lacks, alone, nodes_before, Point, Arranged, trial, first_unmet, unless_unmet, judged, entry, arrange}
use Rattle.laws_graphs.specs.Related.{Below, OneVerdict, Related, DeclaredRelated, NodesRelated}
use Rattle.laws_graphs.proofs.Following.{OwnRelated, PointsRelated, EachBranch, no_branches, a_branch, Closed, Matched, lacks_here, lacks_there, both_break, both_run}
use Rattle.laws_graphs.proofs.Trials.{goal-match}

-- one goal stands alone, others are a conjunction
abbrev by_itself : Nodes → Node
by_itself (node_then g no_nodes) = g
by_itself gs = unmarked (Conj gs)

before-unmarked : (gs hs : Nodes) → unmarked_nodes (nodes_before gs hs) ≡ nodes_before (unmarked_nodes gs) (unmarked_nodes hs)
before-unmarked no_nodes hs = refl
before-unmarked (node_then g gs) hs = ap (node_then (unmarked_node g)) (before-unmarked gs hs)

alone-unmarked : {I : Type 0} (Op : Operations I) (n : ℕ) (b : Point I) (o : Option (Point I)) (gs : Nodes) → unmarked_node (alone Op n b o gs) ≡ by_itself (unmarked_nodes gs)
alone-unmarked Op n b o no_nodes = refl
alone-unmarked Op n b o (node_then g no_nodes) = refl
alone-unmarked Op n b o (node_then g (node_then h gs)) = refl

module _ {I J : Type 0} (Op : Operations I) (Oq : Operations J) (R : TypeTerm → I → J → Type 0) (P : Source) (T : ℕ → TypeTerm) (first : ℕ) where
  abbrev pub SameAll : Point I → Point J → Nodes → Nodes → Option (Point I) → Option (Point J) → Type 0
  SameAll b c gs hs o p = unmarked_nodes gs ≡ unmarked_nodes hs

  abbrev pub SameOne : Point I → Point J → Node → Node → Option (Point I) → Option (Point J) → Type 0
  SameOne b c g h o p = unmarked_node g ≡ unmarked_node h

  branches-unmarked : (b : Point I) (c : Point J) (gs hs : Nodes) → EachBranch Op Oq R P T first SameAll SameOne b c gs hs → unmarked_nodes gs ≡ unmarked_nodes hs
  branches-unmarked b c gs hs no_branches = refl
  branches-unmarked b c gs hs (a_branch x k) = ap₂ node_then x.2 (branches-unmarked b c _ _ k)

  pub unmarked-closed : Closed Op Oq R P T first SameAll SameOne
  unmarked-closed =
      record {
        done = λ b c. refl;
        before = λ b d c e gs hs ks ls o p q r. before-unmarked gs ks ∙ (ap₂ nodes_before q r ∙ sym (before-unmarked hs ls));
        tests = λ n b c ts h. refl;
        atom = λ b c s o p n a x. refl;
        by_one = λ b c gs hs o p n x q. alone-unmarked Op n b o gs ∙ (ap by_itself q ∙ sym (alone-unmarked Oq n c p hs));
        conj = λ b c gs hs o p n x q. ap (λ ns. node_then (unmarked (Conj ns)) no_nodes) q;
        disj = λ b c gs hs o p n x q. ap (λ ns. node_then (unmarked (Disj ns)) no_nodes) (branches-unmarked b c gs hs q);
        negation = λ b c g h o p n x q. ap (λ m. node_then (unmarked (Not m)) no_nodes) q;
        some = λ vs b c g h o p n x q. ap (λ m. node_then (unmarked (Exists vs m)) no_nodes) q;
        ite = λ vs b d c e g h k g' h' k' o p n w x y z.
            ap (λ m. node_then (unmarked (Ite vs m (unmarked_node h) (unmarked_node k))) no_nodes) x
            ∙ ap₂ (λ l m. node_then (unmarked (Ite vs (unmarked_node g') l m)) no_nodes) y.2 z.2;
        ite_never = λ vs b c g k g' k' o p n w x z. ap₂ (λ l m. node_then (unmarked (Ite vs l (unmarked (Conj no_nodes)) m)) no_nodes) x z.2;
      }

module _ {I J : Type 0} (Op : Operations I) (Oq : Operations J) (R : TypeTerm → I → J → Type 0) (P : Source) (Counts : ℕ → Type 0) (declared other : ℕ → List Declared) (T : ℕ → TypeTerm) (first : ℕ)
    (rel : Related Op Oq R P) (dec : DeclaredRelated Op Oq R P Counts declared other) where
  entry-own : (xs is js : List ℕ) → NodesRelated Op Oq R is js (map T xs) → OwnRelated Op Oq R P T first (entry Op P declared T xs is) (entry Oq P other T xs js)
  entry-own [] is js r = λ x lt. rel.free (T x)
  entry-own (y ∷ ys) [] [] r = λ x lt. rel.free (T x)
  entry-own (y ∷ ys) [] (j ∷ js) r = absurd r
  entry-own (y ∷ ys) (i ∷ is) [] r = absurd r
  entry-own (y ∷ ys) (i ∷ is) (j ∷ js) r = λ x lt. at x (nat_eq x y) (eqb-true x y) (entry-own ys is js r.1 x lt)
    where
      at : (x : ℕ) (t : Bool) → (t ≡ true → x ≡ y) → R (T x) (entry Op P declared T ys is x) (entry Oq P other T ys js x) → R (T x) (cond t (Op.node i) (entry Op P declared T ys is x)) (cond t (Oq.node j) (entry Oq P other T ys js x))
      at x true e h = subst (λ z. R (T z) (Op.node i) (Oq.node j)) (sym (e refl)) r.0
      at x false e h = h

  -- every other variable is free
  entry-free : {K : Type 0} (Or : Operations K) (modes : ℕ → List Declared) (xs is : List ℕ) → Below first xs → (x : ℕ) → first ≤ x → entry Or P modes T xs is x ≡ Or.node 0
  entry-free Or modes [] is w x le = refl
  entry-free Or modes (y ∷ ys) [] w x le = refl
  entry-free Or modes (y ∷ ys) (i ∷ is) w x le = at (nat_eq x y) (eqb-true x y) (entry-free Or modes ys is (λ z j. w z (inr j)) x le)
    where
      at : (t : Bool) → (t ≡ true → x ≡ y) → entry Or P modes T ys is x ≡ Or.node 0 → cond t (Or.node i) (entry Or P modes T ys is x) ≡ Or.node 0
      at true e h = absurd (not-le_of_lt (w y (inl refl)) (subst (λ z. first ≤ z) (e refl) le))
      at false e h = h

  pub entry-related : (n : ℕ) (xs is js : List ℕ) → first ≤ n → Below first xs → NodesRelated Op Oq R is js (map T xs) → PointsRelated Op Oq R P T first n (entry Op P declared T xs is) (entry Oq P other T xs js)
  entry-related n xs is js ln w r =
      record {
        own = entry-own xs is js r;
        bound = λ x le. ap Op.is_bound (entry-free Op declared xs is w x le) ∙ (rel.bound (T x) (Op.node 0) (Oq.node 0) (rel.free (T x)) ∙ sym (ap Oq.is_bound (entry-free Oq other xs js w x le)));
        free_here = λ x le. entry-free Op declared xs is w x (le_trans ln le);
        free_there = λ x le. entry-free Oq other xs js w x (le_trans ln le);
      }

  unmet-same : (k : ℕ) (xs ls ms : List ℕ) (b : Point I) (c : Point J) → Below first xs → NodesRelated Op Oq R ls ms (map T xs) → OwnRelated Op Oq R P T first b c → first_unmet Op P declared T k xs ls b ≡ first_unmet Oq P other T k xs ms c
  unmet-same k [] ls ms b c w r h = refl
  unmet-same k (x ∷ xs) [] [] b c w r h = refl
  unmet-same k (x ∷ xs) [] (m ∷ ms) b c w r h = absurd r
  unmet-same k (x ∷ xs) (l ∷ ls) [] b c w r h = absurd r
  unmet-same k (x ∷ xs) (l ∷ ls) (m ∷ ms) b c w r h =
      ap₂ (λ (t : Bool) (o : Option ℕ). cond t o (Some k)) (rel.fits (T x) (b x) (c x) l m (h x (w x (inl refl))) r.0) (unmet-same (suc k) xs ls ms b c (λ y i. w y (inr i)) r.1 h)

  judged-one : (m : ℕ) (xs ls ms : List ℕ) (b : Point I) (c : Point J) (r : Arranged I) (s : Arranged J) → Below first xs → NodesRelated Op Oq R ls ms (map T xs) → Matched Op Oq R P T first (SameAll Op Oq R P T first) (SameOne Op Oq R P T first) m b c r s →
      (judged Op P declared T xs ls b r ≡ faulty lacks → ⊥) → (judged Oq P other T xs ms c s ≡ faulty lacks → ⊥) → OneVerdict (judged Op P declared T xs ls b r) (judged Oq P other T xs ms c s)
  judged-one m xs ls ms b c r s w k lacks_here p q = absurd (p refl)
  judged-one m xs ls ms b c r s w k lacks_there p q = absurd (q refl)
  judged-one m xs ls ms b c r s w k (both_break f) p q = refl
  judged-one m xs ls ms b c r s w k (both_run None (Some e) a r' ln) p q = absurd r'
  judged-one m xs ls ms b c r s w k (both_run (Some d) None a r' ln) p q = absurd r'
  judged-one m xs ls ms b c r s w k (both_run {gs = gs} {hs = hs} None None {n = n} a r' ln) p q = alone-unmarked Op n b None gs ∙ (ap by_itself a ∙ sym (alone-unmarked Oq n c None hs))
  judged-one m xs ls ms b c r s w k (both_run {gs = gs} {hs = hs} (Some d) (Some e) {n = n} a r' ln) p q =
      subst (λ (o : Option ℕ). OneVerdict (unless_unmet (alone Op n b (Some d) gs) (first_unmet Op P declared T 0 xs ls d)) (unless_unmet (alone Oq n c (Some e) hs) o)) (unmet-same 0 xs ls ms d e w k r'.own) (at (first_unmet Op P declared T 0 xs ls d))
    where
      at : (o : Option ℕ) → OneVerdict (unless_unmet (alone Op n b (Some d) gs) o) (unless_unmet (alone Oq n c (Some e) hs) o)
      at None = alone-unmarked Op n b (Some d) gs ∙ (ap by_itself a ∙ sym (alone-unmarked Oq n c (Some e) hs))
      at (Some l) = refl

  -- Where no inst is lacking, a goal has one order over both, but for changes and marks, or one fault.
  pub one-verdict : (next : ℕ) (xs is ls js ms : List ℕ) (g : Flat_goal) → CallsOnly Counts g → TypedGoal P T g → Below first (variables_of g) → Below first xs → first ≤ next → NodesRelated Op Oq R is js (map T xs) → NodesRelated Op Oq R ls ms (map T xs) →
      (arrange Op P declared T next xs is ls g ≡ faulty lacks → ⊥) → (arrange Oq P other T next xs js ms g ≡ faulty lacks → ⊥) → OneVerdict (arrange Op P declared T next xs is ls g) (arrange Oq P other T next xs js ms g)
  one-verdict next xs is ls js ms g a t w v le ri rl p q =
      judged-one next xs ls ms (entry Op P declared T xs is) (entry Oq P other T xs js) (trial Op P declared T g xs next (entry Op P declared T xs is)) (trial Oq P other T g xs next (entry Oq P other T xs js)) v rl
      (goal-match Op Oq R P Counts declared other T first rel dec (SameAll Op Oq R P T first) (SameOne Op Oq R P T first) (unmarked-closed Op Oq R P T first) g a t w xs next (entry Op P declared T xs is) (entry Oq P other T xs js) le (entry-related next xs is js le v ri)) p q

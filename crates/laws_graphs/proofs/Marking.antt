-- Goals of which one follows the other do so when they are pruned, and when they are marked.
use Rattle.std.proofs.Common.{ℕ, Bool, true, false, List, ◌++◌, ap, subst}
use Rattle.mc_program.specs.Programs.{TypeTerm, Source}
use Rattle.mc_source.specs.Determinism.{inferred}
use Rattle.mc_source.specs.declared.det.Det.{Det}
use Rattle.mc_model.specs.Good.{System}
use Rattle.mc_model.specs.Scheduled.{Node, node, Scheduled, Conj, Disj, Switch, Ite, Not, Exists, Assign, Test, Build, Take, Const, TestConst, Call, Apply, Nodes, node_then, Arms}
use Rattle.mc_accepted.specs.Ordered.{Insts, variables_of_node, variables_of_nodes}
use Rattle.mc_accepted.specs.Determined.{Known, learned, insts_after, determined}
use Rattle.mc_accepted.specs.MergedArms.{never_ends}
use Rattle.mc_accepted.specs.PrunedMarks.{mark_of}
use Rattle.mc_det.specs.Pruned.{unpruned, then_reached, pruned_node, pruned_in, pruned_all, pruned_each, pruned_arms}
use Rattle.mc_det.specs.Marked.{marked, marked_in, marked_all, marked_each, marked_arms}
use Rattle.laws_graphs.specs.Follows.{IsAtom, InstsFollow, Follows, follows, FollowsIn, atom, conj, disj, switch, ite, negated, some, AllFollow, no_more, and_then, EachFollows, no_other, either, ArmsFollow, no_arm, arm, Told}
use Rattle.laws_graphs.specs.Nodes.{MeanOne}
use Rattle.laws_graphs.specs.MarkedLaws.{PrunedGoalsFollow, MarkedGoalsFollow}
use Rattle.laws_graphs.proofs.Telling.{nodes-told}
use Rattle.laws_graphs.proofs.Determining.{after-follow, variables-same, variables-all-same, determined-same, never-same, mark-same}

module _ (P : Source) (T : ℕ → TypeTerm) (first : ℕ) (R : TypeTerm → ℕ → ℕ → Type 0) (S U : System) (told : Told P T first R S U) where
  abbrev F : Insts → Insts → Node → Node → Type 0
  F b c n m = Follows P T first R b c n m

  abbrev FI : Insts → Insts → Scheduled → Scheduled → Type 0
  FI b c s r = FollowsIn P T first R b c s r

  abbrev FA : Insts → Insts → Nodes → Nodes → Type 0
  FA b c ns ms = AllFollow P T first R b c ns ms

  abbrev FE : Insts → Insts → Nodes → Nodes → Type 0
  FE b c ns ms = EachFollows P T first R b c ns ms

  abbrev FR : Insts → Insts → Arms → Arms → Type 0
  FR b c ns ms = ArmsFollow P T first R b c ns ms

  abbrev IF : Insts → Insts → Type 0
  IF b c = InstsFollow P T first R b c

  after : (b c : Insts) (n m : Node) → F b c n m → IF (insts_after n b) (insts_after m c)
  after b c n m f = after-follow P T first R b c n m f

  -- ---- pruned
  atom-pruned : (Q : List ℕ) (b c : Insts) (s : Scheduled) → IsAtom P T first s → FI b c (pruned_in S T Q b s) (pruned_in U T Q c s)
  atom-pruned Q b c (Conj ns) a = absurd a
  atom-pruned Q b c (Disj ns) a = absurd a
  atom-pruned Q b c (Switch x ns) a = absurd a
  atom-pruned Q b c (Ite vs g k l) a = absurd a
  atom-pruned Q b c (Not n) a = absurd a
  atom-pruned Q b c (Exists vs n) a = absurd a
  atom-pruned Q b c (Assign x y) a = atom a
  atom-pruned Q b c (Test x y) a = atom a
  atom-pruned Q b c (Build x s ys) a = atom a
  atom-pruned Q b c (Take x s ys) a = atom a
  atom-pruned Q b c (Const x v) a = atom a
  atom-pruned Q b c (TestConst x v) a = atom a
  atom-pruned Q b c (Call p xs is l) a = atom a
  atom-pruned Q b c (Apply op xs ys) a = atom a

  unpruned-follow : (b c : Insts) (n m : Node) → F b c n m → F b c (unpruned n) (unpruned m)
  unpruned-follow b c n m (follows f a) = follows f a

  reached-follow : (t : Bool) (b c : Insts) (n m : Node) → F b c n m → F b c (then_reached t n) (then_reached t m)
  reached-follow true b c n m f = unpruned-follow b c n m f
  reached-follow false b c n m f = f

  -- the insts after a goal are those after it is pruned
  moved-one : (Q O : List ℕ) (b c : Insts) (g h n m : Node) → F (insts_after g b) (insts_after h c) n m → F (insts_after (pruned_node S T Q b g) b) (insts_after (pruned_node U T O c h) c) n m
  moved-one Q O b c (node s ss d t) (node r rs e u) n m f = f

  moved-all : (Q O : List ℕ) (b c : Insts) (g h : Node) (ns ms : Nodes) → FA (insts_after g b) (insts_after h c) ns ms → FA (insts_after (pruned_node S T Q b g) b) (insts_after (pruned_node U T O c h) c) ns ms
  moved-all Q O b c (node s ss d t) (node r rs e u) ns ms f = f

  mutual
    pub pruned-follow : (Q : List ℕ) (b c : Insts) (n m : Node) → IF b c → F b c n m → F b c (pruned_node S T Q b n) (pruned_node U T Q c m)
    pruned-follow Q b c n m h (follows {s = s} {r = r} {ss = ss} {rs = rs} {d = d} {m = t} f a) =
        subst (λ (u : Bool). F b c (node (pruned_in S T Q b s) ss d (mark_of S T Q b (node s ss d t))) (node (pruned_in U T Q c r) rs d u)) (mark-same P T first R S U told Q b c (node s ss d t) (node r rs d t) h (follows f a))
        (follows (pruned-in-follow Q b c s r h f) a)

    pruned-in-follow : (Q : List ℕ) (b c : Insts) (s r : Scheduled) → IF b c → FI b c s r → FI b c (pruned_in S T Q b s) (pruned_in U T Q c r)
    pruned-in-follow Q b c s r h (atom a) = atom-pruned Q b c s a
    pruned-in-follow Q b c s r h (conj f) = conj (pruned-all-follow Q b c _ _ h f)
    pruned-in-follow Q b c s r h (disj f) = disj (pruned-each-follow Q b c _ _ h f)
    pruned-in-follow Q b c s r h (switch lt f) = switch lt (pruned-arms-follow Q b c _ _ h f)
    pruned-in-follow Q b c s r h (ite {vs = vs} {g = g} {h = t} {k = e} {g' = g'} {h' = t'} {k' = e'} f k l) =
        subst (λ (xs : List ℕ). FI b c (pruned_in S T Q b (Ite vs g t e)) (Ite vs (pruned_node U T (Q ++ xs) c g') (then_reached (never_ends U T c g') (pruned_node U T (Q ++ variables_of_node g') (insts_after g' c) t')) (pruned_node U T Q c e')))
        (variables-same P T first R _ _ t t' k)
        (subst (λ (xs : List ℕ). FI b c (pruned_in S T Q b (Ite vs g t e)) (Ite vs (pruned_node U T (Q ++ variables_of_node t) c g') (then_reached (never_ends U T c g') (pruned_node U T (Q ++ xs) (insts_after g' c) t')) (pruned_node U T Q c e')))
        (variables-same P T first R b c g g' f)
        (subst (λ (u : Bool). FI b c (pruned_in S T Q b (Ite vs g t e)) (Ite vs (pruned_node U T (Q ++ variables_of_node t) c g') (then_reached u (pruned_node U T (Q ++ variables_of_node g) (insts_after g' c) t')) (pruned_node U T Q c e')))
        (never-same P T first R S U told b c g g' h f)
        (ite (pruned-follow (Q ++ variables_of_node t) b c g g' h f)
        (moved-one (Q ++ variables_of_node t) (Q ++ variables_of_node t) b c g g' _ _
        (reached-follow (never_ends S T b g) (insts_after g b) (insts_after g' c) _ _ (pruned-follow (Q ++ variables_of_node g) (insts_after g b) (insts_after g' c) t t' (after b c g g' f) k)))
        (pruned-follow Q b c e e' h l))))
    pruned-in-follow Q b c s r h (negated f) = negated (pruned-follow Q b c _ _ h f)
    pruned-in-follow Q b c s r h (some f) = some (pruned-follow Q b c _ _ h f)

    pruned-all-follow : (Q : List ℕ) (b c : Insts) (ns ms : Nodes) → IF b c → FA b c ns ms → FA b c (pruned_all S T Q b ns) (pruned_all U T Q c ms)
    pruned-all-follow Q b c ns ms h no_more = no_more
    pruned-all-follow Q b c ns ms h (and_then {n = n} {m = m} {ns = ks} {ms = ls} f g) =
        subst (λ (xs : List ℕ). FA b c (pruned_all S T Q b (node_then n ks)) (node_then (pruned_node U T (Q ++ xs) c m) (pruned_all U T (Q ++ variables_of_node m) (insts_after m c) ls))) (variables-all-same P T first R _ _ ks ls g)
        (subst (λ (xs : List ℕ). FA b c (pruned_all S T Q b (node_then n ks)) (node_then (pruned_node U T (Q ++ variables_of_nodes ks) c m) (pruned_all U T (Q ++ xs) (insts_after m c) ls))) (variables-same P T first R b c n m f)
        (and_then (pruned-follow (Q ++ variables_of_nodes ks) b c n m h f)
        (moved-all (Q ++ variables_of_nodes ks) (Q ++ variables_of_nodes ks) b c n m _ _ (pruned-all-follow (Q ++ variables_of_node n) (insts_after n b) (insts_after m c) ks ls (after b c n m f) g))))

    pruned-each-follow : (Q : List ℕ) (b c : Insts) (ns ms : Nodes) → IF b c → FE b c ns ms → FE b c (pruned_each S T Q b ns) (pruned_each U T Q c ms)
    pruned-each-follow Q b c ns ms h no_other = no_other
    pruned-each-follow Q b c ns ms h (either f g) = either (pruned-follow Q b c _ _ h f) (pruned-each-follow Q b c _ _ h g)

    pruned-arms-follow : (Q : List ℕ) (b c : Insts) (ns ms : Arms) → IF b c → FR b c ns ms → FR b c (pruned_arms S T Q b ns) (pruned_arms U T Q c ms)
    pruned-arms-follow Q b c ns ms h no_arm = no_arm
    pruned-arms-follow Q b c ns ms h (arm f g) = arm (pruned-follow Q b c _ _ h f) (pruned-arms-follow Q b c _ _ h g)

  -- ---- marked
  atom-marked : (b c : Insts) (known : Known) (s : Scheduled) → IsAtom P T first s → FI b c (marked_in S T b known s) (marked_in U T c known s)
  atom-marked b c known (Conj ns) a = absurd a
  atom-marked b c known (Disj ns) a = absurd a
  atom-marked b c known (Switch x ns) a = absurd a
  atom-marked b c known (Ite vs g k l) a = absurd a
  atom-marked b c known (Not n) a = absurd a
  atom-marked b c known (Exists vs n) a = absurd a
  atom-marked b c known (Assign x y) a = atom a
  atom-marked b c known (Test x y) a = atom a
  atom-marked b c known (Build x s ys) a = atom a
  atom-marked b c known (Take x s ys) a = atom a
  atom-marked b c known (Const x v) a = atom a
  atom-marked b c known (TestConst x v) a = atom a
  atom-marked b c known (Call p xs is l) a = atom a
  atom-marked b c known (Apply op xs ys) a = atom a

  kept-one : (b c : Insts) (known : Known) (g h n m : Node) → F (insts_after g b) (insts_after h c) n m → F (insts_after (marked S T b known g) b) (insts_after (marked U T c known h) c) n m
  kept-one b c known (node s ss d t) (node r rs e u) n m f = f

  kept-all : (b c : Insts) (known : Known) (g h : Node) (ns ms : Nodes) → FA (insts_after g b) (insts_after h c) ns ms → FA (insts_after (marked S T b known g) b) (insts_after (marked U T c known h) c) ns ms
  kept-all b c known (node s ss d t) (node r rs e u) ns ms f = f

  mutual
    pub marked-follow : (b c : Insts) (known : Known) (n m : Node) → IF b c → F b c n m → F b c (marked S T b known n) (marked U T c known m)
    marked-follow b c known n m h (follows {s = s} {r = r} {ss = ss} {rs = rs} {d = d} {m = t} f a) =
        subst (λ (e : Det). F b c (node (marked_in S T b known s) ss (inferred (determined S T b known (node s ss d t))) t) (node (marked_in U T c known r) rs e t))
        (ap inferred (determined-same P T first R S U told b c known (node s ss d t) (node r rs d t) h (follows f a)))
        (follows (marked-in-follow b c known s r h f) a)

    marked-in-follow : (b c : Insts) (known : Known) (s r : Scheduled) → IF b c → FI b c s r → FI b c (marked_in S T b known s) (marked_in U T c known r)
    marked-in-follow b c known s r h (atom a) = atom-marked b c known s a
    marked-in-follow b c known s r h (conj f) = conj (marked-all-follow b c known _ _ h f)
    marked-in-follow b c known s r h (disj f) = disj (marked-each-follow b c known _ _ h f)
    marked-in-follow b c known s r h (switch {x = x} lt f) = switch lt (marked-arms-follow b c known x _ _ h f)
    marked-in-follow b c known s r h (ite {g = g} {h = t} {k = e} {g' = g'} {h' = t'} {k' = e'} f k l) =
        ite (marked-follow b c known g g' h f) (kept-one b c known g g' _ _ (marked-follow (insts_after g b) (insts_after g' c) known t t' (after b c g g' f) k)) (marked-follow b c known e e' h l)
    marked-in-follow b c known s r h (negated f) = negated (marked-follow b c known _ _ h f)
    marked-in-follow b c known s r h (some f) = some (marked-follow b c known _ _ h f)

    marked-all-follow : (b c : Insts) (known : Known) (ns ms : Nodes) → IF b c → FA b c ns ms → FA b c (marked_all S T b known ns) (marked_all U T c known ms)
    marked-all-follow b c known ns ms h no_more = no_more
    marked-all-follow b c known ns ms h (and_then {n = n} {m = m} {ns = ks} {ms = ls} f g) =
        and_then (marked-follow b c known n m h f) (kept-all b c known n m _ _ (marked-all-follow (insts_after n b) (insts_after m c) known ks ls (after b c n m f) g))

    marked-each-follow : (b c : Insts) (known : Known) (ns ms : Nodes) → IF b c → FE b c ns ms → FE b c (marked_each S T b known ns) (marked_each U T c known ms)
    marked-each-follow b c known ns ms h no_other = no_other
    marked-each-follow b c known ns ms h (either f g) = either (marked-follow b c known _ _ h f) (marked-each-follow b c known _ _ h g)

    marked-arms-follow : (b c : Insts) (known : Known) (x : ℕ) (ns ms : Arms) → IF b c → FR b c ns ms → FR b c (marked_arms S T b known x ns) (marked_arms U T c known x ms)
    marked-arms-follow b c known x ns ms h no_arm = no_arm
    marked-arms-follow b c known x ns ms h (arm {l = l} f g) = arm (marked-follow b c (learned x l known) _ _ h f) (marked-arms-follow b c known x _ _ h g)

pub pruned-goals-follow : PrunedGoalsFollow
pruned-goals-follow S U T first m n alike listed Q b c g h i f =
    pruned-follow S.world.source T first (MeanOne S.world.source m S.insts n U.insts) S U (nodes-told S U T m n alike listed first) Q b c g h i f

pub marked-goals-follow : MarkedGoalsFollow
marked-goals-follow S U T first m n alike listed known b c g h i f =
    marked-follow S.world.source T first (MeanOne S.world.source m S.insts n U.insts) S U (nodes-told S U T m n alike listed first) b c known g h i f

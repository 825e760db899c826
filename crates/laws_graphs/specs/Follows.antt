-- Goals of which one follows the other: they are one but for the insts that they change, and at
-- each goal the insts before and after it mean one thing in both. (Mercury Language Reference
-- Manual: Modes; this project's form of scheduled goals.)
use Rattle.std.specs.Prelude.{◌≡◌, ℕ, ◌<◌, List, map, Bool, true, Some}
use Rattle.mc_program.specs.Values.{Val}
use Rattle.mc_program.specs.Programs.{TypeTerm, Source}
use Rattle.mc_source.specs.declared.det.Det.{Det}
use Rattle.mc_model.specs.Good.{System}
use Rattle.mc_model.specs.Stream.{is_bound}
use Rattle.mc_model.specs.Scheduled.{Label, Node, node, Scheduled, Conj, Disj, Switch, Ite, Not, Exists, Assign, Test, Build, Take, Const, TestConst, Call, Apply, Nodes, no_nodes, node_then, Arms, no_arms, arm_then}
use Rattle.mc_accepted.specs.Ordered.{Insts}
use Rattle.mc_accepted.specs.Typing.{constructor_types, ConstantOf, TypedGoal}
use Rattle.mc_accepted.specs.Determined.{insts_after, allowed_in, excludes, leaves_dead}
use Rattle.mc_accepted.specs.MergedArms.{takes_constants}
use Rattle.mc_model.specs.Insts.{Graph}
use Rattle.mc_model.specs.Flat.{Flat_goal, variables_of}
use Rattle.mc_accepted.specs.Accepted.{entered}
use Rattle.mc_accepted.specs.Calls.{CallsOnly}
use Rattle.mc_accepted.specs.Arranged.{Declared, in_order, arrange}
use Rattle.mc_accepted.specs.NodeOracle.{NodeOracle, of_nodes}
use Rattle.mc_accepted.specs.Fits.{FitsTypes}
use Rattle.mc_accepted.specs.ProperTypes.{Parameters}
use Rattle.laws_graphs.specs.Related.{Below, NodesRelated, DeclaredRelated}
use Rattle.laws_graphs.specs.Nodes.{NamedApart, Finds, MeanOne}

module _ (P : Source) (T : ℕ → TypeTerm) (first : ℕ) where
  -- a goal that holds no other, with the types of what it deconstructs
  abbrev pub IsAtom : Scheduled → Type 0
  IsAtom (Assign v w) = Unit {0}
  IsAtom (Test v w) = Unit {0}
  IsAtom (Build v s ys) = Unit {0}
  IsAtom (Take v s ys) =
      (v < first) × Below first ys × (constructor_types P s (T v) ≡ Some (map T ys))
  IsAtom (Const v c) = Unit {0}
  IsAtom (TestConst v c) = (v < first) × ConstantOf c (T v)
  IsAtom (Call p xs implied last) = Unit {0}
  IsAtom (Apply op xs ys) = Unit {0}
  IsAtom s = ⊥

  module _ (R : TypeTerm → ℕ → ℕ → Type 0) where
    -- At two points the first variables have related insts, and each is bound in both or in none.
    pub record InstsFollow (b c : Insts) : Type 0 where
      pub own : (x : ℕ) → x < first → R (T x) (b x) (c x)
      pub bound : (x : ℕ) → is_bound (b x) ≡ is_bound (c x)

    mutual
      pub data Follows : Insts → Insts → Node → Node → Type 0 where
        follows :
            {b c : Insts} {s r : Scheduled} {ss rs : List (ℕ × ℕ)} {d : Det} {m : Bool}
            → FollowsIn b c s r
            → InstsFollow (insts_after (node s ss d m) b) (insts_after (node r rs d m) c)
            → Follows b c (node s ss d m) (node r rs d m)

      pub data FollowsIn : Insts → Insts → Scheduled → Scheduled → Type 0 where
        atom : {b c : Insts} {s : Scheduled} → IsAtom s → FollowsIn b c s s
        conj :
            {b c : Insts} {ns ms : Nodes} → AllFollow b c ns ms → FollowsIn b c (Conj ns) (Conj ms)
        disj :
            {b c : Insts} {ns ms : Nodes}
            → EachFollows b c ns ms → FollowsIn b c (Disj ns) (Disj ms)
        switch :
            {b c : Insts} {x : ℕ} {ns ms : Arms}
            → x < first → ArmsFollow b c ns ms → FollowsIn b c (Switch x ns) (Switch x ms)
        ite :
            {b c : Insts} {vs : List ℕ} {g h k g' h' k' : Node}
            → Follows b c g g' → Follows (insts_after g b) (insts_after g' c) h h'
            → Follows b c k k' → FollowsIn b c (Ite vs g h k) (Ite vs g' h' k')
        negated : {b c : Insts} {n m : Node} → Follows b c n m → FollowsIn b c (Not n) (Not m)
        some :
            {b c : Insts} {vs : List ℕ} {n m : Node}
            → Follows b c n m → FollowsIn b c (Exists vs n) (Exists vs m)

      pub data AllFollow : Insts → Insts → Nodes → Nodes → Type 0 where
        no_more : {b c : Insts} → AllFollow b c no_nodes no_nodes
        and_then :
            {b c : Insts} {n m : Node} {ns ms : Nodes}
            → Follows b c n m → AllFollow (insts_after n b) (insts_after m c) ns ms
            → AllFollow b c (node_then n ns) (node_then m ms)

      pub data EachFollows : Insts → Insts → Nodes → Nodes → Type 0 where
        no_other : {b c : Insts} → EachFollows b c no_nodes no_nodes
        either :
            {b c : Insts} {n m : Node} {ns ms : Nodes}
            → Follows b c n m → EachFollows b c ns ms
            → EachFollows b c (node_then n ns) (node_then m ms)

      pub data ArmsFollow : Insts → Insts → Arms → Arms → Type 0 where
        no_arm : {b c : Insts} → ArmsFollow b c no_arms no_arms
        arm :
            {b c : Insts} {l : Label} {n m : Node} {ns ms : Arms}
            → Follows b c n m → ArmsFollow b c ns ms
            → ArmsFollow b c (arm_then l n ns) (arm_then l m ms)

    -- What determinism asks of insts at types, it is answered alike in two systems.
    pub record Told (S U : System) : Type 0 where
      pub dets : (k : ℕ) → (S.procs k).det ≡ (U.procs k).det
      pub dead : (k : ℕ) → leaves_dead S T (S.procs k).last ≡ leaves_dead U T (U.procs k).last
      pub allowed :
          (t : TypeTerm) (i j : ℕ) → R t i j → allowed_in S T t i ≡ allowed_in U T t j
      pub excluded :
          (t : TypeTerm) (ts : List TypeTerm) (s i j : ℕ)
          → constructor_types P s t ≡ Some ts → R t i j → excludes S T i s ≡ excludes U T j s
      pub constants :
          (t : TypeTerm) (v : Val) (i j : ℕ)
          → ConstantOf v t → R t i j
          → takes_constants (S.insts i) ≡ takes_constants (U.insts j)

-- Two orders of a goal, over the nodes of two graphs, are one but for the insts that goals change,
-- where the insts of modes of what the goal calls mean one thing; these mean one thing, and so do the
-- insts at a call.
abbrev pub OrdersFollow : Type 0
OrdersFollow =
    (P : Source) (D : Parameters) (m n : ℕ) (G H : Graph) (C E : NodeOracle)
    (counts : ℕ → Bool) (declared other : ℕ → List Declared) (T : ℕ → TypeTerm)
    → FitsTypes P D → NamedApart P → Finds P m G C → Finds P n H E
    → DeclaredRelated (of_nodes C) (of_nodes E) (MeanOne P m G n H) P (λ p. counts p ≡ true) declared
    other
    → (next : ℕ) (head first last starts ends : List ℕ) (g : Flat_goal)
    → CallsOnly (λ p. counts p ≡ true) g → TypedGoal P T g → Below next (variables_of g) → Below next head
    → NodesRelated (of_nodes C) (of_nodes E) (MeanOne P m G n H) first starts (map T head)
    → (x y : Node) → arrange (of_nodes C) P declared T next head first last g ≡ in_order x
    → arrange (of_nodes E) P other T next head starts ends g ≡ in_order y
    → InstsFollow P T next (MeanOne P m G n H) (entered head first) (entered head starts)
    × Follows P T next (MeanOne P m G n H) (entered head first) (entered head starts) x y

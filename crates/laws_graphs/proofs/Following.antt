-- What two orders of one goal are, from related points: one fault, or goals that are related, with
-- related ends; or an inst isn't there.
use Rattle.std.proofs.Common.{◌≡◌, ℕ, ◌<◌, ◌≤◌, List, [], ◌∷◌, Option, Some, None}
use Rattle.mc_program.specs.Programs.{TypeTerm, Source}
use Rattle.mc_model.specs.Scheduled.{Node, Scheduled, Conj, Disj, Ite, Not, Exists, Nodes, no_nodes, node_then}
use Rattle.mc_accepted.specs.Unmarked.{unmarked}
use Rattle.mc_accepted.specs.Arranged.{Operations, Fault, lacks, Point, Arranged, runs, breaks, Trial, Waiting, Picked, takes, none_runs, Branches, all_run, one_breaks, nodes_before, test_nodes, changing, alone}
use Rattle.laws_graphs.specs.Follows.{IsAtom}
use Rattle.laws_graphs.specs.Related.{Below}

abbrev pub single : Node → Nodes
single g = node_then g no_nodes

module _ {I J : Type 0} (Op : Operations I) (Oq : Operations J) (R : TypeTerm → I → J → Type 0) (P : Source) (T : ℕ → TypeTerm) (first : ℕ) where
  -- the first variables have related insts
  abbrev pub OwnRelated : Point I → Point J → Type 0
  OwnRelated b c = (x : ℕ) → x < first → R (T x) (b x) (c x)

  -- Those that are numbered on are both bound or both free, and those from the next number on are free.
  pub record PointsRelated (next : ℕ) (b : Point I) (c : Point J) : Type 0 where
    pub own : OwnRelated b c
    pub bound : (x : ℕ) → first ≤ x → Op.is_bound (b x) ≡ Oq.is_bound (c x)
    pub free_here : (x : ℕ) → next ≤ x → b x ≡ Op.node 0
    pub free_there : (x : ℕ) → next ≤ x → c x ≡ Oq.node 0

  abbrev pub EndsRelated : (next : ℕ) → Option (Point I) → Option (Point J) → Type 0
  EndsRelated n None None = Unit {0}
  EndsRelated n None (Some c) = ⊥
  EndsRelated n (Some b) None = ⊥
  EndsRelated n (Some b) (Some c) = PointsRelated n b c

  pub data EachEnd (next : ℕ) : List (Point I) → List (Point J) → Type 0 where
    no_end : EachEnd next [] []
    an_end : {b : Point I} {c : Point J} {bs : List (Point I)} {cs : List (Point J)} → PointsRelated next b c → EachEnd next bs cs → EachEnd next (b ∷ bs) (c ∷ cs)

  -- from two points to two ends
  pub record Step (b : Point I) (c : Point J) (o : Option (Point I)) (p : Option (Point J)) (next : ℕ) : Type 0 where
    pub before : ℕ
    pub first_is : first ≤ before
    pub on : before ≤ next
    pub begins : PointsRelated before b c
    pub ends : EndsRelated next o p

  -- Goals are related from two points to two ends: those that run one behind another, and one alone.
  module _ (All : Point I → Point J → Nodes → Nodes → Option (Point I) → Option (Point J) → Type 0) (One : Point I → Point J → Node → Node → Option (Point I) → Option (Point J) → Type 0) where
    abbrev pub Branch : Point I → Point J → Node → Node → Type 0
    Branch b c g h = (o : Option (Point I)) × (p : Option (Point J)) × One b c g h o p

    -- branches, each from the same points
    pub data EachBranch (b : Point I) (c : Point J) : Nodes → Nodes → Type 0 where
      no_branches : EachBranch b c no_nodes no_nodes
      a_branch : {g h : Node} {gs hs : Nodes} → Branch b c g h → EachBranch b c gs hs → EachBranch b c (node_then g gs) (node_then h hs)

    -- what is asked of the relation of goals
    pub record Closed : Type 0 where
      pub done : (b : Point I) (c : Point J) → All b c no_nodes no_nodes (Some b) (Some c)
      pub before : (b d : Point I) (c e : Point J) (gs hs ks ls : Nodes) (o : Option (Point I)) (p : Option (Point J)) → All b c gs hs (Some d) (Some e) → All d e ks ls o p → All b c (nodes_before gs ks) (nodes_before hs ls) o p
      pub tests : (n : ℕ) (b : Point I) (c : Point J) (ts : List (ℕ × ℕ)) → PointsRelated n b c → All b c (test_nodes ts) (test_nodes ts) (Some b) (Some c)
      pub atom : (b : Point I) (c : Point J) (s : Scheduled) (o : Option (Point I)) (p : Option (Point J)) (n : ℕ) → IsAtom P T first s → Step b c o p n →
          All b c (single (changing Op.changed n b o s)) (single (changing Oq.changed n c p s)) o p
      pub by_one : (b : Point I) (c : Point J) (gs hs : Nodes) (o : Option (Point I)) (p : Option (Point J)) (n : ℕ) → Step b c o p n → All b c gs hs o p → One b c (alone Op n b o gs) (alone Oq n c p hs) o p
      pub conj : (b : Point I) (c : Point J) (gs hs : Nodes) (o : Option (Point I)) (p : Option (Point J)) (n : ℕ) → Step b c o p n → All b c gs hs o p →
          All b c (single (changing Op.changed n b o (Conj gs))) (single (changing Oq.changed n c p (Conj hs))) o p
      pub disj : (b : Point I) (c : Point J) (gs hs : Nodes) (o : Option (Point I)) (p : Option (Point J)) (n : ℕ) → Step b c o p n → EachBranch b c gs hs →
          All b c (single (changing Op.changed n b o (Disj gs))) (single (changing Oq.changed n c p (Disj hs))) o p
      pub negation : (b : Point I) (c : Point J) (g h : Node) (o : Option (Point I)) (p : Option (Point J)) (n : ℕ) → Step b c (Some b) (Some c) n → One b c g h o p →
          All b c (single (changing Op.changed n b (Some b) (Not g))) (single (changing Oq.changed n c (Some c) (Not h))) (Some b) (Some c)
      pub some : (vs : List ℕ) (b : Point I) (c : Point J) (g h : Node) (o : Option (Point I)) (p : Option (Point J)) (n : ℕ) → Step b c o p n → One b c g h o p →
          All b c (single (changing Op.changed n b o (Exists vs g))) (single (changing Oq.changed n c p (Exists vs h))) o p
      pub ite : (vs : List ℕ) (b d : Point I) (c e : Point J) (g h k g' h' k' : Node) (o : Option (Point I)) (p : Option (Point J)) (n : ℕ) → Step b c o p n →
          One b c g g' (Some d) (Some e) → Branch d e h h' → Branch b c k k' →
          All b c (single (changing Op.changed n b o (Ite vs g h k))) (single (changing Oq.changed n c p (Ite vs g' h' k'))) o p
      pub ite_never : (vs : List ℕ) (b : Point I) (c : Point J) (g k g' k' : Node) (o : Option (Point I)) (p : Option (Point J)) (n : ℕ) → Step b c o p n →
          One b c g g' None None → Branch b c k k' →
          All b c (single (changing Op.changed n b o (Ite vs g (unmarked (Conj no_nodes)) k))) (single (changing Oq.changed n c p (Ite vs g' (unmarked (Conj no_nodes)) k'))) o p

    -- what two tries come to, from these points and this next number
    pub data Matched (before : ℕ) (b : Point I) (c : Point J) : Arranged I → Arranged J → Type 0 where
      lacks_here : {s : Arranged J} → Matched before b c (breaks lacks) s
      lacks_there : {r : Arranged I} → Matched before b c r (breaks lacks)
      both_break : (f : Fault) → Matched before b c (breaks f) (breaks f)
      both_run : {gs hs : Nodes} (o : Option (Point I)) (p : Option (Point J)) {n : ℕ} {zs : List ℕ} → All b c gs hs o p → EndsRelated n o p → before ≤ n → Matched before b c (runs gs o n zs) (runs hs p n zs)

    abbrev pub TrialsMatch : Trial I → Trial J → Type 0
    TrialsMatch t u = (O : List ℕ) (n : ℕ) (b : Point I) (c : Point J) → first ≤ n → PointsRelated n b c → Matched n b c (t O n b) (u O n c)

    -- goals that wait, of the same variables
    pub data AllMatch : List (Waiting I) → List (Waiting J) → Type 0 where
      no_more : AllMatch [] []
      one_more : {v : Waiting I} {w : Waiting J} {vs : List (Waiting I)} {ws : List (Waiting J)} → v.variables ≡ w.variables → Below first v.variables → TrialsMatch v.trial w.trial → AllMatch vs ws →
          AllMatch (v ∷ vs) (w ∷ ws)

    pub data PicksMatch (before : ℕ) (b : Point I) (c : Point J) : Picked I → Picked J → Type 0 where
      pick_lacks_here : {q : Picked J} → PicksMatch before b c (none_runs (Some lacks)) q
      pick_lacks_there : {p : Picked I} → PicksMatch before b c p (none_runs (Some lacks))
      both_none : (f : Option Fault) → PicksMatch before b c (none_runs f) (none_runs f)
      both_take : {us vs : List ℕ} {ws : List (Waiting I)} {xs : List (Waiting J)} {gs hs : Nodes} (o : Option (Point I)) (p : Option (Point J)) {n : ℕ} → us ≡ vs → AllMatch ws xs → All b c gs hs o p → EndsRelated n o p → before ≤ n →
          PicksMatch before b c (takes us ws gs o n) (takes vs xs hs p n)

    pub data BranchesMatch (before : ℕ) (Q : Nodes → Nodes → Type 0) : Branches I → Branches J → Type 0 where
      branch_lacks_here : {B : Branches J} → BranchesMatch before Q (one_breaks lacks) B
      branch_lacks_there : {B : Branches I} → BranchesMatch before Q B (one_breaks lacks)
      branches_break : (f : Fault) → BranchesMatch before Q (one_breaks f) (one_breaks f)
      branches_run : {gs hs : Nodes} {bs : List (Point I)} {cs : List (Point J)} {n : ℕ} → Q gs hs → EachEnd n bs cs → before ≤ n → BranchesMatch before Q (all_run gs bs n) (all_run hs cs n)

    -- the branches of an if-then-else: none yet, the else part, both parts
    pub data NoBranch : Nodes → Nodes → Type 0 where
      nothing : NoBranch no_nodes no_nodes

    pub data OneBranch (b : Point I) (c : Point J) : Nodes → Nodes → Type 0 where
      last_one : {g h : Node} → Branch b c g h → OneBranch b c (single g) (single h)

    pub data TwoBranches (b d : Point I) (c e : Point J) : Nodes → Nodes → Type 0 where
      then_else : {g h k l : Node} → Branch d e g h → Branch b c k l → TwoBranches b d c e (node_then g (single k)) (node_then h (single l))

    pub data NeverThen (b : Point I) (c : Point J) : Nodes → Nodes → Type 0 where
      never_then : {g h : Node} → Branch b c g h → NeverThen b c (node_then (unmarked (Conj no_nodes)) (single g)) (node_then (unmarked (Conj no_nodes)) (single h))

-- Goals of which one follows the other do so in switch form, where what is kept of arms does.
-- (Mercury Language Reference Manual: Determinism, switches.)
use Rattle.std.specs.Prelude.{◌≡◌, ℕ, true, false, ◌||◌, List, [], ◌∷◌, map}
use Rattle.mc_program.specs.Programs.{TypeTerm, Source}
use Rattle.mc_model.specs.Good.{System}
use Rattle.mc_model.specs.Stream.{is_bound}
use Rattle.mc_model.specs.Scheduled.{Node, node, Scheduled, Conj, Disj, Ite, Not, Exists, Nodes, no_nodes, node_then}
use Rattle.mc_accepted.specs.Ordered.{Insts, change_at}
use Rattle.mc_accepted.specs.Determined.{insts_after}
use Rattle.mc_accepted.specs.MergedArms.{never_ends}
use Rattle.mc_accepted.specs.Switched.{Opening, Disjunct, Kept, formed, disjuncts}
use Rattle.laws_graphs.specs.Related.{Below}
use Rattle.laws_graphs.specs.Nodes.{MeanOne}
use Rattle.laws_graphs.specs.Follows.{InstsFollow, Follows}
use Rattle.laws_graphs.specs.DeterminismLaws.{ListedOf, SystemsAlike}

module _ (S : System) (T : ℕ → TypeTerm) where
  -- a variable that is bound before or after a disjunction is bound behind each disjunct that ends
  abbrev pub EndsBind : (before after : Insts) → List Disjunct → Type 0
  EndsBind b c [] = Unit {0}
  EndsBind b c (d ∷ ds) =
      (never_ends S T b d.goal ≡ false
      → (x : ℕ)
      → (is_bound (b x) || is_bound (c x)) ≡ true → is_bound (insts_after d.goal b x) ≡ true)
      × EndsBind b c ds

  -- so it is in each disjunction of a goal that is put in switch form
  module _ (kept : (before after : Insts) → Kept) where
    abbrev mutual
      pub BindsWell : Insts → Node → Type 0
      BindsWell b (node s changes d m) = BindsWellIn b (insts_after (node s changes d m) b) s

      pub BindsWellIn : (before after : Insts) → Scheduled → Type 0
      BindsWellIn b c (Conj ns) = AllBindWell b ns
      BindsWellIn b c (Disj ns) = EndsBind b c (disjuncts S T kept b ns) × EachBindsWell b ns
      BindsWellIn b c (Ite vs n t e) =
          BindsWell b n × BindsWell (insts_after n b) t × BindsWell b e
      BindsWellIn b c (Not n) = BindsWell b n
      BindsWellIn b c (Exists vs n) = BindsWell b n
      BindsWellIn b c s = Unit {0}

      pub AllBindWell : Insts → Nodes → Type 0
      AllBindWell b no_nodes = Unit {0}
      AllBindWell b (node_then n ns) = BindsWell b n × AllBindWell (insts_after n b) ns

      pub EachBindsWell : Insts → Nodes → Type 0
      EachBindsWell b no_nodes = Unit {0}
      EachBindsWell b (node_then n ns) = BindsWell b n × EachBindsWell b ns

module _ (P : Source) (T : ℕ → TypeTerm) (first : ℕ) (R : TypeTerm → ℕ → ℕ → Type 0) where
  -- disjuncts from two points: they open the same variables, and their goals follow
  pub data DisjunctsFollow (b c : Insts) : List Disjunct → List Disjunct → Type 0 where
    no_disjuncts : DisjunctsFollow b c [] []
    a_disjunct :
        {d e : Disjunct} {ds es : List Disjunct}
        → d.opens ≡ e.opens → Below first (map (λ (o : Opening). o.0) d.opens)
        → Follows P T first R b c d.goal e.goal → DisjunctsFollow b c ds es
        → DisjunctsFollow b c (d ∷ ds) (e ∷ es)

  -- What is kept of arms in two ways: from points that follow it leads to points that do.
  abbrev pub KeptFollows : System → (kept other : (before after : Insts) → Kept) → Type 0
  KeptFollows S kept other =
      (b c b' c' : Insts) (ds es : List Disjunct)
      → InstsFollow P T first R b b' → InstsFollow P T first R c c'
      → DisjunctsFollow b b' ds es → EndsBind S T b c ds
      → InstsFollow P T first R (λ x. change_at x (kept b c ds) (b x))
      (λ x. change_at x (other b' c' es) (b' x))

abbrev pub SwitchFormsFollow : Type 0
SwitchFormsFollow =
    (S U : System) (T : ℕ → TypeTerm) (first m n : ℕ) (kept other : (before after : Insts) → Kept)
    → SystemsAlike T S U → ListedOf S.world.source
    → KeptFollows S.world.source T first (MeanOne S.world.source m S.insts n U.insts) S kept other
    → (b c : Insts) (g h : Node) → BindsWell S T kept b g
    → InstsFollow S.world.source T first (MeanOne S.world.source m S.insts n U.insts) b c
    → Follows S.world.source T first (MeanOne S.world.source m S.insts n U.insts) b c g h
    → Follows S.world.source T first (MeanOne S.world.source m S.insts n U.insts) b c
    (formed S T kept b g) (formed U T other c h)

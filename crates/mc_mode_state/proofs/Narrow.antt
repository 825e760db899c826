-- The insts of a constructor's arguments: as many as it has, and all of them are there.
use Rattle.std.proofs.Common.{◌≡◌, ℕ, zero, suc, ◌<◌, List, [], ◌∷◌, length, get_or, map, replicate, Option, Some, None, inl, inr, refl, sym, ap, ◌∙◌, subst, arith, ⊎_elim}
use Rattle.std.proofs.lemmas.List.{length-replicate}
use Rattle.mc_program.specs.Programs.{Source}
use Rattle.mc_model.specs.Insts.{Listed, InstNode, free, ground, unique, dead, bound, Lists, AllowsSymbol}
use Rattle.mc_accepted.specs.Proper.{Unlisted, ListsOnce, ProperNode}
use Rattle.mc_insts.specs.declared.insts.Insts.{Insts}
use Rattle.mc_insts.specs.declared.graph.Case.{Case}
use Rattle.mc_insts.specs.declared.graph.Node.{Node}
use Rattle.mc_insts.specs.declared.graph.Node.TheVariants as N
use Rattle.mc_insts.specs.Graphs.{graph_of, count_of}
use Rattle.mc_insts.specs.Kept.{AreOf}
use Rattle.mc_insts.specs.Narrowed.{Narrowed}
use Rattle.mc_insts.specs.code.Functors.{Functor}
use Rattle.mc_insts.specs.code.Walks.{node_at}
use Rattle.mc_insts.specs.code.Shown.{plain_case, plain_node}

abbrev pub Below : ℕ → List ℕ → Type 0
Below top is = (k : ℕ) → k < length is → get_or is k 0 < top

abbrev EachListed : ℕ → List Listed → Type 0
EachListed top [] = Unit {0}
EachListed top (l ∷ ls) = Below top l.args × EachListed top ls

abbrev Closed : ℕ → InstNode → Type 0
Closed top (bound ls) = EachListed top ls
Closed top _ = Unit {0}

listed_closed : (fs : List Functor) (top : ℕ) (cs : List Case) → ((n : ℕ) (d : Case) → n < length cs → Below top (get_or cs n d).args) → EachListed top (map (plain_case fs) cs)
listed_closed fs top [] h = tt
listed_closed fs top (c ∷ cs) h = (h 0 c (omega arith), listed_closed fs top cs (λ n d lt. h (suc n) d (omega arith)))

node_closed : (fs : List Functor) (top : ℕ) (M : Node) → ((cs : List Case) → M ≡ N.Bound cs → EachListed top (map (plain_case fs) cs)) → Closed top (plain_node fs M)
node_closed fs top N.Free h = tt
node_closed fs top N.Ground h = tt
node_closed fs top N.Unique h = tt
node_closed fs top N.Dead h = tt
node_closed fs top (N.Bound cs) h = h cs refl

insts_closed : (P : Source) (I : Insts) → AreOf P I → (i : ℕ) → Closed (count_of I) (graph_of I i)
insts_closed P I of i =
    node_closed I.graph.functors (count_of I) (node_at I.graph.nodes i)
    (λ cs e. listed_closed I.graph.functors (count_of I) cs (λ n d lt. ((of.nodes i cs e).fitting n d lt).below))

get_replicate : (n i k : ℕ) → k < n → get_or (replicate n i) k 0 ≡ i
get_replicate zero i k h = absurd (omega arith)
get_replicate (suc n) i zero h = refl
get_replicate (suc n) i (suc k) h = get_replicate n i k (omega arith)

replicate_below : (top n i : ℕ) → i < top → Below top (replicate n i)
replicate_below top n i w k h =
    let l : length (replicate {A = ℕ} n i) ≡ n = length-replicate n i in
    subst (λ j. j < top) (sym (get_replicate n i k (omega arith))) w

listed_below : (P : Source) (top s : ℕ) (row : List ℕ) (ls : List Listed) → EachListed top ls → Lists P ls s (λ is. is ≡ row) → Below top row
listed_below P top s row [] w h = absurd h
listed_below P top s row (l ∷ ls) w h = ⊎_elim (λ a. subst (Below top) a.2 w.0) (λ b. listed_below P top s row ls w.1 b) h

allowed_below : (P : Source) (top s i : ℕ) (row : List ℕ) (M : InstNode) → i < top → Closed top M → AllowsSymbol P M i s (λ is. is ≡ row) → Below top row
allowed_below P top s i row free l c h = absurd h
allowed_below P top s i row ground l c h = subst (Below top) h (replicate_below top _ i l)
allowed_below P top s i row unique l c h = subst (Below top) h (replicate_below top _ i l)
allowed_below P top s i row dead l c h = subst (Below top) h (replicate_below top _ i l)
allowed_below P top s i row (bound ls) l c h = listed_below P top s row ls c h

pub narrowed-below : (P : Source) (I : Insts) (i s : ℕ) (row : List ℕ) → AreOf P I → i < count_of I → AllowsSymbol P (graph_of I i) i s (λ is. is ≡ row) → Below (count_of I) row
narrowed-below P I i s row of l h = allowed_below P (count_of I) s i row (graph_of I i) l (insts_closed P I of i) h

listed_many : (P : Source) (s : ℕ) (row : List ℕ) (ls : List Listed) → ListsOnce ls → Lists P ls s (λ is. is ≡ row) → length row ≡ (P.symbols s).name.arity
listed_many P s row [] w h = absurd h
listed_many P s row (l ∷ ls) w h = ⊎_elim (λ a. ap length (sym a.2) ∙ (w.0 ∙ a.1)) (λ b. listed_many P s row ls w.2 b) h

allowed_many : (P : Source) (s i : ℕ) (row : List ℕ) (M : InstNode) → ProperNode M → AllowsSymbol P M i s (λ is. is ≡ row) → length row ≡ (P.symbols s).name.arity
allowed_many P s i row free p h = absurd h
allowed_many P s i row ground p h = ap length (sym h) ∙ length-replicate _ i
allowed_many P s i row unique p h = ap length (sym h) ∙ length-replicate _ i
allowed_many P s i row dead p h = ap length (sym h) ∙ length-replicate _ i
allowed_many P s i row (bound ls) p h = listed_many P s row ls p h

pub narrowed-many : (P : Source) (I : Insts) (i s : ℕ) (row : List ℕ) → AreOf P I → AllowsSymbol P (graph_of I i) i s (λ is. is ≡ row) → length row ≡ (P.symbols s).name.arity
narrowed-many P I i s row of h = allowed_many P s i row (graph_of I i) (of.insts.proper i) h

-- what narrowing answers is determined
listed_one : (P : Source) (s : ℕ) (row other : List ℕ) (ls : List Listed) → ListsOnce ls → Lists P ls s (λ is. is ≡ row) → Lists P ls s (λ is. is ≡ other) → row ≡ other
listed_one P s row other [] w h g = absurd h
listed_one P s row other (l ∷ ls) w h g =
    ⊎_elim
    (λ a. ⊎_elim (λ c. sym a.2 ∙ c.2) (λ d. absurd (unlisted l ls s other a.0 a.1 w.1 d)) g)
    (λ b. ⊎_elim (λ c. absurd (unlisted l ls s row c.0 c.1 w.1 b)) (λ d. listed_one P s row other ls w.2 b d) g) h
  where
    unlisted : (l : Listed) (ks : List Listed) (s : ℕ) (is : List ℕ) → l.name ≡ (P.symbols s).name.bytes → l.arity ≡ (P.symbols s).name.arity → Unlisted l ks → Lists P ks s (λ js. js ≡ is) → ⊥
    unlisted l [] s is n m u d = d
    unlisted l (k ∷ ks) s is n m u d = ⊎_elim (λ c. u.0 (n ∙ sym c.0) (m ∙ sym c.1)) (λ e. unlisted l ks s is n m u.1 e) d

allowed_one : (P : Source) (s i : ℕ) (row other : List ℕ) (M : InstNode) → ProperNode M → AllowsSymbol P M i s (λ is. is ≡ row) → AllowsSymbol P M i s (λ is. is ≡ other) → row ≡ other
allowed_one P s i row other free p h g = absurd h
allowed_one P s i row other ground p h g = sym h ∙ g
allowed_one P s i row other unique p h g = sym h ∙ g
allowed_one P s i row other dead p h g = sym h ∙ g
allowed_one P s i row other (bound ls) p h g = listed_one P s row other ls p h g

listed_some : (P : Source) (s : ℕ) (row : List ℕ) (ls : List Listed) → Lists P ls s (λ is. is ≡ row) → Lists P ls s (λ is. Unit {0})
listed_some P s row [] h = absurd h
listed_some P s row (l ∷ ls) h = ⊎_elim (λ a. inl (a.0, a.1, tt)) (λ b. inr (listed_some P s row ls b)) h

allowed_some : (P : Source) (s i : ℕ) (row : List ℕ) (M : InstNode) → AllowsSymbol P M i s (λ is. is ≡ row) → AllowsSymbol P M i s (λ is. Unit {0})
allowed_some P s i row free h = absurd h
allowed_some P s i row ground h = tt
allowed_some P s i row unique h = tt
allowed_some P s i row dead h = tt
allowed_some P s i row (bound ls) h = listed_some P s row ls h

pub narrowed-one : (P : Source) (I : Insts) (i s : ℕ) (o u : Option (List ℕ)) → AreOf P I → Narrowed P (graph_of I) i s o → Narrowed P (graph_of I) i s u → o ≡ u
narrowed-one P I i s None None of h g = refl
narrowed-one P I i s None (Some row) of h g = absurd (h (allowed_some P s i row (graph_of I i) g))
narrowed-one P I i s (Some row) None of h g = absurd (g (allowed_some P s i row (graph_of I i) h))
narrowed-one P I i s (Some row) (Some other) of h g = ap Some (allowed_one P s i row other (graph_of I i) (of.insts.proper i) h g)

-- Where a graph grows, older insts lead to older ones, and stay tidy.
use Rattle.std.proofs.Common.{◌≡◌, inl, inr, ℕ, zero, suc, ◌<◌, List, [], ◌∷◌, length, get_or, map, replicate, Option, Some, None, refl, sym, ◌∙◌, subst, arith, ⊎_elim}
use Rattle.std.proofs.lemmas.List.{length-replicate}
use Rattle.mc_program.specs.Programs.{TypeTerm, variable_type, Source}
use Rattle.mc_model.specs.Types.{argument_types}
use Rattle.mc_model.specs.Insts.{Listed, InstNode, free, ground, unique, dead, bound, Graph, Lists, AllowsSymbol}
use Rattle.mc_accepted.specs.Inclusion.{Path, OnTypes}
use Rattle.mc_accepted.specs.Tidy.{Leads, Tidy, EachTidy}
use Rattle.mc_insts.specs.declared.insts.Insts.{Insts}
use Rattle.mc_insts.specs.declared.graph.Case.{Case}
use Rattle.mc_insts.specs.declared.graph.Node.{Node}
use Rattle.mc_insts.specs.declared.graph.Node.TheVariants as N
use Rattle.mc_insts.specs.Graphs.{graph_of, count_of}
use Rattle.mc_insts.specs.Growing.{Grown}
use Rattle.mc_insts.specs.Kept.{AreOf}
use Rattle.mc_insts.specs.code.Functors.{Functor}
use Rattle.mc_insts.specs.code.Walks.{node_at}
use Rattle.mc_insts.specs.code.Shown.{plain_case, plain_node}
use Rattle.mc_procs.specs.Named.{NumbersBelow}

-- the arguments of what is listed are below a number
abbrev Below : ℕ → List ℕ → Type 0
Below top is = (k : ℕ) → k < length is → get_or is k 0 < top

abbrev EachListed : ℕ → List Listed → Type 0
EachListed top [] = Unit {0}
EachListed top (l ∷ ls) = Below top l.args × EachListed top ls

abbrev Closed : ℕ → InstNode → Type 0
Closed top (bound ls) = EachListed top ls
Closed top _ = Unit {0}

-- the insts of a program are closed
listed_closed : (fs : List Functor) (top : ℕ) (cs : List Case) → ((n : ℕ) (d : Case) → n < length cs → Below top (get_or cs n d).args) → EachListed top (map (plain_case fs) cs)
listed_closed fs top [] h = tt
listed_closed fs top (c ∷ cs) h =
    (h 0 c (omega arith), listed_closed fs top cs (λ n d lt. h (suc n) d (omega arith)))

node_closed : (fs : List Functor) (top : ℕ) (M : Node) → ((cs : List Case) → M ≡ N.Bound cs → EachListed top (map (plain_case fs) cs)) → Closed top (plain_node fs M)
node_closed fs top N.Free h = tt
node_closed fs top N.Ground h = tt
node_closed fs top N.Unique h = tt
node_closed fs top N.Dead h = tt
node_closed fs top (N.Bound cs) h = h cs refl

insts_closed : (P : Source) (I : Insts) → AreOf P I → (i : ℕ) → Closed (count_of I) (graph_of I i)
insts_closed P I of i =
    node_closed I.graph.functors (count_of I) (node_at I.graph.nodes i)
    (λ cs e. listed_closed I.graph.functors (count_of I) cs (λ n d lt. ((of.nodes i cs e).fitting n d lt).below))

-- what holds of the arguments that a closed node allows a symbol with
get_replicate : (n i k : ℕ) → k < n → get_or (replicate n i) k 0 ≡ i
get_replicate zero i k h = absurd (omega arith)
get_replicate (suc n) i zero h = refl
get_replicate (suc n) i (suc k) h = get_replicate n i k (omega arith)

replicate_below : (top n i : ℕ) → i < top → Below top (replicate n i)
replicate_below top n i w k h =
    let l : length (replicate {A = ℕ} n i) ≡ n = length-replicate n i in
    subst (λ j. j < top) (sym (get_replicate n i k (omega arith))) w

lists_on : (P : Source) (top s : ℕ) (Q R : List ℕ → Type 0) → ((is : List ℕ) → Below top is → Q is → R is) → (ls : List Listed) → EachListed top ls → Lists P ls s Q → Lists P ls s R
lists_on P top s Q R g [] w h = absurd h
lists_on P top s Q R g (l ∷ ls) w h =
    ⊎_elim (λ a. inl (a.0, a.1, g l.args w.0 a.2)) (λ b. inr (lists_on P top s Q R g ls w.1 b)) h

allows_on : (P : Source) (top s i : ℕ) (Q R : List ℕ → Type 0) → i < top → ((is : List ℕ) → Below top is → Q is → R is) → (M : InstNode) → Closed top M → AllowsSymbol P M i s Q → AllowsSymbol P M i s R
allows_on P top s i Q R w g free c h = h
allows_on P top s i Q R w g ground c h = g _ (replicate_below top _ i w) h
allows_on P top s i Q R w g unique c h = g _ (replicate_below top _ i w) h
allows_on P top s i Q R w g dead c h = g _ (replicate_below top _ i w) h
allows_on P top s i Q R w g (bound ls) c h = lists_on P top s Q R g ls c h

on_types : (o : Option (List TypeTerm)) (Q R : List TypeTerm → Type 0) → ((ts : List TypeTerm) → Q ts → R ts) → OnTypes o Q → OnTypes o R
on_types None Q R f h = h
on_types (Some ts) Q R f h = f ts h

lists_any : (P : Source) (ls : List Listed) (s : ℕ) (X : Type 0) → Lists P ls s (λ is. X) → X
lists_any P [] s X h = absurd h
lists_any P (l ∷ ls) s X h = ⊎_elim (λ a. a.2) (λ b. lists_any P ls s X b) h

allows_any : (P : Source) (M : InstNode) (i s : ℕ) (X : Type 0) → AllowsSymbol P M i s (λ is. X) → X
allows_any P free i s X h = absurd h
allows_any P ground i s X h = h
allows_any P unique i s X h = h
allows_any P dead i s X h = h
allows_any P (bound ls) i s X h = lists_any P ls s X h

on_any : (o : Option (List TypeTerm)) (X : Type 0) → OnTypes o (λ ts. X) → X
on_any None X h = absurd h
on_any (Some ts) X h = h

module _ (P : Source) (I J : Insts) (of : AreOf P I) (grown : Grown P I J) where
  abbrev Old : ℕ → Type 0
  Old i = i < count_of I

  abbrev Step : Graph → (s k : ℕ) → (ℕ → TypeTerm → Type 0) → ℕ → TypeTerm → Type 0
  Step G s k Z i t =
      OnTypes (argument_types P s t)
      (λ ts. AllowsSymbol P (G i) i s (λ is. (k < length is) × Z (get_or is k 0) (get_or ts k (variable_type 0))))

  -- a step from an older inst in the grown graph is one in the graph before it, to an older inst
  step_back : (s k i : ℕ) (t : TypeTerm) (Y Z : ℕ → TypeTerm → Type 0) → Old i → ((j : ℕ) (u : TypeTerm) → Old j → Y j u → Z j u) → Step (graph_of J) s k Y i t → Step (graph_of I) s k Z i t
  step_back s k i t Y Z w g h =
      on_types (argument_types P s t) _ _
      (λ ts. allows_on P (count_of I) s i _ _ w
      (λ is below q. (q.0, g (get_or is k 0) (get_or ts k (variable_type 0)) (below k q.0) q.1))
      (graph_of I i) (insts_closed P I of i))
      (subst (λ M. OnTypes (argument_types P s t) (λ ts. AllowsSymbol P M i s (λ is. (k < length is) × Y (get_or is k 0) (get_or ts k (variable_type 0))))) (grown.same i w) h)

  leads_old : (path : Path) (j : ℕ) (u : TypeTerm) (i : ℕ) (t : TypeTerm) → Old i → Leads P (graph_of J) path j u i t → Old j × Leads P (graph_of I) path j u i t
  leads_old [] j u i t w a = (subst (λ x. x < count_of I) a.0 w, a)
  leads_old ((s, k) ∷ path) j u i t w a =
      let both : Step (graph_of I) s k (λ x y. Old j × Leads P (graph_of I) path j u x y) i t =
      step_back s k i t (Leads P (graph_of J) path j u) _ w (λ x y v b. leads_old path j u x y v b) a in (
        on_any (argument_types P s t) (Old j)
            (on_types (argument_types P s t) _ _
            (λ ts h. allows_any P (graph_of I i) i s (Old j)
            (allows_on P (count_of I) s i _ _ w (λ is below q. q.1.0) (graph_of I i) (insts_closed P I of i) h)) both),
        on_types (argument_types P s t) _ _
            (λ ts h. allows_on P (count_of I) s i _ _ w (λ is below q. (q.0, q.1.1)) (graph_of I i) (insts_closed P I of i) h) both,
      )

  pub tidy_grown : (i : ℕ) (t : TypeTerm) → i < count_of I → Tidy P (graph_of I) i t → Tidy P (graph_of J) i t
  tidy_grown i t w tidy path j u l k =
      let x = leads_old path j u i t w l in
      tidy path j u x.1 (⊎_elim (λ y. inl (sym (grown.same j x.0) ∙ y)) (λ y. inr (sym (grown.same j x.0) ∙ y)) k)

  pub each_tidy_grown : (is : List ℕ) (ts : List TypeTerm) → NumbersBelow (count_of I) is → EachTidy P (graph_of I) is ts → EachTidy P (graph_of J) is ts
  each_tidy_grown [] ts w h = h
  each_tidy_grown (i ∷ is) [] w h = h
  each_tidy_grown (i ∷ is) (t ∷ ts) w h = (tidy_grown i t w.0 h.0, each_tidy_grown is ts w.1 h.1)

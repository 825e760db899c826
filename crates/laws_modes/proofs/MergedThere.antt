-- What was found to stand for insts is the merged one of tidy insts, in the graph as it is now.
use Rattle.std.proofs.Common.{◌≡◌, ◌≢◌, ◌⊎◌, inl, inr, ℕ, zero, suc, ◌<◌, Bool, true, false, List, [], ◌∷◌, length, get_or, refl, sym, ◌∙◌, subst, ⊎_elim, arith}
use Rattle.mc_program.specs.Programs.{TypeTerm, Source}
use Rattle.mc_model.specs.Insts.{InstNode, free, ground, unique, dead, bound, Graph, AllowsConstants}
use Rattle.mc_accepted.specs.Determined.{is_dead}
use Rattle.mc_accepted.specs.Fits.{FitsInsts}
use Rattle.mc_accepted.specs.Forms.{node_takes_constants}
use Rattle.mc_accepted.specs.Inclusion.{Path, Tip, Allows, AllFree, NoneIs, OneIsDead, NoneMore, LeastAbove, MergedNodes, Merged}
use Rattle.mc_accepted.specs.Tidy.{Tidy, EachIsTidy}
use Rattle.mc_accepted.specs.code.Truthful.{AllAre}
use Rattle.mc_insts.specs.declared.insts.Insts.{Insts}
use Rattle.mc_insts.specs.Graphs.{graph_of, count_of}
use Rattle.mc_insts.specs.Growing.{Grown}
use Rattle.mc_mode_state.specs.Nodes.{StoodFor}
use Rattle.laws_order.proofs.Arranging.{is-set, is-unset}

-- ---- what a node is
pub node-dies : (N : InstNode) → is_dead N ≡ true → N ≡ dead
node-dies free e = cc
node-dies ground e = cc
node-dies unique e = cc
node-dies dead e = refl
node-dies (bound ls) e = cc

pub node-lives : (N : InstNode) → is_dead N ≡ false → N ≢ dead
node-lives free e = λ q. cc
node-lives ground e = λ q. cc
node-lives unique e = λ q. cc
node-lives dead e = cc
node-lives (bound ls) e = λ q. cc

module _ (P : Source) (G : Graph) where
  pub node-takes : (N : InstNode) → node_takes_constants P G N ≡ true → AllowsConstants N
  node-takes free e = cc
  node-takes ground e = tt
  node-takes unique e = tt
  node-takes dead e = tt
  node-takes (bound ls) e = cc

  pub node-takes-not : (N : InstNode) → node_takes_constants P G N ≡ false → AllowsConstants N → ⊥
  node-takes-not free e a = a
  node-takes-not ground e a = cc
  node-takes-not unique e a = cc
  node-takes-not dead e a = cc
  node-takes-not (bound ls) e a = a

-- only the first node is free
pub not-free : (G : Graph) → FitsInsts G → (i : ℕ) → i ≢ 0 → G i ≢ free
not-free G fits zero n e = n refl
not-free G fits (suc zero) n e = (let f : ground ≡ free = sym fits.is_ground ∙ e in cc)
not-free G fits (suc (suc zero)) n e = (let f : unique ≡ free = sym fits.is_unique ∙ e in cc)
not-free G fits (suc (suc (suc zero))) n e = (let f : dead ≡ free = sym fits.is_dead ∙ e in cc)
not-free G fits (suc (suc (suc (suc i)))) n e = (let b = fits.are_bound i in let f : bound b.0 ≡ free = sym b.1 ∙ e in cc)

-- ---- as the graph grows
module _ (P : Source) (I J : Insts) (grown : Grown P I J) where
  abbrev G : Graph
  G = graph_of I

  abbrev H : Graph
  H = graph_of J

  abbrev pub Old : List ℕ → Type 0
  Old is = (n : ℕ) → n < length is → get_or is n 0 < count_of I

  pub rest : (i : ℕ) (is : List ℕ) → Old (i ∷ is) → Old is
  rest i is o n lt = o (suc n) (omega (arith, lt))

  pub head-old : (i : ℕ) (is : List ℕ) → Old (i ∷ is) → i < count_of I
  head-old i is o = o 0 (omega arith)

  pub tidies-back : (is : List ℕ) (t : TypeTerm) → Old is → EachIsTidy P H is t → EachIsTidy P G is t
  tidies-back [] t o h = tt
  tidies-back (i ∷ is) t o h = ((grown.tidy i (head-old i is o) t).1 h.0, tidies-back is t (rest i is o) h.1)

  free-on : (is : List ℕ) → Old is → AllFree G is → AllFree H is
  free-on [] o h = tt
  free-on (i ∷ is) o h = (grown.same i (head-old i is o) ∙ h.0, free-on is (rest i is o) h.1)

  none-on : (N : InstNode) (is : List ℕ) → Old is → NoneIs N G is → NoneIs N H is
  none-on N [] o h = tt
  none-on N (i ∷ is) o h = ((λ e. h.0 (sym (grown.same i (head-old i is o)) ∙ e)), none-on N is (rest i is o) h.1)

  dead-on : (is : List ℕ) → Old is → OneIsDead G is → OneIsDead H is
  dead-on [] o h = h
  dead-on (i ∷ is) o h = ⊎_elim (λ a. inl (grown.same i (head-old i is o) ∙ a)) (λ b. inr (dead-on is (rest i is o) b)) h

  pub above-on : (is : List ℕ) (k : ℕ) (t : TypeTerm) → Old is → k < count_of I → NoneMore P G is G k t → NoneMore P H is H k t
  above-on [] k t o w h = tt
  above-on (i ∷ is) k t o w h = ((λ path e a. (grown.meaning k w path e t).0 (h.0 path e ((grown.meaning i (head-old i is o) path e t).1 a))), above-on is k t (rest i is o) w h.1)

  above-back : (is : List ℕ) (K : Graph) (k : ℕ) (t : TypeTerm) → Old is → NoneMore P H is K k t → NoneMore P G is K k t
  above-back [] K k t o h = tt
  above-back (i ∷ is) K k t o h = ((λ path e a. h.0 path e ((grown.meaning i (head-old i is o) path e t).0 a)), above-back is K k t (rest i is o) h.1)

  least-on : (is : List ℕ) (k : ℕ) (t : TypeTerm) → Old is → k < count_of I → LeastAbove P G is k t → LeastAbove P H is k t
  least-on is k t o w l = record {
    above = above-on is k t o w l.above;
    least = λ K sound h more path e a. l.least K sound h (above-back is K h t o more) path e ((grown.meaning k w path e t).1 a);
  }

  nodes-on : (is : List ℕ) (k : ℕ) (t : TypeTerm) (N : InstNode) → Old is → k < count_of I → MergedNodes G is N (LeastAbove P G is k t) → MergedNodes H is N (LeastAbove P H is k t)
  nodes-on is k t free o w h = free-on is o h
  nodes-on is k t dead o w h = (none-on free is o h.0, dead-on is o h.1)
  nodes-on is k t ground o w h = (none-on free is o h.0, none-on dead is o h.1, least-on is k t o w h.2)
  nodes-on is k t unique o w h = (none-on free is o h.0, none-on dead is o h.1, least-on is k t o w h.2)
  nodes-on is k t (bound ls) o w h = (none-on free is o h.0, none-on dead is o h.1, least-on is k t o w h.2)

  merged-on : (is : List ℕ) (k : ℕ) (t : TypeTerm) → Old is → k < count_of I → Merged P G is k t → Merged P H is k t
  merged-on is k t o w m =
      subst (λ N. MergedNodes H is N (LeastAbove P H is k t)) (sym (grown.same k w))
      (nodes-on is k t (G k) o w m)

  all-set : FitsInsts H → (is : List ℕ) → Old is → AllAre true is → NoneIs free G is
  all-set fits [] o a = tt
  all-set fits (i ∷ is) o a = ((λ e. not-free H fits i (is-set i a.0) (grown.same i (head-old i is o) ∙ e)), all-set fits is (rest i is o) a.1)

  all-unset : FitsInsts H → (is : List ℕ) → Old is → AllAre false is → AllFree G is
  all-unset fits [] o a = tt
  all-unset fits (i ∷ is) o a = (sym (grown.same i (head-old i is o)) ∙ subst (λ j. H j ≡ free) (sym (is-unset i a.0)) fits.is_free, all-unset fits is (rest i is o) a.1)

  even : FitsInsts H → (all : Bool) (is : List ℕ) → Old is → AllAre all is → AllFree G is ⊎ NoneIs free G is
  even fits true is o a = inr (all-set fits is o a)
  even fits false is o a = inl (all-unset fits is o a)

pub stood-merged : (P : Source) (I : Insts) → FitsInsts (graph_of I) → (is : List ℕ) (k : ℕ) (t : TypeTerm) (all : Bool) → StoodFor P I is k t → AllAre all is → EachIsTidy P (graph_of I) is t → Merged P (graph_of I) is k t × Tidy P (graph_of I) k t
stood-merged P I fits is k t all s are tidy =
    let m = s.stands.tidily (tidies-back P s.before I s.grown is t s.insts tidy) in
    (merged-on P s.before I s.grown is k t s.insts s.there (m.merged (even P s.before I s.grown fits all is s.insts are)), (s.grown.tidy k s.there t).0 m.tidy)

-- Functions that look for nodes of a graph, and tell the truth of them.
use Rattle.std.proofs.Common.{◌≡◌, ◌≢◌, ℕ, ◌<◌, Bool, List, [], ◌∷◌, length, map, Some, refl, sym, ◌∙◌, subst, ⊎_elim, inl, inr, arith}
use Rattle.mc_program.specs.Programs.{TypeTerm, Source}
use Rattle.mc_program.specs.PlainPrograms.{plain_symbol}
use Rattle.mc_model.specs.Insts.{InstNode, free, ground, unique, dead, bound, Graph}
use Rattle.mc_accepted.specs.NodeOracle.{NodeOracle}
use Rattle.mc_accepted.specs.Forms.{Form}
use Rattle.mc_accepted.specs.InOrder.{Tells}
use Rattle.mc_accepted.specs.Inclusion.{Path, Tip, AllFree, NoneIs, LeastAbove, MergedNodes}
use Rattle.mc_accepted.specs.Tidy.{EachIsTidy}
use Rattle.mc_insts.specs.declared.insts.Insts.{Insts}
use Rattle.mc_insts.specs.Graphs.{graph_of, count_of}
use Rattle.mc_insts.specs.Growing.{Grown}
use Rattle.mc_insts.specs.Merging.{OneAllows}
use Rattle.mc_procs.specs.Named.{NumbersBelow}
use Rattle.mc_procs.specs.Procedures.{PlainProcs, source_of, insts_of}
use Rattle.mc_mode_state.specs.Nodes.{type_in, StoodFor}
use Rattle.mc_mode_state.specs.Agreeing.{OracleAgrees, StateInvariant}
use Rattle.mc_mode_state.specs.declared.state.State.{State}
use Rattle.laws_order.specs.SomeTest.{SomeTestTells, NodesAreTold}
use Rattle.laws_modes.proofs.ChosenNodes.{insts-end, symbols-end, choice, choice-agrees, choice-below, choice-stood}
use Rattle.laws_modes.proofs.MergedThere.{Old, rest, head-old, tidies-back, above-on}
use Rattle.laws_graphs.specs.Related.{Below}
use Rattle.laws_graphs.specs.Nodes.{Joined, Finds}
use Rattle.laws_one_answer.specs.FoundNodes.{joins_some, FoundNodes}

-- ---- what one node stands for is joined, in the graph as it is now
module _ (P : Source) (I J : Insts) (grown : Grown P I J) where
  free-back : (is : List ℕ) → Old P I J grown is → AllFree (graph_of J) is → AllFree (graph_of I) is
  free-back [] o h = tt
  free-back (i ∷ is) o h = (sym (grown.same i (head-old P I J grown i is o)) ∙ h.0, free-back is (rest P I J grown i is o) h.1)

  none-back : (is : List ℕ) → Old P I J grown is → NoneIs free (graph_of J) is → NoneIs free (graph_of I) is
  none-back [] o h = tt
  none-back (i ∷ is) o h = ((λ e. h.0 (grown.same i (head-old P I J grown i is o) ∙ e)), none-back is (rest P I J grown i is o) h.1)

  one-on : (is : List ℕ) (path : Path) (e : Tip) (t : TypeTerm) → Old P I J grown is → OneAllows P (graph_of I) is path e t → OneAllows P (graph_of J) is path e t
  one-on [] path e t o h = h
  one-on (i ∷ is) path e t o h =
      ⊎_elim (λ a. inl ((grown.meaning i (head-old P I J grown i is o) path e t).0 a))
      (λ b. inr (one-on is path e t (rest P I J grown i is o) b)) h

all-are-free : (G : Graph) (i : ℕ) (is : List ℕ) (N : InstNode) (Q : Type 0) → MergedNodes G (i ∷ is) N Q → AllFree G (i ∷ is) → N ≡ free
all-are-free G i is free Q m all = refl
all-are-free G i is dead Q m all = absurd (m.0.0 all.0)
all-are-free G i is ground Q m all = absurd (m.0.0 all.0)
all-are-free G i is unique Q m all = absurd (m.0.0 all.0)
all-are-free G i is (bound ls) Q m all = absurd (m.0.0 all.0)

none-is-free : (G : Graph) (i : ℕ) (is : List ℕ) (N : InstNode) (Q : Type 0) → MergedNodes G (i ∷ is) N Q → NoneIs free G (i ∷ is) → N ≢ free
none-is-free G i is free Q m none = λ e. none.0 m.0
none-is-free G i is dead Q m none = λ e. cc
none-is-free G i is ground Q m none = λ e. cc
none-is-free G i is unique Q m none = λ e. cc
none-is-free G i is (bound ls) Q m none = λ e. cc

pub stood-joined : (P : Source) (I : Insts) (i k : ℕ) (is : List ℕ) (t : TypeTerm) → StoodFor P I (i ∷ is) k t → EachIsTidy P (graph_of I) (i ∷ is) t → Joined P (graph_of I) (i ∷ is) k t
stood-joined P I i k is t s tidy =
    let B = graph_of s.before in
    let m = s.stands.tidily (tidies-back P s.before I s.grown (i ∷ is) t s.insts tidy) in
    record {
      above = above-on P s.before I s.grown (i ∷ is) k t s.insts s.there s.stands.least.above;
      exact = λ path e a. one-on P s.before I s.grown (i ∷ is) path e t s.insts (m.exact path e ((s.grown.meaning k s.there path e t).1 a));
      tidy = (s.grown.tidy k s.there t).0 m.tidy;
      all_free = λ all.
          let before = free-back P s.before I s.grown (i ∷ is) s.insts all in
          s.grown.same k s.there ∙ all-are-free B i is (B k) (LeastAbove P B (i ∷ is) k t) (m.merged (inl before)) before;
      none_free = λ none e.
          let before = none-back P s.before I s.grown (i ∷ is) s.insts none in
          none-is-free B i is (B k) (LeastAbove P B (i ∷ is) k t) (m.merged (inr before)) before (sym (s.grown.same k s.there) ∙ e);
    }

-- ---- the functions
pub in-numbers : (n : ℕ) (xs : List ℕ) → NumbersBelow n xs → Below n xs
in-numbers n [] h x i = absurd i
in-numbers n (y ∷ ys) h x i = ⊎_elim (λ e. subst (λ z. z < n) (sym e) h.0) (λ j. in-numbers n ys h.1 x j) i

module _ (q : PlainProcs) (s : State) (stands : StateInvariant q s) (fits : Form → ℕ → TypeTerm → Bool) (tells : Tells (source_of q) (insts_of q) fits) (told : NodesAreTold) where
  abbrev chosen : NodeOracle
  chosen = choice q s stands fits tells told

  agrees : OracleAgrees q s chosen (type_in s.types.items)
  agrees = choice-agrees q s stands fits tells told (type_in s.types.items) (λ x lt. refl)

  joined : (t : TypeTerm) (k : ℕ) (is : List ℕ) → EachIsTidy (source_of q) (insts_of q) is t → (joins_some chosen).joined t is ≡ Some k → (k < count_of q.insts) × Joined (source_of q) (insts_of q) is k t
  joined t k [] tidy e = cc
  joined t k (i ∷ is) tidy e =
      let stood = choice-stood q s stands fits tells told t (i ∷ is) k e in
      let a = stood.there in
      let b = stood.grown.more in
      (omega (arith, a, b), stood-joined (source_of q) q.insts i k is t stood tidy)

  finds : Finds (source_of q) (count_of q.insts) (insts_of q) (joins_some chosen)
  finds =
      record {
        some = stands.fit.program.insts_are.builtins.many;
        insts = stands.fit.program.insts_are.insts;
        dies = λ i lt. refl;
        constants = λ i lt. refl;
        narrowed = agrees.narrowed;
        closed = λ i f is lt e. in-numbers (count_of q.insts) is ((choice-below q s stands fits tells told).narrowed i f is lt e);
        fits = agrees.fits;
        over = λ f k is e. stands.nodes.overs f k is e;
        joined = λ t k is below tidy e. joined t k is tidy e;
      }

pub found-nodes : SomeTestTells → NodesAreTold → FoundNodes
found-nodes tests told q s stands met =
    let some = tests (source_of q) (insts_of q) (count_of q.insts) (length (map plain_symbol q.program.symbols)) stands.fit.program.insts_are.insts (insts-end q s stands) (symbols-end q s stands) met in
    (chosen q s stands some.0 some.1 told, choice-agrees q s stands some.0 some.1 told, finds q s stands some.0 some.1 told)

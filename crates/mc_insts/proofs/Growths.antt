-- What an inst stands for, as the graph grows.
use Rattle.std.proofs.Common.{◌≡◌, inl, inr, ℕ, suc, ◌<◌, List, [], ◌∷◌, length, sym, ◌∙◌, arith, ⊎_elim}
use Rattle.mc_program.specs.Programs.{TypeTerm, Source}
use Rattle.mc_model.specs.Insts.{Graph}
use Rattle.mc_accepted.specs.Inclusion.{Tip, Path, AllFree, OneIsDead, NoneMore}
use Rattle.mc_insts.specs.declared.graph.Node.{Node}
use Rattle.mc_accepted.specs.Tidy.{EachIsTidy}
use Rattle.mc_insts.specs.Merging.{OneAllows}
use Rattle.mc_insts.specs.code.Lists.{Extends}
use Rattle.mc_insts.specs.code.Walks.{Scene, Proper}
use Rattle.mc_insts.specs.code.Shown.{plain_graph}
use Rattle.mc_insts.specs.code.TypeRows.{AllBelow}
use Rattle.mc_insts.specs.code.Answers.{Gathers}
use Rattle.mc_insts.proofs.Older.{kept, allows_on, allows_back, tidy_on, tidy_back}

module _ (C : Scene) (proper : Proper C) (P : Source) (after : List Node) (older : Extends C.nodes after) where
  abbrev G : Graph
  G = plain_graph C.functors C.nodes

  abbrev H : Graph
  H = plain_graph C.functors after

  abbrev Old : List ℕ → Type 0
  Old is = AllBelow (length C.nodes) is

  same : (i : ℕ) → i < length C.nodes → H i ≡ G i
  same = kept C proper P after older

  rest : (i : ℕ) (is : List ℕ) → Old (i ∷ is) → Old is
  rest i is h k w = h (suc k) (omega arith)

  free_on : (is : List ℕ) → Old is → AllFree G is → AllFree H is
  free_on [] o h = tt
  free_on (i ∷ is) o h = (same i (o 0 (omega arith)) ∙ h.0, free_on is (rest i is o) h.1)

  free_back : (is : List ℕ) → Old is → AllFree H is → AllFree G is
  free_back [] o h = tt
  free_back (i ∷ is) o h = (sym (same i (o 0 (omega arith))) ∙ h.0, free_back is (rest i is o) h.1)

  dead_on : (is : List ℕ) → Old is → OneIsDead G is → OneIsDead H is
  dead_on [] o h = h
  dead_on (i ∷ is) o h = ⊎_elim (λ a. inl (same i (o 0 (omega arith)) ∙ a)) (λ b. inr (dead_on is (rest i is o) b)) h

  dead_back : (is : List ℕ) → Old is → OneIsDead H is → OneIsDead G is
  dead_back [] o h = h
  dead_back (i ∷ is) o h = ⊎_elim (λ a. inl (sym (same i (o 0 (omega arith))) ∙ a)) (λ b. inr (dead_back is (rest i is o) b)) h

  module _ (t : TypeTerm) where
    above_on : (is : List ℕ) (k : ℕ) → Old is → k < length C.nodes → NoneMore P G is G k t → NoneMore P H is H k t
    above_on [] k o w h = tt
    above_on (i ∷ is) k o w h = (
      (λ path e a. allows_on C proper P after older path e k t w (h.0 path e (allows_back C proper P after older path e i t (o 0 (omega arith)) a))),
      above_on is k (rest i is o) w h.1,
    )

    above_back : (is : List ℕ) (K : Graph) (k : ℕ) → Old is → NoneMore P H is K k t → NoneMore P G is K k t
    above_back [] K k o h = tt
    above_back (i ∷ is) K k o h = ((λ path e a. h.0 path e (allows_on C proper P after older path e i t (o 0 (omega arith)) a)), above_back is K k (rest i is o) h.1)

    tidies_back : (is : List ℕ) → Old is → EachIsTidy P H is t → EachIsTidy P G is t
    tidies_back [] o h = tt
    tidies_back (i ∷ is) o h = (tidy_back C proper P after older i t (o 0 (omega arith)) h.0, tidies_back is (rest i is o) h.1)

    one_on : (is : List ℕ) (path : Path) (e : Tip) → Old is → OneAllows P G is path e t → OneAllows P H is path e t
    one_on [] path e o h = h
    one_on (i ∷ is) path e o h = ⊎_elim (λ a. inl (allows_on C proper P after older path e i t (o 0 (omega arith)) a)) (λ b. inr (one_on is path e (rest i is o) b)) h

    pub gathers_on : (is : List ℕ) (k : ℕ) → Old is → k < length C.nodes → Gathers P G is k t → Gathers P H is k t
    gathers_on is k o w g = record {
      least = record {
        above = above_on is k o w g.least.above;
        least = λ K sound h more path e a. g.least.least K sound h (above_back is K h o more) path e (allows_back C proper P after older path e k t w a);
      };
      free_to = λ h. same k w ∙ g.free_to (free_back is o h);
      free_from = λ e. free_on is o (g.free_from (sym (same k w) ∙ e));
      dead_to = λ h. same k w ∙ g.dead_to (dead_back is o h);
      dead_from = λ e a. dead_on is o (g.dead_from (sym (same k w) ∙ e) (record { graph = a.graph; proper = a.proper; inst = a.inst; lives = a.lives; above = above_back is a.graph a.inst o a.above }));
      dead_tidy = λ e h. dead_on is o (g.dead_tidy (sym (same k w) ∙ e) (tidies_back is o h));
      tidy = λ h. tidy_on C proper P after older k t w (g.tidy (tidies_back is o h));
      exact = λ h path e a. one_on is path e o (g.exact (tidies_back is o h) path e (allows_back C proper P after older path e k t w a));
    }

-- Answers of merges: an old node, or the nodes that are made.
use Rattle.std.proofs.Common.{◌≡◌, true, inl, inr, ℕ, ◌<◌, ◌+◌, ◌++◌, List, [], ◌∷◌, length, refl, sym, ap, ◌∙◌, subst, arith, length-append, ⊎_elim}
use Rattle.mc_program.specs.Programs.{TypeTerm, state_type, Source}
use Rattle.mc_model.specs.Types.{takes}
use Rattle.mc_model.specs.Insts.{Graph, dead}
use Rattle.mc_accepted.specs.Inclusion.{gone, state_tip, NoMore, LeastAbove}
use Rattle.mc_insts.specs.code.Functors.{Functor}
use Rattle.mc_insts.specs.declared.graph.InstGraph.{InstGraph}
use Rattle.mc_insts.specs.declared.graph.Shapes.{Shapes}
use Rattle.mc_insts.specs.declared.graph.Node.{Node}
use Rattle.mc_insts.specs.declared.graph.Node.TheVariants as N
use Rattle.mc_insts.specs.Merging.{LivesAbove, OneIncludesTheOther}
use Rattle.mc_insts.specs.code.Cases.{marks}
use Rattle.mc_insts.specs.code.Steps.{same_of}
use Rattle.mc_insts.specs.code.Walks.{Scene, scene, node_at, Under, Below, Within, Proper}
use Rattle.mc_insts.specs.code.Shown.{plain_node, plain_graph, Distinct, Kind, RowsAre}
use Rattle.mc_insts.specs.code.Merges.{Builtins, Made, Next, Clash, Refers}
use Rattle.mc_insts.specs.code.Answers.{Unkept, Gathers, IsMerge}
use Rattle.mc_insts.proofs.Growth.{extends_same}
use Rattle.mc_insts.proofs.Below.{below_under, below_dead}
use Rattle.mc_insts.proofs.Bridge.{more_by_paths, below_by_paths}
use Rattle.mc_insts.proofs.Nodes.{Inner, included_to}
use Rattle.mc_insts.proofs.Overs.{rank, rank_of, rank_to, rank_dead}
use Rattle.mc_insts.proofs.Gathering.{gathers_first, gathers_second}
use Rattle.mc_insts.proofs.Merged.{D, proper_made, stands_there, above_low, above_high, clash_none, exact, tidied, node_old, node_new}
use Rattle.mc_insts.proofs.Forming.{shown_free, shown_dead, formed_made}
use Rattle.mc_insts.proofs.LeastAbove.{least_there}

dead_marks : (M : Node) → marks M ≡ 3 → M ≡ N.Dead
dead_marks N.Free h = absurd (omega arith)
dead_marks N.Ground h = absurd (omega arith)
dead_marks N.Unique h = absurd (omega arith)
dead_marks N.Dead h = refl
dead_marks (N.Bound cs) h = absurd (omega arith)

-- a node that shows as `free` or `dead` is so
abbrev pub insts_of : List Functor → List Node → InstGraph
insts_of f ns = record { functors = f; nodes = ns }

same_insts : (f g : List Functor) (ns ms : List Node) → f ≡ g → ns ≡ ms → insts_of f ns ≡ insts_of g ms
same_insts f g ns ms p q = ap (λ x. insts_of x ns) p ∙ ap (λ x. insts_of g x) q

module _ (I : InstGraph) (shapes : Shapes) (i j r : ℕ) (proper : Proper (scene I shapes)) (distinct : Distinct I.functors) (builtins : Builtins I.nodes)
    (low : i < length I.nodes) (high : j < length I.nodes) (row : r < length shapes.rows) where
  abbrev C : Scene
  C = scene I shapes

  more : (a b : ℕ) → a < length I.nodes → b < length I.nodes → Below C (same_of a b r) → (P : Source) (type : ℕ → TypeTerm) → RowsAre P C type → NoMore P (plain_graph I.functors I.nodes) a b (type r)
  more a b v w h P type rows path e x = more_by_paths P C type proper distinct rows path e (same_of a b r) (record { low = v; high = w; row = row }) h x

  kept_second : Below C (same_of i j r) → (node_at I.nodes j ≡ N.Free → node_at I.nodes i ≡ N.Free) → (node_at I.nodes i ≡ N.Dead → node_at I.nodes j ≡ N.Dead) → IsMerge I I shapes (i ∷ j ∷ []) r j
  kept_second h f d = record {
    older = extends_same I.nodes;
    functors = refl;
    proper = proper;
    builtins = builtins;
    formed = λ f. f;
    there = high;
    gathers = λ P type rows. gathers_second P (plain_graph I.functors I.nodes) i j (type r) (more i j low high h P type rows)
        (λ e. ap (plain_node I.functors) (f (shown_free I.functors (node_at I.nodes j) e)))
        (λ e. ap (plain_node I.functors) (d (shown_dead I.functors (node_at I.nodes i) e)));
  }

  kept_first : Below C (same_of j i r) → (node_at I.nodes i ≡ N.Free → node_at I.nodes j ≡ N.Free) → (node_at I.nodes j ≡ N.Dead → node_at I.nodes i ≡ N.Dead) → IsMerge I I shapes (i ∷ j ∷ []) r i
  kept_first h f d = record {
    older = extends_same I.nodes;
    functors = refl;
    proper = proper;
    builtins = builtins;
    formed = λ f. f;
    there = low;
    gathers = λ P type rows. gathers_first P (plain_graph I.functors I.nodes) i j (type r) (more j i high low h P type rows)
        (λ e. ap (plain_node I.functors) (f (shown_free I.functors (node_at I.nodes i) e)))
        (λ e. ap (plain_node I.functors) (d (shown_dead I.functors (node_at I.nodes j) e)));
  }

  -- neither is included in the other then
  pub apart : Unkept C i j r → (P : Source) (type : ℕ → TypeTerm) → RowsAre P C type → OneIncludesTheOther P (plain_graph I.functors I.nodes) i j (type r) → ⊥
  apart u P type rows h =
      let m : Inner (node_at I.nodes i) = record { not_free = u.inner.first_free; not_dead = u.inner.first_dead } in
      let k : Inner (node_at I.nodes j) = record { not_free = u.inner.second_free; not_dead = u.inner.second_dead } in
      ⊎_elim
      (λ x. u.not_first (λ n. below_by_paths P C type proper distinct rows n (same_of i j r) (record { low = low; high = high; row = row }) (included_to I.functors (node_at I.nodes i) (node_at I.nodes j) _ m k x)))
      (λ x. u.not_second (λ n. below_by_paths P C type proper distinct rows n (same_of j i r) (record { low = high; high = low; row = row }) (included_to I.functors (node_at I.nodes j) (node_at I.nodes i) _ k m x)))
      h

  pub kept_high : Inner (node_at I.nodes i) → Inner (node_at I.nodes j) → Below C (same_of i j r) → IsMerge I I shapes (i ∷ j ∷ []) r j
  kept_high m k h = kept_second h (λ e. absurd (k.not_free e)) (λ e. absurd (m.not_dead e))

  pub kept_low : Inner (node_at I.nodes i) → Inner (node_at I.nodes j) → Below C (same_of j i r) → IsMerge I I shapes (i ∷ j ∷ []) r i
  kept_low m k h = kept_first h (λ e. absurd (m.not_free e)) (λ e. absurd (k.not_dead e))

  pub kept_free_low : node_at I.nodes i ≡ N.Free → IsMerge I I shapes (i ∷ j ∷ []) r j
  kept_free_low m =
      kept_second (below_under C i j r (subst (λ K. Under K (node_at I.nodes j)) (sym m) tt)) (λ e. m) (λ e. let x : N.Free ≡ N.Dead = sym m ∙ e in cc)

  pub kept_free_high : node_at I.nodes j ≡ N.Free → IsMerge I I shapes (i ∷ j ∷ []) r i
  kept_free_high k =
      kept_first (below_under C j i r (subst (λ K. Under K (node_at I.nodes i)) (sym k) tt)) (λ e. k) (λ e. let x : N.Free ≡ N.Dead = sym k ∙ e in cc)

  pub kept_dead_low : marks (node_at I.nodes i) ≡ 3 → IsMerge I I shapes (i ∷ j ∷ []) r i
  kept_dead_low m =
      let d = dead_marks (node_at I.nodes i) m in
      kept_first (λ k. below_dead C k i m j r) (λ e. let x : N.Dead ≡ N.Free = sym d ∙ e in cc) (λ e. d)

  pub kept_dead_high : marks (node_at I.nodes j) ≡ 3 → IsMerge I I shapes (i ∷ j ∷ []) r j
  kept_dead_high m =
      let d = dead_marks (node_at I.nodes j) m in
      kept_second (λ k. below_dead C k j m i r) (λ e. let x : N.Dead ≡ N.Free = sym d ∙ e in cc) (λ e. d)

  module _ (made : List Node) (k : ℕ) (m : Made C (same_of i j r) k made) (x : Inner (node_at I.nodes i)) (y : Inner (node_at I.nodes j)) where
    abbrev E : Scene
    E = D C proper made

    within : Within C (same_of i j r)
    within = record { low = low; high = high; row = row }

    first_inner : Inner (node_at E.nodes i)
    first_inner = subst Inner (sym (node_old C proper made i low)) x

    second_inner : Inner (node_at E.nodes j)
    second_inner = subst Inner (sym (node_old C proper made j high)) y

    -- what stands for them is not free
    next_used : (a : ℕ) → Next C a r k → node_at E.nodes k ≡ N.Free → ⊥
    next_used a n e =
        let many = builtins.many in
        ⊎_elim
        (λ h. let z : N.Ground ≡ N.Free = sym (ap (node_at E.nodes) h ∙ node_old C proper made 1 (omega arith) ∙ builtins.ground_there) ∙ e in cc)
        (λ h. let z : N.Dead ≡ N.Free = sym (ap (node_at E.nodes) h.0 ∙ node_old C proper made 3 many ∙ builtins.dead_there) ∙ e in cc)
        n

    used : Refers C m.seen (same_of i j r) k → node_at E.nodes k ≡ N.Free → ⊥
    used (inl d) e =
        ⊎_elim (λ h. first_inner.not_free (ap (node_at E.nodes) (sym h) ∙ e))
        (λ o. ⊎_elim (λ h. second_inner.not_free (ap (node_at E.nodes) (sym h) ∙ e)) (λ c. ⊎_elim (λ a. next_used j a.1 e) (λ a. next_used i a.1 e) c.1) o)
        d.which
    used (inr s) e =
        let g = m.merges s.0 (same_of i j r) s.1.0 in
        let z : N.Bound g.cases ≡ N.Free = sym (ap (node_at E.nodes) s.1.1 ∙ node_new C proper made s.0 ∙ g.is) ∙ e in
        cc

    -- and dead where they clash alone
    clash : Refers C m.seen (same_of i j r) k → node_at E.nodes k ≡ N.Dead → Clash C (same_of i j r) k
    clash (inl d) e =
        ⊎_elim (λ h. absurd (first_inner.not_dead (ap (node_at E.nodes) (sym h) ∙ e)))
        (λ o. ⊎_elim (λ h. absurd (second_inner.not_dead (ap (node_at E.nodes) (sym h) ∙ e))) (λ c. c) o)
        d.which
    clash (inr s) e =
        let g = m.merges s.0 (same_of i j r) s.1.0 in
        let z : N.Bound g.cases ≡ N.Dead = sym (ap (node_at E.nodes) s.1.1 ∙ node_new C proper made s.0 ∙ g.is) ∙ e in
        cc

    module _ (P : Source) (type : ℕ → TypeTerm) (rows : RowsAre P E type) where
      abbrev G : Graph
      G = plain_graph I.functors E.nodes

      up_low : NoMore P G i k (type r)
      up_low path e a =
          let z : length E.nodes ≡ length I.nodes + length made = length-append I.nodes made in
          more_by_paths P E type (proper_made C proper made (same_of i j r) k m) distinct rows path e (same_of i k r) (record { low = omega arith; high = stands_there C proper made (same_of i j r) k m; row = row })
          (λ n. above_low C proper made (same_of i j r) k m n (same_of i j r) k within m.refers) a

      up_high : NoMore P G j k (type r)
      up_high path e a =
          let z : length E.nodes ≡ length I.nodes + length made = length-append I.nodes made in
          more_by_paths P E type (proper_made C proper made (same_of i j r) k m) distinct rows path e (same_of j k r) (record { low = omega arith; high = stands_there C proper made (same_of i j r) k m; row = row })
          (λ n. above_high C proper made (same_of i j r) k m n (same_of i j r) k within m.refers) a

      least : LeastAbove P G (i ∷ j ∷ []) k (type r)
      least = record {
        above = (up_low, (up_high, tt));
        least = λ H sound h more path e a. least_there C proper made (same_of i j r) k m P type distinct rows H sound builtins path e (same_of i j r) k h within m.refers more.0 more.1.0 a;
      }

      dead_marked : (e : G k ≡ dead) → Clash C (same_of i j r) k
      dead_marked e = clash m.refers (shown_dead I.functors (node_at E.nodes k) e)

      -- no inst but `dead` is above them then
      dead_alone : G k ≡ dead → LivesAbove P G (i ∷ j ∷ []) (type r) → ⊥
      dead_alone e a =
          let kind = subst (λ R. Kind R (type r)) (dead_marked e).0 (rows r row).kind in
          let top : rank (G k) ≡ 3 = ap rank e in
          let b = least.least a.graph a.proper a.inst a.above [] (state_tip gone) (subst (λ u. takes state_type u ≡ true) (sym kind.1) refl, rank_to (G k) gone (omega arith)) in
          a.lives (rank_dead (a.graph a.inst) (rank_of (a.graph a.inst) gone b.1))

      pub gathers_made : Gathers P G (i ∷ j ∷ []) k (type r)
      gathers_made = record {
        least = least;
        free_to = λ h. absurd (first_inner.not_free (shown_free I.functors (node_at E.nodes i) h.0));
        free_from = λ e. absurd (used m.refers (shown_free I.functors (node_at E.nodes k) e));
        dead_to = λ h. absurd (⊎_elim (λ d. first_inner.not_dead (shown_dead I.functors (node_at E.nodes i) d))
            (λ o. ⊎_elim (λ d. second_inner.not_dead (shown_dead I.functors (node_at E.nodes j) d)) (λ z. z) o) h);
        dead_from = λ e a. absurd (dead_alone e a);
        dead_tidy = λ e h. absurd (clash_none C proper made (same_of i j r) k m P type distinct rows (same_of i j r) k within (dead_marked e) h.0 h.1.0);
        tidy = λ h path a v l. tidied C proper made (same_of i j r) k m P type distinct rows path a v (same_of i j r) k within m.refers h.0 h.1.0 l;
        exact = λ h path e a. ⊎_elim (λ b. inl b) (λ b. inr (inl b)) (exact C proper made (same_of i j r) k m P type distinct rows path e (same_of i j r) k within m.refers h.0 h.1.0 a);
      }

    at_end : IsMerge I (insts_of I.functors (I.nodes ++ made)) shapes (i ∷ j ∷ []) r k
    at_end =
        let z : length (I.nodes ++ made) ≡ length I.nodes + length made = length-append I.nodes made in
        record {
          older = record { more = made; is = refl };
          functors = refl;
          proper = proper_made C proper made (same_of i j r) k m;
          builtins = record {
            ground_there = let b = builtins.many in node_old C proper made 1 (omega arith) ∙ builtins.ground_there;
            dead_there = node_old C proper made 3 builtins.many ∙ builtins.dead_there;
            many = let b = builtins.many in omega arith;
          };
          formed = formed_made C made (same_of i j r) k m builtins;
          there = stands_there C proper made (same_of i j r) k m;
          gathers = gathers_made;
        }

    -- the graph with the nodes that are made
    pub grown : (after : InstGraph) → after.functors ≡ I.functors → after.nodes ≡ I.nodes ++ made → IsMerge I after shapes (i ∷ j ∷ []) r k
    grown after f n = subst (λ (a : InstGraph). IsMerge I a shapes (i ∷ j ∷ []) r k) (same_insts I.functors after.functors (I.nodes ++ made) after.nodes (sym f) (sym n)) at_end

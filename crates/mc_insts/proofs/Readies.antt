-- Insts between merges.
use Rattle.std.proofs.Common.{◌≡◌, ◌⊎◌, ◌↔◌, ◌+◌, ◌-◌, inl, inr, ℕ, zero, suc, ◌<◌, ◌≤◌, ◌++◌, List, [], ◌∷◌, length, get_or, take, drop, Result, Ok, Err, OnOk, OnErr, refl, sym, ap, ◌∙◌, subst, arith, ⊎_elim}
use Rattle.std.proofs.Math.Seq.{take-length}
use Rattle.std.proofs.lemmas.List.{take-append-drop, get_or-take, get_or-drop, length-take-le, length-drop}
use Rattle.mc_program.specs.Programs.{TypeTerm, variable_type, Source}
use Rattle.mc_model.specs.Insts.{Graph}
use Rattle.mc_accepted.specs.Inclusion.{Allows}
use Rattle.mc_accepted.specs.Tidy.{Tidy}
use Rattle.mc_insts.specs.declared.insts.Insts.{Insts}
use Rattle.mc_insts.specs.declared.graph.InstGraph.{InstGraph}
use Rattle.mc_insts.specs.declared.graph.Shapes.{Shapes}
use Rattle.mc_insts.specs.declared.graph.Node.{Node}
use Rattle.mc_insts.specs.declared.triples.Triple.{Triple}
use Rattle.mc_insts.specs.declared.types.TypeKey.{TypeKey}
use Rattle.mc_insts.specs.Graphs.{graph_of, count_of}
use Rattle.mc_insts.specs.Growing.{Grown}
use Rattle.mc_insts.specs.Kept.{AreOf}
use Rattle.mc_insts.specs.Merging.{StandsForAll, OneIncludesTheOther, EachIs}
use Rattle.mc_insts.specs.code.Functors.{Functor}
use Rattle.mc_insts.specs.code.Lists.{Extends}
use Rattle.mc_insts.specs.code.Walks.{scene, Proper}
use Rattle.mc_insts.specs.code.Shown.{plain_graph, Meant, RowsAre}
use Rattle.mc_insts.specs.code.TypeRows.{terms, term_at, AllBelow}
use Rattle.mc_insts.specs.code.Answers.{Gathers, IsMerge}
use Rattle.mc_insts.specs.code.Formed.{Formed}
use Rattle.mc_insts.specs.code.Merges.{Builtins}
use Rattle.mc_insts.specs.code.Steps.{same_of}
use Rattle.mc_insts.specs.code.Pairs.{Holds, Stood, PairIs, PairsAre}
use Rattle.mc_insts.specs.code.Ready.{Ready, Onward}
use Rattle.mc_insts.proofs.Growth.{extends_on, extends_same, extends_length, extends_get}
use Rattle.mc_insts.proofs.Gathering.{gathers_one, gathers_both, stands}
use Rattle.mc_insts.proofs.Growths.{gathers_on}
use Rattle.mc_insts.proofs.Forming.{formed_fits, fits_formed}
use Rattle.mc_insts.proofs.Kept.{insts_of}
use Rattle.mc_insts.proofs.Older.{kept, allows_on, allows_back, tidy_on, tidy_back}

-- rows don't speak of nodes
pub rows_on : (P : Source) (fs : List Functor) (ns ms : List Node) (shapes : Shapes) (type : ℕ → TypeTerm) → RowsAre P (scene (insts_of fs ns) shapes) type → RowsAre P (scene (insts_of fs ms) shapes) type
rows_on P fs ns ms shapes type rows r w =
    let x = rows r w in
    record {
      kind = x.kind;
      complete = λ s ts h. let y = x.complete s ts h in (y.0, meant_on r s ts y.0 y.1);
      sound = λ f h. let y = x.sound f h in (y.0, (y.1.0, (y.1.1.0, meant_on r y.0 y.1.0 f y.1.1.1)));
    }
  where
    meant_on : (r s : ℕ) (ts : List TypeTerm) (f : ℕ) → Meant P (scene (insts_of fs ns) shapes) type r s ts f → Meant P (scene (insts_of fs ms) shapes) type r s ts f
    meant_on r s ts f m = record { typed = m.typed; within = m.within; name = m.name; arity = m.arity; types = m.types }

below_two : (n i j : ℕ) → i < n → j < n → AllBelow n (i ∷ j ∷ [])
below_two n i j v w zero h = v
below_two n i j v w (suc zero) h = w
below_two n i j v w (suc (suc k)) h = absurd (omega arith)

-- an inst stands for these still, as nodes are added
pub stood_on : (P : Source) (I : InstGraph) (shapes : Shapes) (ts : List TypeTerm) (ms : List Node) (is : List ℕ) (r k : ℕ) → Proper (scene I shapes) → Extends I.nodes ms → AllBelow (length I.nodes) is → Stood P I ts is r k → Stood P (insts_of I.functors ms) ts is r k
stood_on P I shapes ts ms is r k proper older all s =
    let l = extends_length I.nodes ms older in
    let w = s.there in
    record { there = omega arith; gathers = gathers_on (scene I shapes) proper P ms older (term_at ts r) is k all s.there s.gathers }

pub pair_on : (P : Source) (I : InstGraph) (shapes : Shapes) (ts : List TypeTerm) (ms : List Node) (pair : Triple) (k : ℕ) → Proper (scene I shapes) → Extends I.nodes ms → PairIs P I ts pair k → PairIs P (insts_of I.functors ms) ts pair k
pair_on P I shapes ts ms pair k proper older p =
    let l = extends_length I.nodes ms older in
    let v = p.first in
    let w = p.second in
    record { first = omega arith; second = omega arith; row = p.row; stood = stood_on P I shapes ts ms (pair.low ∷ pair.high ∷ []) pair.row k proper older (below_two (length I.nodes) pair.low pair.high p.first p.second) p.stood }

-- the table stays right as types are added
pub pairs_typed : (P : Source) (I : InstGraph) (ts us : List TypeTerm) (pairs : List (Triple × ℕ)) → Extends ts us → PairsAre P I ts pairs → PairsAre P I us pairs
pairs_typed P I ts us pairs e h pair k a =
    let p = h pair k a in
    let l = extends_length ts us e in
    let w = p.row in
    record {
      first = p.first;
      second = p.second;
      row = omega arith;
      stood = record {
        there = p.stood.there;
        gathers = subst (λ t. Gathers P (plain_graph I.functors I.nodes) (pair.low ∷ pair.high ∷ []) k t) (sym (extends_get ts us pair.row (variable_type 0) e p.row)) p.stood.gathers;
      };
    }

abbrev pub with_graph : Insts → InstGraph → List (Triple × ℕ) → Insts
with_graph I g pairs = record { graph = g; symbols = I.symbols; types = I.types; shapes = I.shapes; pairs = pairs }

-- the graph's functors are those of another
same_graph : (fs : List Functor) (g : InstGraph) → g.functors ≡ fs → insts_of fs g.nodes ≡ g
same_graph fs g e = ap (λ f. insts_of f g.nodes) (sym e)

module _ (P : Source) (I : Insts) (ready : Ready P I) where
  pub ready_at : (ns : List Node) (pairs : List (Triple × ℕ)) → Extends I.graph.nodes ns → Proper (scene (insts_of I.graph.functors ns) I.shapes) → Builtins ns → (Formed I.graph.nodes → Formed ns)
      → ((pair : Triple) (k : ℕ) → Holds pairs pair k → Holds I.pairs pair k ⊎ PairIs P (insts_of I.graph.functors ns) (terms I.types) pair k) → Ready P (with_graph I (insts_of I.graph.functors ns) pairs)
  ready_at ns pairs older proper builtins formed new = record {
    of = record {
      fits = ready.of.fits;
      constructors = ready.of.constructors;
      shapes = ready.of.shapes;
      fewer = ready.of.fewer;
      distinct = ready.of.distinct;
      nodes = proper.nodes;
      builtins = builtins;
      insts = formed_fits (scene (insts_of I.graph.functors ns) I.shapes) (length ns) ready.of.distinct proper.nodes (formed (fits_formed I.graph.functors I.graph.nodes ready.of.insts));
      pairs = λ pair k h. ⊎_elim (λ old. pair_on P I.graph I.shapes (terms I.types) ns pair k ready.proper older (ready.of.pairs pair k old)) (λ p. p) (new pair k h);
    };
    proper = proper;
    rows = rows_on P I.graph.functors I.graph.nodes ns I.shapes (term_at (terms I.types)) ready.rows;
  }

  module _ (g : InstGraph) (i j r k : ℕ) (low : i < length I.graph.nodes) (high : j < length I.graph.nodes) (row : r < length I.shapes.rows) (m : IsMerge I.graph g I.shapes (i ∷ j ∷ []) r k) where
    pub rows_there : RowsAre P (scene g I.shapes) (term_at (terms I.types))
    rows_there =
        subst (λ (h : InstGraph). RowsAre P (scene h I.shapes) (term_at (terms I.types))) (same_graph I.graph.functors g m.functors)
        (rows_on P I.graph.functors I.graph.nodes g.nodes I.shapes (term_at (terms I.types)) ready.rows)

    pub stood_there : Stood P g (terms I.types) (i ∷ j ∷ []) r k
    stood_there = record { there = m.there; gathers = m.gathers P (term_at (terms I.types)) rows_there }

    pair_there : PairIs P g (terms I.types) (same_of i j r) k
    pair_there =
        let l = extends_length I.graph.nodes g.nodes m.older in
        let f = ready.of.fewer in
        record { first = omega arith; second = omega arith; row = omega arith; stood = stood_there }

    -- insts with a pair that was merged
    pub ready_pair : (pairs : List (Triple × ℕ)) → ((u : Triple) (n : ℕ) → Holds pairs u n → Holds I.pairs u n ⊎ ((u ≡ same_of i j r) × (n ≡ k))) → Ready P (with_graph I g pairs)
    ready_pair pairs new =
        let e = same_graph I.graph.functors g m.functors in
        subst (λ (h : InstGraph). Ready P (with_graph I h pairs)) e
        (ready_at g.nodes pairs m.older (subst (λ (h : InstGraph). Proper (scene h I.shapes)) (sym e) m.proper) m.builtins m.formed
        (λ u n h. ⊎_elim (λ old. inl old)
        (λ x. inr
        (subst (λ (h : InstGraph). PairIs P h (terms I.types) u n) (sym e)
        (subst (λ (v : Triple). PairIs P g (terms I.types) v n) (sym x.0) (subst (λ z. PairIs P g (terms I.types) (same_of i j r) z) (sym x.1) pair_there))))
        (new u n h)))

-- what was noted before
pub noted : (P : Source) (I : Insts) (i j r k : ℕ) → Ready P I → Holds I.pairs (same_of i j r) k → Stood P I.graph (terms I.types) (i ∷ j ∷ []) r k
noted P I i j r k ready h = (ready.of.pairs (same_of i j r) k h).stood

pub onward_same : (I : Insts) → Onward I I
onward_same I = record { older = extends_same I.graph.nodes; functors = refl; symbols = refl; types = refl; shapes = refl }

pub onward_on : (I J K : Insts) → Onward I J → Onward J K → Onward I K
onward_on I J K a b = record {
  older = extends_on I.graph.nodes J.graph.nodes K.graph.nodes a.older b.older;
  functors = b.functors ∙ a.functors;
  symbols = b.symbols ∙ a.symbols;
  types = b.types ∙ a.types;
  shapes = b.shapes ∙ a.shapes;
}

pub stood_onward : (P : Source) (I J : Insts) (is : List ℕ) (r k : ℕ) → Ready P I → Onward I J → AllBelow (length I.graph.nodes) is → Stood P I.graph (terms I.types) is r k → Stood P J.graph (terms J.types) is r k
stood_onward P I J is r k ready o all s =
    subst (λ (ks : List TypeKey). Stood P J.graph (terms ks) is r k) (sym o.types)
    (subst (λ (g : InstGraph). Stood P g (terms I.types) is r k) (same_graph I.graph.functors J.graph o.functors)
    (stood_on P I.graph I.shapes (terms I.types) J.graph.nodes is r k ready.proper o.older all s))

pub stood_one : (P : Source) (I : Insts) (i r : ℕ) → i < length I.graph.nodes → Stood P I.graph (terms I.types) (i ∷ []) r i
stood_one P I i r w = record { there = w; gathers = gathers_one P (plain_graph I.graph.functors I.graph.nodes) i (term_at (terms I.types) r) }

pub stood_both : (P : Source) (g : InstGraph) (us : List TypeTerm) (xs ys : List ℕ) (r i j k : ℕ) → Stood P g us xs r i → Stood P g us ys r j → Stood P g us (i ∷ j ∷ []) r k → Stood P g us (xs ++ ys) r k
stood_both P g us xs ys r i j k a b c = record { there = c.there; gathers = gathers_both P (plain_graph g.functors g.nodes) (term_at us r) xs ys i j k a.gathers b.gathers c.gathers }

pub below_more : (m n : ℕ) (is : List ℕ) → m ≤ n → AllBelow m is → AllBelow n is
below_more m n is le h k w = let x : get_or is k 0 < m = h k w in omega arith

pub below_take : (n half : ℕ) (is : List ℕ) → half ≤ length is → AllBelow n is → AllBelow n (take half is)
below_take n half is le h k w =
    let l = length-take-le half is le in
    subst (λ x. x < n) (sym (get_or-take half is k 0 (omega arith))) (h k (omega arith))

pub below_drop : (n half : ℕ) (is : List ℕ) → half ≤ length is → AllBelow n is → AllBelow n (drop half is)
below_drop n half is le h k w =
    let l = length-drop half is in
    subst (λ x. x < n) (sym (get_or-drop half is k 0)) (h (half + k) (omega arith))

pub take_rest : (n : ℕ) (xs : List ℕ) → take (length xs - n) (drop n xs) ≡ drop n xs
take_rest n xs = ap (λ m. take m (drop n xs)) (sym (length-drop n xs)) ∙ take-length (drop n xs)

-- each of a part is the inst that each of the whole is
pub each_take : (n i : ℕ) (is : List ℕ) → EachIs i is → EachIs i (take n is)
each_take zero i is h = tt
each_take (suc n) i [] h = tt
each_take (suc n) i (j ∷ is) h = (h.0, each_take n i is h.1)

pub each_drop : (n i : ℕ) (is : List ℕ) → EachIs i is → EachIs i (drop n is)
each_drop zero i is h = h
each_drop (suc n) i [] h = tt
each_drop (suc n) i (j ∷ is) h = each_drop n i is h.1

-- what the halves are merged to stands for all
pub stood_halves : (P : Source) (I I1 I2 I3 : Insts) (is : List ℕ) (half r i j k : ℕ) → half ≤ length is → AllBelow (length I.graph.nodes) is → Onward I I1 → Ready P I1 → Onward I1 I2 → Ready P I2 → Onward I2 I3
    → Stood P I1.graph (terms I1.types) (take half is) r i → Stood P I2.graph (terms I2.types) (drop half is) r j → Stood P I3.graph (terms I3.types) (i ∷ j ∷ []) r k → Stood P I3.graph (terms I3.types) is r k
stood_halves P I I1 I2 I3 is half r i j k le all o1 r1 o2 r2 o3 first second both =
    let l1 = extends_length I.graph.nodes I1.graph.nodes o1.older in
    let l2 = extends_length I1.graph.nodes I2.graph.nodes o2.older in
    let all1 = below_more (length I.graph.nodes) (length I1.graph.nodes) is l1 all in
    let all2 = below_more (length I1.graph.nodes) (length I2.graph.nodes) is l2 all1 in
    subst (λ (js : List ℕ). Stood P I3.graph (terms I3.types) js r k) (take-append-drop half is)
    (stood_both P I3.graph (terms I3.types) (take half is) (drop half is) r i j k
    (stood_onward P I1 I3 (take half is) r i r1 (onward_on I1 I2 I3 o2 o3) (below_take (length I1.graph.nodes) half is le all1) first)
    (stood_onward P I2 I3 (drop half is) r j r2 o3 (below_drop (length I2.graph.nodes) half is le all2) second)
    both)

-- what the graph says of older nodes
pub grown_along : (P : Source) (I J : Insts) (shapes : Shapes) → Proper (scene I.graph shapes) → Extends I.graph.nodes J.graph.nodes → J.graph.functors ≡ I.graph.functors → Grown P I J
grown_along P I J shapes proper older functors =
    let C = scene I.graph shapes in
    let ms = J.graph.nodes in
    let e : plain_graph I.graph.functors ms ≡ graph_of J = ap (λ f. plain_graph f ms) (sym functors) in
    record {
      more = extends_length I.graph.nodes ms older;
      same = λ i w. subst (λ (G : Graph). G i ≡ graph_of I i) e (kept C proper P ms older i w);
      meaning = λ i w path tip t.
          subst (λ (G : Graph). Allows P (graph_of I) path tip i t ↔ Allows P G path tip i t) e
          (allows_on C proper P ms older path tip i t w, allows_back C proper P ms older path tip i t w);
      tidy = λ i w t. subst (λ (G : Graph). Tidy P (graph_of I) i t ↔ Tidy P G i t) e (tidy_on C proper P ms older i t w, tidy_back C proper P ms older i t w);
    }

pub grown : (P : Source) (I0 I J : Insts) → I.graph ≡ I0.graph → Ready P I → Onward I J → Grown P I0 J
grown P I0 I J e ready o =
    grown_along P I0 J I.shapes (subst (λ (g : InstGraph). Proper (scene g I.shapes)) e ready.proper) (subst (λ (g : InstGraph). Extends g.nodes J.graph.nodes) e o.older) (o.functors ∙ ap (λ (g : InstGraph). g.functors) e)

pub grown_same : (P : Source) (I J : Insts) → J.graph ≡ I.graph → Grown P I J
grown_same P I J e = record {
  more = let x : length J.graph.nodes ≡ length I.graph.nodes = ap (λ (g : InstGraph). length g.nodes) e in omega arith;
  same = λ i w. ap (λ (g : InstGraph). plain_graph g.functors g.nodes i) e;
  meaning = λ i w path tip t.
      subst (λ (G : Graph). Allows P (graph_of I) path tip i t ↔ Allows P G path tip i t) (sym (ap (λ (g : InstGraph). plain_graph g.functors g.nodes) e)) ((λ a. a), (λ a. a));
  tidy = λ i w t. subst (λ (G : Graph). Tidy P (graph_of I) i t ↔ Tidy P G i t) (sym (ap (λ (g : InstGraph). plain_graph g.functors g.nodes) e)) ((λ a. a), (λ a. a));
}

-- the nodes that were added are dropped
pub back_graph : (I J : InstGraph) (ns : List Node) → Extends I.nodes ns → J.nodes ≡ take (length I.nodes) ns → J.functors ≡ I.functors → J ≡ I
back_graph I J ns older nodes functors =
    ap (λ f. insts_of f J.nodes) functors ∙ ap (λ ms. insts_of I.functors ms) (nodes ∙ ap (take (length I.nodes)) older.is ∙ take_front I.nodes older.more)
  where
    take_front : (xs ys : List Node) → take (length xs) (xs ++ ys) ≡ xs
    take_front [] ys = refl
    take_front (x ∷ xs) ys = ap (λ zs. x ∷ zs) (take_front xs ys)

-- without the table
cleared : (P : Source) (I : Insts) → AreOf P I → AreOf P (with_graph I I.graph [])
cleared P I of = record {
  fits = of.fits;
  constructors = of.constructors;
  shapes = of.shapes;
  fewer = of.fewer;
  distinct = of.distinct;
  nodes = λ i cs e. let p = of.nodes i cs e in record { rising = p.rising; fitting = p.fitting };
  builtins = of.builtins;
  insts = of.insts;
  pairs = λ pair k h. absurd h;
}

pub forgotten : (P : Source) (I J : Insts) → AreOf P I → J.graph ≡ I.graph → J.symbols ≡ I.symbols → J.types ≡ I.types → J.shapes ≡ I.shapes → J.pairs ≡ [] → AreOf P J
forgotten P I J of g s t h p =
    subst (λ (K : Insts). AreOf P K)
    (sym
    (ap (λ x. with_graph J x J.pairs) g
    ∙ ap (λ x. record { graph = I.graph; symbols = x; types = J.types; shapes = J.shapes; pairs = J.pairs }) s
    ∙ ap (λ x. record { graph = I.graph; symbols = I.symbols; types = x; shapes = J.shapes; pairs = J.pairs }) t
    ∙ ap (λ x. record { graph = I.graph; symbols = I.symbols; types = I.types; shapes = x; pairs = J.pairs }) h
    ∙ ap (λ x. record { graph = I.graph; symbols = I.symbols; types = I.types; shapes = I.shapes; pairs = x }) p))
    (cleared P I of)

-- what a merge at a type's row answers of the type
pub answered : (P : Source) (I J : Insts) (is : List ℕ) (r k : ℕ) (t : TypeTerm) → Onward I J → term_at (terms I.types) r ≡ t → Stood P J.graph (terms J.types) is r k → StandsForAll P (graph_of J) is k t
answered P I J is r k t o e s =
    subst (λ u. StandsForAll P (graph_of J) is k u) (ap (λ (ks : List TypeKey). term_at (terms ks) r) o.types ∙ e) (stands P (graph_of J) is k (term_at (terms J.types) r) s.gathers)

pub same_graph_of : (I0 I J : Insts) → I.graph ≡ I0.graph → J ≡ I → graph_of J ≡ graph_of I0
same_graph_of I0 I J e f = ap graph_of f ∙ ap (λ (g : InstGraph). plain_graph g.functors g.nodes) e

pub same_count_of : (I0 I J : Insts) → I.graph ≡ I0.graph → J ≡ I → count_of J ≡ count_of I0
same_count_of I0 I J e f = ap count_of f ∙ ap (λ (g : InstGraph). length g.nodes) e

pub on_err : {A E : Type 0} (r : Result A E) (X Y : Type 0) → (X → Y) → OnErr r X → OnErr r Y
on_err (Ok a) X Y f h = tt
on_err (Err e) X Y f h = f h

pub on_err_always : {A E : Type 0} (r : Result A E) (Y : Type 0) → Y → OnErr r Y
on_err_always (Ok a) Y y = tt
on_err_always (Err e) Y y = y

pub on_ok : {A E : Type 0} (r : Result A E) (X Y : Type 0) → (X → Y) → OnOk r X → OnOk r Y
on_ok (Ok a) X Y f h = f h
on_ok (Err e) X Y f h = tt

pub kept_count : (P : Source) (I0 I J : Insts) (i j r : ℕ) (t : TypeTerm) → I.graph ≡ I0.graph → term_at (terms I.types) r ≡ t → (OneIncludesTheOther P (graph_of I) i j (term_at (terms I.types) r) → J.graph ≡ I.graph) → OneIncludesTheOther P (graph_of I0) i j t → count_of J ≡ count_of I0
kept_count P I0 I J i j r t e is kept h =
    let back : OneIncludesTheOther P (graph_of I) i j (term_at (terms I.types) r) =
    subst (λ (g : InstGraph). OneIncludesTheOther P (plain_graph g.functors g.nodes) i j (term_at (terms I.types) r)) (sym e) (subst (λ u. OneIncludesTheOther P (graph_of I0) i j u) (sym is) h) in
    ap (λ (g : InstGraph). length g.nodes) (kept back ∙ e)

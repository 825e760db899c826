-- Insts to which functors, and then nodes, are added.
use Rattle.std.proofs.Common.{◌≡◌, ◌↔◌, ℕ, suc, ◌+◌, ◌-◌, ◌<◌, ◌≤◌, ◌++◌, List, [], ◌∷◌, length, get_or, map, refl, sym, ap, ◌∙◌, subst, arith, length-append}
use Rattle.std.proofs.Math.Path.{fun_ext}
use Rattle.std.proofs.lemmas.List.{get_or_append_left, get_or-append-add}
use Rattle.mc_program.specs.Programs.{Source}
use Rattle.mc_model.specs.Insts.{Graph, bound}
use Rattle.mc_accepted.specs.Fits.{FitsInsts}
use Rattle.mc_accepted.specs.Inclusion.{Allows}
use Rattle.mc_accepted.specs.Tidy.{Tidy}
use Rattle.mc_insts.specs.declared.insts.Insts.{Insts}
use Rattle.mc_insts.specs.declared.graph.InstGraph.{InstGraph}
use Rattle.mc_insts.specs.declared.graph.Shapes.{Shapes}
use Rattle.mc_insts.specs.declared.graph.Case.{Case}
use Rattle.mc_insts.specs.declared.graph.Node.{Node}
use Rattle.mc_insts.specs.declared.graph.Node.TheVariants as N
use Rattle.mc_insts.specs.Graphs.{graph_of, count_of}
use Rattle.mc_insts.specs.Growing.{Grown}
use Rattle.mc_insts.specs.Kept.{AreOf}
use Rattle.mc_insts.specs.code.Formed.{AllFilled}
use Rattle.mc_insts.specs.code.Functors.{Functor}
use Rattle.mc_insts.specs.code.Lists.{Extends}
use Rattle.mc_insts.specs.code.Walks.{scene, node_at, functor_at, no_functor, Proper, ProperCases}
use Rattle.mc_insts.specs.code.Shown.{plain_case, plain_node, plain_graph, Distinct}
use Rattle.mc_insts.specs.code.Answers.{Gathers}
use Rattle.mc_insts.specs.code.TypeRows.{terms, term_at}
use Rattle.mc_insts.proofs.Forming.{formed_fits, fits_formed, formed_end}
use Rattle.mc_insts.proofs.Growth.{extends_get, extends_length, extends_same}
use Rattle.mc_insts.proofs.Mades.{get_past, none_proper}
use Rattle.mc_insts.proofs.Kept.{insts_of}
use Rattle.mc_insts.proofs.Found.{by_order}
use Rattle.mc_insts.proofs.Readies.{pair_on, grown_along, with_graph}

-- no rows of types: what is said of nodes alone needs none
abbrev pub no_shapes : Shapes
no_shapes = record { rows = []; known = 0 }

-- what the cases of a node ask of functors
abbrev pub AreProper : List Functor → (bound : ℕ) → List Case → Type 0
AreProper fs n cs = ProperCases (scene (insts_of fs []) no_shapes) n cs

cases_same : (fs gs : List Functor) (cs : List Case) → Extends fs gs → ((k : ℕ) (d : Case) → k < length cs → (get_or cs k d).functor < length fs) → map (plain_case gs) cs ≡ map (plain_case fs) cs
cases_same fs gs [] e h = refl
cases_same fs gs (c ∷ cs) e h =
    let w : c.functor < length fs = h 0 c (omega arith) in
    let q : functor_at gs c.functor ≡ functor_at fs c.functor = extends_get fs gs c.functor no_functor e w in
    let one : plain_case gs c ≡ plain_case fs c = ap (λ (f : Functor). record { name = f.name; arity = f.arity; args = c.args }) q in
    ap (λ l. l ∷ map (plain_case gs) cs) one ∙ ap (λ ls. plain_case fs c ∷ ls) (cases_same fs gs cs e (λ k d lt. h (suc k) d (omega arith)))

-- nodes show the same, as functors are added
graph_same : (fs gs : List Functor) (ns : List Node) → Extends fs gs → ((i : ℕ) (cs : List Case) → node_at ns i ≡ N.Bound cs → (k : ℕ) (d : Case) → k < length cs → (get_or cs k d).functor < length fs) → plain_graph gs ns ≡ plain_graph fs ns
graph_same fs gs ns e h = fun_ext (λ i. one (node_at ns i) (λ cs q. h i cs q))
  where
    one : (M : Node) → ((cs : List Case) → M ≡ N.Bound cs → (k : ℕ) (d : Case) → k < length cs → (get_or cs k d).functor < length fs) → plain_node gs M ≡ plain_node fs M
    one N.Free w = refl
    one N.Ground w = refl
    one N.Unique w = refl
    one N.Dead w = refl
    one (N.Bound cs) w = ap bound (cases_same fs gs cs e (w cs refl))

cases_more : (I J : InstGraph) (shapes : Shapes) (n m : ℕ) (cs : List Case) → Extends I.functors J.functors → n ≤ m → ProperCases (scene I shapes) n cs → ProperCases (scene J shapes) m cs
cases_more I J shapes n m cs e le p = record {
  rising = p.rising;
  fitting = λ k d lt.
      let f = p.fitting k d lt in
      let c : Case = get_or cs k d in
      let q = extends_get I.functors J.functors c.functor no_functor e f.functor in
      let l = extends_length I.functors J.functors e in
      let w = f.functor in
      record {
        functor = omega arith;
        args = f.args ∙ sym (ap (λ (g : Functor). g.arity) q);
        below = λ a lt. let x : get_or c.args a 0 < n = f.below a lt in omega arith;
      };
}

module _ (P : Source) (I : Insts) (of : AreOf P I) (fs : List Functor) (more : Extends I.graph.functors fs) (distinct : Distinct fs) where
  abbrev pub with_functors : Insts
  with_functors = with_graph I (insts_of fs I.graph.nodes) I.pairs

  pub shown_same : plain_graph fs I.graph.nodes ≡ graph_of I
  shown_same = graph_same I.graph.functors fs I.graph.nodes more (λ i cs q k d lt. ((of.nodes i cs q).fitting k d lt).functor)

  functor_same : (f : ℕ) → f < length I.graph.functors → functor_at fs f ≡ functor_at I.graph.functors f
  functor_same f w = extends_get I.graph.functors fs f no_functor more w

  pub functors_more : AreOf P with_functors
  functors_more = record {
    fits = of.fits;
    constructors = record {
      within = of.constructors.within;
      names = λ s. ap (λ (f : Functor). f.name) (functor_same _ (let w = of.constructors.within s in let l = of.constructors.enough in omega arith)) ∙ of.constructors.names s;
      arities = λ s. ap (λ (f : Functor). f.arity) (functor_same _ (let w = of.constructors.within s in let l = of.constructors.enough in omega arith)) ∙ of.constructors.arities s;
      back = of.constructors.back;
      enough = let l = of.constructors.enough in let m = extends_length I.graph.functors fs more in omega arith;
    };
    shapes = of.shapes;
    fewer = of.fewer;
    distinct = distinct;
    nodes = λ i cs e. cases_more I.graph (insts_of fs I.graph.nodes) I.shapes (length I.graph.nodes) (length I.graph.nodes) cs more (omega arith) (of.nodes i cs e);
    builtins = of.builtins;
    insts = subst FitsInsts (sym shown_same) of.insts;
    pairs = λ pair k h.
        let p = of.pairs pair k h in
        record {
          first = p.first;
          second = p.second;
          row = p.row;
          stood = record {
            there = p.stood.there;
            gathers = subst (λ (G : Graph). Gathers P G (pair.low ∷ pair.high ∷ []) k (term_at (terms I.types) pair.row)) (sym shown_same) p.stood.gathers;
          };
        };
  }

-- the nodes by themselves are proper
bare_proper : (P : Source) (I : Insts) → AreOf P I → Proper (scene I.graph no_shapes)
bare_proper P I of = record {
  nodes = λ i cs e. let p = of.nodes i cs e in record {
    rising = p.rising;
    fitting = λ k d lt. let f = p.fitting k d lt in record { functor = f.functor; args = f.args; below = f.below };
  };
  rows = λ r cs e. cc;
  known = omega arith;
}

module _ (P : Source) (I : Insts) (of : AreOf P I) (ms : List Node)
    (proper : (n : ℕ) → n < length ms → (cs : List Case) → node_at ms n ≡ N.Bound cs → AreProper I.graph.functors (length I.graph.nodes + length ms) cs)
    (bounds : (n : ℕ) → n < length ms → (cs : List Case) × (node_at ms n ≡ N.Bound cs)) (inside : (n : ℕ) (cs : List Case) → n < length ms → node_at ms n ≡ N.Bound cs → AllFilled cs) where
  abbrev all : List Node
  all = I.graph.nodes ++ ms

  abbrev pub with_nodes : Insts
  with_nodes = with_graph I (insts_of I.graph.functors all) I.pairs

  pub older : Extends I.graph.nodes all
  older = record { more = ms; is = refl }

  count : length all ≡ length I.graph.nodes + length ms
  count = length-append I.graph.nodes ms

  past_old : (ns : List Node) (n : ℕ) → node_at (ns ++ ms) (length ns + n) ≡ node_at ms n
  past_old ns n = get_or-append-add ns ms n (N.Bound [])

  new_proper : (n : ℕ) (cs : List Case) → node_at ms n ≡ N.Bound cs → ProperCases (scene (insts_of I.graph.functors all) I.shapes) (length all) cs
  new_proper n cs e =
      let c = count in
      by_order n (length ms)
      (λ lt. let p = proper n lt cs e in record {
        rising = p.rising;
        fitting = λ k d w. let f = p.fitting k d w in record {
          functor = f.functor;
          args = f.args;
          below = λ a lt. let x : get_or (get_or cs k d).args a 0 < length I.graph.nodes + length ms = f.below a lt in omega arith;
        };
      })
      (λ q. none_proper (scene (insts_of I.graph.functors all) I.shapes) (length all) cs (sym (get_past ms n (N.Bound []) (omega arith)) ∙ e))
      (λ q. none_proper (scene (insts_of I.graph.functors all) I.shapes) (length all) cs (sym (get_past ms n (N.Bound []) (omega arith)) ∙ e))

  all_proper : (i : ℕ) (cs : List Case) → node_at all i ≡ N.Bound cs → ProperCases (scene (insts_of I.graph.functors all) I.shapes) (length all) cs
  all_proper i cs e =
      let c = count in
      by_order i (length I.graph.nodes)
      (λ lt. cases_more I.graph (insts_of I.graph.functors all) I.shapes (length I.graph.nodes) (length all) cs (extends_same I.graph.functors) (omega arith)
      (of.nodes i cs (sym (get_or_append_left I.graph.nodes ms (N.Bound []) i lt) ∙ e)))
      (λ q. after (omega arith))
      (λ q. after (omega arith))
    where
      after : length I.graph.nodes ≤ i → ProperCases (scene (insts_of I.graph.functors all) I.shapes) (length all) cs
      after le =
          let q : i ≡ length I.graph.nodes + (i - length I.graph.nodes) = omega arith in
          new_proper (i - length I.graph.nodes) cs (sym (ap (node_at all) q ∙ past_old I.graph.nodes (i - length I.graph.nodes)) ∙ e)

  pub nodes_more : AreOf P with_nodes
  nodes_more = record {
    fits = of.fits;
    constructors = of.constructors;
    shapes = of.shapes;
    fewer = of.fewer;
    distinct = of.distinct;
    nodes = all_proper;
    builtins = record {
      ground_there = let b = of.builtins.many in get_or_append_left I.graph.nodes ms (N.Bound []) 1 (omega arith) ∙ of.builtins.ground_there;
      dead_there = get_or_append_left I.graph.nodes ms (N.Bound []) 3 of.builtins.many ∙ of.builtins.dead_there;
      many = let b = of.builtins.many in let c = count in omega arith;
    };
    insts =
        formed_fits (scene (insts_of I.graph.functors all) I.shapes) (length all) of.distinct all_proper
        (formed_end I.graph.nodes ms of.builtins.many bounds inside (fits_formed I.graph.functors I.graph.nodes of.insts));
    pairs = λ pair k h. pair_on P I.graph no_shapes (terms I.types) all pair k (bare_proper P I of) older (of.pairs pair k h);
  }

  pub grown_nodes : Grown P I with_nodes
  grown_nodes = grown_along P I with_nodes no_shapes (bare_proper P I of) older refl

-- insts that show the same
pub grown_shown : (P : Source) (I J : Insts) → count_of J ≡ count_of I → graph_of J ≡ graph_of I → Grown P I J
grown_shown P I J c e = record {
  more = omega arith;
  same = λ i w. ap (λ (G : Graph). G i) e;
  meaning = λ i w path tip t. subst (λ (G : Graph). Allows P (graph_of I) path tip i t ↔ Allows P G path tip i t) (sym e) ((λ a. a), (λ a. a));
  tidy = λ i w t. subst (λ (G : Graph). Tidy P (graph_of I) i t ↔ Tidy P G i t) (sym e) ((λ a. a), (λ a. a));
}

pub grown_from : (P : Source) (I0 I J : Insts) → count_of I ≡ count_of I0 → graph_of I ≡ graph_of I0 → Grown P I J → Grown P I0 J
grown_from P I0 I J c e g = record {
  more = let m = g.more in omega arith;
  same = λ i w. g.same i (omega arith) ∙ ap (λ (G : Graph). G i) e;
  meaning = λ i w path tip t. subst (λ (G : Graph). Allows P G path tip i t ↔ Allows P (graph_of J) path tip i t) e (g.meaning i (omega arith) path tip t);
  tidy = λ i w t. subst (λ (G : Graph). Tidy P G i t ↔ Tidy P (graph_of J) i t) e (g.tidy i (omega arith) t);
}

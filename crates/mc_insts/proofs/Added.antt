-- What definitions add to insts.
use Rattle.std.proofs.Common.{◌≡◌, ℕ, ◌+◌, ◌<◌, ◌++◌, List, [], length, get_or, map, take, refl, sym, ap, ◌∙◌, subst, arith, length-append}
use Rattle.std.proofs.lemmas.List.{get_or-map, length-map, take_all, get_or-append-add}
use Rattle.std.proofs.lemmas.List.Sorted.{IsPermutation-map}
use Rattle.mc_program.specs.Programs.{Source}
use Rattle.mc_model.specs.declared.inst.InstRef.{InstRef}
use Rattle.mc_model.specs.declared.inst.InstRef.TheVariants.{New}
use Rattle.mc_model.specs.declared.inst.Choice.{Choice}
use Rattle.mc_accepted.specs.InstRules.{PlainChoice, PlainInstDef, bound_inst, definition_at, HasFree}
use Rattle.mc_insts.specs.declared.insts.Insts.{Insts}
use Rattle.mc_insts.specs.declared.define.InstDef.{InstDef}
use Rattle.mc_insts.specs.declared.define.InstDef.TheVariants as D
use Rattle.mc_insts.specs.declared.graph.Case.{Case}
use Rattle.mc_insts.specs.declared.graph.Node.{Node}
use Rattle.mc_insts.specs.declared.graph.Node.TheVariants as N
use Rattle.mc_insts.specs.Graphs.{graph_of}
use Rattle.mc_insts.specs.Growing.{Grown}
use Rattle.mc_insts.specs.Kept.{AreOf}
use Rattle.mc_insts.specs.Defining.{plain_choice, plain_definition, plain_definitions, bounds_of, node_made, ListsThese, Defined, FitsThere, DefinitionFits, DefinitionsFit, ChoicesFit, AreSound}
use Rattle.mc_insts.specs.code.Formed.{AllFilled}
use Rattle.mc_insts.specs.code.Functors.{Functor}
use Rattle.mc_insts.specs.code.Lists.{Extends}
use Rattle.mc_insts.specs.code.Walks.{node_at}
use Rattle.mc_insts.specs.code.Shown.{plain_case, plain_node, Distinct}
use Rattle.mc_insts.specs.code.Chains.{InstsAre}
use Rattle.mc_insts.specs.code.Bounds.{inst_in, MakesNode, MakesNodes}
use Rattle.mc_insts.proofs.MoreFunctors.{AreProper, with_functors, functors_more, shown_same, with_nodes, nodes_more, grown_nodes, grown_from}
use Rattle.mc_insts.proofs.Definitions.{node_within}
use Rattle.mc_insts.proofs.Found.{get_any}
use Rattle.mc_insts.proofs.MadeNodes.{inst_node, cases_listed, cases_proper, made_filled}

module _ (P : Source) (I : Insts) (of : AreOf P I) (defs : List InstDef) (fs : List Functor) (more : Extends I.graph.functors fs) (distinct : Distinct fs)
    (insts : List ℕ) (ms : List Node) where
  abbrev ds : List PlainInstDef
  ds = plain_definitions defs

  abbrev first : ℕ
  first = length I.graph.nodes

  abbrev J : Insts
  J = with_functors P I of fs more distinct

  module _ (are : InstsAre ds first insts) (makes : MakesNodes fs insts defs (length defs) ms) (fit : DefinitionsFit first ds) (sound : AreSound ds (length ds)) where
    definition_is : (k : ℕ) (cs : List Choice) → k < length defs → get_or defs k (D.Bound cs) ≡ D.Bound cs → definition_at ds k ≡ bound_inst (map plain_choice cs)
    definition_is k cs lt e = get_or-map plain_definition defs k (D.Bound cs) (bound_inst []) lt ∙ ap plain_definition e

    fits_at : (k : ℕ) (cs : List Choice) → k < length defs → get_or defs k (D.Bound cs) ≡ D.Bound cs → ChoicesFit first (length ds) (map plain_choice cs)
    fits_at k cs lt e =
        let l : length ds ≡ length defs = length-map defs plain_definition in
        subst (DefinitionFits first (length ds)) (definition_is k cs lt e) (fit k (omega arith))

    all_made : length ms ≡ bounds_of ds
    all_made = makes.count ∙ ap bounds_of (take_all (length defs) ds (let l = length-map defs plain_definition in omega arith))

    within : (r : InstRef) → FitsThere first (length ds) r → inst_in insts r < first + length ms
    within r f =
        let w = node_within ds first r (inst_in insts r) fit f (inst_node ds first insts are first r f) in
        let c = all_made in
        omega arith

    pub new_proper : (n : ℕ) → n < length ms → (cs : List Case) → node_at ms n ≡ N.Bound cs → AreProper fs (first + length ms) cs
    new_proper n lt cs e =
        let b = makes.back n lt in
        let m = b.1.1 in
        let q : N.Bound m.cases ≡ N.Bound cs = sym m.is ∙ e in
        let r : m.cases ≡ cs = cc in
        subst (AreProper fs (first + length ms)) r
        (cases_proper fs insts first (length ds) b.1.0 (fits_at b.0 b.1.0 m.within m.is_bound) m.cases m.made (first + length ms) within)

    pub new_bounds : (n : ℕ) → n < length ms → (cs : List Case) × (node_at ms n ≡ N.Bound cs)
    new_bounds n lt = let b = makes.back n lt in (b.1.1.cases, b.1.1.is)

    pub new_filled : (n : ℕ) (cs : List Case) → n < length ms → node_at ms n ≡ N.Bound cs → AllFilled cs
    new_filled n cs lt e =
        let b = makes.back n lt in
        let m = b.1.1 in
        let q : N.Bound m.cases ≡ N.Bound cs = sym m.is ∙ e in
        let r : m.cases ≡ cs = cc in
        let l : length ds ≡ length defs = length-map defs plain_definition in
        let w = m.within in
        let many = of.builtins.many in
        subst AllFilled r
        (made_filled ds first (omega arith) insts are fs first b.1.0 m.cases (fits_at b.0 b.1.0 m.within m.is_bound)
        (λ h. (sound b.0 (omega arith)).no_free (subst (HasFree ds) (sym (definition_is b.0 b.1.0 m.within m.is_bound)) h)) m.made)

    abbrev pub K : Insts
    K = with_nodes P J (functors_more P I of fs more distinct) ms new_proper new_bounds new_filled

    pub added_are : AreOf P K
    added_are = nodes_more P J (functors_more P I of fs more distinct) ms new_proper new_bounds new_filled

    pub added_grown : Grown P I K
    added_grown = grown_from P I J K refl (shown_same P I of fs more distinct) (grown_nodes P J (functors_more P I of fs more distinct) ms new_proper new_bounds new_filled)

    pub added_count : length (I.graph.nodes ++ ms) ≡ first + bounds_of ds
    added_count = length-append I.graph.nodes ms ∙ ap (λ n. first + n) all_made

    pub added_there : (n : ℕ) → n < length insts → get_or insts n 0 < length (I.graph.nodes ++ ms)
    added_there n lt =
        let c = are.count in
        let w = node_within ds first (New n) (get_or insts n 0) fit (omega arith) (are.each n (omega arith)) in
        let a = added_count in
        omega arith

    past_old : (ns : List Node) (n : ℕ) → node_at (ns ++ ms) (length ns + n) ≡ node_at ms n
    past_old ns n = get_or-append-add ns ms n (N.Bound [])

    -- a definition that lists constructors
    def_bound : (d : InstDef) (cs : List PlainChoice) → plain_definition d ≡ bound_inst cs → (xs : List Choice) × ((d ≡ D.Bound xs) × (map plain_choice xs ≡ cs))
    def_bound (D.Is r) cs e = cc
    def_bound (D.Bound xs) cs e = (xs, (refl, (let x : bound_inst (map plain_choice xs) ≡ bound_inst cs = e in cc)))

    pub added_defined : Defined ds first (graph_of K) insts
    added_defined = record {
      count = are.count;
      nodes = are.each;
      bounds = λ k cs lt e.
          let l : length ds ≡ length defs = length-map defs plain_definition in
          let lt0 : k < length defs = omega arith in
          let b = def_bound (get_or defs k (D.Bound [])) cs (sym (get_or-map plain_definition defs k (D.Bound []) (bound_inst []) lt0) ∙ e) in
          subst (λ xs. ListsThese ds first xs (graph_of K (node_made ds first k))) b.1.1 (node_lists k b.0 lt0 (makes.each k b.0 lt0 (get_any defs k (D.Bound b.0) (D.Bound []) lt0 ∙ b.1.0)));
    }
      where
        node_lists : (k : ℕ) (cs : List Choice) → k < length defs → MakesNode fs insts defs k cs (node_at ms (bounds_of (take k ds))) → ListsThese ds first (map plain_choice cs) (graph_of K (node_made ds first k))
        node_lists k cs lt m = record {
          as_written = map (plain_case fs) m.made.as_written;
          are = cases_listed ds first insts are fs first cs m.made.as_written (fits_at k cs lt m.is_bound) m.made.are;
          listed = map (plain_case fs) m.cases;
          same = IsPermutation-map (plain_case fs) m.made.as_written m.cases m.made.same;
          is = ap (plain_node fs) (past_old I.graph.nodes (bounds_of (take k ds)) ∙ m.is);
        }

-- The nodes of definitions, made one after another.
use Rattle.std.proofs.Common.{◌≡◌, ℕ, zero, suc, ◌+◌, ◌<◌, ◌++◌, List, [], ◌∷◌, length, get_or, map, take, refl, sym, ap, ◌∙◌, subst, arith, length-append}
use Rattle.std.proofs.lemmas.List.{get_or-map, length-map, get_or_append_left, get_or_push}
use Rattle.mc_model.specs.declared.inst.InstRef.{InstRef}
use Rattle.mc_model.specs.declared.inst.Choice.{Choice}
use Rattle.mc_accepted.specs.InstRules.{PlainChoice, PlainInstDef, same_inst, bound_inst, definition_at}
use Rattle.mc_insts.specs.declared.define.InstDef.{InstDef}
use Rattle.mc_insts.specs.declared.define.InstDef.TheVariants as D
use Rattle.mc_insts.specs.declared.graph.Case.{Case}
use Rattle.mc_insts.specs.declared.graph.Node.{Node}
use Rattle.mc_insts.specs.declared.graph.Node.TheVariants as N
use Rattle.mc_insts.specs.code.Functors.{Functor}
use Rattle.mc_insts.specs.code.Lists.{Extends}
use Rattle.mc_insts.specs.code.Walks.{node_at}
use Rattle.mc_insts.specs.code.Bounds.{MakesCases, MakesNode, MakesNodes}
use Rattle.mc_insts.specs.Defining.{plain_choice, plain_definition, plain_definitions, bounds_of, ChoicesFit, DefinitionFits, DefinitionsFit}
use Rattle.mc_insts.proofs.Found.{get_any, by_order}
use Rattle.mc_insts.proofs.Definitions.{bounds_same, bounds_more, definition_read}
use Rattle.mc_insts.proofs.MadeNodes.{makes_on}

bounds_before : (xs : List PlainInstDef) (j k : ℕ) (cs : List PlainChoice) → j < k → j < length xs → definition_at xs j ≡ bound_inst cs → bounds_of (take j xs) < bounds_of (take k xs)
bounds_before [] j k cs lt w e = absurd (omega arith)
bounds_before (x ∷ xs) j zero cs lt w e = absurd (omega arith)
bounds_before (same_inst r ∷ xs) zero (suc k) cs lt w e = cc
bounds_before (bound_inst ds ∷ xs) zero (suc k) cs lt w e = omega arith
bounds_before (same_inst r ∷ xs) (suc j) (suc k) cs lt w e = bounds_before xs j k cs (omega arith) (omega arith) e
bounds_before (bound_inst ds ∷ xs) (suc j) (suc k) cs lt w e = let h = bounds_before xs j k cs (omega arith) (omega arith) e in omega arith

read_plain : (defs : List InstDef) (k : ℕ) (cs : List Choice) → k < length defs → get_or defs k (D.Bound cs) ≡ D.Bound cs → definition_at (plain_definitions defs) k ≡ bound_inst (map plain_choice cs)
read_plain defs k cs lt e = get_or-map plain_definition defs k (D.Bound cs) (bound_inst []) lt ∙ ap plain_definition e

node_on : (fs gs : List Functor) (is : List ℕ) (defs : List InstDef) (k : ℕ) (cs : List Choice) (M K : Node) → Extends fs gs → M ≡ K → MakesNode fs is defs k cs M → MakesNode gs is defs k cs K
node_on fs gs is defs k cs M K more e m = record {
  within = m.within;
  is_bound = m.is_bound;
  cases = m.cases;
  is = sym e ∙ m.is;
  made = makes_on fs gs is cs m.cases more m.made;
}

-- another name makes no node
makes_name : (fs : List Functor) (is : List ℕ) (defs : List InstDef) (k : ℕ) (d : InstDef) (r : InstRef) (ns : List Node) → k < length defs → d ≡ get_or defs k d → d ≡ D.Is r
    → MakesNodes fs is defs k ns → MakesNodes fs is defs (k + 1) ns
makes_name fs is defs k d r ns lt e q m =
    let l : length (plain_definitions defs) ≡ length defs = length-map defs plain_definition in
    let named : definition_at (plain_definitions defs) k ≡ same_inst r = get_or-map plain_definition defs k d (bound_inst []) lt ∙ ap plain_definition (sym e ∙ q) in
    record {
      count = m.count ∙ sym (bounds_same (plain_definitions defs) k r (omega arith) named);
      each = λ j cs w h.
          by_order j k
          (λ s. m.each j cs s h)
          (λ s.
          let x : D.Is r ≡ D.Bound cs = sym q ∙ e ∙ get_any defs k d (D.Bound cs) lt ∙ ap (λ n. get_or defs n (D.Bound cs)) (sym s) ∙ h in
          cc)
          (λ s. absurd (omega arith));
      back = m.back;
    }

pub makes_other : (fs : List Functor) (is : List ℕ) (defs : List InstDef) (k : ℕ) (d : InstDef) (ns : List Node) → k < length defs → d ≡ get_or defs k d → ((cs : List Choice) → d ≡ D.Bound cs → ⊥)
    → MakesNodes fs is defs k ns → MakesNodes fs is defs (k + 1) ns
makes_other fs is defs k (D.Is r) ns lt e n m = makes_name fs is defs k (D.Is r) r ns lt e refl m
makes_other fs is defs k (D.Bound cs) ns lt e n m = absurd (n cs refl)

-- what lists constructors makes one
module _ (fs gs : List Functor) (is : List ℕ) (defs : List InstDef) (k : ℕ) (d : InstDef) (cs : List Choice) (xs : List Case) (ns : List Node) (more : Extends fs gs) (lt : k < length defs)
    (e : d ≡ get_or defs k d) (q : d ≡ D.Bound cs) (made : MakesCases gs is cs xs) (m : MakesNodes fs is defs k ns) where
  abbrev ds : List PlainInstDef
  ds = plain_definitions defs

  abbrev all : List Node
  all = ns ++ N.Bound xs ∷ []

  here : get_or defs k (D.Bound cs) ≡ D.Bound cs
  here = get_any defs k (D.Bound cs) d lt ∙ sym e ∙ q

  one_made : (n : ℕ) → length ns ≡ n → MakesNode gs is defs k cs (node_at all n)
  one_made n x = record { within = lt; is_bound = here; cases = xs; is = get_or_push ns (N.Bound xs) (N.Bound []) n x; made = made }

  at_last : (ys : List Choice) → get_or defs k (D.Bound ys) ≡ D.Bound ys → MakesNode gs is defs k ys (node_at all (bounds_of (take k ds)))
  at_last ys h =
      let z : D.Bound cs ≡ D.Bound ys = sym here ∙ get_any defs k (D.Bound cs) (D.Bound ys) lt ∙ h in
      let r : cs ≡ ys = cc in
      subst (λ zs. MakesNode gs is defs k zs (node_at all (bounds_of (take k ds)))) r (one_made (bounds_of (take k ds)) m.count)

  earlier : (j : ℕ) (ys : List Choice) → j < k → get_or defs j (D.Bound ys) ≡ D.Bound ys → MakesNode gs is defs j ys (node_at all (bounds_of (take j ds)))
  earlier j ys x h =
      let l : length ds ≡ length defs = length-map defs plain_definition in
      let b = bounds_before ds j k (map plain_choice ys) x (omega arith) (read_plain defs j ys (omega arith) h) in
      let c = m.count in
      node_on fs gs is defs j ys (node_at ns (bounds_of (take j ds))) (node_at all (bounds_of (take j ds))) more
      (sym (get_or_append_left ns (N.Bound xs ∷ []) (N.Bound []) (bounds_of (take j ds)) (omega arith))) (m.each j ys x h)

  pub makes_bound : MakesNodes gs is defs (k + 1) all
  makes_bound =
      let l : length ds ≡ length defs = length-map defs plain_definition in
      let a : length all ≡ length ns + 1 = length-append ns (N.Bound xs ∷ []) in
      let b : bounds_of (take (k + 1) ds) ≡ suc (bounds_of (take k ds)) = bounds_more ds k (map plain_choice cs) (omega arith) (read_plain defs k cs lt here) in
      let c = m.count in
      record {
        count = omega arith;
        each = λ j ys s h.
            by_order j k
            (λ x. earlier j ys x h)
            (λ x. subst (λ n. MakesNode gs is defs n ys (node_at all (bounds_of (take n ds)))) (sym x)
            (at_last ys (subst (λ n. get_or defs n (D.Bound ys) ≡ D.Bound ys) x h)))
            (λ x. absurd (omega arith));
        back = λ n s.
            by_order n (length ns)
            (λ x. let b = m.back n x in (b.0, (b.1.0, node_on fs gs is defs b.0 b.1.0 (node_at ns n) (node_at all n) more (sym (get_or_append_left ns (N.Bound xs ∷ []) (N.Bound []) n x)) b.1.1)))
            (λ x. (k, (cs, one_made n (sym x))))
            (λ x. absurd (omega arith));
      }

-- the constructors of a definition that was read fit
pub choices_fit : (n m : ℕ) (defs listed : List InstDef) (i : ℕ) (d : InstDef) (cs rs : List Choice) → listed ≡ defs → DefinitionsFit n (plain_definitions defs) → m ≡ length defs → i < length listed
    → d ≡ get_or listed i d → d ≡ D.Bound cs → rs ≡ cs → ChoicesFit n m (map plain_choice rs)
choices_fit n m defs listed i d cs rs items fit count lt e q r =
    let l : length (plain_definitions listed) ≡ length listed = length-map listed plain_definition in
    let fits : DefinitionsFit n (plain_definitions listed) = subst (λ (xs : List InstDef). DefinitionsFit n (plain_definitions xs)) (sym items) fit in
    let f : DefinitionFits n (length (plain_definitions listed)) (bound_inst (map plain_choice cs)) =
    subst (DefinitionFits n (length (plain_definitions listed))) (definition_read listed i d lt e ∙ ap plain_definition q) (fits i (omega arith)) in
    subst (λ (xs : List Choice). ChoicesFit n m (map plain_choice xs)) (sym r)
    (subst (λ k. ChoicesFit n k (map plain_choice cs)) (l ∙ ap length items ∙ sym count) f)

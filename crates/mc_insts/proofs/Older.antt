-- Older nodes keep their meaning where a graph grows at its end.
use Rattle.std.proofs.Common.{◌≡◌, ◌⊎◌, inl, inr, ℕ, suc, ◌<◌, ◌≤◌, List, [], ◌∷◌, length, get_or, map, replicate, Option, Some, None, refl, sym, ap, ◌∙◌, subst, arith, ⊎_elim}
use Rattle.std.proofs.lemmas.List.{length-replicate}
use Rattle.mc_program.specs.Programs.{TypeTerm, variable_type, Source}
use Rattle.mc_model.specs.Types.{argument_types}
use Rattle.mc_model.specs.Insts.{Listed, InstNode, free, ground, unique, dead, bound, Graph, Lists, AllowsSymbol}
use Rattle.mc_accepted.specs.Inclusion.{Tip, Path, OnTypes, AllowsTip, Allows, NoMore}
use Rattle.mc_insts.specs.declared.graph.Case.{Case}
use Rattle.mc_insts.specs.code.Functors.{Functor}
use Rattle.mc_insts.specs.declared.graph.Node.{Node}
use Rattle.mc_insts.specs.declared.graph.Node.TheVariants as N
use Rattle.mc_insts.specs.code.Lists.{Extends}
use Rattle.mc_insts.specs.code.Walks.{Scene, node_at, Proper}
use Rattle.mc_insts.specs.code.Shown.{plain_case, plain_node, plain_graph}
use Rattle.mc_accepted.specs.Tidy.{Leads, Tidy}
use Rattle.mc_insts.specs.code.Through.{Through}
use Rattle.mc_insts.proofs.Bridge.{get_replicate}
use Rattle.mc_insts.proofs.Growth.{extends_get}
use Rattle.mc_insts.proofs.Found.{by_order}
use Rattle.mc_insts.proofs.Mades.{get_past}

abbrev Inside : ℕ → List ℕ → Type 0
Inside top is = (k : ℕ) → k < length is → get_or is k 0 < top

lists_map : (P : Source) (fs : List Functor) (top s : ℕ) (Q R : List ℕ → Type 0) → ((is : List ℕ) → Inside top is → Q is → R is) → (cs : List Case) → ((k : ℕ) (d : Case) → k < length cs → Inside top (get_or cs k d).args) → Lists P (map (plain_case fs) cs) s Q → Lists P (map (plain_case fs) cs) s R
lists_map P fs top s Q R g [] w h = absurd h
lists_map P fs top s Q R g (c ∷ cs) w h = ⊎_elim (λ a. inl (a.0, a.1, g c.args (w 0 c (omega arith)) a.2)) (λ b. inr (lists_map P fs top s Q R g cs (λ k d lt. w (suc k) d (omega arith)) b)) h

replicate_inside : (top n i : ℕ) → i < top → Inside top (replicate n i)
replicate_inside top n i w k h = let l : length (replicate {A = ℕ} n i) ≡ n = length-replicate n i in subst (λ j. j < top) (sym (get_replicate n i k (omega arith))) w

lists_fact : (P : Source) (ls : List Listed) (s : ℕ) (Q : List ℕ → Type 0) (X : Type 0) → Lists P ls s (λ is. Q is × X) → X
lists_fact P [] s Q X h = absurd h
lists_fact P (l ∷ ls) s Q X h = ⊎_elim (λ a. a.2.1) (λ b. lists_fact P ls s Q X b) h

symbol_fact : (P : Source) (M : InstNode) (i s : ℕ) (Q : List ℕ → Type 0) (X : Type 0) → AllowsSymbol P M i s (λ is. Q is × X) → X
symbol_fact P free i s Q X h = absurd h
symbol_fact P ground i s Q X h = h.1
symbol_fact P unique i s Q X h = h.1
symbol_fact P dead i s Q X h = h.1
symbol_fact P (bound ls) i s Q X h = lists_fact P ls s Q X h

on_fact : (o : Option (List TypeTerm)) (Q : List TypeTerm → Type 0) (X : Type 0) → ((ts : List TypeTerm) → Q ts → X) → OnTypes o Q → X
on_fact None Q X f h = absurd h
on_fact (Some ts) Q X f h = f ts h

on_map : (o : Option (List TypeTerm)) (Q R : List TypeTerm → Type 0) → ((ts : List TypeTerm) → Q ts → R ts) → OnTypes o Q → OnTypes o R
on_map None Q R f h = h
on_map (Some ts) Q R f h = f ts h

no_kind : (fs : List Functor) (M : Node) → M ≡ N.Bound [] → ((plain_node fs M ≡ unique) ⊎ (plain_node fs M ≡ dead)) → ⊥
no_kind fs M e h =
    ⊎_elim
    (λ x. let y : plain_node fs (N.Bound []) ≡ unique = ap (plain_node fs) (sym e) ∙ x in cc)
    (λ x. let y : plain_node fs (N.Bound []) ≡ dead = ap (plain_node fs) (sym e) ∙ x in cc)
    h

module _ (C : Scene) (proper : Proper C) (P : Source) where
  symbol_map : (i s : ℕ) (Q R : List ℕ → Type 0) → i < length C.nodes → ((is : List ℕ) → Inside (length C.nodes) is → Q is → R is) → (M : Node) → node_at C.nodes i ≡ M → AllowsSymbol P (plain_node C.functors M) i s Q → AllowsSymbol P (plain_node C.functors M) i s R
  symbol_map i s Q R w g N.Free e h = h
  symbol_map i s Q R w g N.Ground e h = g (replicate (P.symbols s).name.arity i) (replicate_inside (length C.nodes) (P.symbols s).name.arity i w) h
  symbol_map i s Q R w g N.Unique e h = g (replicate (P.symbols s).name.arity i) (replicate_inside (length C.nodes) (P.symbols s).name.arity i w) h
  symbol_map i s Q R w g N.Dead e h = g (replicate (P.symbols s).name.arity i) (replicate_inside (length C.nodes) (P.symbols s).name.arity i w) h
  symbol_map i s Q R w g (N.Bound cs) e h = lists_map P C.functors (length C.nodes) s Q R g cs (λ k d lt. ((proper.nodes i cs e).fitting k d lt).below) h

  module _ (after : List Node) (older : Extends C.nodes after) where
    abbrev G : Graph
    G = plain_graph C.functors C.nodes

    abbrev H : Graph
    H = plain_graph C.functors after

    pub node_kept : (i : ℕ) → i < length C.nodes → node_at after i ≡ node_at C.nodes i
    node_kept i w = extends_get C.nodes after i (N.Bound []) older w

    pub kept : (i : ℕ) → i < length C.nodes → H i ≡ G i
    kept i w = ap (plain_node C.functors) (node_kept i w)

    through_on : (s k i : ℕ) (t : TypeTerm) (Y Z : ℕ → TypeTerm → Type 0) → i < length C.nodes → ((j : ℕ) (u : TypeTerm) → j < length C.nodes → Y j u → Z j u) → Through P G s k Y i t → Through P H s k Z i t
    through_on s k i t Y Z w g h =
        subst (λ M. OnTypes (argument_types P s t) (λ ts. AllowsSymbol P M i s (λ is. (k < length is) × Z (get_or is k 0) (get_or ts k (variable_type 0))))) (sym (kept i w))
        (on_map (argument_types P s t) _ _ (λ ts. symbol_map i s _ _ w (λ is inside q. (q.0, g (get_or is k 0) (get_or ts k (variable_type 0)) (inside k q.0) q.1)) (node_at C.nodes i) refl) h)

    through_back : (s k i : ℕ) (t : TypeTerm) (Y Z : ℕ → TypeTerm → Type 0) → i < length C.nodes → ((j : ℕ) (u : TypeTerm) → j < length C.nodes → Y j u → Z j u) → Through P H s k Y i t → Through P G s k Z i t
    through_back s k i t Y Z w g h =
        on_map (argument_types P s t) _ _ (λ ts. symbol_map i s _ _ w (λ is inside q. (q.0, g (get_or is k 0) (get_or ts k (variable_type 0)) (inside k q.0) q.1)) (node_at C.nodes i) refl)
        (subst (λ M. OnTypes (argument_types P s t) (λ ts. AllowsSymbol P M i s (λ is. (k < length is) × Y (get_or is k 0) (get_or ts k (variable_type 0))))) (kept i w) h)

    pub allows_on : (path : Path) (e : Tip) (i : ℕ) (t : TypeTerm) → i < length C.nodes → Allows P G path e i t → Allows P H path e i t
    allows_on [] e i t w a = subst (λ M. AllowsTip P M i t e) (sym (kept i w)) a
    allows_on ((s, k) ∷ path) e i t w a = through_on s k i t (Allows P G path e) (Allows P H path e) w (λ j u v. allows_on path e j u v) a

    pub allows_back : (path : Path) (e : Tip) (i : ℕ) (t : TypeTerm) → i < length C.nodes → Allows P H path e i t → Allows P G path e i t
    allows_back [] e i t w a = subst (λ M. AllowsTip P M i t e) (kept i w) a
    allows_back ((s, k) ∷ path) e i t w a = through_back s k i t (Allows P H path e) (Allows P G path e) w (λ j u v. allows_back path e j u v) a

    pub more_on : (i j : ℕ) (t : TypeTerm) → i < length C.nodes → j < length C.nodes → NoMore P G i j t → NoMore P H i j t
    more_on i j t v w h path e a = allows_on path e j t w (h path e (allows_back path e i t v a))

    -- what an old node leads to is old
    leads_on : (path : Path) (j : ℕ) (u : TypeTerm) (i : ℕ) (t : TypeTerm) → i < length C.nodes → Leads P G path j u i t → Leads P H path j u i t
    leads_on [] j u i t w a = a
    leads_on ((s, k) ∷ path) j u i t w a = through_on s k i t (Leads P G path j u) (Leads P H path j u) w (λ i t v. leads_on path j u i t v) a

    past : (j : ℕ) → length C.nodes ≤ j → node_at C.nodes j ≡ N.Bound []
    past j h = get_past C.nodes j (N.Bound []) h

    pub tidy_back : (i : ℕ) (t : TypeTerm) → i < length C.nodes → Tidy P H i t → Tidy P G i t
    tidy_back i t w tidy path j u l k =
        by_order j (length C.nodes)
        (λ x. tidy path j u (leads_on path j u i t w l) (⊎_elim (λ y. inl (kept j x ∙ y)) (λ y. inr (kept j x ∙ y)) k))
        (λ x. absurd (no_kind C.functors (node_at C.nodes j) (past j (omega arith)) k))
        (λ x. absurd (no_kind C.functors (node_at C.nodes j) (past j (omega arith)) k))

    leads_there : (path : Path) (j : ℕ) (u : TypeTerm) (i : ℕ) (t : TypeTerm) → i < length C.nodes → Leads P H path j u i t → (j < length C.nodes) × Leads P G path j u i t
    leads_there [] j u i t w a = (subst (λ x. x < length C.nodes) a.0 w, a)
    leads_there ((s, k) ∷ path) j u i t w a = (
      on_fact (argument_types P s t) _ (j < length C.nodes) (λ ts h. symbol_fact P (G i) i s (λ is. k < length is) (j < length C.nodes) h)
          (through_back s k i t (Leads P H path j u) (λ x y. j < length C.nodes) w (λ x y v b. (leads_there path j u x y v b).0) a),
      through_back s k i t (Leads P H path j u) (Leads P G path j u) w (λ x y v b. (leads_there path j u x y v b).1) a,
    )

    pub tidy_on : (i : ℕ) (t : TypeTerm) → i < length C.nodes → Tidy P G i t → Tidy P H i t
    tidy_on i t w tidy path j u l k =
        let x = leads_there path j u i t w l in
        tidy path j u x.1 (⊎_elim (λ y. inl (sym (kept j x.0) ∙ y)) (λ y. inr (sym (kept j x.0) ∙ y)) k)

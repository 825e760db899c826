-- Graphs in which the same definitions define nodes behind the builtin ones are alike: a node lists
-- in both the same constructors over the same nodes.
use Rattle.std.proofs.Common.{◌≡◌, ◌⊎◌, inl, inr, ℕ, zero, suc, ◌+◌, ◌<◌, ◌≤◌, List, [], ◌∷◌, length, get_or, take, refl, sym, ap, ap₂, ◌∙◌, subst, ⊎_elim, arith}
use Rattle.std.specs.Prelude.{Contains}
use Rattle.std.proofs.Math.ListN.{get_or-eq_default}
use Rattle.std.proofs.lemmas.Bool.{cases_lt}
use Rattle.std.proofs.lemmas.List.Sorted.{IsPermutation-sym, Contains-permutation}
use Rattle.mc_program.specs.Programs.{TypeTerm, variable_type, Source}
use Rattle.mc_program.specs.declared.program.Program.{Program}
use Rattle.mc_model.specs.Types.{argument_types}
use Rattle.mc_model.specs.Insts.{Listed, InstNode, unique, dead, bound, Graph, Lists, AllowsSymbol, AllowsConstants}
use Rattle.mc_model.specs.declared.inst.InstRef.{InstRef}
use Rattle.mc_accepted.specs.Inclusion.{Mark, Tip, symbol_tip, constant_tip, state_tip, Path, AllowsMark, AllowsTip, Allows}
use Rattle.mc_accepted.specs.Tidy.{Leads, Tidy}
use Rattle.mc_accepted.specs.InstRules.{PlainChoice, PlainInstDef, same_inst, bound_inst, definition_at}
use Rattle.mc_insts.specs.declared.insts.Insts.{Insts}
use Rattle.mc_insts.specs.declared.graph.Node.TheVariants as N
use Rattle.mc_insts.specs.Defining.{bounds_of, node_made, IsNode, there, made, another_name, AreNodes, IsListed, AreListed, ListsThese}
use Rattle.mc_insts.specs.Graphs.{graph_of, count_of}
use Rattle.mc_insts.specs.code.Shown.{plain_node}
use Rattle.mc_insts.proofs.Overs.{on_types, allows_over, over_allows}
use Rattle.mc_analysis.specs.Premises.{HasInsts}

-- ---- what one node lists is listed in the other
pub data ListsAmong : InstNode → InstNode → Type 0 where
  itself : {M : InstNode} → ListsAmong M M
  among : {ls ks : List Listed} → ((l : Listed) → Contains ls l → Contains ks l) → ListsAmong (bound ls) (bound ks)

module _ (P : Source) where
  abbrev Says : (symbol : ℕ) → (List ℕ → Type 0) → Listed → Type 0
  Says s Q l = (l.name ≡ (P.symbols s).name.bytes) × (l.arity ≡ (P.symbols s).name.arity) × Q l.args

  pub one-listed : (ls : List Listed) (s : ℕ) (Q : List ℕ → Type 0) → Lists P ls s Q → (l : Listed) × Contains ls l × Says s Q l
  one-listed [] s Q h = absurd h
  one-listed (l ∷ ls) s Q h =
      ⊎_elim (λ a. (l, (0, omega arith, refl), a))
      (λ b. let r = one-listed ls s Q b in (r.0, (suc r.1.0, omega (arith, r.1.1), r.1.2), r.2)) h

  pub listed-one : (ls : List Listed) (s : ℕ) (Q : List ℕ → Type 0) (l : Listed) (k : ℕ) → k < length ls → get_or ls k l ≡ l → Says s Q l → Lists P ls s Q
  listed-one [] s Q l k lt e a = absurd (omega (arith, lt))
  listed-one (m ∷ ls) s Q l zero lt e a = inl (subst (Says s Q) (sym e) a)
  listed-one (m ∷ ls) s Q l (suc k) lt e a = inr (listed-one ls s Q l k (omega (arith, lt)) e a)

  symbols-on : (N M : InstNode) → ListsAmong N M → (i s : ℕ) (Q : List ℕ → Type 0) → AllowsSymbol P N i s Q → AllowsSymbol P M i s Q
  symbols-on N M itself i s Q h = h
  symbols-on N M (among {ls = ls} {ks = ks} f) i s Q h =
      let r = one-listed ls s Q h in
      let c = f r.0 r.1 in
      listed-one ks s Q r.0 c.0 c.1 c.2 r.2

constants-on : (N M : InstNode) → ListsAmong N M → AllowsConstants N → AllowsConstants M
constants-on N M itself h = h
constants-on N M (among f) h = h

mark-on : (N M : InstNode) (m : Mark) → ListsAmong N M → AllowsMark N m → AllowsMark M m
mark-on N M m itself h = h
mark-on N M m (among f) h = h

used-up : (N M : InstNode) → ListsAmong N M → ((N ≡ unique) ⊎ (N ≡ dead)) → (M ≡ unique) ⊎ (M ≡ dead)
used-up N M itself h = h
used-up N M (among f) h = ⊎_elim (λ e. cc) (λ e. cc) h

-- ---- so what a node allows in one graph, it allows in the other
module _ (P : Source) (G H : Graph) (alike : (i : ℕ) → ListsAmong (G i) (H i)) where
  goes-on : (i s : ℕ) (Q R : List ℕ → Type 0) → ((is : List ℕ) → Q is → R is) → AllowsSymbol P (G i) i s Q → AllowsSymbol P (H i) i s R
  goes-on i s Q R f h =
      let o = allows_over P (H i) i s Q (symbols-on P (G i) (H i) (alike i) i s Q h) in
      over_allows P (H i) i s R o.0 o.1 (f o.0 o.2)

  tip-on : (e : Tip) (i : ℕ) (t : TypeTerm) → AllowsTip P (G i) i t e → AllowsTip P (H i) i t e
  tip-on (symbol_tip s) i t h = on_types (argument_types P s t) _ _ (λ ts a. symbols-on P (G i) (H i) (alike i) i s (λ is. Unit {0}) a) h
  tip-on (constant_tip b) i t h = (h.0, constants-on (G i) (H i) (alike i) h.1)
  tip-on (state_tip m) i t h = (h.0, mark-on (G i) (H i) m (alike i) h.1)

  pub allows-on : (path : Path) (e : Tip) (i : ℕ) (t : TypeTerm) → Allows P G path e i t → Allows P H path e i t
  allows-on [] e i t h = tip-on e i t h
  allows-on ((s, k) ∷ path) e i t h =
      on_types (argument_types P s t) (λ ts. AllowsSymbol P (G i) i s (λ is. (k < length is) × Allows P G path e (get_or is k 0) (get_or ts k (variable_type 0))))
      (λ ts. AllowsSymbol P (H i) i s (λ is. (k < length is) × Allows P H path e (get_or is k 0) (get_or ts k (variable_type 0))))
      (λ ts a. goes-on i s _ _ (λ is b. (b.0, allows-on path e (get_or is k 0) (get_or ts k (variable_type 0)) b.1)) a) h

  leads-on : (path : Path) (j : ℕ) (u : TypeTerm) (i : ℕ) (t : TypeTerm) → Leads P G path j u i t → Leads P H path j u i t
  leads-on [] j u i t h = h
  leads-on ((s, k) ∷ path) j u i t h =
      on_types (argument_types P s t) (λ ts. AllowsSymbol P (G i) i s (λ is. (k < length is) × Leads P G path j u (get_or is k 0) (get_or ts k (variable_type 0))))
      (λ ts. AllowsSymbol P (H i) i s (λ is. (k < length is) × Leads P H path j u (get_or is k 0) (get_or ts k (variable_type 0))))
      (λ ts a. goes-on i s _ _ (λ is b. (b.0, leads-on path j u (get_or is k 0) (get_or ts k (variable_type 0)) b.1)) a) h

  pub tidy-back : (i : ℕ) (t : TypeTerm) → Tidy P H i t → Tidy P G i t
  tidy-back i t h path j u l w = h path j u (leads-on path j u i t l) (used-up (G j) (H j) (alike j) w)

-- ---- a definition's node is one
node-one : (ds : List PlainInstDef) (first : ℕ) (r q : InstRef) (i j : ℕ) → r ≡ q → IsNode ds first r i → IsNode ds first q j → i ≡ j
node-one ds first r q i j e there there = cc
node-one ds first r q i j e there (made d f) = cc
node-one ds first r q i j e there (another_name d n) = cc
node-one ds first r q i j e (made d f) there = cc
node-one ds first r q i j e (made {k = k} d f) (made {k = l} c g) =
    let x : k ≡ l = cc in
    f ∙ ap (node_made ds first) x ∙ sym g
node-one ds first r q i j e (made {k = k} {cs = cs} d f) (another_name {k = l} {r = s} c n) =
    let x : k ≡ l = cc in
    let y : bound_inst cs ≡ same_inst s = sym d ∙ ap (definition_at ds) x ∙ c in
    cc
node-one ds first r q i j e (another_name d n) there = cc
node-one ds first r q i j e (another_name {k = k} {r = s} d n) (made {k = l} {cs = cs} c g) =
    let x : k ≡ l = cc in
    let y : same_inst s ≡ bound_inst cs = sym d ∙ ap (definition_at ds) x ∙ c in
    cc
node-one ds first r q i j e (another_name {k = k} {r = s} d n) (another_name {k = l} {r = t} c m) =
    let x : k ≡ l = cc in
    let y : same_inst s ≡ same_inst t = sym d ∙ ap (definition_at ds) x ∙ c in
    let z : s ≡ t = cc in
    node-one ds first s t i j z n m

nodes-one : (ds : List PlainInstDef) (first : ℕ) (rs : List InstRef) (is js : List ℕ) → AreNodes ds first rs is → AreNodes ds first rs js → is ≡ js
nodes-one ds first [] [] [] h k = refl
nodes-one ds first [] [] (j ∷ js) h k = absurd k
nodes-one ds first [] (i ∷ is) js h k = absurd h
nodes-one ds first (r ∷ rs) [] js h k = absurd h
nodes-one ds first (r ∷ rs) (i ∷ is) [] h k = absurd k
nodes-one ds first (r ∷ rs) (i ∷ is) (j ∷ js) h k =
    ap₂ (λ (x : ℕ) (xs : List ℕ). x ∷ xs) (node-one ds first r r i j refl h.0 k.0) (nodes-one ds first rs is js h.1 k.1)

listed-so : (ds : List PlainInstDef) (first : ℕ) (c : PlainChoice) (l m : Listed) → IsListed ds first c l → IsListed ds first c m → l ≡ m
listed-so ds first c l m h k =
    ap (λ (x : List ℕ). record { name = x; arity = l.arity; args = l.args }) (h.name ∙ sym k.name)
    ∙ ap (λ (x : ℕ). record { name = m.name; arity = x; args = l.args }) (h.arity ∙ sym k.arity)
    ∙ ap (λ (x : List ℕ). record { name = m.name; arity = m.arity; args = x }) (nodes-one ds first c.args l.args m.args h.args k.args)

written-so : (ds : List PlainInstDef) (first : ℕ) (cs : List PlainChoice) (ls ms : List Listed) → AreListed ds first cs ls → AreListed ds first cs ms → ls ≡ ms
written-so ds first [] [] [] h k = refl
written-so ds first [] [] (m ∷ ms) h k = absurd k
written-so ds first [] (l ∷ ls) ms h k = absurd h
written-so ds first (c ∷ cs) [] ms h k = absurd h
written-so ds first (c ∷ cs) (l ∷ ls) [] h k = absurd k
written-so ds first (c ∷ cs) (l ∷ ls) (m ∷ ms) h k =
    ap₂ (λ (x : Listed) (xs : List Listed). x ∷ xs) (listed-so ds first c l m h.0 k.0) (written-so ds first cs ls ms h.1 k.1)

-- the number of a node that a definition makes is that of one that lists constructors
maker-of : (ds : List PlainInstDef) (m : ℕ) → m < bounds_of ds → (k : ℕ) × (cs : List PlainChoice) × (k < length ds) × (definition_at ds k ≡ bound_inst cs) × (m ≡ bounds_of (take k ds))
maker-of [] m lt = absurd (omega (arith, lt))
maker-of (same_inst r ∷ ds) m lt = let f = maker-of ds m lt in (suc f.0, f.1, omega (arith, f.2), f.3, f.4)
maker-of (bound_inst cs ∷ ds) zero lt = (0, cs, omega arith, refl, refl)
maker-of (bound_inst cs ∷ ds) (suc m) lt = let f = maker-of ds m (omega (arith, lt)) in (suc f.0, f.1, omega (arith, f.2), f.3, ap suc f.4)

-- ---- the two graphs
these-among : (ds : List PlainInstDef) (first : ℕ) (cs : List PlainChoice) (N M : InstNode) → ListsThese ds first cs N → ListsThese ds first cs M → ListsAmong N M
these-among ds first cs N M h k =
    let w : h.as_written ≡ k.as_written = written-so ds first cs h.as_written k.as_written h.are k.are in
    subst (λ N. ListsAmong N M) (sym h.is)
    (subst (λ M. ListsAmong (bound h.listed) M) (sym k.is)
    (among (λ l c.
    Contains-permutation k.as_written k.listed l k.same
    (subst (λ (ls : List Listed). Contains ls l) w (Contains-permutation h.listed h.as_written l (IsPermutation-sym h.as_written h.listed h.same) c)))))

module _ (P : Program) (ds : List PlainInstDef) (I J : Insts) (here : HasInsts P ds I) (other : HasInsts P ds J) where
  -- behind the last node there is nothing
  none-behind : (K : Insts) (i : ℕ) → count_of K ≤ i → graph_of K i ≡ bound []
  none-behind K i le = ap (plain_node K.graph.functors) (get_or-eq_default K.graph.nodes (N.Bound []) le)

  one-node : (i : ℕ) → graph_of I i ≡ graph_of J i → ListsAmong (graph_of I i) (graph_of J i)
  one-node i e = subst (λ M. ListsAmong (graph_of I i) M) e itself

  behind-builtin : (m : ℕ) → ListsAmong (graph_of I (4 + m)) (graph_of J (4 + m))
  behind-builtin m = ⊎_elim made-one none-there (cases_lt m (bounds_of ds))
    where
      made-one : m < bounds_of ds → ListsAmong (graph_of I (4 + m)) (graph_of J (4 + m))
      made-one lt =
          let f = maker-of ds m lt in
          let n : node_made ds 4 f.0 ≡ 4 + m = ap (λ x. 4 + x) (sym f.4) in
          subst (λ i. ListsAmong (graph_of I i) (graph_of J i)) n
          (these-among ds 4 f.1 (graph_of I (node_made ds 4 f.0)) (graph_of J (node_made ds 4 f.0)) (here.defined.bounds f.0 f.1 f.2 f.3) (other.defined.bounds f.0 f.1 f.2 f.3))

      none-there : bounds_of ds ≤ m → ListsAmong (graph_of I (4 + m)) (graph_of J (4 + m))
      none-there le =
          let a = here.count in
          let b = other.count in
          one-node (4 + m) (none-behind I (4 + m) (omega (arith, le, a)) ∙ sym (none-behind J (4 + m) (omega (arith, le, b))))

  pub graphs-alike : (i : ℕ) → ListsAmong (graph_of I i) (graph_of J i)
  graphs-alike zero = one-node 0 (here.are_of.insts.is_free ∙ sym other.are_of.insts.is_free)
  graphs-alike (suc zero) = one-node 1 (here.are_of.insts.is_ground ∙ sym other.are_of.insts.is_ground)
  graphs-alike (suc (suc zero)) = one-node 2 (here.are_of.insts.is_unique ∙ sym other.are_of.insts.is_unique)
  graphs-alike (suc (suc (suc zero))) = one-node 3 (here.are_of.insts.is_dead ∙ sym other.are_of.insts.is_dead)
  graphs-alike (suc (suc (suc (suc m)))) =
      subst (λ i. ListsAmong (graph_of I i) (graph_of J i)) (let e : 4 + m ≡ suc (suc (suc (suc m))) = omega arith in e) (behind-builtin m)

-- Functions that look for nodes and agree with what is there.
use Rattle.std.proofs.Common.{◌≡◌, ◌↔◌, ℕ, zero, suc, ◌+◌, ◌<◌, ◌≤◌, Bool, true, false, cond, nat_eq, ◌&&◌, inl, inr, List, [], ◌∷◌, if◌then◌else◌, map, length, get_or, replicate, Option, Some, None, refl, sym, ap, ◌∙◌, subst, ⊎_elim, arith}
use Rattle.std.specs.Str.{bytes_eq}
use Rattle.std.proofs.lemmas.Bool.{eqb-true, eq-eqb}
use Rattle.std.proofs.lemmas.Slice.Eq.{bytes_eq-Decides}
use Rattle.std.proofs.lemmas.List.{get_or-map}
use Rattle.std.proofs.Math.ListN.{get_or-eq_default}
use Rattle.std.proofs.Math.Nat.{le_refl}
use Rattle.mc_program.specs.Programs.{TypeTerm, FullName, Source, variable_type}
use Rattle.mc_program.specs.PlainPrograms.{plain_type, plain_symbol, no_symbol}
use Rattle.mc_program.specs.declared.ty.Ty.{Ty}
use Rattle.mc_model.specs.Insts.{Listed, InstNode, free, ground, unique, dead, bound, Lists, AllowsSymbol, AllowsConstants, Graph}
use Rattle.mc_model.specs.Good.{System}
use Rattle.mc_accepted.specs.Determined.{is_dead}
use Rattle.mc_accepted.specs.Inclusion.{Included, Merged}
use Rattle.mc_accepted.specs.Tidy.{Tidy, EachIsTidy}
use Rattle.mc_accepted.specs.code.Truthful.{AllAre, IsNarrowed, Truthful}
use Rattle.mc_accepted.specs.Forms.{Form, at, node_takes_constants}
use Rattle.mc_accepted.specs.InOrder.{Tells}
use Rattle.mc_accepted.specs.NodeOracle.{NodeOracle}
use Rattle.mc_insts.specs.Graphs.{graph_of, count_of}
use Rattle.mc_insts.specs.Narrowed.{Narrowed}
use Rattle.mc_insts.specs.code.Shown.{plain_node}
use Rattle.mc_insts.specs.declared.graph.Node.TheVariants as N
use Rattle.mc_procs.specs.Named.{NumbersBelow}
use Rattle.mc_procs.specs.Procedures.{PlainProcs, source_of, insts_of}
use Rattle.mc_mode_state.specs.Tables.{Entry, node_in}
use Rattle.mc_mode_state.specs.Nodes.{type_in, Once, StoodFor}
use Rattle.mc_mode_state.specs.Agreeing.{OracleAgrees, StateInvariant, TypedAs}
use Rattle.mc_mode_state.specs.declared.state.State.{State}
use Rattle.mc_mode_state.proofs.Narrow.{Below, narrowed-below}
use Rattle.laws_order.specs.SomeTest.{InstsEnd, SymbolsEnd, TypesMet, SomeTestTells, NodesAreTold}
use Rattle.laws_modes.specs.OrdersNamed.{FindsBelow}
use Rattle.laws_modes.specs.ChosenNodes.{SomeAgree}
use Rattle.laws_order.proofs.Arranging.{not-both}
use Rattle.laws_modes.proofs.MergedThere.{node-dies, node-lives, node-takes, node-takes-not, stood-merged}
use Rattle.laws_modes.proofs.SameTypes.{same_type, same-refl, same-one, plain_type-injective}

-- ---- narrowing
abbrev row_in : FullName → List Listed → Option (List ℕ)
row_in f [] = None
row_in f (l ∷ ls) = if bytes_eq l.name f.bytes && nat_eq l.arity f.arity then Some l.args else row_in f ls

abbrev row_at : InstNode → (node : ℕ) → FullName → Option (List ℕ)
row_at free i f = None
row_at (bound ls) i f = row_in f ls
row_at _ i f = Some (replicate f.arity i)

first : (a b : Bool) → (a && b) ≡ true → a ≡ true
first true b h = refl
first false b h = cc

second : (a b : Bool) → (a && b) ≡ true → b ≡ true
second true b h = h
second false b h = cc

both : (a b : Bool) → a ≡ true → b ≡ true → (a && b) ≡ true
both true b h i = i
both false b h i = cc

module _ (P : Source) (s : ℕ) where
  abbrev RowIs : List Listed → Option (List ℕ) → Type 0
  RowIs ls None = Lists P ls s (λ is. Unit {0}) → ⊥
  RowIs ls (Some row) = Lists P ls s (λ is. is ≡ row)

  row-later : (l : Listed) (ls : List Listed) (o : Option (List ℕ)) → (bytes_eq l.name (P.symbols s).name.bytes && nat_eq l.arity (P.symbols s).name.arity) ≡ false → RowIs ls o → RowIs (l ∷ ls) o
  row-later l ls None e h = λ i. ⊎_elim (λ a. let t : (bytes_eq l.name (P.symbols s).name.bytes && nat_eq l.arity (P.symbols s).name.arity) ≡ true = both (bytes_eq l.name (P.symbols s).name.bytes) (nat_eq l.arity (P.symbols s).name.arity) ((bytes_eq-Decides l.name (P.symbols s).name.bytes).1 a.0) (eq-eqb l.arity (P.symbols s).name.arity a.1) in cc) h i
  row-later l ls (Some row) e h = inr h

  row-found : (ls : List Listed) → RowIs ls (row_in (P.symbols s).name ls)
  row-found [] = λ i. i
  row-found (l ∷ ls) = at (bytes_eq l.name (P.symbols s).name.bytes && nat_eq l.arity (P.symbols s).name.arity) refl (row-found ls)
    where
      at : (t : Bool) → (bytes_eq l.name (P.symbols s).name.bytes && nat_eq l.arity (P.symbols s).name.arity) ≡ t → RowIs ls (row_in (P.symbols s).name ls) → RowIs (l ∷ ls) (cond t (Some l.args) (row_in (P.symbols s).name ls))
      at true e h = inl ((bytes_eq-Decides l.name (P.symbols s).name.bytes).0 (first (bytes_eq l.name (P.symbols s).name.bytes) (nat_eq l.arity (P.symbols s).name.arity) e), eqb-true l.arity (P.symbols s).name.arity (second (bytes_eq l.name (P.symbols s).name.bytes) (nat_eq l.arity (P.symbols s).name.arity) e), refl)
      at false e h = row-later l ls (row_in (P.symbols s).name ls) e h

  abbrev RowOf : InstNode → (node : ℕ) → Option (List ℕ) → Type 0
  RowOf N i None = AllowsSymbol P N i s (λ is. Unit {0}) → ⊥
  RowOf N i (Some row) = AllowsSymbol P N i s (λ is. is ≡ row)

  listed-row : (ls : List Listed) (i : ℕ) (o : Option (List ℕ)) → RowIs ls o → RowOf (bound ls) i o
  listed-row ls i None h = h
  listed-row ls i (Some row) h = h

  row-of : (N : InstNode) (i : ℕ) → RowOf N i (row_at N i (P.symbols s).name)
  row-of free i = λ h. h
  row-of ground i = refl
  row-of unique i = refl
  row-of dead i = refl
  row-of (bound ls) i = listed-row ls i (row_in (P.symbols s).name ls) (row-found ls)

  narrowed-row : (G : Graph) (i : ℕ) (o : Option (List ℕ)) → RowOf (G i) i o → Narrowed P G i s o
  narrowed-row G i None h = h
  narrowed-row G i (Some row) h = h

  row-allowed : (N : InstNode) (i : ℕ) (row : List ℕ) (o : Option (List ℕ)) → o ≡ Some row → RowOf N i o → AllowsSymbol P N i s (λ is. is ≡ row)
  row-allowed N i row o e h = subst (RowOf N i) e h

numbers-below : (top : ℕ) (is : List ℕ) → Below top is → NumbersBelow top is
numbers-below top [] h = tt
numbers-below top (i ∷ is) h = (h 0 (omega arith), numbers-below top is (λ k lt. h (suc k) (omega (arith, lt))))

-- ---- merged insts at a type, by its place among those met
module _ (joins : List Entry) where
  abbrev joined_from : (rank : ℕ) → List Ty → TypeTerm → List ℕ → Option ℕ
  joined_from r [] t is = None
  joined_from r (u ∷ us) t is = if same_type (plain_type u) t then node_in joins r is else joined_from (suc r) us t is

  joined-found : (r : ℕ) (us : List Ty) (t : TypeTerm) (is : List ℕ) (k : ℕ) → joined_from r us t is ≡ Some k → (n : ℕ) × (node_in joins n is ≡ Some k)
  joined-found r [] t is k e = cc
  joined-found r (u ∷ us) t is k e = at (same_type (plain_type u) t) e (joined-found (suc r) us t is k)
    where
      at : (b : Bool) → cond b (node_in joins r is) (joined_from (suc r) us t is) ≡ Some k → (joined_from (suc r) us t is ≡ Some k → (n : ℕ) × (node_in joins n is ≡ Some k)) → (n : ℕ) × (node_in joins n is ≡ Some k)
      at true h later = (r, h)
      at false h later = later h

  -- so is one of that type
  joined-typed : (r : ℕ) (us : List Ty) (t : TypeTerm) (is : List ℕ) (k : ℕ) → joined_from r us t is ≡ Some k → (n : ℕ) × (node_in joins (r + n) is ≡ Some k) × (type_in us n ≡ t)
  joined-typed r [] t is k e = cc
  joined-typed r (u ∷ us) t is k e = at (same_type (plain_type u) t) refl e (joined-typed (suc r) us t is k)
    where
      at : (b : Bool) → same_type (plain_type u) t ≡ b → cond b (node_in joins r is) (joined_from (suc r) us t is) ≡ Some k → (joined_from (suc r) us t is ≡ Some k → (n : ℕ) × (node_in joins (suc r + n) is ≡ Some k) × (type_in us n ≡ t)) →
          (n : ℕ) × (node_in joins (r + n) is ≡ Some k) × (type_in (u ∷ us) n ≡ t)
      at true q h later = (0, ap (λ n. node_in joins n is) (omega arith) ∙ h, same-one (plain_type u) t q)
      at false q h later = (let f = later h in (suc f.0, ap (λ n. node_in joins n is) (omega arith) ∙ f.1, f.2))

  rest-once : (u : Ty) (us : List Ty) → Once (u ∷ us) → Once us
  rest-once u us h r v t lt less e = h (suc r) (suc v) t (omega (arith, lt)) (omega (arith, less)) e

  not-first : (u : Ty) (us : List Ty) (r : ℕ) → Once (u ∷ us) → r < length us → same_type (plain_type u) (type_in us r) ≡ false
  not-first u us r h lt = at (same_type (plain_type u) (type_in us r)) refl
    where
      at : (b : Bool) → same_type (plain_type u) (type_in us r) ≡ b → b ≡ false
      at true e =
          let p : plain_type u ≡ plain_type (get_or us r u) = same-one (plain_type u) (type_in us r) e ∙ get_or-map plain_type us r u (variable_type 0) lt in
          absurd (h 0 (suc r) u (omega arith) (omega (arith, lt)) (plain_type-injective u (get_or us r u) p))
      at false e = refl

  joined-at : (us : List Ty) (j r : ℕ) (is : List ℕ) → Once us → r < length us → joined_from j us (type_in us r) is ≡ node_in joins (j + r) is
  joined-at [] j r is h lt = absurd (omega (arith, lt))
  joined-at (u ∷ us) j zero is h lt = ap (λ b. cond b (node_in joins j is) (joined_from (suc j) us (plain_type u) is)) (same-refl (plain_type u)) ∙ ap (λ n. node_in joins n is) (omega arith)
  joined-at (u ∷ us) j (suc r) is h lt =
      let less : r < length us = omega (arith, lt) in
      ap (λ b. cond b (node_in joins j is) (joined_from (suc j) us (type_in us r) is)) (not-first u us r h less)
      ∙ (joined-at us (suc j) r is (rest-once u us h) less ∙ ap (λ n. node_in joins n is) (omega arith))

module _ (q : PlainProcs) (s : State) (stands : StateInvariant q s) where
  pub insts-end : InstsEnd (insts_of q) (count_of q.insts)
  insts-end i le = ap (plain_node q.insts.graph.functors) (get_or-eq_default q.insts.graph.nodes (N.Bound []) le ∙ sym (get_or-eq_default q.insts.graph.nodes (N.Bound []) (le_refl (count_of q.insts))))

  pub symbols-end : SymbolsEnd (source_of q) (length (map plain_symbol q.program.symbols))
  symbols-end k le = get_or-eq_default (map plain_symbol q.program.symbols) no_symbol le ∙ sym (get_or-eq_default (map plain_symbol q.program.symbols) no_symbol (le_refl (length (map plain_symbol q.program.symbols))))

  module _ (fits : Form → ℕ → TypeTerm → Bool) (tells : Tells (source_of q) (insts_of q) fits) (told : NodesAreTold) where
    abbrev pub choice : NodeOracle
    choice = record {
      is_dead = λ i. is_dead (insts_of q i);
      over = λ f is. node_in s.nodes.overs f is;
      joined = λ t is. joined_from s.nodes.joins 0 s.nodes.types.items t is;
      narrowed = λ i f. row_at (insts_of q i) i ((source_of q).symbols f).name;
      takes_constants = λ i. node_takes_constants (source_of q) (insts_of q) (insts_of q i);
      fits = λ i j t. fits (at i) j t;
    }

    pub choice-agrees : (T : ℕ → TypeTerm) → TypedAs s T → OracleAgrees q s choice T
    choice-agrees T typed = record {
      dies = λ i lt. refl;
      constants = λ i lt. refl;
      narrowed = λ i f lt. narrowed-row (source_of q) f (insts_of q) i (row_at (insts_of q i) i ((source_of q).symbols f).name) (row-of (source_of q) f (insts_of q i) i);
      fits = λ i j t li lj. told (source_of q) (insts_of q) fits tells i j t;
      over = λ f k is e. e;
      joined = λ r k is e.
          joined-at s.nodes.joins s.nodes.types.items 0 r is stands.nodes.once (stands.nodes.joins r k is e).0 ∙ (ap (λ n. node_in s.nodes.joins n is) (omega arith) ∙ e);
      types = typed;
    }

    pub choice-below : FindsBelow (count_of q.insts) choice
    choice-below = record {
      some = stands.fit.program.insts_are.builtins.many;
      over = λ f k is e. (stands.nodes.overs f k is e).0;
      joined = λ t k is e.
          let found = joined-found s.nodes.joins 0 s.nodes.types.items t is k e in
          let stood = (stands.nodes.joins found.0 k is found.1).1 in
          let a = stood.there in
          let b = stood.grown.more in
          omega (arith, a, b);
      narrowed = λ i f is lt e.
          numbers-below (count_of q.insts) is
          (narrowed-below (source_of q) q.insts i f is stands.fit.program.insts_are lt
          (row-allowed (source_of q) f (insts_of q i) i is (row_at (insts_of q i) i ((source_of q).symbols f).name) e (row-of (source_of q) f (insts_of q i) i)));
    }

    -- ---- the truth of a system of these
    abbrev P : Source
    P = source_of q

    abbrev G : Graph
    G = insts_of q

    -- a joined node was found to stand for the insts at the type
    pub choice-stood : (t : TypeTerm) (is : List ℕ) (k : ℕ) → choice.joined t is ≡ Some k → StoodFor P q.insts is k t
    choice-stood t is k e =
        let found = joined-typed s.nodes.joins 0 s.nodes.types.items t is k e in
        subst (λ u. StoodFor P q.insts is k u) found.2
        (stands.nodes.joins found.0 k is (ap (λ n. node_in s.nodes.joins n is) (omega arith) ∙ found.1)).1

    choice-joined : (t : TypeTerm) (is : List ℕ) (k : ℕ) (all : Bool) → AllAre all is → EachIsTidy P G is t → choice.joined t is ≡ Some k → Merged P G is k t × Tidy P G k t
    choice-joined t is k all are tidy e = stood-merged P q.insts stands.fit.program.insts_are.insts is k t all (choice-stood t is k e) are tidy

    module _ (S : System) (same-source : S.world.source ≡ P) (same-insts : S.insts ≡ G) (T : ℕ → TypeTerm) where
      abbrev Told : (Source → Graph → Type 0) → Type 0
      Told A = A S.world.source S.insts

      told-there : (A : Source → Graph → Type 0) → A P G → Told A
      told-there A a = subst (λ p. A p S.insts) (sym same-source) (subst (λ g. A P g) (sym same-insts) a)

      told-here : (A : Source → Graph → Type 0) → Told A → A P G
      told-here A a = subst (λ g. A P g) same-insts (subst (λ p. A p S.insts) same-source a)

      narrowed-there : (i f : ℕ) (o : Option (List ℕ)) → Narrowed P G i f o → IsNarrowed S T i f o
      narrowed-there i f None h = told-there (λ p g. AllowsSymbol p (g i) i f (λ js. Unit {0}) → ⊥) h
      narrowed-there i f (Some is) h = told-there (λ p g. AllowsSymbol p (g i) i f (λ js. js ≡ is)) h

      choice-truthful : Truthful S T choice
      choice-truthful = record {
        dies = λ i e. told-there (λ p g. g i ≡ dead) (node-dies (G i) e);
        lives = λ i e d. node-lives (G i) e (told-here (λ p g. g i ≡ dead) d);
        over = λ f i is e.
            told-there
            (λ p g. g i ≡ bound (record { name = (p.symbols f).name.bytes; arity = (p.symbols f).name.arity; args = is } ∷ []))
            (stands.nodes.overs f i is e).1;
        joined = λ t is k all are ne tidy e.
            told-there (λ p g. Merged p g is k t × Tidy p g k t) (choice-joined t is k all are (told-here (λ p g. EachIsTidy p g is t) tidy) e);
        narrowed = λ i f.
            narrowed-there i f (row_at (G i) i (P.symbols f).name) (narrowed-row P f G i (row_at (G i) i (P.symbols f).name) (row-of P f (G i) i));
        constants = λ i e. told-there (λ p g. AllowsConstants (g i)) (node-takes P G (G i) e);
        no_constants = λ i e a. node-takes-not P G (G i) e (told-here (λ p g. AllowsConstants (g i)) a);
        fits = λ i j t e. told-there (λ p g. Included p g i j t) ((told P G fits tells i j t).0 e);
        fits_not = λ i j t e a. not-both (fits (at i) j t) ((told P G fits tells i j t).1 (told-here (λ p g. Included p g i j t) a)) e;
      }

pub some-agree : SomeTestTells → NodesAreTold → SomeAgree
some-agree tests told q s stands met =
    let some = tests (source_of q) (insts_of q) (count_of q.insts) (length (map plain_symbol q.program.symbols)) stands.fit.program.insts_are.insts (insts-end q s stands) (symbols-end q s stands) met in
    (choice q s stands some.0 some.1 told, choice-agrees q s stands some.0 some.1 told, choice-below q s stands some.0 some.1 told, (λ S e i T. choice-truthful q s stands some.0 some.1 told S e i T))

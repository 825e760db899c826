-- Inclusion by paths is what a walk over functors finds.
use Rattle.std.proofs.Common.{◌≡◌, inl, inr, ℕ, zero, suc, ◌<◌, ◌≤◌, Bool, true, false, cond, nat_eq, is_some, List, [], ◌∷◌, length, get_or, map, replicate, Option, Some, None, refl, sym, ap, ◌∙◌, subst, arith, ⊎_elim}
use Rattle.std.proofs.lemmas.Bool.{eqb-true, eqb-false}
use Rattle.std.proofs.lemmas.List.{length-replicate}
use Rattle.mc_program.specs.Programs.{TypeTerm, int_type, char_type, string_type, state_type, variable_type, union_type, TypeTerms, Source}
use Rattle.mc_model.specs.Types.{takes, argument_types}
use Rattle.mc_model.specs.Insts.{Graph, Lists, AllowsSymbol, AllowsConstants}
use Rattle.mc_accepted.specs.Inclusion.{Mark, sole, shared, gone, Tip, symbol_tip, constant_tip, state_tip, Path, AllowsMark, OnTypes, AllowsTip, Allows, NoMore}
use Rattle.mc_insts.specs.code.Through.{Through}
use Rattle.mc_insts.specs.code.Overs.{from_case, node_list}
use Rattle.mc_insts.specs.declared.graph.Case.{Case}
use Rattle.mc_insts.specs.code.Functors.{Functor}
use Rattle.mc_insts.specs.declared.graph.Node.{Node}
use Rattle.mc_insts.specs.declared.graph.Node.TheVariants as N
use Rattle.mc_insts.specs.declared.graph.Shape.{Shape}
use Rattle.mc_insts.specs.declared.graph.Shape.TheVariants as S
use Rattle.mc_insts.specs.declared.triples.Triple.{Triple}
use Rattle.mc_insts.specs.code.Cases.{find_case, argument, node_has, node_arg, row_arg, marks, Rising}
use Rattle.mc_insts.specs.code.Walks.{Scene, node_at, shape_at, functor_at, arity_of, low_of, high_of, row_of, child, Counts, Tips, Upto, Below, Within, ProperCases, Proper}
use Rattle.mc_insts.specs.code.Shown.{plain_case, plain_node, plain_graph, Distinct, Kind, Meant, RowsAre}
use Rattle.mc_insts.proofs.Found.{rising_above, rising_tail, by_order}
use Rattle.mc_insts.proofs.Scenes.{found, has_some, case_fits, node_arg_there, row_arg_there}

pub get_replicate : (n i k : ℕ) → k < n → get_or (replicate {A = ℕ} n i) k 0 ≡ i
get_replicate zero i k h = absurd (omega arith)
get_replicate (suc n) i zero h = refl
get_replicate (suc n) i (suc k) h = get_replicate n i k (omega arith)

from_argument : (o : Option (List ℕ)) (k : ℕ) → get_or (from_case o) k 0 ≡ argument o k
from_argument None k = refl
from_argument (Some xs) k = refl

pub list_arg : (M : Node) (i f n k : ℕ) → k < n → get_or (node_list M i f n) k 0 ≡ node_arg M i f k
list_arg N.Free i f n k h = refl
list_arg N.Ground i f n k h = get_replicate n i k h
list_arg N.Unique i f n k h = get_replicate n i k h
list_arg N.Dead i f n k h = get_replicate n i k h
list_arg (N.Bound cs) i f n k h = from_argument (find_case cs f) k

module _ (P : Source) (fs : List Functor) (distinct : Distinct fs) (s f : ℕ) (within : f < length fs)
    (name : (functor_at fs f).name ≡ (P.symbols s).name.bytes) (arity : (functor_at fs f).arity ≡ (P.symbols s).name.arity) where
  head_found : (c : Case) (o : Option (List ℕ)) (t : Bool) → nat_eq c.functor f ≡ t → c.functor ≡ f → (is_some (cond t (Some c.args) o) ≡ true) × (from_case (cond t (Some c.args) o) ≡ c.args)
  head_found c o true e h = (refl, refl)
  head_found c o false e h = absurd (eqb-false c.functor f e h)

  later_found : (c : Case) (o : Option (List ℕ)) (Q : List ℕ → Type 0) (t : Bool) → nat_eq c.functor f ≡ t → (c.functor ≡ f → ⊥) → is_some o ≡ true → Q (from_case o) → (is_some (cond t (Some c.args) o) ≡ true) × Q (from_case (cond t (Some c.args) o))
  later_found c o Q true e n h q = absurd (n (eqb-true c.functor f e))
  later_found c o Q false e n h q = (h, q)

  pub lists_to : (cs : List Case) (Q : List ℕ → Type 0) → Rising cs → ((k : ℕ) (d : Case) → k < length cs → (get_or cs k d).functor < length fs) → Lists P (map (plain_case fs) cs) s Q → (is_some (find_case cs f) ≡ true) × Q (from_case (find_case cs f))
  lists_to [] Q r w h = absurd h
  lists_to (c ∷ cs) Q r w h =
      ⊎_elim
      (λ a. let same : c.functor ≡ f = distinct c.functor f (w 0 c (omega arith)) within (a.0 ∙ sym name) (a.1 ∙ sym arity) in
      let x = head_found c (find_case cs f) (nat_eq c.functor f) refl same in (x.0, subst Q (sym x.1) a.2))
      (λ b. let x = lists_to cs Q (rising_tail c cs r) (λ k d lt. w (suc k) d (omega arith)) b in
      let y = has_some (find_case cs f) x.0 in
      let z = found cs f y.0 y.1 in
      let above : c.functor < (get_or cs z.place z.case).functor = rising_above c cs r z.place z.case z.within in
      let at : (get_or cs z.place z.case).functor ≡ f = ap (λ (v : Case). v.functor) z.is ∙ z.functor in
      later_found c (find_case cs f) Q (nat_eq c.functor f) refl (λ e. absurd (omega arith)) x.0 x.1)
      h

  case_from : (c : Case) (cs : List Case) (Q : List ℕ → Type 0) (t : Bool) → nat_eq c.functor f ≡ t → is_some (cond t (Some c.args) (find_case cs f)) ≡ true → Q (from_case (cond t (Some c.args) (find_case cs f)))
      → (is_some (find_case cs f) ≡ true → Q (from_case (find_case cs f)) → Lists P (map (plain_case fs) cs) s Q) → Lists P (map (plain_case fs) (c ∷ cs)) s Q
  case_from c cs Q true e h q later = let same = eqb-true c.functor f e in inl (ap (λ g. (functor_at fs g).name) same ∙ name, ap (λ g. (functor_at fs g).arity) same ∙ arity, q)
  case_from c cs Q false e h q later = inr (later h q)

  pub lists_from : (cs : List Case) (Q : List ℕ → Type 0) → is_some (find_case cs f) ≡ true → Q (from_case (find_case cs f)) → Lists P (map (plain_case fs) cs) s Q
  lists_from [] Q h q = cc
  lists_from (c ∷ cs) Q h q = case_from c cs Q (nat_eq c.functor f) refl h q (lists_from cs Q)

  pub allows_from : (M : Node) (i n : ℕ) (Q : List ℕ → Type 0) → n ≡ (P.symbols s).name.arity → node_has M f ≡ true → Q (node_list M i f n) → AllowsSymbol P (plain_node fs M) i s Q
  allows_from N.Free i n Q e h q = cc
  allows_from N.Ground i n Q e h q = subst (λ m. Q (replicate m i)) e q
  allows_from N.Unique i n Q e h q = subst (λ m. Q (replicate m i)) e q
  allows_from N.Dead i n Q e h q = subst (λ m. Q (replicate m i)) e q
  allows_from (N.Bound cs) i n Q e h q = lists_from cs Q h q

  pub allows_to : (C : Scene) (top : ℕ) → C.functors ≡ fs → (M : Node) → ((cs : List Case) → M ≡ N.Bound cs → ProperCases C top cs) → (i n : ℕ) (Q : List ℕ → Type 0) → n ≡ (P.symbols s).name.arity → AllowsSymbol P (plain_node fs M) i s Q → (node_has M f ≡ true) × Q (node_list M i f n)
  allows_to C top g N.Free p i n Q e h = absurd h
  allows_to C top g N.Ground p i n Q e h = (refl, subst (λ m. Q (replicate m i)) (sym e) h)
  allows_to C top g N.Unique p i n Q e h = (refl, subst (λ m. Q (replicate m i)) (sym e) h)
  allows_to C top g N.Dead p i n Q e h = (refl, subst (λ m. Q (replicate m i)) (sym e) h)
  allows_to C top g (N.Bound cs) p i n Q e h = let x = p cs refl in lists_to cs Q x.rising (λ k d lt. subst (λ gs. (get_or cs k d).functor < length gs) g (x.fitting k d lt).functor) h

-- constants and marks by numbers
constants_to : (fs : List Functor) (M : Node) → AllowsConstants (plain_node fs M) → 0 < marks M
constants_to fs N.Free h = absurd h
constants_to fs N.Ground h = omega arith
constants_to fs N.Unique h = omega arith
constants_to fs N.Dead h = omega arith
constants_to fs (N.Bound cs) h = absurd h

constants_from : (fs : List Functor) (M : Node) → 0 < marks M → AllowsConstants (plain_node fs M)
constants_from fs N.Free h = absurd (omega arith)
constants_from fs N.Ground h = tt
constants_from fs N.Unique h = tt
constants_from fs N.Dead h = tt
constants_from fs (N.Bound cs) h = absurd (omega arith)

abbrev pub level : Mark → ℕ
level sole = 1
level shared = 2
level gone = 3

mark_to : (fs : List Functor) (M : Node) (m : Mark) → AllowsMark (plain_node fs M) m → level m ≤ marks M
mark_to fs N.Free m h = absurd h
mark_to fs N.Ground sole h = omega arith
mark_to fs N.Ground shared h = omega arith
mark_to fs N.Ground gone h = absurd h
mark_to fs N.Unique sole h = omega arith
mark_to fs N.Unique shared h = absurd h
mark_to fs N.Unique gone h = absurd h
mark_to fs N.Dead sole h = omega arith
mark_to fs N.Dead shared h = omega arith
mark_to fs N.Dead gone h = omega arith
mark_to fs (N.Bound cs) m h = absurd h

mark_from : (fs : List Functor) (M : Node) (m : Mark) → level m ≤ marks M → AllowsMark (plain_node fs M) m
mark_from fs N.Free sole h = absurd (omega arith)
mark_from fs N.Free shared h = absurd (omega arith)
mark_from fs N.Free gone h = absurd (omega arith)
mark_from fs N.Ground sole h = tt
mark_from fs N.Ground shared h = tt
mark_from fs N.Ground gone h = absurd (omega arith)
mark_from fs N.Unique sole h = tt
mark_from fs N.Unique shared h = absurd (omega arith)
mark_from fs N.Unique gone h = absurd (omega arith)
mark_from fs N.Dead m h = tt
mark_from fs (N.Bound cs) sole h = absurd (omega arith)
mark_from fs (N.Bound cs) shared h = absurd (omega arith)
mark_from fs (N.Bound cs) gone h = absurd (omega arith)

-- a node that allows a state has a highest mark
pub highest : (M : Node) → 0 < marks M → (m : Mark) × (level m ≡ marks M)
highest N.Free h = absurd (omega arith)
highest N.Ground h = (shared, refl)
highest N.Unique h = (sole, refl)
highest N.Dead h = (gone, refl)
highest (N.Bound cs) h = absurd (omega arith)

takes_union : (b : TypeTerm) (u : ℕ) (ts : TypeTerms) → takes b (union_type u ts) ≡ false
takes_union int_type u ts = refl
takes_union char_type u ts = refl
takes_union string_type u ts = refl
takes_union state_type u ts = refl
takes_union (variable_type v) u ts = refl
takes_union (union_type w us) u ts = refl

pub takes_any : (b : TypeTerm) (v : ℕ) → takes b (variable_type v) ≡ true
takes_any int_type v = refl
takes_any char_type v = refl
takes_any string_type v = refl
takes_any state_type v = refl
takes_any (variable_type w) v = refl
takes_any (union_type w us) v = refl

module _ (P : Source) (C : Scene) (type : ℕ → TypeTerm) (proper : Proper C) (distinct : Distinct C.functors) where
  abbrev G : Graph
  G = plain_graph C.functors C.nodes

  cases_of : (i : ℕ) (cs : List Case) → node_at C.nodes i ≡ N.Bound cs → ProperCases C (length C.nodes) cs
  cases_of i cs e = proper.nodes i cs e

  pub list_length : (i f : ℕ) (M : Node) → node_at C.nodes i ≡ M → node_has M f ≡ true → length (node_list M i f (arity_of C f)) ≡ arity_of C f
  list_length i f N.Free e h = cc
  list_length i f N.Ground e h = length-replicate (arity_of C f) i
  list_length i f N.Unique e h = length-replicate (arity_of C f) i
  list_length i f N.Dead e h = length-replicate (arity_of C f) i
  list_length i f (N.Bound cs) e h =
      let x = has_some (find_case cs f) h in
      subst (λ o. length (from_case o) ≡ arity_of C f) (sym x.1) ((case_fits C proper (length C.nodes) cs (proper.nodes i cs e) f x.0 x.1).0)

  module _ (r s : ℕ) (ts : List TypeTerm) (f : ℕ) (typed : argument_types P s (type r) ≡ Some ts) (meant : Meant P C type r s ts f) where
    abbrev arg_row : ℕ → ℕ
    arg_row k = row_arg (shape_at C.rows r) r f k

    abbrev at : ℕ → ℕ → ℕ
    at i k = node_arg (node_at C.nodes i) i f k

    pub down : (i k : ℕ) (Z : ℕ → TypeTerm → Type 0) → node_has (node_at C.nodes i) f ≡ true → k < arity_of C f → Z (at i k) (type (arg_row k)) → Through P G s k Z i (type r)
    down i k Z h lt a =
        let Q : List ℕ → Type 0 = λ is. (k < length is) × Z (get_or is k 0) (get_or ts k (variable_type 0)) in
        let l = list_length i f (node_at C.nodes i) refl h in
        let q : Q (node_list (node_at C.nodes i) i f (arity_of C f)) = (
          subst (λ n. k < n) (sym l) lt,
          subst (λ u. Z (get_or (node_list (node_at C.nodes i) i f (arity_of C f)) k 0) u) (sym (meant.types k lt))
              (subst (λ j. Z j (type (arg_row k))) (sym (list_arg (node_at C.nodes i) i f (arity_of C f) k lt)) a),
        ) in
        subst
        (λ o. OnTypes o (λ us. AllowsSymbol P (G i) i s (λ is. (k < length is) × Z (get_or is k 0) (get_or us k (variable_type 0)))))
        (sym typed)
        (allows_from P C.functors distinct s f meant.within meant.name meant.arity (node_at C.nodes i) i (arity_of C f) Q meant.arity h q)

    pub up : (i k : ℕ) (Z : ℕ → TypeTerm → Type 0) → Through P G s k Z i (type r) → (node_has (node_at C.nodes i) f ≡ true) × (k < arity_of C f) × Z (at i k) (type (arg_row k))
    up i k Z a =
        let Q : List ℕ → Type 0 = λ is. (k < length is) × Z (get_or is k 0) (get_or ts k (variable_type 0)) in
        let h : AllowsSymbol P (G i) i s Q = subst
        (λ o. OnTypes o (λ us. AllowsSymbol P (G i) i s (λ is. (k < length is) × Z (get_or is k 0) (get_or us k (variable_type 0)))))
        typed a in
        let x = allows_to P C.functors distinct s f meant.within meant.name meant.arity C (length C.nodes) refl (node_at C.nodes i) (proper.nodes i) i (arity_of C f) Q meant.arity h in
        let lt : k < arity_of C f = subst (λ n. k < n) (list_length i f (node_at C.nodes i) refl x.0) x.1.0 in (
          x.0,
          lt,
          subst (λ j. Z j (type (arg_row k))) (list_arg (node_at C.nodes i) i f (arity_of C f) k lt)
              (subst (λ u. Z (get_or (node_list (node_at C.nodes i) i f (arity_of C f)) k 0) u) (meant.types k lt) x.1.1),
        )

    pub goes_down : (i k : ℕ) (path : Path) (e : Tip) → node_has (node_at C.nodes i) f ≡ true → k < arity_of C f → Allows P G path e (at i k) (type (arg_row k)) → Allows P G ((s, k) ∷ path) e i (type r)
    goes_down i k path e = down i k (Allows P G path e)

    pub comes_up : (i k : ℕ) (path : Path) (e : Tip) → Allows P G ((s, k) ∷ path) e i (type r) → (node_has (node_at C.nodes i) f ≡ true) × (k < arity_of C f) × Allows P G path e (at i k) (type (arg_row k))
    comes_up i k path e = up i k (Allows P G path e)

    pub tip_down : (i : ℕ) → node_has (node_at C.nodes i) f ≡ true → AllowsTip P (G i) i (type r) (symbol_tip s)
    tip_down i h = subst (λ o. OnTypes o (λ us. AllowsSymbol P (G i) i s (λ is. Unit {0}))) (sym typed) (allows_from P C.functors distinct s f meant.within meant.name meant.arity (node_at C.nodes i) i (arity_of C f) (λ is. Unit {0}) meant.arity h tt)

    pub tip_up : (i : ℕ) → AllowsTip P (G i) i (type r) (symbol_tip s) → node_has (node_at C.nodes i) f ≡ true
    tip_up i a =
        let h : AllowsSymbol P (G i) i s (λ is. Unit {0}) = subst (λ o. OnTypes o (λ us. AllowsSymbol P (G i) i s (λ is. Unit {0}))) typed a in
        (allows_to P C.functors distinct s f meant.within meant.name meant.arity C (length C.nodes) refl (node_at C.nodes i) (proper.nodes i) i (arity_of C f) (λ is. Unit {0}) meant.arity h).0

  -- a path through a constructor, or its tip, has the constructor's types
  pub symbol_typed : (s i r : ℕ) (Q : List TypeTerm → Type 0) (o : Option (List TypeTerm)) → argument_types P s (type r) ≡ o → OnTypes o Q → (ts : List TypeTerm) × (argument_types P s (type r) ≡ Some ts)
  symbol_typed s i r Q None e h = absurd h
  symbol_typed s i r Q (Some ts) e h = (ts, e)

  constant_kind : (R : Shape) (b t : TypeTerm) (M K : Node) → Kind R t → takes b t ≡ true → Tips M K R → 0 < marks M → 0 < marks K
  constant_kind S.Constants b t M K kind h tips m = tips m
  constant_kind S.State b t M K kind h tips m = omega arith
  constant_kind S.Any b t M K kind h tips m = omega arith
  constant_kind (S.Union cs) b t M K kind h tips m = let x : takes b (union_type kind.0 kind.1.0) ≡ true = subst (λ u. takes b u ≡ true) kind.1.1 h in let y = takes_union b kind.0 kind.1.0 in cc

  state_kind : (R : Shape) (t : TypeTerm) (M K : Node) → Kind R t → takes state_type t ≡ true → Tips M K R → marks M ≤ marks K
  state_kind S.Constants t M K kind h tips =
      ⊎_elim (λ e. let x : takes state_type int_type ≡ true = subst (λ u. takes state_type u ≡ true) e h in cc)
      (λ k. ⊎_elim (λ e. let x : takes state_type char_type ≡ true = subst (λ u. takes state_type u ≡ true) e h in cc) (λ e. let x : takes state_type string_type ≡ true = subst (λ u. takes state_type u ≡ true) e h in cc) k)
      kind
  state_kind S.State t M K kind h tips = tips
  state_kind S.Any t M K kind h tips = tips
  state_kind (S.Union cs) t M K kind h tips = let x : takes state_type (union_type kind.0 kind.1.0) ≡ true = subst (λ u. takes state_type u ≡ true) kind.1.1 h in cc

  module _ (rows : RowsAre P C type) where
    -- what is below allows no more
    pub more_by_paths : (path : Path) (e : Tip) (t : Triple) → Within C t → Below C t → Allows P G path e t.low (type t.row) → Allows P G path e t.high (type t.row)
    more_by_paths [] (symbol_tip s) t w b a =
        let R = rows t.row w.row in
        let typed = symbol_typed s t.low t.row _ (argument_types P s (type t.row)) refl a in
        let m = R.complete s typed.0 typed.1 in
        let has = tip_up t.row s typed.0 m.0 typed.1 m.1 t.low a in
        tip_down t.row s typed.0 m.0 typed.1 m.1 t.high (((b 1).1 m.0 (record { typed = m.1.typed; listed = has })).0)
    more_by_paths [] (constant_tip c) t w b a =
        (a.0, constants_from C.functors (high_of C t) (constant_kind (row_of C t) c (type t.row) (low_of C t) (high_of C t) (rows t.row w.row).kind a.0 (b 1).0 (constants_to C.functors (low_of C t) a.1)))
    more_by_paths [] (state_tip m) t w b a =
        let x = state_kind (row_of C t) (type t.row) (low_of C t) (high_of C t) (rows t.row w.row).kind a.0 (b 1).0 in
        let y = mark_to C.functors (low_of C t) m a.1 in
        (a.0, mark_from C.functors (high_of C t) m (omega arith))
    more_by_paths ((s, k) ∷ path) e t w b a =
        let R = rows t.row w.row in
        let typed = symbol_typed s t.low t.row _ (argument_types P s (type t.row)) refl a in
        let m = R.complete s typed.0 typed.1 in
        let x = comes_up t.row s typed.0 m.0 typed.1 m.1 t.low k path e a in
        let counts : Counts C t m.0 = record { typed = m.1.typed; listed = x.0 } in
        let has : node_has (high_of C t) m.0 ≡ true = ((b 1).1 m.0 counts).0 in
        let down : Within C (child C t m.0 k) = record { low = node_arg_there C proper t.low m.0 k w.low x.0 x.1; high = node_arg_there C proper t.high m.0 k w.high has x.1; row = row_arg_there C proper t.row m.0 k w.row m.1.typed x.1 } in
        goes_down t.row s typed.0 m.0 typed.1 m.1 t.high k path e has x.1
        (more_by_paths path e (child C t m.0 k) down (λ n. ((b (suc n)).1 m.0 counts).1 k x.1) x.2)

    constant_of : (t : Triple) (b : TypeTerm) → takes b (type t.row) ≡ true → NoMore P G t.low t.high (type t.row) → 0 < marks (low_of C t) → 0 < marks (high_of C t)
    constant_of t b h more m = constants_to C.functors (high_of C t) (more [] (constant_tip b) (h, constants_from C.functors (low_of C t) m)).1

    mark_of : (t : Triple) → takes state_type (type t.row) ≡ true → NoMore P G t.low t.high (type t.row) → marks (low_of C t) ≤ marks (high_of C t)
    mark_of t h more =
        by_order 0 (marks (low_of C t))
        (λ m.
        let x = highest (low_of C t) m in
        let y = mark_to C.functors (high_of C t) x.0 (more [] (state_tip x.0) (h, mark_from C.functors (low_of C t) x.0 (omega arith))).1 in
        let z = x.1 in
        omega arith)
        (λ z. omega arith)
        (λ z. omega arith)

    tips_of : (t : Triple) → (R : Shape) → Kind R (type t.row) → NoMore P G t.low t.high (type t.row) → Tips (low_of C t) (high_of C t) R
    tips_of t S.Constants kind more = λ m.
        ⊎_elim (λ e. constant_of t int_type (subst (λ u. takes int_type u ≡ true) (sym e) refl) more m)
        (λ k. ⊎_elim (λ e. constant_of t char_type (subst (λ u. takes char_type u ≡ true) (sym e) refl) more m) (λ e. constant_of t string_type (subst (λ u. takes string_type u ≡ true) (sym e) refl) more m) k) kind
    tips_of t S.State kind more = mark_of t (subst (λ u. takes state_type u ≡ true) (sym kind) refl) more
    tips_of t S.Any kind more = mark_of t (subst (λ u. takes state_type u ≡ true) (sym kind.1) refl) more
    tips_of t (S.Union cs) kind more = tt

    pub below_by_paths : (n : ℕ) (t : Triple) → Within C t → NoMore P G t.low t.high (type t.row) → Upto C n t
    below_by_paths zero t w more = tt
    below_by_paths (suc n) t w more = (
      tips_of t (row_of C t) (rows t.row w.row).kind more,
      λ f counts.
          let R = rows t.row w.row in
          let x = R.sound f counts.typed in
          let s = x.0 in
          let ts = x.1.0 in
          let typed = x.1.1.0 in
          let meant = x.1.1.1 in
          let has : node_has (high_of C t) f ≡ true = tip_up t.row s ts f typed meant t.high (more [] (symbol_tip s) (tip_down t.row s ts f typed meant t.low counts.listed)) in (
            has,
            λ k lt. below_by_paths n (child C t f k)
                (record { low = node_arg_there C proper t.low f k w.low counts.listed lt; high = node_arg_there C proper t.high f k w.high has lt; row = row_arg_there C proper t.row f k w.row counts.typed lt })
                (λ path e a. (comes_up t.row s ts f typed meant t.high k path e (more ((s, k) ∷ path) e (goes_down t.row s ts f typed meant t.low k path e counts.listed lt a))).2),
          ),
    )

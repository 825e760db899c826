-- What stands for a pair is the least above both, over all graphs.
use Rattle.std.proofs.Common.{◌≡◌, inl, inr, ℕ, ◌+◌, ◌<◌, ◌≤◌, true, false, ◌||◌, Some, List, [], ◌∷◌, length, get_or, refl, sym, ap, ◌∙◌, subst, arith, length-append, ⊎_elim}
use Rattle.mc_program.specs.Programs.{TypeTerm, state_type, variable_type, Source}
use Rattle.mc_model.specs.Types.{takes, argument_types}
use Rattle.mc_model.specs.Insts.{Graph, AllowsSymbol}
use Rattle.mc_accepted.specs.Inclusion.{Tip, symbol_tip, constant_tip, state_tip, Path, OnTypes, Allows, NoMoreThere}
use Rattle.mc_accepted.specs.Proper.{ProperGraph}
use Rattle.mc_insts.specs.code.Functors.{Functor}
use Rattle.mc_insts.specs.declared.graph.Node.{Node}
use Rattle.mc_insts.specs.declared.graph.Node.TheVariants as N
use Rattle.mc_insts.specs.declared.graph.Shape.TheVariants as S
use Rattle.mc_insts.specs.declared.triples.Triple.{Triple}
use Rattle.mc_insts.specs.code.Cases.{node_has, node_arg, row_arg, marks}
use Rattle.mc_insts.specs.code.Steps.{same_of}
use Rattle.mc_insts.specs.code.Walks.{Scene, node_at, shape_at, arity_of, low_of, high_of, row_of, child, Below, Within, Proper}
use Rattle.mc_insts.specs.code.Merges.{Builtins, Apart, Next, Refers, Made}
use Rattle.mc_insts.specs.code.Shown.{plain_node, plain_graph, Distinct, Kind, Meant, RowsAre}
use Rattle.mc_insts.proofs.Found.{by_order}
use Rattle.mc_insts.proofs.Bridge.{highest, goes_down, comes_up, tip_down, tip_up, symbol_typed, below_by_paths}
use Rattle.mc_insts.proofs.Overs.{Over, allows_over, over_allows, over_once, over_length, rank, rank_of, rank_to, builtin_more}
use Rattle.mc_insts.proofs.Merged.{D, node_old, node_new, below_back, proper_made, child_down, bound_arg, or_true, by_bool, bound_constants, bound_marks}

pub rank_marks : (fs : List Functor) (M : Node) → rank (plain_node fs M) ≡ marks M
rank_marks fs N.Free = refl
rank_marks fs N.Ground = refl
rank_marks fs N.Unique = refl
rank_marks fs N.Dead = refl
rank_marks fs (N.Bound cs) = refl

module _ (C : Scene) (proper : Proper C) (made : List Node) (root : Triple) (stood : ℕ) (m : Made C root stood made) (P : Source) (type : ℕ → TypeTerm) (distinct : Distinct C.functors) (rows : RowsAre P (D C proper made) type) where
  abbrev E : Scene
  E = D C proper made

  abbrev G : Graph
  G = plain_graph E.functors E.nodes

  whole : Proper E
  whole = proper_made C proper made root stood m

  ranked : (i : ℕ) → i < length C.nodes → rank (G i) ≡ marks (node_at C.nodes i)
  ranked i w = rank_marks E.functors (node_at E.nodes i) ∙ ap marks (node_old C proper made i w)

  module _ (H : Graph) (sound : ProperGraph H) where
    abbrev Above : (i h r : ℕ) → Type 0
    Above i h r = NoMoreThere P G i H h (type r)

    -- at a type variable what is above an inst allows the states that it allows
    state_above : (i h r v : ℕ) → type r ≡ variable_type v → Above i h r → rank (G i) ≤ rank (H h)
    state_above i h r v e up =
        let M = node_at E.nodes i in
        let same = rank_marks E.functors M in
        by_order 0 (marks M)
        (λ p.
        let x = highest M p in
        let l = x.1 in
        let a = up [] (state_tip x.0) (subst (λ u. takes state_type u ≡ true) (sym e) refl, rank_to (G i) x.0 (omega arith)) in
        let y = rank_of (H h) x.0 a.1 in
        omega arith)
        (λ z. omega arith)
        (λ z. absurd (omega arith))

    -- what is above an inst that a builtin one isn't above, is no builtin one that allows as few states
    no_less : (i g h r : ℕ) → i < length C.nodes → g < length C.nodes → r < length C.rows → (Below C (same_of i g r) → ⊥) → Above i h r → 1 ≤ rank (H h) → rank (H h) ≤ rank (G g) → ⊥
    no_less i g h r v w z none up p le =
        let l : length E.nodes ≡ length C.nodes + length made = length-append C.nodes made in
        none
        (λ n. below_back C proper made n (same_of i g r) (record { low = v; high = w; row = z })
        (below_by_paths P E type whole distinct rows n (same_of i g r) (record { low = omega arith; high = omega arith; row = z })
        (λ path e a. builtin_more P H G h g p le path e (type r) (up path e a))))

    -- the next builtin inst is below all that are above both
    next_least : Builtins C.nodes → (b i q h r : ℕ) → b < length C.nodes → i < length C.nodes → r < length C.rows → shape_at C.rows r ≡ S.Any → Apart C b i r → Next C i r q → Above b h r → Above i h r
        → (path : Path) (e : Tip) → Allows P G path e q (type r) → Allows P H path e h (type r)
    next_least B b i q h r v w z any apart next first second path e a =
        let kind = subst (λ R. Kind R (type r)) any (rows r z).kind in
        let many = B.many in
        let p = apart.0 in
        let rank_b = ranked b v in
        let rank_g : rank (G 1) ≡ 2 = ranked 1 (omega arith) ∙ ap marks B.ground_there in
        let rank_d : rank (G 3) ≡ 3 = ranked 3 many ∙ ap marks B.dead_there in
        let s = state_above b h r kind.0 kind.1 first in
        let one : rank (H h) ≡ 1 → ⊥ = λ c. no_less i b h r w v z apart.1.1 second (omega arith) (omega arith) in
        ⊎_elim
        (λ x.
        builtin_more P G H 1 h (omega arith)
        (by_order 1 (rank (H h)) (λ c. omega arith) (λ c. absurd (one (sym c))) (λ c. absurd (omega arith)))
        path e (type r) (subst (λ j. Allows P G path e j (type r)) x a))
        (λ x.
        let two : rank (H h) ≡ 2 → ⊥ = λ c. no_less i 1 h r w (omega arith) z x.1 second (omega arith) (omega arith) in
        builtin_more P G H 3 h (omega arith)
        (by_order 2 (rank (H h)) (λ c. omega arith) (λ c. absurd (two (sym c))) (λ c. absurd (one (omega arith))))
        path e (type r) (subst (λ j. Allows P G path e j (type r)) x.0 a))
        next

    -- an argument of a constructor
    module _ (r s : ℕ) (ts : List TypeTerm) (f b : ℕ) (typed : argument_types P s (type r) ≡ Some ts) (meant : Meant P E type r s ts f) (lt : b < arity_of E f) (h : ℕ) (args : List ℕ) (over : Over P (H h) h s args) where
      argument_above : (i : ℕ) → node_has (node_at E.nodes i) f ≡ true → Above i h r → Above (node_arg (node_at E.nodes i) i f b) (get_or args b 0) (row_arg (shape_at E.rows r) r f b)
      argument_above i has up path e a =
          let x : AllowsSymbol P (H h) h s (λ is. (b < length is) × Allows P H path e (get_or is b 0) (get_or ts b (variable_type 0))) =
          subst (λ o. OnTypes o (λ us. AllowsSymbol P (H h) h s (λ is. (b < length is) × Allows P H path e (get_or is b 0) (get_or us b (variable_type 0))))) typed
          (up ((s, b) ∷ path) e (goes_down P E type whole distinct r s ts f typed meant i b path e has lt a)) in
          let y = over_once P (H h) h s args (λ is. (b < length is) × Allows P H path e (get_or is b 0) (get_or ts b (variable_type 0))) (sound h) over x in
          subst (λ t. Allows P H path e (get_or args b 0) t) (meant.types b lt) y.1

      through_argument : (path : Path) (e : Tip) → Allows P H path e (get_or args b 0) (type (row_arg (shape_at E.rows r) r f b)) → Allows P H ((s, b) ∷ path) e h (type r)
      through_argument path e a =
          let l = over_length P (H h) h s args (sound h) over in
          let n = meant.arity in
          subst (λ o. OnTypes o (λ us. AllowsSymbol P (H h) h s (λ is. (b < length is) × Allows P H path e (get_or is b 0) (get_or us b (variable_type 0))))) (sym typed)
          (over_allows P (H h) h s (λ is. (b < length is) × Allows P H path e (get_or is b 0) (get_or ts b (variable_type 0))) args over
          (omega arith, subst (λ t. Allows P H path e (get_or args b 0) t) (sym (meant.types b lt)) a))

    pub least_there : Builtins C.nodes → (path : Path) (e : Tip) (u : Triple) (i h : ℕ) → Within C u → Refers C m.seen u i → Above u.low h u.row → Above u.high h u.row → Allows P G path e i (type u.row) → Allows P H path e h (type u.row)
    least_there B path e u i h w (inl d) p q a =
        ⊎_elim (λ x. p path e (subst (λ j. Allows P G path e j (type u.row)) x a))
        (λ o. ⊎_elim (λ x. q path e (subst (λ j. Allows P G path e j (type u.row)) x a))
        (λ c. ⊎_elim
        (λ x. next_least B u.low u.high i h u.row w.low w.high w.row c.0 x.0 x.1 p q path e a)
        (λ x. next_least B u.high u.low i h u.row w.high w.low w.row c.0 x.0 x.1 q p path e a)
        c.1) o)
        d.which
    least_there B [] (symbol_tip s) u i h w (inr z) p q a =
        let M = node_at made z.0 in
        let g = m.merges z.0 u z.1.0 in
        let here : node_at E.nodes i ≡ M = ap (node_at E.nodes) z.1.1 ∙ node_new C proper made z.0 in
        let R = rows u.row w.row in
        let typed = symbol_typed P E type whole distinct s i u.row _ (argument_types P s (type u.row)) refl a in
        let x = R.complete s typed.0 typed.1 in
        let has = tip_up P E type whole distinct u.row s typed.0 x.0 typed.1 x.1 i a in
        ⊎_elim
        (λ y. p [] (symbol_tip s) (tip_down P E type whole distinct u.row s typed.0 x.0 typed.1 x.1 u.low (subst (λ K. node_has K x.0 ≡ true) (sym (node_old C proper made u.low w.low)) y)))
        (λ y. q [] (symbol_tip s) (tip_down P E type whole distinct u.row s typed.0 x.0 typed.1 x.1 u.high (subst (λ K. node_has K x.0 ≡ true) (sym (node_old C proper made u.high w.high)) y)))
        (or_true (node_has (low_of C u) x.0) (node_has (high_of C u) x.0) (sym (g.has x.0 x.1.typed) ∙ subst (λ K. node_has K x.0 ≡ true) here has))
    least_there B [] (constant_tip b) u i h w (inr z) p q a =
        let g = m.merges z.0 u z.1.0 in
        absurd (bound_constants C proper made root stood m P type distinct rows (node_at E.nodes i) g.cases (ap (node_at E.nodes) z.1.1 ∙ node_new C proper made z.0 ∙ g.is) a.1)
    least_there B [] (state_tip x) u i h w (inr z) p q a =
        let g = m.merges z.0 u z.1.0 in
        absurd (bound_marks C proper made root stood m P type distinct rows (node_at E.nodes i) g.cases x (ap (node_at E.nodes) z.1.1 ∙ node_new C proper made z.0 ∙ g.is) a.1)
    least_there B ((s, b) ∷ path) e u i h w (inr z) p q a =
        let M = node_at made z.0 in
        let g = m.merges z.0 u z.1.0 in
        let here : node_at E.nodes i ≡ M = ap (node_at E.nodes) z.1.1 ∙ node_new C proper made z.0 in
        let R = rows u.row w.row in
        let typed = symbol_typed P E type whole distinct s i u.row _ (argument_types P s (type u.row)) refl a in
        let x = R.complete s typed.0 typed.1 in
        let f = x.0 in
        let meant = x.1 in
        let y = comes_up P E type whole distinct u.row s typed.0 f typed.1 meant i b path e a in
        let lt = y.1 in
        let below : ℕ = row_arg (row_of C u) u.row f b in
        let has : node_has M f ≡ true = subst (λ K. node_has K f ≡ true) here y.0 in
        let same : node_arg (node_at E.nodes i) i f b ≡ node_arg M 0 f b = ap (λ K. node_arg K i f b) here ∙ bound_arg M g.cases i 0 f b g.is in
        let inner : Allows P G path e (node_arg M 0 f b) (type below) = subst (λ j. Allows P G path e j (type below)) same y.2 in
        let left = node_old C proper made u.low w.low in
        let right = node_old C proper made u.high w.high in
        let down_low : node_has (low_of C u) f ≡ true → Allows P G path e (node_arg (low_of C u) u.low f b) (type below) → Allows P G ((s, b) ∷ path) e u.low (type u.row) =
        λ c v. goes_down P E type whole distinct u.row s typed.0 f typed.1 meant u.low b path e (subst (λ K. node_has K f ≡ true) (sym left) c) lt (subst (λ K. Allows P G path e (node_arg K u.low f b) (type below)) (sym left) v) in
        let down_high : node_has (high_of C u) f ≡ true → Allows P G path e (node_arg (high_of C u) u.high f b) (type below) → Allows P G ((s, b) ∷ path) e u.high (type u.row) =
        λ c v. goes_down P E type whole distinct u.row s typed.0 f typed.1 meant u.high b path e (subst (λ K. node_has K f ≡ true) (sym right) c) lt (subst (λ K. Allows P G path e (node_arg K u.high f b) (type below)) (sym right) v) in
        by_bool (node_has (low_of C u) f)
        (λ low. by_bool (node_has (high_of C u) f)
        (λ high.
        let has_low : node_has (node_at E.nodes u.low) f ≡ true = subst (λ K. node_has K f ≡ true) (sym left) low in
        let has_high : node_has (node_at E.nodes u.high) f ≡ true = subst (λ K. node_has K f ≡ true) (sym right) high in
        let tip : AllowsSymbol P (H h) h s (λ is. Unit {0}) =
        subst (λ o. OnTypes o (λ us. AllowsSymbol P (H h) h s (λ is. Unit {0}))) typed.1 (p [] (symbol_tip s) (tip_down P E type whole distinct u.row s typed.0 f typed.1 meant u.low has_low)) in
        let o = allows_over P (H h) h s (λ is. Unit {0}) tip in
        let first : Above (node_arg (low_of C u) u.low f b) (get_or o.0 b 0) below = subst (λ K. Above (node_arg K u.low f b) (get_or o.0 b 0) below) left (argument_above u.row s typed.0 f b typed.1 meant lt h o.0 o.1 u.low has_low p) in
        let second : Above (node_arg (high_of C u) u.high f b) (get_or o.0 b 0) below = subst (λ K. Above (node_arg K u.high f b) (get_or o.0 b 0) below) right (argument_above u.row s typed.0 f b typed.1 meant lt h o.0 o.1 u.high has_high q) in
        through_argument u.row s typed.0 f b typed.1 meant lt h o.0 o.1 path e
        (least_there B path e (child C u f b) (node_arg M 0 f b) (get_or o.0 b 0) (child_down C proper made root stood m u f b w meant.typed lt low high) (g.both f b meant.typed lt low high) first second inner))
        (λ high. p ((s, b) ∷ path) e (down_low low (subst (λ j. Allows P G path e j (type below)) (g.first f b meant.typed lt low high) inner))))
        (λ low. by_bool (node_has (high_of C u) f)
        (λ high. q ((s, b) ∷ path) e (down_high high (subst (λ j. Allows P G path e j (type below)) (g.second f b meant.typed lt low high) inner)))
        (λ high. let v = g.has f meant.typed in let n : (node_has (low_of C u) f || node_has (high_of C u) f) ≡ false = ap (λ c. c || node_has (high_of C u) f) low ∙ high in cc))

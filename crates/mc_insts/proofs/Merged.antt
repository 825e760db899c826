-- The nodes that are made allow exactly what one of the two insts allows.
use Rattle.std.proofs.Common.{◌≡◌, ◌⊎◌, inl, inr, ℕ, zero, suc, ◌+◌, ◌-◌, ◌<◌, ◌≤◌, Bool, true, false, ◌||◌, Some, List, [], ◌∷◌, ◌++◌, length, get_or, refl, sym, ap, ◌∙◌, subst, arith, length-append, ⊎_elim}
use Rattle.std.proofs.lemmas.List.{get_or_append_left, get_or-append-add}
use Rattle.mc_program.specs.Programs.{TypeTerm, state_type, variable_type, Source}
use Rattle.mc_model.specs.Types.{argument_types}
use Rattle.mc_model.specs.Insts.{unique, dead, Graph, AllowsConstants}
use Rattle.mc_accepted.specs.Inclusion.{Mark, Tip, symbol_tip, constant_tip, state_tip, Path, AllowsMark, Allows}
use Rattle.mc_insts.specs.declared.graph.Case.{Case}
use Rattle.mc_insts.specs.declared.graph.Node.{Node}
use Rattle.mc_insts.specs.declared.graph.Node.TheVariants as N
use Rattle.mc_insts.specs.declared.graph.Shape.{Shape}
use Rattle.mc_insts.specs.declared.graph.Shape.TheVariants as S
use Rattle.mc_insts.specs.declared.triples.Triple.{Triple}
use Rattle.mc_insts.specs.code.Cases.{node_has, node_arg, row_has, row_arg, marks}
use Rattle.mc_insts.specs.code.Steps.{same_of}
use Rattle.mc_insts.specs.code.Walks.{Scene, node_at, shape_at, arity_of, low_of, high_of, row_of, child, Counts, Tips, Upto, Within, ProperCases, Proper}
use Rattle.mc_insts.specs.code.Merges.{Apart, Clash, Refers, Bare, Made, top_of}
use Rattle.mc_insts.specs.code.Shown.{plain_node, plain_graph, Distinct, Kind, Meant, RowsAre}
use Rattle.mc_accepted.specs.Tidy.{Leads, Tidy}
use Rattle.mc_insts.proofs.Found.{by_order}
use Rattle.mc_insts.proofs.Growth.{same_triple}
use Rattle.mc_insts.proofs.Scenes.{child_within}
use Rattle.mc_insts.proofs.Steps.{has_by_marks, arg_by_marks}
use Rattle.mc_insts.proofs.Below.{below_same}
use Rattle.mc_insts.proofs.Bridge.{down, up, goes_down, comes_up, tip_down, tip_up, symbol_typed}

pub or_true : (a b : Bool) → (a || b) ≡ true → (a ≡ true) ⊎ (b ≡ true)
or_true true b h = inl refl
or_true false b h = inr h

or_second : (a b : Bool) → b ≡ true → (a || b) ≡ true
or_second true b h = refl
or_second false b h = h

pub by_bool : {P : Type 0} (b : Bool) → (b ≡ true → P) → (b ≡ false → P) → P
by_bool true f g = f refl
by_bool false f g = g refl

pub bound_arg : (M : Node) (cs : List Case) (i j f k : ℕ) → M ≡ N.Bound cs → node_arg M i f k ≡ node_arg M j f k
bound_arg M cs i j f k e = ap (λ K. node_arg K i f k) e ∙ sym (ap (λ K. node_arg K j f k) e)

marks_two : (M : Node) → (M ≡ N.Dead → ⊥) → marks M ≤ 2
marks_two N.Free n = omega arith
marks_two N.Ground n = omega arith
marks_two N.Unique n = omega arith
marks_two N.Dead n = absurd (n refl)
marks_two (N.Bound cs) n = omega arith

marks_one : (M : Node) → marks M ≡ 1 → M ≡ N.Unique
marks_one N.Free h = absurd (omega arith)
marks_one N.Ground h = absurd (omega arith)
marks_one N.Unique h = refl
marks_one N.Dead h = absurd (omega arith)
marks_one (N.Bound cs) h = absurd (omega arith)

low_tips : (M K Z : Node) (R : Shape) → Bare M K R → Tips M Z R
low_tips M K Z S.Constants b = λ h. let x = b.0 in absurd (omega arith)
low_tips M K Z S.State b = let x = b.0 in omega arith
low_tips M K Z S.Any b = let x = b.0 in omega arith
low_tips M K Z (S.Union cs) b = tt

high_tips : (M K Z : Node) (R : Shape) → Bare M K R → Tips K Z R
high_tips M K Z S.Constants b = λ h. let x = b.1 in absurd (omega arith)
high_tips M K Z S.State b = let x = b.1 in omega arith
high_tips M K Z S.Any b = let x = b.1 in omega arith
high_tips M K Z (S.Union cs) b = tt

tips_marks : (M K L : Node) (R : Shape) → marks K ≡ marks L → Tips M K R → Tips M L R
tips_marks M K L S.Constants e h = λ x. let y = h x in omega arith
tips_marks M K L S.State e h = omega arith
tips_marks M K L S.Any e h = omega arith
tips_marks M K L (S.Union cs) e h = tt

bound_tips : (M K : Node) (R : Shape) (cs : List Case) → M ≡ N.Bound cs → Tips M K R
bound_tips M K R cs e = subst (λ L. Tips L K R) (sym e) (none R)
  where
    none : (R : Shape) → Tips (N.Bound cs) K R
    none S.Constants = λ h. absurd (omega arith)
    none S.State = omega arith
    none S.Any = omega arith
    none (S.Union ds) = tt

module _ (C : Scene) (proper : Proper C) (made : List Node) where
  abbrev pub D : Scene
  D = record { nodes = C.nodes ++ made; functors = C.functors; rows = C.rows; known = C.known }

  pub node_old : (i : ℕ) → i < length C.nodes → node_at D.nodes i ≡ node_at C.nodes i
  node_old i h = get_or_append_left C.nodes made (N.Bound []) i h

  pub node_new : (n : ℕ) → node_at D.nodes (length C.nodes + n) ≡ node_at made n
  node_new n = get_or-append-add C.nodes made n (N.Bound [])

  child_old : (t : Triple) (f a : ℕ) → Within C t → child D t f a ≡ child C t f a
  child_old t f a w = same_triple _ _ _ _ _ _ (ap (λ K. node_arg K t.low f a) (node_old t.low w.low)) (ap (λ K. node_arg K t.high f a) (node_old t.high w.high)) refl

  tips_to : (M K L H : Node) (R : Shape) → M ≡ L → K ≡ H → Tips M K R → Tips L H R
  tips_to M K L H R e f h = subst (λ X. Tips L X R) f (subst (λ X. Tips X K R) e h)

  -- older nodes keep their meaning
  pub below_on : (n : ℕ) (t : Triple) → Within C t → Upto C n t → Upto D n t
  below_on zero t w b = tt
  below_on (suc n) t w b = (
    tips_to _ _ _ _ (row_of C t) (sym (node_old t.low w.low)) (sym (node_old t.high w.high)) b.0,
    λ f counts.
        let c : Counts C t f = record { typed = counts.typed; listed = subst (λ K. node_has K f ≡ true) (node_old t.low w.low) counts.listed } in
        let x = b.1 f c in (
          subst (λ K. node_has K f ≡ true) (sym (node_old t.high w.high)) x.0,
          λ a lt. subst (λ (u : Triple). Upto D n u) (sym (child_old t f a w))
              (below_on n (child C t f a) (child_within C proper t (child C t f a) w (record { functor = f; argument = a; counts = c; listed = x.0; within = lt; is = refl })) (x.1 a lt)),
        ),
  )

  pub below_back : (n : ℕ) (t : Triple) → Within C t → Upto D n t → Upto C n t
  below_back zero t w b = tt
  below_back (suc n) t w b = (
    tips_to _ _ _ _ (row_of C t) (node_old t.low w.low) (node_old t.high w.high) b.0,
    λ f counts.
        let d : Counts D t f = record { typed = counts.typed; listed = subst (λ K. node_has K f ≡ true) (sym (node_old t.low w.low)) counts.listed } in
        let x = b.1 f d in
        let has : node_has (high_of C t) f ≡ true = subst (λ K. node_has K f ≡ true) (node_old t.high w.high) x.0 in (
          has,
          λ a lt. below_back n (child C t f a) (child_within C proper t (child C t f a) w (record { functor = f; argument = a; counts = counts; listed = has; within = lt; is = refl }))
              (subst (λ (u : Triple). Upto D n u) (child_old t f a w) (x.1 a lt)),
        ),
  )

  module _ (root : Triple) (k : ℕ) (m : Made C root k made) where
    pub many : length D.nodes ≡ top_of C m.seen
    many = let x = m.count in let y : length (C.nodes ++ made) ≡ length C.nodes + length made = length-append C.nodes made in omega arith

    proper_case : (top : ℕ) (cs : List Case) → top ≤ length D.nodes → ProperCases C top cs → ProperCases D (length D.nodes) cs
    proper_case top cs le p = record {
      rising = p.rising;
      fitting = λ i d h. let f = p.fitting i d h in record { functor = f.functor; args = f.args; below = λ a lt. let x : get_or (get_or cs i d).args a 0 < top = f.below a lt in omega arith };
    }

    pub proper_made : Proper D
    proper_made = record {
      nodes = λ i cs e.
          let l = many in
          by_order i (length C.nodes)
          (λ x. proper_case (length C.nodes) cs (omega arith) (proper.nodes i cs (sym (node_old i x) ∙ e)))
          (λ x. proper_case (top_of C m.seen) cs (omega arith) (m.fits 0 cs (sym (node_new 0) ∙ ap (node_at D.nodes) (omega arith) ∙ e)))
          (λ x. proper_case (top_of C m.seen) cs (omega arith) (m.fits (i - length C.nodes) cs (sym (node_new (i - length C.nodes)) ∙ ap (node_at D.nodes) (omega arith) ∙ e)));
      rows = λ r cs e. let p = proper.rows r cs e in record { rising = p.rising; fitting = p.fitting };
      known = proper.known;
    }

    refers_there : (u : Triple) (i : ℕ) → Refers C m.seen u i → i < length D.nodes
    refers_there u i r =
        let l = many in
        ⊎_elim (λ d. let x = d.there in omega arith) (λ s. let x = s.1.0.within in let y = s.1.1 in omega arith) r

    pub stands_there : k < length D.nodes
    stands_there = refers_there root k m.refers

    pub child_down : (u : Triple) (f a : ℕ) → Within C u → row_has C.known (row_of C u) f ≡ true → a < arity_of C f → node_has (low_of C u) f ≡ true → node_has (high_of C u) f ≡ true → Within C (child C u f a)
    child_down u f a w h lt p q = child_within C proper u (child C u f a) w (record { functor = f; argument = a; counts = record { typed = h; listed = p }; listed = q; within = lt; is = refl })

    -- the first inst is below what stands for the pair
    pub above_low : (n : ℕ) (u : Triple) (i : ℕ) → Within C u → Refers C m.seen u i → Upto D n (same_of u.low i u.row)
    above_low zero u i w r = tt
    above_low (suc n) u i w r =
        ⊎_elim
        (λ d. below_on (suc n) (same_of u.low i u.row) (record { low = w.low; high = d.there; row = w.row }) (d.first (suc n)))
        (λ s.
        let M = node_at made s.0 in
        let g = m.merges s.0 u s.1.0 in
        let here : node_at D.nodes i ≡ M = ap (node_at D.nodes) s.1.1 ∙ node_new s.0 in
        let old = node_old u.low w.low in (
          tips_to _ _ _ _ (row_of C u) (sym old) refl (low_tips (low_of C u) (high_of C u) (node_at D.nodes i) (row_of C u) g.bare),
          λ f counts.
              let low : node_has (low_of C u) f ≡ true = subst (λ K. node_has K f ≡ true) old counts.listed in
              let has : node_has M f ≡ true = g.has f counts.typed ∙ ap (λ b. b || node_has (high_of C u) f) low in (
                subst (λ K. node_has K f ≡ true) (sym here) has,
                λ a lt.
                    let same : node_arg (node_at D.nodes i) i f a ≡ node_arg M 0 f a = ap (λ K. node_arg K i f a) here ∙ bound_arg M g.cases i 0 f a g.is in
                    let first : node_arg (node_at D.nodes u.low) u.low f a ≡ node_arg (low_of C u) u.low f a = ap (λ K. node_arg K u.low f a) old in
                    subst (λ (v : Triple). Upto D n v) (sym (same_triple _ _ _ _ _ _ first same refl))
                    (by_bool (node_has (high_of C u) f)
                    (λ high. above_low n (child C u f a) (node_arg M 0 f a) (child_down u f a w counts.typed lt low high) (g.both f a counts.typed lt low high))
                    (λ high. subst (λ j. Upto D n (same_of (node_arg (low_of C u) u.low f a) j (row_arg (row_of C u) u.row f a))) (sym (g.first f a counts.typed lt low high))
                    (below_same D (node_arg (low_of C u) u.low f a) (row_arg (row_of C u) u.row f a) n))),
              ),
        ))
        r

    pub above_high : (n : ℕ) (u : Triple) (i : ℕ) → Within C u → Refers C m.seen u i → Upto D n (same_of u.high i u.row)
    above_high zero u i w r = tt
    above_high (suc n) u i w r =
        ⊎_elim
        (λ d. below_on (suc n) (same_of u.high i u.row) (record { low = w.high; high = d.there; row = w.row }) (d.second (suc n)))
        (λ s.
        let M = node_at made s.0 in
        let g = m.merges s.0 u s.1.0 in
        let here : node_at D.nodes i ≡ M = ap (node_at D.nodes) s.1.1 ∙ node_new s.0 in
        let old = node_old u.high w.high in (
          tips_to _ _ _ _ (row_of C u) (sym old) refl (high_tips (low_of C u) (high_of C u) (node_at D.nodes i) (row_of C u) g.bare),
          λ f counts.
              let high : node_has (high_of C u) f ≡ true = subst (λ K. node_has K f ≡ true) old counts.listed in
              let has : node_has M f ≡ true = g.has f counts.typed ∙ or_second (node_has (low_of C u) f) (node_has (high_of C u) f) high in (
                subst (λ K. node_has K f ≡ true) (sym here) has,
                λ a lt.
                    let same : node_arg (node_at D.nodes i) i f a ≡ node_arg M 0 f a = ap (λ K. node_arg K i f a) here ∙ bound_arg M g.cases i 0 f a g.is in
                    let first : node_arg (node_at D.nodes u.high) u.high f a ≡ node_arg (high_of C u) u.high f a = ap (λ K. node_arg K u.high f a) old in
                    subst (λ (v : Triple). Upto D n v) (sym (same_triple _ _ _ _ _ _ first same refl))
                    (by_bool (node_has (low_of C u) f)
                    (λ low. above_high n (child C u f a) (node_arg M 0 f a) (child_down u f a w counts.typed lt low high) (g.both f a counts.typed lt low high))
                    (λ low. subst (λ j. Upto D n (same_of (node_arg (high_of C u) u.high f a) j (row_arg (row_of C u) u.row f a))) (sym (g.second f a counts.typed lt low high))
                    (below_same D (node_arg (high_of C u) u.high f a) (row_arg (row_of C u) u.row f a) n))),
              ),
        ))
        r

    module _ (P : Source) (type : ℕ → TypeTerm) (distinct : Distinct C.functors) (rows : RowsAre P D type) where
      abbrev G : Graph
      G = plain_graph D.functors D.nodes

      variable_row : (r : ℕ) → r < length D.rows → shape_at D.rows r ≡ S.Any → type r ≡ state_type → ⊥
      variable_row r w e h = let x = subst (λ R. Kind R (type r)) e (rows r w).kind in let y : type r ≡ variable_type x.0 = x.1 in cc

      -- an inst passes to its arguments that `unique` and `dead` stand at the state alone
      tidy_down : (r s : ℕ) (ts : List TypeTerm) (f : ℕ) → argument_types P s (type r) ≡ Some ts → Meant P D type r s ts f → (i a : ℕ) → node_has (node_at D.nodes i) f ≡ true → a < arity_of D f → Tidy P G i (type r) → Tidy P G (node_arg (node_at D.nodes i) i f a) (type (row_arg (shape_at D.rows r) r f a))
      tidy_down r s ts f typed meant i a h lt tidy path j v l = tidy ((s, a) ∷ path) j v (down P D type proper_made distinct r s ts f typed meant i a (Leads P G path j v) h lt l)

      not_dead : (i r : ℕ) → r < length D.rows → shape_at D.rows r ≡ S.Any → Tidy P G i (type r) → node_at D.nodes i ≡ N.Dead → ⊥
      not_dead i r w e tidy h = variable_row r w e (tidy [] i (type r) (refl, refl) (inr (ap (plain_node D.functors) h)))

      not_unique : (i r : ℕ) → r < length D.rows → shape_at D.rows r ≡ S.Any → Tidy P G i (type r) → node_at D.nodes i ≡ N.Unique → ⊥
      not_unique i r w e tidy h = variable_row r w e (tidy [] i (type r) (refl, refl) (inl (ap (plain_node D.functors) h)))

      -- at a type variable such an inst is included in `ground`
      tidy_below : (n i g r : ℕ) → r < length D.rows → shape_at D.rows r ≡ S.Any → marks (node_at D.nodes g) ≡ 2 → Tidy P G i (type r) → Upto D n (same_of i g r)
      tidy_below zero i g r w e h tidy = tt
      tidy_below (suc n) i g r w e h tidy =
          let x = marks_two (node_at D.nodes i) (not_dead i r w e tidy) in
          let tips : Tips (node_at D.nodes i) (node_at D.nodes g) S.Any = omega arith in (
            subst (λ R. Tips (node_at D.nodes i) (node_at D.nodes g) R) (sym e) tips,
            λ f counts.
                let m = (rows r w).sound f counts.typed in (
                  has_by_marks D (node_at D.nodes g) f (omega arith),
                  λ a lt.
                      let row : row_arg (shape_at D.rows r) r f a ≡ r = ap (λ R. row_arg R r f a) e in
                      subst (λ (v : Triple). Upto D n v)
                      (same_triple _ _ _ _ _ _ refl (sym (arg_by_marks D (node_at D.nodes g) g f a (omega arith))) (sym row))
                      (tidy_below n (node_arg (node_at D.nodes i) i f a) g r w e h
                      (subst (λ q. Tidy P G (node_arg (node_at D.nodes i) i f a) (type q)) row (tidy_down r m.0 m.1.0 f m.1.1.0 m.1.1.1 i a counts.listed lt tidy))),
                ),
          )

      apart_none : (b i r : ℕ) → b < length C.nodes → i < length C.nodes → r < length C.rows → shape_at C.rows r ≡ S.Any → Apart C b i r → Tidy P G b (type r) → Tidy P G i (type r) → ⊥
      apart_none b i r v w x e a tidy other =
          by_order 1 (marks (node_at C.nodes b))
          (λ lt. let two : marks (node_at C.nodes b) ≡ 2 = let y = a.1.0 in omega arith in
          a.1.1 (λ n. below_back n (same_of i b r) (record { low = w; high = v; row = x }) (tidy_below n i b r x e (ap marks (node_old b v) ∙ two) other)))
          (λ one. not_unique b r x e tidy (node_old b v ∙ marks_one (node_at C.nodes b) (sym one)))
          (λ less. let y = a.0 in absurd (omega arith))

      pub clash_none : (u : Triple) (k : ℕ) → Within C u → Clash C u k → Tidy P G u.low (type u.row) → Tidy P G u.high (type u.row) → ⊥
      clash_none u k w c p q =
          ⊎_elim
          (λ a. apart_none u.low u.high u.row w.low w.high w.row c.0 a.0 p q)
          (λ a. apart_none u.high u.low u.row w.high w.low w.row c.0 a.0 q p)
          c.1

      pub bound_constants : (M : Node) (cs : List Case) → M ≡ N.Bound cs → AllowsConstants (plain_node D.functors M) → ⊥
      bound_constants M cs e h = subst (λ K. AllowsConstants (plain_node D.functors K)) e h

      pub bound_marks : (M : Node) (cs : List Case) (x : Mark) → M ≡ N.Bound cs → AllowsMark (plain_node D.functors M) x → ⊥
      bound_marks M cs x e h = subst (λ K. AllowsMark (plain_node D.functors K) x) e h

      -- what stands for the pair allows no more than one of the two does
      pub exact : (path : Path) (e : Tip) (u : Triple) (i : ℕ) → Within C u → Refers C m.seen u i → Tidy P G u.low (type u.row) → Tidy P G u.high (type u.row) → Allows P G path e i (type u.row)
          → Allows P G path e u.low (type u.row) ⊎ Allows P G path e u.high (type u.row)
      exact path e u i w (inl d) p q a =
          ⊎_elim (λ h. inl (subst (λ j. Allows P G path e j (type u.row)) h a))
          (λ o. ⊎_elim (λ h. inr (subst (λ j. Allows P G path e j (type u.row)) h a)) (λ c. absurd (clash_none u i w c p q)) o)
          d.which
      exact [] (symbol_tip s) u i w (inr r) p q a =
          let M = node_at made r.0 in
          let g = m.merges r.0 u r.1.0 in
          let here : node_at D.nodes i ≡ M = ap (node_at D.nodes) r.1.1 ∙ node_new r.0 in
          let R = rows u.row w.row in
          let typed = symbol_typed P D type proper_made distinct s i u.row _ (argument_types P s (type u.row)) refl a in
          let x = R.complete s typed.0 typed.1 in
          let has = tip_up P D type proper_made distinct u.row s typed.0 x.0 typed.1 x.1 i a in
          ⊎_elim
          (λ h. inl (tip_down P D type proper_made distinct u.row s typed.0 x.0 typed.1 x.1 u.low (subst (λ K. node_has K x.0 ≡ true) (sym (node_old u.low w.low)) h)))
          (λ h. inr (tip_down P D type proper_made distinct u.row s typed.0 x.0 typed.1 x.1 u.high (subst (λ K. node_has K x.0 ≡ true) (sym (node_old u.high w.high)) h)))
          (or_true (node_has (low_of C u) x.0) (node_has (high_of C u) x.0) (sym (g.has x.0 x.1.typed) ∙ subst (λ K. node_has K x.0 ≡ true) here has))
      exact [] (constant_tip b) u i w (inr r) p q a =
          let g = m.merges r.0 u r.1.0 in
          absurd (bound_constants (node_at D.nodes i) g.cases (ap (node_at D.nodes) r.1.1 ∙ node_new r.0 ∙ g.is) a.1)
      exact [] (state_tip x) u i w (inr r) p q a =
          let g = m.merges r.0 u r.1.0 in
          absurd (bound_marks (node_at D.nodes i) g.cases x (ap (node_at D.nodes) r.1.1 ∙ node_new r.0 ∙ g.is) a.1)
      exact ((s, b) ∷ path) e u i w (inr r) p q a =
          let M = node_at made r.0 in
          let g = m.merges r.0 u r.1.0 in
          let here : node_at D.nodes i ≡ M = ap (node_at D.nodes) r.1.1 ∙ node_new r.0 in
          let R = rows u.row w.row in
          let typed = symbol_typed P D type proper_made distinct s i u.row _ (argument_types P s (type u.row)) refl a in
          let x = R.complete s typed.0 typed.1 in
          let f = x.0 in
          let y = comes_up P D type proper_made distinct u.row s typed.0 f typed.1 x.1 i b path e a in
          let lt = y.1 in
          let has : node_has M f ≡ true = subst (λ K. node_has K f ≡ true) here y.0 in
          let same : node_arg (node_at D.nodes i) i f b ≡ node_arg M 0 f b = ap (λ K. node_arg K i f b) here ∙ bound_arg M g.cases i 0 f b g.is in
          let inner : Allows P G path e (node_arg M 0 f b) (type (row_arg (row_of C u) u.row f b)) = subst (λ j. Allows P G path e j (type (row_arg (row_of C u) u.row f b))) same y.2 in
          let left = node_old u.low w.low in
          let right = node_old u.high w.high in
          let down_low : node_has (low_of C u) f ≡ true → Allows P G path e (node_arg (low_of C u) u.low f b) (type (row_arg (row_of C u) u.row f b)) → Allows P G ((s, b) ∷ path) e u.low (type u.row) =
          λ h z. goes_down P D type proper_made distinct u.row s typed.0 f typed.1 x.1 u.low b path e (subst (λ K. node_has K f ≡ true) (sym left) h) lt (subst (λ K. Allows P G path e (node_arg K u.low f b) (type (row_arg (row_of C u) u.row f b))) (sym left) z) in
          let down_high : node_has (high_of C u) f ≡ true → Allows P G path e (node_arg (high_of C u) u.high f b) (type (row_arg (row_of C u) u.row f b)) → Allows P G ((s, b) ∷ path) e u.high (type u.row) =
          λ h z. goes_down P D type proper_made distinct u.row s typed.0 f typed.1 x.1 u.high b path e (subst (λ K. node_has K f ≡ true) (sym right) h) lt (subst (λ K. Allows P G path e (node_arg K u.high f b) (type (row_arg (row_of C u) u.row f b))) (sym right) z) in
          let tidy_low : node_has (low_of C u) f ≡ true → Tidy P G (node_arg (low_of C u) u.low f b) (type (row_arg (row_of C u) u.row f b)) =
          λ h. subst (λ K. Tidy P G (node_arg K u.low f b) (type (row_arg (row_of C u) u.row f b))) left (tidy_down u.row s typed.0 f typed.1 x.1 u.low b (subst (λ K. node_has K f ≡ true) (sym left) h) lt p) in
          let tidy_high : node_has (high_of C u) f ≡ true → Tidy P G (node_arg (high_of C u) u.high f b) (type (row_arg (row_of C u) u.row f b)) =
          λ h. subst (λ K. Tidy P G (node_arg K u.high f b) (type (row_arg (row_of C u) u.row f b))) right (tidy_down u.row s typed.0 f typed.1 x.1 u.high b (subst (λ K. node_has K f ≡ true) (sym right) h) lt q) in
          by_bool (node_has (low_of C u) f)
          (λ low. by_bool (node_has (high_of C u) f)
          (λ high. ⊎_elim (λ z. inl (down_low low z)) (λ z. inr (down_high high z))
          (exact path e (child C u f b) (node_arg M 0 f b) (child_down u f b w x.1.typed lt low high) (g.both f b x.1.typed lt low high) (tidy_low low) (tidy_high high) inner))
          (λ high. inl (down_low low (subst (λ j. Allows P G path e j (type (row_arg (row_of C u) u.row f b))) (g.first f b x.1.typed lt low high) inner))))
          (λ low. by_bool (node_has (high_of C u) f)
          (λ high. inr (down_high high (subst (λ j. Allows P G path e j (type (row_arg (row_of C u) u.row f b))) (g.second f b x.1.typed lt low high) inner)))
          (λ high. let z = g.has f x.1.typed in let v : (node_has (low_of C u) f || node_has (high_of C u) f) ≡ false = ap (λ c. c || node_has (high_of C u) f) low ∙ high in cc))

      bound_kind : (M : Node) (cs : List Case) → M ≡ N.Bound cs → ((plain_node D.functors M ≡ unique) ⊎ (plain_node D.functors M ≡ dead)) → ⊥
      bound_kind M cs e h =
          ⊎_elim
          (λ x. let y : plain_node D.functors (N.Bound cs) ≡ unique = ap (plain_node D.functors) (sym e) ∙ x in cc)
          (λ x. let y : plain_node D.functors (N.Bound cs) ≡ dead = ap (plain_node D.functors) (sym e) ∙ x in cc)
          h

      -- and `unique` and `dead` stand at the state alone in it, where they do so in both
      pub tidied : (path : Path) (j : ℕ) (v : TypeTerm) (u : Triple) (i : ℕ) → Within C u → Refers C m.seen u i → Tidy P G u.low (type u.row) → Tidy P G u.high (type u.row) → Leads P G path j v i (type u.row) → ((G j ≡ unique) ⊎ (G j ≡ dead)) → v ≡ state_type
      tidied path j v u i w (inl d) p q a =
          ⊎_elim (λ h. p path j v (subst (λ z. Leads P G path j v z (type u.row)) h a))
          (λ o. ⊎_elim (λ h. q path j v (subst (λ z. Leads P G path j v z (type u.row)) h a)) (λ c. absurd (clash_none u i w c p q)) o)
          d.which
      tidied [] j v u i w (inr r) p q a = λ h.
          let g = m.merges r.0 u r.1.0 in
          absurd (bound_kind (node_at D.nodes j) g.cases (ap (node_at D.nodes) (sym a.0 ∙ r.1.1) ∙ node_new r.0 ∙ g.is) h)
      tidied ((s, b) ∷ path) j v u i w (inr r) p q a =
          let M = node_at made r.0 in
          let g = m.merges r.0 u r.1.0 in
          let here : node_at D.nodes i ≡ M = ap (node_at D.nodes) r.1.1 ∙ node_new r.0 in
          let R = rows u.row w.row in
          let typed = symbol_typed P D type proper_made distinct s i u.row _ (argument_types P s (type u.row)) refl a in
          let x = R.complete s typed.0 typed.1 in
          let f = x.0 in
          let y = up P D type proper_made distinct u.row s typed.0 f typed.1 x.1 i b (Leads P G path j v) a in
          let lt = y.1 in
          let has : node_has M f ≡ true = subst (λ K. node_has K f ≡ true) here y.0 in
          let same : node_arg (node_at D.nodes i) i f b ≡ node_arg M 0 f b = ap (λ K. node_arg K i f b) here ∙ bound_arg M g.cases i 0 f b g.is in
          let inner : Leads P G path j v (node_arg M 0 f b) (type (row_arg (row_of C u) u.row f b)) = subst (λ z. Leads P G path j v z (type (row_arg (row_of C u) u.row f b))) same y.2 in
          let left = node_old u.low w.low in
          let right = node_old u.high w.high in
          let tidy_low : node_has (low_of C u) f ≡ true → Tidy P G (node_arg (low_of C u) u.low f b) (type (row_arg (row_of C u) u.row f b)) =
          λ h. subst (λ K. Tidy P G (node_arg K u.low f b) (type (row_arg (row_of C u) u.row f b))) left (tidy_down u.row s typed.0 f typed.1 x.1 u.low b (subst (λ K. node_has K f ≡ true) (sym left) h) lt p) in
          let tidy_high : node_has (high_of C u) f ≡ true → Tidy P G (node_arg (high_of C u) u.high f b) (type (row_arg (row_of C u) u.row f b)) =
          λ h. subst (λ K. Tidy P G (node_arg K u.high f b) (type (row_arg (row_of C u) u.row f b))) right (tidy_down u.row s typed.0 f typed.1 x.1 u.high b (subst (λ K. node_has K f ≡ true) (sym right) h) lt q) in
          by_bool (node_has (low_of C u) f)
          (λ low. by_bool (node_has (high_of C u) f)
          (λ high. tidied path j v (child C u f b) (node_arg M 0 f b) (child_down u f b w x.1.typed lt low high) (g.both f b x.1.typed lt low high) (tidy_low low) (tidy_high high) inner)
          (λ high. tidy_low low path j v (subst (λ z. Leads P G path j v z (type (row_arg (row_of C u) u.row f b))) (g.first f b x.1.typed lt low high) inner)))
          (λ low. by_bool (node_has (high_of C u) f)
          (λ high. tidy_high high path j v (subst (λ z. Leads P G path j v z (type (row_arg (row_of C u) u.row f b))) (g.second f b x.1.typed lt low high) inner))
          (λ high. let z = g.has f x.1.typed in let k : (node_has (low_of C u) f || node_has (high_of C u) f) ≡ false = ap (λ c. c || node_has (high_of C u) f) low ∙ high in cc))

-- One step of a walk.
use Rattle.std.proofs.Common.{◌≡◌, inl, inr, ℕ, zero, suc, ◌+◌, ◌<◌, ◌≤◌, true, is_some, List, [], ◌∷◌, length, get_or, refl, sym, ap, ◌∙◌, subst, arith, ⊎_elim}
use Rattle.mc_insts.specs.declared.graph.Case.{Case}
use Rattle.mc_insts.specs.declared.graph.Node.{Node}
use Rattle.mc_insts.specs.declared.graph.Node.TheVariants as N
use Rattle.mc_insts.specs.declared.graph.Shape.{Shape}
use Rattle.mc_insts.specs.declared.graph.Shape.TheVariants as S
use Rattle.mc_insts.specs.declared.over.Over.{Over}
use Rattle.mc_insts.specs.declared.triples.Triple.{Triple}
use Rattle.mc_insts.specs.code.Cases.{find_case, node_has, node_arg, row_has, row_arg, marks}
use Rattle.mc_insts.specs.code.Lists.{Stands, Extends}
use Rattle.mc_insts.specs.code.OverArgs.{over_arg}
use Rattle.mc_insts.specs.code.Pushes.{triple_of, NewAmong}
use Rattle.mc_insts.specs.code.Steps.{Refused, Arities, PassedCases, PassedUnion}
use Rattle.mc_insts.specs.code.Walks.{Scene, node_at, arity_of, low_of, high_of, row_of, child, Counts, Covered, Settled, Under, Tips, Passed, Visited, Upto, Below, IsChild, Fresh, ProperCases, Proper}
use Rattle.mc_insts.proofs.Found.{by_order}
use Rattle.mc_insts.proofs.Growth.{covered_on, stands_before, same_triple}
use Rattle.mc_insts.proofs.Scenes.{found, has_some, node_arg_there}

pub tips_along : (M K : Node) (R : Shape) (L H : Node) (S : Shape) → M ≡ L → K ≡ H → R ≡ S → Tips M K R → Tips L H S
tips_along M K R L H S e f g h = subst (λ X. Tips L H X) g (subst (λ X. Tips L X R) f (subst (λ X. Tips X K R) e h))

module _ (C : Scene) where
  pub over_there : Proper C → (M : Node) (i f n : ℕ) (g : ℕ → ℕ) → M ≡ node_at C.nodes i → i < length C.nodes → node_has M f ≡ true → ((k : ℕ) → g k ≡ node_arg M i f k) → n ≡ arity_of C f → (k : ℕ) → k < n → g k < length C.nodes
  over_there p M i f n g e w h a l k lt =
      let x : node_arg (node_at C.nodes i) i f k < length C.nodes = node_arg_there C p i f k w (subst (λ K. node_has K f ≡ true) e h) (subst (λ m. k < m) l lt) in
      subst (λ m. m < length C.nodes) (sym (a k ∙ ap (λ K. node_arg K i f k) e)) x

  pub child_is : (t : Triple) (f : ℕ) (lows highs types : Over) (M H : Node) (R : Shape) → M ≡ low_of C t → H ≡ high_of C t → R ≡ row_of C t
      → ((k : ℕ) → over_arg lows k ≡ node_arg M t.low f k) → ((k : ℕ) → over_arg highs k ≡ node_arg H t.high f k) → ((k : ℕ) → over_arg types k ≡ row_arg R t.row f k)
      → (k : ℕ) → child C t f k ≡ triple_of lows highs types k
  child_is t f lows highs types M H R e g h a b c k =
      same_triple _ _ _ _ _ _
      (ap (λ K. node_arg K t.low f k) (sym e) ∙ sym (a k))
      (ap (λ K. node_arg K t.high f k) (sym g) ∙ sym (b k))
      (ap (λ K. row_arg K t.row f k) (sym h) ∙ sym (c k))

  pub fresh_case : (t : Triple) (f n : ℕ) (g : ℕ → Triple) (xs ys : List Triple) → Counts C t f → node_has (high_of C t) f ≡ true → n ≡ arity_of C f → ((k : ℕ) → child C t f k ≡ g k) → NewAmong g n xs ys → Fresh C t xs ys
  fresh_case t f n g xs ys counts listed l e new m u h s =
      let r = new m u h s in
      record { functor = f; argument = r.0; counts = counts; listed = listed; within = subst (λ x. r.0 < x) l r.1; is = e r.0 ∙ r.2 }

  pub passed_case : (t : Triple) (f n : ℕ) (g : ℕ → Triple) (ys : List Triple) → node_has (high_of C t) f ≡ true → n ≡ arity_of C f → ((k : ℕ) → child C t f k ≡ g k) → ((k : ℕ) → k < n → Covered C.nodes ys (g k)) → Passed C ys t f
  passed_case t f n g ys listed l e cov = record { listed = listed; covered = λ k lt. subst (λ (u : Triple). Covered C.nodes ys u) (sym (e k)) (cov k (subst (λ x. k < x) (sym l) lt)) }

  pub fresh_none : (t : Triple) (xs : List Triple) → Fresh C t xs xs
  fresh_none t xs m u h s = let w = s.within in absurd (omega arith)

  pub fresh_on : (t : Triple) (xs ys zs : List Triple) → Extends ys zs → Fresh C t xs ys → Fresh C t ys zs → Fresh C t xs zs
  fresh_on t xs ys zs e f g m u h s =
      by_order m (length ys) (λ x. f m u h (stands_before ys zs m u e x s)) (λ x. g m u (omega arith) s) (λ x. g m u (omega arith) s)

  pub passed_on : (t : Triple) (f : ℕ) (ys zs : List Triple) → Extends ys zs → Passed C ys t f → Passed C zs t f
  passed_on t f ys zs e p = record { listed = p.listed; covered = λ k lt. covered_on C.nodes ys zs (child C t f k) e (p.covered k lt) }

  pub cases_more : (t : Triple) (cs : List Case) (n : ℕ) (c : Case) (ys zs : List Triple) → Extends ys zs → n < length cs → c ≡ get_or cs n c → PassedCases C ys t cs n → (Counts C t c.functor → Passed C zs t c.functor) → PassedCases C zs t cs (n + 1)
  cases_more t cs n c ys zs e w i before here m d h counts =
      by_order m n
      (λ x. passed_on t (get_or cs m d).functor ys zs e (before m d x counts))
      (λ x. let same : (get_or cs m d).functor ≡ c.functor = ap (λ (v : Case). v.functor) (ap (λ k. get_or cs k d) x ∙ any cs n d c w ∙ sym i) in subst (λ f. Passed C zs t f) (sym same) (here (subst (λ f. Counts C t f) same counts)))
      (λ x. absurd (omega arith))
    where
      any : {A : Type 0} (xs : List A) (k : ℕ) (d e : A) → k < length xs → get_or xs k d ≡ get_or xs k e
      any [] k d e h = absurd (omega arith)
      any (x ∷ xs) zero d e h = refl
      any (x ∷ xs) (suc k) d e h = any xs k d e (omega arith)

  pub arities_at : (bound : ℕ) (cs : List Case) → ProperCases C bound cs → Arities C cs
  arities_at bound cs p k d h = (p.fitting k d h).args

  -- what is listed passed, where all cases did
  passed_found : (t : Triple) (cs : List Case) (ys : List Triple) (f : ℕ) → PassedCases C ys t cs (length cs) → is_some (find_case cs f) ≡ true → Counts C t f → Passed C ys t f
  passed_found t cs ys f all h counts =
      let x = has_some (find_case cs f) h in
      let r = found cs f x.0 x.1 in
      let same : (get_or cs r.place r.case).functor ≡ f = ap (λ (v : Case). v.functor) r.is ∙ r.functor in
      subst (λ g. Passed C ys t g) same (all r.place r.case r.within (subst (λ g. Counts C t g) (sym same) counts))

  pub visited_free : (t : Triple) (M : Node) (ys : List Triple) → M ≡ low_of C t → M ≡ N.Free → Tips (low_of C t) (high_of C t) (row_of C t) → Visited C ys t
  visited_free t M ys e f tips = record { tips = tips; passed = λ g counts. let h : node_has N.Free g ≡ true = subst (λ K. node_has K g ≡ true) (sym e ∙ f) counts.listed in cc }

  pub visited_bound : (t : Triple) (cs : List Case) (ys : List Triple) → low_of C t ≡ N.Bound cs → Tips (low_of C t) (high_of C t) (row_of C t) → PassedCases C ys t cs (length cs) → Visited C ys t
  visited_bound t cs ys e tips all = record { tips = tips; passed = λ f counts. passed_found t cs ys f all (subst (λ K. node_has K f ≡ true) e counts.listed) counts }

  pub has_by_marks : (M : Node) (f : ℕ) → 1 ≤ marks M → node_has M f ≡ true
  has_by_marks N.Free f h = absurd (omega arith)
  has_by_marks N.Ground f h = refl
  has_by_marks N.Unique f h = refl
  has_by_marks N.Dead f h = refl
  has_by_marks (N.Bound cs) f h = absurd (omega arith)

  pub arg_by_marks : (M : Node) (i f k : ℕ) → 1 ≤ marks M → node_arg M i f k ≡ i
  arg_by_marks N.Free i f k h = absurd (omega arith)
  arg_by_marks N.Ground i f k h = refl
  arg_by_marks N.Unique i f k h = refl
  arg_by_marks N.Dead i f k h = refl
  arg_by_marks (N.Bound cs) i f k h = absurd (omega arith)

  by_shape : (t : Triple) (ys : List Triple) (R : Shape) → row_of C t ≡ R → 1 ≤ marks (low_of C t) → Covered C.nodes ys t → Tips (low_of C t) (high_of C t) R → PassedUnion C ys t R → (f : ℕ) → Counts C t f → Passed C ys t f
  by_shape t ys S.Constants e b there tips all f counts = let h : row_has C.known S.Constants f ≡ true = subst (λ K. row_has C.known K f ≡ true) e counts.typed in cc
  by_shape t ys S.State e b there tips all f counts = let h : row_has C.known S.State f ≡ true = subst (λ K. row_has C.known K f ≡ true) e counts.typed in cc
  by_shape t ys S.Any e b there tips all f counts =
      let up : 1 ≤ marks (high_of C t) = omega arith in
      record {
        listed = has_by_marks (high_of C t) f up;
        covered = λ k lt. subst (λ (u : Triple). Covered C.nodes ys u)
            (sym (same_triple _ _ _ _ _ _ (arg_by_marks (low_of C t) t.low f k b) (arg_by_marks (high_of C t) t.high f k up) (ap (λ K. row_arg K t.row f k) e)))
            there;
      }
  by_shape t ys (S.Union cs) e b there tips all f counts = passed_found t cs ys f all (subst (λ K. row_has C.known K f ≡ true) e counts.typed) counts

  pub visited_builtin : (t : Triple) (M : Node) (ys : List Triple) → M ≡ low_of C t → 1 ≤ marks M → Covered C.nodes ys t → Tips (low_of C t) (high_of C t) (row_of C t) → PassedUnion C ys t (row_of C t) → Visited C ys t
  visited_builtin t M ys e b there tips all = record { tips = tips; passed = by_shape t ys (row_of C t) refl (subst (λ K. 1 ≤ marks K) e b) there tips all }

  pub refused_above : (t : Triple) → Refused C t → Below C t → ⊥
  refused_above t r below = let a = ((below 1).1 r.functor r.counts).0 in let b = r.unlisted in cc

  pub child_below : (t u : Triple) → IsChild C t u → Below C t → Below C u
  child_below t u h below n = subst (λ (v : Triple). Upto C n v) h.is (((below (suc n)).1 h.functor h.counts).1 h.argument h.within)

  -- what needs no visit counts as visited
  under_tips : (M K : Node) (R : Shape) → Under M K → Tips M K R
  under_tips M K S.Constants h = λ p. let x = under_marks M K h in omega arith
    where
      under_marks : (M K : Node) → Under M K → marks M ≤ marks K
      under_marks N.Free K h = omega arith
      under_marks N.Ground K h = h
      under_marks N.Unique K h = h
      under_marks N.Dead K h = h
      under_marks (N.Bound cs) K h = absurd h
  under_tips N.Free K S.State h = omega arith
  under_tips N.Ground K S.State h = h
  under_tips N.Unique K S.State h = h
  under_tips N.Dead K S.State h = h
  under_tips (N.Bound cs) K S.State h = absurd h
  under_tips N.Free K S.Any h = omega arith
  under_tips N.Ground K S.Any h = h
  under_tips N.Unique K S.Any h = h
  under_tips N.Dead K S.Any h = h
  under_tips (N.Bound cs) K S.Any h = absurd h
  under_tips M K (S.Union cs) h = tt

  same_tips : (M : Node) (R : Shape) → Tips M M R
  same_tips M S.Constants = λ p. p
  same_tips M S.State = omega arith
  same_tips M S.Any = omega arith
  same_tips M (S.Union cs) = tt

  under_passed : (t : Triple) (ys : List Triple) (M : Node) → low_of C t ≡ M → Under M (high_of C t) → (f : ℕ) → Counts C t f → Passed C ys t f
  under_passed t ys N.Free e h f counts = let x : node_has N.Free f ≡ true = subst (λ K. node_has K f ≡ true) e counts.listed in cc
  under_passed t ys N.Ground e h f counts = stays t ys f (omega arith) (ap marks e) (subst (λ K. Under K (high_of C t)) (sym e) h)
    where
      stays : (t : Triple) (ys : List Triple) (f : ℕ) → 1 ≤ marks (high_of C t) → marks (low_of C t) ≡ 2 → Under (low_of C t) (high_of C t) → Passed C ys t f
      stays t ys f up m h = record {
        listed = has_by_marks (high_of C t) f up;
        covered = λ k lt. inl (inr (subst (λ i. Under (node_at C.nodes i) (node_at C.nodes (node_arg (high_of C t) t.high f k))) (sym (arg_by_marks (low_of C t) t.low f k (omega arith)))
            (subst (λ j. Under (low_of C t) (node_at C.nodes j)) (sym (arg_by_marks (high_of C t) t.high f k up)) h)));
      }
  under_passed t ys N.Unique e h f counts = stays t ys f (omega arith) (ap marks e) (subst (λ K. Under K (high_of C t)) (sym e) h)
    where
      stays : (t : Triple) (ys : List Triple) (f : ℕ) → 1 ≤ marks (high_of C t) → marks (low_of C t) ≡ 1 → Under (low_of C t) (high_of C t) → Passed C ys t f
      stays t ys f up m h = record {
        listed = has_by_marks (high_of C t) f up;
        covered = λ k lt. inl (inr (subst (λ i. Under (node_at C.nodes i) (node_at C.nodes (node_arg (high_of C t) t.high f k))) (sym (arg_by_marks (low_of C t) t.low f k (omega arith)))
            (subst (λ j. Under (low_of C t) (node_at C.nodes j)) (sym (arg_by_marks (high_of C t) t.high f k up)) h)));
      }
  under_passed t ys N.Dead e h f counts = stays t ys f (omega arith) (ap marks e) (subst (λ K. Under K (high_of C t)) (sym e) h)
    where
      stays : (t : Triple) (ys : List Triple) (f : ℕ) → 1 ≤ marks (high_of C t) → marks (low_of C t) ≡ 3 → Under (low_of C t) (high_of C t) → Passed C ys t f
      stays t ys f up m h = record {
        listed = has_by_marks (high_of C t) f up;
        covered = λ k lt. inl (inr (subst (λ i. Under (node_at C.nodes i) (node_at C.nodes (node_arg (high_of C t) t.high f k))) (sym (arg_by_marks (low_of C t) t.low f k (omega arith)))
            (subst (λ j. Under (low_of C t) (node_at C.nodes j)) (sym (arg_by_marks (high_of C t) t.high f k up)) h)));
      }
  under_passed t ys (N.Bound cs) e h f counts = absurd h

  pub settled_visited : (t : Triple) (ys : List Triple) → Settled C.nodes t → Visited C ys t
  settled_visited t ys s =
      ⊎_elim
      (λ e. record {
        tips = subst (λ j. Tips (low_of C t) (node_at C.nodes j) (row_of C t)) e (same_tips (low_of C t) (row_of C t));
        passed = λ f counts. record {
          listed = subst (λ j. node_has (node_at C.nodes j) f ≡ true) e counts.listed;
          covered = λ k lt. inl (inl (ap (λ j. node_arg (node_at C.nodes j) j f k) e));
        };
      })
      (λ h. record { tips = under_tips (low_of C t) (high_of C t) (row_of C t) h; passed = under_passed t ys (low_of C t) refl h })
      s

  -- where all that stands is visited, what is covered is below
  module _ (seen : List Triple) (closed : (n : ℕ) (u : Triple) → Stands seen n u → Visited C seen u) where
    visited : (t : Triple) → Covered C.nodes seen t → Visited C seen t
    visited t c = ⊎_elim (λ s. settled_visited t seen s) (λ s. closed s.0 t s.1) c

    pub closed_below : (n : ℕ) (t : Triple) → Covered C.nodes seen t → Upto C n t
    closed_below zero t c = tt
    closed_below (suc n) t c =
        let v = visited t c in
        (v.tips, λ f counts. ((v.passed f counts).listed, λ k lt. closed_below n (child C t f k) ((v.passed f counts).covered k lt)))

-- The cases of nodes at rows, and the node that joining two lists of them makes.
use Rattle.std.proofs.Common.{◌≡◌, ℕ, zero, suc, ◌<◌, ◌≤◌, Bool, true, false, cond, nat_eq, ◌||◌, is_some, List, [], ◌∷◌, length, get_or, map, replicate, Option, Some, None, refl, sym, ap, ◌∙◌, subst, arith}
use Rattle.std.proofs.lemmas.List.{length-replicate}
use Rattle.mc_insts.specs.declared.graph.Case.{Case}
use Rattle.mc_insts.specs.declared.graph.Node.{Node}
use Rattle.mc_insts.specs.declared.graph.Node.TheVariants as N
use Rattle.mc_insts.specs.declared.graph.Shape.{Shape}
use Rattle.mc_insts.specs.declared.graph.Shape.TheVariants as S
use Rattle.mc_insts.specs.declared.triples.Triple.{Triple}
use Rattle.mc_insts.specs.code.Cases.{find_case, argument, node_has, node_arg, row_has, row_arg, marks, Rising}
use Rattle.mc_insts.specs.code.Joins.{Join}
use Rattle.mc_insts.specs.code.Steps.{same_of}
use Rattle.mc_insts.specs.code.Walks.{Scene, node_at, shape_at, arity_of, low_of, high_of, row_of, Proper}
use Rattle.mc_insts.specs.code.Merges.{Refers, Bare, Open, Both, Views, spread, spread_over, spread_cases, Merges, Fits, JoinedCases}
use Rattle.mc_insts.proofs.Scenes.{has_some, case_fits}
use Rattle.mc_insts.proofs.Growth.{same_triple}
use Rattle.mc_insts.proofs.Bridge.{get_replicate}

abbrev spread_args : ℕ → Option (List ℕ) → Option (List ℕ)
spread_args i None = None
spread_args i (Some xs) = Some (replicate (length xs) i)

spread_cond : (i : ℕ) (b : Bool) (xs : List ℕ) (o : Option (List ℕ)) → spread_args i (cond b (Some xs) o) ≡ cond b (Some (replicate {A = ℕ} (length xs) i)) (spread_args i o)
spread_cond i true xs o = refl
spread_cond i false xs o = refl

spread_find : (i : ℕ) (cs : List Case) (f : ℕ) → find_case (map (spread i) cs) f ≡ spread_args i (find_case cs f)
spread_find i [] f = refl
spread_find i (c ∷ cs) f = ap (λ o. cond (nat_eq c.functor f) (Some (replicate {A = ℕ} (length c.args) i)) o) (spread_find i cs f) ∙ sym (spread_cond i (nat_eq c.functor f) c.args (find_case cs f))

rising_spread : (i : ℕ) (cs : List Case) → Rising cs → Rising (map (spread i) cs)
rising_spread i [] r = tt
rising_spread i (c ∷ []) r = tt
rising_spread i (c ∷ d ∷ cs) r = (r.0, rising_spread i (d ∷ cs) r.1)

module _ (C : Scene) where
  fits_spread : (i m n : ℕ) (cs : List Case) → i < n → Fits C m cs → Fits C n (map (spread i) cs)
  fits_spread i m n [] w f k d h = absurd (omega arith)
  fits_spread i m n (c ∷ cs) w f zero d h =
      let x = f 0 c (omega arith) in
      let l : length (replicate {A = ℕ} (length c.args) i) ≡ length c.args = length-replicate (length c.args) i in
      record { functor = x.functor; args = l ∙ x.args; below = λ k lt. subst (λ y. y < n) (sym (get_replicate (length c.args) i k (omega arith))) w }
  fits_spread i m n (c ∷ cs) w f (suc k) d h = fits_spread i m n cs w (λ a b g. f (suc a) b (omega arith)) k d (omega arith)

  module _ (proper : Proper C) where
    row_spread_rises : (i r : ℕ) (R : Shape) → shape_at C.rows r ≡ R → Rising (spread_over i R)
    row_spread_rises i r S.Constants e = tt
    row_spread_rises i r S.State e = tt
    row_spread_rises i r S.Any e = tt
    row_spread_rises i r (S.Union cs) e = rising_spread i cs (proper.rows r cs e).rising

    rises : (i r : ℕ) (M : Node) → node_at C.nodes i ≡ M → Rising (spread_cases M i (shape_at C.rows r))
    rises i r N.Free e = tt
    rises i r N.Ground e = row_spread_rises i r (shape_at C.rows r) refl
    rises i r N.Unique e = row_spread_rises i r (shape_at C.rows r) refl
    rises i r N.Dead e = row_spread_rises i r (shape_at C.rows r) refl
    rises i r (N.Bound cs) e = (proper.nodes i cs e).rising

    pub spread_rises : (i r : ℕ) → Rising (spread_cases (node_at C.nodes i) i (shape_at C.rows r))
    spread_rises i r = rises i r (node_at C.nodes i) refl

    none_fits : (n : ℕ) → Fits C n []
    none_fits n k d h = absurd (omega arith)

    row_spread_fits : (i r : ℕ) (R : Shape) → shape_at C.rows r ≡ R → i < length C.nodes → Fits C (length C.nodes) (spread_over i R)
    row_spread_fits i r S.Constants e w = none_fits (length C.nodes)
    row_spread_fits i r S.State e w = none_fits (length C.nodes)
    row_spread_fits i r S.Any e w = none_fits (length C.nodes)
    row_spread_fits i r (S.Union cs) e w = fits_spread i (length C.rows) (length C.nodes) cs w (proper.rows r cs e).fitting

    fit : (i r : ℕ) (M : Node) → node_at C.nodes i ≡ M → i < length C.nodes → Fits C (length C.nodes) (spread_cases M i (shape_at C.rows r))
    fit i r N.Free e w = none_fits (length C.nodes)
    fit i r N.Ground e w = row_spread_fits i r (shape_at C.rows r) refl w
    fit i r N.Unique e w = row_spread_fits i r (shape_at C.rows r) refl w
    fit i r N.Dead e w = row_spread_fits i r (shape_at C.rows r) refl w
    fit i r (N.Bound cs) e w = (proper.nodes i cs e).fitting

    pub spread_fits : (i r : ℕ) → i < length C.nodes → Fits C (length C.nodes) (spread_cases (node_at C.nodes i) i (shape_at C.rows r))
    spread_fits i r = fit i r (node_at C.nodes i) refl

    abbrev View : (M : Node) (R : Shape) (i f : ℕ) → List Case → Type 0
    View M R i f cs = (node_has M f ≡ is_some (find_case cs f)) × ((k : ℕ) → k < arity_of C f → node_arg M i f k ≡ argument (find_case cs f) k)

    -- a builtin inst over a row
    builtin_view : (i f r : ℕ) (R : Shape) → shape_at C.rows r ≡ R → (R ≡ S.Any → ⊥) → row_has C.known R f ≡ true → (true ≡ is_some (find_case (spread_over i R) f)) × ((k : ℕ) → k < arity_of C f → i ≡ argument (find_case (spread_over i R) f) k)
    builtin_view i f r S.Constants e n h = cc
    builtin_view i f r S.State e n h = cc
    builtin_view i f r S.Any e n h = absurd (n refl)
    builtin_view i f r (S.Union cs) e n h =
        let x = has_some (find_case cs f) h in
        let y : find_case (map (spread i) cs) f ≡ Some (replicate (length x.0) i) = spread_find i cs f ∙ ap (spread_args i) x.1 in
        let l : length x.0 ≡ arity_of C f = (case_fits C proper (length C.rows) cs (proper.rows r cs e) f x.0 x.1).0 in
        (sym (ap is_some y), λ k lt. sym (ap (λ o. argument o k) y ∙ get_replicate (length x.0) i k (omega arith)))

    view : (M : Node) (i f r : ℕ) → (1 ≤ marks M → shape_at C.rows r ≡ S.Any → ⊥) → row_has C.known (shape_at C.rows r) f ≡ true → View M (shape_at C.rows r) i f (spread_cases M i (shape_at C.rows r))
    view N.Free i f r n h = (refl, λ k lt. refl)
    view N.Ground i f r n h = builtin_view i f r (shape_at C.rows r) refl (n (omega arith)) h
    view N.Unique i f r n h = builtin_view i f r (shape_at C.rows r) refl (n (omega arith)) h
    view N.Dead i f r n h = builtin_view i f r (shape_at C.rows r) refl (n (omega arith)) h
    view (N.Bound cs) i f r n h = (refl, λ k lt. refl)

    bare_low : (M K : Node) (R : Shape) → Bare M K R → 1 ≤ marks M → R ≡ S.Any → ⊥
    bare_low M K S.Constants b h e = let x = b.0 in absurd (omega arith)
    bare_low M K S.State b h e = let x = b.0 in absurd (omega arith)
    bare_low M K S.Any b h e = let x = b.0 in absurd (omega arith)
    bare_low M K (S.Union cs) b h e = cc

    bare_high : (M K : Node) (R : Shape) → Bare M K R → 1 ≤ marks K → R ≡ S.Any → ⊥
    bare_high M K S.Constants b h e = let x = b.1 in absurd (omega arith)
    bare_high M K S.State b h e = let x = b.1 in absurd (omega arith)
    bare_high M K S.Any b h e = let x = b.1 in absurd (omega arith)
    bare_high M K (S.Union cs) b h e = cc

    pub views_low : (t : Triple) → Open C t → Views C t t.low (spread_cases (low_of C t) t.low (row_of C t))
    views_low t o f h = view (low_of C t) t.low f t.row (bare_low (low_of C t) (high_of C t) (row_of C t) o.bare) h

    pub views_high : (t : Triple) → Open C t → Views C t t.high (spread_cases (high_of C t) t.high (row_of C t))
    views_high t o f h = view (high_of C t) t.high f t.row (bare_high (low_of C t) (high_of C t) (row_of C t) o.bare) h

join_has : (R : List ℕ → List ℕ → List ℕ → Type 0) (l h o : Option (List ℕ)) → Join R l h o → is_some o ≡ (is_some l || is_some h)
join_has R None None o j = ap is_some j
join_has R (Some xs) None o j = ap is_some j
join_has R None (Some ys) o j = ap is_some j
join_has R (Some xs) (Some ys) o j = ap is_some j.1.0

join_both : (R : List ℕ → List ℕ → List ℕ → Type 0) (l h o : Option (List ℕ)) (Q : (a b c : ℕ) → Type 0) (k : ℕ) → Join R l h o → is_some l ≡ true → is_some h ≡ true → ((xs ys zs : List ℕ) → R xs ys zs → Q (get_or xs k 0) (get_or ys k 0) (get_or zs k 0)) → Q (argument l k) (argument h k) (argument o k)
join_both R None h o Q k j p q g = cc
join_both R (Some xs) None o Q k j p q g = cc
join_both R (Some xs) (Some ys) o Q k j p q g = subst (λ x. Q (get_or xs k 0) (get_or ys k 0) (argument x k)) (sym j.1.0) (g xs ys j.0 j.1.1)

join_first : (R : List ℕ → List ℕ → List ℕ → Type 0) (l h o : Option (List ℕ)) (k : ℕ) → Join R l h o → is_some l ≡ true → is_some h ≡ false → argument o k ≡ argument l k
join_first R None h o k j p q = cc
join_first R (Some xs) None o k j p q = ap (λ x. argument x k) j
join_first R (Some xs) (Some ys) o k j p q = cc

join_second : (R : List ℕ → List ℕ → List ℕ → Type 0) (l h o : Option (List ℕ)) (k : ℕ) → Join R l h o → is_some l ≡ false → is_some h ≡ true → argument o k ≡ argument h k
join_second R None None o k j p q = cc
join_second R None (Some ys) o k j p q = ap (λ x. argument x k) j
join_second R (Some xs) h o k j p q = cc

module _ (C : Scene) (seen : List Triple) (t : Triple) (lows highs out : List Case) where
  pub merges_of : Open C t → Views C t t.low lows → Views C t t.high highs → JoinedCases C seen t lows highs out → Merges C seen t (N.Bound out)
  merges_of o vl vh j = record {
    cases = out;
    is = refl;
    bare = o.bare;
    has = λ f h. join_has (Both C seen t f) (find_case lows f) (find_case highs f) (find_case out f) (j.joined f) ∙ ap (λ b. b || is_some (find_case highs f)) (sym (vl f h).0) ∙ ap (λ b. node_has (low_of C t) f || b) (sym (vh f h).0);
    both = λ f k h lt p q.
        subst (λ (u : Triple). Refers C seen u (argument (find_case out f) k))
        (same_triple _ _ _ _ _ _ (sym ((vl f h).1 k lt)) (sym ((vh f h).1 k lt)) refl)
        (join_both (Both C seen t f) (find_case lows f) (find_case highs f) (find_case out f) (λ a b c. Refers C seen (same_of a b (row_arg (row_of C t) t.row f k)) c) k (j.joined f)
        (sym (vl f h).0 ∙ p) (sym (vh f h).0 ∙ q) (λ xs ys zs g. g h k lt));
    first = λ f k h lt p q. join_first (Both C seen t f) (find_case lows f) (find_case highs f) (find_case out f) k (j.joined f) (sym (vl f h).0 ∙ p) (sym (vh f h).0 ∙ q) ∙ sym ((vl f h).1 k lt);
    second = λ f k h lt p q. join_second (Both C seen t f) (find_case lows f) (find_case highs f) (find_case out f) k (j.joined f) (sym (vl f h).0 ∙ p) (sym (vh f h).0 ∙ q) ∙ sym ((vh f h).1 k lt);
  }

-- What proper scenes give.
use Rattle.std.proofs.Common.{◌≡◌, ℕ, suc, ◌<◌, Bool, true, false, cond, nat_eq, is_some, List, [], ◌∷◌, length, get_or, Option, Some, None, refl, sym, ap, ◌∙◌, subst, arith}
use Rattle.std.proofs.lemmas.Bool.{eqb-true}
use Rattle.mc_insts.specs.declared.graph.Case.{Case}
use Rattle.mc_insts.specs.declared.graph.Node.{Node}
use Rattle.mc_insts.specs.declared.graph.Node.TheVariants as N
use Rattle.mc_insts.specs.declared.graph.Shape.{Shape}
use Rattle.mc_insts.specs.declared.graph.Shape.TheVariants as S
use Rattle.mc_insts.specs.declared.triples.Triple.{Triple}
use Rattle.mc_insts.specs.code.Cases.{find_case, argument, node_has, node_arg, row_has, row_arg, Fitting}
use Rattle.mc_insts.specs.code.Overs.{NodeRises, NodeWide, RowRises, RowWide}
use Rattle.mc_insts.specs.code.Walks.{Scene, node_at, shape_at, arity_of, IsChild, Within, ProperCases, Proper}

-- a case that is found stands in the list
pub record Found (cs : List Case) (f : ℕ) (xs : List ℕ) : Type 0 where
  pub place : ℕ
  pub case : Case
  pub within : place < length cs
  pub is : get_or cs place case ≡ case
  pub functor : case.functor ≡ f
  pub args : case.args ≡ xs

found_by : (c : Case) (cs : List Case) (f : ℕ) (xs : List ℕ) (t : Bool) → nat_eq c.functor f ≡ t → (find_case cs f ≡ Some xs → Found cs f xs) → cond t (Some c.args) (find_case cs f) ≡ Some xs → Found (c ∷ cs) f xs
found_by c cs f xs true e later h = record { place = 0; case = c; within = omega arith; is = refl; functor = eqb-true c.functor f e; args = cc }
found_by c cs f xs false e later h = let r = later h in let w = r.within in record { place = suc r.place; case = r.case; within = omega arith; is = r.is; functor = r.functor; args = r.args }

pub found : (cs : List Case) (f : ℕ) (xs : List ℕ) → find_case cs f ≡ Some xs → Found cs f xs
found [] f xs h = cc
found (c ∷ cs) f xs h = found_by c cs f xs (nat_eq c.functor f) refl (found cs f xs) h

pub has_some : (o : Option (List ℕ)) → is_some o ≡ true → (xs : List ℕ) × (o ≡ Some xs)
has_some None h = cc
has_some (Some xs) h = (xs, refl)

module _ (C : Scene) (proper : Proper C) where
  pub case_fits : (bound : ℕ) (cs : List Case) → ProperCases C bound cs → (f : ℕ) (xs : List ℕ) → find_case cs f ≡ Some xs → (length xs ≡ arity_of C f) × (f < length C.functors) × ((k : ℕ) → k < arity_of C f → get_or xs k 0 < bound)
  case_fits bound cs p f xs h =
      let r = found cs f xs h in
      let fit : Fitting (arity_of C) (length C.functors) bound r.case = subst (λ c. Fitting (arity_of C) (length C.functors) bound c) r.is (p.fitting r.place r.case r.within) in
      let l : length xs ≡ arity_of C f = ap length (sym r.args) ∙ fit.args ∙ ap (arity_of C) r.functor in
      (l, subst (λ n. n < length C.functors) r.functor fit.functor, λ k lt. subst (λ ys. get_or ys k 0 < bound) r.args (fit.below k (subst (λ ys. k < length ys) (sym r.args) (subst (λ n. k < n) (sym l) lt))))

  node_case : (i : ℕ) (M : Node) → node_at C.nodes i ≡ M → NodeRises M
  node_case i N.Free e = tt
  node_case i N.Ground e = tt
  node_case i N.Unique e = tt
  node_case i N.Dead e = tt
  node_case i (N.Bound cs) e = (proper.nodes i cs e).rising

  pub node_rises : (i : ℕ) → NodeRises (node_at C.nodes i)
  node_rises i = node_case i (node_at C.nodes i) refl

  row_case : (r : ℕ) (S : Shape) → shape_at C.rows r ≡ S → RowRises S
  row_case r S.Constants e = tt
  row_case r S.State e = tt
  row_case r S.Any e = tt
  row_case r (S.Union cs) e = (proper.rows r cs e).rising

  pub row_rises : (r : ℕ) → RowRises (shape_at C.rows r)
  row_rises r = row_case r (shape_at C.rows r) refl

  wide_case : (i f : ℕ) (M : Node) → node_at C.nodes i ≡ M → NodeWide M f (arity_of C f)
  wide_case i f N.Free e = tt
  wide_case i f N.Ground e = tt
  wide_case i f N.Unique e = tt
  wide_case i f N.Dead e = tt
  wide_case i f (N.Bound cs) e = λ xs h. (case_fits (length C.nodes) cs (proper.nodes i cs e) f xs h).0

  pub node_wide : (i f : ℕ) → NodeWide (node_at C.nodes i) f (arity_of C f)
  node_wide i f = wide_case i f (node_at C.nodes i) refl

  row_wide_case : (r f : ℕ) (S : Shape) → shape_at C.rows r ≡ S → RowWide S f (arity_of C f)
  row_wide_case r f S.Constants e = tt
  row_wide_case r f S.State e = tt
  row_wide_case r f S.Any e = tt
  row_wide_case r f (S.Union cs) e = λ xs h. (case_fits (length C.rows) cs (proper.rows r cs e) f xs h).0

  pub row_wide : (r f : ℕ) → RowWide (shape_at C.rows r) f (arity_of C f)
  row_wide r f = row_wide_case r f (shape_at C.rows r) refl

  arg_below : (bound : ℕ) (cs : List Case) → ProperCases C bound cs → (f k : ℕ) → is_some (find_case cs f) ≡ true → k < arity_of C f → argument (find_case cs f) k < bound
  arg_below bound cs p f k h lt =
      let r = has_some (find_case cs f) h in
      subst (λ o. argument o k < bound) (sym r.1) ((case_fits bound cs p f r.0 r.1).2 k lt)

  node_there : (i f k : ℕ) (M : Node) → node_at C.nodes i ≡ M → i < length C.nodes → node_has M f ≡ true → k < arity_of C f → node_arg M i f k < length C.nodes
  node_there i f k N.Free e w h lt = cc
  node_there i f k N.Ground e w h lt = w
  node_there i f k N.Unique e w h lt = w
  node_there i f k N.Dead e w h lt = w
  node_there i f k (N.Bound cs) e w h lt = arg_below (length C.nodes) cs (proper.nodes i cs e) f k h lt

  pub node_arg_there : (i f k : ℕ) → i < length C.nodes → node_has (node_at C.nodes i) f ≡ true → k < arity_of C f → node_arg (node_at C.nodes i) i f k < length C.nodes
  node_arg_there i f k = node_there i f k (node_at C.nodes i) refl

  row_there : (r f k : ℕ) (S : Shape) → shape_at C.rows r ≡ S → r < length C.rows → row_has C.known S f ≡ true → k < arity_of C f → row_arg S r f k < length C.rows
  row_there r f k S.Constants e w h lt = cc
  row_there r f k S.State e w h lt = cc
  row_there r f k S.Any e w h lt = w
  row_there r f k (S.Union cs) e w h lt = arg_below (length C.rows) cs (proper.rows r cs e) f k h lt

  pub row_arg_there : (r f k : ℕ) → r < length C.rows → row_has C.known (shape_at C.rows r) f ≡ true → k < arity_of C f → row_arg (shape_at C.rows r) r f k < length C.rows
  row_arg_there r f k = row_there r f k (shape_at C.rows r) refl

  pub child_within : (t u : Triple) → Within C t → IsChild C t u → Within C u
  child_within t u w h =
      subst (λ (x : Triple). Within C x) h.is
      (record {
        low = node_arg_there t.low h.functor h.argument w.low h.counts.listed h.within;
        high = node_arg_there t.high h.functor h.argument w.high h.listed h.within;
        row = row_arg_there t.row h.functor h.argument w.row h.counts.typed h.within;
      })

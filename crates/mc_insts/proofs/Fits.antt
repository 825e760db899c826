-- Cases that fit.
use Rattle.std.proofs.Common.{◌≡◌, ℕ, ◌+◌, ◌<◌, ◌≤◌, List, [], ◌∷◌, ◌++◌, length, get_or, sym, ◌∙◌, subst, arith, length-append}
use Rattle.std.proofs.lemmas.List.{get_or_append_left, get_or_push}
use Rattle.mc_insts.specs.declared.graph.Case.{Case}
use Rattle.mc_insts.specs.declared.triples.Triple.{Triple}
use Rattle.mc_insts.specs.code.Cases.{Fitting}
use Rattle.mc_insts.specs.code.Lists.{Extends}
use Rattle.mc_insts.specs.code.Walks.{Scene, arity_of}
use Rattle.mc_insts.specs.code.Merges.{Fits, Both}
use Rattle.mc_insts.specs.code.Joins.{Joining}
use Rattle.mc_insts.proofs.Found.{by_order}
use Rattle.mc_insts.proofs.Opens.{refers_on}
use Rattle.mc_insts.proofs.Joins.{joining_map}

module _ (C : Scene) where
  fitting_up : (m n : ℕ) (c : Case) → m ≤ n → Fitting (arity_of C) (length C.functors) m c → Fitting (arity_of C) (length C.functors) n c
  fitting_up m n c le f = record { functor = f.functor; args = f.args; below = λ k h. let x : get_or c.args k 0 < m = f.below k h in omega arith }

  pub fits_up : (m n : ℕ) (cs : List Case) → m ≤ n → Fits C m cs → Fits C n cs
  fits_up m n cs le f k d h = fitting_up m n (get_or cs k d) le (f k d h)

  -- a case of a list, put at the end of another
  pub fits_copy : (m n : ℕ) (cs out : List Case) (k : ℕ) (c e : Case) → m ≤ n → Fits C m cs → k < length cs → c ≡ get_or cs k c → e ≡ c → Fits C n out → Fits C n (out ++ e ∷ [])
  fits_copy m n cs out k c e le f h is same g = push (subst (λ v. Fitting (arity_of C) (length C.functors) n v) (sym is ∙ sym same) (fitting_up m n (get_or cs k c) le (f k c h)))
    where
      push : Fitting (arity_of C) (length C.functors) n e → Fits C n (out ++ e ∷ [])
      push fit i d w =
          let l : length (out ++ e ∷ []) ≡ length out + 1 = length-append out (e ∷ []) in
          by_order i (length out)
          (λ q. subst (λ v. Fitting (arity_of C) (length C.functors) n v) (sym (get_or_append_left out (e ∷ []) d i q)) (g i d q))
          (λ q. subst (λ v. Fitting (arity_of C) (length C.functors) n v) (sym (get_or_push out e d i (sym q))) fit)
          (λ q. absurd (omega arith))

  pub fits_push : (n : ℕ) (out : List Case) (e : Case) → Fitting (arity_of C) (length C.functors) n e → Fits C n out → Fits C n (out ++ e ∷ [])
  fits_push n out e fit g i d w =
      let l : length (out ++ e ∷ []) ≡ length out + 1 = length-append out (e ∷ []) in
      by_order i (length out)
      (λ q. subst (λ v. Fitting (arity_of C) (length C.functors) n v) (sym (get_or_append_left out (e ∷ []) d i q)) (g i d q))
      (λ q. subst (λ v. Fitting (arity_of C) (length C.functors) n v) (sym (get_or_push out e d i (sym q))) fit)
      (λ q. absurd (omega arith))

  -- the triples grow
  pub joining_on : (t : Triple) (xs ys : List Triple) → Extends xs ys → (lows highs : List Case) (a b : ℕ) (out : List Case) → Joining (Both C xs t) lows highs a b out → Joining (Both C ys t) lows highs a b out
  joining_on t xs ys e = joining_map (Both C xs t) (Both C ys t) (λ f us vs ws r typed k lt. refers_on C xs ys _ (get_or ws k 0) e (r typed k lt))

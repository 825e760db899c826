-- What a walk that merges keeps.
use Rattle.std.proofs.Common.{◌≡◌, inl, inr, ℕ, zero, suc, ◌+◌, ◌<◌, ◌≤◌, List, [], ◌∷◌, ◌++◌, length, get_or, refl, sym, ◌∙◌, subst, arith, ⊎_elim, length-append}
use Rattle.std.proofs.lemmas.List.{get_or_append_left, get_or_push}
use Rattle.mc_insts.specs.declared.triples.Triple.{Triple}
use Rattle.mc_insts.specs.code.Lists.{Stands, Extends}
use Rattle.mc_insts.specs.code.Walks.{Scene}
use Rattle.mc_insts.specs.code.Merges.{Refers, Open, Sound, top_of}
use Rattle.mc_insts.proofs.Found.{by_order}
use Rattle.mc_insts.proofs.Growth.{stands_before, stands_on, extends_length}

module _ (C : Scene) where
  pub refers_on : (xs ys : List Triple) (u : Triple) (k : ℕ) → Extends xs ys → Refers C xs u k → Refers C ys u k
  refers_on xs ys u k e r = ⊎_elim (λ d. inl d) (λ s. inr (s.0, (stands_on xs ys s.0 u e s.1.0, s.1.1))) r

  pub top_on : (xs ys : List Triple) → Extends xs ys → top_of C xs ≤ top_of C ys
  top_on xs ys e = let l = extends_length xs ys e in omega arith

  -- one more triple is put in
  pub sound_put : (u : Triple) (xs ys : List Triple) → Open C u → Extends xs ys → Sound C xs → ((k : ℕ) → length xs ≤ k → k < length ys → Stands ys k u) → Sound C ys
  sound_put u xs ys opened e before last n v s =
      by_order n (length xs)
      (λ x. before n v (stands_before xs ys n v e x s))
      (λ x. let r = last n (omega arith) s.within in subst (λ (w : Triple). Open C w) (sym r.is ∙ any ys n u v s.within ∙ s.is) opened)
      (λ x. let r = last n (omega arith) s.within in subst (λ (w : Triple). Open C w) (sym r.is ∙ any ys n u v s.within ∙ s.is) opened)
    where
      any : (xs : List Triple) (k : ℕ) (d e : Triple) → k < length xs → get_or xs k d ≡ get_or xs k e
      any [] k d e h = absurd (omega arith)
      any (x ∷ xs) zero d e h = refl
      any (x ∷ xs) (suc k) d e h = any xs k d e (omega arith)

  -- one more argument is resolved
  pub refers_more : (f : ℕ → Triple) (k x : ℕ) (out : List ℕ) (xs ys : List Triple) → Extends xs ys → length out ≡ k → ((i : ℕ) → i < k → Refers C xs (f i) (get_or out i 0)) → Refers C ys (f k) x → (i : ℕ) → i < k + 1 → Refers C ys (f i) (get_or (out ++ x ∷ []) i 0)
  refers_more f k x out xs ys e l before here i h =
      by_order i k
      (λ q. refers_on xs ys (f i) (get_or (out ++ x ∷ []) i 0) e (subst (λ y. Refers C xs (f i) y) (sym (get_or_append_left out (x ∷ []) 0 i (omega arith))) (before i q)))
      (λ q. subst (λ n. Refers C ys (f n) (get_or (out ++ x ∷ []) n 0)) (sym q) (subst (λ y. Refers C ys (f k) y) (sym (get_or_push out x 0 k l)) here))
      (λ q. absurd (omega arith))

  pub there_more : (x m n : ℕ) (out : List ℕ) → m ≤ n → ((k : ℕ) → k < length out → get_or out k 0 < m) → x < n → (k : ℕ) → k < length (out ++ x ∷ []) → get_or (out ++ x ∷ []) k 0 < n
  there_more x m n out le before here k h =
      let l : length (out ++ x ∷ []) ≡ length out + 1 = length-append out (x ∷ []) in
      by_order k (length out)
      (λ q. let y : get_or out k 0 < m = before k q in subst (λ z. z < n) (sym (get_or_append_left out (x ∷ []) 0 k q)) (omega arith))
      (λ q. subst (λ z. z < n) (sym (get_or_push out x 0 k (sym q))) here)
      (λ q. absurd (omega arith))

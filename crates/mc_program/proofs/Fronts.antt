-- What stands over the last arguments of a term that is taken apart by a loop, and that those are smaller.
use Rattle.std.proofs.Common.{◌≡◌, ℕ, ◌+◌, ◌-◌, ◌≤◌, ◌<◌, List, [], ◌∷◌, ◌++◌, length, take, get_or, refl, ap, sym, ◌∙◌, arith}
use denote.Param.Weighed.{most, most-append}
use Rattle.std.proofs.lemmas.List.{take_more, take_all}

-- a list is its front and its last element
pub front_last : {A : Type 0} (xs : List A) (last : A) → 1 ≤ length xs → last ≡ get_or xs (length xs - 1) last → xs ≡ take (length xs - 1) xs ++ (last ∷ [])
front_last xs last le e =
    let n = length xs - 1 in
    let whole : take (n + 1) xs ≡ xs = take_all (n + 1) xs (omega arith) in
    sym whole ∙ take_more xs n last (omega arith) ∙ ap (λ y. take n xs ++ (y ∷ [])) (sym e)

-- the front and the last element of a list are below what is above the list
pub front_below : {A : Type 0} (size : A → ℕ) (n : ℕ) (args front : List A) (last : A) → args ≡ front ++ (last ∷ []) → most size args < n → most size front < n
front_below size n args front last e lt = let m : most size args ≡ most size (front ++ (last ∷ [])) = ap (most size) e in omega (arith, m, most-append size front (last ∷ []))

pub last_below : {A : Type 0} (size : A → ℕ) (n : ℕ) (args front : List A) (last : A) → args ≡ front ++ (last ∷ []) → most size args < n → size last < n
last_below size n args front last e lt = let m : most size args ≡ most size (front ++ (last ∷ [])) = ap (most size) e in omega (arith, m, most-append size front (last ∷ []))

-- T the terms, F the fronts, over a front around its last argument
module _ (T F : Type 0) (over : F → T → T) where
  -- the fronts, each around what follows, with v innermost
  abbrev pub rebuilt : List F → T → T
  rebuilt [] v = v
  rebuilt (f ∷ fs) v = over f (rebuilt fs v)

  pub rebuilt-push : (fs : List F) (f : F) (v : T) → rebuilt (fs ++ (f ∷ [])) v ≡ rebuilt fs (over f v)
  rebuilt-push [] f v = refl
  rebuilt-push (g ∷ fs) f v = ap (over g) (rebuilt-push fs f v)

  pub opens : (fs gs : List F) (f : F) (rest last v : T) → rest ≡ over f last → gs ≡ fs ++ (f ∷ []) → rebuilt fs rest ≡ v → rebuilt gs last ≡ v
  opens fs gs f rest last v is g h = ap (λ l. rebuilt l last) g ∙ rebuilt-push fs f last ∙ ap (rebuilt fs) (sym is) ∙ h

  pub closes : (fs gs : List F) (f : F) (copy whole v : T) → gs ≡ fs ++ (f ∷ []) → whole ≡ over f copy → rebuilt gs copy ≡ v → rebuilt fs whole ≡ v
  closes fs gs f copy whole v g is h = ap (rebuilt fs) is ∙ sym (rebuilt-push fs f copy) ∙ ap (λ l. rebuilt l copy) (sym g) ∙ h

-- What is left of a mapped list, and numbers one after another.
use Rattle.std.proofs.Common.{◌≡◌, ℕ, zero, suc, ◌+◌, ◌<◌, ◌≤◌, List, [], ◌∷◌, ◌++◌, map, length, drop, get_or, sym, ap, ◌∙◌, append_assoc, append-nil, arith}
use Rattle.std.proofs.lemmas.List.{map-append, at_drop_more, at_drop_all}
use Rattle.mc_model.specs.Lists.{from}

pub drop_map : {A B : Type 0} (f : A → B) (xs : List A) (k : ℕ) (x : A) → k < length xs → x ≡ get_or xs k x → drop k (map f xs) ≡ f x ∷ drop (k + 1) (map f xs)
drop_map f [] k x h e = absurd (omega (arith, h))
drop_map f (y ∷ xs) zero x h e = ap (λ z. f z ∷ map f xs) (sym e)
drop_map f (y ∷ xs) (suc k) x h e =
    let s : suc (k + 1) ≡ suc k + 1 = omega arith in
    let l : k < length xs = omega (arith, h) in
    drop_map f xs k x l e ∙ ap (λ j. f x ∷ drop j (f y ∷ map f xs)) s

-- the next of a mapped list is put at the end
pub next_mapped : {A B : Type 0} (f : A → B) (xs : List A) (k : ℕ) (x y : A) (into into' : List A) (W : List B) → k < length xs → x ≡ get_or xs k x → y ≡ x → into' ≡ into ++ y ∷ []
    → map f into ++ drop k (map f xs) ≡ W → map f into' ++ drop (k + 1) (map f xs) ≡ W
next_mapped f xs k x y into into' W h e same is whole =
    ap (λ l. map f l ++ drop (k + 1) (map f xs)) is
    ∙ ap (λ l. l ++ drop (k + 1) (map f xs)) (map-append f into (y ∷ []) ∙ ap (λ z. map f into ++ f z ∷ []) same)
    ∙ append_assoc (map f into) (f x ∷ []) (drop (k + 1) (map f xs))
    ∙ ap (λ l. map f into ++ l) (sym (drop_map f xs k x h e))
    ∙ whole

-- one value for each of those that are left
pub next_constant : {A B : Type 0} (b : B) (xs : List A) (d : A) (k : ℕ) (into into' W : List B) → k < length xs → into' ≡ into ++ b ∷ [] →
    into ++ map (λ x. b) (drop k xs) ≡ W → into' ++ map (λ x. b) (drop (k + 1) xs) ≡ W
next_constant b xs d k into into' W h is whole =
    ap (λ l. l ++ map (λ x. b) (drop (k + 1) xs)) is
    ∙ append_assoc into (b ∷ []) (map (λ x. b) (drop (k + 1) xs))
    ∙ ap (λ l. into ++ l) (sym (at_drop_more (map (λ x. b)) xs k d h))
    ∙ whole

pub no_more_constants : {A B : Type 0} (b : B) (xs : List A) (k : ℕ) (into W : List B) → length xs ≤ k → into ++ map (λ x. b) (drop k xs) ≡ W → into ≡ W
no_more_constants b xs k into W h whole = sym (append-nil into) ∙ ap (λ l. into ++ l) (sym (at_drop_all (map (λ x. b)) xs k h)) ∙ whole

pub from_more : (n k j : ℕ) → j ≡ n + k → from n (k + 1) ≡ from n k ++ j ∷ []
from_more n zero j e = let s : n ≡ j = omega (arith, e) in ap (λ x. x ∷ []) s
from_more n (suc k) j e =
    let s : suc k + 1 ≡ suc (k + 1) = omega arith in
    let t : j ≡ suc n + k = omega (arith, e) in
    ap (from n) s ∙ ap (λ l. n ∷ l) (from_more (suc n) k j t)

-- What is put on a stack is its first in the view.
use Rattle.std.proofs.Common.{◌≡◌, sym, ap, ◌∙◌, List, [], ◌∷◌, ◌++◌, ℕ, length, take, drop, reverse, map}
use Rattle.std.proofs.lemmas.List.{reverse-append, map_push, map-append, take-append-drop, length-reverse, length-map}

pub pushed : {A B : Type 0} (f : A → B) (xs ys : List A) (x : A) → ys ≡ xs ++ x ∷ [] → reverse (map f ys) ≡ f x ∷ reverse (map f xs)
pushed f xs ys x e = ap (λ l. reverse (map f l)) e ∙ ap reverse (map_push f xs x) ∙ reverse-append (map f xs) (f x ∷ [])

pub seen_length : {A B : Type 0} (f : A → B) (xs : List A) → length (reverse (map f xs)) ≡ length xs
seen_length f xs = length-reverse (map f xs) ∙ length-map xs f

-- what lies above a height of a stack is first in the view
pub seen_split : {A B : Type 0} (f : A → B) (n : ℕ) (xs : List A) → reverse (map f xs) ≡ reverse (map f (drop n xs)) ++ reverse (map f (take n xs))
seen_split f n xs =
    ap (λ l. reverse (map f l)) (sym (take-append-drop n xs)) ∙ ap reverse (map-append f (take n xs) (drop n xs))
    ∙ reverse-append (map f (take n xs)) (map f (drop n xs))

-- Numbers in lists: where they stand, and each of them once.
use Rattle.std.proofs.Common.{◌≡◌, ℕ, suc, List, [], ◌∷◌, ◌++◌, length, Bool, true, false, cond, nat_eq, ◌||◌, refl, sym, ap, ◌∙◌, append-nil}
use Rattle.std.proofs.lemmas.Bool.{eqb-true, eqb-false}
use Rattle.mc_model.specs.Lists.{is_in, without, once, place_in}

pub itself : (x : ℕ) → nat_eq x x ≡ true
itself x = by_test (nat_eq x x) (eqb-false x x)
  where
    by_test : (t : Bool) → (t ≡ false → x ≡ x → ⊥) → t ≡ true
    by_test true h = refl
    by_test false h = absurd (h refl refl)

or_in : (t a b : Bool) → cond t true (a || b) ≡ (cond t true a || b)
or_in true a b = refl
or_in false a b = refl

pub is_in-append : (x : ℕ) (xs ys : List ℕ) → is_in x (xs ++ ys) ≡ (is_in x xs || is_in x ys)
is_in-append x [] ys = refl
is_in-append x (y ∷ xs) ys = ap (λ b. cond (nat_eq x y) true b) (is_in-append x xs ys) ∙ or_in (nat_eq x y) (is_in x xs) (is_in x ys)

cond_append : (t : Bool) (x : ℕ) (l k : List ℕ) → cond t (l ++ k) (x ∷ (l ++ k)) ≡ cond t l (x ∷ l) ++ k
cond_append true x l k = refl
cond_append false x l k = refl

pub without-append : (xs ys vs : List ℕ) → without (xs ++ ys) vs ≡ without xs vs ++ without ys vs
without-append [] ys vs = refl
without-append (x ∷ xs) ys vs = ap (λ l. cond (is_in x vs) l (x ∷ l)) (without-append xs ys vs) ∙ cond_append (is_in x vs) x (without xs vs) (without ys vs)

last_once : (e : Bool) (y v : ℕ) (l : List ℕ) → y ∷ (l ++ cond (cond e true false) [] (v ∷ [])) ≡ cond (cond e true false) (y ∷ l) ((y ∷ l) ++ v ∷ [])
last_once true y v l = ap (λ k. y ∷ k) (append-nil l)
last_once false y v l = refl

push_once : (m e : Bool) (y v : ℕ) (l : List ℕ) → nat_eq v y ≡ e → y ∷ without (cond m l (l ++ v ∷ [])) (y ∷ []) ≡ cond (cond e true m) (y ∷ without l (y ∷ [])) ((y ∷ without l (y ∷ [])) ++ v ∷ [])
push_once true true y v l q = refl
push_once true false y v l q = refl
push_once false e y v l q =
    ap (λ k. y ∷ k) (without-append l (v ∷ []) (y ∷ []))
    ∙ ap (λ t. y ∷ (without l (y ∷ []) ++ cond (cond t true false) [] (v ∷ []))) q
    ∙ last_once e y v (without l (y ∷ []))

-- one more number is there once, or was there
pub once-push : (xs : List ℕ) (v : ℕ) → once (xs ++ v ∷ []) ≡ cond (is_in v xs) (once xs) (once xs ++ v ∷ [])
once-push [] v = refl
once-push (y ∷ ys) v =
    ap (λ l. y ∷ without l (y ∷ [])) (once-push ys v)
    ∙ push_once (is_in v ys) (nat_eq v y) y v (once ys) refl

same_cond : (b m : Bool) → cond b false m ≡ cond b false (cond b true m)
same_cond true m = refl
same_cond false m = refl

swapped : (a b m : Bool) → (a ≡ true → b ≡ true → ⊥) → cond a true (cond b false m) ≡ cond b false (cond a true m)
swapped true true m h = absurd (h refl refl)
swapped true false m h = refl
swapped false true m h = refl
swapped false false m h = refl

without_step : (w v x : ℕ) (l : List ℕ) (m t : Bool) → nat_eq x v ≡ t → is_in w l ≡ cond (nat_eq w v) false m → is_in w (cond (cond t true false) l (x ∷ l)) ≡ cond (nat_eq w v) false (cond (nat_eq w x) true m)
without_step w v x l m true q h = h ∙ same_cond (nat_eq w v) m ∙ ap (λ y. cond (nat_eq w v) false (cond (nat_eq w y) true m)) (sym (eqb-true x v q))
without_step w v x l m false q h = ap (λ b. cond (nat_eq w x) true b) h ∙ swapped (nat_eq w x) (nat_eq w v) m (λ a b. eqb-false x v q (sym (eqb-true w x a) ∙ eqb-true w v b))

no_more : (t : Bool) → false ≡ cond t false false
no_more true = refl
no_more false = refl

pub is_in-without_one : (w v : ℕ) (xs : List ℕ) → is_in w (without xs (v ∷ [])) ≡ cond (nat_eq w v) false (is_in w xs)
is_in-without_one w v [] = no_more (nat_eq w v)
is_in-without_one w v (x ∷ xs) = without_step w v x (without xs (v ∷ [])) (is_in w xs) (nat_eq x v) refl (is_in-without_one w v xs)

there_or : (t m : Bool) → cond t true (cond t false m) ≡ cond t true m
there_or true m = refl
there_or false m = refl

pub is_in-once : (w : ℕ) (xs : List ℕ) → is_in w (once xs) ≡ is_in w xs
is_in-once w [] = refl
is_in-once w (y ∷ ys) =
    ap (λ b. cond (nat_eq w y) true b) (is_in-without_one w y (once ys) ∙ ap (λ b. cond (nat_eq w y) false b) (is_in-once w ys)) ∙ there_or (nat_eq w y) (is_in w ys)

place_step : (t m : Bool) (p q : ℕ) → cond t true m ≡ true → (m ≡ true → p ≡ q) → cond t 0 (suc p) ≡ cond t 0 (suc q)
place_step true m p q h rest = refl
place_step false m p q h rest = ap suc (rest h)

-- the place of a number that is there stays, and one that isn't there is put at the end
pub place-there : (w : ℕ) (xs ys : List ℕ) → is_in w xs ≡ true → place_in w (xs ++ ys) ≡ place_in w xs
place-there w [] ys h = cc
place-there w (x ∷ xs) ys h = place_step (nat_eq w x) (is_in w xs) (place_in w (xs ++ ys)) (place_in w xs) h (λ k. place-there w xs ys k)

end_step : (t m : Bool) (p n : ℕ) → cond t true m ≡ false → (m ≡ false → p ≡ n) → cond t 0 (suc p) ≡ suc n
end_step true m p n h rest = cc
end_step false m p n h rest = ap suc (rest h)

pub place-last : (w : ℕ) (xs : List ℕ) → is_in w xs ≡ false → place_in w (xs ++ w ∷ []) ≡ length xs
place-last w [] h = ap (λ t. cond t 0 1) (itself w)
place-last w (x ∷ xs) h = end_step (nat_eq w x) (is_in w xs) (place_in w (xs ++ w ∷ [])) (length xs) h (λ k. place-last w xs k)

pub place-absent : (w : ℕ) (xs : List ℕ) → is_in w xs ≡ false → place_in w xs ≡ length xs
place-absent w [] h = refl
place-absent w (x ∷ xs) h = end_step (nat_eq w x) (is_in w xs) (place_in w xs) (length xs) h (λ k. place-absent w xs k)

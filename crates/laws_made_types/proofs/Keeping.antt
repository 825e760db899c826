-- What is kept by flags.
use Rattle.std.proofs.Common.{◌≡◌, Bool, true, false, List, [], ◌∷◌, ◌++◌, length, refl, sym, ap, ◌∙◌, arith, append_assoc, append-nil, length-append}
use Rattle.laws_made_types.specs.Makes.{kept}

-- flags for some things, and flags for those behind them
pub kept_both : {A : Type 0} (bs cs : List Bool) (xs ys : List A) → length xs ≡ length bs → kept (bs ++ cs) (xs ++ ys) ≡ kept bs xs ++ kept cs ys
kept_both [] cs [] ys e = refl
kept_both [] cs (x ∷ xs) ys e = absurd (omega (arith, e))
kept_both (b ∷ bs) cs [] ys e = absurd (omega (arith, e))
kept_both (true ∷ bs) cs (x ∷ xs) ys e = ap (λ zs. x ∷ zs) (kept_both bs cs xs ys (omega (arith, e)))
kept_both (false ∷ bs) cs (x ∷ xs) ys e = kept_both bs cs xs ys (omega (arith, e))

pub kept_push : {A : Type 0} (bs : List Bool) (xs : List A) (x : A) → length xs ≡ length bs → kept (bs ++ true ∷ []) (xs ++ x ∷ []) ≡ kept bs xs ++ x ∷ []
kept_push bs xs x e = kept_both bs (true ∷ []) xs (x ∷ []) e

pub kept_drop : {A : Type 0} (bs : List Bool) (xs : List A) (x : A) → length xs ≡ length bs → kept (bs ++ false ∷ []) (xs ++ x ∷ []) ≡ kept bs xs
kept_drop bs xs x e = kept_both bs (false ∷ []) xs (x ∷ []) e ∙ append-nil (kept bs xs)

pub long_both : {A : Type 0} (bs cs : List Bool) (xs ys : List A) → length xs ≡ length bs → length ys ≡ length cs → length (xs ++ ys) ≡ length (bs ++ cs)
long_both bs cs xs ys e f = omega (arith, e, f, length-append xs ys, length-append bs cs)

-- a list that begins with these, and then with those
pub both_split : {A : Type 0} (all xs later ys rest : List A) → all ≡ xs ++ later → later ≡ ys ++ rest → all ≡ (xs ++ ys) ++ rest
both_split all xs later ys rest e f = e ∙ ap (λ us. xs ++ us) f ∙ sym (append_assoc xs ys rest)

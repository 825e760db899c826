-- How many terms there are in a row, and the places of names.
use Rattle.std.proofs.Common.{◌≡◌, ℕ, suc, Bool, true, false, ◌+◌, ◌<◌, List, [], ◌∷◌, map, length, get_or, drop, refl, sym, ◌∙◌, arith}
use Rattle.std.specs.Prelude.{if◌then◌else◌}
use Rattle.std.specs.Str.{bytes_eq}
use Rattle.std.proofs.lemmas.List.{at_drop_more}
use Rattle.std.proofs.lemmas.Slice.Eq.{bytes_eq-Decides}
use Rattle.mc_term_data.specs.Names.{count}
use Rattle.mc_term_data.specs.Plain.{term_list, plain_term}
use Rattle.mc_term_data.specs.declared.term.Term.{Term}
use Rattle.mc_names.specs.Parameters.{place_of}

pub count_is_length : (ts : List Term) → count (term_list (map plain_term ts)) ≡ length ts
count_is_length [] = refl
count_is_length (t ∷ ts) = let e = count_is_length ts in omega arith

-- the place of a name in a list that begins with it, or with another
at_head :
    (x z : List ℕ) (zs : List (List ℕ)) → z ≡ x → place_of x (z ∷ zs) ≡ 0
at_head x z zs same =
    let found : bytes_eq x z ≡ true = (bytes_eq-Decides x z).1 (sym same) in
    rw found refl

below_by : (b : Bool) (n : ℕ) → (b ≡ true → ⊥) → (if b then 0 else suc n) ≡ suc n
below_by true n h = absurd (h refl)
below_by false n h = refl

below_head :
    (x z : List ℕ) (zs : List (List ℕ))
    → (z ≡ x → ⊥) → place_of x (z ∷ zs) ≡ suc (place_of x zs)
below_head x z zs other =
    below_by (bytes_eq x z) (place_of x zs) (λ e. other (sym ((bytes_eq-Decides x z).0 e)))

pub place_here :
    (x y : List ℕ) (xs : List (List ℕ)) (i : ℕ)
    → i < length xs → y ≡ get_or xs i y → y ≡ x → place_of x (drop i xs) ≡ 0
place_here x y xs i below is same =
    at_drop_more (place_of x) xs i y below
    ∙ at_head x (get_or xs i y) (drop (i + 1) xs) (sym is ∙ same)

pub place_there :
    (x y : List ℕ) (xs : List (List ℕ)) (i : ℕ)
    → i < length xs → y ≡ get_or xs i y → (y ≡ x → ⊥)
    → place_of x (drop i xs) ≡ suc (place_of x (drop (i + 1) xs))
place_there x y xs i below is other =
    at_drop_more (place_of x) xs i y below
    ∙ below_head x (get_or xs i y) (drop (i + 1) xs) (λ e. other (is ∙ e))

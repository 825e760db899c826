-- Numbers of what each file has.
use Rattle.std.proofs.Common.{◌≡◌, ℕ, ◌+◌, ◌<◌, ◌≤◌, Bool, true, false, ◌||◌, List, [], ◌∷◌, ◌++◌, zero, suc, map, length, take, get_or, refl, ap, sym, ◌∙◌, arith, length-append}
use Rattle.std.proofs.lemmas.List.{length-map, get_or_past, get_or-map}
use Rattle.mc_names.specs.declared.names.Named.{Named}
use Rattle.mc_names.specs.Linked.{Defined, plain_named}
use Rattle.mc_modules.specs.Linked.{numbers, before, has_of, flat}
use Rattle.mc_modules.specs.code.Passes.{starts_from}
use Rattle.mc_names.specs.code.Kept.{kept}

pub length-starts_from : {A : Type 0} (n : ℕ) (xss : List (List A)) → length (starts_from n xss) ≡ length xss
length-starts_from n [] = refl
length-starts_from n (xs ∷ xss) = let e = length-starts_from (n + length xs) xss in omega (arith, e)

start_at : (n : ℕ) (xss : List (List Named)) (k d : ℕ) → k < length xss → get_or (starts_from n xss) k d ≡ n + before k (map (map plain_named) xss)
start_at n [] k d h = absurd (omega arith)
start_at n (xs ∷ xss) zero d h = omega arith
start_at n (xs ∷ xss) (suc k) d h =
    let e = start_at (n + length xs) xss k d (omega arith) in
    let f = length-append (map plain_named xs) (flat (take k (map (map plain_named) xss))) in
    let g = length-map xs plain_named in omega (arith, e, f, g)

-- where the numbers of a file's begin
pub start_of : (xss : List (List Named)) (k d : ℕ) → k < length xss → get_or (starts_from 0 xss) k d ≡ before k (map (map plain_named) xss)
start_of xss k d h = let e = start_at 0 xss k d h in omega (arith, e)

pub starts_length : (ns : List ℕ) (xss : List (List Named)) → ns ≡ starts_from 0 xss → length ns ≡ length xss
starts_length ns xss e = ap length e ∙ length-starts_from 0 xss

pub start_there : (ns : List ℕ) (xss : List (List Named)) (k d : ℕ) → ns ≡ starts_from 0 xss → k < length xss → get_or ns k d ≡ before k (map (map plain_named) xss)
start_there ns xss k d e h = ap (λ ms. get_or ms k d) e ∙ start_of xss k d h

pub has_past : (xss : List (List Named)) (k : ℕ) → length xss ≤ k → has_of k (map (map plain_named) xss) ≡ []
has_past xss k h = get_or_past (map (map plain_named) xss) k [] (rw (length-map xss (map plain_named)) h)

pub has_there : (xss : List (List Named)) (k : ℕ) (xs : List Named) → k < length xss → xs ≡ get_or xss k xs → has_of k (map (map plain_named) xss) ≡ map plain_named xs
has_there xss k xs h e = get_or-map (map plain_named) xss k xs [] h ∙ ap (map plain_named) (sym e)

-- one more number, or none
pub numbers_step : (own : Bool) (n : ℕ) (d : Defined) (ds : List Defined) (sees : Bool) → sees ≡ (own || d.exported) → numbers own n (d ∷ ds) ≡ kept sees n ++ numbers own (n + 1) ds
numbers_step own n d ds true e = rw (← e) refl
numbers_step own n d ds false e = rw (← e) refl

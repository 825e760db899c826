-- How deep the parts of a term are.
use Rattle.std.proofs.Common.{◌≡◌, ℕ, ◌+◌, ◌-◌, ◌≤◌, ◌<◌, max, List, [], ◌∷◌, ◌++◌, length, map, take, get_or, Some, ap, sym, ◌∙◌, subst, arith, zero, suc}
use Rattle.std.proofs.lemmas.List.{take_more, map-append}
use Rattle.mc_term_data.proofs.Lasts.{plain_front_of}
use Rattle.mc_term_data.specs.declared.term.Term.{Term}
use Rattle.mc_term_data.specs.Plain.{PlainTerm, at, Var, Int, Str, App, Items, Tailed, Conj, Disj, PlainTerms, no_term, more_terms, term_list, depth, deepest, plain_term, plain_terms}
use Rattle.mc_term_data.specs.code.LastParts.{last_from, last_term, last_part}

-- the depth of the deepest of some terms
abbrev pub deepest_of : List Term → ℕ
deepest_of xs = deepest (plain_terms xs)

last_within : (t : PlainTerm) (ts : PlainTerms) → depth (last_from t ts) ≤ max (depth t) (deepest ts)
last_within t no_term = omega arith
last_within t (more_terms u us) = let h = last_within u us in omega (arith, h)

last_of_terms : (ts : PlainTerms) (u : PlainTerm) → last_term ts ≡ Some u → depth u ≤ deepest ts
last_of_terms no_term u e = cc
last_of_terms (more_terms t ts) u e =
    let same : last_from t ts ≡ u = cc in
    subst (λ v. depth v ≤ max (depth t) (deepest ts)) same (last_within t ts)

-- the last part is less deep
pub last_shallower : (t u : PlainTerm) → last_part t ≡ Some u → depth u < depth t
last_shallower (at (Var w) l) u e = cc
last_shallower (at (Int n) l) u e = cc
last_shallower (at (Str s) l) u e = cc
last_shallower (at (App w ts) l) u e = omega (arith, last_of_terms ts u e)
last_shallower (at (Items ts) l) u e = omega (arith, last_of_terms ts u e)
last_shallower (at (Tailed ts t) l) u e =
    let same : t ≡ u = cc in
    omega (arith, ap depth same)
last_shallower (at (Conj ts) l) u e = omega (arith, last_of_terms ts u e)
last_shallower (at (Disj ts) l) u e = omega (arith, last_of_terms ts u e)

deepest_append : (ts us : List PlainTerm) → deepest (term_list (ts ++ us)) ≡ max (deepest (term_list ts)) (deepest (term_list us))
deepest_append [] us = omega arith
deepest_append (t ∷ ts) us = omega (arith, deepest_append ts us)

pub deepest_take : (n : ℕ) (xs : List Term) → deepest_of (take n xs) ≤ deepest_of xs
deepest_take zero xs = omega arith
deepest_take (suc n) [] = omega arith
deepest_take (suc n) (x ∷ xs) = omega (arith, deepest_take n xs)

depth_at : (xs : List Term) (i : ℕ) (d : Term) → i < length xs → depth (plain_term (get_or xs i d)) ≤ deepest_of xs
depth_at [] i d le = absurd (omega arith)
depth_at (x ∷ xs) zero d le = omega arith
depth_at (x ∷ xs) (suc i) d le = omega (arith, depth_at xs i d (omega arith))

pub depth_item : (xs : List Term) (i : ℕ) (x : Term) → i < length xs → x ≡ get_or xs i x → depth (plain_term x) ≤ deepest_of xs
depth_item xs i x le e = subst (λ y. depth (plain_term y) ≤ deepest_of xs) (sym e) (depth_at xs i x le)

pub deepest_more : (xs : List Term) (i : ℕ) (x : Term) → i < length xs → x ≡ get_or xs i x → deepest_of (take (i + 1) xs) ≡ max (deepest_of (take i xs)) (depth (plain_term x))
deepest_more xs i x le e =
    ap deepest_of (take_more xs i x le)
    ∙ ap (λ ts. deepest (term_list ts)) (map-append plain_term (take i xs) (get_or xs i x ∷ []))
    ∙ deepest_append (map plain_term (take i xs)) (plain_term (get_or xs i x) ∷ [])
    ∙ subst (λ y. max (deepest_of (take i xs)) (max (depth (plain_term y)) 0) ≡ max (deepest_of (take i xs)) (depth (plain_term x))) e (omega arith)

-- the front and the last of some terms
pub deepest_front : (xs : List Term) (u : PlainTerm) → 1 ≤ length xs → last_term (plain_terms xs) ≡ Some u → deepest_of xs ≡ max (deepest_of (take (length xs - 1) xs)) (depth u)
deepest_front xs u le last =
    ap (λ ts. deepest (term_list ts)) (plain_front_of xs u le last)
    ∙ deepest_append (map plain_term (take (length xs - 1) xs)) (u ∷ [])
    ∙ omega arith

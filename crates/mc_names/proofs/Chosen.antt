-- Numbers of definitions that pass a test, chosen among those of definitions that pass another.
use Rattle.std.proofs.Common.{◌≡◌, ℕ, suc, ◌+◌, Bool, true, false, cond, ◌&&◌, ◌||◌, nat_eq, List, [], ◌∷◌, ◌++◌, map, Some, refl, ap, sym, ◌∙◌, arith}
use Rattle.std.specs.Prelude.{slice_get}
use Rattle.std.specs.Str.{bytes_eq}
use Rattle.std.specs.Cmp.Lexicographic.{nat_list_eq_equiv}
use Rattle.mc_names.specs.Plain.{PlainNameArity}
use Rattle.mc_names.specs.declared.names.Named.{Named}
use Rattle.mc_names.specs.Numbers.{numbers_where}
use Rattle.mc_names.specs.code.Index.{numbers_called}
use Rattle.mc_names.specs.Linked.{Linked, plain_named}
use Rattle.mc_names.specs.Candidates.{is_module, type_fits, type_numbers}
use Rattle.mc_names.specs.code.Chosen.{passes, chosen, has_id, type_seen, types_seen}

-- tests that agree choose the same
numbers_where-same : {A : Type 0} (p q : A → Bool) (n : ℕ) (xs : List A) → ((x : A) → p x ≡ q x) → numbers_where p n xs ≡ numbers_where q n xs
numbers_where-same p q n [] h = refl
numbers_where-same p q n (x ∷ xs) h = rw (h x, numbers_where-same p q (n + 1) xs h) refl

numbers_where-map : {A B : Type 0} (f : A → B) (p : B → Bool) (n : ℕ) (xs : List A) → numbers_where p n (map f xs) ≡ numbers_where (λ x. p (f x)) n xs
numbers_where-map f p n [] = refl
numbers_where-map f p n (x ∷ xs) = ap (λ ns. cond (p (f x)) (n ∷ ns) ns) (numbers_where-map f p (n + 1) xs)

module _ {A : Type 0} (p q : A → Bool) (all : List A) where
  chosen_step : (x : A) (n : ℕ) (b : Bool) (ns ms : List ℕ) → slice_get all n ≡ Some x → chosen p all ns ≡ ms → chosen p all (cond b (n ∷ ns) ns) ≡ cond (b && p x) (n ∷ ms) ms
  chosen_step x n true ns ms h ih = ap (λ o. cond (passes p o) (n ∷ chosen p all ns) (chosen p all ns)) h ∙ ap (λ ks. cond (p x) (n ∷ ks) ks) ih
  chosen_step x n false ns ms h ih = ih

  chosen_from : (n : ℕ) (xs : List A) → ((i : ℕ) → slice_get all (n + i) ≡ slice_get xs i) → chosen p all (numbers_where q n xs) ≡ numbers_where (λ x. q x && p x) n xs
  chosen_from n [] h = refl
  chosen_from n (x ∷ xs) h =
      let none : n ≡ n + 0 = omega arith in
      chosen_step x n (q x) (numbers_where q (n + 1) xs) (numbers_where (λ x. q x && p x) (n + 1) xs) (ap (slice_get all) none ∙ h 0)
      (chosen_from (n + 1) xs (λ i. let more : n + 1 + i ≡ n + suc i = omega arith in ap (slice_get all) more ∙ h (suc i)))

  -- those that pass one test, among those that pass another
  chosen-numbers_where : chosen p all (numbers_where q 0 all) ≡ numbers_where (λ x. q x && p x) 0 all
  chosen-numbers_where = chosen_from 0 all (λ i. let same : 0 + i ≡ i = omega arith in ap (slice_get all) same)

and_swapped : (a b : Bool) → (a && b) ≡ (b && a)
and_swapped true true = refl
and_swapped true false = refl
and_swapped false true = refl
and_swapped false false = refl

and_last : (a b c : Bool) → (c && (a && b)) ≡ (a && (b && c))
and_last true true true = refl
and_last true true false = refl
and_last true false true = refl
and_last true false false = refl
and_last false b true = refl
and_last false b false = refl

-- those of a name that have the number of arguments
pub of_id : (types : List Named) (x : PlainNameArity) → chosen (λ d. nat_eq d.name.arity x.arity) types (numbers_called x.name 0 types) ≡ numbers_where (has_id x) 0 (map plain_named types)
of_id types x =
    chosen-numbers_where (λ d. nat_eq d.name.arity x.arity) (λ d. bytes_eq x.name d.name.name) types
    ∙ numbers_where-same _ (λ d. has_id x (plain_named d)) 0 types (λ d. ap (λ b. b && nat_eq d.name.arity x.arity) (nat_list_eq_equiv.symm x.name d.name.name) ∙ and_swapped (bytes_eq d.name.name x.name) (nat_eq d.name.arity x.arity))
    ∙ sym (numbers_where-map plain_named (has_id x) 0 types)

-- those of them that the modules have, and the other module sees
pub seen_of_id : (l : Linked) (own : ℕ) (x : PlainNameArity) (js : List ℕ) → types_seen l own (numbers_where (has_id x) 0 l.types) js ≡ type_numbers l own x js
seen_of_id l own x [] = refl
seen_of_id l own x (j ∷ js) =
    let here : chosen (type_seen l own j) l.types (numbers_where (has_id x) 0 l.types) ≡ numbers_where (type_fits l own x j) 0 l.types =
    chosen-numbers_where (type_seen l own j) (has_id x) l.types
    ∙ numbers_where-same _ (type_fits l own x j) 0 l.types (λ d. and_last (is_module d.name.module (slice_get l.scopes j)) (nat_eq own j || d.exported) (has_id x d)) in
    ap (λ ks. ks ++ types_seen l own (numbers_where (has_id x) 0 l.types) js) here ∙ ap (λ ks. numbers_where (type_fits l own x j) 0 l.types ++ ks) (seen_of_id l own x js)

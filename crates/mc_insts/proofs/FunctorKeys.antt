-- Functors and types in sets of keys.
use Rattle.std.proofs.Common.{◌≡◌, ℕ, zero, suc, ◌+◌, ◌<◌, ◌≤◌, Bool, true, false, List, [], ◌∷◌, ◌++◌, ◌&&◌, length, get_or, map, nat_eq, Some, refl, sym, ap, ◌∙◌, subst, arith, length-append, if◌then◌else◌}
use Rattle.std.specs.List.{list_any, slice_get}
use Rattle.std.specs.Str.{bytes_eq}
use Rattle.std.proofs.lemmas.Bool.{eqb-true, eq-eqb}
use Rattle.std.proofs.lemmas.Slice.Eq.{bytes_eq-Decides}
use Rattle.std.proofs.lemmas.List.{get_or-map, length-map, get_or_append_left, get_or-append-add}
use Rattle.std.proofs.lemmas.List.Folds.{list_any_at}
use Rattle.std.proofs.lemmas.Option.{get_or_from_slice_get}
use Rattle.mc_insts.specs.declared.functors.NameArity.{NameArity}
use Rattle.mc_insts.specs.contracts.functors.NameArityPartialEq.TheImpl as NamedEq
use Rattle.mc_insts.specs.code.Functors.{Functor, functor_named}
use Rattle.mc_insts.specs.code.Walks.{functor_at, no_functor}
use Rattle.mc_insts.specs.code.Shown.{Distinct}
use Rattle.mc_insts.proofs.Found.{by_order}

abbrev pub functor_of : NameArity → Functor
functor_of n = functor_named n.name.items n.arity

abbrev same : NameArity → NameArity → Bool
same = NamedEq.eq-value.it

and_left : (a b : Bool) → (a && b) ≡ true → a ≡ true
and_left true b h = refl
and_left false b h = cc

and_right : (a b : Bool) → (a && b) ≡ true → b ≡ true
and_right true b h = h
and_right false b h = cc

both : (a b : Bool) → a ≡ true → b ≡ true → (a && b) ≡ true
both true b h i = i
both false b h i = cc

functors : (f g : List ℕ) (a b : ℕ) → f ≡ g → a ≡ b → functor_named f a ≡ functor_named g b
functors f g a b p q = ap (λ x. functor_named x a) p ∙ ap (λ x. functor_named g x) q

-- keys that are found equal are one functor
same_functor : (x y : NameArity) → same x y ≡ true → functor_of x ≡ functor_of y
same_functor x y h =
    functors x.name.items y.name.items x.arity y.arity
    ((bytes_eq-Decides x.name.items y.name.items).0 (and_left (bytes_eq x.name.items y.name.items) (nat_eq x.arity y.arity) h))
    (eqb-true x.arity y.arity (and_right (bytes_eq x.name.items y.name.items) (nat_eq x.arity y.arity) h))

same_again : (x y : NameArity) → x.name.items ≡ y.name.items → x.arity ≡ y.arity → same x y ≡ true
same_again x y p q = both (bytes_eq x.name.items y.name.items) (nat_eq x.arity y.arity) ((bytes_eq-Decides x.name.items y.name.items).1 p) (eq-eqb x.arity y.arity q)

within : (xs : List NameArity) (i : ℕ) (x : NameArity) → slice_get xs i ≡ Some x → i < length xs
within [] i x h = cc
within (y ∷ ys) zero x h = omega arith
within (y ∷ ys) (suc i) x h = let w = within ys i x h in omega arith

-- the functor of a key that is stored
pub stored : (keys : List NameArity) (f : ℕ) (value : NameArity) → (k : NameArity) × (slice_get keys f ≡ Some k) × (same value k ≡ true) → functor_at (map functor_of keys) f ≡ functor_of value
stored keys f value h =
    let at : get_or keys f h.0 ≡ h.0 = get_or_from_slice_get keys f h.0 h.0 h.1 in
    let lt : f < length keys = within keys f h.0 h.1 in
    get_or-map functor_of keys f h.0 no_functor lt ∙ ap functor_of at ∙ sym (same_functor value h.0 h.2)

-- one more key keeps functors distinct where no key is equal to it
pushed : (keys : List NameArity) (value : NameArity) → list_any (same value) keys ≡ false → Distinct (map functor_of keys) → Distinct (map functor_of (keys ++ value ∷ []))
pushed keys value new d f g v w p q =
    let n = length keys in
    let fs = map functor_of (keys ++ value ∷ []) in
    let m : length fs ≡ n + 1 = length-map (keys ++ value ∷ []) functor_of ∙ length-append keys (value ∷ []) in
    let old : (i : ℕ) → i < n → functor_at fs i ≡ functor_of (get_or keys i value) =
    λ i h. get_or-map functor_of (keys ++ value ∷ []) i value no_functor (omega (arith, length-append keys (value ∷ []))) ∙ ap functor_of (get_or_append_left keys (value ∷ []) value i h) in
    let last : functor_at fs n ≡ functor_of value =
    get_or-map functor_of (keys ++ value ∷ []) n value no_functor (omega (arith, length-append keys (value ∷ []))) ∙ ap functor_of (let z : n ≡ n + 0 = omega arith in ap (λ i. get_or (keys ++ value ∷ []) i value) z ∙ get_or-append-add keys (value ∷ []) 0 value) in
    let before : (i : ℕ) → i < n → functor_at fs i ≡ functor_at (map functor_of keys) i = λ i h. old i h ∙ sym (get_or-map functor_of keys i value no_functor h) in
    let clash : (i : ℕ) → i < n → (functor_at fs i).name ≡ (functor_at fs n).name → (functor_at fs i).arity ≡ (functor_at fs n).arity → ⊥ =
    λ i h a b.
    let name : value.name.items ≡ (get_or keys i value).name.items = ap (λ (x : Functor). x.name) (sym last) ∙ sym a ∙ ap (λ (x : Functor). x.name) (old i h) in
    let arity : value.arity ≡ (get_or keys i value).arity = ap (λ (x : Functor). x.arity) (sym last) ∙ sym b ∙ ap (λ (x : Functor). x.arity) (old i h) in
    let there : list_any (same value) keys ≡ true = list_any_at (same value) keys i value h (same_again value (get_or keys i value) name arity) in
    cc in
    by_order f n
    (λ a. by_order g n
    (λ b. d f g (subst (λ k. f < k) (sym (length-map keys functor_of)) a) (subst (λ k. g < k) (sym (length-map keys functor_of)) b)
    (ap (λ (x : Functor). x.name) (sym (before f a)) ∙ p ∙ ap (λ (x : Functor). x.name) (before g b))
    (ap (λ (x : Functor). x.arity) (sym (before f a)) ∙ q ∙ ap (λ (x : Functor). x.arity) (before g b)))
    (λ b. absurd (clash f a (p ∙ ap (λ i. (functor_at fs i).name) b) (q ∙ ap (λ i. (functor_at fs i).arity) b)))
    (λ b. absurd (omega arith)))
    (λ a. by_order g n
    (λ b. absurd (clash g b (sym p ∙ ap (λ i. (functor_at fs i).name) a) (sym q ∙ ap (λ i. (functor_at fs i).arity) a)))
    (λ b. omega arith)
    (λ b. absurd (omega arith)))
    (λ a. absurd (omega arith))

pub kept_distinct : (b : Bool) (keys : List NameArity) (value : NameArity) → list_any (same value) keys ≡ b → Distinct (map functor_of keys) → Distinct (map functor_of (if b then keys else keys ++ value ∷ []))
kept_distinct true keys value e d = d
kept_distinct false keys value e d = pushed keys value e d

-- a number that is new is that of the key that was put in
last_of : (b : Bool) (keys : List NameArity) (value : NameArity) (f : ℕ) (k : NameArity) → list_any (same value) keys ≡ b → slice_get (if b then keys else keys ++ value ∷ []) f ≡ Some k → same value k ≡ true
    → (n : ℕ) → length (map functor_of keys) ≤ n → n < length (map functor_of (if b then keys else keys ++ value ∷ [])) → n ≡ f
last_of true keys value f k e at eq n low high = absurd (omega arith)
last_of false keys value f k e at eq n low high =
    let m : length (map functor_of keys) ≡ length keys = length-map keys functor_of in
    let l : length (map functor_of (keys ++ value ∷ [])) ≡ length keys + 1 = length-map (keys ++ value ∷ []) functor_of ∙ length-append keys (value ∷ []) in
    let j : length (keys ++ value ∷ []) ≡ length keys + 1 = length-append keys (value ∷ []) in
    let lt : f < length (keys ++ value ∷ []) = within (keys ++ value ∷ []) f k at in
    by_order f (length keys)
    (λ a.
    let is : get_or keys f k ≡ k = sym (get_or_append_left keys (value ∷ []) k f a) ∙ get_or_from_slice_get (keys ++ value ∷ []) f k k at in
    let there : list_any (same value) keys ≡ true = list_any_at (same value) keys f k a (ap (same value) is ∙ eq) in
    let clash : true ≡ false = sym there ∙ e in
    cc)
    (λ a. omega arith)
    (λ a. absurd (omega arith))

pub last_is : (keys new : List NameArity) (value : NameArity) (f : ℕ) → new ≡ (if list_any (same value) keys then keys else keys ++ value ∷ []) → (k : NameArity) × (slice_get new f ≡ Some k) × (same value k ≡ true)
    → (n : ℕ) → length (map functor_of keys) ≤ n → n < length (map functor_of new) → n ≡ f
last_is keys new value f is s n low high =
    last_of (list_any (same value) keys) keys value f s.0 refl (subst (λ (ks : List NameArity). slice_get ks f ≡ Some s.0) is s.1) s.2 n low (subst (λ (ks : List NameArity). n < length (map functor_of ks)) is high)

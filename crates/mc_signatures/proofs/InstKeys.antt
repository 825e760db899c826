-- Insts in a set of keys: what a key stands for stays, and keys that are found equal stand for one inst.
use Rattle.std.proofs.Common.{◌≡◌, ℕ, zero, suc, ◌+◌, ◌<◌, ◌≤◌, Bool, true, false, List, [], ◌∷◌, ◌++◌, ◌&&◌, length, get_or, map, nat_eq, Option, Some, None, MatchOption, Bor, refl, sym, ap, ap₂, ◌∙◌, subst, arith, length-append, if◌then◌else◌}
use Rattle.std.specs.List.{slice_get}
use Rattle.std.specs.Option.{option_copied}
use Rattle.std.specs.Str.{bytes_eq}
use Rattle.std.specs.Cmp.Lexicographic.{pointwise}
use Rattle.std.proofs.lemmas.Bool.{eqb-true}
use Rattle.std.proofs.lemmas.Slice.Eq.{bytes_eq-Decides}
use Rattle.std.proofs.lemmas.List.{get_or-append-add}
use Rattle.mc_accepted.specs.InstRules.{Functor, InstTerm, inst_node, defined, bound_over}
use Rattle.mc_inst_table.specs.Plain.{inst_terms}
use Rattle.mc_signatures.specs.declared.keys.ListedFunctor.{ListedFunctor}
use Rattle.mc_signatures.specs.declared.keys.InstKey.{InstKey}
use Rattle.mc_signatures.specs.declared.keys.InstKey.TheVariants as K
use Rattle.mc_signatures.specs.contracts.keys.ListedFunctorPartialEq.TheImpl as NamedEq
use Rattle.mc_signatures.specs.contracts.keys.InstKeyPartialEq.TheImpl as KeyEq
use Rattle.mc_insts.specs.code.Lists.{Extends}
use Rattle.mc_insts.proofs.Growth.{extends_same, extends_on, extends_length, extends_get}
use Rattle.mc_signatures.specs.code.Keys.{builtins, term_at, terms_at, functor_of, term_of, terms_from, terms, AllBelow, KeyFits, KeysFit, IsInst}

abbrev same : InstKey → InstKey → Bool
same = KeyEq.eq-value.it

and_left : (a b : Bool) → (a && b) ≡ true → a ≡ true
and_left true b h = refl
and_left false b h = cc

and_right : (a b : Bool) → (a && b) ≡ true → b ≡ true
and_right true b h = h
and_right false b h = cc

abbrev functor : List ℕ → ℕ → Functor
functor f a = record { name = f; arity = a }

functors : (f g : List ℕ) (a b : ℕ) → f ≡ g → a ≡ b → functor f a ≡ functor g b
functors f g a b p q = ap (λ x. functor x a) p ∙ ap (λ x. functor g x) q

same_functor : (x y : ListedFunctor) → NamedEq.eq-value.it x y ≡ true → functor_of x ≡ functor_of y
same_functor x y h =
    functors x.name.items y.name.items x.arity y.arity
    ((bytes_eq-Decides x.name.items y.name.items).0 (and_left (bytes_eq x.name.items y.name.items) (nat_eq x.arity y.arity) h))
    (eqb-true x.arity y.arity (and_right (bytes_eq x.name.items y.name.items) (nat_eq x.arity y.arity) h))

same_functors : (xs ys : List ListedFunctor) → pointwise NamedEq.eq-value.it xs ys ≡ true → map functor_of xs ≡ map functor_of ys
same_functors [] [] h = refl
same_functors [] (y ∷ ys) h = cc
same_functors (x ∷ xs) [] h = cc
same_functors (x ∷ xs) (y ∷ ys) h =
    ap₂ (λ f fs. f ∷ fs)
    (same_functor x y (and_left (NamedEq.eq-value.it x y) (pointwise NamedEq.eq-value.it xs ys) h))
    (same_functors xs ys (and_right (NamedEq.eq-value.it x y) (pointwise NamedEq.eq-value.it xs ys) h))

same_defined : (ts : List InstTerm) (u v : ℕ) (xs ys : List ℕ) → u ≡ v → xs ≡ ys → defined u (terms_at ts xs) ≡ defined v (terms_at ts ys)
same_defined ts u v xs ys p q = ap (λ w. defined w (terms_at ts xs)) p ∙ ap (λ zs. defined v (terms_at ts zs)) q

same_listed : (ts : List InstTerm) (fs gs : List Functor) (xs ys : List ℕ) → fs ≡ gs → xs ≡ ys → bound_over fs (terms_at ts xs) ≡ bound_over gs (terms_at ts ys)
same_listed ts fs gs xs ys p q = ap (λ hs. bound_over hs (terms_at ts xs)) p ∙ ap (λ zs. bound_over gs (terms_at ts zs)) q

-- keys that are found equal stand for one inst
same_inst : (ts : List InstTerm) (x y : InstKey) → same x y ≡ true → term_of ts x ≡ term_of ts y
same_inst ts (K.Defined u xs) (K.Defined v ys) h =
    same_defined ts u v xs.items ys.items (eqb-true u v (and_left (nat_eq u v) (bytes_eq xs.items ys.items) h)) ((bytes_eq-Decides xs.items ys.items).0 (and_right (nat_eq u v) (bytes_eq xs.items ys.items) h))
same_inst ts (K.Listed fs xs) (K.Listed gs ys) h =
    same_listed ts (map functor_of fs.items) (map functor_of gs.items) xs.items ys.items
    (same_functors fs.items gs.items (and_left (pointwise NamedEq.eq-value.it fs.items gs.items) (bytes_eq xs.items ys.items) h))
    ((bytes_eq-Decides xs.items ys.items).0 (and_right (pointwise NamedEq.eq-value.it fs.items gs.items) (bytes_eq xs.items ys.items) h))
same_inst ts (K.Defined u xs) (K.Listed gs ys) h = cc
same_inst ts (K.Listed fs xs) (K.Defined v ys) h = cc

map_same : (f g : ℕ → InstTerm) (xs : List ℕ) → ((k : ℕ) → k < length xs → f (get_or xs k 0) ≡ g (get_or xs k 0)) → map f xs ≡ map g xs
map_same f g [] h = refl
map_same f g (x ∷ xs) h = ap₂ (λ y ys. y ∷ ys) (h 0 (omega arith)) (map_same f g xs (λ k lt. h (suc k) (omega arith)))

-- types that are there stay as more come
pub terms_on : (ts us : List InstTerm) (rows : List ℕ) → Extends ts us → AllBelow (length ts) rows → map (term_at us) rows ≡ map (term_at ts) rows
terms_on ts us rows e fits = map_same (term_at us) (term_at ts) rows (λ k lt. extends_get ts us (get_or rows k 0) (inst_node 0) e (fits k lt))

pub term_on : (ts us : List InstTerm) (key : InstKey) → Extends ts us → KeyFits (length ts) key → term_of us key ≡ term_of ts key
term_on ts us (K.Defined d args) e fits = ap (λ xs. defined d (inst_terms xs)) (terms_on ts us args.items e fits)
term_on ts us (K.Listed fs args) e fits = ap (λ xs. bound_over (map functor_of fs.items) (inst_terms xs)) (terms_on ts us args.items e fits)

pub all_below_on : (n m : ℕ) (ks : List ℕ) → n ≤ m → AllBelow n ks → AllBelow m ks
all_below_on n m ks le fits k lt = let x : get_or ks k 0 < n = fits k lt in omega arith

pub below_on : (n m : ℕ) (key : InstKey) → n ≤ m → KeyFits n key → KeyFits m key
below_on n m (K.Defined d args) le fits = all_below_on n m args.items le fits
below_on n m (K.Listed fs args) le fits = all_below_on n m args.items le fits

pub from_extends : (ts : List InstTerm) (keys : List InstKey) → Extends ts (terms_from ts keys)
from_extends ts [] = extends_same ts
from_extends ts (k ∷ ks) = extends_on ts (ts ++ term_of ts k ∷ []) (terms_from ts (k ∷ ks)) (record { more = term_of ts k ∷ []; is = refl }) (from_extends (ts ++ term_of ts k ∷ []) ks)

pub from_length : (ts : List InstTerm) (keys : List InstKey) → length (terms_from ts keys) ≡ length ts + length keys
from_length ts [] = omega arith
from_length ts (k ∷ ks) = let x = from_length (ts ++ term_of ts k ∷ []) ks in omega (arith, length-append ts (term_of ts k ∷ []))

-- one more key
pub from_push : (ts : List InstTerm) (keys : List InstKey) (k : InstKey) → terms_from ts (keys ++ k ∷ []) ≡ terms_from ts keys ++ term_of (terms_from ts keys) k ∷ []
from_push ts [] k = refl
from_push ts (j ∷ keys) k = from_push (ts ++ term_of ts j ∷ []) keys k

pub fit_push : (n : ℕ) (keys : List InstKey) (k : InstKey) → KeysFit n keys → KeyFits (n + length keys) k → KeysFit n (keys ++ k ∷ [])
fit_push n [] k h f = (below_on (n + 0) n k (omega arith) f, tt)
fit_push n (j ∷ keys) k h f = (h.0, fit_push (suc n) keys k h.1 (below_on (n + length (j ∷ keys)) (suc n + length keys) k (omega arith) f))

-- a number's type is that of its key
pub at_key : (ts : List InstTerm) (keys : List InstKey) (r : ℕ) (k : InstKey) → KeysFit (length ts) keys → slice_get keys r ≡ Some k
    → IsInst (terms_from ts keys) (length ts + r) (term_of (terms_from ts keys) k) × KeyFits (length (terms_from ts keys)) k
at_key ts [] r k fit h = cc
at_key ts (j ∷ keys) zero k fit h =
    let us = ts ++ term_of ts j ∷ [] in
    let e : j ≡ k = first j k h in
    let l : length us ≡ length ts + 1 = length-append ts (term_of ts j ∷ []) in
    let m = extends_length us (terms_from us keys) (from_extends us keys) in
    let is : term_at (terms_from us keys) (length ts + 0) ≡ term_of ts j =
    extends_get us (terms_from us keys) (length ts + 0) (inst_node 0) (from_extends us keys) (omega arith) ∙ get_or-append-add ts (term_of ts j ∷ []) 0 (inst_node 0) in
    subst (λ i. IsInst (terms_from us keys) (length ts + 0) (term_of (terms_from us keys) i) × KeyFits (length (terms_from us keys)) i) e (
      record { there = omega arith; is = is ∙ sym (term_on ts (terms_from us keys) j (from_extends ts (j ∷ keys)) fit.0) },
      below_on (length ts) (length (terms_from us keys)) j (omega arith) fit.0,
    )
  where
    first : (a b : InstKey) → Some a ≡ Some b → a ≡ b
    first a b e = cc
at_key ts (j ∷ keys) (suc r) k fit h =
    let us = ts ++ term_of ts j ∷ [] in
    let l : length us ≡ length ts + 1 = length-append ts (term_of ts j ∷ []) in
    let x = at_key us keys r k (subst (λ n. KeysFit n keys) (omega arith) fit.1) h in
    subst (λ n. IsInst (terms_from us keys) n (term_of (terms_from us keys) k) × KeyFits (length (terms_from us keys)) k) (omega arith) x

-- the same, behind the builtin insts
pub at_key_of : (keys : List InstKey) (r : ℕ) (k : InstKey) → KeysFit 4 keys → slice_get keys r ≡ Some k → IsInst (terms keys) (4 + r) (term_of (terms keys) k) × KeyFits (length (terms keys)) k
at_key_of keys r k fit h = at_key builtins keys r k fit h

pub keys_length : (keys : List InstKey) → length (terms keys) ≡ 4 + length keys
keys_length keys = from_length builtins keys

-- what a set of keys is after a key was put in
module _ (keys : List InstKey) (value : InstKey) (fit : KeysFit 4 keys) (fits : KeyFits (length (terms keys)) value) where
  abbrev after : Bool → List InstKey
  after b = if b then keys else keys ++ value ∷ []

  pub after_fit : (b : Bool) → KeysFit 4 (after b)
  after_fit true = fit
  after_fit false = fit_push 4 keys value fit (subst (λ n. KeyFits n value) (keys_length keys) fits)

  pub after_length : (b : Bool) → length (after b) ≤ length keys + 1
  after_length true = omega arith
  after_length false = omega (arith, length-append keys (value ∷ []))

  pub after_extends : (b : Bool) → Extends (terms keys) (terms (after b))
  after_extends true = extends_same (terms keys)
  after_extends false = record { more = term_of (terms keys) value ∷ []; is = from_push builtins keys value }

  pub after_row : (b : Bool) (r : ℕ) (k : InstKey) → slice_get (after b) r ≡ Some k → same value k ≡ true → IsInst (terms (after b)) (4 + r) (term_of (terms keys) value)
  after_row b r k h e =
      let x = (at_key_of (after b) r k (after_fit b) h).0 in
      record { there = x.there; is = x.is ∙ sym (same_inst (terms (after b)) value k e) ∙ term_on (terms keys) (terms (after b)) value (after_extends b) fits }

past : (keys : List InstKey) (r : ℕ) → None ≡ slice_get keys r → length keys ≤ r
past [] r h = omega arith
past (k ∷ keys) zero h = cc
past (k ∷ keys) (suc r) h = let x = past keys r h in omega arith

pub got : (keys : List InstKey) (r : ℕ) (o : Option (Bor InstKey)) → KeysFit 4 keys → option_copied o ≡ slice_get keys r
    → MatchOption o (length (terms keys) ≤ 4 + r) (λ key. IsInst (terms keys) (4 + r) (term_of (terms keys) key.now) × KeyFits (length (terms keys)) key.now)
got keys r None fit e = let x = past keys r e in omega (arith, keys_length keys)
got keys r (Some k) fit e = at_key_of keys r k.now fit (sym e)

-- Types in a set of keys: what a key stands for stays, and keys that are found equal stand for one type.
use Rattle.std.proofs.Common.{◌≡◌, ℕ, zero, suc, ◌+◌, ◌<◌, ◌≤◌, Bool, true, false, List, [], ◌∷◌, ◌++◌, ◌&&◌, length, get_or, map, nat_eq, Option, Some, None, MatchOption, Bor, refl, sym, ap, ap₂, ◌∙◌, subst, arith, length-append, if◌then◌else◌}
use Rattle.std.specs.List.{slice_get}
use Rattle.std.specs.Option.{option_copied}
use Rattle.std.specs.Str.{bytes_eq}
use Rattle.std.proofs.lemmas.Bool.{eqb-true}
use Rattle.std.proofs.lemmas.Slice.Eq.{bytes_eq-Decides}
use Rattle.std.proofs.lemmas.List.{get_or-append-add}
use Rattle.mc_program.specs.Programs.{TypeTerm, variable_type, union_type}
use Rattle.mc_program.specs.PlainPrograms.{type_terms}
use Rattle.mc_insts.specs.declared.types.TypeKey.{TypeKey}
use Rattle.mc_insts.specs.declared.types.TypeKey.TheVariants as K
use Rattle.mc_insts.specs.contracts.types.TypeKeyPartialEq.TheImpl as KeyEq
use Rattle.mc_insts.specs.code.Lists.{Extends}
use Rattle.mc_insts.specs.code.TypeRows.{term_at, terms_at, term_of, terms_from, terms, AllBelow, KeyFits, KeysFit, RowOf}
use Rattle.mc_insts.proofs.Growth.{extends_same, extends_on, extends_length, extends_get}

abbrev same : TypeKey → TypeKey → Bool
same = KeyEq.eq-value.it

and_left : (a b : Bool) → (a && b) ≡ true → a ≡ true
and_left true b h = refl
and_left false b h = cc

and_right : (a b : Bool) → (a && b) ≡ true → b ≡ true
and_right true b h = h
and_right false b h = cc

same_union : (ts : List TypeTerm) (u v : ℕ) (xs ys : List ℕ) → u ≡ v → xs ≡ ys → union_type u (terms_at ts xs) ≡ union_type v (terms_at ts ys)
same_union ts u v xs ys p q = ap (λ w. union_type w (terms_at ts xs)) p ∙ ap (λ zs. union_type v (terms_at ts zs)) q

-- keys that are found equal stand for one type
same_type : (ts : List TypeTerm) (x y : TypeKey) → same x y ≡ true → term_of ts x ≡ term_of ts y
same_type ts K.Int K.Int h = refl
same_type ts K.Char K.Char h = refl
same_type ts K.Str K.Str h = refl
same_type ts K.Io K.Io h = refl
same_type ts (K.Var v) (K.Var w) h = ap variable_type (eqb-true v w h)
same_type ts (K.Union u xs) (K.Union v ys) h =
    same_union ts u v xs.items ys.items (eqb-true u v (and_left (nat_eq u v) (bytes_eq xs.items ys.items) h)) ((bytes_eq-Decides xs.items ys.items).0 (and_right (nat_eq u v) (bytes_eq xs.items ys.items) h))
same_type ts K.Int _ h = cc
same_type ts K.Char _ h = cc
same_type ts K.Str _ h = cc
same_type ts K.Io _ h = cc
same_type ts (K.Var v) _ h = cc
same_type ts (K.Union u xs) _ h = cc

map_same : (f g : ℕ → TypeTerm) (xs : List ℕ) → ((k : ℕ) → k < length xs → f (get_or xs k 0) ≡ g (get_or xs k 0)) → map f xs ≡ map g xs
map_same f g [] h = refl
map_same f g (x ∷ xs) h = ap₂ (λ y ys. y ∷ ys) (h 0 (omega arith)) (map_same f g xs (λ k lt. h (suc k) (omega arith)))

-- types that are there stay as more come
pub terms_on : (ts us : List TypeTerm) (rows : List ℕ) → Extends ts us → AllBelow (length ts) rows → map (term_at us) rows ≡ map (term_at ts) rows
terms_on ts us rows e fits = map_same (term_at us) (term_at ts) rows (λ k lt. extends_get ts us (get_or rows k 0) (variable_type 0) e (fits k lt))

pub term_on : (ts us : List TypeTerm) (key : TypeKey) → Extends ts us → KeyFits (length ts) key → term_of us key ≡ term_of ts key
term_on ts us K.Int e fits = refl
term_on ts us K.Char e fits = refl
term_on ts us K.Str e fits = refl
term_on ts us K.Io e fits = refl
term_on ts us (K.Var v) e fits = refl
term_on ts us (K.Union u args) e fits = ap (λ xs. union_type u (type_terms xs)) (terms_on ts us args.items e fits)

pub below_on : (n m : ℕ) (key : TypeKey) → n ≤ m → KeyFits n key → KeyFits m key
below_on n m K.Int le fits = tt
below_on n m K.Char le fits = tt
below_on n m K.Str le fits = tt
below_on n m K.Io le fits = tt
below_on n m (K.Var v) le fits = tt
below_on n m (K.Union u args) le fits = λ k lt. let x : get_or args.items k 0 < n = fits k lt in omega arith

pub from_extends : (ts : List TypeTerm) (keys : List TypeKey) → Extends ts (terms_from ts keys)
from_extends ts [] = extends_same ts
from_extends ts (k ∷ ks) = extends_on ts (ts ++ term_of ts k ∷ []) (terms_from ts (k ∷ ks)) (record { more = term_of ts k ∷ []; is = refl }) (from_extends (ts ++ term_of ts k ∷ []) ks)

pub from_length : (ts : List TypeTerm) (keys : List TypeKey) → length (terms_from ts keys) ≡ length ts + length keys
from_length ts [] = omega arith
from_length ts (k ∷ ks) = let x = from_length (ts ++ term_of ts k ∷ []) ks in omega (arith, length-append ts (term_of ts k ∷ []))

-- one more key
pub from_push : (ts : List TypeTerm) (keys : List TypeKey) (k : TypeKey) → terms_from ts (keys ++ k ∷ []) ≡ terms_from ts keys ++ term_of (terms_from ts keys) k ∷ []
from_push ts [] k = refl
from_push ts (j ∷ keys) k = from_push (ts ++ term_of ts j ∷ []) keys k

pub fit_push : (n : ℕ) (keys : List TypeKey) (k : TypeKey) → KeysFit n keys → KeyFits (n + length keys) k → KeysFit n (keys ++ k ∷ [])
fit_push n [] k h f = (below_on (n + 0) n k (omega arith) f, tt)
fit_push n (j ∷ keys) k h f = (h.0, fit_push (suc n) keys k h.1 (below_on (n + length (j ∷ keys)) (suc n + length keys) k (omega arith) f))

-- a number's type is that of its key
pub at_key : (ts : List TypeTerm) (keys : List TypeKey) (r : ℕ) (k : TypeKey) → KeysFit (length ts) keys → slice_get keys r ≡ Some k
    → RowOf (terms_from ts keys) (length ts + r) (term_of (terms_from ts keys) k) × KeyFits (length (terms_from ts keys)) k
at_key ts [] r k fit h = cc
at_key ts (j ∷ keys) zero k fit h =
    let us = ts ++ term_of ts j ∷ [] in
    let e : j ≡ k = first j k h in
    let l : length us ≡ length ts + 1 = length-append ts (term_of ts j ∷ []) in
    let m = extends_length us (terms_from us keys) (from_extends us keys) in
    let is : term_at (terms_from us keys) (length ts + 0) ≡ term_of ts j =
    extends_get us (terms_from us keys) (length ts + 0) (variable_type 0) (from_extends us keys) (omega arith) ∙ get_or-append-add ts (term_of ts j ∷ []) 0 (variable_type 0) in
    subst (λ i. RowOf (terms_from us keys) (length ts + 0) (term_of (terms_from us keys) i) × KeyFits (length (terms_from us keys)) i) e (
      record { there = omega arith; is = is ∙ sym (term_on ts (terms_from us keys) j (from_extends ts (j ∷ keys)) fit.0) },
      below_on (length ts) (length (terms_from us keys)) j (omega arith) fit.0,
    )
  where
    first : (a b : TypeKey) → Some a ≡ Some b → a ≡ b
    first a b e = cc
at_key ts (j ∷ keys) (suc r) k fit h =
    let us = ts ++ term_of ts j ∷ [] in
    let l : length us ≡ length ts + 1 = length-append ts (term_of ts j ∷ []) in
    let x = at_key us keys r k (subst (λ n. KeysFit n keys) (omega arith) fit.1) h in
    subst (λ n. RowOf (terms_from us keys) n (term_of (terms_from us keys) k) × KeyFits (length (terms_from us keys)) k) (omega arith) x

-- the same, from the first key on
pub at_key_of : (keys : List TypeKey) (r : ℕ) (k : TypeKey) → KeysFit 0 keys → slice_get keys r ≡ Some k → RowOf (terms keys) r (term_of (terms keys) k) × KeyFits (length (terms keys)) k
at_key_of keys r k fit h = subst (λ n. RowOf (terms keys) n (term_of (terms keys) k) × KeyFits (length (terms keys)) k) (omega arith) (at_key [] keys r k fit h)

pub keys_length : (keys : List TypeKey) → length (terms_from [] keys) ≡ length keys
keys_length keys = let x = from_length [] keys in omega arith

-- what a set of keys is after a key was put in
module _ (keys : List TypeKey) (value : TypeKey) (fit : KeysFit 0 keys) (fits : KeyFits (length (terms_from [] keys)) value) where
  abbrev after : Bool → List TypeKey
  after b = if b then keys else keys ++ value ∷ []

  pub after_fit : (b : Bool) → KeysFit 0 (after b)
  after_fit true = fit
  after_fit false = fit_push 0 keys value fit (subst (λ n. KeyFits n value) (let x = keys_length keys in omega arith) fits)

  pub after_length : (b : Bool) → length (after b) ≤ length keys + 1
  after_length true = omega arith
  after_length false = omega (arith, length-append keys (value ∷ []))

  pub after_extends : (b : Bool) → Extends (terms_from [] keys) (terms_from [] (after b))
  after_extends true = extends_same (terms_from [] keys)
  after_extends false = record { more = term_of (terms_from [] keys) value ∷ []; is = from_push [] keys value }

  pub after_row : (b : Bool) (r : ℕ) (k : TypeKey) → slice_get (after b) r ≡ Some k → same value k ≡ true → RowOf (terms_from [] (after b)) r (term_of (terms_from [] keys) value)
  after_row b r k h e =
      let x = (at_key_of (after b) r k (after_fit b) h).0 in
      record { there = x.there; is = x.is ∙ sym (same_type (terms_from [] (after b)) value k e) ∙ term_on (terms_from [] keys) (terms_from [] (after b)) value (after_extends b) fits }

past : (keys : List TypeKey) (r : ℕ) → None ≡ slice_get keys r → length keys ≤ r
past [] r h = omega arith
past (k ∷ keys) zero h = cc
past (k ∷ keys) (suc r) h = let x = past keys r h in omega arith

pub got : (keys : List TypeKey) (r : ℕ) (o : Option (Bor TypeKey)) → KeysFit 0 keys → option_copied o ≡ slice_get keys r
    → MatchOption o (length (terms keys) ≤ r) (λ key. RowOf (terms keys) r (term_of (terms keys) key.now) × KeyFits (length (terms keys)) key.now)
got keys r None fit e = let x = past keys r e in omega (arith, keys_length keys)
got keys r (Some k) fit e = at_key_of keys r k.now fit (sym e)

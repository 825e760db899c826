-- Lists that grow at the end.
use Rattle.std.proofs.Common.{◌≡◌, inl, inr, ℕ, ◌+◌, ◌<◌, ◌≤◌, List, [], ◌∷◌, ◌++◌, length, get_or, refl, sym, ap, ◌∙◌, subst, arith, append_assoc, length-append, ⊎_elim}
use Rattle.std.proofs.lemmas.List.{get_or_append_left}
use Rattle.mc_insts.specs.declared.graph.Node.{Node}
use Rattle.mc_insts.specs.declared.triples.Triple.{Triple}
use Rattle.mc_insts.specs.code.Lists.{Stands, Extends}
use Rattle.mc_insts.specs.code.Walks.{Covered}
use Rattle.mc_insts.specs.code.Pushes.{NewAmong}
use Rattle.mc_insts.specs.code.Steps.{same_of}
use Rattle.mc_insts.proofs.Found.{get_any, by_order}

append_none : {A : Type 0} (xs : List A) → xs ++ [] ≡ xs
append_none [] = refl
append_none (x ∷ xs) = ap (λ l. x ∷ l) (append_none xs)

pub extends_same : {A : Type 0} (xs : List A) → Extends xs xs
extends_same xs = record { more = []; is = sym (append_none xs) }

pub extends_on : {A : Type 0} (xs ys zs : List A) → Extends xs ys → Extends ys zs → Extends xs zs
extends_on xs ys zs e f = record { more = e.more ++ f.more; is = f.is ∙ ap (λ l. l ++ f.more) e.is ∙ append_assoc xs e.more f.more }

pub extends_length : {A : Type 0} (xs ys : List A) → Extends xs ys → length xs ≤ length ys
extends_length xs ys e = let h : length ys ≡ length xs + length e.more = ap length e.is ∙ length-append xs e.more in omega arith

pub extends_get : {A : Type 0} (xs ys : List A) (n : ℕ) (d : A) → Extends xs ys → n < length xs → get_or ys n d ≡ get_or xs n d
extends_get xs ys n d e h = ap (λ l. get_or l n d) e.is ∙ get_or_append_left xs e.more d n h

pub stands_on : {A : Type 0} (xs ys : List A) (n : ℕ) (x : A) → Extends xs ys → Stands xs n x → Stands ys n x
stands_on xs ys n x e s = let l = extends_length xs ys e in let w = s.within in record { within = omega arith; is = extends_get xs ys n x e s.within ∙ s.is }

pub stands_before : {A : Type 0} (xs ys : List A) (n : ℕ) (x : A) → Extends xs ys → n < length xs → Stands ys n x → Stands xs n x
stands_before xs ys n x e h s = record { within = h; is = sym (extends_get xs ys n x e h) ∙ s.is }

pub covered_on : (ns : List Node) (seen more : List Triple) (t : Triple) → Extends seen more → Covered ns seen t → Covered ns more t
covered_on ns seen more t e c = ⊎_elim (λ s. inl s) (λ s. inr (s.0, stands_on seen more s.0 t e s.1)) c

pub stands_one : {A : Type 0} (xs : List A) (n : ℕ) (x y : A) → Stands xs n x → Stands xs n y → x ≡ y
stands_one xs n x y s r = sym s.is ∙ get_any xs n x y s.within ∙ r.is

-- one more triple is put in
pub covered_more : (ns : List Node) (f : ℕ → Triple) (k : ℕ) (bs cs : List Triple) → Extends bs cs → ((i : ℕ) → i < k → Covered ns bs (f i)) → Covered ns cs (f k) → (i : ℕ) → i < k + 1 → Covered ns cs (f i)
covered_more ns f k bs cs e before here i h = by_order i k (λ x. covered_on ns bs cs (f i) e (before i x)) (λ x. subst (λ n. Covered ns cs (f n)) (sym x) here) (λ x. absurd (omega arith))

pub new_more : (f : ℕ → Triple) (k : ℕ) (xs bs cs : List Triple) → Extends bs cs → NewAmong f k xs bs → ((m : ℕ) (u : Triple) → length bs ≤ m → Stands cs m u → f k ≡ u) → NewAmong f (k + 1) xs cs
new_more f k xs bs cs e before here m u h s =
    by_order m (length bs)
    (λ x. let r = before m u h (stands_before bs cs m u e x s) in let lt = r.1 in (r.0, omega arith, r.2))
    (λ x. (k, omega arith, here m u (omega arith) s))
    (λ x. (k, omega arith, here m u (omega arith) s))

pub same_triple : (a b c d e f : ℕ) → a ≡ d → b ≡ e → c ≡ f → same_of a b c ≡ same_of d e f
same_triple a b c d e f p q r = ap (λ x. same_of x b c) p ∙ ap (λ x. same_of d x c) q ∙ ap (λ x. same_of d e x) r

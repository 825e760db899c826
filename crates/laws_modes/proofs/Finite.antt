-- Sets with finitely many elements, each of which is listed.
use Rattle.std.proofs.Common.{◌≡◌, ◌⊎◌, inl, inr, ℕ, zero, suc, ◌<◌, List, [], ◌∷◌, ◌++◌, refl, subst, arith, ⊎_elim}
use Rattle.std.proofs.lemmas.Bool.{cases_lt}
use Rattle.laws_order.proofs.Telling.{Told, Held, held_left, held_right}

-- what is in one of two lists, and in one of many
pub held_either : {A : Type 0} (xs ys : List A) (x : A) → Held (xs ++ ys) x → Held xs x ⊎ Held ys x
held_either [] ys x h = inr h
held_either (z ∷ xs) ys x (inl e) = inl (inl e)
held_either (z ∷ xs) ys x (inr h) =
    ⊎_elim (λ k. inl (inr k)) (λ k. inr k) (held_either xs ys x h)

abbrev lists : {A B : Type 0} → (A → List B) → List A → List B
lists f [] = []
lists f (x ∷ xs) = f x ++ lists f xs

to_lists :
    {A B : Type 0} (f : A → List B) (xs : List A) (x : A) (b : B)
    → Held xs x → Held (f x) b → Held (lists f xs) b
to_lists f [] x b h k = absurd h
to_lists f (y ∷ xs) x b (inl e) k =
    held_left (f y) (lists f xs) b (subst (λ z. Held (f z) b) e k)
to_lists f (y ∷ xs) x b (inr h) k =
    held_right (f y) (lists f xs) b (to_lists f xs x b h k)

from_lists :
    {A B : Type 0} (f : A → List B) (xs : List A) (b : B)
    → Held (lists f xs) b → (x : A) × Held xs x × Held (f x) b
from_lists f [] b h = absurd h
from_lists f (y ∷ xs) b h =
    ⊎_elim (λ k. (y, inl refl, k))
    (λ k. let r = from_lists f xs b k in (r.0, inr r.1, r.2))
    (held_either (f y) (lists f xs) b h)

pub record Finite {A : Type 0} (Q : A → Type 0) : Type 0 where
  pub all : List A
  pub has : (x : A) → Q x → Held all x
  pub only : (x : A) → Held all x → Q x

pub none : {A : Type 0} → Finite (λ (x : A). ⊥)
none = record { all = []; has = λ x h. h; only = λ x h. h }

pub one : {A : Type 0} (a : A) → Finite (λ x. x ≡ a)
one a =
    record {
      all = a ∷ [];
      has = λ x e. inl e;
      only = λ x h. ⊎_elim (λ e. e) (λ k. absurd k) h;
    }

pub either :
    {A : Type 0} (Q R : A → Type 0) → Finite Q → Finite R → Finite (λ x. Q x ⊎ R x)
either Q R q r =
    record {
      all = q.all ++ r.all;
      has =
          λ x h.
          ⊎_elim (λ a. held_left q.all r.all x (q.has x a))
          (λ b. held_right q.all r.all x (r.has x b)) h;
      only =
          λ x h.
          ⊎_elim (λ a. inl (q.only x a)) (λ b. inr (r.only x b)) (held_either q.all r.all x h);
    }

-- what finitely many have, each finitely much
pub over :
    {A B : Type 0} (Q : A → Type 0) (R : A → B → Type 0)
    → Finite Q → ((a : A) → Finite (R a)) → Finite (λ b. (a : A) × Q a × R a b)
over Q R q r =
    record {
      all = lists (λ a. (r a).all) q.all;
      has = λ b h. to_lists (λ a. (r a).all) q.all h.0 b (q.has h.0 h.1) ((r h.0).has b h.2);
      only =
          λ b h.
          let k = from_lists (λ a. (r a).all) q.all b h in
          (k.0, q.only k.0 k.1, (r k.0).only b k.2);
    }

pub where_told :
    {A : Type 0} (D : Type 0) (Q : A → Type 0)
    → Told D → Finite Q → Finite (λ x. D × Q x)
where_told D Q (inl d) q =
    record { all = q.all; has = λ x h. q.has x h.1; only = λ x h. (d, q.only x h) }
where_told D Q (inr n) q =
    record { all = []; has = λ x h. absurd (n h.0); only = λ x h. absurd h }

pub as_said :
    {A : Type 0} (Q R : A → Type 0)
    → Finite Q → ((x : A) → Q x → R x) → ((x : A) → R x → Q x) → Finite R
as_said Q R q f g =
    record { all = q.all; has = λ x h. q.has x (g x h); only = λ x h. f x (q.only x h) }

pub listed : {A : Type 0} (xs : List A) → Finite (Held xs)
listed xs = record { all = xs; has = λ x h. h; only = λ x h. h }

pub below : (n : ℕ) → Finite (λ k. k < n)
below zero = record { all = []; has = λ k l. absurd (omega (arith, l)); only = λ k h. absurd h }
below (suc n) =
    as_said (λ k. (k ≡ n) ⊎ (k < n)) (λ k. k < suc n)
    (either (λ k. k ≡ n) (λ k. k < n) (one n) (below n))
    (λ k h. ⊎_elim (λ e. omega (arith, e)) (λ l. omega (arith, l)) h)
    (λ k l. at k l)
  where
    at : (k : ℕ) → k < suc n → (k ≡ n) ⊎ (k < n)
    at k l = ⊎_elim (λ less. inr less) (λ le. inl (omega (arith, l, le))) (cases_lt k n)

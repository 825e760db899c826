-- Cases in the order of their functors.
use Rattle.std.proofs.Common.{◌≡◌, ℕ, zero, suc, ◌+◌, ◌<◌, ◌≤◌, Bool, true, false, cond, nat_eq, List, [], ◌∷◌, length, get_or, Option, Some, None, refl, sym, ap, ◌∙◌, arith}
use Rattle.std.proofs.lemmas.Bool.{eqb-true, eqb-false}
use Rattle.mc_insts.specs.declared.graph.Case.{Case}
use Rattle.mc_insts.specs.code.Cases.{find_case, Rising}

pub rising_tail : (c : Case) (cs : List Case) → Rising (c ∷ cs) → Rising cs
rising_tail c [] r = tt
rising_tail c (d ∷ cs) r = r.1

pub rising_above : (c : Case) (cs : List Case) → Rising (c ∷ cs) → (b : ℕ) (e : Case) → b < length cs → c.functor < (get_or cs b e).functor
rising_above c [] r b e h = absurd (omega arith)
rising_above c (d ∷ cs) r zero e h = r.0
rising_above c (d ∷ cs) r (suc b) e h = let g : d.functor < (get_or cs b e).functor = rising_above d cs r.1 b e (omega arith) in let k : c.functor < d.functor = r.0 in omega arith

pub rising_at : (cs : List Case) → Rising cs → (a b : ℕ) (d e : Case) → a < b → b < length cs → (get_or cs a d).functor < (get_or cs b e).functor
rising_at [] r a b d e h g = absurd (omega arith)
rising_at (c ∷ cs) r a zero d e h g = absurd (omega arith)
rising_at (c ∷ cs) r zero (suc b) d e h g = rising_above c cs r b e (omega arith)
rising_at (c ∷ cs) r (suc a) (suc b) d e h g = rising_at cs (rising_tail c cs r) a b d e (omega arith) (omega arith)

by_test : (x f : ℕ) (a : List ℕ) (o p : Option (List ℕ)) (t : Bool) → nat_eq x f ≡ t → (x ≡ f → ⊥) → o ≡ p → cond t (Some a) o ≡ p
by_test x f a o p true e n h = absurd (n (eqb-true x f e))
by_test x f a o p false e n h = h

pub find_none : (cs : List Case) (f : ℕ) → ((k : ℕ) (d : Case) → k < length cs → (get_or cs k d).functor ≡ f → ⊥) → find_case cs f ≡ None
find_none [] f h = refl
find_none (c ∷ cs) f h = by_test c.functor f c.args (find_case cs f) None (nat_eq c.functor f) refl (h 0 c (omega arith)) (find_none cs f (λ k d g. h (suc k) d (omega arith)))

pub here : (x f : ℕ) (a : List ℕ) (o : Option (List ℕ)) (t : Bool) → nat_eq x f ≡ t → x ≡ f → cond t (Some a) o ≡ Some a
here x f a o true e h = refl
here x f a o false e h = absurd (eqb-false x f e h)

pub find_at : (cs : List Case) (f : ℕ) → Rising cs → (k : ℕ) (d : Case) → k < length cs → (get_or cs k d).functor ≡ f → find_case cs f ≡ Some (get_or cs k d).args
find_at [] f r k d h e = absurd (omega arith)
find_at (c ∷ cs) f r zero d h e = here c.functor f c.args (find_case cs f) (nat_eq c.functor f) refl e
find_at (c ∷ cs) f r (suc k) d h e =
    let g : c.functor < (get_or cs k d).functor = rising_above c cs r k d (omega arith) in
    by_test c.functor f c.args (find_case cs f) (Some (get_or cs k d).args) (nat_eq c.functor f) refl (λ x. absurd (omega (arith, e))) (find_at cs f (rising_tail c cs r) k d (omega arith) e)

pub get_any : {A : Type 0} (xs : List A) (k : ℕ) (d e : A) → k < length xs → get_or xs k d ≡ get_or xs k e
get_any [] k d e h = absurd (omega arith)
get_any (x ∷ xs) zero d e h = refl
get_any (x ∷ xs) (suc k) d e h = get_any xs k d e (omega arith)

pub by_order : {P : Type 0} (a b : ℕ) → (a < b → P) → (a ≡ b → P) → (b < a → P) → P
by_order zero zero f g h = g refl
by_order zero (suc b) f g h = f (omega arith)
by_order (suc a) zero f g h = h (omega arith)
by_order (suc a) (suc b) f g h = by_order a b (λ x. f (omega arith)) (λ x. g (ap suc x)) (λ x. h (omega arith))

pub all_below : (cs : List Case) → Rising cs → (m f : ℕ) (c : Case) → m < length cs → c ≡ get_or cs m c → c.functor < f → (k : ℕ) (d : Case) → k < m + 1 → (get_or cs k d).functor < f
all_below cs r m f c h e lt k d g =
    by_order k m
    (λ x. let y : (get_or cs k d).functor < (get_or cs m c).functor = rising_at cs r k m d c x h in let z : c.functor ≡ (get_or cs m c).functor = ap (λ (w : Case). w.functor) e in omega arith)
    (λ x. let y : get_or cs k d ≡ c = ap (λ n. get_or cs n d) x ∙ get_any cs m d c h ∙ sym e in let z : (get_or cs k d).functor ≡ c.functor = ap (λ (w : Case). w.functor) y in omega arith)
    (λ x. absurd (omega arith))

pub all_above : (cs : List Case) → Rising cs → (m f : ℕ) (c : Case) → c ≡ get_or cs m c → f < c.functor → (k : ℕ) (d : Case) → m ≤ k → k < length cs → f < (get_or cs k d).functor
all_above cs r m f c e lt k d g h =
    by_order k m
    (λ x. absurd (omega arith))
    (λ x. let y : get_or cs k d ≡ c = get_any cs k d c h ∙ ap (λ n. get_or cs n c) x ∙ sym e in let z : (get_or cs k d).functor ≡ c.functor = ap (λ (w : Case). w.functor) y in omega arith)
    (λ x. let y : (get_or cs m c).functor < (get_or cs k d).functor = rising_at cs r m k c d x h in let z : c.functor ≡ (get_or cs m c).functor = ap (λ (w : Case). w.functor) e in omega arith)

pub none_between : (cs : List Case) (low high f : ℕ) → high ≤ low → ((k : ℕ) (d : Case) → k < low → (get_or cs k d).functor < f) → ((k : ℕ) (d : Case) → high ≤ k → k < length cs → f < (get_or cs k d).functor) → find_case cs f ≡ None
none_between cs low high f o below above =
    find_none cs f
    (λ k d h e. by_order k low
    (λ x. let y : (get_or cs k d).functor < f = below k d x in omega arith)
    (λ x. let y : f < (get_or cs k d).functor = above k d (omega arith) h in omega arith)
    (λ x. let y : f < (get_or cs k d).functor = above k d (omega arith) h in omega arith))

-- cases whose neighbours rise
pub rising_of : (cs : List Case) → ((j m : ℕ) (d e : Case) → m ≡ j + 1 → m < length cs → (get_or cs j d).functor < (get_or cs m e).functor) → Rising cs
rising_of [] h = tt
rising_of (c ∷ []) h = tt
rising_of (c ∷ d ∷ cs) h = (h 0 1 c d refl (omega arith), rising_of (d ∷ cs) (λ j m a b e lt. h (suc j) (suc m) a b (omega arith) (omega arith)))

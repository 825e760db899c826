-- Bindings: what put, meet and unify do.
use Rattle.std.proofs.Common.{◌≡◌, ◌⊎◌, inl, inr, ℕ, List, [], ◌∷◌, map, Bool, true, false, cond, is_some, nat_eq, Option, Some, None, refl, sym, ap, ◌∙◌, ⊎_elim}
use Rattle.std.proofs.lemmas.Bool.{eqb-true, eq-eqb}
use Rattle.mc_program.specs.Values.{Val, same_value}
use Rattle.mc_model.specs.Truth.{Assignment}
use Rattle.mc_model.specs.Lists.{In}
use Rattle.mc_model.specs.EventList.{Each, Succeeds, Covers, of_option}
use Rattle.mc_model.specs.Stream.{Bindings, put, meet, and_then, unify}
use Rattle.mc_model.specs.Good.{Extends}
use Rattle.laws_sound.specs.code.Passes.{Agrees, Grows}
use Rattle.laws_language.proofs.Equality.{value_same, same_of}

-- of these variables, those are bound that b says
abbrev pub Matches : List ℕ → (ℕ → Bool) → Bindings → Type 0
Matches xs b e = (x : ℕ) → In x xs → is_some (e x) ≡ b x

pub some_inj : (v w : Val) → Some v ≡ Some w → v ≡ w
some_inj v w e = cc

pub none_some : (o : Option Val) (v : Val) → o ≡ None → o ≡ Some v → ⊥
none_some o v n s = cc

-- put
put_known : (t : Bool) (v w : Val) (o : Option Val) → (t ≡ true → o ≡ None) → o ≡ Some w → cond t (Some v) o ≡ Some w
put_known true v w o n e = absurd (none_some o w (n refl) e)
put_known false v w o n e = e

pub put_extends : (x : ℕ) (v : Val) (e : Bindings) → e x ≡ None → Grows e (put x v e)
put_extends x v e n y w h = put_known (nat_eq y x) v w (e y) (λ t. ap e (eqb-true y x t) ∙ n) h

put_bound : (t : Bool) (v : Val) (o : Option Val) (c : Bool) → is_some o ≡ c → is_some (cond t (Some v) o) ≡ cond t true c
put_bound true v o c e = refl
put_bound false v o c e = e

abbrev pub and_also : ℕ → (ℕ → Bool) → ℕ → Bool
and_also x b = λ y. cond (nat_eq y x) true (b y)

pub put_matches : (L : List ℕ) (b : ℕ → Bool) (e : Bindings) (x : ℕ) (v : Val) → Matches L b e → Matches L (and_also x b) (put x v e)
put_matches L b e x v h y i = put_bound (nat_eq y x) v (e y) (b y) (h y i)

put_value : (t : Bool) (v w u : Val) (o : Option Val) → (t ≡ true → u ≡ v) → (o ≡ Some w → u ≡ w) → cond t (Some v) o ≡ Some w → u ≡ w
put_value true v w u o f g e = f refl ∙ some_inj v w e
put_value false v w u o f g e = g e

pub put_agrees : (L : List ℕ) (e : Bindings) (s : Assignment) (x : ℕ) (v : Val) → s x ≡ v → Agrees L e s → Agrees L (put x v e) s
put_agrees L e s x v p h y i w q = put_value (nat_eq y x) v w (s y) (e y) (λ t. ap s (eqb-true y x t) ∙ p) (h y i w) q

put_same : (t : Bool) (v : Val) (o : Option Val) → t ≡ true → cond t (Some v) o ≡ Some v
put_same true v o e = refl
put_same false v o e = cc

pub put_self : (x : ℕ) (v : Val) (e : Bindings) → put x v e x ≡ Some v
put_self x v e = put_same (nat_eq x x) v (e x) (eq-eqb x x refl)

pub some_bound : (o : Option Val) (v : Val) → o ≡ Some v → is_some o ≡ true
some_bound o v e = ap is_some e

pub bound_some : (o : Option Val) → is_some o ≡ true → (v : Val) × (o ≡ Some v)
bound_some None e = absurd (no e)
  where
    no : false ≡ true → ⊥
    no e = cc
bound_some (Some v) e = (v, refl)

pub unbound_none : (o : Option Val) → is_some o ≡ false → o ≡ None
unbound_none None e = refl
unbound_none (Some v) e = cc

-- extension
pub extends_refl : (e : Bindings) → Grows e e
extends_refl e x v h = h

pub extends_trans : (e a c : Bindings) → Grows e a → Grows a c → Grows e c
extends_trans e a c f g x v h = g x v (f x v h)

-- what agrees with more bindings agrees with fewer
pub agrees_less : (L : List ℕ) (e a : Bindings) (s : Assignment) → Grows e a → Agrees L a s → Agrees L e s
agrees_less L e a s f h x i v p = h x i v (f x v p)

-- tests
pub each_cond : {A : Type 0} (P : A → Type 0) (t : Bool) (a : A) → (t ≡ true → P a) → Each P (of_option (cond t (Some a) None))
each_cond P true a f = (f refl, tt)
each_cond P false a f = tt

pub covers_cond : {A : Type 0} (P : A → Type 0) (F : Type 0) (t : Bool) (a : A) → t ≡ true → P a → Covers P F (of_option (cond t (Some a) None))
covers_cond P F true a e p = inl p
covers_cond P F false a e p = absurd (no e)
  where
    no : false ≡ true → ⊥
    no e = cc

pub succeeds_cond : {A : Type 0} (t : Bool) (a : A) → t ≡ true → Succeeds (of_option (cond t (Some a) None))
succeeds_cond true a e = tt
succeeds_cond false a e = absurd (no e)
  where
    no : false ≡ true → ⊥
    no e = cc

pub each_then : (P Q : Bindings → Type 0) (o : Option Bindings) (f : Bindings → Option Bindings) → Each P (of_option o) → ((a : Bindings) → P a → Each Q (of_option (f a))) → Each Q (of_option (and_then o f))
each_then P Q None f h k = tt
each_then P Q (Some a) f h k = k a h.0

pub each_weaker : (P Q : Bindings → Type 0) (o : Option Bindings) → ((a : Bindings) → P a → Q a) → Each P (of_option o) → Each Q (of_option o)
each_weaker P Q None f h = tt
each_weaker P Q (Some a) f h = (f a h.0, tt)

-- meet
pub meet_each : (x : ℕ) (v : Val) (e : Bindings) (o : Option Val) → e x ≡ o → Each (λ a. Grows e a × (a x ≡ Some v)) (of_option (meet x v e o))
meet_each x v e None h = ((put_extends x v e h, put_self x v e), tt)
meet_each x v e (Some w) h = each_cond (λ a. Grows e a × (a x ≡ Some v)) (same_value w v) e (λ t. (extends_refl e, h ∙ ap Some (value_same w v t)))

pub meet_covers : (L : List ℕ) (s : Assignment) (F : Type 0) (x : ℕ) (v : Val) (e : Bindings) (o : Option Val) → e x ≡ o → (o ≡ Some v ⊎ (o ≡ None)) → s x ≡ v → Agrees L e s → Covers (λ a. Agrees L a s) F (of_option (meet x v e o))
meet_covers L s F x v e None h c p g = inl (put_agrees L e s x v p g)
meet_covers L s F x v e (Some w) h c p g = covers_cond (λ a. Agrees L a s) F (same_value w v) e (same_of w v (⊎_elim (λ q. some_inj w v q) (λ q. absurd (none_some None w refl (sym q))) c)) g

-- unify
pub unify_extends : (xs : List ℕ) (os : List (Option Val)) (e : Bindings) → Each (λ a. Grows e a) (of_option (unify xs os e))
unify_extends [] [] e = (extends_refl e, tt)
unify_extends [] (v ∷ vs) e = tt
unify_extends (x ∷ xs) [] e = tt
unify_extends (x ∷ xs) (None ∷ vs) e = unify_extends xs vs e
unify_extends (x ∷ xs) (Some v ∷ vs) e =
    each_then (λ a. Grows e a × (a x ≡ Some v)) (λ a. Grows e a) (meet x v e (e x)) (unify xs vs) (meet_each x v e (e x) refl)
    (λ a h. each_weaker (λ c. Grows a c) (λ c. Grows e c) (unify xs vs a) (λ c k. extends_trans e a c h.0 k) (unify_extends xs vs a))

-- the bound arguments have the answer's values
pub unify_fills : (xs : List ℕ) (os : List (Option Val)) (e : Bindings) → Each (λ a. (s : Assignment) → Agrees xs a s → Extends os (map s xs)) (of_option (unify xs os e))
unify_fills [] [] e = (λ s g. tt, tt)
unify_fills [] (v ∷ vs) e = tt
unify_fills (x ∷ xs) [] e = tt
unify_fills (x ∷ xs) (None ∷ vs) e =
    each_weaker (λ a. (s : Assignment) → Agrees xs a s → Extends vs (map s xs)) (λ a. (s : Assignment) → Agrees (x ∷ xs) a s → Extends vs (map s xs)) (unify xs vs e) (λ a f s g. f s (λ y i. g y (inr i))) (unify_fills xs vs e)
unify_fills (x ∷ xs) (Some v ∷ vs) e =
    each_then (λ a. Grows e a × (a x ≡ Some v)) (λ a. (s : Assignment) → Agrees (x ∷ xs) a s → (s x ≡ v) × Extends vs (map s xs)) (meet x v e (e x)) (unify xs vs) (meet_each x v e (e x) refl)
    (λ a h. each_weaker (λ c. Grows a c × ((s : Assignment) → Agrees xs c s → Extends vs (map s xs))) (λ c. (s : Assignment) → Agrees (x ∷ xs) c s → (s x ≡ v) × Extends vs (map s xs)) (unify xs vs a)
    (λ c k s g. (g x (inl refl) v (k.0 x v h.1), k.1 s (λ y i. g y (inr i))))
    (pair (λ c. Grows a c) (λ c. (s : Assignment) → Agrees xs c s → Extends vs (map s xs)) (unify xs vs a) (unify_extends xs vs a) (unify_fills xs vs a)))
  where
    pair : (P Q : Bindings → Type 0) (o : Option Bindings) → Each P (of_option o) → Each Q (of_option o) → Each (λ a. P a × Q a) (of_option o)
    pair P Q None h k = tt
    pair P Q (Some a) h k = ((h.0, k.0), tt)

pub then_covers : (L : List ℕ) (s : Assignment) (F : Type 0) (x : ℕ) (v : Val) (e : Bindings) (f : Bindings → Option Bindings) (o : Option Val) → e x ≡ o → s x ≡ v → ((w : Val) → o ≡ Some w → s x ≡ w) → (P : Bindings → Type 0) → P e → P (put x v e) → ((a : Bindings) → P a → Covers (λ a. Agrees L a s) F (of_option (f a))) → Covers (λ a. Agrees L a s) F (of_option (and_then (meet x v e o) f))
then_covers L s F x v e f None h p g P pe pp k = k (put x v e) pp
then_covers L s F x v e f (Some w) h p g P pe pp k = on (same_value w v) (same_of w v (sym (g w refl) ∙ p))
  where
    on : (t : Bool) → t ≡ true → Covers (λ a. Agrees L a s) F (of_option (and_then (cond t (Some e) None) f))
    on true q = k e pe
    on false q = absurd (no q)
      where
        no : false ≡ true → ⊥
        no e = cc

-- an assignment that has the answer's values is covered
pub unify_covers : (L : List ℕ) (s : Assignment) (F : Type 0) (xs : List ℕ) (os : List (Option Val)) (e : Bindings) → Agrees xs e s → Agrees L e s → Extends os (map s xs) → Covers (λ a. Agrees L a s) F (of_option (unify xs os e))
unify_covers L s F [] [] e g l h = inl l
unify_covers L s F [] (v ∷ vs) e g l h = absurd (no v h)
  where
    no : (v : Option Val) → Extends (v ∷ vs) [] → ⊥
    no None h = h
    no (Some v) h = h
unify_covers L s F (x ∷ xs) [] e g l h = absurd h
unify_covers L s F (x ∷ xs) (None ∷ vs) e g l h = unify_covers L s F xs vs e (λ y i. g y (inr i)) l h
unify_covers L s F (x ∷ xs) (Some v ∷ vs) e g l h =
    then_covers L s F x v e (unify xs vs) (e x) refl h.0 (λ w q. g x (inl refl) w q) (λ a. Agrees xs a s × Agrees L a s) ((λ y i. g y (inr i), l)) ((put_agrees xs e s x v h.0 (λ y i. g y (inr i)), put_agrees L e s x v h.0 l)) (λ a k. unify_covers L s F xs vs a k.0 k.1 h.1)

-- without implied arguments it succeeds
pub then_succeeds : (x : ℕ) (v : Val) (e : Bindings) (f : Bindings → Option Bindings) (o : Option Val) → e x ≡ o → (o ≡ Some v) ⊎ (o ≡ None) → (P : Bindings → Type 0) → (o ≡ Some v → P e) → (o ≡ None → P (put x v e)) → ((a : Bindings) → P a → Succeeds (of_option (f a))) → Succeeds (of_option (and_then (meet x v e o) f))
then_succeeds x v e f None h c P pe pp k = k (put x v e) (pp refl)
then_succeeds x v e f (Some w) h c P pe pp k = on (same_value w v) (same_of w v (⊎_elim (λ q. some_inj w v q) (λ q. absurd (none_some None w refl (sym q))) c))
  where
    eq : Some w ≡ Some v
    eq = ⊎_elim (λ q. q) (λ q. absurd (none_some None w refl (sym q))) c

    on : (t : Bool) → t ≡ true → Succeeds (of_option (and_then (cond t (Some e) None) f))
    on true q = k e (pe eq)
    on false q = absurd (no q)
      where
        no : false ≡ true → ⊥
        no e = cc

pub true_not_false : true ≡ false → ⊥
true_not_false e = cc

pub meet_known : (Q : Bindings → Type 0) (x : ℕ) (v w : Val) (e : Bindings) (o : Option Val) → e x ≡ o → e x ≡ Some w → Q e → Each Q (of_option (meet x v e o))
meet_known Q x v w e None q r h = absurd (none_some (e x) w q r)
meet_known Q x v w e (Some u) q r h = each_cond Q (same_value u v) e (λ t. h)

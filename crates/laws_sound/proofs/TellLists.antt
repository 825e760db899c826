-- Truth and falsity by lists of answers: what is told of compound goals.
use Rattle.std.proofs.Common.{◌≡◌, ◌⊎◌, inl, inr, ℕ, zero, suc, List, [], ◌∷◌, Bool, true, false, cond, nat_eq, Option, Some, None, refl, sym, ap, ◌∙◌, subst, ⊎_elim}
use Rattle.std.proofs.lemmas.Bool.{cases_Bool}
use Rattle.mc_program.specs.Values.{Val, same_value}
use Rattle.mc_model.specs.Lists.{is_in, In}
use Rattle.mc_model.specs.Truth.{Assignment, SameOff}
use Rattle.mc_model.specs.EventList.{Items, End, Stuck, Stopped, Answer, Called, Wrote, Read, append, bind, choose, negate, Each, Succeeds, Covers}
use Rattle.mc_model.specs.Stream.{Bindings, at_height, below}
use Rattle.laws_sound.specs.code.Passes.{Grows, Agrees, AgreesFor, Hit, Tells}
use Rattle.laws_sound.proofs.Binds
use Rattle.laws_sound.proofs.Binds.{some_inj, true_not_false}
use Rattle.laws_language.proofs.Equality.{value_same, same_of}
use Rattle.laws_sound.proofs.Lists
use Rattle.laws_language.proofs.FlatWhole.{in_or_not, is_in_true}

pub value_cases : (v w : Val) → (v ≡ w) ⊎ (v ≡ w → ⊥)
value_cases v w = ⊎_elim (λ e. inl (value_same v w e)) (λ e. inr (λ p. true_not_false (sym (same_of v w p) ∙ e))) (cases_Bool (same_value v w))

-- agreement
pub agrees_sub : (P Q : ℕ → Type 0) (e : Bindings) (s : Assignment) → ((x : ℕ) → P x → Q x) → AgreesFor Q e s → AgreesFor P e s
agrees_sub P Q e s u h x i v p = h x (u x i) v p

pub agrees_less : (P : ℕ → Type 0) (e a : Bindings) (s : Assignment) → Grows e a → AgreesFor P a s → AgreesFor P e s
agrees_less P e a s f h x i v p = h x i v (f x v p)

agrees_at : (o : Option Val) (w : Val) → ((v : Val) → o ≡ Some v → w ≡ v) ⊎ (((v : Val) → o ≡ Some v → w ≡ v) → ⊥)
agrees_at None w = inl (λ v e. absurd (Binds.none_some None v refl e))
agrees_at (Some u) w = ⊎_elim (λ p. inl (λ v e. p ∙ some_inj u v e)) (λ n. inr (λ f. n (f u refl))) (value_cases w u)

pub agrees_cases : (L : List ℕ) (e : Bindings) (s : Assignment) → Agrees L e s ⊎ (Agrees L e s → ⊥)
agrees_cases [] e s = inl (λ x i. absurd i)
agrees_cases (y ∷ ys) e s =
    ⊎_elim
    (λ f. ⊎_elim (λ g. inl (λ x i. ⊎_elim (λ p v q. ap s p ∙ f v (sym (ap e p) ∙ q)) (λ j. g x j) i)) (λ n. inr (λ h. n (λ x i. h x (inr i)))) (agrees_cases ys e s))
    (λ n. inr (λ h. n (λ v q. h y (inl refl) v q)))
    (agrees_at (e y) (s y))

-- the assignment with the bound values of vs
abbrev pub or_else : Val → Option Val → Val
or_else w None = w
or_else w (Some v) = v

abbrev pub with_bound : List ℕ → Bindings → Assignment → Assignment
with_bound vs a s = λ x. cond (is_in x vs) (or_else (s x) (a x)) (s x)

over_value : (t : Bool) (o : Option Val) (w v : Val) → o ≡ Some v → (t ≡ false → w ≡ v) → cond t (or_else w o) w ≡ v
over_value true None w v e f = absurd (Binds.none_some None v refl e)
over_value true (Some u) w v e f = some_inj u v e
over_value false o w v e f = f refl

over_same : (t : Bool) (o : Option Val) (w : Val) → t ≡ false → cond t (or_else w o) w ≡ w
over_same true o w e = absurd (true_not_false e)
over_same false o w e = refl

is_out_on : (x y : ℕ) (ys : List ℕ) (t : Bool) → nat_eq x y ≡ t → (x ≡ y → nat_eq x y ≡ true) → (is_in x ys ≡ false → In x ys → ⊥) → cond t true (is_in x ys) ≡ false → In x (y ∷ ys) → ⊥
is_out_on x y ys true q w f r i = true_not_false r
is_out_on x y ys false q w f r i = ⊎_elim (λ p. true_not_false (sym (w p) ∙ q)) (λ j. f r j) i

pub is_in_false : (x : ℕ) (xs : List ℕ) → is_in x xs ≡ false → In x xs → ⊥
is_in_false x [] e i = i
is_in_false x (y ∷ ys) e i = is_out_on x y ys (nat_eq x y) refl (Rattle.std.proofs.lemmas.Bool.eq-eqb x y) (is_in_false x ys) e i

pub with_bound_agrees : (P : ℕ → Type 0) (vs : List ℕ) (a : Bindings) (s : Assignment) → ((x : ℕ) → P x → (In x vs → ⊥) → (v : Val) → a x ≡ Some v → s x ≡ v) → AgreesFor P a (with_bound vs a s)
with_bound_agrees P vs a s h x i v p = over_value (is_in x vs) (a x) (s x) v p (λ t. h x i (is_in_false x vs t) v p)

pub with_bound_off : (vs : List ℕ) (a : Bindings) (s : Assignment) → SameOff vs s (with_bound vs a s)
with_bound_off vs a s x n = over_same (is_in x vs) (a x) (s x) (⊎_elim (λ t. absurd (n (is_in_true x vs t))) (λ f. f) (cases_Bool (is_in x vs)))

-- assignments that differ on unbound variables at most agree with the same bindings
pub agrees_off : (P : ℕ → Type 0) (vs : List ℕ) (e : Bindings) (s u : Assignment) → ((x : ℕ) → In x vs → e x ≡ None) → SameOff vs s u → ((x : ℕ) → P x → (In x vs → ⊥) → (v : Val) → e x ≡ Some v → s x ≡ v) → AgreesFor P e u
agrees_off P vs e s u n o h x i v p = ⊎_elim (λ j. absurd (Binds.none_some (e x) v (n x j) p)) (λ m. o x m ∙ h x i m v p) (in_or_not x vs)

pub agrees_apart : (L vs : List ℕ) (e : Bindings) (s u : Assignment) → ((x : ℕ) → In x vs → In x L → ⊥) → SameOff vs s u → Agrees L e u → Agrees L e s
agrees_apart L vs e s u d o h x i v p = sym (o x (λ j. d x j i)) ∙ h x i v p

-- where nothing is newly bound, agreement stays
pub agrees_stay : (P : ℕ → Type 0) (e a : Bindings) (s : Assignment) → ((x : ℕ) → P x → (v : Val) → a x ≡ Some v → e x ≡ None → ⊥) → Grows e a → AgreesFor P e s → AgreesFor P a s
agrees_stay P e a s n g h x i v p = on (e x) refl
  where
    on : (o : Option Val) → e x ≡ o → s x ≡ v
    on None q = absurd (n x i v p q)
    on (Some w) q = h x i w q ∙ some_inj w v (sym (g x w q) ∙ p)

-- answers that are hit
pub hit_more : (one : Bool) (L : List ℕ) (s : Assignment) (a : Bindings) → Agrees L a s → Hit one L s a
hit_more true L s a h = tt
hit_more false L s a h = h

pub hit_covers : (one : Bool) (L : List ℕ) (s : Assignment) (F : Type 0) (xs : Items Bindings) → Covers (λ a. Agrees L a s) F xs → Covers (Hit one L s) F xs
hit_covers one L s F xs c = Lists.covers_map (λ a. Agrees L a s) (Hit one L s) F F (λ a h. hit_more one L s a h) (λ f. f) xs c

pub hit_cases : (one : Bool) (L : List ℕ) (s : Assignment) (a : Bindings) → Hit one L s a ⊎ (Hit one L s a → ⊥)
hit_cases true L s a = inl tt
hit_cases false L s a = agrees_cases L a s

pub hit_any : (one : Bool) (L : List ℕ) (s : Assignment) (F : Type 0) (xs : Items Bindings) → Covers (Hit one L s) F xs → Covers (λ a. Unit {0}) F xs
hit_any one L s F xs c = Lists.covers_map (Hit one L s) (λ a. Unit {0}) F F (λ a h. tt) (λ f. f) xs c

pub hit_apart : (one : Bool) (L vs : List ℕ) (s u : Assignment) (a : Bindings) → ((x : ℕ) → In x vs → In x L → ⊥) → SameOff vs s u → Hit one L u a → Hit one L s a
hit_apart true L vs s u a d o h = tt
hit_apart false L vs s u a d o h = agrees_apart L vs a s u d o h

pub covers_succeeds : {A : Type 0} (P : A → Type 0) (F : Type 0) (xs : Items A) → ((a : A) → P a) → Succeeds xs → Covers P F xs
covers_succeeds P F End p h = absurd h
covers_succeeds P F Stuck p h = tt
covers_succeeds P F (Stopped w) p h = tt
covers_succeeds P F (Answer a xs) p h = inl (p a)
covers_succeeds P F (Called q xs) p h = covers_succeeds P F xs p h
covers_succeeds P F (Wrote t xs) p h = covers_succeeds P F xs p h
covers_succeeds P F (Read k xs) p h = covers_succeeds P F xs p h

pub covers_both : {A : Type 0} (Q : A → Type 0) (F G : Type 0) (xs : Items A) → Covers Q F xs → Covers Q G xs → Covers Q (F × G) xs
covers_both Q F G End f g = (f, g)
covers_both Q F G Stuck f g = tt
covers_both Q F G (Stopped w) f g = tt
covers_both Q F G (Answer a xs) f g = ⊎_elim (λ q. inl q) (λ c. ⊎_elim (λ q. inl q) (λ d. inr (covers_both Q F G xs c d)) g) f
covers_both Q F G (Called p xs) f g = covers_both Q F G xs f g
covers_both Q F G (Wrote t xs) f g = covers_both Q F G xs f g
covers_both Q F G (Read k xs) f g = covers_both Q F G xs f g

-- all choices of values for vs
pub scope_no : (one : Bool) (L vs : List ℕ) (s : Assignment) (F : Assignment → Type 0) (xs : Items Bindings) → ((x : ℕ) → In x vs → In x L → ⊥) → ((u : Assignment) → SameOff vs s u → Covers (Hit one L u) (F u) xs) → Covers (Hit one L s) ((u : Assignment) → SameOff vs s u → F u) xs
scope_no one L vs s F xs d f =
    Lists.covers_map (Hit one L s) (Hit one L s) ((i : (u : Assignment) × SameOff vs s u) → F i.0) ((u : Assignment) → SameOff vs s u → F u) (λ a h. h) (λ g u o. g (u, o)) xs
    (Lists.covers_all (λ (i : (u : Assignment) × SameOff vs s u) a. Hit one L i.0 a) (Hit one L s) (λ i. F i.0) (λ a. hit_cases one L s a) (λ i a h. hit_apart one L vs s i.0 a d i.1 h) xs (λ i. f i.0 i.1))

-- a part that is followed by another: an answer agrees, or one answer is enough and what follows succeeds
module _ (N M W : Type 0) (K L : List ℕ) (s : Assignment) (one : Bool) (H R : Bindings → Type 0) (xs ys : Items Bindings) (k : Bindings → Items Bindings) where
  hit_true : one ≡ true → (a : Bindings) → Hit one L s a
  hit_true e a = subst (λ b. Hit b L s a) (sym e) tt

  pub bind_no : Each R xs → Covers H N xs → ((a : Bindings) → R a → H a → Agrees K a s ⊎ ((one ≡ true) × Succeeds (k a))) → ((a : Bindings) → R a → Agrees K a s → Covers (Hit one L s) M (k a)) → (N → W) → (M → W) → Covers (Hit one L s) W (bind xs k)
  bind_no r c f g n m =
      Lists.covers_bind H (Hit one L s) W k R xs r (Lists.covers_map H H N W (λ a h. h) n xs c)
      (λ a ra h. ⊎_elim (λ z. Lists.covers_map (Hit one L s) (Hit one L s) M W (λ c h. h) m (k a) (g a ra z)) (λ z. covers_succeeds (Hit one L s) W (k a) (hit_true z.0) z.1) (f a ra h))

-- negation
pub negate_yes : (P : ℕ → Type 0) (F : Assignment → Type 0) (e : Bindings) (xs : Items Bindings) → Each (λ a. Unit {0}) xs → ((s : Assignment) → AgreesFor P e s → Covers (λ a. Unit {0}) (F s) xs) → Each (λ a. (s : Assignment) → AgreesFor P a s → F s) (negate e xs)
negate_yes P F e End h c = (c, tt)
negate_yes P F e Stuck h c = h
negate_yes P F e (Stopped w) h c = tt
negate_yes P F e (Answer a xs) h c = tt
negate_yes P F e (Called p xs) h c = negate_yes P F e xs h c
negate_yes P F e (Wrote t xs) h c = negate_yes P F e xs h c
negate_yes P F e (Read k xs) h c = negate_yes P F e xs h c

pub negate_no : (Q : Bindings → Type 0) (F : Type 0) (e : Bindings) (xs : Items Bindings) → Each (λ a. F) xs → Q e → Covers Q F (negate e xs)
negate_no Q F e End h q = inl q
negate_no Q F e Stuck h q = tt
negate_no Q F e (Stopped w) h q = tt
negate_no Q F e (Answer a xs) h q = h.0
negate_no Q F e (Called p xs) h q = negate_no Q F e xs h q
negate_no Q F e (Wrote t xs) h q = negate_no Q F e xs h q
negate_no Q F e (Read k xs) h q = negate_no Q F e xs h q

-- if-then-else
module _ {A B : Type 0} (P : A → Type 0) (Q : B → Type 0) (k : A → Items B) where
  choose_yes : (I : Type 0) (F : I → Type 0) (xs : Items A) (ys : Items B) → Each P xs → ((a : A) → P a → Each Q (k a)) → ((i : I) → Covers (λ a. Unit {0}) (F i) xs) → (((i : I) → F i) → Each Q ys) → Each Q (choose xs k ys)
  choose_yes I F End ys p f c g = g c
  choose_yes I F Stuck ys p f c g = p
  choose_yes I F (Stopped w) ys p f c g = tt
  choose_yes I F (Answer a xs) ys p f c g = Lists.each_append Q Q (k a) (bind xs k) (f a p.0) (Lists.each_bind P Q k xs p.1 f)
  choose_yes I F (Called q xs) ys p f c g = choose_yes I F xs ys p f c g
  choose_yes I F (Wrote t xs) ys p f c g = choose_yes I F xs ys p f c g
  choose_yes I F (Read n xs) ys p f c g = choose_yes I F xs ys p f c g

  choose_else : (F G : Type 0) (xs : Items A) (ys : Items B) → Each P xs → ((a : A) → P a → F) → Covers Q G ys → Covers Q (F ⊎ G) (choose xs k ys)
  choose_else F G End ys p f c = Lists.covers_map Q Q G (F ⊎ G) (λ a h. h) (λ g. inr g) ys c
  choose_else F G Stuck ys p f c = tt
  choose_else F G (Stopped w) ys p f c = tt
  choose_else F G (Answer a xs) ys p f c = Lists.covers_sure Q (F ⊎ G) (inl (f a p.0)) (append (k a) (bind xs k))
  choose_else F G (Called q xs) ys p f c = choose_else F G xs ys p f c
  choose_else F G (Wrote t xs) ys p f c = choose_else F G xs ys p f c
  choose_else F G (Read n xs) ys p f c = choose_else F G xs ys p f c

  choose_then : (H : A → Type 0) (F : Type 0) (xs : Items A) (ys : Items B) → Each P xs → Covers H F xs → ((a : A) → P a → H a → Covers Q F (k a)) → Covers Q F (choose xs k ys)
  choose_then H F End ys p c f = Lists.covers_sure Q F c ys
  choose_then H F Stuck ys p c f = tt
  choose_then H F (Stopped w) ys p c f = tt
  choose_then H F (Answer a xs) ys p c f =
      ⊎_elim (λ h. Lists.covers_append_left Q F (k a) (bind xs k) (f a p.0 h)) (λ d. Lists.covers_append_right Q F (k a) (bind xs k) (Lists.covers_bind H Q F k P xs p.1 d f)) c
  choose_then H F (Called q xs) ys p c f = choose_then H F xs ys p c f
  choose_then H F (Wrote t xs) ys p c f = choose_then H F xs ys p c f
  choose_then H F (Read n xs) ys p c f = choose_then H F xs ys p c f

module _ (N M : Type 0) (K L : List ℕ) (s : Assignment) (one : Bool) (H R : Bindings → Type 0) (xs ys : Items Bindings) (k : Bindings → Items Bindings) where
  choose_no : Each R xs → Covers H N xs → ((a : Bindings) → R a → H a → Agrees K a s ⊎ ((one ≡ true) × Succeeds (k a))) → ((a : Bindings) → R a → Agrees K a s → Covers (Hit one L s) M (k a)) → Covers (Hit one L s) (N ⊎ M) (choose xs k ys)
  choose_no r c f g =
      choose_then R (Hit one L s) k H (N ⊎ M) xs ys r (Lists.covers_map H H N (N ⊎ M) (λ a h. h) (λ n. inl n) xs c)
      (λ a ra h. ⊎_elim (λ z. Lists.covers_map (Hit one L s) (Hit one L s) M (N ⊎ M) (λ c h. h) (λ m. inr m) (k a) (g a ra z)) (λ z. covers_succeeds (Hit one L s) (N ⊎ M) (k a) (λ c. subst (λ b. Hit b L s c) (sym z.0) tt) z.1) (f a ra h))

-- a conjunct and the rest: F, G and H say of which variables the first, the rest and the whole speak
module _ (F G H : ℕ → Type 0) (Y1 N1 Y2 N2 Y N : Assignment → Type 0) (one go : Bool) (K L : List ℕ) (e : Bindings) (R : Bindings → Type 0) (xs : Items Bindings) (k : Bindings → Items Bindings)
    (sub1 : (x : ℕ) → F x → H x) (sub2 : (x : ℕ) → G x → H x) (into1 : (x : ℕ) → In x L → In x K) (into2 : (x : ℕ) → G x → In x K) (out : (x : ℕ) → In x K → In x L ⊎ H x)
    (yy : (s : Assignment) → Y1 s → Y2 s → Y s) (n1 : (s : Assignment) → N1 s → N s) (n2 : (s : Assignment) → N2 s → N s) where
  pub next_tells : Each (λ a. Grows e a × R a) xs → Tells F Y1 N1 go K e xs →
      ((a : Bindings) → Grows e a → R a → Each (λ c. Grows a c) (k a)) → ((s : Assignment) (a : Bindings) → Agrees K e s → Grows e a → R a → Hit go K s a → Agrees K a s ⊎ ((one ≡ true) × Succeeds (k a))) → ((a : Bindings) → Grows e a → R a → Tells G Y2 N2 one L a (k a)) →
      Tells H Y N one L e (bind xs k)
  next_tells sd td ex hit tk =
      record {
        yes = Lists.each_bind (λ a. (Grows e a × R a) × ((s : Assignment) → AgreesFor F a s → Y1 s)) (λ a. (s : Assignment) → AgreesFor H a s → Y s) k xs
            (Lists.each_both (λ a. Grows e a × R a) (λ a. (s : Assignment) → AgreesFor F a s → Y1 s) xs sd td.yes)
            (λ a r. Lists.each_map (λ c. Grows a c × ((s : Assignment) → AgreesFor G c s → Y2 s)) (λ c. (s : Assignment) → AgreesFor H c s → Y s)
            (λ c q s g. yy s (r.1 s (agrees_less F a c s q.0 (λ x i. g x (sub1 x i)))) (q.1 s (λ x i. g x (sub2 x i)))) (k a)
            (Lists.each_both (λ c. Grows a c) (λ c. (s : Assignment) → AgreesFor G c s → Y2 s) (k a) (ex a r.0.0 r.0.1) (tk a r.0.0 r.0.1).yes));
        no = λ s q r.
            let ke : Agrees K e s = λ x i. ⊎_elim (λ j. r x j) (λ j. q x j) (out x i) in
            bind_no (N1 s) (N2 s) (N s) K L s one (Hit go K s) (λ a. Grows e a × R a) xs End k sd (td.no s (λ x i. q x (sub1 x i)) ke)
            (λ a h z. hit s a ke h.0 h.1 z)
            (λ a h g. (tk a h.0 h.1).no s (λ x i. g x (into2 x i)) (λ x i. g x (into1 x i)))
            (n1 s) (n2 s);
      }

-- a condition with its then and else parts
module _ (Fg Ft Fk Fa : ℕ → Type 0) (vs : List ℕ) (Yg Ng Yt Nt Yk Nk : Assignment → Type 0) (one : Bool) (K L : List ℕ) (e : Bindings) (R : Bindings → Type 0) (xs ys : Items Bindings) (k : Bindings → Items Bindings)
    (from_g : (x : ℕ) → Fg x → (In x vs → ⊥) → Fa x) (from_t : (x : ℕ) → Ft x → (In x vs → ⊥) → Fa x) (from_k : (x : ℕ) → Fk x → Fa x)
    (none : (x : ℕ) → In x vs → e x ≡ None) (apart : (x : ℕ) → In x vs → In x L → ⊥) where
  abbrev Y : Assignment → Type 0
  Y s = ((u : Assignment) × SameOff vs s u × Yg u × Yt u) ⊎ (((u : Assignment) → SameOff vs s u → Ng u) × Yk s)

  abbrev N : Assignment → Type 0
  N s = ((u : Assignment) → SameOff vs s u → Ng u ⊎ Nt u) × (((u : Assignment) × SameOff vs s u × Yg u) ⊎ Nk s)

  pub ite_yes : Each (λ a. Grows e a × R a) xs → Each (λ a. (s : Assignment) → AgreesFor Fg a s → Yg s) xs → ((u : Assignment) → AgreesFor Fg e u → Covers (λ a. Unit {0}) (Ng u) xs) →
      ((a : Bindings) → Grows e a → R a → Each (λ c. Grows a c) (k a)) → ((a : Bindings) → Grows e a → R a → Each (λ c. (s : Assignment) → AgreesFor Ft c s → Yt s) (k a)) →
      Each (λ c. Grows e c) ys → Each (λ c. (s : Assignment) → AgreesFor Fk c s → Yk s) ys → Each (λ c. (s : Assignment) → AgreesFor Fa c s → Y s) (choose xs k ys)
  ite_yes sd yg ng ex yt ek yk =
      choose_yes (λ a. (Grows e a × R a) × ((s : Assignment) → AgreesFor Fg a s → Yg s)) (λ c. (s : Assignment) → AgreesFor Fa c s → Y s) k ((u : Assignment) × AgreesFor Fg e u) (λ i. Ng i.0) xs ys
      (Lists.each_both (λ a. Grows e a × R a) (λ a. (s : Assignment) → AgreesFor Fg a s → Yg s) xs sd yg)
      (λ a r. Lists.each_map (λ c. Grows a c × ((s : Assignment) → AgreesFor Ft c s → Yt s)) (λ c. (s : Assignment) → AgreesFor Fa c s → Y s)
      (λ c q s g.
      let u : Assignment = with_bound vs c s in
      inl (u, with_bound_off vs c s, r.1 u (agrees_less Fg a c u q.0 (with_bound_agrees Fg vs c s (λ x i n. g x (from_g x i n)))), q.1 u (with_bound_agrees Ft vs c s (λ x i n. g x (from_t x i n))))) (k a)
      (Lists.each_both (λ c. Grows a c) (λ c. (s : Assignment) → AgreesFor Ft c s → Yt s) (k a) (ex a r.0.0 r.0.1) (yt a r.0.0 r.0.1)))
      (λ i. ng i.0 i.1)
      (λ f. Lists.each_map (λ c. Grows e c × ((s : Assignment) → AgreesFor Fk c s → Yk s)) (λ c. (s : Assignment) → AgreesFor Fa c s → Y s)
      (λ c q s g. inr ((λ u o. f (u, agrees_off Fg vs e s u none o (λ x i n v p. g x (from_g x i n) v (q.0 x v p)))), q.1 s (λ x i. g x (from_k x i)))) ys
      (Lists.each_both (λ c. Grows e c) (λ c. (s : Assignment) → AgreesFor Fk c s → Yk s) ys ek yk))

  pub ite_no : (go : Bool) (into1 : (x : ℕ) → In x L → In x K) (into2 : (x : ℕ) → Ft x → In x K) (out : (x : ℕ) → In x K → In x L ⊎ Ft x) (s : Assignment) → AgreesFor Fa e s → Agrees L e s → Each (λ a. Grows e a × R a) xs →
      ((u : Assignment) → AgreesFor Fg e u → Agrees K e u → Covers (Hit go K u) (Ng u) xs) →
      Each (λ a. Yg (with_bound vs a s)) xs →
      ((u : Assignment) (a : Bindings) → Agrees K e u → Grows e a → R a → Hit go K u a → Agrees K a u ⊎ ((one ≡ true) × Succeeds (k a))) → ((a : Bindings) → Grows e a → R a → (u : Assignment) → AgreesFor Ft a u → Agrees L a u → Covers (Hit one L u) (Nt u) (k a)) →
      Covers (Hit one L s) (Nk s) ys → Covers (Hit one L s) (N s) (choose xs k ys)
  ite_no go into1 into2 out s q r sd ng yg hit nt nk =
      covers_both (Hit one L s) ((u : Assignment) → SameOff vs s u → Ng u ⊎ Nt u) (((u : Assignment) × SameOff vs s u × Yg u) ⊎ Nk s) (choose xs k ys)
      (scope_no one L vs s (λ u. Ng u ⊎ Nt u) (choose xs k ys) apart (λ u o.
      let gu : AgreesFor Fg e u = agrees_off Fg vs e s u none o (λ x i n. q x (from_g x i n)) in
      let tu : AgreesFor Ft e u = agrees_off Ft vs e s u none o (λ x i n. q x (from_t x i n)) in
      let lu : Agrees L e u = agrees_off (λ x. In x L) vs e s u none o (λ x i n. r x i) in
      let ku : Agrees K e u = λ x i. ⊎_elim (λ j. lu x j) (λ j. tu x j) (out x i) in
      choose_no (Ng u) (Nt u) K L u one (Hit go K u) (λ a. Grows e a × R a) xs ys k sd (ng u gu ku)
      (λ a h z. hit u a ku h.0 h.1 z)
      (λ a h g. nt a h.0 h.1 u (λ x i. g x (into2 x i)) (λ x i. g x (into1 x i)))))
      (choose_else (λ a. Yg (with_bound vs a s)) (Hit one L s) k ((u : Assignment) × SameOff vs s u × Yg u) (Nk s) xs ys yg (λ a h. (with_bound vs a s, with_bound_off vs a s, h)) nk)

below_tells : (P : ℕ → Type 0) (Y N : Assignment → Type 0) (one : Bool) (L : List ℕ) (e : Bindings) (h : ℕ) (k : ℕ → Items Bindings) → ((n : ℕ) → Tells P Y N one L e (k n)) → Tells P Y N one L e (below h k)
below_tells P Y N one L e zero k t = record { yes = tt; no = λ s g l. tt }
below_tells P Y N one L e (suc n) k t = t n

pub height_tells : (P : ℕ → Type 0) (Y N : Assignment → Type 0) (one : Bool) (L : List ℕ) (e : Bindings) (l : Bool) (h : ℕ) (k : ℕ → Items Bindings) → ((n : ℕ) → Tells P Y N one L e (k n)) → Tells P Y N one L e (at_height l h k)
height_tells P Y N one L e true h k t = t h
height_tells P Y N one L e false h k t = below_tells P Y N one L e h k t

-- more variables are spoken of
pub tells_more : (P Q : ℕ → Type 0) (Y N : Assignment → Type 0) (one : Bool) (L : List ℕ) (e : Bindings) (xs : Items Bindings) → ((x : ℕ) → P x → Q x) → Tells P Y N one L e xs → Tells Q Y N one L e xs
tells_more P Q Y N one L e xs f t =
    record { yes = Lists.each_map (λ a. (s : Assignment) → AgreesFor P a s → Y s) (λ a. (s : Assignment) → AgreesFor Q a s → Y s) (λ a g s h. g s (λ x i. h x (f x i))) xs t.yes; no = λ s g l. t.no s (λ x i. g x (f x i)) l }

-- Flat truth implies nested truth.
use Rattle.std.proofs.Common.{◌≡◌, ◌⊎◌, inl, inr, ℕ, pos, ◌+◌, ◌<◌, ◌≤◌, List, [], ◌∷◌, ◌++◌, map, length, Bool, true, false, cond, nat_lt, nat_eq, refl, sym, ap, ◌∙◌, subst, arith, ⊎_elim, length-append}
use Rattle.std.proofs.lemmas.Bool.{lt-ltb, le-ltb, eqb-true, eqb-false, eq-eqb}
use Rattle.mc_program.specs.Values.{Val, int}
use Rattle.mc_program.specs.Programs.{Formula, Equal, Call, And, Or, If, Not, Exists, Formulas, no_formulas, formula_then}
use Rattle.mc_model.specs.Truth.{Assignment, SameOff, Facts, Choice, ForSome, ForEach, atoms, atoms_all, AtomYes, AreEqual, pair, YesBy, NoBy, AllYesBy, OneNoBy, OneYes, AllNo, stage}
use Rattle.mc_model.specs.Flat as F
use Rattle.mc_model.specs.Flat.{Flat_goal, Flat_goals, no_flat, flat_then, FlatYes, FlatNo, FlatAllYes, FlatOneYes, FlatAllNo, FlatOneNo}
use Rattle.mc_model.specs.Flat.{flats}
use Rattle.mc_accepted.specs.Normal.{disjuncts, all_disjuncts, conjunction, name_terms, equation, conjuncts_of, conjuncts_of_all, disjuncts_of}
use Rattle.laws_language.specs.FlatLaws.{Uses, AllUse, Numbers, flat_goal, FlatGoalsCarry}
use Rattle.laws_language.proofs.FlatGoals.{in_left, in_right, in_either, AllFlatYes, OneFlatNo, all_split, one_split, flats_listed, conjunction_yes, conjunction_no, around_yes, around_no}
use Rattle.laws_language.proofs.FlatAtoms.{all_values_of, equation_values, HasValues, call_yes, call_no, equation_yes, equation_no, call_next, call_above, call_has, equation_numbered, put_in, put_at, put_off}
use Rattle.mc_model.specs.Lists.{In, is_in}

only : {A : Type 0} → A ⊎ ⊥ → A
only h = ⊎_elim (λ a. a) (λ b. absurd b) h

-- a disjunction of flat goals is true where one is, and false where all are
module _ (C : Facts) (u : Assignment) where
  abbrev pub OneFlatYes : List Flat_goal → Type 0
  OneFlatYes gs = FlatOneYes C (flats gs) u

  abbrev pub AllFlatNo : List Flat_goal → Type 0
  AllFlatNo gs = FlatAllNo C (flats gs) u

  one_yes_split : (gs hs : List Flat_goal) → OneFlatYes (gs ++ hs) → OneFlatYes gs ⊎ OneFlatYes hs
  one_yes_split [] hs n = inr n
  one_yes_split (g ∷ gs) hs n = ⊎_elim (λ a. inl (inl a)) (λ b. ⊎_elim (λ a. inl (inr a)) (λ b. inr b) (one_yes_split gs hs b)) n

  all_no_split : (gs hs : List Flat_goal) → AllFlatNo (gs ++ hs) → AllFlatNo gs × AllFlatNo hs
  all_no_split [] hs y = (tt, y)
  all_no_split (g ∷ gs) hs y = let z = all_no_split gs hs y.1 in ((y.0, z.0), z.1)

  disjunct_yes : (g : Flat_goal) → OneFlatYes (disjuncts g) → FlatYes C g u
  disjunct_yes (F.Same x y) h = only h
  disjunct_yes (F.Made x f ys) h = only h
  disjunct_yes (F.Is x v) h = only h
  disjunct_yes (F.Call p xs) h = only h
  disjunct_yes (F.And gs) h = only h
  disjunct_yes (F.Or gs) h = subst (λ hs. FlatOneYes C hs u) (flats_listed gs) h
  disjunct_yes (F.If vs c t e) h = only h
  disjunct_yes (F.Not g) h = only h
  disjunct_yes (F.Exists vs g) h = only h

  disjunct_no : (g : Flat_goal) → AllFlatNo (disjuncts g) → FlatNo C g u
  disjunct_no (F.Same x y) h = h.0
  disjunct_no (F.Made x f ys) h = h.0
  disjunct_no (F.Is x v) h = h.0
  disjunct_no (F.Call p xs) h = h.0
  disjunct_no (F.And gs) h = h.0
  disjunct_no (F.Or gs) h = subst (λ hs. FlatAllNo C hs u) (flats_listed gs) h
  disjunct_no (F.If vs c t e) h = h.0
  disjunct_no (F.Not g) h = h.0
  disjunct_no (F.Exists vs g) h = h.0

  pub disjuncts_yes : (gs : List Flat_goal) → OneFlatYes (all_disjuncts gs) → OneFlatYes gs
  disjuncts_yes [] n = n
  disjuncts_yes (g ∷ gs) n = ⊎_elim (λ a. inl (disjunct_yes g a)) (λ b. inr (disjuncts_yes gs b)) (one_yes_split (disjuncts g) (all_disjuncts gs) n)

  pub disjuncts_no : (gs : List Flat_goal) → AllFlatNo (all_disjuncts gs) → AllFlatNo gs
  disjuncts_no [] y = tt
  disjuncts_no (g ∷ gs) y = let z = all_no_split (disjuncts g) (all_disjuncts gs) y in (disjunct_no g z.0, disjuncts_no gs z.1)

-- whether a number is in a list
pub is_in_true : (x : ℕ) (xs : List ℕ) → is_in x xs ≡ true → In x xs
is_in_true x [] e = cc
is_in_true x (y ∷ ys) e = by_test (nat_eq x y) refl e (is_in_true x ys)
  where
    by_test : (t : Bool) → nat_eq x y ≡ t → cond t true (is_in x ys) ≡ true → (is_in x ys ≡ true → In x ys) → In x (y ∷ ys)
    by_test true q h rest = inl (eqb-true x y q)
    by_test false q h rest = inr (rest h)

is_in_false : (x : ℕ) (xs : List ℕ) → is_in x xs ≡ false → In x xs → ⊥
is_in_false x [] e i = i
is_in_false x (y ∷ ys) e i = by_test (nat_eq x y) refl e (is_in_false x ys)
  where
    by_test : (t : Bool) → nat_eq x y ≡ t → cond t true (is_in x ys) ≡ false → (is_in x ys ≡ false → In x ys → ⊥) → ⊥
    by_test true q h rest = let f : true ≡ false = h in cc
    by_test false q h rest = ⊎_elim (λ e. eqb-false x y q e) (λ j. rest h j) i

pub in_or_not : (x : ℕ) (xs : List ℕ) → In x xs ⊎ (In x xs → ⊥)
in_or_not x xs = by_test (is_in x xs) refl
  where
    by_test : (t : Bool) → is_in x xs ≡ t → In x xs ⊎ (In x xs → ⊥)
    by_test true e = inl (is_in_true x xs e)
    by_test false e = inr (is_in_false x xs e)

picked : (t : Bool) (v w : Val) → t ≡ true → cond t v w ≡ v
picked true v w e = refl
picked false v w e = cc

other : (t : Bool) (v w : Val) → t ≡ false → cond t v w ≡ w
other true v w e = cc
other false v w e = refl

pub in_list : (x : ℕ) (xs : List ℕ) → In x xs → is_in x xs ≡ true
in_list x xs i = by_test (is_in x xs) refl
  where
    by_test : (t : Bool) → is_in x xs ≡ t → is_in x xs ≡ true
    by_test true e = e
    by_test false e = absurd (is_in_false x xs e i)

not_in_list : (x : ℕ) (xs : List ℕ) → (In x xs → ⊥) → is_in x xs ≡ false
not_in_list x xs n = by_test (is_in x xs) refl
  where
    by_test : (t : Bool) → is_in x xs ≡ t → is_in x xs ≡ false
    by_test true e = absurd (n (is_in_true x xs e))
    by_test false e = e

pub in_map : (names : ℕ → ℕ) (z : ℕ) (xs : List ℕ) → In z (map names xs) → (x : ℕ) × In x xs × (z ≡ names x)
in_map names z [] i = absurd i
in_map names z (x ∷ xs) i = ⊎_elim (λ e. (x, inl refl, e)) (λ j. let r = in_map names z xs j in (r.0, inr r.1, r.2)) i

-- some assignment
pub nothing : Assignment
nothing x = int (pos 0)

-- the numbers that a goal takes begin at the first that is given
mutual
  pub goal_next : (names : ℕ → ℕ) (m : ℕ) (g : Formula) → m ≤ (conjuncts_of names m g).next
  goal_next names m (Equal a b) = omega (arith, (equation_numbered names m nothing nothing a b).next)
  goal_next names m (Call p ts) = omega (arith, call_next names m nothing nothing ts)
  goal_next names m (And gs) = goals_next names m gs
  goal_next names m (Or gs) = disjuncts_next names m gs
  goal_next names m (If vs c t e) =
      let rc = conjuncts_of names m c in
      let rt = conjuncts_of names rc.next t in
      omega (arith, goal_next names m c, goal_next names rc.next t, goal_next names rt.next e)
  goal_next names m (Not g) = goal_next names m g
  goal_next names m (Exists vs g) = goal_next names m g

  goals_next : (names : ℕ → ℕ) (m : ℕ) (gs : Formulas) → m ≤ (conjuncts_of_all names m gs).next
  goals_next names m no_formulas = omega arith
  goals_next names m (formula_then g gs) = omega (arith, goal_next names m g, goals_next names (conjuncts_of names m g).next gs)

  disjuncts_next : (names : ℕ → ℕ) (m : ℕ) (gs : Formulas) → m ≤ (disjuncts_of names m gs).next
  disjuncts_next names m no_formulas = omega arith
  disjuncts_next names m (formula_then g gs) = omega (arith, goal_next names m g, disjuncts_next names (conjuncts_of names m g).next gs)

mutual
  pub goal_above : (names : ℕ → ℕ) (m x : ℕ) (g : Formula) → In x (conjuncts_of names m g).made_variables → m ≤ x
  goal_above names m x (Equal a b) h = (equation_numbered names m nothing nothing a b).above x h
  goal_above names m x (Call p ts) h = call_above names m x ts h
  goal_above names m x (And gs) h = goals_above names m x gs h
  goal_above names m x (Or gs) h = absurd h
  goal_above names m x (If vs c t e) h = absurd h
  goal_above names m x (Not g) h = absurd h
  goal_above names m x (Exists vs g) h = absurd h

  goals_above : (names : ℕ → ℕ) (m x : ℕ) (gs : Formulas) → In x (conjuncts_of_all names m gs).made_variables → m ≤ x
  goals_above names m x no_formulas h = absurd h
  goals_above names m x (formula_then g gs) h =
      let r = conjuncts_of names m g in
      ⊎_elim (λ i. goal_above names m x g i) (λ i. omega (arith, goal_next names m g, goals_above names r.next x gs i)) (in_either x r.made_variables (conjuncts_of_all names r.next gs).made_variables h)

-- what a goal says by a choice it says by any other that agrees on its own atoms
module _ (C : Facts) (d f : Choice) where
  abbrev AgreeFrom : ℕ → ℕ → Type 0
  AgreeFrom i n = (j : ℕ) → i ≤ j → j < i + n → d j ≡ f j

  mutual
    yes_same : (i : ℕ) (g : Formula) (s : Assignment) → AgreeFrom i (atoms g) → YesBy C d i g s → YesBy C f i g s
    yes_same i (Equal a b) s e y = subst (λ c. AtomYes C s c (pair a b) AreEqual) (e i (omega arith) (omega arith)) y
    yes_same i (Call p ts) s e y = subst (λ c. AtomYes C s c ts (C.yes p)) (e i (omega arith) (omega arith)) y
    yes_same i (And gs) s e y = all_yes_same i gs s e y
    yes_same i (Or gs) s e y = y
    yes_same i (If vs c t k) s e y = y
    yes_same i (Not g) s e y = y
    yes_same i (Exists vs g) s e y = y

    pub all_yes_same : (i : ℕ) (gs : Formulas) (s : Assignment) → AgreeFrom i (atoms_all gs) → AllYesBy C d i gs s → AllYesBy C f i gs s
    all_yes_same i no_formulas s e y = tt
    all_yes_same i (formula_then g gs) s e y =
        (yes_same i g s (λ j a b. e j a (omega (arith, b))) y.0, all_yes_same (i + atoms g) gs s (λ j a b. e j (omega (arith, a)) (omega (arith, b))) y.1)

-- one choice up to a number, and another from there on
abbrev pub joined : ℕ → Choice → Choice → Choice
joined k d f j x = cond (nat_lt j k) (d j x) (f j x)

pub joined_first : (k : ℕ) (d f : Choice) (j : ℕ) → j < k → d j ≡ joined k d f j
joined_first k d f j l = λ i. λ x. sym (picked (nat_lt j k) (d j x) (f j x) (lt-ltb j k l)) i

pub joined_second : (k : ℕ) (d f : Choice) (j : ℕ) → k ≤ j → f j ≡ joined k d f j
joined_second k d f j l = λ i. λ x. sym (other (nat_lt j k) (d j x) (f j x) (le-ltb j k l)) i

-- values that an assignment has, another has that agrees with it there
pub values_same : (w v : Assignment) (m : ℕ) (whole : List Val) → ((x : ℕ) → m ≤ x → x < m + length whole → v x ≡ w x) → HasValues w m whole → HasValues v m whole
values_same w v m whole same h j pre post x e l =
    same (m + j) (omega arith) (omega (arith, ap length e, length-append pre (x ∷ post), l)) ∙ h j pre post x e l

module _ (C : Facts) (names : ℕ → ℕ) (xs : List ℕ) (n : ℕ) (numbers : Numbers names xs n) where
  abbrev Agree : Assignment → Assignment → Type 0
  Agree s w = (x : ℕ) → In x xs → s x ≡ w (names x)

  -- variables that are made have no variable of the clause among them
  agree_made : (s w v : Assignment) (vs : List ℕ) → ((x : ℕ) → In x vs → n ≤ x) → SameOff vs w v → Agree s w → Agree s v
  agree_made s w v vs above off agree x i = agree x i ∙ sym (off (names x) (λ h. omega (arith, numbers.below x i, above (names x) h)))

  -- the values of quantified variables, from those of the variables that stand for them
  abbrev narrowed : List ℕ → Assignment → Assignment → Assignment
  narrowed vs v s x = cond (is_in x vs) (v (names x)) (s x)

  narrowed_off : (vs : List ℕ) (v s : Assignment) → SameOff vs s (narrowed vs v s)
  narrowed_off vs v s x out = other (is_in x vs) (v (names x)) (s x) (not_in_list x vs out)

  not_named : (vs : List ℕ) (x : ℕ) → ((y : ℕ) → In y vs → In y xs) → In x xs → (In x vs → ⊥) → In (names x) (map names vs) → ⊥
  not_named vs x among i out h = let r = in_map names (names x) vs h in out (subst (λ y. In y vs) (sym (numbers.apart x r.0 i (among r.0 r.1) r.2)) r.1)

  narrowed_agrees : (vs made : List ℕ) (s w v : Assignment) → ((y : ℕ) → In y vs → In y xs) → ((x : ℕ) → In x made → n ≤ x) → SameOff (map names vs ++ made) w v → Agree s w → Agree (narrowed vs v s) v
  narrowed_agrees vs made s w v among above off agree x i =
      ⊎_elim (λ h. picked (is_in x vs) (v (names x)) (s x) (in_list x vs h))
      (λ out.
      narrowed_off vs v s x out ∙ agree x i
      ∙ sym (off (names x) (λ h. ⊎_elim (λ a. not_named vs x among i out a) (λ b. omega (arith, numbers.below x i, above (names x) b)) (in_either (names x) (map names vs) made h))))
      (in_or_not x vs)

  -- and the other way round
  abbrev pub renamed : List ℕ → Assignment → Assignment → Assignment
  renamed [] s w y = w y
  renamed (v ∷ vs) s w y = cond (nat_eq y (names v)) (s v) (renamed vs s w y)

  pub renamed_off : (vs : List ℕ) (s w : Assignment) → SameOff (map names vs) w (renamed vs s w)
  renamed_off [] s w y out = refl
  renamed_off (v ∷ vs) s w y out = other (nat_eq y (names v)) (s v) (renamed vs s w y) (differs (nat_eq y (names v)) (eqb-true y (names v))) ∙ renamed_off vs s w y (λ h. out (inr h))
    where
      differs : (t : Bool) → (t ≡ true → y ≡ names v) → t ≡ false
      differs true e = absurd (out (inl (e refl)))
      differs false e = refl

  pub renamed_at : (vs : List ℕ) (s w : Assignment) (x : ℕ) → ((y : ℕ) → In y vs → In y xs) → In x xs → In x vs → renamed vs s w (names x) ≡ s x
  renamed_at [] s w x among i h = absurd h
  renamed_at (v ∷ vs) s w x among i h =
      by_test (nat_eq (names x) (names v)) (eqb-true (names x) (names v)) (λ e. eq-eqb (names x) (names v) (ap names e)) (renamed_at vs s w x (λ y j. among y (inr j)) i)
    where
      by_test : (t : Bool) → (t ≡ true → names x ≡ names v) → (x ≡ v → t ≡ true) → (In x vs → renamed vs s w (names x) ≡ s x) → cond t (s v) (renamed vs s w (names x)) ≡ s x
      by_test true e q rest = ap s (sym (numbers.apart x v i (among v (inl refl)) (e refl)))
      by_test false e q rest = ⊎_elim (λ a. let f : false ≡ true = q a in cc) (λ j. rest j) h

  renamed_agrees : (vs : List ℕ) (s t w : Assignment) → ((y : ℕ) → In y vs → In y xs) → SameOff vs s t → Agree s w → Agree t (renamed vs t w)
  renamed_agrees vs s t w among off agree x i =
      ⊎_elim (λ h. sym (renamed_at vs t w x among i h)) (λ out. off x out ∙ agree x i ∙ sym (renamed_off vs t w (names x) (λ h. not_named vs x among i out h))) (in_or_not x vs)

  -- the made variables get the values of the parts, atom by atom
  abbrev mutual
    pub written : Choice → (i m : ℕ) → Formula → Assignment → Assignment → Assignment
    written d i m (Equal a b) s w = put_in m w (equation_values s (d i) a b)
    written d i m (Call p ts) s w = put_in m w (all_values_of s (d i) 0 ts)
    written d i m (And gs) s w = all_written d i m gs s w
    written d i m (Or gs) s w = w
    written d i m (If vs c t e) s w = w
    written d i m (Not g) s w = w
    written d i m (Exists vs g) s w = w

    all_written : Choice → (i m : ℕ) → Formulas → Assignment → Assignment → Assignment
    all_written d i m no_formulas s w = w
    all_written d i m (formula_then g gs) s w = all_written d (i + atoms g) (conjuncts_of names m g).next gs s (written d i m g s w)

  mutual
    pub written_off : (d : Choice) (i m : ℕ) (g : Formula) (s w : Assignment) → SameOff (conjuncts_of names m g).made_variables w (written d i m g s w)
    written_off d i m (Equal a b) s w = put_off m w (equation_values s (d i) a b) (equation names m a b).made_variables (equation_numbered names m s (d i) a b).has
    written_off d i m (Call p ts) s w = put_off m w (all_values_of s (d i) 0 ts) (name_terms names m ts).made_variables (λ x a l. call_has names m x s (d i) ts a l)
    written_off d i m (And gs) s w = all_written_off d i m gs s w
    written_off d i m (Or gs) s w = λ x out. refl
    written_off d i m (If vs c t e) s w = λ x out. refl
    written_off d i m (Not g) s w = λ x out. refl
    written_off d i m (Exists vs g) s w = λ x out. refl

    all_written_off : (d : Choice) (i m : ℕ) (gs : Formulas) (s w : Assignment) → SameOff (conjuncts_of_all names m gs).made_variables w (all_written d i m gs s w)
    all_written_off d i m no_formulas s w = λ x out. refl
    all_written_off d i m (formula_then g gs) s w = λ x out.
        let r = conjuncts_of names m g in
        let rest = (conjuncts_of_all names r.next gs).made_variables in
        all_written_off d (i + atoms g) r.next gs s (written d i m g s w) x (λ h. out (in_right x r.made_variables rest h)) ∙ written_off d i m g s w x (λ h. out (in_left x r.made_variables rest h))

  abbrev mutual
    pub Fits : Choice → (i m : ℕ) → Formula → Assignment → Assignment → Type 0
    Fits d i m (Equal a b) s w = HasValues w m (equation_values s (d i) a b)
    Fits d i m (Call p ts) s w = HasValues w m (all_values_of s (d i) 0 ts)
    Fits d i m (And gs) s w = AllFit d i m gs s w
    Fits d i m (Or gs) s w = Unit {0}
    Fits d i m (If vs c t e) s w = Unit {0}
    Fits d i m (Not g) s w = Unit {0}
    Fits d i m (Exists vs g) s w = Unit {0}

    AllFit : Choice → (i m : ℕ) → Formulas → Assignment → Assignment → Type 0
    AllFit d i m no_formulas s w = Unit {0}
    AllFit d i m (formula_then g gs) s w = Fits d i m g s w × AllFit d (i + atoms g) (conjuncts_of names m g).next gs s w

  mutual
    pub fits_same : (d : Choice) (i m : ℕ) (g : Formula) (s w v : Assignment) → ((x : ℕ) → m ≤ x → x < (conjuncts_of names m g).next → v x ≡ w x) → Fits d i m g s w → Fits d i m g s v
    fits_same d i m (Equal a b) s w v same h = values_same w v m (equation_values s (d i) a b) (λ x l k. same x l (omega (arith, k, (equation_numbered names m s (d i) a b).next))) h
    fits_same d i m (Call p ts) s w v same h = values_same w v m (all_values_of s (d i) 0 ts) (λ x l k. same x l (omega (arith, k, call_next names m s (d i) ts))) h
    fits_same d i m (And gs) s w v same h = all_fit_same d i m gs s w v same h
    fits_same d i m (Or gs) s w v same h = tt
    fits_same d i m (If vs c t e) s w v same h = tt
    fits_same d i m (Not g) s w v same h = tt
    fits_same d i m (Exists vs g) s w v same h = tt

    all_fit_same : (d : Choice) (i m : ℕ) (gs : Formulas) (s w v : Assignment) → ((x : ℕ) → m ≤ x → x < (conjuncts_of_all names m gs).next → v x ≡ w x) → AllFit d i m gs s w → AllFit d i m gs s v
    all_fit_same d i m no_formulas s w v same h = tt
    all_fit_same d i m (formula_then g gs) s w v same h =
        let r = conjuncts_of names m g in (
          fits_same d i m g s w v (λ x l k. same x l (omega (arith, k, goals_next names r.next gs))) h.0,
          all_fit_same d (i + atoms g) r.next gs s w v (λ x l k. same x (omega (arith, l, goal_next names m g)) k) h.1,
        )

  mutual
    pub written_fits : (d : Choice) (i m : ℕ) (g : Formula) (s w : Assignment) → Fits d i m g s (written d i m g s w)
    written_fits d i m (Equal a b) s w = put_at m w (equation_values s (d i) a b)
    written_fits d i m (Call p ts) s w = put_at m w (all_values_of s (d i) 0 ts)
    written_fits d i m (And gs) s w = all_written_fit d i m gs s w
    written_fits d i m (Or gs) s w = tt
    written_fits d i m (If vs c t e) s w = tt
    written_fits d i m (Not g) s w = tt
    written_fits d i m (Exists vs g) s w = tt

    all_written_fit : (d : Choice) (i m : ℕ) (gs : Formulas) (s w : Assignment) → AllFit d i m gs s (all_written d i m gs s w)
    all_written_fit d i m no_formulas s w = tt
    all_written_fit d i m (formula_then g gs) s w =
        let r = conjuncts_of names m g in
        let v = written d i m g s w in
        let k = i + atoms g in (
          fits_same d i m g s v (all_written d k r.next gs s v) (λ x l h. all_written_off d k r.next gs s v x (λ q. omega (arith, h, goals_above names r.next x gs q))) (written_fits d i m g s w),
          all_written_fit d k r.next gs s v,
        )

  abbrev YesOf : Formula → Type 0
  YesOf g = (i m : ℕ) (s w : Assignment) → n ≤ m → Agree s w → AllFlatYes C w (conjuncts_of names m g).goals → (d : Choice) × YesBy C d i g s

  abbrev NoOf : Formula → Type 0
  NoOf g = (d : Choice) (i m : ℕ) (s w : Assignment) → n ≤ m → Agree s w → Fits d i m g s w → OneFlatNo C w (conjuncts_of names m g).goals → NoBy C d i g s

  made_from : (m : ℕ) (g : Formula) → n ≤ m → (x : ℕ) → In x (conjuncts_of names m g).made_variables → n ≤ x
  made_from m g l x h = omega (arith, l, goal_above names m x g h)

  -- a goal that is no part of a conjunction
  alone_yes : (g : Formula) → YesOf g → (m : ℕ) (s w : Assignment) → n ≤ m → Agree s w → FlatYes C (flat_goal names m g) w → ForSome (λ d. YesBy C d 0 g s)
  alone_yes g holds m s w l agree y =
      let r = conjuncts_of names m g in
      let q = around_yes C r.made_variables (conjunction r.goals) w y in
      holds 0 m s q.0 l (agree_made s w q.0 r.made_variables (made_from m g l) q.1 agree) (conjunction_yes C q.0 r.goals q.2)

  alone_no : (g : Formula) → NoOf g → (m : ℕ) (s w : Assignment) → n ≤ m → Agree s w → FlatNo C (flat_goal names m g) w → ForEach (λ d. NoBy C d 0 g s)
  alone_no g fails m s w l agree h d =
      let r = conjuncts_of names m g in
      let v = written d 0 m g s w in
      let off = written_off d 0 m g s w in
      fails d 0 m s v l (agree_made s w v r.made_variables (made_from m g l) off agree) (written_fits d 0 m g s w) (conjunction_no C v r.goals (around_no C r.made_variables (conjunction r.goals) w v off h))

  -- under a quantifier, which takes in the variables that are made for the goal
  under_yes : (vs : List ℕ) (g : Formula) → YesOf g → ((y : ℕ) → In y vs → In y xs) → (m : ℕ) (s w : Assignment) → n ≤ m → Agree s w →
      FlatYes C (F.Exists (map names vs ++ (conjuncts_of names m g).made_variables) (conjunction (conjuncts_of names m g).goals)) w → (u : Assignment) × SameOff vs s u × ForSome (λ d. YesBy C d 0 g u)
  under_yes vs g holds among m s w l agree y =
      let r = conjuncts_of names m g in
      (narrowed vs y.0 s, narrowed_off vs y.0 s, holds 0 m (narrowed vs y.0 s) y.0 l (narrowed_agrees vs r.made_variables s w y.0 among (made_from m g l) y.1 agree) (conjunction_yes C y.0 r.goals y.2))

  under_no : (vs : List ℕ) (g : Formula) → NoOf g → ((y : ℕ) → In y vs → In y xs) → (m : ℕ) (s w : Assignment) → n ≤ m → Agree s w →
      FlatNo C (F.Exists (map names vs ++ (conjuncts_of names m g).made_variables) (conjunction (conjuncts_of names m g).goals)) w → (u : Assignment) → SameOff vs s u → ForEach (λ d. NoBy C d 0 g u)
  under_no vs g fails among m s w l agree h u off d =
      let r = conjuncts_of names m g in
      let v = renamed vs u w in
      let z = written d 0 m g u v in
      let made = written_off d 0 m g u v in
      fails d 0 m u z l (agree_made u v z r.made_variables (made_from m g l) made (renamed_agrees vs s u w among off agree)) (written_fits d 0 m g u v)
      (conjunction_no C z r.goals (h z (λ x out. made x (λ q. out (in_right x (map names vs) r.made_variables q)) ∙ renamed_off vs u w x (λ q. out (in_left x (map names vs) r.made_variables q)))))

  -- with its own variables quantified
  narrow_yes : (vs : List ℕ) (s w v : Assignment) → ((y : ℕ) → In y vs → In y xs) → SameOff (map names vs) w v → Agree s w → Agree (narrowed vs v s) v
  narrow_yes vs s w v among off agree = narrowed_agrees vs [] s w v among (λ x h. absurd h) (λ x out. off x (λ q. out (in_left x (map names vs) [] q))) agree

  mutual
    pub goal_yes : (g : Formula) → Uses xs g → YesOf g
    goal_yes (Equal a b) uses i m s w l agree y = let r = equation_yes C names m s w a b (λ x h. agree x (uses x h)) y in ((λ j. r.0), r.1)
    goal_yes (Call p ts) uses i m s w l agree y = let r = call_yes C names m s w p ts (λ x h. agree x (uses x h)) y in ((λ j. r.0), r.1)
    goal_yes (And gs) uses i m s w l agree y = goals_yes gs uses i m s w l agree y
    goal_yes (Or gs) uses i m s w l agree y = ((λ j. s), one_of_yes gs uses m s w l agree (disjuncts_yes C w (disjuncts_of names m gs).goals y.0))
    goal_yes (If vs c t e) uses i m s w l agree y =
        let rc = conjuncts_of names m c in
        let rt = conjuncts_of names rc.next t in
        let lt : n ≤ rc.next = omega (arith, l, goal_next names m c) in
        let le : n ≤ rt.next = omega (arith, l, goal_next names m c, goal_next names rc.next t) in (
          (λ j. s),
          ⊎_elim
              (λ h.
              let v = h.0 in
              let agree' = narrow_yes vs s w v uses.0 h.1 agree in
              inl (narrowed vs v s, narrowed_off vs v s, alone_yes c (goal_yes c uses.1) m (narrowed vs v s) v l agree' h.2, alone_yes t (goal_yes t uses.2) rc.next (narrowed vs v s) v lt agree' h.3))
              (λ h.
              inr (
                (λ u off. alone_no c (goal_no c uses.1) m u (renamed vs u w) l (renamed_agrees vs s u w uses.0 off agree) (h.0 (renamed vs u w) (renamed_off vs u w))),
                alone_yes e (goal_yes e uses.3) rt.next s w le agree h.1,
              ))
              y.0,
        )
    goal_yes (Not g) uses i m s w l agree y = ((λ j. s), alone_no g (goal_no g uses) m s w l agree y.0)
    goal_yes (Exists vs g) uses i m s w l agree y = ((λ j. s), under_yes vs g (goal_yes g uses.1) uses.0 m s w l agree y.0)

    goals_yes : (gs : Formulas) → AllUse xs gs → (i m : ℕ) (s w : Assignment) → n ≤ m → Agree s w → AllFlatYes C w (conjuncts_of_all names m gs).goals → (d : Choice) × AllYesBy C d i gs s
    goals_yes no_formulas uses i m s w l agree y = ((λ j. s), tt)
    goals_yes (formula_then g gs) uses i m s w l agree y =
        let r = conjuncts_of names m g in
        let k = i + atoms g in
        let z = all_split C w r.goals (conjuncts_of_all names r.next gs).goals y in
        let a = goal_yes g uses.0 i m s w l agree z.0 in
        let b = goals_yes gs uses.1 k r.next s w (omega (arith, l, goal_next names m g)) agree z.1 in
        (joined k a.0 b.0, (yes_same C a.0 (joined k a.0 b.0) i g s (λ j p q. joined_first k a.0 b.0 j q) a.1, all_yes_same C b.0 (joined k a.0 b.0) k gs s (λ j p q. joined_second k a.0 b.0 j p) b.1))

    one_of_yes : (gs : Formulas) → AllUse xs gs → (m : ℕ) (s w : Assignment) → n ≤ m → Agree s w → FlatOneYes C (flats (disjuncts_of names m gs).goals) w → OneYes C gs s
    one_of_yes no_formulas uses m s w l agree y = y
    one_of_yes (formula_then g gs) uses m s w l agree y =
        ⊎_elim (λ h. inl (alone_yes g (goal_yes g uses.0) m s w l agree h)) (λ h. inr (one_of_yes gs uses.1 (conjuncts_of names m g).next s w (omega (arith, l, goal_next names m g)) agree h)) y

    pub goal_no : (g : Formula) → Uses xs g → NoOf g
    goal_no (Equal a b) uses d i m s w l agree fits h = equation_no C names m s w (d i) a b (λ x q. agree x (uses x q)) fits h
    goal_no (Call p ts) uses d i m s w l agree fits h = call_no C names m s w (d i) p ts (λ x q. agree x (uses x q)) fits h
    goal_no (And gs) uses d i m s w l agree fits h = goals_no gs uses d i m s w l agree fits h
    goal_no (Or gs) uses d i m s w l agree fits h = all_of_no gs uses m s w l agree (disjuncts_no C w (disjuncts_of names m gs).goals (only h))
    goal_no (If vs c t e) uses d i m s w l agree fits h =
        let rc = conjuncts_of names m c in
        let rt = conjuncts_of names rc.next t in
        let lt : n ≤ rc.next = omega (arith, l, goal_next names m c) in
        let le : n ≤ rt.next = omega (arith, l, goal_next names m c, goal_next names rc.next t) in
        let f = only h in (
          (λ u off.
              let agree' = renamed_agrees vs s u w uses.0 off agree in
              let v = renamed vs u w in
              ⊎_elim (λ q. inl (alone_no c (goal_no c uses.1) m u v l agree' q)) (λ q. inr (alone_no t (goal_no t uses.2) rc.next u v lt agree' q)) (f.0 v (renamed_off vs u w))),
          ⊎_elim
              (λ q. inl (narrowed vs q.0 s, narrowed_off vs q.0 s, alone_yes c (goal_yes c uses.1) m (narrowed vs q.0 s) q.0 l (narrow_yes vs s w q.0 uses.0 q.1 agree) q.2))
              (λ q. inr (alone_no e (goal_no e uses.3) rt.next s w le agree q)) f.1,
        )
    goal_no (Not g) uses d i m s w l agree fits h = alone_yes g (goal_yes g uses) m s w l agree (only h)
    goal_no (Exists vs g) uses d i m s w l agree fits h = under_no vs g (goal_no g uses.1) uses.0 m s w l agree (only h)

    goals_no : (gs : Formulas) → AllUse xs gs → (d : Choice) (i m : ℕ) (s w : Assignment) → n ≤ m → Agree s w → AllFit d i m gs s w → OneFlatNo C w (conjuncts_of_all names m gs).goals → OneNoBy C d i gs s
    goals_no no_formulas uses d i m s w l agree fits h = h
    goals_no (formula_then g gs) uses d i m s w l agree fits h =
        let r = conjuncts_of names m g in
        ⊎_elim (λ q. inl (goal_no g uses.0 d i m s w l agree fits.0 q)) (λ q. inr (goals_no gs uses.1 d (i + atoms g) r.next s w (omega (arith, l, goal_next names m g)) agree fits.1 q))
        (one_split C w r.goals (conjuncts_of_all names r.next gs).goals h)

    all_of_no : (gs : Formulas) → AllUse xs gs → (m : ℕ) (s w : Assignment) → n ≤ m → Agree s w → FlatAllNo C (flats (disjuncts_of names m gs).goals) w → AllNo C gs s
    all_of_no no_formulas uses m s w l agree h = tt
    all_of_no (formula_then g gs) uses m s w l agree h =
        (alone_no g (goal_no g uses.0) m s w l agree h.0, all_of_no gs uses.1 (conjuncts_of names m g).next s w (omega (arith, l, goal_next names m g)) agree h.1)

pub flat_goals_carry : FlatGoalsCarry
flat_goals_carry P m names xs n g numbers uses u =
    let C = stage P m in
    let agree : (x : ℕ) → In x xs → u (names x) ≡ u (names x) = (λ x i. refl) in
    record {
      yes = λ y. alone_yes C names xs n numbers g (goal_yes C names xs n numbers g uses) n (λ x. u (names x)) u (omega arith) agree y;
      no = λ h. alone_no C names xs n numbers g (goal_no C names xs n numbers g uses) n (λ x. u (names x)) u (omega arith) agree h;
    }

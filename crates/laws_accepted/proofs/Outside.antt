-- Lists of the same variables, and those of a builtin with fresh variables and their tests.
use Rattle.std.proofs.Common.{◌≡◌, ◌⊎◌, inl, inr, ℕ, suc, List, [], ◌∷◌, ◌++◌, length, Bool, true, false, cond, not, ◌&&◌, refl, sym, ap, ◌∙◌, subst, ⊎_elim}
use Rattle.mc_program.specs.Programs.{TypeTerm}
use Rattle.mc_model.specs.Outcomes.{inputs_of}
use Rattle.mc_model.specs.Lists.{In, Among, is_in}
use Rattle.mc_model.specs.Stream.{is_bound}
use Rattle.mc_model.specs.Good.{System}
use Rattle.mc_accepted.specs.Ordered.{Insts, Mode, modes_of, Freshened, FreshenedHere, at_inputs, at_outputs, binds_one, UsableAt, Usable}
use Rattle.mc_program.specs.declared.builtin.Builtin.{Builtin}
use Rattle.laws_language.proofs.BuiltinModes.{modes_length}
use Rattle.laws_language.proofs.FlatGoals.{in_either, in_left, in_right}
use Rattle.laws_sound.proofs.Combine.{among_both}

abbrev pub Same : List ℕ → List ℕ → Type 0
Same xs ys = Among xs ys × Among ys xs

pub same_self : (xs : List ℕ) → Same xs xs
same_self xs = ((λ x i. i), (λ x i. i))

pub same_onto : (xs ys zs : List ℕ) → Same xs ys → Same ys zs → Same xs zs
same_onto xs ys zs p q = ((λ x i. q.0 x (p.0 x i)), (λ x i. p.1 x (q.1 x i)))

pub same_append : (xs ys zs : List ℕ) → Same xs ys → Same (xs ++ zs) (ys ++ zs)
same_append xs ys zs p = (among_both xs ys zs p.0, among_both ys xs zs p.1)

among_behind : (zs xs ys : List ℕ) → Among xs ys → Among (zs ++ xs) (zs ++ ys)
among_behind zs xs ys p x i = ⊎_elim (λ j. in_left x zs ys j) (λ j. in_right x zs ys (p x j)) (in_either x zs xs i)

-- ---- whether a goal binds one of them
abbrev is_new : Insts → Insts → ℕ → Bool
is_new b c x = not (is_bound (b x)) && is_bound (c x)

one_binds : (xs : List ℕ) (b c : Insts) (x : ℕ) → In x xs → is_new b c x ≡ true → binds_one xs b c ≡ true
one_binds [] b c x i e = absurd i
one_binds (y ∷ ys) b c x i e = ⊎_elim (λ q. here (is_new b c y) (subst (λ z. is_new b c z ≡ true) q e)) (λ j. there (is_new b c y) (one_binds ys b c x j e)) i
  where
    here : (t : Bool) → t ≡ true → cond t true (binds_one ys b c) ≡ true
    here true q = refl
    here false q = cc

    there : (t : Bool) → binds_one ys b c ≡ true → cond t true (binds_one ys b c) ≡ true
    there true q = refl
    there false q = q

more_bind : (xs ys : List ℕ) (b c : Insts) → Among xs ys → binds_one xs b c ≡ true → binds_one ys b c ≡ true
more_bind [] ys b c p e = cc
more_bind (x ∷ xs) ys b c p e = at (is_new b c x) refl e (λ q. more_bind xs ys b c (λ z i. p z (inr i)) q)
  where
    at : (t : Bool) → is_new b c x ≡ t → cond t true (binds_one xs b c) ≡ true → (binds_one xs b c ≡ true → binds_one ys b c ≡ true) → binds_one ys b c ≡ true
    at true q e later = one_binds ys b c x (p x (inl refl)) q
    at false q e later = later e

pub same_binds : (xs ys : List ℕ) (b c : Insts) → Same xs ys → binds_one xs b c ≡ binds_one ys b c
same_binds xs ys b c p = at (binds_one xs b c) (binds_one ys b c) (more_bind xs ys b c p.0) (more_bind ys xs b c p.1)
  where
    at : (t u : Bool) → (t ≡ true → u ≡ true) → (u ≡ true → t ≡ true) → t ≡ u
    at true u f g = sym (f refl)
    at false true f g = g refl
    at false false f g = refl

pub binds_nothing : (xs : List ℕ) (c : Insts) → binds_one xs c c ≡ false
binds_nothing [] c = refl
binds_nothing (x ∷ xs) c = at (is_bound (c x)) (binds_nothing xs c)
  where
    at : (t : Bool) → binds_one xs c c ≡ false → cond (not t && t) true (binds_one xs c c) ≡ false
    at true e = e
    at false e = e

-- ---- fresh variables and their tests
abbrev pub pairs : List (ℕ × ℕ) → List ℕ
pairs [] = []
pairs (t ∷ ts) = t.0 ∷ t.1 ∷ pairs ts

module _ (w : ℕ) where
  argument_stands : (k : ℕ) (is xs zs : List ℕ) (ts : List (ℕ × ℕ)) → Freshened k is xs zs ts → In w xs → In w zs ⊎ In w (pairs ts)
  argument_stands k is [] zs ts h i = absurd i
  argument_stands k is (x ∷ xs) [] ts h i = absurd h
  argument_stands k is (x ∷ xs) (z ∷ zs) ts h i = at (is_in k is) ts h (λ us g j. argument_stands (suc k) is xs zs us g j) i
    where
      at : (t : Bool) (us : List (ℕ × ℕ)) → FreshenedHere t x z us (Freshened (suc k) is xs zs) → ((us : List (ℕ × ℕ)) → Freshened (suc k) is xs zs us → In w xs → In w zs ⊎ In w (pairs us)) → (w ≡ x) ⊎ In w xs → ((w ≡ z) ⊎ In w zs) ⊎ In w (pairs us)
      at false us h again (inl e) = inl (inl (e ∙ sym h.0))
      at false us h again (inr j) = ⊎_elim (λ a. inl (inr a)) (λ a. inr a) (again us h.1 j)
      at true [] h again i = absurd h
      at true (t ∷ us) h again (inl e) = inr (inr (inl (e ∙ sym (ap (λ (q : ℕ × ℕ). q.1) h.0))))
      at true (t ∷ us) h again (inr j) = ⊎_elim (λ a. inl (inr a)) (λ a. inr (inr (inr a))) (again us h.1 j)

  tested_stands : (k : ℕ) (is xs zs : List ℕ) (ts : List (ℕ × ℕ)) → Freshened k is xs zs ts → In w (pairs ts) → In w xs ⊎ In w zs
  tested_stands k is [] [] ts h i = absurd (subst (λ us. In w (pairs us)) h i)
  tested_stands k is [] (z ∷ zs) ts h i = absurd h
  tested_stands k is (x ∷ xs) [] ts h i = absurd h
  tested_stands k is (x ∷ xs) (z ∷ zs) ts h i = at (is_in k is) ts h (λ us g j. tested_stands (suc k) is xs zs us g j) i
    where
      at : (t : Bool) (us : List (ℕ × ℕ)) → FreshenedHere t x z us (Freshened (suc k) is xs zs) → ((us : List (ℕ × ℕ)) → Freshened (suc k) is xs zs us → In w (pairs us) → In w xs ⊎ In w zs) → In w (pairs us) → ((w ≡ x) ⊎ In w xs) ⊎ ((w ≡ z) ⊎ In w zs)
      at false us h again i = ⊎_elim (λ a. inl (inr a)) (λ a. inr (inr a)) (again us h.1 i)
      at true [] h again i = absurd h
      at true (t ∷ us) h again (inl e) = inr (inl (e ∙ ap (λ (q : ℕ × ℕ). q.0) h.0))
      at true (t ∷ us) h again (inr (inl e)) = inl (inl (e ∙ ap (λ (q : ℕ × ℕ). q.1) h.0))
      at true (t ∷ us) h again (inr (inr j)) = ⊎_elim (λ a. inl (inr a)) (λ a. inr (inr a)) (again us h.1 j)

  -- the inputs and outputs are the arguments
  pub place_stands : (bs : List Bool) (zs : List ℕ) → length bs ≡ length zs → In w zs → In w (at_inputs bs zs) ⊎ In w (at_outputs bs zs)
  place_stands bs [] e i = absurd i
  place_stands [] (z ∷ zs) e i = cc
  place_stands (b ∷ bs) (z ∷ zs) e i = at b i (λ j. place_stands bs zs (let q : suc (length bs) ≡ suc (length zs) = e in cc) j)
    where
      at : (t : Bool) → (w ≡ z) ⊎ In w zs → (In w zs → In w (at_inputs bs zs) ⊎ In w (at_outputs bs zs)) → In w (cond t (z ∷ at_inputs bs zs) (at_inputs bs zs)) ⊎ In w (cond t (at_outputs bs zs) (z ∷ at_outputs bs zs))
      at true (inl e) again = inl (inl e)
      at true (inr j) again = ⊎_elim (λ a. inl (inr a)) (λ a. inr a) (again j)
      at false (inl e) again = inr (inl e)
      at false (inr j) again = ⊎_elim (λ a. inl a) (λ a. inr (inr a)) (again j)

  input_stands : (bs : List Bool) (zs : List ℕ) → In w (at_inputs bs zs) → In w zs
  input_stands [] zs i = absurd i
  input_stands (b ∷ bs) [] i = absurd i
  input_stands (b ∷ bs) (z ∷ zs) i = at b i (λ j. input_stands bs zs j)
    where
      at : (t : Bool) → In w (cond t (z ∷ at_inputs bs zs) (at_inputs bs zs)) → (In w (at_inputs bs zs) → In w zs) → (w ≡ z) ⊎ In w zs
      at true i again = ⊎_elim (λ e. inl e) (λ j. inr (again j)) i
      at false i again = inr (again i)

  output_stands : (bs : List Bool) (zs : List ℕ) → In w (at_outputs bs zs) → In w zs
  output_stands [] zs i = absurd i
  output_stands (b ∷ bs) [] i = absurd i
  output_stands (b ∷ bs) (z ∷ zs) i = at b i (λ j. output_stands bs zs j)
    where
      at : (t : Bool) → In w (cond t (at_outputs bs zs) (z ∷ at_outputs bs zs)) → (In w (at_outputs bs zs) → In w zs) → (w ≡ z) ⊎ In w zs
      at true i again = inr (again i)
      at false i again = ⊎_elim (λ e. inl e) (λ j. inr (again j)) i

module _ (S : System) (T : ℕ → TypeTerm) where
  pub usable_length : (all : List ℕ) (ms : List Mode) (xs : List ℕ) (b : Insts) → UsableAt S T all ms xs b → length ms ≡ length xs
  usable_length all [] [] b u = refl
  usable_length all [] (x ∷ xs) b u = absurd u
  usable_length all (m ∷ ms) [] b u = absurd u
  usable_length all (m ∷ ms) (x ∷ xs) b u = ap suc (usable_length all ms xs b u.1)

  -- a builtin's arguments, with those that stand for them, are its places with their tests
  pub fresh_same : (us : List ℕ) (op : Builtin) (xs zs : List ℕ) (ts : List (ℕ × ℕ)) (k : ℕ) (is : List ℕ) → Freshened k is xs zs ts → (b : Insts) → Usable S T (modes_of op) zs b → Same (us ++ (xs ++ zs)) (us ++ ((at_inputs (inputs_of op) zs ++ at_outputs (inputs_of op) zs) ++ pairs ts))
  fresh_same us op xs zs ts k is f b u = (among_behind us (xs ++ zs) (args ++ pairs ts) to, among_behind us (args ++ pairs ts) (xs ++ zs) from)
    where
      args : List ℕ
      args = at_inputs (inputs_of op) zs ++ at_outputs (inputs_of op) zs

      placed : (w : ℕ) → In w zs → In w args
      placed w i = ⊎_elim (λ j. in_left w (at_inputs (inputs_of op) zs) (at_outputs (inputs_of op) zs) j) (λ j. in_right w (at_inputs (inputs_of op) zs) (at_outputs (inputs_of op) zs) j)
          (place_stands w (inputs_of op) zs (modes_length op ∙ usable_length zs (modes_of op) zs b u) i)

      to : Among (xs ++ zs) (args ++ pairs ts)
      to w i = ⊎_elim (λ j. ⊎_elim (λ a. in_left w args (pairs ts) (placed w a)) (λ a. in_right w args (pairs ts) a) (argument_stands w k is xs zs ts f j)) (λ j. in_left w args (pairs ts) (placed w j)) (in_either w xs zs i)

      from : Among (args ++ pairs ts) (xs ++ zs)
      from w i = ⊎_elim
          (λ j. in_right w xs zs (⊎_elim (λ a. input_stands w (inputs_of op) zs a) (λ a. output_stands w (inputs_of op) zs a) (in_either w (at_inputs (inputs_of op) zs) (at_outputs (inputs_of op) zs) j)))
          (λ j. ⊎_elim (λ a. in_left w xs zs a) (λ a. in_right w xs zs a) (tested_stands w k is xs zs ts f j)) (in_either w args (pairs ts) i)

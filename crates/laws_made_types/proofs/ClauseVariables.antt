-- The numbers of a clause's variables in its normal goal.
use Rattle.std.proofs.Common.{◌≡◌, ◌⊎◌, inl, inr, ℕ, zero, suc, ◌+◌, List, [], ◌∷◌, ◌++◌, Bool, true, false, cond, nat_eq, Option, Some, None, refl, sym, ap, ◌∙◌, subst, ⊎_elim}
use Rattle.std.proofs.lemmas.Bool.{eqb-true, eqb-false}
use Rattle.std.proofs.lemmas.Option.{none-some, same_Some}
use Rattle.mc_program.specs.Programs.{Expression, variable, constant, made, applied, expressions, ClauseForm}
use Rattle.mc_model.specs.Lists.{In, is_in, without, once, place_in}
use Rattle.mc_accepted.specs.Scope.{occurring, variables_in_all}
use Rattle.mc_accepted.specs.Normal.{the_variable, name_term, one_more, head_place, has_place, no_arguments, named_by_quantifiers, other_variables, place_or, names_in, is_place}

pub in_left : (x : ℕ) (xs ys : List ℕ) → In x xs → In x (xs ++ ys)
in_left x [] ys h = absurd h
in_left x (y ∷ xs) ys h = ⊎_elim (λ e. inl e) (λ i. inr (in_left x xs ys i)) h

pub in_right : (x : ℕ) (xs ys : List ℕ) → In x ys → In x (xs ++ ys)
in_right x [] ys h = h
in_right x (y ∷ xs) ys h = inr (in_right x xs ys h)

-- whether a number is in a list
is_in_true : (x : ℕ) (xs : List ℕ) → is_in x xs ≡ true → In x xs
is_in_true x [] e = cc
is_in_true x (y ∷ ys) e = by_test (nat_eq x y) refl e (is_in_true x ys)
  where
    by_test : (t : Bool) → nat_eq x y ≡ t → cond t true (is_in x ys) ≡ true → (is_in x ys ≡ true → In x ys) → In x (y ∷ ys)
    by_test true q h rest = inl (eqb-true x y q)
    by_test false q h rest = inr (rest h)

-- a term becomes one variable
pub one_variable : (names : ℕ → ℕ) (m : ℕ) (t : Expression) → (name_term names m t).variables ≡ the_variable (name_term names m t) ∷ []
one_variable names m (variable x) = refl
one_variable names m (constant v) = refl
one_variable names m (made f ts) = refl
one_variable names m (applied p ts) = refl

-- the variables of a clause: those of the head, of the body, and those that only a quantifier names
abbrev pub clause_variables : ClauseForm → List ℕ
clause_variables c = variables_in_all (expressions c.head) ++ (occurring c.body ++ named_by_quantifiers c.body)

-- that argument is that variable
abbrev pub IsArgument : ℕ → ℕ → List Expression → Type 0
IsArgument x i [] = ⊥
IsArgument x zero (t ∷ ts) = t ≡ variable x
IsArgument x (suc i) (t ∷ ts) = IsArgument x i ts

one_more_some : (o : Option ℕ) (i : ℕ) → one_more o ≡ Some i → (k : ℕ) × (o ≡ Some k) × (i ≡ suc k)
one_more_some None i e = absurd (none-some i e)
one_more_some (Some k) i e = (k, refl, sym (same_Some (suc k) i e))

-- the place of a variable among the head's arguments
later : (x : ℕ) (t : Expression) (ts : List Expression) (i : ℕ) → ((k : ℕ) → head_place x ts ≡ Some k → IsArgument x k ts) → one_more (head_place x ts) ≡ Some i → IsArgument x i (t ∷ ts)
later x t ts i rest e = let r = one_more_some (head_place x ts) i e in subst (λ k. IsArgument x k (t ∷ ts)) (sym r.2) (rest r.0 r.1)

-- a variable that is met inside an argument has no place
unless_met : (x : ℕ) (t : Expression) (ts : List Expression) (i : ℕ) (met : Bool) → ((k : ℕ) → head_place x ts ≡ Some k → IsArgument x k ts) → cond met None (one_more (head_place x ts)) ≡ Some i → IsArgument x i (t ∷ ts)
unless_met x t ts i true rest e = absurd (none-some i e)
unless_met x t ts i false rest e = later x t ts i rest e

pub is_argument : (x : ℕ) (ts : List Expression) (i : ℕ) → head_place x ts ≡ Some i → IsArgument x i ts
is_argument x [] i e = absurd (none-some i e)
is_argument x (variable y ∷ ts) i e = by_test (nat_eq x y) (eqb-true x y) e (λ q. later x (variable y) ts i (λ k h. is_argument x ts k h) q)
  where
    by_test : (t : Bool) → (t ≡ true → x ≡ y) → cond t (Some 0) (one_more (head_place x ts)) ≡ Some i → (one_more (head_place x ts) ≡ Some i → IsArgument x i (variable y ∷ ts)) → IsArgument x i (variable y ∷ ts)
    by_test true q e rest = subst (λ k. IsArgument x k (variable y ∷ ts)) (same_Some 0 i e) (ap variable (sym (q refl)))
    by_test false q e rest = rest e
is_argument x (constant v ∷ ts) i e = later x (constant v) ts i (λ k h. is_argument x ts k h) e
is_argument x (made f us ∷ ts) i e = unless_met x (made f us) ts i (is_in x (variables_in_all us)) (λ k h. is_argument x ts k h) e
is_argument x (applied p us ∷ ts) i e = unless_met x (applied p us) ts i (is_in x (variables_in_all us)) (λ k h. is_argument x ts k h) e

placed : (o : Option ℕ) → ((i : ℕ) × (o ≡ Some i)) ⊎ (o ≡ None)
placed None = inr refl
placed (Some i) = inl (i, refl)

-- a variable that is no head argument is one of the others
in_without : (x : ℕ) (xs vs : List ℕ) → In x xs → (In x vs → ⊥) → In x (without xs vs)
in_without x [] vs h out = absurd h
in_without x (y ∷ ys) vs h out = by_test (is_in y vs) (is_in_true y vs) (λ i. in_without x ys vs i out)
  where
    by_test : (t : Bool) → (t ≡ true → In y vs) → (In x ys → In x (without ys vs)) → In x (cond t (without ys vs) (y ∷ without ys vs))
    by_test true q rest = ⊎_elim (λ e. absurd (out (subst (λ z. In z vs) (sym e) (q refl)))) (λ i. rest i) h
    by_test false q rest = ⊎_elim (λ e. inl e) (λ i. inr (rest i)) h

in_once : (x : ℕ) (xs : List ℕ) → In x xs → In x (once xs)
in_once x [] h = absurd h
in_once x (y ∷ ys) h = by_test (nat_eq x y) (eqb-true x y) (eqb-false x y) (λ i. in_once x ys i)
  where
    by_test : (t : Bool) → (t ≡ true → x ≡ y) → (t ≡ false → x ≡ y → ⊥) → (In x ys → In x (once ys)) → In x (y ∷ without (once ys) (y ∷ []))
    by_test true p q rest = inl (p refl)
    by_test false p q rest = ⊎_elim (λ e. inl e) (λ i. inr (in_without x (once ys) (y ∷ []) (rest i) (λ j. ⊎_elim (λ e. q refl e) (λ a. a) j))) h

is_no_argument : (head : List Expression) (x : ℕ) (xs : List ℕ) → head_place x head ≡ None → In x xs → In x (no_arguments head xs)
is_no_argument head x [] none h = absurd h
is_no_argument head x (y ∷ ys) none h = by_test (has_place (head_place y head)) (λ e. ap (λ z. has_place (head_place z head)) (sym e) ∙ ap has_place none) (λ i. is_no_argument head x ys none i)
  where
    by_test : (t : Bool) → (x ≡ y → t ≡ false) → (In x ys → In x (no_arguments head ys)) → In x (cond t (no_arguments head ys) (y ∷ no_arguments head ys))
    by_test true q rest = ⊎_elim (λ e. let f : true ≡ false = q e in cc) (λ i. rest i) h
    by_test false q rest = ⊎_elim (λ e. inl e) (λ i. inr (rest i)) h

-- how a variable gets its number: as a head argument, or as one of the others
abbrev pub HasNumber : ℕ → ClauseForm → ℕ → Type 0
HasNumber n c x = ((i : ℕ) × IsArgument x i c.head × (names_in n c x ≡ i)) ⊎ (In x (other_variables c) × (names_in n c x ≡ n + place_in x (other_variables c)))

pub has_number : (n : ℕ) (c : ClauseForm) (x : ℕ) → In x (clause_variables c) → HasNumber n c x
has_number n c x h =
    ⊎_elim (λ r. inl (r.0, is_argument x c.head r.0 r.1, ap (place_or (n + place_in x (other_variables c))) r.1))
    (λ none. inr (is_no_argument c.head x (once (clause_variables c)) none (in_once x (clause_variables c) h), ap (place_or (n + place_in x (other_variables c))) none)) (placed (head_place x c.head))

-- one of the others has the number of its place behind the head's
pub placed_other : (n : ℕ) (c : ClauseForm) (x : ℕ) → In x (other_variables c) → names_in n c x ≡ n + place_in x (other_variables c)
placed_other n c x h = by_place (head_place x c.head) (no_place c.head x (once (clause_variables c)) h)
  where
    no_place : (head : List Expression) (y : ℕ) (xs : List ℕ) → In y (no_arguments head xs) → has_place (head_place y head) ≡ false
    no_place head y [] i = absurd i
    no_place head y (z ∷ zs) i = by_test (has_place (head_place z head)) refl i (λ j. no_place head y zs j)
      where
        by_test : (t : Bool) → has_place (head_place z head) ≡ t → In y (cond t (no_arguments head zs) (z ∷ no_arguments head zs)) → (In y (no_arguments head zs) → has_place (head_place y head) ≡ false) → has_place (head_place y head) ≡ false
        by_test true q j rest = rest j
        by_test false q j rest = ⊎_elim (λ e. ap (λ w. has_place (head_place w head)) e ∙ q) (λ k. rest k) j

    by_place : (o : Option ℕ) → has_place o ≡ false → place_or (n + place_in x (other_variables c)) o ≡ n + place_in x (other_variables c)
    by_place None e = refl
    by_place (Some i) e = let f : true ≡ false = e in cc

-- the number of a head argument
pub place_number : (n : ℕ) (c : ClauseForm) (x i : ℕ) → is_place i (head_place x c.head) ≡ true → names_in n c x ≡ i
place_number n c x i e = by_place (head_place x c.head) e
  where
    by_place : (o : Option ℕ) → is_place i o ≡ true → place_or (n + place_in x (other_variables c)) o ≡ i
    by_place None e = cc
    by_place (Some k) e = sym (eqb-true i k e)

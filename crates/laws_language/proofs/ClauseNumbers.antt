-- The numbers of a clause's variables: different variables have different ones.
use Rattle.std.proofs.Common.{◌≡◌, ◌⊎◌, inl, inr, ℕ, zero, suc, ◌+◌, ◌<◌, ◌≤◌, List, [], ◌∷◌, ◌++◌, length, Bool, true, false, cond, nat_eq, Option, Some, None, refl, sym, ap, ◌∙◌, subst, arith, ⊎_elim}
use Rattle.std.proofs.lemmas.Bool.{eqb-true, eqb-false}
use Rattle.std.proofs.lemmas.Option.{none-some, same_Some}
use Rattle.mc_program.specs.Programs.{Expression, variable, constant, made, applied, expressions, Formula, Equal, Call, And, Or, If, Not, Exists, Formulas, no_formulas, formula_then, ClauseForm}
use Rattle.mc_model.specs.Lists.{In, is_in, without, Among, once, place_in}
use Rattle.mc_accepted.specs.Scope.{occurring, occurring_all, variables_in_all}
use Rattle.mc_accepted.specs.Normal.{one_more, head_place, has_place, no_arguments, named_by_quantifiers, named_by_quantifiers_of_all, other_variables, place_or, names_in, is_place}
use Rattle.laws_language.specs.FlatLaws.{Uses, AllUse, Numbers}
use Rattle.laws_language.proofs.FlatGoals.{in_left, in_right}
use Rattle.laws_language.proofs.FlatWhole.{is_in_true}

-- the variables of a clause: those of the head, of the body, and those that only a quantifier names
abbrev pub clause_variables : ClauseForm → List ℕ
clause_variables c = variables_in_all (expressions c.head) ++ (occurring c.body ++ named_by_quantifiers c.body)

-- that argument is that variable
abbrev pub IsArgument : ℕ → ℕ → List Expression → Type 0
IsArgument x i [] = ⊥
IsArgument x zero (t ∷ ts) = t ≡ variable x
IsArgument x (suc i) (t ∷ ts) = IsArgument x i ts

argument_below : (x i : ℕ) (ts : List Expression) → IsArgument x i ts → i < length ts
argument_below x i [] h = absurd h
argument_below x zero (t ∷ ts) h = omega arith
argument_below x (suc i) (t ∷ ts) h = omega (arith, argument_below x i ts h)

-- the variable that a term is, or 0
abbrev variable_of : Expression → ℕ
variable_of (variable x) = x
variable_of (constant v) = 0
variable_of (made f ts) = 0
variable_of (applied p ts) = 0

one_argument : (x y i : ℕ) (ts : List Expression) → IsArgument x i ts → IsArgument y i ts → x ≡ y
one_argument x y i [] h k = absurd h
one_argument x y zero (t ∷ ts) h k = ap variable_of (sym h ∙ k)
one_argument x y (suc i) (t ∷ ts) h k = one_argument x y i ts h k

one_more_some : (o : Option ℕ) (i : ℕ) → one_more o ≡ Some i → (k : ℕ) × (o ≡ Some k) × (i ≡ suc k)
one_more_some None i e = absurd (none-some i e)
one_more_some (Some k) i e = (k, refl, sym (same_Some (suc k) i e))

-- the place of a variable among the head's arguments
later : (x : ℕ) (t : Expression) (ts : List Expression) (i : ℕ) → ((k : ℕ) → head_place x ts ≡ Some k → IsArgument x k ts) → one_more (head_place x ts) ≡ Some i → IsArgument x i (t ∷ ts)
later x t ts i rest e = let r = one_more_some (head_place x ts) i e in subst (λ k. IsArgument x k (t ∷ ts)) (sym r.2) (rest r.0 r.1)

-- a variable that is met inside an argument has no place
unless_met : (x : ℕ) (t : Expression) (ts : List Expression) (i : ℕ) (met : Bool) → ((k : ℕ) → head_place x ts ≡ Some k → IsArgument x k ts) → cond met None (one_more (head_place x ts)) ≡ Some i → IsArgument x i (t ∷ ts)
unless_met x t ts i true rest e = absurd (none-some i e)
unless_met x t ts i false rest e = later x t ts i rest e

pub is_argument : (x : ℕ) (ts : List Expression) (i : ℕ) → head_place x ts ≡ Some i → IsArgument x i ts
is_argument x [] i e = absurd (none-some i e)
is_argument x (variable y ∷ ts) i e = by_test (nat_eq x y) (eqb-true x y) e (λ q. later x (variable y) ts i (λ k h. is_argument x ts k h) q)
  where
    by_test : (t : Bool) → (t ≡ true → x ≡ y) → cond t (Some 0) (one_more (head_place x ts)) ≡ Some i → (one_more (head_place x ts) ≡ Some i → IsArgument x i (variable y ∷ ts)) → IsArgument x i (variable y ∷ ts)
    by_test true q e rest = subst (λ k. IsArgument x k (variable y ∷ ts)) (same_Some 0 i e) (ap variable (sym (q refl)))
    by_test false q e rest = rest e
is_argument x (constant v ∷ ts) i e = later x (constant v) ts i (λ k h. is_argument x ts k h) e
is_argument x (made f us ∷ ts) i e = unless_met x (made f us) ts i (is_in x (variables_in_all us)) (λ k h. is_argument x ts k h) e
is_argument x (applied p us ∷ ts) i e = unless_met x (applied p us) ts i (is_in x (variables_in_all us)) (λ k h. is_argument x ts k h) e

placed : (o : Option ℕ) → ((i : ℕ) × (o ≡ Some i)) ⊎ (o ≡ None)
placed None = inr refl
placed (Some i) = inl (i, refl)

-- a place in a list
place_below : (x : ℕ) (xs : List ℕ) → In x xs → place_in x xs < length xs
place_below x [] h = absurd h
place_below x (y ∷ ys) h = by_test (nat_eq x y) (eqb-false x y) (λ i. place_below x ys i)
  where
    by_test : (t : Bool) → (t ≡ false → x ≡ y → ⊥) → (In x ys → place_in x ys < length ys) → cond t 0 (suc (place_in x ys)) < length (y ∷ ys)
    by_test true q rest = omega arith
    by_test false q rest = ⊎_elim (λ e. absurd (q refl e)) (λ i. omega (arith, rest i)) h

place_apart : (x z : ℕ) (xs : List ℕ) → In x xs → In z xs → place_in x xs ≡ place_in z xs → x ≡ z
place_apart x z [] h k e = absurd h
place_apart x z (y ∷ ys) h k e = by_tests (nat_eq x y) (nat_eq z y) (eqb-true x y) (eqb-true z y) (eqb-false x y) (eqb-false z y) e (λ i j q. place_apart x z ys i j q)
  where
    by_tests : (s t : Bool) → (s ≡ true → x ≡ y) → (t ≡ true → z ≡ y) → (s ≡ false → x ≡ y → ⊥) → (t ≡ false → z ≡ y → ⊥) → cond s 0 (suc (place_in x ys)) ≡ cond t 0 (suc (place_in z ys)) →
        (In x ys → In z ys → place_in x ys ≡ place_in z ys → x ≡ z) → x ≡ z
    by_tests true true p q a b e rest = p refl ∙ sym (q refl)
    by_tests true false p q a b e rest = absurd (omega (arith, e))
    by_tests false true p q a b e rest = absurd (omega (arith, e))
    by_tests false false p q a b e rest = ⊎_elim (λ i. absurd (a refl i)) (λ i. ⊎_elim (λ j. absurd (b refl j)) (λ j. rest i j (omega (arith, e))) k) h

-- a variable that is no head argument is one of the others
pub in_without : (x : ℕ) (xs vs : List ℕ) → In x xs → (In x vs → ⊥) → In x (without xs vs)
in_without x [] vs h out = absurd h
in_without x (y ∷ ys) vs h out = by_test (is_in y vs) (is_in_true y vs) (λ i. in_without x ys vs i out)
  where
    by_test : (t : Bool) → (t ≡ true → In y vs) → (In x ys → In x (without ys vs)) → In x (cond t (without ys vs) (y ∷ without ys vs))
    by_test true q rest = ⊎_elim (λ e. absurd (out (subst (λ z. In z vs) (sym e) (q refl)))) (λ i. rest i) h
    by_test false q rest = ⊎_elim (λ e. inl e) (λ i. inr (rest i)) h

pub in_once : (x : ℕ) (xs : List ℕ) → In x xs → In x (once xs)
in_once x [] h = absurd h
in_once x (y ∷ ys) h = by_test (nat_eq x y) (eqb-true x y) (eqb-false x y) (λ i. in_once x ys i)
  where
    by_test : (t : Bool) → (t ≡ true → x ≡ y) → (t ≡ false → x ≡ y → ⊥) → (In x ys → In x (once ys)) → In x (y ∷ without (once ys) (y ∷ []))
    by_test true p q rest = inl (p refl)
    by_test false p q rest = ⊎_elim (λ e. inl e) (λ i. inr (in_without x (once ys) (y ∷ []) (rest i) (λ j. ⊎_elim (λ e. q refl e) (λ a. a) j))) h

is_no_argument : (head : List Expression) (x : ℕ) (xs : List ℕ) → head_place x head ≡ None → In x xs → In x (no_arguments head xs)
is_no_argument head x [] none h = absurd h
is_no_argument head x (y ∷ ys) none h = by_test (has_place (head_place y head)) (λ e. ap (λ z. has_place (head_place z head)) (sym e) ∙ ap has_place none) (λ i. is_no_argument head x ys none i)
  where
    by_test : (t : Bool) → (x ≡ y → t ≡ false) → (In x ys → In x (no_arguments head ys)) → In x (cond t (no_arguments head ys) (y ∷ no_arguments head ys))
    by_test true q rest = ⊎_elim (λ e. let f : true ≡ false = q e in cc) (λ i. rest i) h
    by_test false q rest = ⊎_elim (λ e. inl e) (λ i. inr (rest i)) h

-- how a variable gets its number: as a head argument, or as one of the others
abbrev pub HasNumber : ℕ → ClauseForm → ℕ → Type 0
HasNumber n c x = ((i : ℕ) × IsArgument x i c.head × (names_in n c x ≡ i)) ⊎ (In x (other_variables c) × (names_in n c x ≡ n + place_in x (other_variables c)))

pub has_number : (n : ℕ) (c : ClauseForm) (x : ℕ) → In x (clause_variables c) → HasNumber n c x
has_number n c x h =
    ⊎_elim (λ r. inl (r.0, is_argument x c.head r.0 r.1, ap (place_or (n + place_in x (other_variables c))) r.1))
    (λ none. inr (is_no_argument c.head x (once (clause_variables c)) none (in_once x (clause_variables c) h), ap (place_or (n + place_in x (other_variables c))) none)) (placed (head_place x c.head))

pub number_below : (n : ℕ) (c : ClauseForm) (x : ℕ) → length c.head ≤ n → HasNumber n c x → names_in n c x < n + length (other_variables c)
number_below n c x l h =
    ⊎_elim (λ a. omega (arith, l, a.2, argument_below x a.0 c.head a.1)) (λ b. omega (arith, b.1, place_below x (other_variables c) b.0)) h

numbers_apart : (n : ℕ) (c : ClauseForm) (x y : ℕ) → length c.head ≤ n → HasNumber n c x → HasNumber n c y → names_in n c x ≡ names_in n c y → x ≡ y
numbers_apart n c x y l h k e =
    let others = other_variables c in
    ⊎_elim
    (λ a.
    ⊎_elim (λ b. one_argument x y a.0 c.head a.1 (subst (λ i. IsArgument y i c.head) (sym b.2 ∙ sym e ∙ a.2) b.1))
    (λ b. absurd (omega (arith, l, e, a.2, b.1, argument_below x a.0 c.head a.1))) k)
    (λ a. ⊎_elim (λ b. absurd (omega (arith, l, e, a.1, b.2, argument_below y b.0 c.head b.1))) (λ b. place_apart x y others a.0 b.0 (omega (arith, e, a.1, b.1))) k)
    h

-- the numbers are different, and below those that are made
pub clause_numbers : (n : ℕ) (c : ClauseForm) → length c.head ≤ n → Numbers (names_in n c) (clause_variables c) (n + length (other_variables c))
clause_numbers n c l =
    record {
      apart = λ x y i j e. numbers_apart n c x y l (has_number n c x i) (has_number n c y j) e;
      below = λ x i. number_below n c x l (has_number n c x i);
    }

-- one of the others is a variable of the clause, and has a number above those of the head
pub from_without : (x : ℕ) (xs vs : List ℕ) → In x (without xs vs) → In x xs
from_without x [] vs h = h
from_without x (y ∷ ys) vs h = by_test (is_in y vs) h (λ i. from_without x ys vs i)
  where
    by_test : (t : Bool) → In x (cond t (without ys vs) (y ∷ without ys vs)) → (In x (without ys vs) → In x ys) → In x (y ∷ ys)
    by_test true h rest = inr (rest h)
    by_test false h rest = ⊎_elim (λ e. inl e) (λ i. inr (rest i)) h

pub from_once : (x : ℕ) (xs : List ℕ) → In x (once xs) → In x xs
from_once x [] h = h
from_once x (y ∷ ys) h = ⊎_elim (λ e. inl e) (λ i. inr (from_once x ys (from_without x (once ys) (y ∷ []) i))) h

from_no_arguments : (head : List Expression) (x : ℕ) (xs : List ℕ) → In x (no_arguments head xs) → In x xs × (has_place (head_place x head) ≡ false)
from_no_arguments head x [] h = absurd h
from_no_arguments head x (y ∷ ys) h = by_test (has_place (head_place y head)) refl h (λ i. from_no_arguments head x ys i)
  where
    by_test : (t : Bool) → has_place (head_place y head) ≡ t → In x (cond t (no_arguments head ys) (y ∷ no_arguments head ys)) → (In x (no_arguments head ys) → In x ys × (has_place (head_place x head) ≡ false)) →
        In x (y ∷ ys) × (has_place (head_place x head) ≡ false)
    by_test true q h rest = let r = rest h in (inr r.0, r.1)
    by_test false q h rest = ⊎_elim (λ e. (inl e, ap (λ z. has_place (head_place z head)) e ∙ q)) (λ i. let r = rest i in (inr r.0, r.1)) h

pub other_is_variable : (c : ClauseForm) (x : ℕ) → In x (other_variables c) → In x (clause_variables c)
other_is_variable c x h = from_once x (clause_variables c) (from_no_arguments c.head x (once (clause_variables c)) h).0

pub other_above : (n : ℕ) (c : ClauseForm) (x : ℕ) → In x (other_variables c) → n ≤ names_in n c x
other_above n c x h = by_place (head_place x c.head) (from_no_arguments c.head x (once (clause_variables c)) h).1
  where
    by_place : (o : Option ℕ) → has_place o ≡ false → n ≤ place_or (n + place_in x (other_variables c)) o
    by_place None e = omega arith
    by_place (Some i) e = let f : true ≡ false = e in cc

-- the number of a head argument
pub place_number : (n : ℕ) (c : ClauseForm) (x i : ℕ) → is_place i (head_place x c.head) ≡ true → names_in n c x ≡ i
place_number n c x i e = by_place (head_place x c.head) e
  where
    by_place : (o : Option ℕ) → is_place i o ≡ true → place_or (n + place_in x (other_variables c)) o ≡ i
    by_place None e = cc
    by_place (Some k) e = sym (eqb-true i k e)

-- the clause's variables are those that its body uses
among_left : (ys zs xs : List ℕ) → Among (ys ++ zs) xs → Among ys xs
among_left ys zs xs h x i = h x (in_left x ys zs i)

among_right : (ys zs xs : List ℕ) → Among (ys ++ zs) xs → Among zs xs
among_right ys zs xs h x i = h x (in_right x ys zs i)

mutual
  uses : (xs : List ℕ) (g : Formula) → Among (occurring g) xs → Among (named_by_quantifiers g) xs → Uses xs g
  uses xs (Equal a b) h k = h
  uses xs (Call p ts) h k = h
  uses xs (And gs) h k = all_use xs gs h k
  uses xs (Or gs) h k = all_use xs gs h k
  uses xs (If vs c t e) h k =
      let k' = among_right vs (named_by_quantifiers c ++ (named_by_quantifiers t ++ named_by_quantifiers e)) xs k in
      let k'' = among_right (named_by_quantifiers c) (named_by_quantifiers t ++ named_by_quantifiers e) xs k' in
      let h' = among_right (occurring c) (occurring t ++ occurring e) xs h in (
        among_left vs (named_by_quantifiers c ++ (named_by_quantifiers t ++ named_by_quantifiers e)) xs k,
        uses xs c (among_left (occurring c) (occurring t ++ occurring e) xs h) (among_left (named_by_quantifiers c) (named_by_quantifiers t ++ named_by_quantifiers e) xs k'),
        uses xs t (among_left (occurring t) (occurring e) xs h') (among_left (named_by_quantifiers t) (named_by_quantifiers e) xs k''),
        uses xs e (among_right (occurring t) (occurring e) xs h') (among_right (named_by_quantifiers t) (named_by_quantifiers e) xs k''),
      )
  uses xs (Not g) h k = uses xs g h k
  uses xs (Exists vs g) h k = (among_left vs (named_by_quantifiers g) xs k, uses xs g h (among_right vs (named_by_quantifiers g) xs k))

  all_use : (xs : List ℕ) (gs : Formulas) → Among (occurring_all gs) xs → Among (named_by_quantifiers_of_all gs) xs → AllUse xs gs
  all_use xs no_formulas h k = tt
  all_use xs (formula_then g gs) h k = (
    uses xs g (among_left (occurring g) (occurring_all gs) xs h) (among_left (named_by_quantifiers g) (named_by_quantifiers_of_all gs) xs k),
    all_use xs gs (among_right (occurring g) (occurring_all gs) xs h) (among_right (named_by_quantifiers g) (named_by_quantifiers_of_all gs) xs k),
  )

pub body_uses : (c : ClauseForm) → Uses (clause_variables c) c.body
body_uses c =
    let of_head = variables_in_all (expressions c.head) in
    let of_body = occurring c.body in
    let named = named_by_quantifiers c.body in
    uses (clause_variables c) c.body
    (λ x i. in_right x of_head (of_body ++ named) (in_left x of_body named i))
    (λ x i. in_right x of_head (of_body ++ named) (in_right x of_body named i))

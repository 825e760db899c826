-- What is known of a clause's variables while they are met, and in the end: their numbers.
use Rattle.std.proofs.Common.{◌≡◌, ℕ, ◌+◌, List, [], ◌∷◌, ◌++◌, length, Bool, true, false, cond, nat_eq, ◌||◌, Option, Some, None, refl, sym, ap, ap₂, ◌∙◌, subst}
use Rattle.std.specs.Option.{is_some}
use Rattle.std.proofs.lemmas.Bool.{eqb-true}
use Rattle.mc_program.specs.Programs.{Expression}
use Rattle.mc_model.specs.Lists.{is_in, once, place_in}
use Rattle.mc_accepted.specs.Normal.{head_place, has_place, no_arguments}
use Rattle.mc_goals.specs.declared.numbers.Number.{Number}
use Rattle.mc_goals.specs.declared.numbers.Number.TheVariants as N
use Rattle.mc_goals.specs.declared.numbering.Numbering.{Numbering}
use Rattle.mc_goals.specs.code.Meeting.{slot_of, IsKept, MetIf, Met, number_for, Knows}
use Rattle.mc_goals.proofs.Lists.{is_in-append, once-push, is_in-once, place-there, place-last}

abbrev pub others_of : List Expression → List ℕ → List ℕ
others_of head ys = no_arguments head (once ys)

-- one more number after others
step_arguments : (t : Bool) (x : ℕ) (l k : List ℕ) → cond t (l ++ k) (x ∷ (l ++ k)) ≡ cond t l (x ∷ l) ++ k
step_arguments true x l k = refl
step_arguments false x l k = refl

pub no_arguments-append : (head : List Expression) (xs ys : List ℕ) → no_arguments head (xs ++ ys) ≡ no_arguments head xs ++ no_arguments head ys
no_arguments-append head [] ys = refl
no_arguments-append head (x ∷ xs) ys =
    ap (λ l. cond (has_place (head_place x head)) l (x ∷ l)) (no_arguments-append head xs ys) ∙ step_arguments (has_place (head_place x head)) x (no_arguments head xs) (no_arguments head ys)

step_in : (w x : ℕ) (t : Bool) (l : List ℕ) (m : Bool) → (nat_eq w x ≡ true → t ≡ false) → is_in w l ≡ m → is_in w (cond t l (x ∷ l)) ≡ cond (nat_eq w x) true m
step_in w x true l m h e = by_test (nat_eq w x) h
  where
    by_test : (b : Bool) → (b ≡ true → true ≡ false) → is_in w l ≡ cond b true m
    by_test true h = let f : true ≡ false = h refl in cc
    by_test false h = e
step_in w x false l m h e = ap (λ b. cond (nat_eq w x) true b) e

-- a variable without a place is among those that are no arguments where it is among all
in_no_arguments : (head : List Expression) (w : ℕ) → head_place w head ≡ None → (xs : List ℕ) → is_in w (no_arguments head xs) ≡ is_in w xs
in_no_arguments head w none [] = refl
in_no_arguments head w none (x ∷ xs) =
    step_in w x (has_place (head_place x head)) (no_arguments head xs) (is_in w xs) (λ e. ap (λ y. has_place (head_place y head)) (sym (eqb-true w x e)) ∙ ap has_place none) (in_no_arguments head w none xs)

pub in_others : (head : List Expression) (w : ℕ) (ys : List ℕ) → head_place w head ≡ None → is_in w (others_of head ys) ≡ is_in w ys
in_others head w ys none = in_no_arguments head w none (once ys) ∙ is_in-once w ys

one_alone : (t : Bool) (v : ℕ) → t ≡ false → cond t [] (v ∷ []) ≡ v ∷ []
one_alone true v h = cc
one_alone false v h = refl

-- what is known of a variable
abbrev pub known : ℕ → List Expression → List ℕ → ℕ → Option Number
known n head zs w = cond (is_in w zs) (Some (number_for n (others_of head zs) (head_place w head) w)) None

pub known_some : (m : Bool) (k : Number) → is_some (cond m (Some k) None) ≡ m
known_some true k = refl
known_some false k = refl

-- the number of another variable stays where one more is put behind the others
number_stays : (n : ℕ) (w v : ℕ) (others : List ℕ) (place : Option ℕ) → (place ≡ None → is_in w others ≡ true) → number_for n others place w ≡ number_for n (others ++ v ∷ []) place w
number_stays n w v others None h = ap (λ k. N.Other (n + k)) (sym (place-there w others (v ∷ []) (h refl)))
number_stays n w v others (Some k) h = refl

module _ (n : ℕ) (head : List Expression) (ys : List ℕ) (b b' : Numbering) (v : ℕ) (k : Knows n head ys b) where
  abbrev more : List ℕ
  more = ys ++ v ∷ []

  before : is_some (slot_of b v) ≡ is_in v ys
  before = ap is_some (k.slots v) ∙ known_some (is_in v ys) (number_for n (others_of head ys) (head_place v head) v)

  absent_left : (w : ℕ) → is_in w more ≡ false → is_in w ys ≡ false
  absent_left w h = left (is_in w ys) (is_in w (v ∷ [])) (sym (is_in-append w ys (v ∷ [])) ∙ h)
    where
      left : (a c : Bool) → (a || c) ≡ false → a ≡ false
      left true c e = cc
      left false c e = refl

  heads_more : (w : ℕ) → is_in w more ≡ false → head_place w head ≡ None
  heads_more w h = k.heads w (absent_left w h)

  -- it was met before
  same_in : is_in v ys ≡ true → (w : ℕ) → is_in w more ≡ is_in w ys
  same_in there w = is_in-append w ys (v ∷ []) ∙ by_test (nat_eq w v) (eqb-true w v) (is_in w ys) (λ e. ap (λ x. is_in x ys) e ∙ there)
    where
      by_test : (t : Bool) → (t ≡ true → w ≡ v) → (m : Bool) → (w ≡ v → m ≡ true) → (m || cond t true false) ≡ m
      by_test t q true h = refl
      by_test true q false h = let f : false ≡ true = h (q refl) in cc
      by_test false q false h = refl

  same_once : is_in v ys ≡ true → once more ≡ once ys
  same_once there = once-push ys v ∙ ap (λ t. cond t (once ys) (once ys ++ v ∷ [])) there

  met_before : is_in v ys ≡ true → IsKept b b' → Knows n head more b'
  met_before there kept =
      record {
        first = kept.2 ∙ k.first;
        others = kept.1 ∙ k.others ∙ ap (no_arguments head) (sym (same_once there));
        slots = λ w. kept.0 w ∙ k.slots w ∙ ap₂ (λ (m : Bool) (l : List ℕ). cond m (Some (number_for n (no_arguments head l) (head_place w head) w)) None) (sym (same_in there w)) (sym (same_once there));
        heads = heads_more;
      }

  -- it is new
  new_others : is_in v ys ≡ false → others_of head more ≡ others_of head ys ++ v ∷ []
  new_others absent =
      ap (no_arguments head) (once-push ys v ∙ ap (λ t. cond t (once ys) (once ys ++ v ∷ [])) absent)
      ∙ no_arguments-append head (once ys) (v ∷ [])
      ∙ ap (λ l. others_of head ys ++ l) (one_alone (has_place (head_place v head)) v (ap has_place (k.heads v absent)))

  abbrev target : List ℕ → ℕ → Option Number
  target others w = cond (is_in w ys || cond (nat_eq w v) true false) (Some (number_for n others (head_place w head) w)) None

  new_slot : is_in v ys ≡ false → (w : ℕ) → cond (nat_eq w v) (Some (N.Other (n + length (others_of head ys)))) (known n head ys w) ≡ target (others_of head ys ++ v ∷ []) w
  new_slot absent w = by_tests (nat_eq w v) (is_in w ys) (eqb-true w v) refl
    where
      by_tests : (t m : Bool) → (t ≡ true → w ≡ v) → is_in w ys ≡ m →
          cond t (Some (N.Other (n + length (others_of head ys)))) (cond m (Some (number_for n (others_of head ys) (head_place w head) w)) None)
          ≡ cond (m || cond t true false) (Some (number_for n (others_of head ys ++ v ∷ []) (head_place w head) w)) None
      by_tests true true q e = let f : true ≡ false = sym e ∙ ap (λ x. is_in x ys) (q refl) ∙ absent in cc
      by_tests true false q e =
          let none : head_place w head ≡ None = k.heads w e in
          let last : place_in w (others_of head ys ++ w ∷ []) ≡ length (others_of head ys) = place-last w (others_of head ys) (in_others head w ys none ∙ e) in
          ap (λ x. Some (N.Other (n + x))) (sym last) ∙ ap (λ x. Some (N.Other (n + place_in w (others_of head ys ++ x ∷ [])))) (q refl)
          ∙ ap (λ o. Some (number_for n (others_of head ys ++ v ∷ []) o w)) (sym none)
      by_tests false true q e = ap Some (number_stays n w v (others_of head ys) (head_place w head) (λ none. in_others head w ys none ∙ e))
      by_tests false false q e = refl

  met_new : is_in v ys ≡ false → MetIf false b v b' → Knows n head more b'
  met_new absent new =
      let others : b'.others.items ≡ others_of head more = new.1 ∙ ap (λ l. l ++ v ∷ []) k.others ∙ sym (new_others absent) in
      record {
        first = new.2 ∙ k.first;
        others = others;
        slots = λ w.
            new.0 w
            ∙ ap₂ (λ (i : ℕ) (o : Option Number). cond (nat_eq w v) (Some (N.Other i)) o) (ap₂ (λ i (l : List ℕ). i + length l) k.first k.others) (k.slots w)
            ∙ new_slot absent w
            ∙ ap₂ (λ (m : Bool) (l : List ℕ). cond m (Some (number_for n l (head_place w head) w)) None) (sym (is_in-append w ys (v ∷ []))) (sym (new_others absent));
        heads = heads_more;
      }

  by_before : (t : Bool) → is_in v ys ≡ t → MetIf t b v b' → Knows n head more b'
  by_before true e m = met_before e m
  by_before false e m = met_new e m

-- one more variable was met
pub knows_more : (n : ℕ) (head : List Expression) (ys : List ℕ) (b b' : Numbering) (v : ℕ) → Knows n head ys b → Met b v b' → Knows n head (ys ++ v ∷ []) b'
knows_more n head ys b b' v k m = by_before n head ys b b' v k (is_in v ys) refl (subst (λ t. MetIf t b v b') (before n head ys b b' v k) m)

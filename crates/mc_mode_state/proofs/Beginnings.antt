-- The beginning of a clause, and its end.
use Rattle.std.proofs.Common.{◌≡◌, ℕ, suc, ◌<◌, ◌≤◌, ◌+◌, ◌-◌, Bool, true, false, not, List, [], ◌∷◌, length, get_or, drop, Option, Some, None, nat_eq, if◌then◌else◌, refl, sym, ap, ap₂, ◌∙◌, arith}
use Rattle.std.proofs.lemmas.Bool.Decides.{nat_tests}
use Rattle.std.proofs.lemmas.List.{length-drop, nil_from_length}
use Rattle.mc_program.specs.Programs.{TypeTerm, Source}
use Rattle.mc_model.specs.Lists.{is_in}
use Rattle.mc_accepted.specs.Arranged.{Operations, Declared, Point, with_inst, entry, first_unmet}
use Rattle.mc_accepted.specs.NodeOracle.{NodeOracle, of_nodes}
use Rattle.mc_accepted.specs.Ordered.{times_in}
use Rattle.mc_procs.specs.Named.{NumbersBelow}
use Rattle.mc_mode_state.specs.States.{point_of, is_outside}
use Rattle.mc_mode_state.specs.code.Entries.{entered}
use Rattle.mc_mode_state.proofs.Numbers.{cons_at}

pub entered-is : (C : NodeOracle) (P : Source) (declared : ℕ → List Declared) (T : ℕ → TypeTerm) (head first : List ℕ) → entry (of_nodes C) P declared T head first ≡ entered head first
entered-is C P declared T [] first = refl
entered-is C P declared T (y ∷ head) [] = refl
entered-is C P declared T (y ∷ head) (i ∷ first) = ap (with_inst ℕ y i) (entered-is C P declared T head first)

pub all-free : (is : List ℕ) → ((x : ℕ) → get_or is x 0 ≡ 0) → (λ (x : ℕ). 0) ≡ point_of is
all-free is h = λ i x. sym (h x) i

entered-at : (head first : List ℕ) (j k : ℕ) → k ≡ j + 1 → j < length head → j < length first
    → entered (drop j head) (drop j first) ≡ with_inst ℕ (get_or head j 0) (get_or first j 0) (entered (drop k head) (drop k first))
entered-at head first j k e h i =
    ap₂ (λ (ys is : List ℕ). entered ys is) (cons_at head j 0 h) (cons_at first j 0 i)
    ∙ ap (λ n. with_inst ℕ (get_or head j 0) (get_or first j 0) (entered (drop n head) (drop n first))) (sym e)

-- one argument more from the end
pub entered-one : (head first : List ℕ) (k : ℕ) → 0 < k → k ≤ length head → length first ≡ length head
    → entered (drop (k - 1) head) (drop (k - 1) first) ≡ with_inst ℕ (get_or head (k - 1) 0) (get_or first (k - 1) 0) (entered (drop k head) (drop k first))
entered-one head first k h l e = entered-at head first (k - 1) k (omega arith) (omega arith) (omega (arith, e))

pub entered-none : (head first : List ℕ) (k : ℕ) → length head ≤ k → entered (drop k head) (drop k first) ≡ (λ x. 0)
entered-none head first k h = ap (λ (ys : List ℕ). entered ys (drop k first)) (nil_from_length (drop k head) (omega (arith, length-drop k head)))

below-with : (t : Bool) (i j n : ℕ) → i < n → j < n → (if t then i else j) < n
below-with true i j n h k = h
below-with false i j n h k = k

pub entered-below : (n : ℕ) (head first : List ℕ) → 0 < n → NumbersBelow n first → (x : ℕ) → entered head first x < n
entered-below n [] first h w x = h
entered-below n (y ∷ head) [] h w x = h
entered-below n (y ∷ head) (i ∷ first) h w x = below-with (nat_eq x y) i (entered head first x) n w.0 (entered-below n head first h w.1 x)

in-times : (x : ℕ) (ys : List ℕ) → not (nat_eq (times_in x ys) 0) ≡ is_in x ys
in-times x [] = refl
in-times x (y ∷ ys) = at (nat_eq x y) (in-times x ys)
  where
    at : (t : Bool) → not (nat_eq (times_in x ys) 0) ≡ is_in x ys → not (nat_eq (if t then suc (times_in x ys) else times_in x ys) 0) ≡ (if t then true else is_in x ys)
    at true e = let h : nat_eq (suc (times_in x ys)) 0 ≡ false = grind (arith, nat_tests) in ap not h
    at false e = e

pub outside-is : (counts head : List ℕ) → ((x : ℕ) → get_or counts x 0 ≡ times_in x head) → (x : ℕ) → is_outside counts x ≡ is_in x head
outside-is counts head h x = ap (λ n. not (nat_eq n 0)) (h x) ∙ in-times x head

-- the first argument whose final inst isn't met
module _ (Op : Operations ℕ) (P : Source) (declared : ℕ → List Declared) (T : ℕ → TypeTerm) (xs ls : List ℕ) (c : Point ℕ) where
  abbrev pub unmet_from : ℕ → Option ℕ
  unmet_from k = first_unmet Op P declared T k (drop k xs) (drop k ls) c

  unmet-at : (k : ℕ) → k < length xs → k < length ls → unmet_from k ≡ (if Op.fits (c (get_or xs k 0)) (get_or ls k 0) (T (get_or xs k 0)) then unmet_from (k + 1) else Some k)
  unmet-at k h i =
      let n : suc k ≡ k + 1 = omega arith in
      ap₂ (λ (ys js : List ℕ). first_unmet Op P declared T k ys js c) (cons_at xs k 0 h) (cons_at ls k 0 i)
      ∙ ap (λ (m : ℕ). if Op.fits (c (get_or xs k 0)) (get_or ls k 0) (T (get_or xs k 0)) then first_unmet Op P declared T m (drop (k + 1) xs) (drop (k + 1) ls) c else Some k) n

  pub unmet-here : (k : ℕ) → k < length xs → k < length ls → Op.fits (c (get_or xs k 0)) (get_or ls k 0) (T (get_or xs k 0)) ≡ false → unmet_from k ≡ Some k
  unmet-here k h i e = unmet-at k h i ∙ ap (λ (t : Bool). if t then unmet_from (k + 1) else Some k) e

  pub met-here : (k : ℕ) → k < length xs → k < length ls → Op.fits (c (get_or xs k 0)) (get_or ls k 0) (T (get_or xs k 0)) ≡ true → unmet_from (k + 1) ≡ unmet_from k
  met-here k h i e = sym (unmet-at k h i ∙ ap (λ (t : Bool). if t then unmet_from (k + 1) else Some k) e)

  pub all-met : (k : ℕ) → length xs ≤ k → unmet_from k ≡ None
  all-met k h = ap (λ (ys : List ℕ). first_unmet Op P declared T k ys (drop k ls) c) (nil_from_length (drop k xs) (omega (arith, length-drop k xs)))

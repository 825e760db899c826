-- The numbers of free places, by first occurrence.
use Rattle.std.proofs.Common.{◌≡◌, ℕ, suc, ◌+◌, ◌-◌, Bool, true, false, cond, nat_eq, ◌||◌, Option, Some, None, List, [], ◌∷◌, ◌++◌, map, length, get_or, refl, sym, ap, ap₂, ◌∙◌, arith, append-nil}
use Rattle.std.proofs.lemmas.Bool.{eqb-true, eqb-false}
use Rattle.mc_model.specs.Lists.{is_in, without, once, from, place_in}
use Rattle.mc_goals.proofs.Lists.{itself, is_in-append, once-push, is_in-once, is_in-without_one, place-there, place-last}
use Rattle.mc_typecheck.specs.VariableTypes.{number_of}
use Rattle.mc_typecheck.specs.code.Numbering.{slot_of, Knows, IsPut}
use Rattle.mc_typecheck.specs.declared.numbers.Numbers.{Numbers}

-- THE NUMBERS OF MORE PLACES

in_more : (k : ℕ) (met : List ℕ) (v : ℕ) → is_in k met ≡ true → is_in k (met ++ v ∷ []) ≡ true
in_more k met v h = is_in-append k met (v ∷ []) ∙ ap (λ b. b || is_in k (v ∷ [])) h

last_in : (met : List ℕ) (v : ℕ) → is_in v (met ++ v ∷ []) ≡ true
last_in met v = is_in-append v met (v ∷ []) ∙ ap (λ t. is_in v met || cond t true false) (itself v) ∙ or_true (is_in v met)
  where
    or_true : (b : Bool) → (b || true) ≡ true
    or_true true = refl
    or_true false = refl

-- a place that was met keeps its number where one more is met
number_kept : (r k v : ℕ) (met : List ℕ) → is_in k met ≡ true → number_of r (met ++ v ∷ []) k ≡ number_of r met k
number_kept r k v met h =
    ap (λ l. r + place_in k l) (once-push met v)
    ∙ by_test (is_in v met)
  where
    by_test : (t : Bool) → r + place_in k (cond t (once met) (once met ++ v ∷ [])) ≡ r + place_in k (once met)
    by_test true = refl
    by_test false = ap (λ n. r + n) (place-there k (once met) (v ∷ []) (is_in-once k met ∙ h))

-- a place that is met first has the next number
number_next : (r v : ℕ) (met : List ℕ) → is_in v met ≡ false → number_of r (met ++ v ∷ []) v ≡ r + length (once met)
number_next r v met h =
    ap (λ l. r + place_in v l) (once-push met v ∙ ap (λ t. cond t (once met) (once met ++ v ∷ [])) h)
    ∙ ap (λ n. r + n) (place-last v (once met) (is_in-once v met ∙ h))

-- WHAT IS KNOWN

some_in : (b : Bool) (n m : ℕ) → cond b (Some n) None ≡ Some m → (b ≡ true) × (n ≡ m)
some_in true n m e = (refl, ap (λ (o : Option ℕ). of n o) e)
  where
    of : ℕ → Option ℕ → ℕ
    of d None = d
    of d (Some k) = k
some_in false n m e = cc

none_in : (b : Bool) (n : ℕ) → cond b (Some n) None ≡ None → b ≡ false
none_in true n e = cc
none_in false n e = refl

pub knows_nothing : (r : ℕ) (n : Numbers) → n.rigid ≡ r → n.met ≡ 0 → n.slots.items ≡ [] → Knows r [] n
knows_nothing r n rigid met slots = record {
  rigid = rigid;
  count = met;
  slots = λ k. ap (λ (xs : List (Option ℕ)). get_or xs k None) slots;
}

-- a place that has a number
pub knows_same : (r : ℕ) (met : List ℕ) (n : Numbers) (place number : ℕ) → Knows r met n → slot_of n place ≡ Some number → Knows r (met ++ place ∷ []) n × (number ≡ number_of r (met ++ place ∷ []) place)
knows_same r met n place number h has =
    let s = some_in (is_in place met) (number_of r met place) number (sym (h.slots place) ∙ has) in
    let there = s.0 in
    let same : once (met ++ place ∷ []) ≡ once met = once-push met place ∙ ap (λ t. cond t (once met) (once met ++ place ∷ [])) there in
    let among : (k : ℕ) → is_in k (met ++ place ∷ []) ≡ is_in k met = λ k. sym (is_in-once k (met ++ place ∷ [])) ∙ ap (is_in k) same ∙ is_in-once k met in (
      record {
        rigid = h.rigid;
        count = h.count ∙ sym (ap length same);
        slots = λ k. h.slots k ∙ ap₂ (λ b l. cond b (Some (r + place_in k l)) None) (sym (among k)) (sym same);
      },
      sym s.1 ∙ sym (ap (λ l. r + place_in place l) same),
    )

slot_more : (t m w : Bool) (old new next : ℕ) → (t ≡ true → w ≡ true) → (t ≡ true → new ≡ next) → (t ≡ false → w ≡ m) → (m ≡ true → new ≡ old) → cond t (Some next) (cond m (Some old) None) ≡ cond w (Some new) None
slot_more true m true old new next a b c d = ap Some (sym (b refl))
slot_more true m false old new next a b c d = let bad = a refl in cc
slot_more false true true old new next a b c d = ap Some (sym (d refl))
slot_more false true false old new next a b c d = let bad = c refl in cc
slot_more false false true old new next a b c d = let bad = c refl in cc
slot_more false false false old new next a b c d = refl

-- a place that gets the next number
pub knows_more : (r : ℕ) (met : List ℕ) (n m : Numbers) (place number : ℕ) → Knows r met n → slot_of n place ≡ None → IsPut n place number m → Knows r (met ++ place ∷ []) m × (number ≡ number_of r (met ++ place ∷ []) place)
knows_more r met n m place number h none p =
    let absent = none_in (is_in place met) (number_of r met place) (sym (h.slots place) ∙ none) in
    let longer : once (met ++ place ∷ []) ≡ once met ++ place ∷ [] = once-push met place ∙ ap (λ t. cond t (once met) (once met ++ place ∷ [])) absent in
    let next : number ≡ r + length (once met) = p.next ∙ ap₂ (λ a b. a + b) h.rigid h.count in
    let is_next : number ≡ number_of r (met ++ place ∷ []) place = next ∙ sym (number_next r place met absent) in (
      record {
        rigid = p.rigid ∙ h.rigid;
        count = let l : length (once (met ++ place ∷ [])) ≡ length (once met) + 1 = ap length longer ∙ push_long (once met) place in let a = p.met in let b = h.count in omega (arith, l, a, b);
        slots = λ k.
            p.slots k ∙ ap (λ o. cond (nat_eq k place) (Some number) o) (h.slots k)
            ∙ slot_more (nat_eq k place) (is_in k met) (is_in k (met ++ place ∷ [])) (number_of r met k) (number_of r (met ++ place ∷ []) k) number
            (λ e. ap (λ j. is_in j (met ++ place ∷ [])) (eqb-true k place e) ∙ last_in met place)
            (λ e. ap (number_of r (met ++ place ∷ [])) (eqb-true k place e) ∙ sym is_next)
            (λ e. is_in-append k met (place ∷ []) ∙ ap (λ b. is_in k met || cond b true false) e ∙ or_false (is_in k met))
            (λ e. number_kept r k place met e);
      },
      is_next,
    )
  where
    or_false : (b : Bool) → (b || false) ≡ b
    or_false true = refl
    or_false false = refl

    push_long : (xs : List ℕ) (x : ℕ) → length (xs ++ x ∷ []) ≡ length xs + 1
    push_long [] x = omega arith
    push_long (y ∷ xs) x = let e = push_long xs x in omega (arith, e)

-- a place that was met keeps its number where more are met
pub number_stays : (r k : ℕ) (met more : List ℕ) → is_in k met ≡ true → number_of r (met ++ more) k ≡ number_of r met k
number_stays r k met [] h = ap (λ l. number_of r l k) (append-nil met)
number_stays r k met (v ∷ more) h =
    ap (λ l. number_of r l k) (assoc met v more)
    ∙ number_stays r k (met ++ v ∷ []) more (in_more k met v h)
    ∙ number_kept r k v met h
  where
    assoc : (xs : List ℕ) (x : ℕ) (ys : List ℕ) → xs ++ x ∷ ys ≡ (xs ++ x ∷ []) ++ ys
    assoc [] x ys = refl
    assoc (y ∷ xs) x ys = ap (λ l. y ∷ l) (assoc xs x ys)

-- THE NUMBERS IN ORDER

-- no number stands twice
abbrev Once : List ℕ → Type 0
Once [] = Unit {0}
Once (x ∷ xs) = (is_in x xs ≡ false) × Once xs

absent_without : (w v : ℕ) (xs : List ℕ) → is_in w xs ≡ false → is_in w (without xs (v ∷ [])) ≡ false
absent_without w v xs h = is_in-without_one w v xs ∙ ap (cond (nat_eq w v) false) h ∙ no_more (nat_eq w v)
  where
    no_more : (t : Bool) → cond t false false ≡ false
    no_more true = refl
    no_more false = refl

once_kept : (t : Bool) (x : ℕ) (l : List ℕ) → is_in x l ≡ false → Once l → Once (cond t l (x ∷ l))
once_kept true x l absent h = h
once_kept false x l absent h = (absent, h)

once_without : (v : ℕ) (xs : List ℕ) → Once xs → Once (without xs (v ∷ []))
once_without v [] h = tt
once_without v (x ∷ xs) h = once_kept (is_in x (v ∷ [])) x (without xs (v ∷ [])) (absent_without x v xs h.0) (once_without v xs h.1)

once_once : (xs : List ℕ) → Once (once xs)
once_once [] = tt
once_once (x ∷ xs) = (is_in-without_one x x (once xs) ∙ ap (λ t. cond t false (is_in x (once xs))) (itself x), once_without x (once xs) (once_once xs))

-- the places of a list's numbers, in order
place_behind : (r x k : ℕ) (xs : List ℕ) → nat_eq k x ≡ false → r + place_in k (x ∷ xs) ≡ suc r + place_in k xs
place_behind r x k xs e = ap (λ t. r + cond t 0 (suc (place_in k xs))) e ∙ (omega arith)

both_false : (a b : Bool) → cond a true b ≡ false → (a ≡ false) × (b ≡ false)
both_false true b e = cc
both_false false b e = (refl, e)

not_so : (t : Bool) → (t ≡ true → ⊥) → t ≡ false
not_so true f = absurd (f refl)
not_so false f = refl

apart : (a b : ℕ) → nat_eq a b ≡ false → nat_eq b a ≡ false
apart a b e = not_so (nat_eq b a) (λ f. eqb-false a b e (sym (eqb-true b a f)))

mapped_behind : (r x : ℕ) (xs ks : List ℕ) → is_in x ks ≡ false → map (λ k. r + place_in k (x ∷ xs)) ks ≡ map (λ k. suc r + place_in k xs) ks
mapped_behind r x xs [] h = refl
mapped_behind r x xs (k ∷ ks) h =
    let parts = both_false (nat_eq x k) (is_in x ks) h in
    ap₂ (λ y ys. y ∷ ys) (place_behind r x k xs (apart x k parts.0)) (mapped_behind r x xs ks parts.1)

places_in_order : (r : ℕ) (xs : List ℕ) → Once xs → map (λ k. r + place_in k xs) xs ≡ from r (length xs)
places_in_order r [] h = refl
places_in_order r (x ∷ xs) h =
    ap₂ (λ y ys. y ∷ ys) (ap (λ t. r + cond t 0 (suc (place_in x xs))) (itself x) ∙ (omega arith)) (mapped_behind r x xs xs h.0 ∙ places_in_order (suc r) xs h.1)

-- a number at its place
at_either : (t m : Bool) (k x p : ℕ) (xs : List ℕ) → nat_eq k x ≡ t → cond t true m ≡ true → (m ≡ true → get_or xs p 0 ≡ k) → get_or (x ∷ xs) (cond t 0 (suc p)) 0 ≡ k
at_either true m k x p xs e i rest = sym (eqb-true k x e)
at_either false m k x p xs e i rest = rest i

at_place : (k : ℕ) (xs : List ℕ) → is_in k xs ≡ true → get_or xs (place_in k xs) 0 ≡ k
at_place k [] h = cc
at_place k (x ∷ xs) h = at_either (nat_eq k x) (is_in k xs) k x (place_in k xs) xs refl h (λ i. at_place k xs i)

pub of_number : (r k : ℕ) (met : List ℕ) → is_in k met ≡ true → get_or (once met) (number_of r met k - r) 0 ≡ k
of_number r k met h =
    let e : number_of r met k - r ≡ place_in k (once met) = omega arith in
    ap (λ i. get_or (once met) i 0) e ∙ at_place k (once met) (is_in-once k met ∙ h)

-- different numbers of different places
pub numbers_apart : (r j k : ℕ) (met : List ℕ) → is_in j met ≡ true → is_in k met ≡ true → number_of r met j ≡ number_of r met k → j ≡ k
numbers_apart r j k met hj hk e = sym (of_number r j met hj) ∙ ap (λ n. get_or (once met) (n - r) 0) e ∙ of_number r k met hk

all_true : (t : Bool) → cond t true true ≡ true
all_true true = refl
all_true false = refl

in_rest : (j k : ℕ) (xs : List ℕ) → is_in j xs ≡ true → is_in j (k ∷ xs) ≡ true
in_rest j k xs i = ap (λ b. cond (nat_eq j k) true b) i ∙ all_true (nat_eq j k)

in_first : (k : ℕ) (xs : List ℕ) → is_in k (k ∷ xs) ≡ true
in_first k xs = ap (λ t. cond t true (is_in k xs)) (itself k)

-- the numbers once, in order, are those of the places once
module _ (f : ℕ → ℕ) where
  mapped_step : (a b : Bool) (x k : ℕ) (l : List ℕ) (m : List ℕ) → nat_eq (f k) (f x) ≡ a → nat_eq k x ≡ b → (f k ≡ f x → k ≡ x) → l ≡ map f m → cond (cond a true false) l (f k ∷ l) ≡ map f (cond (cond b true false) m (k ∷ m))
  mapped_step true true x k l m ea eb inj more = more
  mapped_step false false x k l m ea eb inj more = ap (λ l. f k ∷ l) more
  mapped_step true false x k l m ea eb inj more = absurd (eqb-false k x eb (inj (eqb-true (f k) (f x) ea)))
  mapped_step false true x k l m ea eb inj more = absurd (eqb-false (f k) (f x) ea (ap f (eqb-true k x eb)))

  mapped_without : (x : ℕ) (xs : List ℕ) → ((k : ℕ) → is_in k xs ≡ true → f k ≡ f x → k ≡ x) → without (map f xs) (f x ∷ []) ≡ map f (without xs (x ∷ []))
  mapped_without x [] h = refl
  mapped_without x (k ∷ xs) h =
      mapped_step (nat_eq (f k) (f x)) (nat_eq k x) x k (without (map f xs) (f x ∷ [])) (without xs (x ∷ [])) refl refl
      (h k (in_first k xs)) (mapped_without x xs (λ j i e. h j (in_rest j k xs i) e))

  pub once_mapped : (xs : List ℕ) → ((j k : ℕ) → is_in j xs ≡ true → is_in k xs ≡ true → f j ≡ f k → j ≡ k) → once (map f xs) ≡ map f (once xs)
  once_mapped [] h = refl
  once_mapped (x ∷ xs) h =
      let rest = once_mapped xs (λ j k hj hk e. h j k (in_rest j x xs hj) (in_rest k x xs hk) e) in
      ap (λ l. f x ∷ l)
      (ap (λ l. without l (f x ∷ [])) rest
      ∙ mapped_without x (once xs) (λ k i e. h k x (in_rest k x xs (sym (is_in-once k xs) ∙ i)) (in_first x xs) e))

pub are_numbered : (r : ℕ) (met : List ℕ) → let left = once (map (number_of r met) met) in left ≡ from r (length left)
are_numbered r met =
    let e = once_mapped (number_of r met) met (λ j k hj hk same. numbers_apart r j k met hj hk same) in
    let o = places_in_order r (once met) (once_once met) in
    let l : length (once (map (number_of r met) met)) ≡ length (once met) = ap length e ∙ mapped_long (number_of r met) (once met) in
    e ∙ o ∙ ap (from r) (sym l)
  where
    mapped_long : (f : ℕ → ℕ) (xs : List ℕ) → length (map f xs) ≡ length xs
    mapped_long f [] = refl
    mapped_long f (x ∷ xs) = ap suc (mapped_long f xs)

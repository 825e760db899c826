-- Counts of the variables that occur outside a goal.
use Rattle.std.proofs.Common.{◌≡◌, ℕ, zero, suc, ◌+◌, ◌-◌, ◌<◌, ◌≤◌, List, [], ◌∷◌, ◌++◌, length, get_or, set, take, Bool, true, false, cond, nat_eq, nat_lt, ◌||◌, refl, sym, ap, ◌∙◌, arith, append-nil}
use Rattle.std.proofs.Math.Path.{fun_ext}
use Rattle.std.proofs.lemmas.Bool.{eqb-true}
use Rattle.std.proofs.lemmas.List.{take_more}
use Rattle.std.proofs.lemmas.Bool.Decides.{nat_tests}
use Rattle.mc_model.specs.Lists.{is_in, once}
use Rattle.mc_goals.specs.declared.outside.Outside.{Outside}
use Rattle.mc_goals.specs.code.Outside.{times, count, more, less, absent}
use Rattle.mc_goals.proofs.Lists.{once-push, is_in-once}
use Rattle.mc_goals.proofs.Slots.{slot_more, slot_set}

times_step : (t : Bool) (a b : ℕ) → cond t (suc (a + b)) (a + b) ≡ cond t (suc a) a + b
times_step true a b = omega arith
times_step false a b = refl

pub times-append : (w : ℕ) (xs ys : List ℕ) → times w (xs ++ ys) ≡ times w xs + times w ys
times-append w [] ys = omega arith
times-append w (x ∷ xs) ys = ap (λ n. cond (nat_eq w x) (suc n) n) (times-append w xs ys) ∙ times_step (nat_eq w x) (times w xs) (times w ys)

-- what was put is taken off
pub less_more : (f : ℕ → ℕ) (xs : List ℕ) → less (more f xs) xs ≡ f
unfolding less more
less_more f xs = fun_ext (λ w. let e : (f w + times w xs) - times w xs ≡ f w = omega arith in e)

-- what was taken off is put back, where it was there
pub more_less : (f : ℕ → ℕ) (xs : List ℕ) → ((w : ℕ) → times w xs ≤ f w) → more (less f xs) xs ≡ f
unfolding less more
more_less f xs h = fun_ext (λ w. let l : times w xs ≤ f w = h w in let e : (f w - times w xs) + times w xs ≡ f w = omega (arith, l) in e)

pub more_more : (f : ℕ → ℕ) (xs ys : List ℕ) → more (more f xs) ys ≡ more f (xs ++ ys)
unfolding more
more_more f xs ys = fun_ext (λ w. let s : times w (xs ++ ys) ≡ times w xs + times w ys = times-append w xs ys in let e : (f w + times w xs) + times w ys ≡ f w + times w (xs ++ ys) = omega (arith, s) in e)

pub less_less : (f : ℕ → ℕ) (xs ys : List ℕ) → less (less f xs) ys ≡ less f (xs ++ ys)
unfolding less
less_less f xs ys = fun_ext (λ w. let s : times w (xs ++ ys) ≡ times w xs + times w ys = times-append w xs ys in let e : (f w - times w xs) - times w ys ≡ f w - times w (xs ++ ys) = omega (arith, s) in e)

pub more_none : (f : ℕ → ℕ) → more f [] ≡ f
unfolding more
more_none f = fun_ext (λ w. let e : f w + 0 ≡ f w = omega arith in e)

pub less_none : (f : ℕ → ℕ) → less f [] ≡ f
unfolding less
less_none f = fun_ext (λ w. let e : f w - 0 ≡ f w = omega arith in e)

pub at_more : (f : ℕ → ℕ) (xs : List ℕ) (w : ℕ) → more f xs w ≡ f w + times w xs
unfolding more
at_more f xs w = refl

pub at_less : (f : ℕ → ℕ) (xs : List ℕ) (w : ℕ) → less f xs w ≡ f w - times w xs
unfolding less
at_less f xs w = refl

-- THE TABLE

-- a further count of none changes nothing
pub count_room : (o o' : Outside) → o'.counts.items ≡ o.counts.items ++ 0 ∷ [] → count o' ≡ count o
unfolding count
count_room o o' is = fun_ext (λ w. ap (λ l. get_or l w 0) is ∙ slot_more o.counts.items 0 w)

pub count_nothing : (o : Outside) → o.counts.items ≡ [] → (w : ℕ) → count o w ≡ 0
unfolding count
count_nothing o is w = ap (λ l. get_or l w 0) is

raised : (f : ℕ → ℕ) (k w : ℕ) (t : Bool) → (t ≡ true → f w ≡ f k) → cond t (f k + 1) (f w) ≡ f w + cond t 1 0
raised f k w true h = let e : f w ≡ f k = h refl in omega (arith, e)
raised f k w false h = omega arith

lowered : (f : ℕ → ℕ) (k w : ℕ) (t : Bool) → (t ≡ true → f w ≡ f k) → cond t (f k - 1) (f w) ≡ f w - cond t 1 0
lowered f k w true h = let e : f w ≡ f k = h refl in omega (arith, e)
lowered f k w false h = omega arith

pub count_more : (o o' : Outside) (k n : ℕ) → k < length o.counts.items → n ≡ get_or o.counts.items k 0 + 1 → o'.counts.items ≡ set o.counts.items k n → count o' ≡ more (count o) (k ∷ [])
unfolding count more
count_more o o' k n h e is = fun_ext (λ w.
    let xs = o.counts.items in
    ap (λ l. get_or l w 0) is ∙ slot_set xs k w n 0 h ∙ ap (λ m. cond (nat_eq w k) m (get_or xs w 0)) e
    ∙ raised (λ j. get_or xs j 0) k w (nat_eq w k) (λ t. ap (λ j. get_or xs j 0) (eqb-true w k t)))

pub count_less : (o o' : Outside) (k n : ℕ) → k < length o.counts.items → n ≡ get_or o.counts.items k 0 - 1 → o'.counts.items ≡ set o.counts.items k n → count o' ≡ less (count o) (k ∷ [])
unfolding count less
count_less o o' k n h e is = fun_ext (λ w.
    let xs = o.counts.items in
    ap (λ l. get_or l w 0) is ∙ slot_set xs k w n 0 h ∙ ap (λ m. cond (nat_eq w k) m (get_or xs w 0)) e
    ∙ lowered (λ j. get_or xs j 0) k w (nat_eq w k) (λ t. ap (λ j. get_or xs j 0) (eqb-true w k t)))

beyond : (xs : List ℕ) (k : ℕ) → length xs ≤ k → get_or xs k 0 ≡ 0
beyond [] k h = refl
beyond (x ∷ xs) zero h = absurd (omega (arith, h))
beyond (x ∷ xs) (suc k) h = let l : length xs ≤ k = omega (arith, h) in beyond xs k l

not_there : (f : ℕ → ℕ) (k w : ℕ) (t : Bool) → f k ≡ 0 → (t ≡ true → f w ≡ f k) → f w ≡ f w - cond t 1 0
not_there f k w true z h = let e : f w ≡ f k = h refl in omega (arith, e, z)
not_there f k w false z h = omega arith

-- nothing is taken off where there is no count
pub count_beyond : (o : Outside) (k : ℕ) → length o.counts.items ≤ k → count o ≡ less (count o) (k ∷ [])
unfolding count less
count_beyond o k h = fun_ext (λ w. let xs = o.counts.items in not_there (λ j. get_or xs j 0) k w (nat_eq w k) (beyond xs k h) (λ t. ap (λ j. get_or xs j 0) (eqb-true w k t)))

-- WHICH OCCUR

positive : (n : ℕ) → nat_lt 0 (suc n) ≡ true
positive n = grind (arith, nat_tests)

pub positive-add : (a b : ℕ) → nat_lt 0 (a + b) ≡ (nat_lt 0 a || nat_lt 0 b)
positive-add zero b = let e : 0 + b ≡ b = omega arith in ap (nat_lt 0) e
positive-add (suc a) b =
    let e : suc a + b ≡ suc (a + b) = omega arith in
    ap (nat_lt 0) e ∙ positive (a + b) ∙ sym (ap (λ t. t || nat_lt 0 b) (positive a))

times_in : (t : Bool) (n : ℕ) (m : Bool) → nat_lt 0 n ≡ m → nat_lt 0 (cond t (suc n) n) ≡ cond t true m
times_in true n m h = positive n
times_in false n m h = h

pub times-in : (w : ℕ) (xs : List ℕ) → nat_lt 0 (times w xs) ≡ is_in w xs
times-in w [] = refl
times-in w (x ∷ xs) = times_in (nat_eq w x) (times w xs) (is_in w xs) (times-in w xs)

-- a variable occurs outside after a list was put, where it did before or is in the list
pub more_in : (f : ℕ → ℕ) (xs : List ℕ) (w : ℕ) → nat_lt 0 (more f xs w) ≡ (nat_lt 0 (f w) || is_in w xs)
more_in f xs w = ap (nat_lt 0) (at_more f xs w) ∙ positive-add (f w) (times w xs) ∙ ap (λ t. nat_lt 0 (f w) || t) (times-in w xs)

-- those that are absent, one after another
cond_append : (t : Bool) (x : ℕ) (l k : List ℕ) → cond t (l ++ k) (x ∷ (l ++ k)) ≡ cond t l (x ∷ l) ++ k
cond_append true x l k = refl
cond_append false x l k = refl

pub absent-append : (f : ℕ → ℕ) (xs ys : List ℕ) → absent f (xs ++ ys) ≡ absent f xs ++ absent f ys
absent-append f [] ys = refl
absent-append f (x ∷ xs) ys = ap (λ l. cond (nat_lt 0 (f x)) l (x ∷ l)) (absent-append f xs ys) ∙ cond_append (nat_lt 0 (f x)) x (absent f xs) (absent f ys)

-- STEPS OF LOOPS

pub next_more : (f g h : ℕ → ℕ) (xs : List ℕ) (i : ℕ) → i < length xs → h ≡ more g (get_or xs i 0 ∷ []) → g ≡ more f (take i xs) → h ≡ more f (take (i + 1) xs)
next_more f g h xs i l is before =
    is ∙ ap (λ k. more k (get_or xs i 0 ∷ [])) before ∙ more_more f (take i xs) (get_or xs i 0 ∷ []) ∙ ap (more f) (sym (take_more xs i 0 l))

pub next_less : (f g h : ℕ → ℕ) (xs : List ℕ) (i : ℕ) → i < length xs → h ≡ less g (get_or xs i 0 ∷ []) → g ≡ less f (take i xs) → h ≡ less f (take (i + 1) xs)
next_less f g h xs i l is before =
    is ∙ ap (λ k. less k (get_or xs i 0 ∷ [])) before ∙ less_less f (take i xs) (get_or xs i 0 ∷ []) ∙ ap (less f) (sym (take_more xs i 0 l))

pub none_added : (f : ℕ → ℕ) (v : ℕ) → nat_lt 0 (f v) ≡ true → f ≡ more f (absent f (v ∷ []))
none_added f v e = sym (more_none f) ∙ ap (λ t. more f (cond t [] (v ∷ []))) (sym e)

added_once : (t m : Bool) (X : List ℕ) (v : ℕ) → is_in v X ≡ m → once X ++ cond (t || m) [] (v ∷ []) ≡ once (X ++ cond t [] (v ∷ []))
added_once true m X v e = append-nil (once X) ∙ ap once (sym (append-nil X))
added_once false true X v e = append-nil (once X) ∙ sym (once-push X v ∙ ap (λ t. cond t (once X) (once X ++ v ∷ [])) e)
added_once false false X v e = sym (once-push X v ∙ ap (λ t. cond t (once X) (once X ++ v ∷ [])) e)

-- one more variable, where those that were met are outside
pub next_absent : (f : ℕ → ℕ) (xs own : List ℕ) (v : ℕ) → own ≡ once (absent f xs) → own ++ absent (more f own) (v ∷ []) ≡ once (absent f (xs ++ v ∷ []))
next_absent f xs own v h =
    let X = absent f xs in
    ap (λ l. l ++ absent (more f l) (v ∷ [])) h
    ∙ ap (λ t. once X ++ cond t [] (v ∷ [])) (more_in f (once X) v ∙ ap (λ t. nat_lt 0 (f v) || t) (is_in-once v X))
    ∙ added_once (nat_lt 0 (f v)) (is_in v X) X v refl
    ∙ ap once (sym (absent-append f xs (v ∷ [])))

pub next_own : (f : ℕ → ℕ) (xs own own' : List ℕ) (i : ℕ) → i < length xs → own ≡ once (absent f (take i xs)) → own' ≡ own ++ absent (more f own) (get_or xs i 0 ∷ []) → own' ≡ once (absent f (take (i + 1) xs))
next_own f xs own own' i l before is = is ∙ next_absent f (take i xs) own (get_or xs i 0) before ∙ ap (λ l. once (absent f l)) (sym (take_more xs i 0 l))

pub next_counts : (f g h : ℕ → ℕ) (own own' : List ℕ) (v : ℕ) → g ≡ more f own → h ≡ more g (absent g (v ∷ [])) → own' ≡ own ++ absent g (v ∷ []) → h ≡ more f own'
next_counts f g h own own' v before is list =
    is ∙ ap (λ k. more k (absent g (v ∷ []))) before ∙ more_more f own (absent g (v ∷ [])) ∙ ap (more f) (sym list)

-- A builtin's implied outputs, for which fresh variables stand.
use Rattle.std.proofs.Common.{◌≡◌, ◌≢◌, inl, inr, ℕ, suc, ◌+◌, ◌<◌, ◌≤◌, Bool, true, false, cond, not, nat_eq, ◌||◌, List, [], ◌∷◌, length, refl, ap, sym, ◌∙◌, subst, ⊎_elim, arith}
use Rattle.std.proofs.Math.Nat.{le_refl}
use Rattle.std.proofs.lemmas.Bool.{eqb-true, eqb-false, eq-eqb}
use Rattle.mc_program.specs.Programs.{TypeTerm}
use Rattle.mc_model.specs.Lists.{In, is_in, Distinct}
use Rattle.mc_model.specs.Outcomes.{inputs_of}
use Rattle.mc_model.specs.Scheduled.{Nodes, no_nodes, node_then}
use Rattle.mc_model.specs.Stream.{is_bound}
use Rattle.mc_model.specs.Good.{System}
use Rattle.mc_accepted.specs.Ordered.{Insts, Mode, also, plain_modes, modes_of, implied_places, Freshened, FreshenedHere, firsts, times_in, builtin_most, UsableAt, TestsInOrder, AfterArguments, no_more, not_passed, output, implied, dies, keeps, becomes}
use Rattle.mc_accepted.specs.Arranged.{fresh_at, tests_at, test_nodes, nodes_before}
use Rattle.mc_accepted.specs.FreshTests.{AllAlike}
use Rattle.mc_program.specs.declared.builtin.Builtin.{Builtin}
use Rattle.mc_program.specs.declared.builtin.Builtin.TheVariants as B
use Rattle.mc_source.specs.declared.det.Most.TheVariants.{One}
use Rattle.laws_order.specs.OrderLaws.{Below}
use Rattle.laws_order.proofs.Arranging.{not-both, or-first, is-unset}

pub is-other : (x y : ℕ) → (x ≡ y → ⊥) → nat_eq x y ≡ false
is-other x y off = at (nat_eq x y) (eqb-true x y)
  where
    at : (t : Bool) → (t ≡ true → x ≡ y) → t ≡ false
    at true e = absurd (off (e refl))
    at false e = refl

is-same : (x : ℕ) → nat_eq x x ≡ true
is-same x = eq-eqb x x refl

bound-set : (l : ℕ) → l ≢ 0 → is_bound l ≡ true
bound-set l ne = ap not (is-other l 0 ne)

-- no mode takes a binding away
abbrev pub NoneFreed : List Mode → Type 0
NoneFreed [] = Unit {0}
NoneFreed (m ∷ ms) = (m.0 ≢ 0 → m.1 ≢ 0) × NoneFreed ms

plain-none-freed : (bs : List Bool) → NoneFreed (plain_modes bs)
plain-none-freed [] = tt
plain-none-freed (true ∷ bs) = ((λ ne. eqb-false 1 0 refl), plain-none-freed bs)
plain-none-freed (false ∷ bs) = ((λ ne. absurd (ne refl)), plain-none-freed bs)

set-final : (i l : ℕ) → nat_eq l 0 ≡ false → i ≢ 0 → l ≢ 0
set-final i l e ne = eqb-false l 0 e

free-initial : (l i : ℕ) → i ≡ 0 → i ≢ 0 → l ≢ 0
free-initial l i e ne = absurd (ne e)

pub none-freed : (op : Builtin) → NoneFreed (modes_of op)
none-freed B.IntPlus = plain-none-freed (inputs_of B.IntPlus)
none-freed B.IntMinus = plain-none-freed (inputs_of B.IntMinus)
none-freed B.IntTimes = plain-none-freed (inputs_of B.IntTimes)
none-freed B.IntQuotient = plain-none-freed (inputs_of B.IntQuotient)
none-freed B.IntDiv = plain-none-freed (inputs_of B.IntDiv)
none-freed B.IntMod = plain-none-freed (inputs_of B.IntMod)
none-freed B.IntRem = plain-none-freed (inputs_of B.IntRem)
none-freed B.IntNegate = plain-none-freed (inputs_of B.IntNegate)
none-freed B.IntLess = plain-none-freed (inputs_of B.IntLess)
none-freed B.IntGreater = plain-none-freed (inputs_of B.IntGreater)
none-freed B.IntAtMost = plain-none-freed (inputs_of B.IntAtMost)
none-freed B.IntAtLeast = plain-none-freed (inputs_of B.IntAtLeast)
none-freed B.StringJoin = plain-none-freed (inputs_of B.StringJoin)
none-freed B.StringLength = plain-none-freed (inputs_of B.StringLength)
none-freed B.StringCodePoints = plain-none-freed (inputs_of B.StringCodePoints)
none-freed B.IntToString = plain-none-freed (inputs_of B.IntToString)
none-freed B.CharToString = plain-none-freed (inputs_of B.CharToString)
none-freed B.ToCharList = plain-none-freed (inputs_of B.ToCharList)
none-freed B.StringToInt = plain-none-freed (inputs_of B.StringToInt)
none-freed B.CharToInt = plain-none-freed (inputs_of B.CharToInt)
none-freed B.CharFromInt = plain-none-freed (inputs_of B.CharFromInt)
none-freed B.CharIsDigit = plain-none-freed (inputs_of B.CharIsDigit)
none-freed B.WriteString = (set-final 1 1 refl, (set-final 2 3 refl, (free-initial 2 0 refl, tt)))
none-freed B.WriteChar = (set-final 1 1 refl, (set-final 2 3 refl, (free-initial 2 0 refl, tt)))
none-freed B.WriteInt = (set-final 1 1 refl, (set-final 2 3 refl, (free-initial 2 0 refl, tt)))
none-freed B.Write = (set-final 1 1 refl, (set-final 2 3 refl, (free-initial 2 0 refl, tt)))
none-freed B.Nl = (set-final 2 3 refl, (free-initial 2 0 refl, tt))
none-freed B.ReadLine = (free-initial 1 0 refl, (set-final 2 3 refl, (free-initial 2 0 refl, tt)))
none-freed B.Error = plain-none-freed (inputs_of B.Error)

-- `error` has no output
pub has-one : (op : Builtin) (xs : List ℕ) (f : ℕ → Bool) → implied_places 0 (modes_of op) xs f ≢ [] → builtin_most op ≡ One
has-one B.IntPlus xs f ne = refl
has-one B.IntMinus xs f ne = refl
has-one B.IntTimes xs f ne = refl
has-one B.IntQuotient xs f ne = refl
has-one B.IntDiv xs f ne = refl
has-one B.IntMod xs f ne = refl
has-one B.IntRem xs f ne = refl
has-one B.IntNegate xs f ne = refl
has-one B.IntLess xs f ne = refl
has-one B.IntGreater xs f ne = refl
has-one B.IntAtMost xs f ne = refl
has-one B.IntAtLeast xs f ne = refl
has-one B.StringJoin xs f ne = refl
has-one B.StringLength xs f ne = refl
has-one B.StringCodePoints xs f ne = refl
has-one B.IntToString xs f ne = refl
has-one B.CharToString xs f ne = refl
has-one B.ToCharList xs f ne = refl
has-one B.StringToInt xs f ne = refl
has-one B.CharToInt xs f ne = refl
has-one B.CharFromInt xs f ne = refl
has-one B.CharIsDigit xs f ne = refl
has-one B.WriteString xs f ne = refl
has-one B.WriteChar xs f ne = refl
has-one B.WriteInt xs f ne = refl
has-one B.Write xs f ne = refl
has-one B.Nl xs f ne = refl
has-one B.ReadLine xs f ne = refl
has-one B.Error [] f ne = absurd (ne refl)
has-one B.Error (x ∷ xs) f ne = absurd (ne refl)

-- ---- fresh variables are numbered on
pub freshened-is : (k : ℕ) (is xs : List ℕ) (n : ℕ) → Freshened k is xs (fresh_at k is xs n) (tests_at k is xs n)
freshened-is k is [] n = refl
freshened-is k is (x ∷ xs) n = at (is_in k is) refl (freshened-is (suc k) is xs (suc n)) (freshened-is (suc k) is xs n)
  where
    at : (t : Bool) → is_in k is ≡ t → Freshened (suc k) is xs (fresh_at (suc k) is xs (suc n)) (tests_at (suc k) is xs (suc n)) → Freshened (suc k) is xs (fresh_at (suc k) is xs n) (tests_at (suc k) is xs n) →
        Freshened k is (x ∷ xs) (cond t (n ∷ fresh_at (suc k) is xs (suc n)) (x ∷ fresh_at (suc k) is xs n)) (cond t ((n, x) ∷ tests_at (suc k) is xs (suc n)) (tests_at (suc k) is xs n))
    at true e f g = subst (λ u. FreshenedHere u x n ((n, x) ∷ tests_at (suc k) is xs (suc n)) (Freshened (suc k) is xs (fresh_at (suc k) is xs (suc n)))) (sym e) (refl, f)
    at false e f g = subst (λ u. FreshenedHere u x x (tests_at (suc k) is xs n) (Freshened (suc k) is xs (fresh_at (suc k) is xs n))) (sym e) (refl, g)

pub firsts-range : (k : ℕ) (is xs : List ℕ) (n x : ℕ) → In x (firsts (tests_at k is xs n)) → (n ≤ x) × (x < n + length (tests_at k is xs n))
firsts-range k is [] n x i = absurd i
firsts-range k is (y ∷ xs) n x i = at (is_in k is) i (firsts-range (suc k) is xs (suc n) x) (firsts-range (suc k) is xs n x)
  where
    at : (t : Bool) → In x (firsts (cond t ((n, y) ∷ tests_at (suc k) is xs (suc n)) (tests_at (suc k) is xs n))) →
        (In x (firsts (tests_at (suc k) is xs (suc n))) → (suc n ≤ x) × (x < suc n + length (tests_at (suc k) is xs (suc n)))) →
        (In x (firsts (tests_at (suc k) is xs n)) → (n ≤ x) × (x < n + length (tests_at (suc k) is xs n))) → (n ≤ x) × (x < n + length (cond t ((n, y) ∷ tests_at (suc k) is xs (suc n)) (tests_at (suc k) is xs n)))
    at true j f g = ⊎_elim (λ e. (omega (arith, e), omega (arith, e))) (λ r. (let q = f r in (omega (arith, q), omega (arith, q)))) j
    at false j f g = g j

pub firsts-distinct : (k : ℕ) (is xs : List ℕ) (n : ℕ) → Distinct (firsts (tests_at k is xs n))
firsts-distinct k is [] n = tt
firsts-distinct k is (y ∷ xs) n = at (is_in k is) (firsts-distinct (suc k) is xs (suc n)) (firsts-distinct (suc k) is xs n)
  where
    at : (t : Bool) → Distinct (firsts (tests_at (suc k) is xs (suc n))) → Distinct (firsts (tests_at (suc k) is xs n)) → Distinct (firsts (cond t ((n, y) ∷ tests_at (suc k) is xs (suc n)) (tests_at (suc k) is xs n)))
    at true f g = ((λ i. (let q = (firsts-range (suc k) is xs (suc n) n i).0 in omega (arith, q))), f)
    at false f g = g

-- ---- arguments with fresh variables at implied places, place by place
abbrev pub is_no_output : Mode → Bool
is_no_output m = is_bound m.0 || not (is_bound m.1)

pub data Fresh : (n : ℕ) → (ℕ → Bool) → List Mode → (xs zs : List ℕ) → List (ℕ × ℕ) → Type 0 where
  none : {n : ℕ} {g : ℕ → Bool} → Fresh n g [] [] [] []
  stands : {n : ℕ} {g : ℕ → Bool} {m : Mode} {ms : List Mode} {x : ℕ} {xs zs : List ℕ} {ts : List (ℕ × ℕ)} → is_no_output m ≡ true → Fresh n g ms xs zs ts → Fresh n g (m ∷ ms) (x ∷ xs) (x ∷ zs) ts
  replaced : {n : ℕ} {g : ℕ → Bool} {m : Mode} {ms : List Mode} {x : ℕ} {xs zs : List ℕ} {ts : List (ℕ × ℕ)} → is_no_output m ≡ false → g x ≡ true → Fresh (suc n) g ms xs zs ts → Fresh n g (m ∷ ms) (x ∷ xs) (n ∷ zs) ((n, x) ∷ ts)
  given : {n : ℕ} {g : ℕ → Bool} {m : Mode} {ms : List Mode} {x : ℕ} {xs zs : List ℕ} {ts : List (ℕ × ℕ)} → is_no_output m ≡ false → g x ≡ false → Fresh n (λ y. cond (nat_eq y x) true (g y)) ms xs zs ts →
      Fresh n g (m ∷ ms) (x ∷ xs) (x ∷ zs) ts

places-from : (k : ℕ) (ms : List Mode) (xs : List ℕ) (g : ℕ → Bool) (j : ℕ) → is_in j (implied_places k ms xs g) ≡ true → k ≤ j
places-from k [] xs g j e = cc
places-from k (m ∷ ms) [] g j e = cc
places-from k (m ∷ ms) (x ∷ xs) g j e =
    at (is_no_output m) (g x) e (λ q. (let r = places-from (suc k) ms xs g j q in omega (arith, r))) (λ q. (let r = places-from (suc k) ms xs (λ y. cond (nat_eq y x) true (g y)) j q in omega (arith, r)))
  where
    here_or : (t : Bool) → nat_eq j k ≡ t → cond t true (is_in j (implied_places (suc k) ms xs g)) ≡ true → (is_in j (implied_places (suc k) ms xs g) ≡ true → k ≤ j) → k ≤ j
    here_or true q h f = subst (λ l. k ≤ l) (sym (eqb-true j k q)) (le_refl k)
    here_or false q h f = f h

    at : (u v : Bool) → is_in j (cond u (implied_places (suc k) ms xs g) (cond v (k ∷ implied_places (suc k) ms xs g) (implied_places (suc k) ms xs (λ y. cond (nat_eq y x) true (g y))))) ≡ true → (is_in j (implied_places (suc k) ms xs g) ≡ true → k ≤ j) →
        (is_in j (implied_places (suc k) ms xs (λ y. cond (nat_eq y x) true (g y))) ≡ true → k ≤ j) → k ≤ j
    at true v h f h2 = f h
    at false true h f h2 = here_or (nat_eq j k) refl h f
    at false false h f h2 = h2 h

no-place : (k : ℕ) (ms : List Mode) (xs : List ℕ) (g : ℕ → Bool) → is_in k (implied_places (suc k) ms xs g) ≡ false
no-place k ms xs g = at (is_in k (implied_places (suc k) ms xs g)) (places-from (suc k) ms xs g k)
  where
    at : (t : Bool) → (t ≡ true → suc k ≤ k) → t ≡ false
    at true f = absurd (omega (arith, f refl))
    at false f = refl

abbrev pub Agrees : ℕ → List ℕ → List ℕ → Type 0
Agrees k is places = (j : ℕ) → k ≤ j → is_in j is ≡ is_in j places

pub fresh-view : (k : ℕ) (ms : List Mode) (xs : List ℕ) (g : ℕ → Bool) (is : List ℕ) (n : ℕ) → length ms ≡ length xs → Agrees k is (implied_places k ms xs g) → Fresh n g ms xs (fresh_at k is xs n) (tests_at k is xs n)
fresh-view k [] [] g is n e h = none
fresh-view k [] (x ∷ xs) g is n e h = cc
fresh-view k (m ∷ ms) [] g is n e h = cc
fresh-view k (m ∷ ms) (x ∷ xs) g is n e h =
    at (is_no_output m) refl (g x) refl h (λ a. fresh-view (suc k) ms xs g is n shorter a) (λ a. fresh-view (suc k) ms xs g is (suc n) shorter a) (λ a. fresh-view (suc k) ms xs (λ y. cond (nat_eq y x) true (g y)) is n shorter a)
  where
    shorter : length ms ≡ length xs
    shorter = (let q : suc (length ms) ≡ suc (length xs) = e in cc)

    more : ℕ → Bool
    more y = cond (nat_eq y x) true (g y)

    at : (u : Bool) → is_no_output m ≡ u → (v : Bool) → g x ≡ v → Agrees k is (cond u (implied_places (suc k) ms xs g) (cond v (k ∷ implied_places (suc k) ms xs g) (implied_places (suc k) ms xs (λ y. cond (nat_eq y x) true (g y))))) →
        (Agrees (suc k) is (implied_places (suc k) ms xs g) → Fresh n g ms xs (fresh_at (suc k) is xs n) (tests_at (suc k) is xs n)) →
        (Agrees (suc k) is (implied_places (suc k) ms xs g) → Fresh (suc n) g ms xs (fresh_at (suc k) is xs (suc n)) (tests_at (suc k) is xs (suc n))) →
        (Agrees (suc k) is (implied_places (suc k) ms xs (λ y. cond (nat_eq y x) true (g y))) → Fresh n (λ y. cond (nat_eq y x) true (g y)) ms xs (fresh_at (suc k) is xs n) (tests_at (suc k) is xs n)) →
        Fresh n g (m ∷ ms) (x ∷ xs) (cond (is_in k is) (n ∷ fresh_at (suc k) is xs (suc n)) (x ∷ fresh_at (suc k) is xs n)) (cond (is_in k is) ((n, x) ∷ tests_at (suc k) is xs (suc n)) (tests_at (suc k) is xs n))
    at true p v q a r1 r2 r3 =
        subst (λ t. Fresh n g (m ∷ ms) (x ∷ xs) (cond t (n ∷ fresh_at (suc k) is xs (suc n)) (x ∷ fresh_at (suc k) is xs n)) (cond t ((n, x) ∷ tests_at (suc k) is xs (suc n)) (tests_at (suc k) is xs n)))
        (sym (a k (le_refl k) ∙ no-place k ms xs g)) (stands p (r1 (λ j le. a j (omega (arith, le)))))
    at false p true q a r1 r2 r3 =
        subst (λ t. Fresh n g (m ∷ ms) (x ∷ xs) (cond t (n ∷ fresh_at (suc k) is xs (suc n)) (x ∷ fresh_at (suc k) is xs n)) (cond t ((n, x) ∷ tests_at (suc k) is xs (suc n)) (tests_at (suc k) is xs n)))
        (sym (a k (le_refl k) ∙ ap (λ t. cond t true (is_in k (implied_places (suc k) ms xs g))) (is-same k)))
        (replaced p q (r2 (λ j le. a j (omega (arith, le)) ∙ ap (λ t. cond t true (is_in j (implied_places (suc k) ms xs g))) (is-other j k (λ e. omega (arith, le, e))))))
    at false p false q a r1 r2 r3 =
        subst (λ t. Fresh n g (m ∷ ms) (x ∷ xs) (cond t (n ∷ fresh_at (suc k) is xs (suc n)) (x ∷ fresh_at (suc k) is xs n)) (cond t ((n, x) ∷ tests_at (suc k) is xs (suc n)) (tests_at (suc k) is xs n)))
        (sym (a k (le_refl k) ∙ no-place k ms xs (λ y. cond (nat_eq y x) true (g y)))) (given p q (r3 (λ j le. a j (omega (arith, le)))))

-- ---- no output is implied then
abbrev pub Alike : ℕ → (f g : ℕ → Bool) → Type 0
Alike k f g = (y : ℕ) → y < k → f y ≡ g y

abbrev pub FreeOn : ℕ → (ℕ → Bool) → Type 0
FreeOn n f = (y : ℕ) → n ≤ y → f y ≡ false

head-below : (k x : ℕ) (xs : List ℕ) → Below k (x ∷ xs) → x < k
head-below k x xs p = p x (inl refl)

tail-below : (k x : ℕ) (xs : List ℕ) → Below k (x ∷ xs) → Below k xs
tail-below k x xs p y i = p y (inr i)

alike-fresh : (k n : ℕ) (f g : ℕ → Bool) → k ≤ n → Alike k f g → Alike k (λ y. cond (nat_eq y n) true (f y)) g
alike-fresh k n f g le a y lt = ap (λ t. cond t true (f y)) (is-other y n (λ e. omega (arith, le, lt, e))) ∙ a y lt

free-fresh : (n : ℕ) (f : ℕ → Bool) → FreeOn n f → FreeOn (suc n) (λ y. cond (nat_eq y n) true (f y))
free-fresh n f h y le = ap (λ t. cond t true (f y)) (is-other y n (λ e. omega (arith, le, e))) ∙ h y (omega (arith, le))

alike-both : (k x : ℕ) (f g : ℕ → Bool) → Alike k f g → Alike k (λ y. cond (nat_eq y x) true (f y)) (λ y. cond (nat_eq y x) true (g y))
alike-both k x f g a y lt = ap (λ t. cond (nat_eq y x) true t) (a y lt)

free-other : (k n x : ℕ) (f : ℕ → Bool) → k ≤ n → x < k → FreeOn n f → FreeOn n (λ y. cond (nat_eq y x) true (f y))
free-other k n x f le lt h y ly = ap (λ t. cond t true (f y)) (is-other y x (λ e. omega (arith, le, lt, ly, e))) ∙ h y ly

pub none-implied : (k : ℕ) {n : ℕ} {g : ℕ → Bool} {ms : List Mode} {xs zs : List ℕ} {ts : List (ℕ × ℕ)} → Fresh n g ms xs zs ts → (place : ℕ) (f : ℕ → Bool) → k ≤ n → Below k xs → Alike k f g → FreeOn n f → implied_places place ms zs f ≡ []
none-implied k none place f le bx a h = refl
none-implied k (stands {g = g} {m = m} {ms = ms} {x = x} {xs = xs} {zs = zs} p v) place f le bx a h =
    ap (λ t. cond t (implied_places (suc place) ms zs f) (cond (f x) (place ∷ implied_places (suc place) ms zs f) (implied_places (suc place) ms zs (λ y. cond (nat_eq y x) true (f y))))) p ∙ none-implied k v (suc place) f le (tail-below k x xs bx) a h
none-implied k (replaced {n = n} {g = g} {m = m} {ms = ms} {x = x} {xs = xs} {zs = zs} p q v) place f le bx a h =
    ap (λ t. cond t (implied_places (suc place) ms zs f) (cond (f n) (place ∷ implied_places (suc place) ms zs f) (implied_places (suc place) ms zs (λ y. cond (nat_eq y n) true (f y))))) p
    ∙ ap (λ t. cond t (place ∷ implied_places (suc place) ms zs f) (implied_places (suc place) ms zs (λ y. cond (nat_eq y n) true (f y)))) (h n (le_refl n))
    ∙ none-implied k v (suc place) (λ y. cond (nat_eq y n) true (f y)) (omega (arith, le)) (tail-below k x xs bx) (alike-fresh k n f g le a) (free-fresh n f h)
none-implied k (given {n = n} {g = g} {m = m} {ms = ms} {x = x} {xs = xs} {zs = zs} p q v) place f le bx a h =
    ap (λ t. cond t (implied_places (suc place) ms zs f) (cond (f x) (place ∷ implied_places (suc place) ms zs f) (implied_places (suc place) ms zs (λ y. cond (nat_eq y x) true (f y))))) p
    ∙ ap (λ t. cond t (place ∷ implied_places (suc place) ms zs f) (implied_places (suc place) ms zs (λ y. cond (nat_eq y x) true (f y)))) (a x (head-below k x xs bx) ∙ q)
    ∙ none-implied k v (suc place) (λ y. cond (nat_eq y x) true (f y)) le (tail-below k x xs bx) (alike-both k x f g a) (free-other k n x f le (head-below k x xs bx) h)

-- ---- the mode is usable then
pub times-fewer : (k z : ℕ) {n : ℕ} {g : ℕ → Bool} {ms : List Mode} {xs zs : List ℕ} {ts : List (ℕ × ℕ)} → z < k → k ≤ n → Fresh n g ms xs zs ts → times_in z zs ≤ times_in z xs
times-fewer k z lt le none = le_refl 0
times-fewer k z lt le (stands {x = x} {xs = xs} {zs = zs} p v) = at (nat_eq z x) (times-fewer k z lt le v)
  where
    at : (t : Bool) → times_in z zs ≤ times_in z xs → cond t (suc (times_in z zs)) (times_in z zs) ≤ cond t (suc (times_in z xs)) (times_in z xs)
    at true h = omega (arith, h)
    at false h = h
times-fewer k z lt le (replaced {n = n} {x = x} {xs = xs} {zs = zs} p q v) =
    subst (λ t. cond t (suc (times_in z zs)) (times_in z zs) ≤ times_in z (x ∷ xs)) (sym (is-other z n (λ e. omega (arith, lt, le, e)))) (at (nat_eq z x) (times-fewer k z lt (omega (arith, le)) v))
  where
    at : (t : Bool) → times_in z zs ≤ times_in z xs → times_in z zs ≤ cond t (suc (times_in z xs)) (times_in z xs)
    at true h = omega (arith, h)
    at false h = h
times-fewer k z lt le (given {x = x} {xs = xs} {zs = zs} p q v) = at (nat_eq z x) (times-fewer k z lt le v)
  where
    at : (t : Bool) → times_in z zs ≤ times_in z xs → cond t (suc (times_in z zs)) (times_in z zs) ≤ cond t (suc (times_in z xs)) (times_in z xs)
    at true h = omega (arith, h)
    at false h = h

once-at-least : (z : ℕ) (zs : List ℕ) → In z zs → 1 ≤ times_in z zs
once-at-least z [] i = absurd i
once-at-least z (x ∷ zs) i = ⊎_elim (λ e. subst (λ t. 1 ≤ cond t (suc (times_in z zs)) (times_in z zs)) (sym (eq-eqb z x e)) (omega arith)) (λ j. at (nat_eq z x) (once-at-least z zs j)) i
  where
    at : (t : Bool) → 1 ≤ times_in z zs → 1 ≤ cond t (suc (times_in z zs)) (times_in z zs)
    at true h = omega (arith, h)
    at false h = h

module _ (Y : System) (T : ℕ → TypeTerm) where
  usable-each : (k : ℕ) (all whole : List ℕ) (b : Insts) → ((z : ℕ) → z < k → In z whole → times_in z all ≡ 1 → times_in z whole ≡ 1) → {n : ℕ} {g : ℕ → Bool} {ms : List Mode} {xs zs : List ℕ} {ts : List (ℕ × ℕ)} → Fresh n g ms xs zs ts → Below k xs →
      ((z : ℕ) → In z zs → In z whole) → UsableAt Y T all ms xs b → UsableAt Y T whole ms zs b
  usable-each k all whole b tm none bx w u = tt
  usable-each k all whole b tm (stands {x = x} {xs = xs} p v) bx w u =
      ((λ ne. ((u.0 ne).0, (u.0 ne).1, λ d. tm x (head-below k x xs bx) (w x (inl refl)) ((u.0 ne).2 d))), usable-each k all whole b tm v (tail-below k x xs bx) (λ z i. w z (inr i)) u.1)
  usable-each k all whole b tm (replaced {m = m} {x = x} {xs = xs} p q v) bx w u = ((λ ne. absurd (ne (is-unset m.0 (or-first (is_bound m.0) (not (is_bound m.1)) p)))), usable-each k all whole b tm v (tail-below k x xs bx) (λ z i. w z (inr i)) u.1)
  usable-each k all whole b tm (given {m = m} {x = x} {xs = xs} p q v) bx w u = ((λ ne. absurd (ne (is-unset m.0 (or-first (is_bound m.0) (not (is_bound m.1)) p)))), usable-each k all whole b tm v (tail-below k x xs bx) (λ z i. w z (inr i)) u.1)

  pub usable-freshly : (k : ℕ) (b : Insts) {n : ℕ} {g : ℕ → Bool} {ms : List Mode} {xs zs : List ℕ} {ts : List (ℕ × ℕ)} → Fresh n g ms xs zs ts → k ≤ n → Below k xs → UsableAt Y T xs ms xs b → UsableAt Y T zs ms zs b
  usable-freshly k b {xs = xs} {zs = zs} v le bx u =
      usable-each k xs zs b (λ z lt i e. (let p = times-fewer k z lt le v in let q = once-at-least z zs i in omega (arith, p, q, e))) v bx (λ z i. i) u

  -- ---- and each tested variable is bound
  set-more : (x l : ℕ) (b : Insts) (y : ℕ) → l ≢ 0 → b y ≢ 0 → also x l b y ≢ 0
  set-more x l b y nl nb = at (nat_eq y x)
    where
      at : (t : Bool) → cond t l (b y) ≢ 0
      at true = nl
      at false = nb

  set-here : (x l : ℕ) (b : Insts) → l ≢ 0 → also x l b x ≢ 0
  set-here x l b nl = subst (λ t. cond t l (b x) ≢ 0) (sym (is-same x)) nl

  pub set-stays : {f : ℕ → Bool} {ms : List Mode} {xs : List ℕ} {b c : Insts} → AfterArguments Y T f ms xs b c → NoneFreed ms → (y : ℕ) → b y ≢ 0 → c y ≢ 0
  set-stays no_more h y nb = nb
  set-stays (not_passed a) h y nb = set-stays a h.1 y nb
  set-stays (output {b = b} {x = x} {l = l} p q a) h y nb = set-stays a h.1 y (set-more x l b y p nb)
  set-stays (implied p q a) h y nb = set-stays a h.1 y nb
  set-stays (dies {b = b} {x = x} {l = l} p q a) h y nb = set-stays a h.1 y (set-more x l b y (h.0 p) nb)
  set-stays (keeps p q r a) h y nb = set-stays a h.1 y nb
  set-stays (becomes {b = b} {x = x} {l = l} p q r a) h y nb = set-stays a h.1 y (set-more x l b y (h.0 p) nb)

  abbrev pub AllSet : Insts → List (ℕ × ℕ) → Type 0
  AllSet c [] = Unit {0}
  AllSet c (t ∷ ts) = ((c t.0 ≢ 0) × (c t.1 ≢ 0)) × AllSet c ts

  abbrev pub Known : ℕ → (ℕ → Bool) → Insts → Type 0
  Known k g b = (y : ℕ) → y < k → g y ≡ true → b y ≢ 0

  known-more : (k x l : ℕ) (g : ℕ → Bool) (b : Insts) → l ≢ 0 → Known k g b → Known k g (also x l b)
  known-more k x l g b nl h y lt e = set-more x l b y nl (h y lt e)

  known-new : (k x l : ℕ) (g : ℕ → Bool) (b : Insts) → l ≢ 0 → Known k g b → Known k (λ y. cond (nat_eq y x) true (g y)) (also x l b)
  known-new k x l g b nl h y lt e = at (nat_eq y x) e
    where
      at : (t : Bool) → cond t true (g y) ≡ true → cond t l (b y) ≢ 0
      at true q = nl
      at false q = h y lt q

  no-output-bound : (i l : ℕ) → i ≢ 0 → (is_bound i || not (is_bound l)) ≡ false → ⊥
  no-output-bound i l ne p = not-both (is_bound i) (bound-set i ne) (or-first (is_bound i) (not (is_bound l)) p)

  output-not : (l : ℕ) → l ≢ 0 → (is_bound 0 || not (is_bound l)) ≡ true → ⊥
  output-not l ne p = not-both (not (is_bound l)) p (ap not (bound-set l ne))

  pub tests-set : (k : ℕ) {n : ℕ} {g : ℕ → Bool} {ms : List Mode} {xs zs : List ℕ} {ts : List (ℕ × ℕ)} → Fresh n g ms xs zs ts → {f : ℕ → Bool} {b c : Insts} → AfterArguments Y T f ms zs b c → NoneFreed ms → k ≤ n → Below k xs → Alike k f g → FreeOn n f →
      Known k g b → AllSet c ts
  tests-set k none a h le bx al fr kn = tt
  tests-set k (stands {x = x} {xs = xs} p v) (not_passed a) h le bx al fr kn = tests-set k v a h.1 le (tail-below k x xs bx) al fr kn
  tests-set k (stands {x = x} {xs = xs} p v) (output {l = l} q r a) h le bx al fr kn = absurd (output-not l q p)
  tests-set k (stands {x = x} {xs = xs} p v) (implied {l = l} q r a) h le bx al fr kn = absurd (output-not l q p)
  tests-set k (stands {g = g} {x = x} {xs = xs} p v) (dies {b = b} {l = l} q r a) h le bx al fr kn = tests-set k v a h.1 le (tail-below k x xs bx) al fr (known-more k x l g b (h.0 q) kn)
  tests-set k (stands {x = x} {xs = xs} p v) (keeps q r s a) h le bx al fr kn = tests-set k v a h.1 le (tail-below k x xs bx) al fr kn
  tests-set k (stands {g = g} {x = x} {xs = xs} p v) (becomes {b = b} {l = l} q r s a) h le bx al fr kn = tests-set k v a h.1 le (tail-below k x xs bx) al fr (known-more k x l g b (h.0 q) kn)
  tests-set k (replaced {n = n} {x = x} {xs = xs} p q v) (not_passed a) h le bx al fr kn = cc
  tests-set k (replaced {n = n} {g = g} {x = x} {xs = xs} p q v) (output {is_there = f} {b = b} {l = l} r s a) h le bx al fr kn = (
    (set-stays a h.1 n (set-here n l b r), set-stays a h.1 x (set-more n l b x r (kn x (head-below k x xs bx) q))),
    tests-set k v a h.1 (omega (arith, le)) (tail-below k x xs bx) (alike-fresh k n f g le al) (free-fresh n f fr) (known-more k n l g b r kn),
  )
  tests-set k (replaced {n = n} {x = x} {xs = xs} p q v) (implied {is_there = f} r s a) h le bx al fr kn = absurd (not-both (f n) s (fr n (le_refl n)))
  tests-set k (replaced p q v) (dies {i = i} {l = l} r s a) h le bx al fr kn = absurd (no-output-bound i l r p)
  tests-set k (replaced p q v) (keeps {i = i} {l = l} r s t a) h le bx al fr kn = absurd (no-output-bound i l r p)
  tests-set k (replaced p q v) (becomes {i = i} {l = l} r s t a) h le bx al fr kn = absurd (no-output-bound i l r p)
  tests-set k (given p q v) (not_passed a) h le bx al fr kn = cc
  tests-set k (given {n = n} {g = g} {x = x} {xs = xs} p q v) (output {is_there = f} {b = b} {l = l} r s a) h le bx al fr kn =
      tests-set k v a h.1 le (tail-below k x xs bx) (alike-both k x f g al) (free-other k n x f le (head-below k x xs bx) fr) (known-new k x l g b r kn)
  tests-set k (given {g = g} {x = x} {xs = xs} p q v) (implied {is_there = f} r s a) h le bx al fr kn = absurd (not-both (f x) s (al x (head-below k x xs bx) ∙ q))
  tests-set k (given p q v) (dies {i = i} {l = l} r s a) h le bx al fr kn = absurd (no-output-bound i l r p)
  tests-set k (given p q v) (keeps {i = i} {l = l} r s t a) h le bx al fr kn = absurd (no-output-bound i l r p)
  tests-set k (given p q v) (becomes {i = i} {l = l} r s t a) h le bx al fr kn = absurd (no-output-bound i l r p)

  -- ---- and each test compares values of one type
  pub alike-before : (next : ℕ) (ns ms : Nodes) → AllAlike T next (nodes_before ns ms) → AllAlike T next ns × AllAlike T next ms
  alike-before next no_nodes ms h = (tt, h)
  alike-before next (node_then n ns) ms h = (let r = alike-before next ns ms h.1 in ((h.0, r.0), r.1))

  pub tests-in-order : (next k : ℕ) (is xs : List ℕ) (n : ℕ) (c : Insts) → next ≤ n → AllAlike T next (test_nodes (tests_at k is xs n)) → AllSet c (tests_at k is xs n) → TestsInOrder Y T (tests_at k is xs n) c
  tests-in-order next k is [] n c le p q = tt
  tests-in-order next k is (x ∷ xs) n c le p q = at (is_in k is) p q (λ h s. tests-in-order next (suc k) is xs (suc n) c (omega (arith, le)) h s) (λ h s. tests-in-order next (suc k) is xs n c le h s)
    where
      more : List (ℕ × ℕ)
      more = tests_at (suc k) is xs (suc n)

      rest : List (ℕ × ℕ)
      rest = tests_at (suc k) is xs n

      at : (t : Bool) → AllAlike T next (test_nodes (cond t ((n, x) ∷ more) rest)) → AllSet c (cond t ((n, x) ∷ more) rest) → (AllAlike T next (test_nodes more) → AllSet c more → TestsInOrder Y T more c) →
          (AllAlike T next (test_nodes rest) → AllSet c rest → TestsInOrder Y T rest c) → TestsInOrder Y T (cond t ((n, x) ∷ more) rest) c
      at true p q f g = (p.0 le, q.0.0, q.0.1, f p.1 q.1)
      at false p q f g = g p q

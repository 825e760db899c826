-- Goals that sleep by their parts.
use Rattle.std.proofs.Common.{◌≡◌, ◌∙◌, ◌⊎◌, inl, inr, ⊎_elim, true≢false, ℕ, zero, suc, ◌<◌, ◌≤◌, ◌+◌, ◌-◌, Bool, true, false, ◌&&◌, List, [], ◌∷◌, ◌++◌, map, length, get_or, take, drop, Result, Ok, Err, IfOk, IsTrue, refl, sym, ap, ap₂, subst, arith}
use Rattle.std.specs.Bool.{◌==◌}
use Rattle.std.specs.List.{list_all, remove}
use Rattle.std.proofs.lemmas.List.{take-map, drop-map, length-drop, get_or-map, length-map}
use Rattle.std.proofs.Math.Nat.{eq-or-lt_of_le}
use Rattle.mc_program.specs.Programs.{Source}
use Rattle.mc_program.specs.declared.program.Program.{Program}
use Rattle.mc_model.specs.Flat as F
use Rattle.mc_model.specs.Flat.{Flat_goal, flats, variables_of, variables_of_all}
use Rattle.mc_model.specs.PlainGoals.{plain_flat}
use Rattle.mc_model.specs.declared.flat.Flat.{Flat}
use Rattle.mc_accepted.specs.Arranged.{Declared}
use Rattle.mc_procs.specs.Named.{NumbersBelow}
use Rattle.mc_procs.specs.Procedures.{PlainProcs}
use Rattle.mc_mode_state.specs.declared.state.State.{State}
use Rattle.mc_modes.specs.Fitting.{Known, AllKnown, GoalFits, GoalsFit}
use Rattle.mc_modes.specs.code.Waiting.{nothing}
use Rattle.mc_modes.specs.code.Sleeping.{Asleep, in_first, changed_by, changed_by_each}
use Rattle.mc_modes.proofs.Fits.{known-at, goal-at, below-goal}

pub both-true : (s t : Bool) → s ≡ true → t ≡ true → (s && t) ≡ true
both-true s t e f = ap₂ (λ (a b : Bool). a && b) e f

-- what a goal's sleep is of another one's
pub sleeps-by : {E : Type 0} (res : Result Bool E) (X Y : Type 0) → (X → Y) → IfOk res (λ b. IsTrue b → X) → IfOk res (λ b. IsTrue b → Y)
sleeps-by (Ok b) X Y f h = λ i. f (h i)
sleeps-by (Err e) X Y f h = tt

-- a disjunction by its first branch
pub or-first : (P : Source) (declared : ℕ → List Declared) (s : State) (vs : List ℕ) (gs : List Flat) (x : Flat) → 0 < length gs → x ≡ get_or gs 0 x → Asleep P declared s vs (plain_flat x) → Asleep P declared s vs (F.Or (flats (map plain_flat gs)))
or-first P declared s vs [] x h e a = absurd (omega arith)
or-first P declared s vs (y ∷ ys) x h e a = in_first (subst (λ (z : Flat). Asleep P declared s vs (plain_flat z)) e a)

-- all but one are so
from-all : {A : Type 0} (f : A → Bool) (d : A) (gs : List A) → ((j : ℕ) → j < length gs → f (get_or gs j d) ≡ true) → list_all f gs ≡ true
from-all f d [] h = refl
from-all f d (g ∷ gs) h = both-true (f g) (list_all f gs) (h 0 (omega arith)) (from-all f d gs (λ j l. h (suc j) (omega (arith, l))))

pub all-but : {A : Type 0} (f : A → Bool) (d : A) (gs : List A) (k : ℕ) → ((j : ℕ) → j < length gs → (j ≡ k → ⊥) → f (get_or gs j d) ≡ true) → list_all f (remove gs k) ≡ true
all-but f d [] zero h = refl
all-but f d [] (suc k) h = refl
all-but f d (g ∷ gs) zero h = from-all f d gs (λ j l. h (suc j) (omega (arith, l)) (λ e. omega (arith, e)))
all-but f d (g ∷ gs) (suc k) h =
    both-true (f g) (list_all f (remove gs k)) (h 0 (omega arith) (λ e. omega (arith, e)))
    (all-but f d gs k (λ j l n. h (suc j) (omega (arith, l)) (λ e. n (omega (arith, e)))))

join-assoc : (xs ys zs : List ℕ) → (xs ++ ys) ++ zs ≡ xs ++ (ys ++ zs)
join-assoc [] ys zs = refl
join-assoc (x ∷ xs) ys zs = ap (λ us. x ∷ us) (join-assoc xs ys zs)

each-append : (gs hs : List Flat_goal) → changed_by_each (gs ++ hs) ≡ changed_by_each gs ++ changed_by_each hs
each-append [] hs = refl
each-append (g ∷ gs) hs = ap (λ vs. changed_by g ++ vs) (each-append gs hs) ∙ sym (join-assoc (changed_by g) (changed_by_each gs) (changed_by_each hs))

take-long : {A : Type 0} (n : ℕ) (xs : List A) → length xs ≤ n → take n xs ≡ xs
take-long zero [] h = refl
take-long (suc n) [] h = refl
take-long zero (x ∷ xs) h = absurd (omega (arith, h))
take-long (suc n) (x ∷ xs) h = ap (λ ys. x ∷ ys) (take-long n xs (omega (arith, h)))

rest-whole : {A : Type 0} (xs : List A) (k : ℕ) → take (length xs - k) (drop k xs) ≡ drop k xs
rest-whole xs k = take-long (length xs - k) (drop k xs) (omega (arith, length-drop k xs))

pub others-are : (gs : List Flat) (k : ℕ) → changed_by_each (map plain_flat (take k gs)) ++ changed_by_each (map plain_flat (take (length gs - (k + 1)) (drop (k + 1) gs))) ≡ changed_by_each (remove (map plain_flat gs) k)
others-are gs k =
    ap₂ (λ (xs ys : List ℕ). xs ++ ys) (ap changed_by_each (sym (take-map plain_flat k gs)))
    (ap (λ (hs : List Flat). changed_by_each (map plain_flat hs)) (rest-whole gs (k + 1)) ∙ ap changed_by_each (sym (drop-map plain_flat (k + 1) gs)))
    ∙ (sym (each-append (take k (map plain_flat gs)) (drop (k + 1) (map plain_flat gs)))
    ∙ ap (λ m. changed_by_each (take k (map plain_flat gs) ++ drop m (map plain_flat gs))) (let e : k + 1 ≡ suc k = omega arith in e))

-- the goal in a place
pub goal-is : (gs : List Flat) (k : ℕ) (x : Flat) → k < length gs → x ≡ get_or gs k x → plain_flat x ≡ get_or (map plain_flat gs) k nothing
goal-is gs k x h e = ap plain_flat e ∙ sym (get_or-map plain_flat gs k x nothing h)

pub goal-in : (q : PlainProcs) (s : State) (gs : List Flat) (k : ℕ) (x : Flat) → k < length gs → x ≡ get_or gs k x → GoalsFit q s (flats (map plain_flat gs)) → GoalFits q s (plain_flat x)
goal-in q s gs k x h e f = subst (GoalFits q s) (sym (goal-is gs k x h e)) (goal-at q s (map plain_flat gs) k nothing f (omega (arith, h, length-map gs plain_flat)))

pub some-there : {A : Type 0} (xs : List A) (empty : Bool) → empty ≡ (length xs == 0) → empty ≡ false → 0 < length xs
some-there [] empty e f = absurd (true≢false (sym e ∙ f))
some-there (x ∷ xs) empty e f = omega arith

apart : (j k : ℕ) → (j ≡ k → ⊥) → (j < k) ⊎ (k + 1 ≤ j)
apart zero zero n = absurd (n refl)
apart zero (suc k) n = inl (omega arith)
apart (suc j) zero n = inr (omega arith)
apart (suc j) (suc k) n = ⊎_elim (λ h. inl (omega (arith, h))) (λ h. inr (omega (arith, h))) (apart j k (λ e. n (ap suc e)))

-- what is so before a place, and behind it
pub mild-beside : (f : Flat_goal → Bool) (d : Flat_goal) (gs : List Flat_goal) (k m j : ℕ) → ((i : ℕ) → 0 ≤ i → i < k → f (get_or gs i d) ≡ true) → ((i : ℕ) → k + 1 ≤ i → i < m → f (get_or gs i d) ≡ true)
    → (j ≡ k → ⊥) → j < m → f (get_or gs j d) ≡ true
mild-beside f d gs k m j before behind n l = ⊎_elim (λ h. before j (omega arith) h) (λ h. behind j h l) (apart j k n)

pub known-in : (P : Program) (gs : List Flat) (k : ℕ) (x : Flat) → k < length gs → x ≡ get_or gs k x → AllKnown P (flats (map plain_flat gs)) → Known P (plain_flat x)
known-in P gs k x h e w = subst (Known P) (sym (goal-is gs k x h e)) (known-at P (map plain_flat gs) k nothing w (omega (arith, h, length-map gs plain_flat)))

-- one more goal is so
pub mild-on : (f : Flat_goal → Bool) (gs : List Flat) (from k : ℕ) (x : Flat) → k < length gs → x ≡ get_or gs k x → ((j : ℕ) → from ≤ j → j < k → f (get_or (map plain_flat gs) j nothing) ≡ true)
    → f (plain_flat x) ≡ true → (j : ℕ) → from ≤ j → j < k + 1 → f (get_or (map plain_flat gs) j nothing) ≡ true
mild-on f gs from k x h e so is j l m =
    ⊎_elim (λ i. subst (λ n. f (get_or (map plain_flat gs) n nothing) ≡ true) (sym i) (ap f (sym (goal-is gs k x h e)) ∙ is)) (λ i. so j l i)
    (eq-or-lt_of_le (let n : j ≤ k = omega (arith, m) in n))

-- one more is so, but for a place
pub but-one-on : (F : ℕ → Type 0) (p k : ℕ) → ((i : ℕ) → i < k → (i ≡ p → ⊥) → F i) → ((k ≡ p → ⊥) → F k) → (i : ℕ) → i < k + 1 → (i ≡ p → ⊥) → F i
but-one-on F p k so is i l n =
    ⊎_elim (λ e. subst F (sym e) (is (λ q. n (e ∙ q)))) (λ h. so i h n) (eq-or-lt_of_le (let m : i ≤ k = omega (arith, l) in m))

pub below-in : (n : ℕ) (gs : List Flat) (k : ℕ) (x : Flat) → k < length gs → x ≡ get_or gs k x → NumbersBelow n (variables_of_all (flats (map plain_flat gs))) → NumbersBelow n (variables_of (plain_flat x))
below-in n gs k x h e w =
    subst (λ (g : Flat_goal). NumbersBelow n (variables_of g)) (sym (goal-is gs k x h e)) (below-goal n (map plain_flat gs) k nothing w (omega (arith, h, length-map gs plain_flat)))

pub joined : (all one two vs us ws : List ℕ) → all ≡ two ++ ws → two ≡ one ++ us → one ≡ vs → all ≡ vs ++ (us ++ ws)
joined all one two vs us ws e f g = e ∙ (ap (λ xs. xs ++ ws) (f ∙ ap (λ xs. xs ++ us) g) ∙ join-assoc vs us ws)

-- Atoms, and what branches leave, ask types of their own variables alone.
use Rattle.std.proofs.Common.{◌≡◌, ◌∙◌, ℕ, zero, suc, ◌<◌, ◌+◌, Bool, true, false, not, ◌&&◌, ◌||◌, nat_eq, if◌then◌else◌, List, [], ◌∷◌, map, get_or, length, Option, Some, None, refl, sym, ap, ap₂, subst, arith}
use Rattle.std.specs.List.{list_any}
use Rattle.std.proofs.lemmas.Bool.{eqb-true}
use Rattle.std.proofs.lemmas.Bool.Decides.{nat_tests}
use Rattle.mc_program.specs.Programs.{TypeTerm, Source}
use Rattle.mc_program.specs.declared.builtin.Builtin.{Builtin}
use Rattle.mc_model.specs.Flat as F
use Rattle.mc_model.specs.Lists.{is_in}
use Rattle.mc_model.specs.Stream.{is_bound}
use Rattle.mc_model.specs.Scheduled.{Scheduled, Nodes, node_then, Assign, Test, Call}
use Rattle.mc_accepted.specs.Arranged.{Point, Declared, Arranged, Branches, runs, breaks, lacks, all_run, one_breaks, with_inst, one, unless, branches_differ, negated_binds, wait, same, made, call_of, called, applied, applied_with, usable, best, better, implied_in, after_call, input_after, fresh_at, tests_at, test_nodes, changing, applying, built, take, atom, trial, is_there, or_free, merges, merged, those_in, differs, branched}
use Rattle.mc_accepted.specs.NodeOracle.{NodeOracle, of_nodes, other_node}
use Rattle.mc_accepted.specs.Least.{least}
use Rattle.mc_accepted.specs.Ordered.{Mode, is_state, times_in, implied_places, modes_of, builtin_most}
use Rattle.mc_source.specs.Determinism.{is_zero}
use Rattle.mc_procs.specs.Named.{NumbersBelow}

-- inputs are among the first variables
abbrev pub Inputs : ℕ → List Mode → List ℕ → Type 0
Inputs n [] zs = Unit {0}
Inputs n (m ∷ ms) [] = Unit {0}
Inputs n (m ∷ ms) (z ∷ zs) = (is_bound m.0 ≡ true → z < n) × Inputs n ms zs

inputs-below : (n : ℕ) (ms : List Mode) (xs : List ℕ) → NumbersBelow n xs → Inputs n ms xs
inputs-below n [] xs w = tt
inputs-below n (m ∷ ms) [] w = tt
inputs-below n (m ∷ ms) (x ∷ xs) w = (λ e. w.0, inputs-below n ms xs w.1)

none-before : (j k : ℕ) (ms : List Mode) (xs : List ℕ) (t : ℕ → Bool) → j < k → is_in j (implied_places k ms xs t) ≡ false
none-before j k [] xs t h = refl
none-before j k (m ∷ ms) [] t h = refl
none-before j k (m ∷ ms) (x ∷ xs) t h =
    at (is_bound m.0 || not (is_bound m.1)) (t x) (λ u. none-before j (suc k) ms xs u (omega arith))
  where
    other : nat_eq j k ≡ false
    other = grind (arith, nat_tests)

    at : (a b : Bool) → ((u : ℕ → Bool) → is_in j (implied_places (suc k) ms xs u) ≡ false)
        → is_in j (if a then implied_places (suc k) ms xs t else if b then k ∷ implied_places (suc k) ms xs t else implied_places (suc k) ms xs (λ y. if nat_eq y x then true else t y)) ≡ false
    at true b r = r t
    at false true r = ap (λ c. if c then true else is_in j (implied_places (suc k) ms xs t)) other ∙ r t
    at false false r = r (λ y. if nat_eq y x then true else t y)

abbrev mode_at : List Mode → ℕ → Mode
mode_at ms i = get_or ms i (0, 0)

-- implied places are outputs
outputs : (k i : ℕ) (ms : List Mode) (xs : List ℕ) (t : ℕ → Bool) → is_in (k + i) (implied_places k ms xs t) ≡ true → is_bound (mode_at ms i).0 ≡ false
outputs k i [] xs t h = absurd (cc h)
outputs k i (m ∷ ms) [] t h = absurd (cc h)
outputs k zero (m ∷ ms) (x ∷ xs) t h = at (is_bound m.0) (is_bound m.1) (t x) refl h
  where
    here : (k + 0) ≡ k
    here = omega arith

    none : (u : ℕ → Bool) → is_in (k + 0) (implied_places (suc k) ms xs u) ≡ false
    none u = none-before (k + 0) (suc k) ms xs u (omega arith)

    at : (a b c : Bool) → is_bound m.0 ≡ a
        → is_in (k + 0) (if a || not b then implied_places (suc k) ms xs t else if c then k ∷ implied_places (suc k) ms xs t else implied_places (suc k) ms xs (λ y. if nat_eq y x then true else t y)) ≡ true
        → is_bound m.0 ≡ false
    at true b c e g = absurd (cc (sym (none t) ∙ g))
    at false b c e g = e
outputs k (suc i) (m ∷ ms) (x ∷ xs) t h =
    at (λ u g. outputs (suc k) i ms xs u (ap (λ j. is_in j (implied_places (suc k) ms xs u)) (let e : suc k + i ≡ k + suc i = omega arith in e) ∙ g))
    (is_bound m.0 || not (is_bound m.1)) (t x) h
  where
    other : nat_eq (k + suc i) k ≡ false
    other = grind (arith, nat_tests)

    at : ((u : ℕ → Bool) → is_in (k + suc i) (implied_places (suc k) ms xs u) ≡ true → is_bound (mode_at ms i).0 ≡ false)
        → (a c : Bool)
        → is_in (k + suc i) (if a then implied_places (suc k) ms xs t else if c then k ∷ implied_places (suc k) ms xs t else implied_places (suc k) ms xs (λ y. if nat_eq y x then true else t y)) ≡ true
        → is_bound (mode_at ms i).0 ≡ false
    at rest true c g = rest t g
    at rest false true g = rest t (sym (ap (λ b. if b then true else is_in (k + suc i) (implied_places (suc k) ms xs t)) other) ∙ g)
    at rest false false g = rest (λ y. if nat_eq y x then true else t y) g

-- fresh variables stand at no input
fresh-inputs : (n k m : ℕ) (is : List ℕ) (ms : List Mode) (xs : List ℕ) → NumbersBelow n xs → ((i : ℕ) → is_in (k + i) is ≡ true → is_bound (mode_at ms i).0 ≡ false) → Inputs n ms (fresh_at k is xs m)
fresh-inputs n k m is [] xs w f = tt
fresh-inputs n k m is (d ∷ ms) [] w f = tt
fresh-inputs n k m is (d ∷ ms) (x ∷ xs) w f =
    at (λ l. fresh-inputs n (suc k) l is ms xs w.1 (λ i h. f (suc i) (ap (λ j. is_in j is) (let e : k + suc i ≡ suc k + i = omega arith in e) ∙ h)))
    (is_in k is) refl
  where
    at : ((l : ℕ) → Inputs n ms (fresh_at (suc k) is xs l)) → (t : Bool) → is_in k is ≡ t
        → Inputs n (d ∷ ms) (if t then m ∷ fresh_at (suc k) is xs (suc m) else x ∷ fresh_at (suc k) is xs m)
    at rest true e = (λ g. absurd (cc (sym (f 0 (ap (λ j. is_in j is) (let e : k + 0 ≡ k = omega arith in e) ∙ e)) ∙ g)), rest (suc m))
    at rest false e = (λ g. w.0, rest m)

module _ (C : NodeOracle) (P : Source) (declared : ℕ → List Declared) (T U : ℕ → TypeTerm) (first : ℕ) (h : (x : ℕ) → x < first → T x ≡ U x) where
  same-locally : (x y n : ℕ) (b : Point ℕ) → x < first → y < first → same (of_nodes C) P declared T x y n b ≡ same (of_nodes C) P declared U x y n b
  same-locally x y n b k l = ap₂ chosen (h x k) (h y l)
    where
      chosen : TypeTerm → TypeTerm → Arranged ℕ
      chosen t u =
          if is_bound (b x)
          then (if is_bound (b y)
          then (if is_state t then wait (of_nodes C) P declared T (x ∷ y ∷ []) b else one (of_nodes C) b (Test x y) (Some b) n)
          else one (of_nodes C) b (Assign y x) (Some (with_inst ℕ y (b x) (if is_state t then with_inst ℕ x 3 b else b))) n)
          else (if is_bound (b y) then one (of_nodes C) b (Assign x y) (Some (with_inst ℕ x (b y) (if is_state u then with_inst ℕ y 3 b else b))) n
          else wait (of_nodes C) P declared T (x ∷ y ∷ []) b)

  free-or-state : (ys : List ℕ) (b : Point ℕ) → NumbersBelow first ys → list_any (λ y. not (is_bound (b y)) || is_state (T y)) ys ≡ list_any (λ y. not (is_bound (b y)) || is_state (U y)) ys
  free-or-state [] b w = refl
  free-or-state (y ∷ ys) b w = ap₂ (λ t r. (not (is_bound (b y)) || is_state t) || r) (h y w.0) (free-or-state ys b w.1)

  made-locally : (x s : ℕ) (ys : List ℕ) (n : ℕ) (b : Point ℕ) → NumbersBelow first ys → made (of_nodes C) P declared T x s ys n b ≡ made (of_nodes C) P declared U x s ys n b
  made-locally x s ys n b w =
      ap (λ t. if is_bound (b x) then take (of_nodes C) P declared T x s ys n b (C.narrowed (b x) s)
      else (if t then wait (of_nodes C) P declared T (x ∷ ys) b
      else built (of_nodes C) P declared T x s ys n b (C.over s (map b ys)))) (free-or-state ys b w)

  usable-locally : (all : List ℕ) (ms : List Mode) (xs : List ℕ) (b : Point ℕ) → NumbersBelow first xs → usable (of_nodes C) P declared T all ms xs b ≡ usable (of_nodes C) P declared U all ms xs b
  usable-locally all [] [] b w = refl
  usable-locally all [] (x ∷ xs) b w = refl
  usable-locally all (m ∷ ms) [] b w = refl
  usable-locally all (m ∷ ms) (x ∷ xs) b w =
      ap₂ (λ t r. (not (is_bound m.0) || (is_bound (b x) && (C.fits (b x) m.0 t && (not (C.is_dead m.1) || nat_eq (times_in x all) 1)))) && r)
      (h x w.0) (usable-locally all ms xs b w.1)

  input-locally : (m : Mode) (x : ℕ) (b : Point ℕ) → x < first → input_after (of_nodes C) P declared T m x b ≡ input_after (of_nodes C) P declared U m x b
  input-locally m x b k = ap (λ t. if not (C.is_dead m.1) && C.fits (b x) m.1 t then b else with_inst ℕ x m.1 b) (h x k)

  after-locally : (there : ℕ → Bool) (ms : List Mode) (xs : List ℕ) (b : Point ℕ) → Inputs first ms xs → after_call (of_nodes C) P declared T there ms xs b ≡ after_call (of_nodes C) P declared U there ms xs b
  after-locally there [] xs b w = refl
  after-locally there (m ∷ ms) [] b w = refl
  after-locally there (m ∷ ms) (x ∷ xs) b w =
      at (λ c. after-locally there ms xs c w.1) (λ c. after-locally (λ y. if nat_eq y x then true else there y) ms xs c w.1) (is_bound m.0) (not (is_bound m.1) || there x) refl
    where
      later : ℕ → Bool
      later y = if nat_eq y x then true else there y

      Alike : (ℕ → Bool) → Point ℕ → Type 0
      Alike t c = after_call (of_nodes C) P declared T t ms xs c ≡ after_call (of_nodes C) P declared U t ms xs c

      at : ((c : Point ℕ) → Alike there c) → ((c : Point ℕ) → Alike later c) → (s t : Bool) → is_bound m.0 ≡ s
          → (if s then after_call (of_nodes C) P declared T there ms xs (input_after (of_nodes C) P declared T m x b)
          else if t then after_call (of_nodes C) P declared T there ms xs b
          else after_call (of_nodes C) P declared T later ms xs (with_inst ℕ x m.1 b))
          ≡ (if s then after_call (of_nodes C) P declared U there ms xs (input_after (of_nodes C) P declared U m x b)
          else if t then after_call (of_nodes C) P declared U there ms xs b
          else after_call (of_nodes C) P declared U later ms xs (with_inst ℕ x m.1 b))
      at f g true t e = f (input_after (of_nodes C) P declared T m x b) ∙ ap (after_call (of_nodes C) P declared U there ms xs) (input-locally m x b (w.0 e))
      at f g false true e = f b
      at f g false false e = g (with_inst ℕ x m.1 b)

  best-locally : (ds : List Declared) (xs : List ℕ) (b : Point ℕ) → NumbersBelow first xs → best (of_nodes C) P declared T ds xs b ≡ best (of_nodes C) P declared U ds xs b
  best-locally [] xs b w = refl
  best-locally (d ∷ ds) xs b w =
      ap₂ (λ (t : Bool) (r : Option Declared). if t then Some (better (of_nodes C) P declared T xs b d r) else r) (usable-locally xs d.modes xs b w) (best-locally ds xs b w)

  called-locally : (o : Option Declared) (xs : List ℕ) (n : ℕ) (b : Point ℕ) → NumbersBelow first xs → called (of_nodes C) P declared T o xs n b ≡ called (of_nodes C) P declared U o xs n b
  called-locally None xs n b w = refl
  called-locally (Some d) xs n b w =
      ap (λ c. one (of_nodes C) b (Call d.proc xs (implied_in (of_nodes C) P declared T d.modes xs b) false) (if d.never then None else Some c) n)
      (after-locally (λ x. is_bound (b x)) d.modes xs b (inputs-below first d.modes xs w))

  with-locally : (is : List ℕ) (op : Builtin) (xs : List ℕ) (n : ℕ) (b : Point ℕ) → NumbersBelow first xs → ((i : ℕ) → is_in (0 + i) is ≡ true → is_bound (mode_at (modes_of op) i).0 ≡ false)
      → applied_with (of_nodes C) P declared T is op xs n b ≡ applied_with (of_nodes C) P declared U is op xs n b
  with-locally [] op xs n b w f =
      ap (λ c. one (of_nodes C) b (applying (of_nodes C) P declared T op xs) (if is_zero (builtin_most op) then None else Some c) n)
      (after-locally (λ x. is_bound (b x)) (modes_of op) xs b (inputs-below first (modes_of op) xs w))
  with-locally (j ∷ is) op xs n b w f =
      let zs = fresh_at 0 (j ∷ is) xs n in
      let ts = tests_at 0 (j ∷ is) xs n in
      ap (λ c. runs (node_then (changing other_node (n + length ts) b (Some c) (applying (of_nodes C) P declared T op zs)) (test_nodes ts)) (Some c) (n + length ts) zs)
      (after-locally (λ x. is_bound (b x)) (modes_of op) zs b (fresh-inputs first 0 n (j ∷ is) (modes_of op) xs w f))

  applied-locally : (op : Builtin) (xs : List ℕ) (n : ℕ) (b : Point ℕ) → NumbersBelow first xs → applied (of_nodes C) P declared T op xs n b ≡ applied (of_nodes C) P declared U op xs n b
  applied-locally op xs n b w =
      ap₂ (λ t r. if t then r else wait (of_nodes C) P declared T xs b) (usable-locally xs (modes_of op) xs b w)
      (with-locally (implied_places 0 (modes_of op) xs (λ x. is_bound (b x))) op xs n b w
      (λ i e. outputs 0 i (modes_of op) xs (λ x. is_bound (b x)) e))

  call-locally : (o : Option Builtin) (p : ℕ) (xs : List ℕ) (n : ℕ) (b : Point ℕ) → NumbersBelow first xs → call_of (of_nodes C) P declared T o p xs n b ≡ call_of (of_nodes C) P declared U o p xs n b
  call-locally None p xs n b w =
      ap (λ o. called (of_nodes C) P declared T o xs n b) (best-locally (declared p) xs b w)
      ∙ called-locally (best (of_nodes C) P declared U (declared p) xs b) xs n b w
  call-locally (Some op) p xs n b w = applied-locally op xs n b w

  -- an atom that is tried
  abbrev tries_alike : F.Flat_goal → List ℕ → ℕ → Point ℕ → Type 0
  tries_alike g O n b = trial (of_nodes C) P declared T g O n b ≡ trial (of_nodes C) P declared U g O n b

  pub trial-same : (x y : ℕ) (O : List ℕ) (n : ℕ) (b : Point ℕ) → NumbersBelow first (x ∷ y ∷ []) → tries_alike (F.Same x y) O n b
  trial-same x y O n b w = ap (atom (of_nodes C) P declared T (x ∷ y ∷ []) b) (same-locally x y n b w.0 w.1.0)

  pub trial-made : (x s : ℕ) (ys : List ℕ) (O : List ℕ) (n : ℕ) (b : Point ℕ) → NumbersBelow first (x ∷ ys) → tries_alike (F.Made x s ys) O n b
  trial-made x s ys O n b w = ap (atom (of_nodes C) P declared T (x ∷ ys) b) (made-locally x s ys n b w.1)

  pub trial-call : (p : ℕ) (xs O : List ℕ) (n : ℕ) (b : Point ℕ) → NumbersBelow first xs → tries_alike (F.Call p xs) O n b
  trial-call p xs O n b w = ap (atom (of_nodes C) P declared T xs b) (call-locally (P.preds p).builtin p xs n b w)

  -- what branches leave
  merges-locally : (xs : List ℕ) (ends : List (Point ℕ)) → NumbersBelow first xs → merges (of_nodes C) P declared T xs ends ≡ merges (of_nodes C) P declared U xs ends
  merges-locally xs [] w = refl
  merges-locally [] (c ∷ ends) w = refl
  merges-locally (x ∷ xs) (c ∷ ends) w =
      ap₂ (λ t r. is_there (C.joined t (map (λ (d : Point ℕ). d x) (c ∷ ends))) && r) (h x w.0) (merges-locally xs (c ∷ ends) w.1)

  in-below : (x : ℕ) (xs : List ℕ) → NumbersBelow first xs → is_in x xs ≡ true → x < first
  in-below x [] w i = absurd (cc i)
  in-below x (y ∷ xs) w i = at (in-below x xs w.1) (nat_eq x y) refl i
    where
      at : (is_in x xs ≡ true → x < first) → (t : Bool) → nat_eq x y ≡ t → (if t then true else is_in x xs) ≡ true → x < first
      at rest true e k = subst (λ z. z < first) (sym (eqb-true x y e)) w.0
      at rest false e k = rest k

  merged-locally : (own O : List ℕ) (b : Point ℕ) (ends : List (Point ℕ)) → NumbersBelow first own → merged (of_nodes C) P declared T own O b ends ≡ merged (of_nodes C) P declared U own O b ends
  merged-locally own O b [] w = refl
  merged-locally own O b (c ∷ ends) w = ap Some (λ i x. at x (is_in x own) refl i)
    where
      row : ℕ → List ℕ
      row x = map (λ (d : Point ℕ). d x) (c ∷ ends)

      at : (x : ℕ) (t : Bool) → is_in x own ≡ t
          → (if t then (if is_in x O then or_free (of_nodes C) P declared T (C.joined (T x) (row x)) else 0) else b x)
          ≡ (if t then (if is_in x O then or_free (of_nodes C) P declared U (C.joined (U x) (row x)) else 0) else b x)
      at x true e = ap (λ t. if is_in x O then or_free (of_nodes C) P declared T (C.joined t (row x)) else 0) (h x (in-below x own w e))
      at x false e = refl

  those-below : (xs O : List ℕ) → NumbersBelow first xs → NumbersBelow first (those_in xs O)
  those-below [] O w = tt
  those-below (x ∷ xs) O w = at (is_in x O) (those-below xs O w.1)
    where
      at : (t : Bool) → NumbersBelow first (those_in xs O) → NumbersBelow first (if t then x ∷ those_in xs O else those_in xs O)
      at true r = (w.0, r)
      at false r = r

  pub branched-locally : (v : Option ℕ) (f : Nodes → Scheduled) (own O : List ℕ) (b : Point ℕ) (r : Branches ℕ) → NumbersBelow first own
      → branched (of_nodes C) P declared T v f own O b r ≡ branched (of_nodes C) P declared U v f own O b r
  branched-locally v f own O b (one_breaks e) w = refl
  branched-locally v f own O b (all_run gs ends n) w =
      ap₂ (λ t c. unless v negated_binds
      (unless (least (differs (of_nodes C) P declared T ends) (those_in own O)) branches_differ
      (if t then one (of_nodes C) b (f gs) c n else breaks lacks)))
      (merges-locally (those_in own O) ends (those-below own O w)) (merged-locally own O b ends w)

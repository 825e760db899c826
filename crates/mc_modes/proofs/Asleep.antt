-- A goal that sleeps at a state waits, whatever else is so and however many goals ran, as long as the
-- variables it sleeps by are as they are there.
use Rattle.std.proofs.Common.{◌≡◌, ◌∙◌, ◌⊎◌, inl, inr, ℕ, zero, suc, ◌<◌, ◌≤◌, ◌+◌, Bool, true, false, cond, not, nat_eq, nat_lt, ◌&&◌, ◌||◌, List, [], ◌∷◌, ◌++◌, map, length, get_or, Option, Some, None, refl, ap, ap₂, sym, subst, ⊎_elim, arith}
use Rattle.std.specs.List.{list_any, list_all, remove}
use Rattle.std.proofs.lemmas.Bool.{eqb-true, not-true, and_parts, or_cases, or_left, or_right, eq-eqb, and_right}
use Rattle.std.proofs.lemmas.Bool.Decides.{nat_tests}
use Rattle.std.proofs.lemmas.List.{append_assoc, length-append}
use Rattle.mc_program.specs.Programs.{TypeTerm, Source}
use Rattle.mc_program.specs.declared.builtin.Builtin.{Builtin}
use Rattle.mc_model.specs.Flat as F
use Rattle.mc_model.specs.Flat.{Flat_goal, flat_then, flats, variables_of, free_in, variables_of_all}
use Rattle.mc_model.specs.Lists.{In, without}
use Rattle.mc_model.specs.Scheduled.{Scheduled, Nodes, Conj, Disj, Exists}
use Rattle.mc_model.specs.Stream.{is_bound}
use Rattle.mc_accepted.specs.Ordered.{Mode, is_state, modes_of, times_in}
use Rattle.mc_accepted.specs.Arranged.{Operations, Declared, waits, negated_binds, branches_differ, lacks, alone, count_flat, Point, Arranged, runs, breaks, Waiting, Picked, takes, none_runs, Branches, variables_of_waiting, picked, pick, behind, goes_on, and_branches, each_branch, wrapped, stuck, in_turn, wait, atom, same, made, usable, better, best, called, call_of, branched, conditional, negation, trial, trials}
use Rattle.mc_accepted.specs.NodeOracle.{NodeOracle, of_nodes}
use Rattle.mc_mode_state.specs.States.{point_of}
use Rattle.mc_mode_state.specs.declared.state.State.{State}
use Rattle.mc_modes.specs.code.Waiting.{nothing}
use Rattle.mc_modes.specs.code.Sleeping as S
use Rattle.mc_modes.specs.code.Sleeping.{Waits, Free, input_is_free, free_beside, free_now, kept_beside, was_found, changed_by, changed_by_each, making_is_mild, call_sleeps, atom_sleeps, may_be_mild, Asleep}
use Rattle.mc_modes.proofs.Counts.{times-append}
use Rattle.mc_modes.proofs.MildGoals.{KeptAt, NoneKept, FirstKept, Mild, waiting-is-mild, made-is-mild, constant-is-mild, same-runs, call-runs}

-- what stands no times in a list isn't in it
none-of : (x : ℕ) (xs : List ℕ) → times_in x xs ≡ 0 → In x xs → ⊥
none-of x [] e i = i
none-of x (y ∷ xs) e i = at (nat_eq x y) (λ q. eq-eqb x y q) e (none-of x xs) i
  where
    at : (t : Bool) → (x ≡ y → t ≡ true) → cond t (suc (times_in x xs)) (times_in x xs) ≡ 0 → (times_in x xs ≡ 0 → In x xs → ⊥) → (x ≡ y) ⊎ In x xs → ⊥
    at true f q r j = cc q
    at false f q r j = ⊎_elim (λ s. cc (f s)) (r q) j

-- ---- counts and tests
zero-true : (n : ℕ) → n ≡ 0 → nat_eq n 0 ≡ true
zero-true n e = ap (λ m. nat_eq m 0) e

lt-true : (m n : ℕ) → m < n → nat_lt m n ≡ true
lt-true m n h = grind (arith, nat_tests, h)

lt-of : (m n : ℕ) → nat_lt m n ≡ true → m < n
lt-of m n e = grind (arith, nat_tests, e)

times-here : (x : ℕ) → times_in x (x ∷ []) ≡ 1
times-here x = ap (λ t. cond t 1 0) (eq-eqb x x refl)

-- what is free at the state, and kept, still is free
kept-free : (s : State) (vs : List ℕ) (b : Point ℕ) → KeptAt s (kept_beside s vs) b → (x : ℕ) → free_beside (free_now s) vs x ≡ true → is_bound (b x) ≡ false
kept-free s vs b u x e =
    let q = and_parts (free_now s x) (nat_eq (times_in x vs) 0) e in
    let f = and_parts (nat_lt x (length s.insts.items)) (not (is_bound (point_of s.insts.items x))) q.0 in
    ap is_bound (u x (ap₂ (λ (t u : Bool). t && u) f.0 q.1)) ∙ not-true (is_bound (point_of s.insts.items x)) f.1

-- ---- the whole waits where its part does
waits-then : (t : Bool) (p q : Arranged ℕ) → t ≡ true → Waits p → Waits (cond t p q)
waits-then true p q e w = w
waits-then false p q e w = absurd (cc e)

waits-else : (t : Bool) (p q : Arranged ℕ) → t ≡ false → Waits q → Waits (cond t p q)
waits-else true p q e w = absurd (cc e)
waits-else false p q e w = w

waits-behind : (gs : Nodes) (r : Arranged ℕ) → Waits r → Waits (behind gs r)
waits-behind gs (runs hs o n zs) w = absurd w
waits-behind gs (breaks f) w = w

module _ (C : NodeOracle) (P : Source) (declared : ℕ → List Declared) (T : ℕ → TypeTerm) (first : ℕ) where
  abbrev Op : Operations ℕ
  Op = of_nodes C

  waits-wrapped : (f : ℕ → Option (Point ℕ) → Nodes → Scheduled) (b : Point ℕ) (r : Arranged ℕ) → Waits r → Waits (wrapped Op f b r)
  waits-wrapped f b (runs hs o n zs) w = absurd w
  waits-wrapped f b (breaks e) w = w

  waits-negation : (xs : List ℕ) (b : Point ℕ) (r : Arranged ℕ) → Waits r → Waits (negation Op P declared T xs b r)
  waits-negation xs b (runs hs o n zs) w = absurd w
  waits-negation xs b (breaks e) w = w

  waits-condition : (vs xs own O : List ℕ) (b : Point ℕ) (r : Arranged ℕ) (t : ℕ → Point ℕ → Arranged ℕ) (e : ℕ → Arranged ℕ) → Waits r → Waits (conditional Op P declared T vs xs own O b r t e)
  waits-condition vs xs own O b (runs hs o n zs) t e w = absurd w
  waits-condition vs xs own O b (breaks f) t e w = w

  waits-branch : (v : Option ℕ) (f : Nodes → Scheduled) (own O : List ℕ) (b : Point ℕ) (r : Arranged ℕ) (rest : ℕ → Branches ℕ) → Waits r → Waits (branched Op P declared T v f own O b (and_branches Op b r rest))
  waits-branch v f own O b (runs hs o n zs) rest w = absurd w
  waits-branch v f own O b (breaks e) rest w = w

  -- ---- atoms
  module _ (free : Free) (b : Point ℕ) (u : (x : ℕ) → free x ≡ true → is_bound (b x) ≡ false) where
    one-is-unfit : (ys : List ℕ) → list_any free ys ≡ true → list_any (λ y. not (is_bound (b y)) || is_state (T y)) ys ≡ true
    one-is-unfit [] e = e
    one-is-unfit (y ∷ ys) e =
        ⊎_elim (λ q. or_left (not (is_bound (b y)) || is_state (T y)) (list_any (λ y. not (is_bound (b y)) || is_state (T y)) ys) (or_left (not (is_bound (b y))) (is_state (T y)) (ap not (u y q))))
        (λ q. or_right (not (is_bound (b y)) || is_state (T y)) (list_any (λ y. not (is_bound (b y)) || is_state (T y)) ys) (one-is-unfit ys q)) (or_cases (free y) (list_any free ys) e)

    -- a mode with a free input
    unusable : (all : List ℕ) (ms : List Mode) (xs : List ℕ) → input_is_free free ms xs ≡ true → usable Op P declared T all ms xs b ≡ false
    unusable all [] xs e = absurd (cc e)
    unusable all (m ∷ ms) [] e = refl
    unusable all (m ∷ ms) (x ∷ xs) e = at (is_bound m.0) (free x) (is_bound (b x)) (u x) e (unusable all ms xs)
      where
        at : (s f t : Bool) → (f ≡ true → t ≡ false) → ((s && f) || input_is_free free ms xs) ≡ true → (input_is_free free ms xs ≡ true → usable Op P declared T all ms xs b ≡ false) →
            ((not s || (t && (C.fits (b x) m.0 (T x) && (not (C.is_dead m.1) || nat_eq (times_in x all) 1)))) && usable Op P declared T all ms xs b) ≡ false
        at true true t h q r = ap (λ s. (s && (C.fits (b x) m.0 (T x) && (not (C.is_dead m.1) || nat_eq (times_in x all) 1))) && usable Op P declared T all ms xs b) (h refl)
        at true false t h q r = and_right _ (usable Op P declared T all ms xs b) (r q)
        at false f t h q r = r q

    none-is-best : (ds : List Declared) (xs : List ℕ) → list_all (λ (d : Declared). input_is_free free d.modes xs) ds ≡ true → best Op P declared T ds xs b ≡ None
    none-is-best [] xs e = refl
    none-is-best (d ∷ ds) xs e =
        let q = and_parts (input_is_free free d.modes xs) (list_all (λ (d : Declared). input_is_free free d.modes xs) ds) e in
        ap (λ t. cond t (Some (better Op P declared T xs b d (best Op P declared T ds xs b))) (best Op P declared T ds xs b)) (unusable xs d.modes xs q.0) ∙ none-is-best ds xs q.1

    call-waits : (o : Option Builtin) (p : ℕ) (xs : List ℕ) (n : ℕ) → call_sleeps P declared free o p xs ≡ true → Waits (call_of Op P declared T o p xs n b)
    call-waits None p xs n e = subst (λ o. Waits (called Op P declared T o xs n b)) (sym (none-is-best (declared p) xs e)) tt
    call-waits (Some op) p xs n e = waits-else (usable Op P declared T xs (modes_of op) xs b) _ _ (unusable xs (modes_of op) xs e) tt

    dead-or : (xs : List ℕ) (r : Arranged ℕ) → Waits r → Waits (atom Op P declared T xs b r)
    dead-or xs r w = at (list_any (λ z. C.is_dead (b z)) xs)
      where
        at : (t : Bool) → Waits (cond t (wait Op P declared T xs b) r)
        at true = tt
        at false = w

    atom-waits : (g : Flat_goal) → atom_sleeps P declared free g ≡ true → (O : List ℕ) (n : ℕ) → Waits (trial Op P declared T g O n b)
    atom-waits (F.Same x y) e O n =
        let q = and_parts (free x) (free y) e in
        dead-or (x ∷ y ∷ []) (same Op P declared T x y n b) (waits-else (is_bound (b x)) _ _ (u x q.0) (waits-else (is_bound (b y)) _ _ (u y q.1) tt))
    atom-waits (F.Made x s ys) e O n =
        let q = and_parts (free x) (list_any free ys) e in
        dead-or (x ∷ ys) (made Op P declared T x s ys n b) (waits-else (is_bound (b x)) _ _ (u x q.0) (waits-then (list_any (λ y. not (is_bound (b y)) || is_state (T y)) ys) _ _ (one-is-unfit ys q.1) tt))
    atom-waits (F.Call p xs) e O n = dead-or xs (call_of Op P declared T (P.preds p).builtin p xs n b) (call-waits (P.preds p).builtin p xs n e)
    atom-waits (F.Is x v) e O n = absurd (cc e)
    atom-waits (F.And gs) e O n = absurd (cc e)
    atom-waits (F.Or gs) e O n = absurd (cc e)
    atom-waits (F.If vs g h k) e O n = absurd (cc e)
    atom-waits (F.Not g) e O n = absurd (cc e)
    atom-waits (F.Exists vs g) e O n = absurd (cc e)

  -- ---- conjunctions
  module _ (s : State) (found : (f : ℕ) (is : List ℕ) → was_found s f is ≡ true → (k : ℕ) × (C.over f is ≡ Some k)) where
    -- Beside these variables, which change: by how often goals that ran change a variable, and how often in all.
    module _ (vs : List ℕ) (below : length s.insts.items ≤ first) (total : ℕ → ℕ) where
      abbrev rest : (done : ℕ → ℕ) → Free
      rest done z = kept_beside s vs z && nat_eq (done z) 0

      kept-tells : (z : ℕ) → kept_beside s vs z ≡ true → (z < length s.insts.items) × (times_in z vs ≡ 0)
      kept-tells z e =
          let q = and_parts (nat_lt z (length s.insts.items)) (nat_eq (times_in z vs) 0) e in
          (grind (arith, nat_tests, q), eqb-true (times_in z vs) 0 q.1)

      rest-tells : (done : ℕ → ℕ) (z : ℕ) → rest done z ≡ true → (kept_beside s vs z ≡ true) × (done z ≡ 0)
      rest-tells done z e =
          let q = and_parts (kept_beside s vs z) (nat_eq (done z) 0) e in
          (q.0, eqb-true (done z) 0 q.1)

      rest-is : (done : ℕ → ℕ) (z : ℕ) → z < length s.insts.items → times_in z vs ≡ 0 → done z ≡ 0 → rest done z ≡ true
      rest-is done z l e f = ap₂ (λ (t u : Bool). t && u) (ap₂ (λ (t u : Bool). t && u) (lt-true z (length s.insts.items) l) (zero-true (times_in z vs) e)) (zero-true (done z) f)

      rest-less : (more less : ℕ → ℕ) (b : Point ℕ) → ((z : ℕ) → more z ≡ 0 → less z ≡ 0) → KeptAt s (rest less) b → KeptAt s (rest more) b
      rest-less more less b h u z e =
          let q = rest-tells more z e in
          u z (ap₂ (λ (t u : Bool). t && u) q.0 (zero-true (less z) (h z q.1)))

      rest-first : (done : ℕ → ℕ) → FirstKept (rest done) first
      rest-first done z e = let l = (kept-tells z (rest-tells done z e).0).0 in omega (arith, l, below)

      abbrev plus : (d own : ℕ → ℕ) → ℕ → ℕ
      plus d own z = d z + own z

      -- a waiting goal sleeps, or is mild beside what it changes
      abbrev Sleeps : Waiting ℕ → Type 0
      Sleeps w = (O : List ℕ) (n : ℕ) (b : Point ℕ) → first ≤ n → KeptAt s (rest total) b → Waits (w.trial O n b)

      abbrev IsMild : Waiting ℕ → (own : ℕ → ℕ) → Type 0
      IsMild w own =
          (O : List ℕ) (n : ℕ) (b : Point ℕ) (d : ℕ → ℕ) → first ≤ n → ((z : ℕ) → d z + own z ≤ total z) → KeptAt s (rest d) b
          → Mild s (rest (plus d own)) first (w.trial O n b)

      abbrev AllMild : List (Waiting ℕ) → Type 0
      AllMild [] = Unit {0}
      AllMild (w ∷ ws) = ((own : ℕ → ℕ) × IsMild w own) × AllMild ws

      abbrev OneSleeps : List (Waiting ℕ) → Type 0
      OneSleeps [] = ⊥
      OneSleeps (w ∷ ws) = Sleeps w ⊎ OneSleeps ws

      -- how often they change a variable
      abbrev left : (ws : List (Waiting ℕ)) → AllMild ws → ℕ → ℕ
      left [] h z = 0
      left (w ∷ ws) h z = h.0.0 z + left ws h.1 z

      abbrev mild-both : (vs ws : List (Waiting ℕ)) → AllMild vs → AllMild ws → AllMild (vs ++ ws)
      mild-both [] ws h k = k
      mild-both (v ∷ vs) ws h k = (h.0, mild-both vs ws h.1 k)

      left-both : (vs ws : List (Waiting ℕ)) (h : AllMild vs) (k : AllMild ws) (z : ℕ) → left (vs ++ ws) (mild-both vs ws h k) z ≡ left vs h z + left ws k z
      left-both [] ws h k z = omega arith
      left-both (v ∷ vs) ws h k z = let q = left-both vs ws h.1 k z in omega (arith, q)

      -- it sleeps, or another does
      sleeps-at : (vs : List (Waiting ℕ)) (w : Waiting ℕ) (ws : List (Waiting ℕ)) → OneSleeps (vs ++ w ∷ ws) → Sleeps w ⊎ OneSleeps (vs ++ ws)
      sleeps-at [] w ws h = h
      sleeps-at (v ∷ vs) w ws h = ⊎_elim (λ q. inr (inl q)) (λ q. ⊎_elim (λ r. inl r) (λ r. inr (inr r)) (sleeps-at vs w ws q)) h

      -- no more than in all
      abbrev Within : (d : ℕ → ℕ) (ws : List (Waiting ℕ)) → AllMild ws → Type 0
      Within d ws h = (z : ℕ) → d z + left ws h z ≤ total z

      -- none runs; or one did, and so many mild goals are left, of which one sleeps
      abbrev PickedSo : ℕ → Picked ℕ → Type 0
      PickedSo k (none_runs None) = Unit {0}
      PickedSo k (none_runs (Some f)) = ⊥
      PickedSo k (takes vs ws gs None m) = ⊥
      PickedSo k (takes vs ws gs (Some c) m) = (d : ℕ → ℕ) × (a : AllMild ws) × Within d ws a × (first ≤ m) × KeptAt s (rest d) c × OneSleeps ws × (length ws ≤ k)

      picked-so : (k : ℕ) (w : Waiting ℕ) (ws : List (Waiting ℕ)) (r : Arranged ℕ) (later : Picked ℕ) (d : ℕ → ℕ) (a : AllMild ws) → Mild s (rest d) first r → Within d ws a → Waits r ⊎ OneSleeps ws → length ws ≤ k → PickedSo k later → PickedSo k (picked w ws r later)
      picked-so k w ws (runs gs None m zs) later d a h i o l p = absurd h
      picked-so k w ws (runs gs (Some c) m zs) later d a h i o l p = (d, a, i, h.0, h.1, ⊎_elim (λ q. absurd q) (λ q. q) o, l)
      picked-so k w ws (breaks (waits j vs)) later d a h i o l p = p
      picked-so k w ws (breaks (negated_binds v)) later d a h i o l p = absurd h
      picked-so k w ws (breaks (branches_differ v)) later d a h i o l p = absurd h
      picked-so k w ws (breaks lacks) later d a h i o l p = absurd h

      kept-total : (d : ℕ → ℕ) (b : Point ℕ) → ((z : ℕ) → d z ≤ total z) → KeptAt s (rest d) b → KeptAt s (rest total) b
      kept-total d b i u = rest-less total d b (λ z e. let j = i z in omega (arith, e, j)) u

      pick-so : (k : ℕ) (vs ws : List (Waiting ℕ)) (O : List ℕ) (n : ℕ) (b : Point ℕ) (d : ℕ → ℕ) → first ≤ n → KeptAt s (rest d) b → (h : AllMild vs) (m : AllMild ws) → ((z : ℕ) → d z + (left vs h z + left ws m z) ≤ total z)
          → OneSleeps (vs ++ ws) → length vs + length ws ≤ suc k → PickedSo k (pick vs ws O n b)
      pick-so k vs [] O n b d le u h m i o l = tt
      pick-so k vs (w ∷ ws) O n b d le u h m i o l =
          let U = O ++ variables_of_waiting (vs ++ ws) in
          picked-so k w (vs ++ ws) (w.trial U n b) (pick (vs ++ w ∷ []) ws O n b) (plus d m.0.0) (mild-both vs ws h m.1)
          (m.0.1 U n b d le (λ z. let j = i z in omega (arith, j)) u)
          (λ z. let j = i z in let q = left-both vs ws h m.1 z in omega (arith, j, q))
          (⊎_elim (λ q. inl (q U n b le (kept-total d b (λ z. let j = i z in omega (arith, j)) u))) (λ q. inr q) (sleeps-at vs w ws o))
          (omega (arith, l, length-append vs ws))
          (pick-so k (vs ++ w ∷ []) ws O n b d le u (mild-both vs (w ∷ []) h (m.0, tt)) m.1
          (λ z. let j = i z in let q = left-both vs (w ∷ []) h (m.0, tt) z in omega (arith, j, q))
          (subst OneSleeps (sym (append_assoc vs (w ∷ []) ws)) o) (omega (arith, l, length-append vs (w ∷ []))))

      -- mild goals in turn, of which one sleeps
      turns-wait : (k : ℕ) (ws : List (Waiting ℕ)) (h : AllMild ws) → OneSleeps ws → length ws ≤ k → (O : List ℕ) (n : ℕ) (b : Point ℕ) (d : ℕ → ℕ) → first ≤ n → Within d ws h → KeptAt s (rest d) b → Waits (in_turn Op P declared T k ws O n b)
      turns-wait zero [] h o l O n b d le i u = absurd o
      turns-wait zero (w ∷ ws) h o l O n b d le i u = absurd (omega (arith, l))
      turns-wait (suc k) ws h o l O n b d le i u = at (pick [] ws O n b) (pick-so k [] ws O n b d le u tt h (λ z. let j = i z in omega (arith, j)) o (omega (arith, l))) (λ us hu su lu. turns-wait k us hu su lu)
        where
          at : (p : Picked ℕ) → PickedSo k p → ((us : List (Waiting ℕ)) (hu : AllMild us) → OneSleeps us → length us ≤ k → (U : List ℕ) (m : ℕ) (c : Point ℕ) (e : ℕ → ℕ) → first ≤ m → Within e us hu → KeptAt s (rest e) c → Waits (in_turn Op P declared T k us U m c)) →
              Waits (goes_on (stuck Op P declared T ws b) p (λ vs rest m c. in_turn Op P declared T k rest (O ++ vs) m c))
          at (none_runs None) q again = tt
          at (none_runs (Some f)) q again = absurd q
          at (takes vs us gs None m) q again = absurd q
          at (takes vs us gs (Some c) m) (e, a, j, fm, v, p, lu) again = waits-behind gs (in_turn Op P declared T k us (O ++ vs) m c) (again us a p lu (O ++ vs) m c e fm j v)

    -- ---- the goals of a conjunction, beside variables that others change
    module _ (vs all : List ℕ) (below : length s.insts.items ≤ first) where
      abbrev total : ℕ → ℕ
      total z = times_in z all

      abbrev kept : (done : ℕ → ℕ) → Free
      kept = rest vs below total

      abbrev own : Flat_goal → ℕ → ℕ
      own g z = times_in z (changed_by g)

      none-kept : (d : ℕ → ℕ) (xs : List ℕ) → NoneKept (kept (plus vs below total d (λ z. times_in z xs))) xs
      none-kept d xs z e i =
          let q = (rest-tells vs below total (plus vs below total d (λ z. times_in z xs)) z e).1 in
          none-of z xs (let h : times_in z xs ≡ 0 = omega (arith, q) in h) i

      kept-more : (d o : ℕ → ℕ) (b : Point ℕ) → KeptAt s (kept d) b → KeptAt s (kept (plus vs below total d o)) b
      kept-more d o b u = rest-less vs below total (plus vs below total d o) d b (λ z e. omega (arith, e)) u

      -- what isn't changed yet is as it is there
      as-there : (d : ℕ → ℕ) (b : Point ℕ) → ((z : ℕ) → d z ≤ total z) → KeptAt s (kept d) b → (y : ℕ) → kept_beside s (vs ++ all) y ≡ true → b y ≡ point_of s.insts.items y
      as-there d b i u y e =
          let q = kept-tells (vs ++ all) below total y e in
          let j = i y in
          let k = times-append y vs all in
          u y (rest-is vs below total d y q.0 (omega (arith, q, k)) (omega (arith, q, k, j)))

      -- a free variable that just this goal changes still is free
      still-free : (x : ℕ) (d : ℕ → ℕ) (b : Point ℕ) → (free_now s x && nat_eq (times_in x (vs ++ all)) 1) ≡ true → d x + times_in x (x ∷ []) ≤ total x → KeptAt s (kept d) b → is_bound (b x) ≡ false
      still-free x d b e i u =
          let q = and_parts (free_now s x) (nat_eq (times_in x (vs ++ all)) 1) e in
          let f = and_parts (nat_lt x (length s.insts.items)) (not (is_bound (point_of s.insts.items x))) q.0 in
          let one = eqb-true (times_in x (vs ++ all)) 1 q.1 in
          let k = times-append x vs all in
          let here = times-here x in
          ap is_bound (u x (rest-is vs below total d x (lt-of x (length s.insts.items) f.0) (omega (arith, one, k, here, i)) (omega (arith, one, k, here, i)))) ∙ not-true (is_bound (point_of s.insts.items x)) f.1

      there-are : (d : ℕ → ℕ) (b : Point ℕ) → ((z : ℕ) → d z ≤ total z) → KeptAt s (kept d) b → (ys : List ℕ) → list_all (kept_beside s (vs ++ all)) ys ≡ true → map b ys ≡ map (point_of s.insts.items) ys
      there-are d b i u [] e = refl
      there-are d b i u (y ∷ ys) e =
          let q = and_parts (kept_beside s (vs ++ all) y) (list_all (kept_beside s (vs ++ all)) ys) e in
          ap₂ (λ (z : ℕ) (zs : List ℕ). z ∷ zs) (as-there d b i u y q.0) (there-are d b i u ys q.1)

      free-there : (b : Point ℕ) → KeptAt s (kept_beside s (vs ++ all)) b → (y : ℕ) → free_beside (free_now s) (vs ++ all) y ≡ true → is_bound (b y) ≡ false
      free-there b u y e = kept-free s (vs ++ all) b u y e

      waits-or-finds : (f : ℕ) (ys : List ℕ) (d : ℕ → ℕ) (b : Point ℕ) → ((z : ℕ) → d z ≤ total z) → KeptAt s (kept d) b
          → (list_all (kept_beside s (vs ++ all)) ys && (list_any (free_beside (free_now s) (vs ++ all)) ys || was_found s f (map (point_of s.insts.items) ys))) ≡ true
          → (list_any (λ y. not (is_bound (b y)) || is_state (T y)) ys ≡ true) ⊎ ((k : ℕ) × (C.over f (map b ys) ≡ Some k))
      waits-or-finds f ys d b i u e =
          let q = and_parts (list_all (kept_beside s (vs ++ all)) ys) (list_any (free_beside (free_now s) (vs ++ all)) ys || was_found s f (map (point_of s.insts.items) ys)) e in
          ⊎_elim (λ j. inl (one-is-unfit (free_beside (free_now s) (vs ++ all)) b (free-there b (λ z h. as-there d b i u z h)) ys j))
          (λ j.
          let k = found f (map (point_of s.insts.items) ys) j in
          inr (k.0, ap (C.over f) (there-are d b i u ys q.0) ∙ k.1))
          (or_cases (list_any (free_beside (free_now s) (vs ++ all)) ys) (was_found s f (map (point_of s.insts.items) ys)) q.1)

      goal-is-mild : (g : Flat_goal) → may_be_mild P declared g ≡ true → making_is_mild s (vs ++ all) g ≡ true → IsMild vs below total (record { variables = variables_of g; trial = trial Op P declared T g }) (own g)
      goal-is-mild (F.Same x y) e m O n b d le i u =
          same-runs C P declared T s (kept (plus vs below total d (own (F.Same x y)))) first x y (none-kept d (x ∷ y ∷ [])) n b le (kept-more d (own (F.Same x y)) b u)
      goal-is-mild (F.Call p xs) e m O n b d le i u =
          call-runs C P declared T s (kept (plus vs below total d (own (F.Call p xs)))) first p xs e (rest-first vs below total (plus vs below total d (own (F.Call p xs)))) (none-kept d xs) n b le (kept-more d (own (F.Call p xs)) b u)
      goal-is-mild (F.Made x f ys) e m O n b d le i u =
          let q = and_parts (free_now s x && nat_eq (times_in x (vs ++ all)) 1) (list_all (kept_beside s (vs ++ all)) ys && (list_any (free_beside (free_now s) (vs ++ all)) ys || was_found s f (map (point_of s.insts.items) ys))) m in
          made-is-mild C P declared T s (kept (plus vs below total d (own (F.Made x f ys)))) first x f ys n b le (kept-more d (own (F.Made x f ys)) b u) (none-kept d (x ∷ []))
          (still-free x d b q.0 (i x) u) (waits-or-finds f ys d b (λ z. let j = i z in omega (arith, j)) u q.1)
      goal-is-mild (F.Is x v) e m O n b d le i u =
          constant-is-mild C P declared T s (kept (plus vs below total d (own (F.Is x v)))) first x v n b le (kept-more d (own (F.Is x v)) b u) (none-kept d (x ∷ [])) (still-free x d b m (i x) u)
      goal-is-mild (F.And gs) e m O n b d le i u = absurd (cc e)
      goal-is-mild (F.Or gs) e m O n b d le i u = absurd (cc e)
      goal-is-mild (F.If xs g h k) e m O n b d le i u = absurd (cc e)
      goal-is-mild (F.Not g) e m O n b d le i u = absurd (cc e)
      goal-is-mild (F.Exists xs g) e m O n b d le i u = absurd (cc e)

      abbrev Mildly : List (Waiting ℕ) → Type 0
      Mildly = AllMild vs below total

      abbrev GoalsMild : List Flat_goal → Type 0
      GoalsMild gs = (h : Mildly (trials Op P declared T (flats gs))) × ((z : ℕ) → left vs below total (trials Op P declared T (flats gs)) h z ≡ times_in z (changed_by_each gs))

      all-mild : (gs : List Flat_goal) → list_all (may_be_mild P declared) gs ≡ true → list_all (making_is_mild s (vs ++ all)) gs ≡ true → GoalsMild gs
      all-mild [] e m = (tt, λ z. refl)
      all-mild (g ∷ gs) e m =
          let q = and_parts (may_be_mild P declared g) (list_all (may_be_mild P declared) gs) e in
          let p = and_parts (making_is_mild s (vs ++ all) g) (list_all (making_is_mild s (vs ++ all)) gs) m in
          let r = all-mild gs q.1 p.1 in
          (((own g, goal-is-mild g q.0 p.0), r.0), λ z. let j = r.1 z in let k = times-append z (changed_by g) (changed_by_each gs) in omega (arith, j, k))

      abbrev GoalSleeps : Flat_goal → Type 0
      GoalSleeps g = (O : List ℕ) (n : ℕ) (b : Point ℕ) → first ≤ n → KeptAt s (kept total) b → Waits (trial Op P declared T g O n b)

      abbrev WithSleeper : List Flat_goal → List Flat_goal → Type 0
      WithSleeper gs others =
          (h : Mildly (trials Op P declared T (flats gs))) × ((z : ℕ) → left vs below total (trials Op P declared T (flats gs)) h z ≡ times_in z (changed_by_each others)) × OneSleeps vs below total (trials Op P declared T (flats gs))

      -- the others are mild, and this one sleeps
      with-sleeper : (gs : List Flat_goal) (k : ℕ) → k < length gs → list_all (may_be_mild P declared) (remove gs k) ≡ true → list_all (making_is_mild s (vs ++ all)) (remove gs k) ≡ true → GoalSleeps (get_or gs k nothing)
          → WithSleeper gs (remove gs k)
      with-sleeper [] k h e m o = absurd (omega (arith, h))
      with-sleeper (g ∷ gs) zero h e m o =
          let r = all-mild gs e m in (
            (
              (
                (λ z. 0),
                λ O n b d le i u.
                    waiting-is-mild s (kept (plus vs below total d (λ z. 0))) first (trial Op P declared T g O n b) (o O n b le (kept-total vs below total d b (λ z. let j = i z in omega (arith, j)) u)),
              ),
              r.0,
            ),
            (λ z. let j = r.1 z in omega (arith, j)),
            inl o,
          )
      with-sleeper (g ∷ gs) (suc k) h e m o =
          let q = and_parts (may_be_mild P declared g) (list_all (may_be_mild P declared) (remove gs k)) e in
          let p = and_parts (making_is_mild s (vs ++ all) g) (list_all (making_is_mild s (vs ++ all)) (remove gs k)) m in
          let r = with-sleeper gs k (omega (arith, h)) q.1 p.1 o in (
            ((own g, goal-is-mild g q.0 p.0), r.0),
            (λ z. let j = r.1 z in let l = times-append z (changed_by g) (changed_by_each (remove gs k)) in omega (arith, j, l)),
            inr r.2,
          )

      count-is : (gs : List Flat_goal) → length (trials Op P declared T (flats gs)) ≡ count_flat (flats gs)
      count-is [] = refl
      count-is (g ∷ gs) = ap suc (count-is gs)

      conjunction-waits : (gs : List Flat_goal) (k : ℕ) → all ≡ changed_by_each (remove gs k) → k < length gs → list_all (may_be_mild P declared) (remove gs k) ≡ true → list_all (making_is_mild s (vs ++ all)) (remove gs k) ≡ true
          → ((O : List ℕ) (n : ℕ) (b : Point ℕ) → first ≤ n → KeptAt s (kept_beside s (vs ++ all)) b → Waits (trial Op P declared T (get_or gs k nothing) O n b))
          → (O : List ℕ) (n : ℕ) (b : Point ℕ) → first ≤ n → KeptAt s (kept_beside s vs) b → Waits (in_turn Op P declared T (count_flat (flats gs)) (trials Op P declared T (flats gs)) O n b)
      conjunction-waits gs k is h e m o O n b le u =
          let sleeper : GoalSleeps (get_or gs k nothing) = λ O n b le u. o O n b le (λ z e. as-there total b (λ z. omega arith) u z e) in
          let r = with-sleeper gs k h e m sleeper in
          turns-wait vs below total (count_flat (flats gs)) (trials Op P declared T (flats gs)) r.0 r.2 (let q = count-is gs in omega (arith, q)) O n b (λ z. 0) le
          (λ z. let j = r.1 z in let q = ap (times_in z) is in omega (arith, j, q))
          (λ z e. u z ((rest-tells vs below total (λ z. 0) z e).0))

    pub asleep-waits : (vs : List ℕ) (g : Flat_goal) → Asleep P declared s vs g → length s.insts.items ≤ first → (O : List ℕ) (n : ℕ) (b : Point ℕ) → first ≤ n → ((x : ℕ) → kept_beside s vs x ≡ true → b x ≡ point_of s.insts.items x) → Waits (trial (of_nodes C) P declared T g O n b)
    asleep-waits vs g (S.atom e) below O n b le u = atom-waits (free_beside (free_now s) vs) b (kept-free s vs b u) g e O n
    asleep-waits vs (F.Not g) (S.negated a) below O n b le u = waits-negation (free_in g) b (trial Op P declared T g (O ++ free_in g) n b) (asleep-waits vs g a below (O ++ free_in g) n b le u)
    asleep-waits vs (F.Exists xs g) (S.quantified a) below O n b le u = waits-wrapped (λ m o gs. Exists xs (alone Op m b o gs)) b (trial Op P declared T g O n b) (asleep-waits vs g a below O n b le u)
    asleep-waits vs (F.If xs g h k) (S.in_condition a) below O n b le u =
        waits-condition xs (without (free_in g) xs) (variables_of (F.If xs g h k)) O b (trial Op P declared T g (O ++ (without (free_in g) xs ++ variables_of h)) n b) (λ m c. trial Op P declared T h (O ++ variables_of g) m c) (λ m. trial Op P declared T k O m b)
        (asleep-waits vs g a below (O ++ (without (free_in g) xs ++ variables_of h)) n b le u)
    asleep-waits vs (F.Or (flat_then g gs)) (S.in_first a) below O n b le u =
        waits-branch None Disj (variables_of_all (flat_then g gs)) O b (trial Op P declared T g O n b) (λ m. each_branch Op (trials Op P declared T gs) O m b) (asleep-waits vs g a below O n b le u)
    asleep-waits vs (F.And hs) (S.among gs k h e m a) below O n b le u =
        let all = changed_by_each (remove gs k) in
        waits-wrapped (λ m o hs. Conj hs) b (in_turn Op P declared T (count_flat (flats gs)) (trials Op P declared T (flats gs)) O n b)
        (conjunction-waits vs all below gs k refl h e m (λ O n b le u. asleep-waits (vs ++ all) (get_or gs k nothing) a below O n b le u) O n b le u)

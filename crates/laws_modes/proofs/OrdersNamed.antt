-- What an order of a goal names is there.
use Rattle.std.proofs.Common.{◌≡◌, ◌⊎◌, inl, inr, ℕ, zero, suc, ◌+◌, ◌<◌, ◌≤◌, Bool, true, false, cond, not, nat_eq, ◌&&◌, ◌||◌, List, [], ◌∷◌, ◌++◌, map, length, Option, Some, None, refl, ap, sym, ◌∙◌, subst, ⊎_elim, arith}
use Rattle.std.specs.List.{list_any}
use Rattle.std.proofs.Math.Nat.{le_trans, le_refl, lt_of_lt_of_le}
use Rattle.mc_program.specs.Values.{Val}
use Rattle.mc_program.specs.Programs.{TypeTerm, Source}
use Rattle.mc_model.specs.Outcomes.{inputs_of}
use Rattle.mc_model.specs.Flat as F
use Rattle.mc_model.specs.Flat.{Flat_goal, Flat_goals, no_flat, flat_then, variables_of, variables_of_all, free_in}
use Rattle.mc_model.specs.Lists.{In, is_in, without}
use Rattle.mc_model.specs.Scheduled.{Node, Scheduled, Conj, Disj, Ite, Not, Exists, Assign, Test, Build, Take, Const, TestConst, Call, Apply, Nodes, no_nodes, node_then}
use Rattle.mc_model.specs.Stream.{is_bound}
use Rattle.mc_source.specs.Determinism.{is_zero}
use Rattle.mc_accepted.specs.Ordered.{Mode, is_state, modes_of, plain_modes, implied_places, at_inputs, at_outputs, builtin_most}
use Rattle.mc_accepted.specs.Unmarked.{unmarked}
use Rattle.mc_accepted.specs.Least.{least}
use Rattle.mc_accepted.specs.Arranged.{Declared, Fault, waits, negated_binds, branches_differ, lacks, one, alone, two_goals, count_flat, fresh_at, tests_at, test_nodes, nodes_before, Point, with_inst, with_change, changes_from, changes, Arranged, runs, breaks, Trial, Waiting, Picked, takes, none_runs, Branches, all_run, one_breaks, variables_of_waiting, or_first, picked, pick, behind, goes_on, with_branch, and_branches, no_branch, each_branch, unless, wrapped, stuck, in_turn, atom, assigned, same, taken, built, took, take, made, constant, input_after, after_call, after, better, best, called, applied_with, call_of, binds, differs, joined_at, or_free, merged, merges, those_in, branched, conditional, negation, trial, trials, usable, implied_in}
use Rattle.mc_accepted.specs.NodeOracle.{NodeOracle, of_nodes, other_node}
use Rattle.mc_program.specs.declared.builtin.Builtin.{Builtin}
use Rattle.mc_program.specs.declared.builtin.Builtin.TheVariants as B
use Rattle.laws_language.proofs.FlatGoals.{in_left, in_right}
use Rattle.mc_procs.specs.Named.{Bounds, NumbersBelow, ChangesNamed, Named, NamedIn, EachNamed}
use Rattle.laws_modes.specs.OrdersNamed.{FindsBelow, FinalsBelow, DeclaredBelow, SymbolsBelow, AllSymbolsBelow, PointBelow, EndBelow, OrdersAreNamed}

-- ---- lists of numbers
abbrev Within : ℕ → List ℕ → Type 0
Within n xs = (x : ℕ) → In x xs → x < n

numbers : (n : ℕ) (xs : List ℕ) → Within n xs → NumbersBelow n xs
numbers n [] h = tt
numbers n (x ∷ xs) h = (h x (inl refl), numbers n xs (λ y i. h y (inr i)))

within-on : (n m : ℕ) (xs : List ℕ) → n ≤ m → Within n xs → Within m xs
within-on n m xs le h x i = lt_of_lt_of_le (h x i) le

in-inputs : (bs : List Bool) (xs : List ℕ) (z : ℕ) → In z (at_inputs bs xs) → In z xs
in-inputs [] xs z i = absurd i
in-inputs (b ∷ bs) [] z i = absurd i
in-inputs (b ∷ bs) (x ∷ xs) z i = at b i (in-inputs bs xs z)
  where
    at : (t : Bool) → In z (cond t (x ∷ at_inputs bs xs) (at_inputs bs xs)) → (In z (at_inputs bs xs) → In z xs) → In z (x ∷ xs)
    at true j f = ⊎_elim (λ e. inl e) (λ l. inr (f l)) j
    at false j f = inr (f j)

in-outputs : (bs : List Bool) (xs : List ℕ) (z : ℕ) → In z (at_outputs bs xs) → In z xs
in-outputs [] xs z i = absurd i
in-outputs (b ∷ bs) [] z i = absurd i
in-outputs (b ∷ bs) (x ∷ xs) z i = at b i (in-outputs bs xs z)
  where
    at : (t : Bool) → In z (cond t (at_outputs bs xs) (x ∷ at_outputs bs xs)) → (In z (at_outputs bs xs) → In z xs) → In z (x ∷ xs)
    at true j f = inr (f j)
    at false j f = ⊎_elim (λ e. inl e) (λ l. inr (f l)) j

-- the places of implied arguments are among the arguments
implied-below : (k : ℕ) (ms : List Mode) (xs : List ℕ) (f : ℕ → Bool) (top : ℕ) → k + length xs ≤ top → NumbersBelow top (implied_places k ms xs f)
implied-below k [] xs f top le = tt
implied-below k (m ∷ ms) [] f top le = tt
implied-below k (m ∷ ms) (x ∷ xs) f top le =
    at (is_bound m.0 || not (is_bound m.1)) (f x) (implied-below (suc k) ms xs f top (omega (arith, le))) (implied-below (suc k) ms xs (λ y. cond (nat_eq y x) true (f y)) top (omega (arith, le)))
  where
    at : (t u : Bool) → NumbersBelow top (implied_places (suc k) ms xs f) → NumbersBelow top (implied_places (suc k) ms xs (λ y. cond (nat_eq y x) true (f y)))
        → NumbersBelow top (cond t (implied_places (suc k) ms xs f) (cond u (k ∷ implied_places (suc k) ms xs f) (implied_places (suc k) ms xs (λ y. cond (nat_eq y x) true (f y)))))
    at true u p q = p
    at false true p q = (omega (arith, le), p)
    at false false p q = q

-- fresh variables are numbered on from the next number
fresh-within : (k : ℕ) (is xs : List ℕ) (n : ℕ) → Within n xs → Within (n + length (tests_at k is xs n)) (fresh_at k is xs n)
fresh-within k is [] n h = λ z i. absurd i
fresh-within k is (x ∷ xs) n h = at (is_in k is) (fresh-within (suc k) is xs (suc n) (within-on n (suc n) xs (omega arith) (λ y i. h y (inr i)))) (fresh-within (suc k) is xs n (λ y i. h y (inr i)))
  where
    at : (t : Bool) → Within (suc n + length (tests_at (suc k) is xs (suc n))) (fresh_at (suc k) is xs (suc n)) → Within (n + length (tests_at (suc k) is xs n)) (fresh_at (suc k) is xs n)
        → Within (n + length (cond t ((n, x) ∷ tests_at (suc k) is xs (suc n)) (tests_at (suc k) is xs n))) (cond t (n ∷ fresh_at (suc k) is xs (suc n)) (x ∷ fresh_at (suc k) is xs n))
    at true p q = λ z i. ⊎_elim (λ e. subst (λ w. w < n + suc (length (tests_at (suc k) is xs (suc n)))) (sym e) (omega arith)) (λ j. let l = p z j in omega (arith, l)) i
    at false p q = λ z i. ⊎_elim (λ e. let l = h x (inl refl) in subst (λ w. w < n + length (tests_at (suc k) is xs n)) (sym e) (omega (arith, l))) (λ j. q z j) i

module _ (B : Bounds) where
  tests-named : (k : ℕ) (is xs : List ℕ) (n : ℕ) → Within n xs → n + length (tests_at k is xs n) ≤ B.variables → EachNamed B (test_nodes (tests_at k is xs n))
  tests-named k is [] n h le = tt
  tests-named k is (x ∷ xs) n h le = at (is_in k is) le (tests-named (suc k) is xs (suc n) (within-on n (suc n) xs (omega arith) (λ y i. h y (inr i)))) (tests-named (suc k) is xs n (λ y i. h y (inr i)))
    where
      at : (t : Bool) → n + length (cond t ((n, x) ∷ tests_at (suc k) is xs (suc n)) (tests_at (suc k) is xs n)) ≤ B.variables
          → (suc n + length (tests_at (suc k) is xs (suc n)) ≤ B.variables → EachNamed B (test_nodes (tests_at (suc k) is xs (suc n))))
          → (n + length (tests_at (suc k) is xs n) ≤ B.variables → EachNamed B (test_nodes (tests_at (suc k) is xs n)))
          → EachNamed B (test_nodes (cond t ((n, x) ∷ tests_at (suc k) is xs (suc n)) (tests_at (suc k) is xs n)))
      at true l p q = ((tt, (omega (arith, l), let lx = h x (inl refl) in omega (arith, l, lx))), p (omega (arith, l)))
      at false l p q = q l

  both-named : (gs hs : Nodes) → EachNamed B gs → EachNamed B hs → EachNamed B (nodes_before gs hs)
  both-named no_nodes hs p q = q
  both-named (node_then g gs) hs p q = (p.0, both-named gs hs p.1 q)

  changes-named : (k x : ℕ) (b c : Point ℕ) → x + k ≤ B.variables → PointBelow B.insts c → ChangesNamed B (changes_from other_node x k b c)
  changes-named zero x b c le h = tt
  changes-named (suc k) x b c le h = at (nat_eq (b x) (c x)) (changes-named k (suc x) b c (omega (arith, le)) h)
    where
      at : (t : Bool) → ChangesNamed B (changes_from other_node (suc x) k b c) → ChangesNamed B (with_change x (cond t None (Some (c x))) (changes_from other_node (suc x) k b c))
      at true p = p
      at false p = (omega (arith, le), h x, p)

  end-named : (n : ℕ) (b : Point ℕ) (o : Option (Point ℕ)) → n ≤ B.variables → EndBelow B.insts o → ChangesNamed B (changes other_node n b o)
  end-named n b None le h = tt
  end-named n b (Some c) le h = changes-named n 0 b c (omega (arith, le)) h

-- ---- results
module _ (B : Bounds) (C : NodeOracle) where
  -- what is known before a goal is tried
  pub record Before (own : List ℕ) (n : ℕ) (b : Point ℕ) : Type 0 where
    pub own_below : Within n own
    pub point : PointBelow B.insts b

  abbrev pub NamedFrom : (own : List ℕ) → (n : ℕ) → Point ℕ → Arranged ℕ → Type 0
  NamedFrom own n b (runs gs o m zs) = (n ≤ m) × (Before own n b → m ≤ B.variables → EachNamed B gs × EndBelow B.insts o)
  NamedFrom own n b (breaks f) = Unit {0}

  abbrev pub Names : (own : List ℕ) → Trial ℕ → Type 0
  Names own t = (O : List ℕ) (n : ℕ) (b : Point ℕ) → NamedFrom own n b (t O n b)

  abbrev pub AllName : (own : List ℕ) → List (Waiting ℕ) → Type 0
  AllName own [] = Unit {0}
  AllName own (w ∷ ws) = Names own w.trial × AllName own ws

  -- branches from a later next number
  abbrev BranchesNamed : (own : List ℕ) → (n m : ℕ) → Point ℕ → Branches ℕ → Type 0
  BranchesNamed own n m b (all_run gs ends j) = (m ≤ j) × (Before own n b → j ≤ B.variables → EachNamed B gs)
  BranchesNamed own n m b (one_breaks f) = Unit {0}

  fewer : (own vs : List ℕ) (n : ℕ) (b : Point ℕ) → ((x : ℕ) → In x vs → In x own) → Before own n b → Before vs n b
  fewer own vs n b w h = record { own_below = λ x i. h.own_below x (w x i); point = h.point }

  named-more : (own vs : List ℕ) (n : ℕ) (b : Point ℕ) → ((x : ℕ) → In x vs → In x own) → (r : Arranged ℕ) → NamedFrom vs n b r → NamedFrom own n b r
  named-more own vs n b w (breaks f) k = tt
  named-more own vs n b w (runs gs o m zs) k = (k.0, λ h le. k.1 (fewer own vs n b w h) le)

  pub names-more : (own vs : List ℕ) (t : Trial ℕ) → ((x : ℕ) → In x vs → In x own) → Names vs t → Names own t
  names-more own vs t w k O n b = named-more own vs n b w (t O n b) (k O n b)

  all-name-more : (own vs : List ℕ) (ws : List (Waiting ℕ)) → ((x : ℕ) → In x vs → In x own) → AllName vs ws → AllName own ws
  all-name-more own vs [] w k = tt
  all-name-more own vs (v ∷ ws) w k = (names-more own vs v.trial w k.0, all-name-more own vs ws w k.1)

  all-name-both : (own : List ℕ) (vs ws : List (Waiting ℕ)) → AllName own vs → AllName own ws → AllName own (vs ++ ws)
  all-name-both own [] ws k h = h
  all-name-both own (v ∷ vs) ws k h = (k.0, all-name-both own vs ws k.1 h)

  named-if : (own : List ℕ) (n : ℕ) (b : Point ℕ) (t : Bool) (p q : Arranged ℕ) → NamedFrom own n b p → NamedFrom own n b q → NamedFrom own n b (cond t p q)
  named-if own n b true p q h k = h
  named-if own n b false p q h k = k

  named-unless : (own : List ℕ) (n : ℕ) (b : Point ℕ) (o : Option ℕ) (f : ℕ → Fault) (r : Arranged ℕ) → NamedFrom own n b r → NamedFrom own n b (unless o f r)
  named-unless own n b None f r k = k
  named-unless own n b (Some v) f r k = tt

  -- one goal, from an earlier next number
  one-named : (own : List ℕ) (n m : ℕ) (b : Point ℕ) (s : Scheduled) (o : Option (Point ℕ)) → n ≤ m → (Before own n b → m ≤ B.variables → NamedIn B s × EndBelow B.insts o) → NamedFrom own n b (one (of_nodes C) b s o m)
  one-named own n m b s o le h = (le, λ before l. let r = h before l in (((end-named B m b o l r.1, r.0), tt), r.1))

  alone-named : (m : ℕ) (b : Point ℕ) (o : Option (Point ℕ)) (gs : Nodes) → m ≤ B.variables → EndBelow B.insts o → EachNamed B gs → Named B (alone (of_nodes C) m b o gs)
  alone-named m b o no_nodes l e h = (end-named B m b o l e, h)
  alone-named m b o (node_then g no_nodes) l e h = h.0
  alone-named m b o (node_then g (node_then k gs)) l e h = (end-named B m b o l e, h)

  wrapped-named : (own : List ℕ) (n : ℕ) (b : Point ℕ) (f : ℕ → Option (Point ℕ) → Nodes → Scheduled) (r : Arranged ℕ)
      → ((gs : Nodes) (o : Option (Point ℕ)) (m : ℕ) → Before own n b → n ≤ m → m ≤ B.variables → EachNamed B gs → EndBelow B.insts o → NamedIn B (f m o gs))
      → NamedFrom own n b r → NamedFrom own n b (wrapped (of_nodes C) f b r)
  wrapped-named own n b f (breaks e) h k = tt
  wrapped-named own n b f (runs gs o m zs) h k = one-named own n m b (f m o gs) o k.0 (λ before l. let r = k.1 before l in (h gs o m before k.0 l r.0 r.1, r.1))

  -- ---- branches
  before-on : (own : List ℕ) (n m : ℕ) (b : Point ℕ) → n ≤ m → Before own n b → Before own m b
  before-on own n m b le h = record { own_below = within-on n m own le h.own_below; point = h.point }

  with-branch-named : (own : List ℕ) (n m j : ℕ) (b : Point ℕ) (g : Node) (o : Option (Point ℕ)) (r : Branches ℕ) → m ≤ j → (Before own n b → j ≤ B.variables → Named B g) → BranchesNamed own n j b r → BranchesNamed own n m b (with_branch g o r)
  with-branch-named own n m j b g o (one_breaks f) le h k = tt
  with-branch-named own n m j b g o (all_run gs ends i) le h k = (le_trans le k.0, λ before l. (h before (le_trans k.0 l), k.1 before l))

  and-branches-named : (own : List ℕ) (n m : ℕ) (b : Point ℕ) (r : Arranged ℕ) (rest : ℕ → Branches ℕ) → n ≤ m → NamedFrom own m b r → ((j : ℕ) → n ≤ j → BranchesNamed own n j b (rest j)) → BranchesNamed own n m b (and_branches (of_nodes C) b r rest)
  and-branches-named own n m b (breaks f) rest le k h = tt
  and-branches-named own n m b (runs gs o j zs) rest le k h =
      with-branch-named own n m j b (alone (of_nodes C) j b o gs) o (rest j) k.0 (λ before l. let r = k.1 (before-on own n m b le before) l in alone-named j b o gs l r.1 r.0) (h j (le_trans le k.0))

  each-branch-named : (own : List ℕ) (b : Point ℕ) (ws : List (Waiting ℕ)) (O : List ℕ) (n m : ℕ) → n ≤ m → AllName own ws → BranchesNamed own n m b (each_branch (of_nodes C) ws O m b)
  each-branch-named own b [] O n m le k = (le_refl m, λ before l. tt)
  each-branch-named own b (w ∷ ws) O n m le k = and-branches-named own n m b (w.trial O m b) (λ j. each_branch (of_nodes C) ws O j b) le (k.0 O m b) (λ j lj. each-branch-named own b ws O n j lj k.1)

  -- ---- conjunctions
  abbrev PickedNamed : (own : List ℕ) → (n : ℕ) → Point ℕ → Picked ℕ → Type 0
  PickedNamed own n b (takes vs ws gs o m) = (n ≤ m) × (Before own n b → m ≤ B.variables → EachNamed B gs × EndBelow B.insts o) × AllName own ws
  PickedNamed own n b (none_runs f) = Unit {0}

  or-first-named : (own : List ℕ) (n : ℕ) (b : Point ℕ) (f : Fault) (p : Picked ℕ) → PickedNamed own n b p → PickedNamed own n b (or_first f p)
  or-first-named own n b f (takes vs ws gs o m) k = k
  or-first-named own n b f (none_runs None) k = tt
  or-first-named own n b f (none_runs (Some (waits j vs))) k = tt
  or-first-named own n b f (none_runs (Some (negated_binds v))) k = tt
  or-first-named own n b f (none_runs (Some (branches_differ v))) k = tt
  or-first-named own n b f (none_runs (Some lacks)) k = tt

  picked-named : (own : List ℕ) (n : ℕ) (b : Point ℕ) (w : Waiting ℕ) (ws : List (Waiting ℕ)) (r : Arranged ℕ) (later : Picked ℕ) → NamedFrom own n b r → AllName own ws → PickedNamed own n b later → PickedNamed own n b (picked w ws r later)
  picked-named own n b w ws (runs gs o m zs) later k h p = (k.0, k.1, h)
  picked-named own n b w ws (breaks (waits j vs)) later k h p = p
  picked-named own n b w ws (breaks (negated_binds v)) later k h p = or-first-named own n b (negated_binds v) later p
  picked-named own n b w ws (breaks (branches_differ v)) later k h p = or-first-named own n b (branches_differ v) later p
  picked-named own n b w ws (breaks lacks) later k h p = tt

  pick-named : (own : List ℕ) (n : ℕ) (b : Point ℕ) (vs ws : List (Waiting ℕ)) (O : List ℕ) → AllName own vs → AllName own ws → PickedNamed own n b (pick vs ws O n b)
  pick-named own n b vs [] O h k = tt
  pick-named own n b vs (w ∷ ws) O h k =
      picked-named own n b w (vs ++ ws) (w.trial (O ++ variables_of_waiting (vs ++ ws)) n b) (pick (vs ++ w ∷ []) ws O n b) (k.0 (O ++ variables_of_waiting (vs ++ ws)) n b) (all-name-both own vs ws h k.1)
      (pick-named own n b (vs ++ w ∷ []) ws O (all-name-both own vs (w ∷ []) h (k.0, tt)) k.1)

  behind-named : (own : List ℕ) (n m : ℕ) (b c : Point ℕ) (gs : Nodes) (r : Arranged ℕ) → n ≤ m → (Before own n b → m ≤ B.variables → EachNamed B gs × PointBelow B.insts c) → NamedFrom own m c r → NamedFrom own n b (behind gs r)
  behind-named own n m b c gs (breaks f) le h k = tt
  behind-named own n m b c gs (runs hs o j zs) le h k = (
    le_trans le k.0,
    λ before l.
        let first = h before (le_trans k.0 l) in
        let rest = k.1 (record { own_below = within-on n m own le before.own_below; point = first.1 }) l in
        (both-named B gs hs first.0 rest.0, rest.1),
  )

-- ---- what the nodes of a builtin's modes are
plain-below : (n : ℕ) (bs : List Bool) → 3 < n → FinalsBelow n (plain_modes bs)
plain-below n [] h = tt
plain-below n (true ∷ bs) h = (omega (arith, h), plain-below n bs h)
plain-below n (false ∷ bs) h = (omega (arith, h), plain-below n bs h)

io-below : (n : ℕ) → 3 < n → (1 < n) × (2 < n) × (3 < n)
io-below n h = (omega (arith, h), omega (arith, h), h)

builtin-below : (n : ℕ) (op : Builtin) → 3 < n → FinalsBelow n (modes_of op)
builtin-below n B.IntPlus h = plain-below n (inputs_of B.IntPlus) h
builtin-below n B.IntMinus h = plain-below n (inputs_of B.IntMinus) h
builtin-below n B.IntTimes h = plain-below n (inputs_of B.IntTimes) h
builtin-below n B.IntQuotient h = plain-below n (inputs_of B.IntQuotient) h
builtin-below n B.IntDiv h = plain-below n (inputs_of B.IntDiv) h
builtin-below n B.IntMod h = plain-below n (inputs_of B.IntMod) h
builtin-below n B.IntRem h = plain-below n (inputs_of B.IntRem) h
builtin-below n B.IntNegate h = plain-below n (inputs_of B.IntNegate) h
builtin-below n B.IntLess h = plain-below n (inputs_of B.IntLess) h
builtin-below n B.IntGreater h = plain-below n (inputs_of B.IntGreater) h
builtin-below n B.IntAtMost h = plain-below n (inputs_of B.IntAtMost) h
builtin-below n B.IntAtLeast h = plain-below n (inputs_of B.IntAtLeast) h
builtin-below n B.StringJoin h = plain-below n (inputs_of B.StringJoin) h
builtin-below n B.StringLength h = plain-below n (inputs_of B.StringLength) h
builtin-below n B.StringCodePoints h = plain-below n (inputs_of B.StringCodePoints) h
builtin-below n B.IntToString h = plain-below n (inputs_of B.IntToString) h
builtin-below n B.CharToString h = plain-below n (inputs_of B.CharToString) h
builtin-below n B.ToCharList h = plain-below n (inputs_of B.ToCharList) h
builtin-below n B.StringToInt h = plain-below n (inputs_of B.StringToInt) h
builtin-below n B.CharToInt h = plain-below n (inputs_of B.CharToInt) h
builtin-below n B.CharFromInt h = plain-below n (inputs_of B.CharFromInt) h
builtin-below n B.CharIsDigit h = plain-below n (inputs_of B.CharIsDigit) h
builtin-below n B.WriteString h = ((io-below n h).0, (h, ((io-below n h).1, tt)))
builtin-below n B.WriteChar h = ((io-below n h).0, (h, ((io-below n h).1, tt)))
builtin-below n B.WriteInt h = ((io-below n h).0, (h, ((io-below n h).1, tt)))
builtin-below n B.Write h = ((io-below n h).0, (h, ((io-below n h).1, tt)))
builtin-below n B.Nl h = (h, ((io-below n h).1, tt))
builtin-below n B.ReadLine h = ((io-below n h).0, (h, ((io-below n h).1, tt)))
builtin-below n B.Error h = plain-below n (inputs_of B.Error) h

module _ (B : Bounds) (C : NodeOracle) (P : Source) (declared : ℕ → List Declared) (T : ℕ → TypeTerm) (finds : FindsBelow B.insts C) (modes : (p : ℕ) → (P.preds p).builtin ≡ None → DeclaredBelow B (declared p)) where
  node-below : (i : ℕ) → i ≤ 3 → i < B.insts
  node-below i le = let l = finds.some in omega (arith, le, l)

  with-inst-below : (x i : ℕ) (b : Point ℕ) → i < B.insts → PointBelow B.insts b → PointBelow B.insts (with_inst ℕ x i b)
  with-inst-below x i b l h y = at (nat_eq y x)
    where
      at : (t : Bool) → cond t i (b y) < B.insts
      at true = l
      at false = h y

  cond-below : (t : Bool) (b c : Point ℕ) → PointBelow B.insts b → PointBelow B.insts c → PointBelow B.insts (cond t b c)
  cond-below true b c h k = h
  cond-below false b c h k = k

  -- ---- conjunctions
  in-turn-named : (k : ℕ) (own : List ℕ) (ws : List (Waiting ℕ)) → AllName B C own ws → Names B C own (in_turn (of_nodes C) P declared T k ws)
  in-turn-named zero own ws h O n b = (le_refl n, λ before l. (tt, before.point))
  in-turn-named (suc k) own ws h O n b = at (pick [] ws O n b) (pick-named B C own n b [] ws O tt h) (λ us ku. in-turn-named k own us ku)
    where
      at : (p : Picked ℕ) → PickedNamed B C own n b p → ((us : List (Waiting ℕ)) → AllName B C own us → Names B C own (in_turn (of_nodes C) P declared T k us)) → NamedFrom B C own n b (goes_on (stuck (of_nodes C) P declared T ws b) p (λ vs rest m c. in_turn (of_nodes C) P declared T k rest (O ++ vs) m c))
      at (none_runs None) q again = tt
      at (none_runs (Some f)) q again = tt
      at (takes vs us gs None m) q again = (q.0, λ before l. q.1 before l)
      at (takes vs us gs (Some c) m) q again =
          behind-named B C own n m b c gs (in_turn (of_nodes C) P declared T k us (O ++ vs) m c) q.0 q.1 (again us q.2 (O ++ vs) m c)

  -- ---- atoms
  assigned-below : (x y : ℕ) (b : Point ℕ) → PointBelow B.insts b → PointBelow B.insts (assigned (of_nodes C) P declared T x y b)
  assigned-below x y b h = with-inst-below x (b y) (cond (is_state (T y)) (with_inst ℕ y 3 b) b) (h y) (cond-below (is_state (T y)) (with_inst ℕ y 3 b) b (with-inst-below y 3 b (node-below 3 (omega arith)) h) h)

  two-named : (x y n m : ℕ) (b : Point ℕ) → Before B C (x ∷ y ∷ []) n b → n ≤ B.variables → (x < B.variables) × (y < B.variables)
  two-named x y n m b before l = (lt_of_lt_of_le (before.own_below x (inl refl)) l, lt_of_lt_of_le (before.own_below y (inr (inl refl))) l)

  same-named : (x y : ℕ) (n : ℕ) (b : Point ℕ) → NamedFrom B C (x ∷ y ∷ []) n b (same (of_nodes C) P declared T x y n b)
  same-named x y n b =
      named-if B C (x ∷ y ∷ []) n b (is_bound (b x)) _ _
      (named-if B C (x ∷ y ∷ []) n b (is_bound (b y)) _ _
      (named-if B C (x ∷ y ∷ []) n b (is_state (T x)) _ _ tt (one-named B C (x ∷ y ∷ []) n n b (Test x y) (Some b) (le_refl n) (λ before l. (two-named x y n n b before l, before.point))))
      (one-named B C (x ∷ y ∷ []) n n b (Assign y x) (Some (assigned (of_nodes C) P declared T y x b)) (le_refl n) (λ before l. let r = two-named x y n n b before l in ((r.1, r.0), assigned-below y x b before.point))))
      (named-if B C (x ∷ y ∷ []) n b (is_bound (b y)) _ _ (one-named B C (x ∷ y ∷ []) n n b (Assign x y) (Some (assigned (of_nodes C) P declared T x y b)) (le_refl n) (λ before l. (two-named x y n n b before l, assigned-below x y b before.point))) tt)

  taken-below : (ys is : List ℕ) (b : Point ℕ) → NumbersBelow B.insts is → PointBelow B.insts b → PointBelow B.insts (taken (of_nodes C) P declared T ys is b)
  taken-below [] is b l h = h
  taken-below (y ∷ ys) [] b l h = h
  taken-below (y ∷ ys) (i ∷ is) b l h = taken-below ys is (cond (is_bound (b y)) b (with_inst ℕ y i b)) l.1 (cond-below (is_bound (b y)) b (with_inst ℕ y i b) h (with-inst-below y i b l.0 h))

  made-in : (x s : ℕ) (ys : List ℕ) (n : ℕ) (b : Point ℕ) → s < B.symbols → Before B C (x ∷ ys) n b → n ≤ B.variables → (x < B.variables) × (s < B.symbols) × NumbersBelow B.variables ys
  made-in x s ys n b sb before l = (lt_of_lt_of_le (before.own_below x (inl refl)) l, sb, numbers B.variables ys (λ z i. lt_of_lt_of_le (before.own_below z (inr i)) l))

  take-named : (x s : ℕ) (ys : List ℕ) (n : ℕ) (b : Point ℕ) → s < B.symbols → (o : Option (List ℕ)) → C.narrowed (b x) s ≡ o → NamedFrom B C (x ∷ ys) n b (take (of_nodes C) P declared T x s ys n b o)
  take-named x s ys n b sb None e = one-named B C (x ∷ ys) n n b (Take x s ys) None (le_refl n) (λ before l. (made-in x s ys n b sb before l, tt))
  take-named x s ys n b sb (Some is) e = at (C.over s is) refl
    where
      at : (o : Option ℕ) → C.over s is ≡ o → NamedFrom B C (x ∷ ys) n b (took (of_nodes C) P declared T x s ys is n b o)
      at None f = tt
      at (Some i) f =
          one-named B C (x ∷ ys) n n b (Take x s ys) (Some (taken (of_nodes C) P declared T ys is (with_inst ℕ x i b))) (le_refl n)
          (λ before l. (made-in x s ys n b sb before l, taken-below ys is (with_inst ℕ x i b) (finds.narrowed (b x) s is (before.point x) e) (with-inst-below x i b (finds.over s i is f) before.point)))

  built-named : (x s : ℕ) (ys : List ℕ) (n : ℕ) (b : Point ℕ) → s < B.symbols → (o : Option ℕ) → C.over s (map b ys) ≡ o → NamedFrom B C (x ∷ ys) n b (built (of_nodes C) P declared T x s ys n b o)
  built-named x s ys n b sb None e = tt
  built-named x s ys n b sb (Some i) e = one-named B C (x ∷ ys) n n b (Build x s ys) (Some (with_inst ℕ x i b)) (le_refl n) (λ before l. (made-in x s ys n b sb before l, with-inst-below x i b (finds.over s i (map b ys) e) before.point))

  made-named : (x s : ℕ) (ys : List ℕ) (n : ℕ) (b : Point ℕ) → s < B.symbols → NamedFrom B C (x ∷ ys) n b (made (of_nodes C) P declared T x s ys n b)
  made-named x s ys n b sb =
      named-if B C (x ∷ ys) n b (is_bound (b x)) _ _ (take-named x s ys n b sb (C.narrowed (b x) s) refl)
      (named-if B C (x ∷ ys) n b (list_any (λ y. not (is_bound (b y)) || is_state (T y)) ys) _ _ tt (built-named x s ys n b sb (C.over s (map b ys)) refl))

  constant-named : (x : ℕ) (v : Val) (n : ℕ) (b : Point ℕ) → NamedFrom B C (x ∷ []) n b (constant (of_nodes C) P declared T x v n b)
  constant-named x v n b = named-if B C (x ∷ []) n b (is_bound (b x)) _ _ (one-named B C (x ∷ []) n n b (TestConst x v) (cond (C.takes_constants (b x)) (Some b) None) (le_refl n) (λ before l. (lt_of_lt_of_le (before.own_below x (inl refl)) l, at (C.takes_constants (b x)) before.point)))
      (one-named B C (x ∷ []) n n b (Const x v) (Some (with_inst ℕ x 1 b)) (le_refl n) (λ before l. (lt_of_lt_of_le (before.own_below x (inl refl)) l, with-inst-below x 1 b (node-below 1 (omega arith)) before.point)))
    where
      at : (t : Bool) → PointBelow B.insts b → EndBelow B.insts (cond t (Some b) None)
      at true h = h
      at false h = tt

  -- ---- calls
  call-below : (f : ℕ → Bool) (ms : List Mode) (xs : List ℕ) (b : Point ℕ) → FinalsBelow B.insts ms → PointBelow B.insts b → PointBelow B.insts (after_call (of_nodes C) P declared T f ms xs b)
  call-below f [] xs b l h = h
  call-below f (m ∷ ms) [] b l h = h
  call-below f (m ∷ ms) (x ∷ xs) b l h =
      cond-below (is_bound m.0) _ _ (call-below f ms xs (input_after (of_nodes C) P declared T m x b) l.1 input-below)
      (cond-below (not (is_bound m.1) || f x) _ _ (call-below f ms xs b l.1 h) (call-below (λ y. cond (nat_eq y x) true (f y)) ms xs (with_inst ℕ x m.1 b) l.1 (with-inst-below x m.1 b l.0 h)))
    where
      input-below : PointBelow B.insts (input_after (of_nodes C) P declared T m x b)
      input-below = cond-below (not (C.is_dead m.1) && C.fits (b x) m.1 (T x)) b (with_inst ℕ x m.1 b) h (with-inst-below x m.1 b l.0 h)

  never-below : (t : Bool) (c : Point ℕ) → PointBelow B.insts c → EndBelow B.insts (cond t None (Some c))
  never-below true c h = tt
  never-below false c h = h

  -- a mode that is picked is one of those declared
  abbrev PickedBelow : Option Declared → Type 0
  PickedBelow None = Unit {0}
  PickedBelow (Some d) = (d.proc < B.procedures) × FinalsBelow B.insts d.modes

  better-below : (xs : List ℕ) (b : Point ℕ) (d : Declared) (o : Option Declared) → PickedBelow (Some d) → PickedBelow o → PickedBelow (Some (better (of_nodes C) P declared T xs b d o))
  better-below xs b d None h k = h
  better-below xs b d (Some e) h k = at _
    where
      at : (t : Bool) → PickedBelow (Some (cond t e d))
      at true = k
      at false = h

  best-below : (ds : List Declared) (xs : List ℕ) (b : Point ℕ) → DeclaredBelow B ds → PickedBelow (best (of_nodes C) P declared T ds xs b)
  best-below [] xs b h = tt
  best-below (d ∷ ds) xs b h = at (usable (of_nodes C) P declared T xs d.modes xs b) (best-below ds xs b h.2)
    where
      at : (t : Bool) → PickedBelow (best (of_nodes C) P declared T ds xs b) → PickedBelow (cond t (Some (better (of_nodes C) P declared T xs b d (best (of_nodes C) P declared T ds xs b))) (best (of_nodes C) P declared T ds xs b))
      at true k = better-below xs b d (best (of_nodes C) P declared T ds xs b) (h.0, h.1) k
      at false k = k

  called-named : (o : Option Declared) (xs : List ℕ) (n : ℕ) (b : Point ℕ) → PickedBelow o → NamedFrom B C xs n b (called (of_nodes C) P declared T o xs n b)
  called-named None xs n b h = tt
  called-named (Some d) xs n b h =
      one-named B C xs n n b (Call d.proc xs (implied_in (of_nodes C) P declared T d.modes xs b) false) (cond d.never None (Some (after (of_nodes C) P declared T d.modes xs b))) (le_refl n)
      (λ before l. ((h.0, numbers B.variables xs (within-on n B.variables xs l before.own_below), implied-below 0 d.modes xs (λ x. is_bound (b x)) (length xs) (omega arith)), never-below d.never (after (of_nodes C) P declared T d.modes xs b) (call-below (λ x. is_bound (b x)) d.modes xs b h.1 before.point)))

  apply-in : (op : Builtin) (xs : List ℕ) → Within B.variables xs → NamedIn B (Apply op (at_inputs (inputs_of op) xs) (at_outputs (inputs_of op) xs))
  apply-in op xs h = (numbers B.variables (at_inputs (inputs_of op) xs) (λ z i. h z (in-inputs (inputs_of op) xs z i)), numbers B.variables (at_outputs (inputs_of op) xs) (λ z i. h z (in-outputs (inputs_of op) xs z i)))

  applied-named : (is : List ℕ) (op : Builtin) (xs : List ℕ) (n : ℕ) (b : Point ℕ) → NamedFrom B C xs n b (applied_with (of_nodes C) P declared T is op xs n b)
  applied-named [] op xs n b =
      one-named B C xs n n b (Apply op (at_inputs (inputs_of op) xs) (at_outputs (inputs_of op) xs)) (cond (is_zero (builtin_most op)) None (Some (after (of_nodes C) P declared T (modes_of op) xs b))) (le_refl n)
      (λ before l. (apply-in op xs (within-on n B.variables xs l before.own_below), never-below (is_zero (builtin_most op)) (after (of_nodes C) P declared T (modes_of op) xs b) (call-below (λ x. is_bound (b x)) (modes_of op) xs b (builtin-below B.insts op finds.some) before.point)))
  applied-named (i ∷ is) op xs n b = (
    omega arith,
    λ before l.
        let zs = fresh_at 0 (i ∷ is) xs n in
        let c = after (of_nodes C) P declared T (modes_of op) zs b in
        let there = call-below (λ x. is_bound (b x)) (modes_of op) zs b (builtin-below B.insts op finds.some) before.point in
        (((end-named B (n + length (tests_at 0 (i ∷ is) xs n)) b (Some c) l there, apply-in op zs (within-on (n + length (tests_at 0 (i ∷ is) xs n)) B.variables zs l (fresh-within 0 (i ∷ is) xs n before.own_below))), tests-named B 0 (i ∷ is) xs n before.own_below l), there),
  )

  call-named : (o : Option Builtin) (p : ℕ) → (P.preds p).builtin ≡ o → (xs : List ℕ) (n : ℕ) (b : Point ℕ) → NamedFrom B C xs n b (call_of (of_nodes C) P declared T o p xs n b)
  call-named None p e xs n b = called-named (best (of_nodes C) P declared T (declared p) xs b) xs n b (best-below (declared p) xs b (modes p e))
  call-named (Some op) p e xs n b = named-if B C xs n b (usable (of_nodes C) P declared T xs (modes_of op) xs b) _ _ (applied-named (implied_in (of_nodes C) P declared T (modes_of op) xs b) op xs n b) tt

  atom-named : (own xs : List ℕ) (n : ℕ) (b : Point ℕ) (r : Arranged ℕ) → NamedFrom B C own n b r → NamedFrom B C own n b (atom (of_nodes C) P declared T xs b r)
  atom-named own xs n b r k = named-if B C own n b (list_any (λ x. C.is_dead (b x)) xs) _ _ tt k

  -- ---- compound goals
  or-free-below : (t : TypeTerm) (is : List ℕ) (o : Option ℕ) → C.joined t is ≡ o → or_free (of_nodes C) P declared T o < B.insts
  or-free-below t is None e = node-below 0 (omega arith)
  or-free-below t is (Some k) e = finds.joined t k is e

  merged-below : (own O : List ℕ) (b : Point ℕ) (ends : List (Point ℕ)) → PointBelow B.insts b → EndBelow B.insts (merged (of_nodes C) P declared T own O b ends)
  merged-below own O b [] h = tt
  merged-below own O b (c ∷ ends) h = λ x. at x (is_in x own) (is_in x O)
    where
      at : (x : ℕ) (t u : Bool) → cond t (cond u (or_free (of_nodes C) P declared T (joined_at (of_nodes C) P declared T (c ∷ ends) x)) 0) (b x) < B.insts
      at x true true = or-free-below (T x) (map (λ (d : Point ℕ). d x) (c ∷ ends)) (joined_at (of_nodes C) P declared T (c ∷ ends) x) refl
      at x true false = node-below 0 (omega arith)
      at x false u = h x

  branched-named : (own : List ℕ) (n m : ℕ) (b : Point ℕ) (v : Option ℕ) (f : Nodes → Scheduled) (O : List ℕ) (r : Branches ℕ)
      → n ≤ m → ((gs : Nodes) → Before B C own n b → m ≤ B.variables → EachNamed B gs → NamedIn B (f gs))
      → BranchesNamed B C own n m b r → NamedFrom B C own n b (branched (of_nodes C) P declared T v f own O b r)
  branched-named own n m b v f O (one_breaks e) le w k = tt
  branched-named own n m b v f O (all_run gs ends j) le w k =
      named-unless B C own n b v negated_binds _
      (named-unless B C own n b (least (differs (of_nodes C) P declared T ends) (those_in own O)) branches_differ _
      (named-if B C own n b (merges (of_nodes C) P declared T (those_in own O) ends) _ _
      (one-named B C own n j b (f gs) (merged (of_nodes C) P declared T own O b ends) (le_trans le k.0) (λ before l. (w gs before (le_trans k.0 l) (k.1 before l), merged-below own O b ends before.point))) tt))

  two-in : (vs : List ℕ) (c : Node) (gs : Nodes) → NumbersBelow B.variables vs → Named B c → EachNamed B gs → NamedIn B (two_goals (Ite vs c) gs)
  two-in vs c no_nodes v k h = tt
  two-in vs c (node_then g no_nodes) v k h = h
  two-in vs c (node_then g (node_then e no_nodes)) v k h = (v, k, h.0, h.1.0)
  two-in vs c (node_then g (node_then e (node_then i gs))) v k h = h

  else-named : (own : List ℕ) (n j : ℕ) (b : Point ℕ) (tk : Trial ℕ) (U : List ℕ) → n ≤ j → Names B C own tk → BranchesNamed B C own n j b (and_branches (of_nodes C) b (tk U j b) no_branch)
  else-named own n j b tk U le kk = and-branches-named B C own n j b (tk U j b) no_branch le (kk U j b) (λ i li. (le_refl i, λ before l. tt))

  then-else-named : (own : List ℕ) (n m : ℕ) (b c : Point ℕ) (th tk : Trial ℕ) (O U : List ℕ) → n ≤ m → Names B C own th → Names B C own tk → (Before B C own n b → m ≤ B.variables → PointBelow B.insts c)
      → BranchesNamed B C own n m b (and_branches (of_nodes C) c (th O m c) (λ j. and_branches (of_nodes C) b (tk U j b) no_branch))
  then-else-named own n m b c th tk O U le kh kk there = at (th O m c) (kh O m c)
    where
      at : (r : Arranged ℕ) → NamedFrom B C own m c r → BranchesNamed B C own n m b (and_branches (of_nodes C) c r (λ j. and_branches (of_nodes C) b (tk U j b) no_branch))
      at (breaks f) k = tt
      at (runs gs o j zs) k =
          with-branch-named B C own n m j b (alone (of_nodes C) j c o gs) o (and_branches (of_nodes C) b (tk U j b) no_branch) k.0
          (λ before l.
          let r = k.1 (record { own_below = within-on n m own le before.own_below; point = there before (le_trans k.0 l) }) l in
          alone-named B C j c o gs l r.1 r.0)
          (else-named own n j b tk U (le_trans le k.0) kk)

  conditional-named : (vs xs own : List ℕ) (O : List ℕ) (n : ℕ) (b : Point ℕ) (r : Arranged ℕ) (th tk : Trial ℕ) (U V : List ℕ) → ((z : ℕ) → In z vs → In z own) → NamedFrom B C own n b r → Names B C own th → Names B C own tk
      → NamedFrom B C own n b (conditional (of_nodes C) P declared T vs xs own O b r (λ m c. th U m c) (λ m. tk V m b))
  conditional-named vs xs own O n b (breaks f) th tk U V w k kh kk = tt
  conditional-named vs xs own O n b (runs gs None m zs) th tk U V w k kh kk =
      branched-named own n m b None (two_goals (Ite vs (alone (of_nodes C) m b None gs))) O (with_branch (unmarked (Conj no_nodes)) None (and_branches (of_nodes C) b (tk V m b) no_branch)) k.0
      (λ hs before l h. two-in vs (alone (of_nodes C) m b None gs) hs (numbers B.variables vs (λ z i. lt_of_lt_of_le (before.own_below z (w z i)) (le_trans k.0 l))) (alone-named B C m b None gs l tt (k.1 before l).0) h)
      (with-branch-named B C own n m m b (unmarked (Conj no_nodes)) None (and_branches (of_nodes C) b (tk V m b) no_branch) (le_refl m) (λ before l. (tt, tt)) (else-named own n m b tk V k.0 kk))
  conditional-named vs xs own O n b (runs gs (Some c) m zs) th tk U V w k kh kk =
      branched-named own n m b (binds (of_nodes C) P declared T xs b (Some c)) (two_goals (Ite vs (alone (of_nodes C) m b (Some c) gs))) O (and_branches (of_nodes C) c (th U m c) (λ j. and_branches (of_nodes C) b (tk V j b) no_branch)) k.0
      (λ hs before l h. let r = k.1 before l in two-in vs (alone (of_nodes C) m b (Some c) gs) hs (numbers B.variables vs (λ z i. lt_of_lt_of_le (before.own_below z (w z i)) (le_trans k.0 l))) (alone-named B C m b (Some c) gs l r.1 r.0) h)
      (then-else-named own n m b c th tk U V k.0 kh kk (λ before l. (k.1 before l).1))

  negation-named : (own xs : List ℕ) (n : ℕ) (b : Point ℕ) (r : Arranged ℕ) → NamedFrom B C own n b r → NamedFrom B C own n b (negation (of_nodes C) P declared T xs b r)
  negation-named own xs n b (breaks f) k = tt
  negation-named own xs n b (runs gs o m zs) k =
      named-unless B C own n b (binds (of_nodes C) P declared T xs b o) negated_binds _
      (one-named B C own n m b (Not (alone (of_nodes C) m b o gs)) (Some b) k.0 (λ before l. let r = k.1 before l in (alone-named B C m b o gs l r.1 r.0, before.point)))

  mutual
    names : (g : Flat_goal) → SymbolsBelow B.symbols g → Names B C (variables_of g) (trial (of_nodes C) P declared T g)
    names (F.Same x y) h O n b = atom-named (x ∷ y ∷ []) (x ∷ y ∷ []) n b (same (of_nodes C) P declared T x y n b) (same-named x y n b)
    names (F.Made x s ys) h O n b = atom-named (x ∷ ys) (x ∷ ys) n b (made (of_nodes C) P declared T x s ys n b) (made-named x s ys n b h)
    names (F.Is x v) h O n b = atom-named (x ∷ []) (x ∷ []) n b (constant (of_nodes C) P declared T x v n b) (constant-named x v n b)
    names (F.Call p xs) h O n b = atom-named xs xs n b (call_of (of_nodes C) P declared T (P.preds p).builtin p xs n b) (call-named (P.preds p).builtin p refl xs n b)
    names (F.And gs) h O n b =
        wrapped-named B C (variables_of_all gs) n b (λ m o hs. Conj hs) (in_turn (of_nodes C) P declared T (count_flat gs) (trials (of_nodes C) P declared T gs) O n b) (λ hs o m before le l r e. r)
        (in-turn-named (count_flat gs) (variables_of_all gs) (trials (of_nodes C) P declared T gs) (all-name gs h) O n b)
    names (F.Or gs) h O n b =
        branched-named (variables_of_all gs) n n b None Disj O (each_branch (of_nodes C) (trials (of_nodes C) P declared T gs) O n b) (le_refl n) (λ hs before l r. r)
        (each-branch-named B C (variables_of_all gs) b (trials (of_nodes C) P declared T gs) O n n (le_refl n) (all-name gs h))
    names (F.If vs g h k) s O n b =
        conditional-named vs (without (free_in g) vs) (variables_of (F.If vs g h k)) O n b (trial (of_nodes C) P declared T g (O ++ (without (free_in g) vs ++ variables_of h)) n b) (trial (of_nodes C) P declared T h) (trial (of_nodes C) P declared T k) (O ++ variables_of g) O
        (λ z i. in_left z vs (variables_of g ++ (variables_of h ++ variables_of k)) i)
        (names-more B C (variables_of (F.If vs g h k)) (variables_of g) (trial (of_nodes C) P declared T g) (λ x i. in_right x vs (variables_of g ++ (variables_of h ++ variables_of k)) (in_left x (variables_of g) (variables_of h ++ variables_of k) i)) (names g s.0) (O ++ (without (free_in g) vs ++ variables_of h)) n b)
        (names-more B C (variables_of (F.If vs g h k)) (variables_of h) (trial (of_nodes C) P declared T h) (λ x i. in_right x vs (variables_of g ++ (variables_of h ++ variables_of k)) (in_right x (variables_of g) (variables_of h ++ variables_of k) (in_left x (variables_of h) (variables_of k) i))) (names h s.1))
        (names-more B C (variables_of (F.If vs g h k)) (variables_of k) (trial (of_nodes C) P declared T k) (λ x i. in_right x vs (variables_of g ++ (variables_of h ++ variables_of k)) (in_right x (variables_of g) (variables_of h ++ variables_of k) (in_right x (variables_of h) (variables_of k) i))) (names k s.2))
    names (F.Not g) h O n b = negation-named (variables_of g) (free_in g) n b (trial (of_nodes C) P declared T g (O ++ free_in g) n b) (names g h (O ++ free_in g) n b)
    names (F.Exists vs g) h O n b =
        wrapped-named B C (vs ++ variables_of g) n b (λ m o gs. Exists vs (alone (of_nodes C) m b o gs)) (trial (of_nodes C) P declared T g O n b)
        (λ gs o m before le l r e. (numbers B.variables vs (λ z i. lt_of_lt_of_le (before.own_below z (in_left z vs (variables_of g) i)) (le_trans le l)), alone-named B C m b o gs l e r))
        (names-more B C (vs ++ variables_of g) (variables_of g) (trial (of_nodes C) P declared T g) (λ x i. in_right x vs (variables_of g) i) (names g h) O n b)

    all-name : (gs : Flat_goals) → AllSymbolsBelow B.symbols gs → AllName B C (variables_of_all gs) (trials (of_nodes C) P declared T gs)
    all-name no_flat h = tt
    all-name (flat_then g gs) h = (
      names-more B C (variables_of g ++ variables_of_all gs) (variables_of g) (trial (of_nodes C) P declared T g) (λ x i. in_left x (variables_of g) (variables_of_all gs) i) (names g h.0),
      all-name-more B C (variables_of g ++ variables_of_all gs) (variables_of_all gs) (trials (of_nodes C) P declared T gs) (λ x i. in_right x (variables_of g) (variables_of_all gs) i) (all-name gs h.1),
    )

pub orders-are-named : OrdersAreNamed
orders-are-named B C P declared T finds modes g O n b gs o m zs h w p e l =
    let k = subst (NamedFrom B C (variables_of g) n b) e (names B C P declared T finds modes g h O n b) in
    let r = k.1 (record { own_below = w; point = p }) l in
    (k.0, r.0, r.1)

-- A goal changes no variable but its own, and those that are numbered on.
use Rattle.std.proofs.Common.{◌≡◌, ◌⊎◌, inl, inr, ℕ, zero, suc, ◌<◌, ◌≤◌, Bool, true, false, cond, not, nat_eq, ◌&&◌, ◌||◌, List, [], ◌∷◌, ◌++◌, map, Option, Some, None, refl, ap, sym, ◌∙◌, subst, ⊎_elim, arith}
use Rattle.std.specs.List.{list_any}
use Rattle.std.proofs.Math.Nat.{le_trans, le_refl, lt_of_lt_of_le, not-le_of_lt}
use Rattle.std.proofs.lemmas.Bool.{eqb-true}
use Rattle.mc_program.specs.Values.{Val}
use Rattle.mc_program.specs.Programs.{TypeTerm, Source}
use Rattle.mc_model.specs.Flat as F
use Rattle.mc_model.specs.Flat.{Flat_goal, Flat_goals, no_flat, flat_then, variables_of, variables_of_all, free_in}
use Rattle.mc_model.specs.Lists.{In, is_in, without}
use Rattle.mc_model.specs.Scheduled.{Node, Scheduled, Conj, Disj, Ite, Exists, Nodes, no_nodes}
use Rattle.mc_model.specs.Stream.{is_bound}
use Rattle.mc_source.specs.Determinism.{is_zero}
use Rattle.mc_accepted.specs.Ordered.{Mode, is_state, modes_of, builtin_most}
use Rattle.mc_accepted.specs.Unmarked.{unmarked}
use Rattle.mc_accepted.specs.Least.{least}
use Rattle.mc_accepted.specs.Arranged.{Operations, Declared, Fault, waits, negated_binds, branches_differ, lacks, alone, two_goals, count_flat, fresh_at, Point, with_inst, Arranged, runs, breaks, Trial, Waiting, Picked, takes, none_runs, Branches, all_run, one_breaks, variables_of_waiting, or_first, picked, pick, behind, goes_on, with_branch, and_branches, no_branch, each_branch, unless, wrapped, stuck, in_turn, atom, assigned, same, taken, built, took, take, made, constant, input_after, after_call, after, best, called, applied_with, call_of, binds, differs, joined_at, or_free, merged, merges, those_in, branched, conditional, negation, trial, trials, usable, implied_in}
use Rattle.mc_program.specs.declared.builtin.Builtin.{Builtin}
use Rattle.laws_language.proofs.FlatGoals.{in_left, in_right}
use Rattle.laws_language.proofs.FlatWhole.{is_in_true}

pub not-in : (x : ℕ) (xs : List ℕ) → (In x xs → ⊥) → is_in x xs ≡ false
not-in x xs n = at (is_in x xs) refl
  where
    at : (t : Bool) → is_in x xs ≡ t → t ≡ false
    at true e = absurd (n (is_in_true x xs e))
    at false e = refl

-- the parts' variables are among those of an if-then-else
pub in-condition : (vs : List ℕ) (g h k : Flat_goal) (x : ℕ) → In x (variables_of g) → In x (variables_of (F.If vs g h k))
in-condition vs g h k x i = in_right x vs (variables_of g ++ (variables_of h ++ variables_of k)) (in_left x (variables_of g) (variables_of h ++ variables_of k) i)

pub in-then : (vs : List ℕ) (g h k : Flat_goal) (x : ℕ) → In x (variables_of h) → In x (variables_of (F.If vs g h k))
in-then vs g h k x i = in_right x vs (variables_of g ++ (variables_of h ++ variables_of k)) (in_right x (variables_of g) (variables_of h ++ variables_of k) (in_left x (variables_of h) (variables_of k) i))

pub in-else : (vs : List ℕ) (g h k : Flat_goal) (x : ℕ) → In x (variables_of k) → In x (variables_of (F.If vs g h k))
in-else vs g h k x i = in_right x vs (variables_of g ++ (variables_of h ++ variables_of k)) (in_right x (variables_of g) (variables_of h ++ variables_of k) (in_right x (variables_of h) (variables_of k) i))

abbrev pub Within : List ℕ → List ℕ → Type 0
Within xs ys = (x : ℕ) → In x xs → In x ys

module _ {I : Type 0} where
  -- the insts of other variables are as they were
  abbrev pub Stays : (own : List ℕ) → (n : ℕ) → Point I → Point I → Type 0
  Stays own n b c = (x : ℕ) → (In x own → ⊥) → x < n → c x ≡ b x

  abbrev pub EndStays : (own : List ℕ) → (n : ℕ) → Point I → Option (Point I) → Type 0
  EndStays own n b None = Unit {0}
  EndStays own n b (Some c) = Stays own n b c

  abbrev pub Kept : (own : List ℕ) → (n : ℕ) → Point I → Arranged I → Type 0
  Kept own n b (runs gs o m zs) = (n ≤ m) × EndStays own n b o
  Kept own n b (breaks f) = Unit {0}

  abbrev pub Keeps : (own : List ℕ) → Trial I → Type 0
  Keeps own t = (O : List ℕ) (n : ℕ) (b : Point I) → Kept own n b (t O n b)

  abbrev pub AllKeep : (own : List ℕ) → List (Waiting I) → Type 0
  AllKeep own [] = Unit {0}
  AllKeep own (w ∷ ws) = Keeps own w.trial × AllKeep own ws

  abbrev pub EndsStay : (own : List ℕ) → (n : ℕ) → Point I → List (Point I) → Type 0
  EndsStay own n b [] = Unit {0}
  EndsStay own n b (c ∷ cs) = Stays own n b c × EndsStay own n b cs

  abbrev pub BranchesKeep : (own : List ℕ) → (n : ℕ) → Point I → Branches I → Type 0
  BranchesKeep own n b (all_run gs ends m) = (n ≤ m) × EndsStay own n b ends
  BranchesKeep own n b (one_breaks f) = Unit {0}

  -- a result from a later point is one from an earlier point
  pub kept-on : (own vs : List ℕ) (n m : ℕ) (b c : Point I) → Within vs own → n ≤ m → Stays own n b c → (r : Arranged I) → Kept vs m c r → Kept own n b r
  kept-on own vs n m b c in_own le s (breaks f) k = tt
  kept-on own vs n m b c in_own le s (runs gs None j zs) k = (le_trans le k.0, tt)
  kept-on own vs n m b c in_own le s (runs gs (Some d) j zs) k = (le_trans le k.0, λ x off lt. k.1 x (λ i. off (in_own x i)) (lt_of_lt_of_le lt le) ∙ s x off lt)

  pub keeps-more : (own vs : List ℕ) (t : Trial I) → Within vs own → Keeps vs t → Keeps own t
  keeps-more own vs t in_own k O n b = kept-on own vs n n b b in_own (le_refl n) (λ x off lt. refl) (t O n b) (k O n b)

  pub all-keep-more : (own vs : List ℕ) (ws : List (Waiting I)) → Within vs own → AllKeep vs ws → AllKeep own ws
  all-keep-more own vs [] in_own k = tt
  all-keep-more own vs (w ∷ ws) in_own k = (keeps-more own vs w.trial in_own k.0, all-keep-more own vs ws in_own k.1)

  all-keep-both : (own : List ℕ) (vs ws : List (Waiting I)) → AllKeep own vs → AllKeep own ws → AllKeep own (vs ++ ws)
  all-keep-both own [] ws k h = h
  all-keep-both own (v ∷ vs) ws k h = (k.0, all-keep-both own vs ws k.1 h)

  kept-if : (own : List ℕ) (n : ℕ) (b : Point I) (t : Bool) (p q : Arranged I) → Kept own n b p → Kept own n b q → Kept own n b (cond t p q)
  kept-if own n b true p q h k = h
  kept-if own n b false p q h k = k

  kept-unless : (own : List ℕ) (n : ℕ) (b : Point I) (o : Option ℕ) (f : ℕ → Fault) (r : Arranged I) → Kept own n b r → Kept own n b (unless o f r)
  kept-unless own n b None f r k = k
  kept-unless own n b (Some v) f r k = tt

  -- ---- branches
  pub with-branch-keeps : (own : List ℕ) (n : ℕ) (b : Point I) (g : Node) (o : Option (Point I)) (B : Branches I) → EndStays own n b o → BranchesKeep own n b B → BranchesKeep own n b (with_branch g o B)
  with-branch-keeps own n b g o (one_breaks f) h k = tt
  with-branch-keeps own n b g None (all_run gs ends m) h k = k
  with-branch-keeps own n b g (Some c) (all_run gs ends m) h k = (k.0, (h, k.1))

  -- ---- conjunctions
  abbrev PickedKeeps : (own : List ℕ) → (n : ℕ) → Point I → Picked I → Type 0
  PickedKeeps own n b (takes vs ws gs o m) = (n ≤ m) × EndStays own n b o × AllKeep own ws
  PickedKeeps own n b (none_runs f) = Unit {0}

  or-first-keeps : (own : List ℕ) (n : ℕ) (b : Point I) (f : Fault) (p : Picked I) → PickedKeeps own n b p → PickedKeeps own n b (or_first f p)
  or-first-keeps own n b f (takes vs ws gs o m) k = k
  or-first-keeps own n b f (none_runs None) k = tt
  or-first-keeps own n b f (none_runs (Some (waits j vs))) k = tt
  or-first-keeps own n b f (none_runs (Some (negated_binds v))) k = tt
  or-first-keeps own n b f (none_runs (Some (branches_differ v))) k = tt
  or-first-keeps own n b f (none_runs (Some lacks)) k = tt

  picked-keeps : (own : List ℕ) (n : ℕ) (b : Point I) (w : Waiting I) (ws : List (Waiting I)) (r : Arranged I) (later : Picked I) → Kept own n b r → AllKeep own ws → PickedKeeps own n b later → PickedKeeps own n b (picked w ws r later)
  picked-keeps own n b w ws (runs gs o m zs) later k h p = (k.0, k.1, h)
  picked-keeps own n b w ws (breaks (waits j vs)) later k h p = p
  picked-keeps own n b w ws (breaks (negated_binds v)) later k h p = or-first-keeps own n b (negated_binds v) later p
  picked-keeps own n b w ws (breaks (branches_differ v)) later k h p = or-first-keeps own n b (branches_differ v) later p
  picked-keeps own n b w ws (breaks lacks) later k h p = tt

  pick-keeps : (own : List ℕ) (n : ℕ) (b : Point I) (vs ws : List (Waiting I)) (O : List ℕ) → AllKeep own vs → AllKeep own ws → PickedKeeps own n b (pick vs ws O n b)
  pick-keeps own n b vs [] O h k = tt
  pick-keeps own n b vs (w ∷ ws) O h k =
      picked-keeps own n b w (vs ++ ws) (w.trial (O ++ variables_of_waiting (vs ++ ws)) n b) (pick (vs ++ w ∷ []) ws O n b) (k.0 (O ++ variables_of_waiting (vs ++ ws)) n b) (all-keep-both own vs ws h k.1)
      (pick-keeps own n b (vs ++ w ∷ []) ws O (all-keep-both own vs (w ∷ []) h (k.0, tt)) k.1)

  behind-keeps : (own : List ℕ) (n : ℕ) (b : Point I) (gs : Nodes) (r : Arranged I) → Kept own n b r → Kept own n b (behind gs r)
  behind-keeps own n b gs (breaks f) k = tt
  behind-keeps own n b gs (runs hs o m zs) k = k

module _ {I : Type 0} (Op : Operations I) where
  kept-wrapped : (own : List ℕ) (n : ℕ) (b : Point I) (f : ℕ → Option (Point I) → Nodes → Scheduled) (r : Arranged I) → Kept own n b r → Kept own n b (wrapped Op f b r)
  kept-wrapped own n b f (breaks e) k = tt
  kept-wrapped own n b f (runs gs o m zs) k = k

  -- a branch begins at a point c, which may be a later one
  pub and-branches-keep : (own : List ℕ) (n : ℕ) (b c : Point I) (r : Arranged I) (rest : ℕ → Branches I) → Kept own n b r → ((m : ℕ) → n ≤ m → BranchesKeep own n b (rest m)) → BranchesKeep own n b (and_branches Op c r rest)
  and-branches-keep own n b c (breaks f) rest k h = tt
  and-branches-keep own n b c (runs gs o m zs) rest k h = with-branch-keeps own n b (alone Op m c o gs) o (rest m) k.1 (h m k.0)

  from-later : (own : List ℕ) (n m : ℕ) (b : Point I) (r : Arranged I) → n ≤ m → Kept own m b r → Kept own n b r
  from-later own n m b r le k = kept-on own own n m b b (λ x i. i) le (λ x off lt. refl) r k

  each-branch-from : (own : List ℕ) (n m : ℕ) (b : Point I) (ws : List (Waiting I)) (O : List ℕ) → n ≤ m → AllKeep own ws → BranchesKeep own n b (each_branch Op ws O m b)
  each-branch-from own n m b [] O le k = (le, tt)
  each-branch-from own n m b (w ∷ ws) O le k =
      and-branches-keep own n b b (w.trial O m b) (λ j. each_branch Op ws O j b) (from-later own n m b (w.trial O m b) le (k.0 O m b)) (λ j lj. each-branch-from own n j b ws O lj k.1)

  pub each-branch-keeps : (own : List ℕ) (n : ℕ) (b : Point I) (ws : List (Waiting I)) (O : List ℕ) → AllKeep own ws → BranchesKeep own n b (each_branch Op ws O n b)
  each-branch-keeps own n b ws O k = each-branch-from own n n b ws O (le_refl n) k

module _ {I : Type 0} (Op : Operations I) (P : Source) (declared : ℕ → List Declared) (T : ℕ → TypeTerm) where
  in-turn-keeps : (k : ℕ) (own : List ℕ) (ws : List (Waiting I)) → AllKeep own ws → Keeps own (in_turn Op P declared T k ws)
  in-turn-keeps zero own ws h O n b = (le_refl n, λ x off lt. refl)
  in-turn-keeps (suc k) own ws h O n b = at (pick [] ws O n b) (pick-keeps own n b [] ws O tt h) (λ us ku. in-turn-keeps k own us ku)
    where
      at : (p : Picked I) → PickedKeeps own n b p → ((us : List (Waiting I)) → AllKeep own us → Keeps own (in_turn Op P declared T k us)) → Kept own n b (goes_on (stuck Op P declared T ws b) p (λ vs rest m c. in_turn Op P declared T k rest (O ++ vs) m c))
      at (none_runs None) q again = tt
      at (none_runs (Some f)) q again = tt
      at (takes vs us gs None m) q again = (q.0, tt)
      at (takes vs us gs (Some c) m) q again =
          behind-keeps own n b gs (in_turn Op P declared T k us (O ++ vs) m c)
          (kept-on own own n m b c (λ x i. i) q.0 q.1 (in_turn Op P declared T k us (O ++ vs) m c) (again us q.2 (O ++ vs) m c))

  -- ---- atoms
  with-inst-off : (x y : ℕ) (i : I) (b : Point I) → (y ≡ x → ⊥) → with_inst I x i b y ≡ b y
  with-inst-off x y i b off = at (nat_eq y x) (eqb-true y x)
    where
      at : (t : Bool) → (t ≡ true → y ≡ x) → cond t i (b y) ≡ b y
      at true e = absurd (off (e refl))
      at false e = refl

  cond-off : (t : Bool) (b c : Point I) (x : ℕ) → c x ≡ b x → cond t b c x ≡ b x
  cond-off true b c x e = refl
  cond-off false b c x e = e

  assigned-off : (x y : ℕ) (b : Point I) (z : ℕ) → (z ≡ x → ⊥) → (z ≡ y → ⊥) → assigned Op P declared T x y b z ≡ b z
  assigned-off x y b z p q = with-inst-off x z (b y) (cond (is_state (T y)) (with_inst I y (Op.node 3) b) b) p ∙ at (is_state (T y))
    where
      at : (t : Bool) → cond t (with_inst I y (Op.node 3) b) b z ≡ b z
      at true = with-inst-off y z (Op.node 3) b q
      at false = refl

  same-keeps : (x y : ℕ) (n : ℕ) (b : Point I) → Kept (x ∷ y ∷ []) n b (same Op P declared T x y n b)
  same-keeps x y n b =
      kept-if (x ∷ y ∷ []) n b (Op.is_bound (b x)) _ _
      (kept-if (x ∷ y ∷ []) n b (Op.is_bound (b y)) _ _ (kept-if (x ∷ y ∷ []) n b (is_state (T x)) _ _ tt (le_refl n, λ z off lt. refl))
      (le_refl n, λ z off lt. assigned-off y x b z (λ e. off (inr (inl e))) (λ e. off (inl e))))
      (kept-if (x ∷ y ∷ []) n b (Op.is_bound (b y)) _ _ (le_refl n, λ z off lt. assigned-off x y b z (λ e. off (inl e)) (λ e. off (inr (inl e)))) tt)

  taken-off : (ys : List ℕ) (is : List I) (b : Point I) (z : ℕ) → (In z ys → ⊥) → taken Op P declared T ys is b z ≡ b z
  taken-off [] is b z off = refl
  taken-off (y ∷ ys) [] b z off = refl
  taken-off (y ∷ ys) (i ∷ is) b z off = taken-off ys is (cond (Op.is_bound (b y)) b (with_inst I y i b)) z (λ j. off (inr j)) ∙ cond-off (Op.is_bound (b y)) b (with_inst I y i b) z (with-inst-off y z i b (λ e. off (inl e)))

  take-keeps : (x s : ℕ) (ys : List ℕ) (n : ℕ) (b : Point I) (o : Option (List I)) → Kept (x ∷ ys) n b (take Op P declared T x s ys n b o)
  take-keeps x s ys n b None = (le_refl n, tt)
  take-keeps x s ys n b (Some is) = at (Op.over s is)
    where
      at : (o : Option I) → Kept (x ∷ ys) n b (took Op P declared T x s ys is n b o)
      at None = tt
      at (Some i) = (le_refl n, λ z off lt. taken-off ys is (with_inst I x i b) z (λ j. off (inr j)) ∙ with-inst-off x z i b (λ e. off (inl e)))

  built-keeps : (x s : ℕ) (ys : List ℕ) (n : ℕ) (b : Point I) (o : Option I) → Kept (x ∷ ys) n b (built Op P declared T x s ys n b o)
  built-keeps x s ys n b None = tt
  built-keeps x s ys n b (Some i) = (le_refl n, λ z off lt. with-inst-off x z i b (λ e. off (inl e)))

  made-keeps : (x s : ℕ) (ys : List ℕ) (n : ℕ) (b : Point I) → Kept (x ∷ ys) n b (made Op P declared T x s ys n b)
  made-keeps x s ys n b =
      kept-if (x ∷ ys) n b (Op.is_bound (b x)) _ _ (take-keeps x s ys n b (Op.narrowed (b x) s))
      (kept-if (x ∷ ys) n b (list_any (λ y. not (Op.is_bound (b y)) || is_state (T y)) ys) _ _ tt (built-keeps x s ys n b (Op.over s (map b ys))))

  constant-keeps : (x : ℕ) (v : Val) (n : ℕ) (b : Point I) → Kept (x ∷ []) n b (constant Op P declared T x v n b)
  constant-keeps x v n b = kept-if (x ∷ []) n b (Op.is_bound (b x)) _ _ (le_refl n, at (Op.takes_constants (b x))) (le_refl n, λ z off lt. with-inst-off x z (Op.node 1) b (λ e. off (inl e)))
    where
      at : (t : Bool) → EndStays (x ∷ []) n b (cond t (Some b) None)
      at true = λ z off lt. refl
      at false = tt

  -- ---- calls
  call-off : (f : ℕ → Bool) (ms : List Mode) (xs : List ℕ) (b : Point I) (z : ℕ) → (In z xs → ⊥) → after_call Op P declared T f ms xs b z ≡ b z
  call-off f [] xs b z off = refl
  call-off f (m ∷ ms) [] b z off = refl
  call-off f (m ∷ ms) (x ∷ xs) b z off =
      at (is_bound m.0) (not (is_bound m.1) || f x) (call-off f ms xs (input_after Op P declared T m x b) z (λ j. off (inr j))) (call-off f ms xs b z (λ j. off (inr j)))
      (call-off (λ y. cond (nat_eq y x) true (f y)) ms xs (with_inst I x (Op.node m.1) b) z (λ j. off (inr j)))
    where
      input-off : input_after Op P declared T m x b z ≡ b z
      input-off = cond-off (not (Op.is_dead (Op.node m.1)) && Op.fits (b x) m.1 (T x)) b (with_inst I x (Op.node m.1) b) z (with-inst-off x z (Op.node m.1) b (λ e. off (inl e)))

      at : (t u : Bool) → after_call Op P declared T f ms xs (input_after Op P declared T m x b) z ≡ input_after Op P declared T m x b z → after_call Op P declared T f ms xs b z ≡ b z →
          after_call Op P declared T (λ y. cond (nat_eq y x) true (f y)) ms xs (with_inst I x (Op.node m.1) b) z ≡ with_inst I x (Op.node m.1) b z →
          cond t (after_call Op P declared T f ms xs (input_after Op P declared T m x b)) (cond u (after_call Op P declared T f ms xs b) (after_call Op P declared T (λ y. cond (nat_eq y x) true (f y)) ms xs (with_inst I x (Op.node m.1) b))) z ≡ b z
      at true u p q r = p ∙ input-off
      at false true p q r = q
      at false false p q r = r ∙ with-inst-off x z (Op.node m.1) b (λ e. off (inl e))

  fresh-from : (k : ℕ) (is xs : List ℕ) (n z : ℕ) → In z (fresh_at k is xs n) → In z xs ⊎ (n ≤ z)
  fresh-from k is [] n z i = absurd i
  fresh-from k is (x ∷ xs) n z i = at (is_in k is) i (fresh-from (suc k) is xs (suc n) z) (fresh-from (suc k) is xs n z)
    where
      at : (t : Bool) → In z (cond t (n ∷ fresh_at (suc k) is xs (suc n)) (x ∷ fresh_at (suc k) is xs n)) → (In z (fresh_at (suc k) is xs (suc n)) → In z xs ⊎ (suc n ≤ z)) → (In z (fresh_at (suc k) is xs n) → In z xs ⊎ (n ≤ z)) → In z (x ∷ xs) ⊎ (n ≤ z)
      at true j f g = ⊎_elim (λ e. inr (subst (λ y. n ≤ y) (sym e) (le_refl n))) (λ l. ⊎_elim (λ q. inl (inr q)) (λ q. inr (omega (arith, q))) (f l)) j
      at false j f g = ⊎_elim (λ e. inl (inl e)) (λ l. ⊎_elim (λ q. inl (inr q)) (λ q. inr q) (g l)) j

  never-stays : (own : List ℕ) (n : ℕ) (b c : Point I) (t : Bool) → Stays own n b c → EndStays own n b (cond t None (Some c))
  never-stays own n b c true s = tt
  never-stays own n b c false s = s

  called-keeps : (o : Option Declared) (xs : List ℕ) (n : ℕ) (b : Point I) → Kept xs n b (called Op P declared T o xs n b)
  called-keeps None xs n b = tt
  called-keeps (Some d) xs n b = (le_refl n, never-stays xs n b (after Op P declared T d.modes xs b) d.never (λ z off lt. call-off (λ x. Op.is_bound (b x)) d.modes xs b z off))

  applied-keeps : (is : List ℕ) (op : Builtin) (xs : List ℕ) (n : ℕ) (b : Point I) → Kept xs n b (applied_with Op P declared T is op xs n b)
  applied-keeps [] op xs n b = (le_refl n, never-stays xs n b (after Op P declared T (modes_of op) xs b) (is_zero (builtin_most op)) (λ z off lt. call-off (λ x. Op.is_bound (b x)) (modes_of op) xs b z off))
  applied-keeps (i ∷ is) op xs n b =
      (omega arith, λ z off lt. call-off (λ x. Op.is_bound (b x)) (modes_of op) (fresh_at 0 (i ∷ is) xs n) b z (λ j. ⊎_elim off (λ le. not-le_of_lt lt le) (fresh-from 0 (i ∷ is) xs n z j)))

  call-keeps : (o : Option Builtin) (p : ℕ) (xs : List ℕ) (n : ℕ) (b : Point I) → Kept xs n b (call_of Op P declared T o p xs n b)
  call-keeps None p xs n b = called-keeps (best Op P declared T (declared p) xs b) xs n b
  call-keeps (Some op) p xs n b = kept-if xs n b (usable Op P declared T xs (modes_of op) xs b) _ _ (applied-keeps (implied_in Op P declared T (modes_of op) xs b) op xs n b) tt

  atom-keeps : (own xs : List ℕ) (n : ℕ) (b : Point I) (r : Arranged I) → Kept own n b r → Kept own n b (atom Op P declared T xs b r)
  atom-keeps own xs n b r k = kept-if own n b (list_any (λ x. Op.is_dead (b x)) xs) _ _ tt k

  -- ---- compound goals
  branched-keeps : (own : List ℕ) (n : ℕ) (b : Point I) (v : Option ℕ) (f : Nodes → Scheduled) (O : List ℕ) (B : Branches I) → BranchesKeep own n b B → Kept own n b (branched Op P declared T v f own O b B)
  branched-keeps own n b v f O (one_breaks e) k = tt
  branched-keeps own n b v f O (all_run gs ends m) k =
      kept-unless own n b v negated_binds _
      (kept-unless own n b (least (differs Op P declared T ends) (those_in own O)) branches_differ _
      (kept-if own n b (merges Op P declared T (those_in own O) ends) _ _ (k.0, at ends) tt))
    where
      at : (ends : List (Point I)) → EndStays own n b (merged Op P declared T own O b ends)
      at [] = tt
      at (c ∷ cs) = λ x off lt. ap (λ t. cond t (cond (is_in x O) (or_free Op P declared T (joined_at Op P declared T (c ∷ cs) x)) (Op.node 0)) (b x)) (not-in x own off)

  -- the branches of an if-then-else
  pub then-else-keep : (own : List ℕ) (n m : ℕ) (b c : Point I) (th tk : Trial I) (O U : List ℕ) → n ≤ m → Stays own n b c → Keeps own th → Keeps own tk →
      BranchesKeep own n b (and_branches Op c (th O m c) (λ j. and_branches Op b (tk U j b) no_branch))
  then-else-keep own n m b c th tk O U le s kh kk =
      and-branches-keep Op own n b c (th O m c) (λ j. and_branches Op b (tk U j b) no_branch) (kept-on own own n m b c (λ x i. i) le s (th O m c) (kh O m c)) (λ j lj. else-keeps own n j b tk U lj kk)
    where
      else-keeps : (own : List ℕ) (n j : ℕ) (b : Point I) (tk : Trial I) (U : List ℕ) → n ≤ j → Keeps own tk → BranchesKeep own n b (and_branches Op b (tk U j b) no_branch)
      else-keeps own n j b tk U lj kk = and-branches-keep Op own n b b (tk U j b) no_branch (kept-on own own n j b b (λ x i. i) lj (λ x off lt. refl) (tk U j b) (kk U j b)) (λ i li. (li, tt))

  pub never-keeps : (own : List ℕ) (n m : ℕ) (b : Point I) (g : Node) (tk : Trial I) (U : List ℕ) → n ≤ m → Keeps own tk → BranchesKeep own n b (with_branch g None (and_branches Op b (tk U m b) no_branch))
  never-keeps own n m b g tk U le kk =
      with-branch-keeps own n b g None (and_branches Op b (tk U m b) no_branch) tt
      (and-branches-keep Op own n b b (tk U m b) no_branch (kept-on own own n m b b (λ x i. i) le (λ x off lt. refl) (tk U m b) (kk U m b)) (λ i li. (li, tt)))

  conditional-keeps : (vs xs own vg : List ℕ) (O : List ℕ) (n : ℕ) (b : Point I) (r : Arranged I) (th tk : Trial I) (U V : List ℕ) → Kept own n b r → Keeps own th → Keeps own tk →
      Kept own n b (conditional Op P declared T vs xs own O b r (λ m c. th U m c) (λ m. tk V m b))
  conditional-keeps vs xs own vg O n b (breaks f) th tk U V k kh kk = tt
  conditional-keeps vs xs own vg O n b (runs gs None m zs) th tk U V k kh kk =
      branched-keeps own n b None (two_goals (Ite vs (alone Op m b None gs))) O (with_branch (unmarked (Conj no_nodes)) None (and_branches Op b (tk V m b) no_branch)) (never-keeps own n m b (unmarked (Conj no_nodes)) tk V k.0 kk)
  conditional-keeps vs xs own vg O n b (runs gs (Some c) m zs) th tk U V k kh kk =
      branched-keeps own n b (binds Op P declared T xs b (Some c)) (two_goals (Ite vs (alone Op m b (Some c) gs))) O (and_branches Op c (th U m c) (λ j. and_branches Op b (tk V j b) no_branch))
      (then-else-keep own n m b c th tk U V k.0 k.1 kh kk)

  negation-keeps : (own xs : List ℕ) (n : ℕ) (b : Point I) (r : Arranged I) → Kept own n b r → Kept own n b (negation Op P declared T xs b r)
  negation-keeps own xs n b (breaks f) k = tt
  negation-keeps own xs n b (runs gs o m zs) k = kept-unless own n b (binds Op P declared T xs b o) negated_binds _ (k.0, λ x off lt. refl)

  mutual
    pub keeps : (g : Flat_goal) → Keeps (variables_of g) (trial Op P declared T g)
    keeps (F.Same x y) O n b = atom-keeps (x ∷ y ∷ []) (x ∷ y ∷ []) n b (same Op P declared T x y n b) (same-keeps x y n b)
    keeps (F.Made x s ys) O n b = atom-keeps (x ∷ ys) (x ∷ ys) n b (made Op P declared T x s ys n b) (made-keeps x s ys n b)
    keeps (F.Is x v) O n b = atom-keeps (x ∷ []) (x ∷ []) n b (constant Op P declared T x v n b) (constant-keeps x v n b)
    keeps (F.Call p xs) O n b = atom-keeps xs xs n b (call_of Op P declared T (P.preds p).builtin p xs n b) (call-keeps (P.preds p).builtin p xs n b)
    keeps (F.And gs) O n b = kept-wrapped Op (variables_of_all gs) n b (λ m o hs. Conj hs) (in_turn Op P declared T (count_flat gs) (trials Op P declared T gs) O n b) (in-turn-keeps (count_flat gs) (variables_of_all gs) (trials Op P declared T gs) (all-keep gs) O n b)
    keeps (F.Or gs) O n b =
        branched-keeps (variables_of_all gs) n b None Disj O (each_branch Op (trials Op P declared T gs) O n b) (each-branch-keeps Op (variables_of_all gs) n b (trials Op P declared T gs) O (all-keep gs))
    keeps (F.If vs g h k) O n b =
        conditional-keeps vs (without (free_in g) vs) (variables_of (F.If vs g h k)) [] O n b (trial Op P declared T g (O ++ (without (free_in g) vs ++ variables_of h)) n b) (trial Op P declared T h) (trial Op P declared T k) (O ++ variables_of g) O
        (keeps-more (variables_of (F.If vs g h k)) (variables_of g) (trial Op P declared T g) (in-condition vs g h k) (keeps g) (O ++ (without (free_in g) vs ++ variables_of h)) n b)
        (keeps-more (variables_of (F.If vs g h k)) (variables_of h) (trial Op P declared T h) (in-then vs g h k) (keeps h))
        (keeps-more (variables_of (F.If vs g h k)) (variables_of k) (trial Op P declared T k) (in-else vs g h k) (keeps k))
    keeps (F.Not g) O n b = negation-keeps (variables_of g) (free_in g) n b (trial Op P declared T g (O ++ free_in g) n b) (keeps g (O ++ free_in g) n b)
    keeps (F.Exists vs g) O n b =
        kept-wrapped Op (vs ++ variables_of g) n b (λ m o gs. Exists vs (alone Op m b o gs)) (trial Op P declared T g O n b)
        (keeps-more (vs ++ variables_of g) (variables_of g) (trial Op P declared T g) (λ x i. in_right x vs (variables_of g) i) (keeps g) O n b)

    pub all-keep : (gs : Flat_goals) → AllKeep (variables_of_all gs) (trials Op P declared T gs)
    all-keep no_flat = tt
    all-keep (flat_then g gs) = (
      keeps-more (variables_of g ++ variables_of_all gs) (variables_of g) (trial Op P declared T g) (λ x i. in_left x (variables_of g) (variables_of_all gs) i) (keeps g),
      all-keep-more (variables_of g ++ variables_of_all gs) (variables_of_all gs) (trials Op P declared T gs) (λ x i. in_right x (variables_of g) (variables_of_all gs) i) (all-keep gs),
    )

  pub others-stay : (g : Flat_goal) (O : List ℕ) (n : ℕ) (b c : Point I) (gs : Nodes) (m : ℕ) (zs : List ℕ) → trial Op P declared T g O n b ≡ runs gs (Some c) m zs → (n ≤ m) × Stays (variables_of g) n b c
  others-stay g O n b c gs m zs e = subst (Kept (variables_of g) n b) e (keeps g O n b)

-- A goal that is tried from related points.
use Rattle.std.proofs.Common.{◌≡◌, inl, inr, ℕ, zero, suc, ◌+◌, ◌<◌, ◌≤◌, Bool, true, false, cond, not, nat_eq, nat_lt, ◌&&◌, ◌||◌, List, [], ◌∷◌, ◌++◌, map, length, Option, Some, None, refl, ap, ap₂, sym, ◌∙◌, subst, ⊎_elim, arith}
use Rattle.std.specs.List.{list_any}
use Rattle.std.proofs.Math.Nat.{le_refl, le_trans, lt_of_lt_of_le, not-le_of_lt}
use Rattle.std.proofs.lemmas.Bool.{eqb-true, ltb-true, ltb-false}
use Rattle.mc_program.specs.Values.{Val}
use Rattle.mc_program.specs.Programs.{TypeTerm, int_type, char_type, string_type, state_type, variable_type, union_type, Source}
use Rattle.mc_program.specs.declared.builtin.Builtin.{Builtin}
use Rattle.mc_source.specs.Determinism.{is_zero}
use Rattle.mc_model.specs.Flat as F
use Rattle.mc_model.specs.Flat.{Flat_goal, Flat_goals, no_flat, flat_then, variables_of, variables_of_all, free_in}
use Rattle.mc_model.specs.Lists.{In, is_in, without}
use Rattle.mc_model.specs.Types.{instance_of}
use Rattle.mc_model.specs.Scheduled.{Node, Scheduled, Conj, Disj, Ite, Not, Exists, Assign, Test, Build, Take, Const, TestConst, Call, Nodes, no_nodes, node_then}
use Rattle.mc_model.specs.Stream.{is_bound}
use Rattle.mc_accepted.specs.Ordered.{Mode, is_state, modes_of, builtin_most, implied_places, times_in}
use Rattle.mc_accepted.specs.Typing.{constructor_types, ConstantOf, TypedGoal, TypedGoals}
use Rattle.mc_accepted.specs.Calls.{CallsOnly, AllCallOnly}
use Rattle.mc_accepted.specs.Unmarked.{unmarked}
use Rattle.mc_accepted.specs.Least.{least}
use Rattle.mc_accepted.specs.Arranged.{Operations, Declared, Fault, waits, negated_binds, branches_differ, lacks, one, alone, changing, two_goals, count_flat, fresh_at, tests_at, test_nodes, with_fresh, Point, with_inst, Arranged, runs, breaks, Trial, Waiting, Picked, Branches, variables_of_waiting, or_first, picked, pick, behind, goes_on, with_branch, and_branches, no_branch, each_branch, unless, wrapped, free_at, wait, stuck, in_turn, atom, assigned, same, taken, built, took, take, made, constant, is_input, usable, input_after, after_call, after, implied_in, better, best, called, applying, applied_with, call_of, binds, differs, is_there, joined_at, or_free, merged, merges, those_in, branched, conditional, negation, trial, trials}
use Rattle.laws_language.proofs.FlatGoals.{in_left, in_right, in_either}
use Rattle.laws_language.proofs.ClauseNumbers.{from_without}
use Rattle.laws_language.proofs.FlatWhole.{is_in_true}
use Rattle.laws_graphs.specs.Related.{Below, EachRelated, AllRelated, FoundRelated, NarrowedRelated, AreBound, Related, BoundAlike, ModesRelated, DeclaredAlike, EachModeRelated, DeclaredRelated}
use Rattle.laws_graphs.specs.Follows.{IsAtom}
use Rattle.laws_graphs.proofs.Lists.{Agree, any-agree, least-agree, ascending-agree, all-at, none-passes, both-in, among-those, in-condition, in-then, in-else, free-among}
use Rattle.laws_graphs.proofs.Following.{single, OwnRelated, PointsRelated, Step, EndsRelated, EachEnd, no_end, an_end, Branch, EachBranch, no_branches, a_branch, Closed, Matched, lacks_here, lacks_there, both_break, both_run, TrialsMatch, AllMatch, no_more, one_more, PicksMatch, pick_lacks_here, pick_lacks_there, both_none, both_take, BranchesMatch, branch_lacks_here, branch_lacks_there, branches_break, branches_run, NoBranch, nothing, OneBranch, last_one, TwoBranches, then_else, NeverThen, never_then}

state-type : (t : TypeTerm) → is_state t ≡ true → t ≡ state_type
state-type int_type e = absurd (cc e)
state-type char_type e = absurd (cc e)
state-type string_type e = absurd (cc e)
state-type state_type e = refl
state-type (variable_type v) e = absurd (cc e)
state-type (union_type u ts) e = absurd (cc e)

-- of two tests that never hold both, one never holds
not-both-true : (t u : Bool) → (t && u) ≡ false → u ≡ true → t ≡ false
not-both-true true u e f = sym f ∙ e
not-both-true false u e f = refl

pub other-number : (x y : ℕ) → (x ≡ y → ⊥) → nat_eq x y ≡ false
other-number x y n = at (nat_eq x y) refl
  where
    at : (t : Bool) → nat_eq x y ≡ t → t ≡ false
    at true e = absurd (n (eqb-true x y e))
    at false e = refl

-- ---- fresh variables stand at outputs
abbrev Outputs : ℕ → List Mode → List ℕ → Type 0
Outputs k [] is = Unit {0}
Outputs k (m ∷ ms) is = (is_in k is ≡ true → is_bound m.0 ≡ false) × Outputs (suc k) ms is

late : (j k : ℕ) (ms : List Mode) (xs : List ℕ) (f : ℕ → Bool) → j < k → is_in j (implied_places k ms xs f) ≡ false
late j k [] xs f lt = refl
late j k (m ∷ ms) [] f lt = refl
late j k (m ∷ ms) (x ∷ xs) f lt =
    at (is_bound m.0 || not (is_bound m.1)) (f x) (late j (suc k) ms xs f (omega (arith, lt))) (late j (suc k) ms xs (λ y. cond (nat_eq y x) true (f y)) (omega (arith, lt)))
  where
    at : (t u : Bool) → is_in j (implied_places (suc k) ms xs f) ≡ false → is_in j (implied_places (suc k) ms xs (λ y. cond (nat_eq y x) true (f y))) ≡ false →
        is_in j (cond t (implied_places (suc k) ms xs f) (cond u (k ∷ implied_places (suc k) ms xs f) (implied_places (suc k) ms xs (λ y. cond (nat_eq y x) true (f y))))) ≡ false
    at true u p q = p
    at false true p q = ap (λ t. cond t true (is_in j (implied_places (suc k) ms xs f))) (other-number j k (λ e. not-le_of_lt lt (subst (λ z. z ≤ j) e (le_refl j)))) ∙ p
    at false false p q = q

outputs-with : (j k : ℕ) (ms : List Mode) (is : List ℕ) → k < j → Outputs j ms is → Outputs j ms (k ∷ is)
outputs-with j k [] is lt o = tt
outputs-with j k (m ∷ ms) is lt o =
    ((λ e. o.0 (sym (ap (λ t. cond t true (is_in j is)) (other-number j k (λ q. not-le_of_lt lt (subst (λ z. z ≤ k) (sym q) (le_refl k))))) ∙ e)), outputs-with (suc j) k ms is (omega (arith, lt)) o.1)

both-bits : (t : Bool) → t ≡ true → t ≡ false → ⊥
both-bits true e f = absurd (cc f)
both-bits false e f = absurd (cc e)

implied-outputs : (k : ℕ) (ms : List Mode) (xs : List ℕ) (f : ℕ → Bool) → Outputs k ms (implied_places k ms xs f)
implied-outputs k [] xs f = tt
implied-outputs k (m ∷ ms) [] f = ((λ e. absurd (cc e)), none (suc k) ms)
  where
    none : (j : ℕ) (ms : List Mode) → Outputs j ms []
    none j [] = tt
    none j (m ∷ ms) = ((λ e. absurd (cc e)), none (suc j) ms)
implied-outputs k (m ∷ ms) (x ∷ xs) f =
    at (is_bound m.0) refl (not (is_bound m.1)) (f x) (implied-outputs (suc k) ms xs f) (implied-outputs (suc k) ms xs (λ y. cond (nat_eq y x) true (f y))) (late k (suc k) ms xs f (le_refl (suc k)))
  where
    at : (t : Bool) → is_bound m.0 ≡ t → (v u : Bool) → Outputs (suc k) ms (implied_places (suc k) ms xs f) → Outputs (suc k) ms (implied_places (suc k) ms xs (λ y. cond (nat_eq y x) true (f y))) → is_in k (implied_places (suc k) ms xs f) ≡ false →
        Outputs k (m ∷ ms) (cond (t || v) (implied_places (suc k) ms xs f) (cond u (k ∷ implied_places (suc k) ms xs f) (implied_places (suc k) ms xs (λ y. cond (nat_eq y x) true (f y)))))
    at true e v u p q l = ((λ i. absurd (both-bits (is_in k (implied_places (suc k) ms xs f)) i l)), p)
    at false e true u p q l = ((λ i. e), p)
    at false e false true p q l = ((λ i. e), outputs-with (suc k) k ms (implied_places (suc k) ms xs f) (le_refl (suc k)) p)
    at false e false false p q l = ((λ i. e), q)

module _ {I J : Type 0} (Op : Operations I) (Oq : Operations J) (R : TypeTerm → I → J → Type 0) (P : Source) (Counts : ℕ → Type 0) (declared other : ℕ → List Declared) (T : ℕ → TypeTerm) (first : ℕ)
    (rel : Related Op Oq R P) (dec : DeclaredRelated Op Oq R P Counts declared other)
    (All : Point I → Point J → Nodes → Nodes → Option (Point I) → Option (Point J) → Type 0) (One : Point I → Point J → Node → Node → Option (Point I) → Option (Point J) → Type 0) (closed : Closed Op Oq R P T first All One) where
  abbrev PR : Point I → Point J → Type 0
  PR b c = OwnRelated Op Oq R P T first b c

  abbrev FP : ℕ → Point I → Point J → Type 0
  FP n b c = PointsRelated Op Oq R P T first n b c

  abbrev ER : ℕ → Option (Point I) → Option (Point J) → Type 0
  ER n o p = EndsRelated Op Oq R P T first n o p

  abbrev S : Point I → Point J → Option (Point I) → Option (Point J) → ℕ → Type 0
  S b c o p n = Step Op Oq R P T first b c o p n

  abbrev M : ℕ → Point I → Point J → Arranged I → Arranged J → Type 0
  M n b c r s = Matched Op Oq R P T first All One n b c r s

  abbrev TM : Trial I → Trial J → Type 0
  TM t u = TrialsMatch Op Oq R P T first All One t u

  abbrev AM : List (Waiting I) → List (Waiting J) → Type 0
  AM vs ws = AllMatch Op Oq R P T first All One vs ws

  abbrev PM : ℕ → Point I → Point J → Picked I → Picked J → Type 0
  PM n b c p q = PicksMatch Op Oq R P T first All One n b c p q

  abbrev BM : ℕ → (Nodes → Nodes → Type 0) → Branches I → Branches J → Type 0
  BM n Q B D = BranchesMatch Op Oq R P T first All One n Q B D

  abbrev Br : Point I → Point J → Node → Node → Type 0
  Br b c g h = Branch Op Oq R P T first All One b c g h

  step : (n m : ℕ) (b : Point I) (c : Point J) (o : Option (Point I)) (p : Option (Point J)) → first ≤ n → n ≤ m → FP n b c → ER m o p → S b c o p m
  step n m b c o p ln le h e = record { before = n; first_is = ln; on = le; begins = h; ends = e }

  later : (n m : ℕ) (b : Point I) (c : Point J) → n ≤ m → FP n b c → FP m b c
  later n m b c le h = record { own = h.own; bound = h.bound; free_here = λ x l. h.free_here x (le_trans le l); free_there = λ x l. h.free_there x (le_trans le l) }

  below-not : (x z : ℕ) → x < z → nat_eq z x ≡ false
  below-not x z lt = other-number z x (λ e. not-le_of_lt lt (subst (λ v. v ≤ x) (sym e) (le_refl x)))

  matched-if : (n : ℕ) (b : Point I) (c : Point J) (t u : Bool) (p q : Arranged I) (p' q' : Arranged J) → t ≡ u → M n b c p p' → M n b c q q' → M n b c (cond t p q) (cond u p' q')
  matched-if n b c true true p q p' q' e h k = h
  matched-if n b c true false p q p' q' e h k = absurd (cc e)
  matched-if n b c false true p q p' q' e h k = absurd (cc e)
  matched-if n b c false false p q p' q' e h k = k

  point-if : (n : ℕ) (t u : Bool) (b d : Point I) (c e : Point J) → t ≡ u → FP n b c → FP n d e → FP n (cond t b d) (cond u c e)
  point-if n true true b d c e q h k = h
  point-if n true false b d c e q h k = absurd (cc q)
  point-if n false true b d c e q h k = absurd (cc q)
  point-if n false false b d c e q h k = k

  bound-same : (x : ℕ) (b : Point I) (c : Point J) → x < first → PR b c → Op.is_bound (b x) ≡ Oq.is_bound (c x)
  bound-same x b c lt h = rel.bound (T x) (b x) (c x) (h x lt)

  bound-all : (n : ℕ) (b : Point I) (c : Point J) → FP n b c → (x : ℕ) → Op.is_bound (b x) ≡ Oq.is_bound (c x)
  bound-all n b c h x = at (nat_lt x first) (ltb-true x first) (ltb-false x first)
    where
      at : (t : Bool) → (t ≡ true → x < first) → (t ≡ false → first ≤ x) → Op.is_bound (b x) ≡ Oq.is_bound (c x)
      at true p q = bound-same x b c (p refl) h.own
      at false p q = h.bound x (q refl)

  free-same : (xs : List ℕ) (b : Point I) (c : Point J) → Below first xs → PR b c → free_at Op P declared T b xs ≡ free_at Oq P other T c xs
  free-same xs b c w h = ascending-agree (λ x. not (Op.is_bound (b x))) (λ x. not (Oq.is_bound (c x))) xs (λ x i. ap not (bound-same x b c (w x i) h))

  wait-match : (n : ℕ) (xs : List ℕ) (b : Point I) (c : Point J) → Below first xs → PR b c → M n b c (wait Op P declared T xs b) (wait Oq P other T xs c)
  wait-match n xs b c w h = subst (λ (vs : List ℕ). M n b c (wait Op P declared T xs b) (breaks (waits 1 vs))) (free-same xs b c w h) (both_break (waits 1 (free_at Op P declared T b xs)))

  one-match : (b : Point I) (c : Point J) (s : Scheduled) (o : Option (Point I)) (p : Option (Point J)) (n : ℕ) → IsAtom P T first s → first ≤ n → FP n b c → ER n o p → M n b c (one Op b s o n) (one Oq c s p n)
  one-match b c s o p n a ln h e = both_run o p (closed.atom b c s o p n a (step n n b c o p ln (le_refl n) h e)) e (le_refl n)

  with-related : (n x : ℕ) (i : I) (j : J) (b : Point I) (c : Point J) → first ≤ n → x < first → R (T x) i j → FP n b c → FP n (with_inst I x i b) (with_inst J x j c)
  with-related n x i j b c ln lx r h =
      record {
        own = λ z lt. at z lt (nat_eq z x) (eqb-true z x);
        bound = λ z le. subst (λ t. Op.is_bound (cond t i (b z)) ≡ Oq.is_bound (cond t j (c z))) (sym (below-not x z (lt_of_lt_of_le lx le))) (h.bound z le);
        free_here = λ z le. subst (λ t. cond t i (b z) ≡ Op.node 0) (sym (below-not x z (lt_of_lt_of_le lx (le_trans ln le)))) (h.free_here z le);
        free_there = λ z le. subst (λ t. cond t j (c z) ≡ Oq.node 0) (sym (below-not x z (lt_of_lt_of_le lx (le_trans ln le)))) (h.free_there z le);
      }
    where
      at : (z : ℕ) → z < first → (t : Bool) → (t ≡ true → z ≡ x) → R (T z) (cond t i (b z)) (cond t j (c z))
      at z lt true e = subst (λ y. R (T y) i j) (sym (e refl)) r
      at z lt false e = h.own z lt

  -- a variable that is numbered on
  fresh-related : (n x : ℕ) (i : I) (j : J) (b : Point I) (c : Point J) → first ≤ x → x < n → Op.is_bound i ≡ Oq.is_bound j → FP n b c → FP n (with_inst I x i b) (with_inst J x j c)
  fresh-related n x i j b c le lx r h =
      record {
        own = λ z lt. subst (λ t. R (T z) (cond t i (b z)) (cond t j (c z))) (sym (other-number z x (λ e. not-le_of_lt (subst (λ v. v < first) e lt) le))) (h.own z lt);
        bound = λ z lz. at z lz (nat_eq z x);
        free_here = λ z lz. subst (λ t. cond t i (b z) ≡ Op.node 0) (sym (below-not x z (lt_of_lt_of_le lx lz))) (h.free_here z lz);
        free_there = λ z lz. subst (λ t. cond t j (c z) ≡ Oq.node 0) (sym (below-not x z (lt_of_lt_of_le lx lz))) (h.free_there z lz);
      }
    where
      at : (z : ℕ) → first ≤ z → (t : Bool) → Op.is_bound (cond t i (b z)) ≡ Oq.is_bound (cond t j (c z))
      at z lz true = r
      at z lz false = h.bound z lz

  -- ---- equations
  assigned-related : (n x y : ℕ) (b : Point I) (c : Point J) → first ≤ n → T x ≡ T y → x < first → y < first → FP n b c → FP n (assigned Op P declared T x y b) (assigned Oq P other T x y c)
  assigned-related n x y b c ln e lx ly h = with-related n x (b y) (c y) _ _ ln lx (subst (λ t. R t (b y) (c y)) (sym e) (h.own y ly)) (at (is_state (T y)) (state-type (T y)))
    where
      at : (t : Bool) → (t ≡ true → T y ≡ state_type) → FP n (cond t (with_inst I y (Op.node 3) b) b) (cond t (with_inst J y (Oq.node 3) c) c)
      at true q = with-related n y (Op.node 3) (Oq.node 3) b c ln ly (subst (λ t. R t (Op.node 3) (Oq.node 3)) (sym (q refl)) rel.gone) h
      at false q = h

  same-match : (x y n : ℕ) (b : Point I) (c : Point J) → T x ≡ T y → x < first → y < first → first ≤ n → FP n b c → M n b c (same Op P declared T x y n b) (same Oq P other T x y n c)
  same-match x y n b c e lx ly ln h =
      matched-if n b c (Op.is_bound (b x)) (Oq.is_bound (c x)) _ _ _ _ (bound-same x b c lx h.own)
      (matched-if n b c (Op.is_bound (b y)) (Oq.is_bound (c y)) _ _ _ _ (bound-same y b c ly h.own)
      (matched-if n b c (is_state (T x)) (is_state (T x)) _ _ _ _ refl (wait-match n (x ∷ y ∷ []) b c w h.own) (one-match b c (Test x y) (Some b) (Some c) n tt ln h h))
      (one-match b c (Assign y x) (Some (assigned Op P declared T y x b)) (Some (assigned Oq P other T y x c)) n tt ln h (assigned-related n y x b c ln (sym e) ly lx h)))
      (matched-if n b c (Op.is_bound (b y)) (Oq.is_bound (c y)) _ _ _ _ (bound-same y b c ly h.own)
      (one-match b c (Assign x y) (Some (assigned Op P declared T x y b)) (Some (assigned Oq P other T x y c)) n tt ln h (assigned-related n x y b c ln e lx ly h)) (wait-match n (x ∷ y ∷ []) b c w h.own))
    where
      w : Below first (x ∷ y ∷ [])
      w z i = ⊎_elim (λ q. subst (λ v. v < first) (sym q) lx) (λ j. ⊎_elim (λ q. subst (λ v. v < first) (sym q) ly) (λ k. absurd k) j) i

  taken-related : (n : ℕ) (ys : List ℕ) (is : List I) (js : List J) (b : Point I) (c : Point J) → first ≤ n → EachRelated Op Oq R (map T ys) is js → Below first ys → FP n b c → FP n (taken Op P declared T ys is b) (taken Oq P other T ys js c)
  taken-related n [] is js b c ln r w h = h
  taken-related n (y ∷ ys) [] [] b c ln r w h = h
  taken-related n (y ∷ ys) [] (j ∷ js) b c ln r w h = absurd r
  taken-related n (y ∷ ys) (i ∷ is) [] b c ln r w h = absurd r
  taken-related n (y ∷ ys) (i ∷ is) (j ∷ js) b c ln r w h =
      taken-related n ys is js (cond (Op.is_bound (b y)) b (with_inst I y i b)) (cond (Oq.is_bound (c y)) c (with_inst J y j c)) ln r.1 (λ x k. w x (inr k))
      (point-if n (Op.is_bound (b y)) (Oq.is_bound (c y)) b (with_inst I y i b) c (with_inst J y j c) (bound-same y b c (w y (inl refl)) h.own) h (with-related n y i j b c ln (w y (inl refl)) r.0 h))

  take-match : (x s : ℕ) (ys : List ℕ) (n : ℕ) (b : Point I) (c : Point J) (o : Option (List I)) (q : Option (List J)) → constructor_types P s (T x) ≡ Some (map T ys) → x < first → Below first ys → first ≤ n → FP n b c →
      NarrowedRelated Op Oq R (map T ys) o q → M n b c (take Op P declared T x s ys n b o) (take Oq P other T x s ys n c q)
  take-match x s ys n b c None None e lx w ln h r = one-match b c (Take x s ys) None None n (lx, w, e) ln h tt
  take-match x s ys n b c None (Some js) e lx w ln h r = absurd r
  take-match x s ys n b c (Some is) None e lx w ln h r = absurd r
  take-match x s ys n b c (Some is) (Some js) e lx w ln h r = at (Op.over s is) (Oq.over s js) (rel.over (T x) (map T ys) s is js e r)
    where
      at : (o : Option I) (q : Option J) → FoundRelated Op Oq R (T x) o q → M n b c (took Op P declared T x s ys is n b o) (took Oq P other T x s ys js n c q)
      at None q f = lacks_here
      at (Some i) None f = lacks_there
      at (Some i) (Some j) f =
          one-match b c (Take x s ys) (Some (taken Op P declared T ys is (with_inst I x i b))) (Some (taken Oq P other T ys js (with_inst J x j c))) n (lx, w, e) ln h
          (taken-related n ys is js (with_inst I x i b) (with_inst J x j c) ln r w (with-related n x i j b c ln lx f h))

  built-match : (x s : ℕ) (ys : List ℕ) (n : ℕ) (b : Point I) (c : Point J) (o : Option I) (q : Option J) → x < first → first ≤ n → FP n b c → FoundRelated Op Oq R (T x) o q → M n b c (built Op P declared T x s ys n b o) (built Oq P other T x s ys n c q)
  built-match x s ys n b c None q lx ln h f = lacks_here
  built-match x s ys n b c (Some i) None lx ln h f = lacks_there
  built-match x s ys n b c (Some i) (Some j) lx ln h f = one-match b c (Build x s ys) (Some (with_inst I x i b)) (Some (with_inst J x j c)) n tt ln h (with-related n x i j b c ln lx f h)

  map-related : (ys : List ℕ) (b : Point I) (c : Point J) → Below first ys → PR b c → EachRelated Op Oq R (map T ys) (map b ys) (map c ys)
  map-related [] b c w h = tt
  map-related (y ∷ ys) b c w h = (h y (w y (inl refl)), map-related ys b c (λ x k. w x (inr k)) h)

  made-match : (x s : ℕ) (ys : List ℕ) (n : ℕ) (b : Point I) (c : Point J) → constructor_types P s (T x) ≡ Some (map T ys) → Below first (x ∷ ys) → first ≤ n → FP n b c → M n b c (made Op P declared T x s ys n b) (made Oq P other T x s ys n c)
  made-match x s ys n b c e w ln h =
      matched-if n b c (Op.is_bound (b x)) (Oq.is_bound (c x)) _ _ _ _ (bound-same x b c (w x (inl refl)) h.own)
      (take-match x s ys n b c (Op.narrowed (b x) s) (Oq.narrowed (c x) s) e (w x (inl refl)) (λ y i. w y (inr i)) ln h (rel.narrowed (T x) (map T ys) s (b x) (c x) e (h.own x (w x (inl refl)))))
      (matched-if n b c (list_any (λ y. not (Op.is_bound (b y)) || is_state (T y)) ys) (list_any (λ y. not (Oq.is_bound (c y)) || is_state (T y)) ys) _ _ _ _
      (any-agree (λ y. not (Op.is_bound (b y)) || is_state (T y)) (λ y. not (Oq.is_bound (c y)) || is_state (T y)) ys (λ y i. ap (λ p. not p || is_state (T y)) (bound-same y b c (w y (inr i)) h.own)))
      (wait-match n (x ∷ ys) b c w h.own)
      (built-match x s ys n b c (Op.over s (map b ys)) (Oq.over s (map c ys)) (w x (inl refl)) ln h (rel.over (T x) (map T ys) s (map b ys) (map c ys) e (map-related ys b c (λ y i. w y (inr i)) h.own))))

  constant-match : (x : ℕ) (v : Val) (n : ℕ) (b : Point I) (c : Point J) → ConstantOf v (T x) → x < first → first ≤ n → FP n b c → M n b c (constant Op P declared T x v n b) (constant Oq P other T x v n c)
  constant-match x v n b c k lt ln h =
      matched-if n b c (Op.is_bound (b x)) (Oq.is_bound (c x)) _ _ _ _ (bound-same x b c lt h.own)
      (one-match b c (TestConst x v) _ _ n (lt, k) ln h (at (Op.takes_constants (b x)) (Oq.takes_constants (c x)) (rel.constants (T x) v (b x) (c x) k (h.own x lt))))
      (one-match b c (Const x v) (Some (with_inst I x (Op.node 1) b)) (Some (with_inst J x (Oq.node 1) c)) n tt ln h (with-related n x (Op.node 1) (Oq.node 1) b c ln lt (rel.ground_there (T x)) h))
    where
      at : (t u : Bool) → t ≡ u → ER n (cond t (Some b) None) (cond u (Some c) None)
      at true true e = h
      at true false e = absurd (cc e)
      at false true e = absurd (cc e)
      at false false e = tt

  -- ---- calls
  usable-same : (all : List ℕ) (ms ns : List Mode) (xs : List ℕ) (b : Point I) (c : Point J) → Below first xs → ModesRelated Op Oq R ms ns (map T xs) → PR b c → usable Op P declared T all ms xs b ≡ usable Oq P other T all ns xs c
  usable-same all [] [] [] b c w r h = refl
  usable-same all [] [] (x ∷ xs) b c w r h = refl
  usable-same all [] (n ∷ ns) xs b c w r h = absurd r
  usable-same all (m ∷ ms) [] xs b c w r h = absurd r
  usable-same all (m ∷ ms) (n ∷ ns) [] b c w r h = refl
  usable-same all (m ∷ ms) (n ∷ ns) (x ∷ xs) b c w r h =
      ap₂ (λ (t q : Bool). t && q) (ap₂ (λ (t p : Bool). not t || p) r.0.0 input) (usable-same all ms ns xs b c (λ y i. w y (inr i)) r.3 h)
    where
      input : is_input Op P declared T all m x b ≡ is_input Oq P other T all n x c
      input =
          ap₂ (λ p q. p && q) (bound-same x b c (w x (inl refl)) h)
          (ap₂ (λ p q. p && (not q || nat_eq (times_in x all) 1)) (rel.fits (T x) (b x) (c x) m.0 n.0 (h x (w x (inl refl))) r.1) (rel.dead (T x) (Op.node m.1) (Oq.node n.1) r.2))

  implied-same : (k : ℕ) (ms ns : List Mode) (xs : List ℕ) (f g : ℕ → Bool) → ModesRelated Op Oq R ms ns (map T xs) → Agree f g xs → implied_places k ms xs f ≡ implied_places k ns xs g
  implied-same k [] [] xs f g r h = refl
  implied-same k [] (n ∷ ns) xs f g r h = absurd r
  implied-same k (m ∷ ms) [] xs f g r h = absurd r
  implied-same k (m ∷ ms) (n ∷ ns) [] f g r h = refl
  implied-same k (m ∷ ms) (n ∷ ns) (x ∷ xs) f g r h =
      at (is_bound m.0 || not (is_bound m.1)) (is_bound n.0 || not (is_bound n.1)) (f x) (g x) (ap₂ (λ (p q : Bool). p || not q) r.0.0 r.0.1) (h x (inl refl)) (implied-same (suc k) ms ns xs f g r.3 (λ y i. h y (inr i)))
      (implied-same (suc k) ms ns xs (λ y. cond (nat_eq y x) true (f y)) (λ y. cond (nat_eq y x) true (g y)) r.3 (λ y i. ap (cond (nat_eq y x) true) (h y (inr i))))
    where
      at : (t s u v : Bool) → t ≡ s → u ≡ v → implied_places (suc k) ms xs f ≡ implied_places (suc k) ns xs g →
          implied_places (suc k) ms xs (λ y. cond (nat_eq y x) true (f y)) ≡ implied_places (suc k) ns xs (λ y. cond (nat_eq y x) true (g y)) →
          cond t (implied_places (suc k) ms xs f) (cond u (k ∷ implied_places (suc k) ms xs f) (implied_places (suc k) ms xs (λ y. cond (nat_eq y x) true (f y))))
          ≡ cond s (implied_places (suc k) ns xs g) (cond v (k ∷ implied_places (suc k) ns xs g) (implied_places (suc k) ns xs (λ y. cond (nat_eq y x) true (g y))))
      at true true u v d e p q = p
      at true false u v d e p q = absurd (cc d)
      at false true u v d e p q = absurd (cc d)
      at false false true true d e p q = ap (λ (r : List ℕ). k ∷ r) p
      at false false true false d e p q = absurd (cc e)
      at false false false true d e p q = absurd (cc e)
      at false false false false d e p q = q

  implied-in-same : (ms ns : List Mode) (xs : List ℕ) (b : Point I) (c : Point J) → Below first xs → ModesRelated Op Oq R ms ns (map T xs) → PR b c → implied_in Op P declared T ms xs b ≡ implied_in Oq P other T ns xs c
  implied-in-same ms ns xs b c w r h = implied-same 0 ms ns xs (λ x. Op.is_bound (b x)) (λ x. Oq.is_bound (c x)) r (λ x i. bound-same x b c (w x i) h)

  -- modes that are picked of each
  abbrev PickedAlike : Option Declared → Option Declared → List TypeTerm → Type 0
  PickedAlike None None ts = Unit {0}
  PickedAlike (Some d) (Some e) ts = DeclaredAlike Op Oq R d e ts
  PickedAlike _ _ ts = ⊥

  better-alike : (xs : List ℕ) (b : Point I) (c : Point J) (d e : Declared) (o p : Option Declared) → Below first xs → DeclaredAlike Op Oq R d e (map T xs) → PickedAlike o p (map T xs) → PR b c →
      DeclaredAlike Op Oq R (better Op P declared T xs b d o) (better Oq P other T xs c e p) (map T xs)
  better-alike xs b c d e None None w r k h = r
  better-alike xs b c d e None (Some g) w r k h = absurd k
  better-alike xs b c d e (Some f) None w r k h = absurd k
  better-alike xs b c d e (Some f) (Some g) w r k h =
      at (nat_lt (length (implied_in Op P declared T f.modes xs b)) (length (implied_in Op P declared T d.modes xs b))) (nat_lt (length (implied_in Oq P other T g.modes xs c)) (length (implied_in Oq P other T e.modes xs c)))
      (ap₂ (λ (p q : List ℕ). nat_lt (length p) (length q)) (implied-in-same f.modes g.modes xs b c w k.2 h) (implied-in-same d.modes e.modes xs b c w r.2 h))
    where
      at : (t u : Bool) → t ≡ u → DeclaredAlike Op Oq R (cond t f d) (cond u g e) (map T xs)
      at true true q = k
      at true false q = absurd (cc q)
      at false true q = absurd (cc q)
      at false false q = r

  best-alike : (ds es : List Declared) (xs : List ℕ) (b : Point I) (c : Point J) → Below first xs → EachModeRelated Op Oq R ds es (map T xs) → PR b c → PickedAlike (best Op P declared T ds xs b) (best Oq P other T es xs c) (map T xs)
  best-alike [] [] xs b c w r h = tt
  best-alike [] (e ∷ es) xs b c w r h = absurd r
  best-alike (d ∷ ds) [] xs b c w r h = absurd r
  best-alike (d ∷ ds) (e ∷ es) xs b c w r h = at (usable Op P declared T xs d.modes xs b) (usable Oq P other T xs e.modes xs c) (usable-same xs d.modes e.modes xs b c w r.0.2 h) (best-alike ds es xs b c w r.1 h)
    where
      at : (t u : Bool) → t ≡ u → PickedAlike (best Op P declared T ds xs b) (best Oq P other T es xs c) (map T xs) →
          PickedAlike (cond t (Some (better Op P declared T xs b d (best Op P declared T ds xs b))) (best Op P declared T ds xs b)) (cond u (Some (better Oq P other T xs c e (best Oq P other T es xs c))) (best Oq P other T es xs c)) (map T xs)
      at true true q k = better-alike xs b c d e (best Op P declared T ds xs b) (best Oq P other T es xs c) w r.0 k h
      at true false q k = absurd (cc q)
      at false true q k = absurd (cc q)
      at false false q k = k

  -- the final insts of modes, by what stands there: an own variable, or a fresh one at an output
  abbrev ModesAt : ℕ → List Mode → List Mode → List ℕ → Type 0
  ModesAt n [] [] xs = Unit {0}
  ModesAt n (m ∷ ms) (l ∷ ls) [] = Unit {0}
  ModesAt n (m ∷ ms) (l ∷ ls) (x ∷ xs) =
      BoundAlike m l × (x < first → R (T x) (Op.node m.1) (Oq.node l.1)) × (first ≤ x → (x < n) × (is_bound m.0 ≡ false) × (Op.is_bound (Op.node m.1) ≡ Oq.is_bound (Oq.node l.1))) × ModesAt n ms ls xs
  ModesAt n _ _ xs = ⊥

  own-modes : (n : ℕ) (ms ls : List Mode) (xs : List ℕ) → Below first xs → ModesRelated Op Oq R ms ls (map T xs) → ModesAt n ms ls xs
  own-modes n [] [] xs w r = tt
  own-modes n [] (l ∷ ls) xs w r = absurd r
  own-modes n (m ∷ ms) [] xs w r = absurd r
  own-modes n (m ∷ ms) (l ∷ ls) [] w r = tt
  own-modes n (m ∷ ms) (l ∷ ls) (x ∷ xs) w r = (r.0, (λ lt. r.2), (λ le. absurd (not-le_of_lt (w x (inl refl)) le)), own-modes n ms ls xs (λ y i. w y (inr i)) r.3)

  fresh-modes : (k : ℕ) (is : List ℕ) (ms ls : List Mode) (xs : List ℕ) (n m : ℕ) → first ≤ n → n + length (tests_at k is xs n) ≤ m → Outputs k ms is → Below first xs → ModesRelated Op Oq R ms ls (map T xs) → ModesAt m ms ls (fresh_at k is xs n)
  fresh-modes k is [] [] xs n m ln le o w r = tt
  fresh-modes k is [] (l ∷ ls) xs n m ln le o w r = absurd r
  fresh-modes k is (d ∷ ms) [] xs n m ln le o w r = absurd r
  fresh-modes k is (d ∷ ms) (g ∷ ls) [] n m ln le o w r = tt
  fresh-modes k is (d ∷ ms) (g ∷ ls) (x ∷ xs) n m ln le o w r =
      at (is_in k is) refl le (λ l. fresh-modes (suc k) is ms ls xs (suc n) m (omega (arith, ln)) l o.1 (λ y i. w y (inr i)) r.3) (λ l. fresh-modes (suc k) is ms ls xs n m ln l o.1 (λ y i. w y (inr i)) r.3)
    where
      at : (t : Bool) → is_in k is ≡ t → n + length (cond t ((n, x) ∷ tests_at (suc k) is xs (suc n)) (tests_at (suc k) is xs n)) ≤ m →
          (suc n + length (tests_at (suc k) is xs (suc n)) ≤ m → ModesAt m ms ls (fresh_at (suc k) is xs (suc n))) → (n + length (tests_at (suc k) is xs n) ≤ m → ModesAt m ms ls (fresh_at (suc k) is xs n)) →
          ModesAt m (d ∷ ms) (g ∷ ls) (cond t (n ∷ fresh_at (suc k) is xs (suc n)) (x ∷ fresh_at (suc k) is xs n))
      at true e l p q = (r.0, (λ lt. absurd (not-le_of_lt lt ln)), (λ lf. (omega (arith, l), o.0 e, rel.bound (T x) (Op.node d.1) (Oq.node g.1) r.2)), p (omega (arith, l)))
      at false e l p q = (r.0, (λ lt. r.2), (λ lf. absurd (not-le_of_lt (w x (inl refl)) lf)), q l)

  input-related : (n : ℕ) (m l : Mode) (x : ℕ) (b : Point I) (c : Point J) → first ≤ n → x < first → R (T x) (Op.node m.1) (Oq.node l.1) → FP n b c → FP n (input_after Op P declared T m x b) (input_after Oq P other T l x c)
  input-related n m l x b c ln lt r h =
      point-if n (not (Op.is_dead (Op.node m.1)) && Op.fits (b x) m.1 (T x)) (not (Oq.is_dead (Oq.node l.1)) && Oq.fits (c x) l.1 (T x)) b (with_inst I x (Op.node m.1) b) c (with_inst J x (Oq.node l.1) c)
      (ap₂ (λ p q. not p && q) (rel.dead (T x) (Op.node m.1) (Oq.node l.1) r) (rel.fits (T x) (b x) (c x) m.1 l.1 (h.own x lt) r)) h (with-related n x (Op.node m.1) (Oq.node l.1) b c ln lt r h)

  abbrev AllAgree : (f g : ℕ → Bool) → Type 0
  AllAgree f g = (z : ℕ) → f z ≡ g z

  abbrev and_this : ℕ → (ℕ → Bool) → ℕ → Bool
  and_this x f y = cond (nat_eq y x) true (f y)

  abbrev Here : (ℕ → Bool) → List Mode → List ℕ → Point I → Point I
  Here f ms xs b = after_call Op P declared T f ms xs b

  abbrev There : (ℕ → Bool) → List Mode → List ℕ → Point J → Point J
  There f ms xs b = after_call Oq P other T f ms xs b

  after-related : (n : ℕ) (ms ls : List Mode) (xs : List ℕ) (f g : ℕ → Bool) (b : Point I) (c : Point J) → first ≤ n → ModesAt n ms ls xs → AllAgree f g → FP n b c → FP n (Here f ms xs b) (There g ls xs c)
  after-related n [] [] xs f g b c ln r a h = h
  after-related n [] (l ∷ ls) xs f g b c ln r a h = absurd r
  after-related n (m ∷ ms) [] xs f g b c ln r a h = absurd r
  after-related n (m ∷ ms) (l ∷ ls) [] f g b c ln r a h = h
  after-related n (m ∷ ms) (l ∷ ls) (x ∷ xs) f g b c ln r a h =
      subst (λ (s : Bool). FP n (Here f (m ∷ ms) (x ∷ xs) b) (cond s (There g ls xs (input_after Oq P other T l x c)) (cond (not (is_bound l.1) || g x) (There g ls xs c) (There (and_this x g) ls xs (with_inst J x (Oq.node l.1) c))))) r.0.0
      (at (nat_lt x first) (ltb-true x first) (ltb-false x first) (λ f' g' b' c' a' h'. after-related n ms ls xs f' g' b' c' ln r.3 a' h'))
    where
      Rest : Type 0
      Rest = (f' g' : ℕ → Bool) (b' : Point I) (c' : Point J) → AllAgree f' g' → FP n b' c' → FP n (Here f' ms xs b') (There g' ls xs c')

      own-place : x < first → (t u v : Bool) → u ≡ v → Rest →
          FP n (cond t (Here f ms xs (input_after Op P declared T m x b)) (cond u (Here f ms xs b) (Here (and_this x f) ms xs (with_inst I x (Op.node m.1) b))))
          (cond t (There g ls xs (input_after Oq P other T l x c)) (cond v (There g ls xs c) (There (and_this x g) ls xs (with_inst J x (Oq.node l.1) c))))
      own-place lt true u v e k = k f g (input_after Op P declared T m x b) (input_after Oq P other T l x c) a (input-related n m l x b c ln lt (r.1 lt) h)
      own-place lt false true true e k = k f g b c a h
      own-place lt false true false e k = absurd (cc e)
      own-place lt false false true e k = absurd (cc e)
      own-place lt false false false e k =
          k (and_this x f) (and_this x g) (with_inst I x (Op.node m.1) b) (with_inst J x (Oq.node l.1) c) (λ z. ap (cond (nat_eq z x) true) (a z)) (with-related n x (Op.node m.1) (Oq.node l.1) b c ln lt (r.1 lt) h)

      fresh-place : first ≤ x → (t u v : Bool) → t ≡ false → u ≡ v → Rest →
          FP n (cond t (Here f ms xs (input_after Op P declared T m x b)) (cond u (Here f ms xs b) (Here (and_this x f) ms xs (with_inst I x (Op.node m.1) b))))
          (cond t (There g ls xs (input_after Oq P other T l x c)) (cond v (There g ls xs c) (There (and_this x g) ls xs (with_inst J x (Oq.node l.1) c))))
      fresh-place le true u v d e k = absurd (cc d)
      fresh-place le false true true d e k = k f g b c a h
      fresh-place le false true false d e k = absurd (cc e)
      fresh-place le false false true d e k = absurd (cc e)
      fresh-place le false false false d e k =
          k (and_this x f) (and_this x g) (with_inst I x (Op.node m.1) b) (with_inst J x (Oq.node l.1) c) (λ z. ap (cond (nat_eq z x) true) (a z)) (fresh-related n x (Op.node m.1) (Oq.node l.1) b c le (r.2 le).0 (r.2 le).2 h)

      alike : not (is_bound m.1) || f x ≡ not (is_bound l.1) || g x
      alike = ap₂ (λ (p q : Bool). not p || q) r.0.1 (a x)

      at : (t : Bool) → (t ≡ true → x < first) → (t ≡ false → first ≤ x) → Rest →
          FP n (Here f (m ∷ ms) (x ∷ xs) b) (cond (is_bound m.0) (There g ls xs (input_after Oq P other T l x c)) (cond (not (is_bound l.1) || g x) (There g ls xs c) (There (and_this x g) ls xs (with_inst J x (Oq.node l.1) c))))
      at true p q k = own-place (p refl) (is_bound m.0) (not (is_bound m.1) || f x) (not (is_bound l.1) || g x) alike k
      at false p q k = fresh-place (q refl) (is_bound m.0) (not (is_bound m.1) || f x) (not (is_bound l.1) || g x) (r.2 (q refl)).1 alike k

  after-both : (n : ℕ) (ms ls : List Mode) (xs : List ℕ) (b : Point I) (c : Point J) → first ≤ n → ModesAt n ms ls xs → FP n b c → FP n (after Op P declared T ms xs b) (after Oq P other T ls xs c)
  after-both n ms ls xs b c ln r h = after-related n ms ls xs (λ x. Op.is_bound (b x)) (λ x. Oq.is_bound (c x)) b c ln r (bound-all n b c h) h

  never-related : (n : ℕ) (t : Bool) (b : Point I) (c : Point J) → FP n b c → ER n (cond t None (Some b)) (cond t None (Some c))
  never-related n true b c h = tt
  never-related n false b c h = h

  called-match : (o p : Option Declared) (xs : List ℕ) (n : ℕ) (b : Point I) (c : Point J) → PickedAlike o p (map T xs) → Below first xs → first ≤ n → FP n b c → M n b c (called Op P declared T o xs n b) (called Oq P other T p xs n c)
  called-match None None xs n b c r w ln h = wait-match n xs b c w h.own
  called-match None (Some e) xs n b c r w ln h = absurd r
  called-match (Some d) None xs n b c r w ln h = absurd r
  called-match (Some d) (Some e) xs n b c r w ln h =
      subst (λ (is : List ℕ). M n b c (called Op P declared T (Some d) xs n b) (one Oq c (Call e.proc xs is false) (cond e.never None (Some (after Oq P other T e.modes xs c))) n)) (implied-in-same d.modes e.modes xs b c w r.2 h.own)
      (subst (λ (k : ℕ). M n b c (called Op P declared T (Some d) xs n b) (one Oq c (Call k xs (implied_in Op P declared T d.modes xs b) false) (cond e.never None (Some (after Oq P other T e.modes xs c))) n)) r.0
      (subst (λ (t : Bool). M n b c (called Op P declared T (Some d) xs n b) (one Oq c (Call d.proc xs (implied_in Op P declared T d.modes xs b) false) (cond t None (Some (after Oq P other T e.modes xs c))) n)) r.1
      (one-match b c (Call d.proc xs (implied_in Op P declared T d.modes xs b) false) _ _ n tt ln h
      (never-related n d.never (after Op P declared T d.modes xs b) (after Oq P other T e.modes xs c) (after-both n d.modes e.modes xs b c ln (own-modes n d.modes e.modes xs w r.2) h)))))

  applied-match : (is : List ℕ) (op : Builtin) (xs : List ℕ) (n : ℕ) (b : Point I) (c : Point J) → Outputs 0 (modes_of op) is → ModesRelated Op Oq R (modes_of op) (modes_of op) (map T xs) → Below first xs → first ≤ n → FP n b c →
      M n b c (applied_with Op P declared T is op xs n b) (applied_with Oq P other T is op xs n c)
  applied-match [] op xs n b c u r w ln h =
      one-match b c (applying Op P declared T op xs) _ _ n tt ln h
      (never-related n (is_zero (builtin_most op)) (after Op P declared T (modes_of op) xs b) (after Oq P other T (modes_of op) xs c) (after-both n (modes_of op) (modes_of op) xs b c ln (own-modes n (modes_of op) (modes_of op) xs w r) h))
  applied-match (i ∷ is) op xs n b c u r w ln h =
      let zs = fresh_at 0 (i ∷ is) xs n in
      let ts = tests_at 0 (i ∷ is) xs n in
      let l = n + length ts in
      let ll : n ≤ l = omega arith in
      let d = after Op P declared T (modes_of op) zs b in
      let e = after Oq P other T (modes_of op) zs c in
      let k = after-both l (modes_of op) (modes_of op) zs b c (le_trans ln ll) (fresh-modes 0 (i ∷ is) (modes_of op) (modes_of op) xs n l ln (le_refl l) u w r) (later n l b c ll h) in
      both_run (Some d) (Some e)
      (closed.before b d c e (single (changing Op.changed l b (Some d) (applying Op P declared T op zs))) (single (changing Oq.changed l c (Some e) (applying Oq P other T op zs))) (test_nodes ts) (test_nodes ts) (Some d) (Some e)
      (closed.atom b c (applying Op P declared T op zs) (Some d) (Some e) l tt (step n l b c (Some d) (Some e) ln ll h k))
      (closed.tests l d e ts k))
      k ll

  call-match : (o : Option Builtin) (p : ℕ) (σ : ℕ → TypeTerm) (xs : List ℕ) (n : ℕ) (b : Point I) (c : Point J) → Counts p → (P.preds p).builtin ≡ o → map T xs ≡ map (instance_of σ) (P.preds p).types → Below first xs → first ≤ n → FP n b c →
      M n b c (call_of Op P declared T o p xs n b) (call_of Oq P other T o p xs n c)
  call-match None p σ xs n b c a q e w ln h =
      called-match (best Op P declared T (declared p) xs b) (best Oq P other T (other p) xs c) xs n b c (best-alike (declared p) (other p) xs b c w modes h.own) w ln h
    where
      modes : EachModeRelated Op Oq R (declared p) (other p) (map T xs)
      modes = subst (λ ts. EachModeRelated Op Oq R (declared p) (other p) ts) (sym e) (dec.modes p σ a q)
  call-match (Some op) p σ xs n b c a q e w ln h =
      matched-if n b c (usable Op P declared T xs (modes_of op) xs b) (usable Oq P other T xs (modes_of op) xs c) _ _ _ _ (usable-same xs (modes_of op) (modes_of op) xs b c w modes h.own)
      (subst (λ (is : List ℕ). M n b c (applied_with Op P declared T (implied_in Op P declared T (modes_of op) xs b) op xs n b) (applied_with Oq P other T is op xs n c)) (implied-in-same (modes_of op) (modes_of op) xs b c w modes h.own)
      (applied-match (implied_in Op P declared T (modes_of op) xs b) op xs n b c (implied-outputs 0 (modes_of op) xs (λ x. Op.is_bound (b x))) modes w ln h))
      (wait-match n xs b c w h.own)
    where
      modes : ModesRelated Op Oq R (modes_of op) (modes_of op) (map T xs)
      modes = subst (λ ts. ModesRelated Op Oq R (modes_of op) (modes_of op) ts) (sym e) (dec.builtins p op σ q)

  atom-match : (xs : List ℕ) (n : ℕ) (b : Point I) (c : Point J) (r : Arranged I) (s : Arranged J) → Below first xs → PR b c → M n b c r s → M n b c (atom Op P declared T xs b r) (atom Oq P other T xs c s)
  atom-match xs n b c r s w h k =
      matched-if n b c (list_any (λ x. Op.is_dead (b x)) xs) (list_any (λ x. Oq.is_dead (c x)) xs) _ _ _ _ (any-agree (λ x. Op.is_dead (b x)) (λ x. Oq.is_dead (c x)) xs (λ x i. rel.dead (T x) (b x) (c x) (h x (w x i))))
      (wait-match n xs b c w h) k

  -- ---- branches
  with-branch-match : (m n : ℕ) (Q Q' : Nodes → Nodes → Type 0) (g h : Node) (o : Option (Point I)) (p : Option (Point J)) (B : Branches I) (D : Branches J) → m ≤ n → ER n o p → ((gs hs : Nodes) → Q gs hs → Q' (node_then g gs) (node_then h hs)) → BM n Q B D →
      BM m Q' (with_branch g o B) (with_branch h p D)
  with-branch-match m n Q Q' g h o p B D le e f branch_lacks_here = branch_lacks_here
  with-branch-match m n Q Q' g h o p B D le e f branch_lacks_there = branch_lacks_there
  with-branch-match m n Q Q' g h o p B D le e f (branches_break k) = branches_break k
  with-branch-match m n Q Q' g h None None B D le e f (branches_run q k ln) = branches_run (f _ _ q) k (le_trans le ln)
  with-branch-match m n Q Q' g h None (Some c) B D le e f (branches_run q k ln) = absurd e
  with-branch-match m n Q Q' g h (Some b) None B D le e f (branches_run q k ln) = absurd e
  with-branch-match m n Q Q' g h (Some b) (Some c) B D le e f (branches_run {n = l} q k ln) = branches_run (f _ _ q) (an_end (later n l b c ln e) k) (le_trans le ln)

  and-branches-match : (m n : ℕ) (Q Q' : Nodes → Nodes → Type 0) (b : Point I) (c : Point J) (r : Arranged I) (s : Arranged J) (B : ℕ → Branches I) (D : ℕ → Branches J) → m ≤ n → first ≤ n → FP n b c → M n b c r s → ((l : ℕ) → n ≤ l → BM l Q (B l) (D l)) →
      ((g h : Node) (gs hs : Nodes) → Br b c g h → Q gs hs → Q' (node_then g gs) (node_then h hs)) → BM m Q' (and_branches Op b r B) (and_branches Oq c s D)
  and-branches-match m n Q Q' b c r s B D mn ln h lacks_here k f = branch_lacks_here
  and-branches-match m n Q Q' b c r s B D mn ln h lacks_there k f = branch_lacks_there
  and-branches-match m n Q Q' b c r s B D mn ln h (both_break e) k f = branches_break e
  and-branches-match m n Q Q' b c r s B D mn ln h (both_run {gs = gs} {hs = hs} o p {n = l} a e le) k f =
      with-branch-match m l Q Q' (alone Op l b o gs) (alone Oq l c p hs) o p (B l) (D l) (le_trans mn le) e
      (λ ks ls q. f (alone Op l b o gs) (alone Oq l c p hs) ks ls (o, p, closed.by_one b c gs hs o p l (step n l b c o p ln le h e) a) q) (k l le)

  abbrev EB : Point I → Point J → Nodes → Nodes → Type 0
  EB b c gs hs = EachBranch Op Oq R P T first All One b c gs hs

  each-branch-match : (vs : List (Waiting I)) (ws : List (Waiting J)) (O : List ℕ) (n : ℕ) (b : Point I) (c : Point J) → first ≤ n → FP n b c → AM vs ws → BM n (EB b c) (each_branch Op vs O n b) (each_branch Oq ws O n c)
  each-branch-match vs ws O n b c ln h no_more = branches_run no_branches no_end (le_refl n)
  each-branch-match vs ws O n b c ln h (one_more {v = v} {w = w} {vs = us} {ws = xs} e lw t k) =
      and-branches-match n n (EB b c) (EB b c) b c (v.trial O n b) (w.trial O n c) (λ m. each_branch Op us O m b) (λ m. each_branch Oq xs O m c) (le_refl n) ln h (t O n b c ln h) (λ m lm. each-branch-match us xs O m b c (le_trans ln lm) (later n m b c lm h) k)
      (λ g h gs hs x q. a_branch x q)

  abbrev EE : ℕ → List (Point I) → List (Point J) → Type 0
  EE n bs cs = EachEnd Op Oq R P T first n bs cs

  one-free-same : (n x : ℕ) (bs : List (Point I)) (cs : List (Point J)) → x < first → EE n bs cs → list_any (λ (d : Point I). not (Op.is_bound (d x))) bs ≡ list_any (λ (d : Point J). not (Oq.is_bound (d x))) cs
  one-free-same n x bs cs lt no_end = refl
  one-free-same n x bs cs lt (an_end {b = b} {c = c} h k) = ap₂ (λ p q. not p || q) (bound-same x b c lt h.own) (one-free-same n x _ _ lt k)

  one-bound-same : (n x : ℕ) (bs : List (Point I)) (cs : List (Point J)) → x < first → EE n bs cs → list_any (λ (d : Point I). Op.is_bound (d x)) bs ≡ list_any (λ (d : Point J). Oq.is_bound (d x)) cs
  one-bound-same n x bs cs lt no_end = refl
  one-bound-same n x bs cs lt (an_end {b = b} {c = c} h k) = ap₂ (λ p q. p || q) (bound-same x b c lt h.own) (one-bound-same n x _ _ lt k)

  differs-same : (n x : ℕ) (bs : List (Point I)) (cs : List (Point J)) → x < first → EE n bs cs → differs Op P declared T bs x ≡ differs Oq P other T cs x
  differs-same n x bs cs lt k = ap₂ (λ p q. p && q) (one-free-same n x bs cs lt k) (one-bound-same n x bs cs lt k)

  none-bound : (x : ℕ) (bs : List (Point I)) → list_any (λ (d : Point I). Op.is_bound (d x)) bs ≡ false → AreBound Op Oq R false (map (λ (d : Point I). d x) bs)
  none-bound x [] e = tt
  none-bound x (b ∷ bs) e = at (Op.is_bound (b x)) refl e (none-bound x bs)
    where
      at : (t : Bool) → Op.is_bound (b x) ≡ t → (t || list_any (λ (d : Point I). Op.is_bound (d x)) bs) ≡ false → (list_any (λ (d : Point I). Op.is_bound (d x)) bs ≡ false → AreBound Op Oq R false (map (λ (d : Point I). d x) bs)) →
          AreBound Op Oq R false (map (λ (d : Point I). d x) (b ∷ bs))
      at true q f k = absurd (cc f)
      at false q f k = (q, k f)

  none-free : (x : ℕ) (bs : List (Point I)) → list_any (λ (d : Point I). not (Op.is_bound (d x))) bs ≡ false → AreBound Op Oq R true (map (λ (d : Point I). d x) bs)
  none-free x [] e = tt
  none-free x (b ∷ bs) e = at (Op.is_bound (b x)) refl e (none-free x bs)
    where
      at : (t : Bool) → Op.is_bound (b x) ≡ t → (not t || list_any (λ (d : Point I). not (Op.is_bound (d x))) bs) ≡ false → (list_any (λ (d : Point I). not (Op.is_bound (d x))) bs ≡ false → AreBound Op Oq R true (map (λ (d : Point I). d x) bs)) →
          AreBound Op Oq R true (map (λ (d : Point I). d x) (b ∷ bs))
      at true q f k = (q, k f)
      at false q f k = absurd (cc f)

  all-related : (n x : ℕ) (bs : List (Point I)) (cs : List (Point J)) → x < first → EE n bs cs → AllRelated Op Oq R (T x) (map (λ (d : Point I). d x) bs) (map (λ (d : Point J). d x) cs)
  all-related n x bs cs lt no_end = tt
  all-related n x bs cs lt (an_end h k) = (h.own x lt, all-related n x _ _ lt k)

  -- insts of one variable at ends that don't differ there
  joined-related : (n x : ℕ) (b : Point I) (bs : List (Point I)) (c : Point J) (cs : List (Point J)) → x < first → PR b c → EE n bs cs → differs Op P declared T (b ∷ bs) x ≡ false →
      FoundRelated Op Oq R (T x) (joined_at Op P declared T (b ∷ bs) x) (joined_at Oq P other T (c ∷ cs) x)
  joined-related n x b bs c cs lt h k e = at (list_any (λ (d : Point I). Op.is_bound (d x)) (b ∷ bs)) refl
    where
      related : AllRelated Op Oq R (T x) (map (λ (d : Point I). d x) (b ∷ bs)) (map (λ (d : Point J). d x) (c ∷ cs))
      related = (h x lt, all-related n x bs cs lt k)

      at : (t : Bool) → list_any (λ (d : Point I). Op.is_bound (d x)) (b ∷ bs) ≡ t → FoundRelated Op Oq R (T x) (joined_at Op P declared T (b ∷ bs) x) (joined_at Oq P other T (c ∷ cs) x)
      at true q =
          rel.joined (T x) true (b x) (map (λ (d : Point I). d x) bs) (c x) (map (λ (d : Point J). d x) cs)
          (none-free x (b ∷ bs) (not-both-true (list_any (λ (d : Point I). not (Op.is_bound (d x))) (b ∷ bs)) (list_any (λ (d : Point I). Op.is_bound (d x)) (b ∷ bs)) e q)) related
      at false q = rel.joined (T x) false (b x) (map (λ (d : Point I). d x) bs) (c x) (map (λ (d : Point J). d x) cs) (none-bound x (b ∷ bs) q) related

  or-free-related : (t : TypeTerm) (o : Option I) (q : Option J) → FoundRelated Op Oq R t o q → is_there o ≡ true → is_there q ≡ true → R t (or_free Op P declared T o) (or_free Oq P other T q)
  or-free-related t None q f e k = absurd (cc e)
  or-free-related t (Some i) None f e k = absurd (cc k)
  or-free-related t (Some i) (Some j) f e k = f

  not-own : (own : List ℕ) → Below first own → (x : ℕ) → first ≤ x → is_in x own ≡ false
  not-own own w x le = at (is_in x own) refl
    where
      at : (t : Bool) → is_in x own ≡ t → t ≡ false
      at true e = absurd (not-le_of_lt (w x (is_in_true x own e)) le)
      at false e = refl

  merged-related : (m n : ℕ) (own O : List ℕ) (b : Point I) (c : Point J) (bs : List (Point I)) (cs : List (Point J)) → first ≤ m → m ≤ n → Below first own → FP m b c → EE n bs cs → ((x : ℕ) → In x (those_in own O) → differs Op P declared T bs x ≡ false) →
      merges Op P declared T (those_in own O) bs ≡ true → merges Oq P other T (those_in own O) cs ≡ true → ER n (merged Op P declared T own O b bs) (merged Oq P other T own O c cs)
  merged-related m n own O b c bs cs lm mn w h no_end d p q = tt
  merged-related m n own O b c bs cs lm mn w h (an_end {b = a} {c = e} {bs = ts} {cs = us} r k) d p q =
      record {
        own = λ x lt. at x lt (is_in x own) (is_in x O) refl refl;
        bound = λ x le. subst (λ t. Op.is_bound (cond t (here x) (b x)) ≡ Oq.is_bound (cond t (there x) (c x))) (sym (not-own own w x le)) (h.bound x le);
        free_here = λ x le. subst (λ t. cond t (here x) (b x) ≡ Op.node 0) (sym (not-own own w x (le_trans lm (le_trans mn le)))) (h.free_here x (le_trans mn le));
        free_there = λ x le. subst (λ t. cond t (there x) (c x) ≡ Oq.node 0) (sym (not-own own w x (le_trans lm (le_trans mn le)))) (h.free_there x (le_trans mn le));
      }
    where
      here : ℕ → I
      here x = cond (is_in x O) (or_free Op P declared T (joined_at Op P declared T (a ∷ ts) x)) (Op.node 0)

      there : ℕ → J
      there x = cond (is_in x O) (or_free Oq P other T (joined_at Oq P other T (e ∷ us) x)) (Oq.node 0)

      at : (x : ℕ) → x < first → (t u : Bool) → is_in x own ≡ t → is_in x O ≡ u →
          R (T x) (cond t (cond u (or_free Op P declared T (joined_at Op P declared T (a ∷ ts) x)) (Op.node 0)) (b x)) (cond t (cond u (or_free Oq P other T (joined_at Oq P other T (e ∷ us) x)) (Oq.node 0)) (c x))
      at x lt false u f g = h.own x lt
      at x lt true false f g = rel.free (T x)
      at x lt true true f g =
          or-free-related (T x) (joined_at Op P declared T (a ∷ ts) x) (joined_at Oq P other T (e ∷ us) x) (joined-related n x a ts e us lt r.own k (d x (both-in own O x f g)))
          (all-at (λ y. is_there (joined_at Op P declared T (a ∷ ts) y)) (those_in own O) x p (both-in own O x f g)) (all-at (λ y. is_there (joined_at Oq P other T (e ∷ us) y)) (those_in own O) x q (both-in own O x f g))

  -- what is told of the goal that branches come to
  abbrev Comes : Point I → Point J → (Nodes → Nodes → Type 0) → (f g : Nodes → Scheduled) → Type 0
  Comes b c Q f g = (gs hs : Nodes) (o : Option (Point I)) (p : Option (Point J)) (n : ℕ) → S b c o p n → Q gs hs → All b c (single (changing Op.changed n b o (f gs))) (single (changing Oq.changed n c p (g hs))) o p

  branched-match : (m l : ℕ) (v : Option ℕ) (f g : Nodes → Scheduled) (own O : List ℕ) (b : Point I) (c : Point J) (Q : Nodes → Nodes → Type 0) (B : Branches I) (D : Branches J) → first ≤ m → m ≤ l → Below first own → FP m b c → Comes b c Q f g → BM l Q B D →
      M m b c (branched Op P declared T v f own O b B) (branched Oq P other T v g own O c D)
  branched-match m l v f g own O b c Q B D lm ml w h k branch_lacks_here = lacks_here
  branched-match m l v f g own O b c Q B D lm ml w h k branch_lacks_there = lacks_there
  branched-match m l v f g own O b c Q B D lm ml w h k (branches_break e) = both_break e
  branched-match m l (Some v) f g own O b c Q B D lm ml w h k (branches_run q e ln) = both_break (negated_binds v)
  branched-match m l None f g own O b c Q B D lm ml w h k (branches_run {gs = gs} {hs = hs} {bs = bs} {cs = cs} {n = n} q e ln) =
      subst (λ (o : Option ℕ). M m b c (unless (least (differs Op P declared T bs) (those_in own O)) branches_differ here) (unless o branches_differ there))
      (least-agree (differs Op P declared T bs) (differs Oq P other T cs) (those_in own O) (λ x i. differs-same n x bs cs (w x (among-those own O x i)) e))
      (at (least (differs Op P declared T bs) (those_in own O)) refl)
    where
      here : Arranged I
      here = cond (merges Op P declared T (those_in own O) bs) (one Op b (f gs) (merged Op P declared T own O b bs) n) (breaks lacks)

      there : Arranged J
      there = cond (merges Oq P other T (those_in own O) cs) (one Oq c (g hs) (merged Oq P other T own O c cs) n) (breaks lacks)

      both : ((x : ℕ) → In x (those_in own O) → differs Op P declared T bs x ≡ false) → (t u : Bool) → merges Op P declared T (those_in own O) bs ≡ t → merges Oq P other T (those_in own O) cs ≡ u →
          M m b c (cond t (one Op b (f gs) (merged Op P declared T own O b bs) n) (breaks lacks)) (cond u (one Oq c (g hs) (merged Oq P other T own O c cs) n) (breaks lacks))
      both d false u r s = lacks_here
      both d true false r s = lacks_there
      both d true true r s =
          let le = le_trans ml ln in
          let x = merged-related m n own O b c bs cs lm le w h e d r s in
          both_run (merged Op P declared T own O b bs) (merged Oq P other T own O c cs)
          (k gs hs (merged Op P declared T own O b bs) (merged Oq P other T own O c cs) n (step m n b c (merged Op P declared T own O b bs) (merged Oq P other T own O c cs) lm le h x) q) x le

      at : (o : Option ℕ) → least (differs Op P declared T bs) (those_in own O) ≡ o → M m b c (unless o branches_differ here) (unless o branches_differ there)
      at (Some v) r = both_break (branches_differ v)
      at None r =
          both (λ x i. none-passes (differs Op P declared T bs) (those_in own O) x r i) (merges Op P declared T (those_in own O) bs) (merges Oq P other T (those_in own O) cs) refl refl

  binds-same : (n : ℕ) (xs : List ℕ) (b : Point I) (c : Point J) (o : Option (Point I)) (p : Option (Point J)) → Below first xs → PR b c → ER n o p → binds Op P declared T xs b o ≡ binds Oq P other T xs c p
  binds-same n xs b c None None w h e = refl
  binds-same n xs b c None (Some d) w h e = absurd e
  binds-same n xs b c (Some a) None w h e = absurd e
  binds-same n xs b c (Some a) (Some d) w h e =
      least-agree (λ x. not (Op.is_bound (b x)) && Op.is_bound (a x)) (λ x. not (Oq.is_bound (c x)) && Oq.is_bound (d x)) xs
      (λ x i. ap₂ (λ p q. not p && q) (bound-same x b c (w x i) h) (bound-same x a d (w x i) e.own))

  else-match : (b : Point I) (c : Point J) (t : Trial I) (u : Trial J) (O : List ℕ) → TM t u → (n : ℕ) → first ≤ n → FP n b c →
      BM n (OneBranch Op Oq R P T first All One b c) (and_branches Op b (t O n b) no_branch) (and_branches Oq c (u O n c) no_branch)
  else-match b c t u O k n ln h =
      and-branches-match n n (NoBranch Op Oq R P T first All One) (OneBranch Op Oq R P T first All One b c) b c (t O n b) (u O n c) no_branch no_branch (le_refl n) ln h (k O n b c ln h) (λ m lm. branches_run nothing no_end (le_refl m)) (λ g h gs hs x q. last x gs hs q)
    where
      last : {g h : Node} → Br b c g h → (gs hs : Nodes) → NoBranch Op Oq R P T first All One gs hs → OneBranch Op Oq R P T first All One b c (node_then g gs) (node_then h hs)
      last x gs hs nothing = last_one x

  conditional-match : (m : ℕ) (vs xs own O : List ℕ) (b : Point I) (c : Point J) (r : Arranged I) (s : Arranged J) (th te : Trial I) (uh ue : Trial J) (V W : List ℕ) → first ≤ m → Below first xs → Below first own → FP m b c → TM th uh → TM te ue → M m b c r s →
      M m b c (conditional Op P declared T vs xs own O b r (λ n d. th V n d) (λ n. te W n b)) (conditional Oq P other T vs xs own O c s (λ n d. uh V n d) (λ n. ue W n c))
  conditional-match m vs xs own O b c r s th te uh ue V W lm wx w h kh ke lacks_here = lacks_here
  conditional-match m vs xs own O b c r s th te uh ue V W lm wx w h kh ke lacks_there = lacks_there
  conditional-match m vs xs own O b c r s th te uh ue V W lm wx w h kh ke (both_break f) = both_break f
  conditional-match m vs xs own O b c r s th te uh ue V W lm wx w h kh ke (both_run None (Some d) a e ln) = absurd e
  conditional-match m vs xs own O b c r s th te uh ue V W lm wx w h kh ke (both_run (Some d) None a e ln) = absurd e
  conditional-match m vs xs own O b c r s th te uh ue V W lm wx w h kh ke (both_run {gs = gs} {hs = hs} None None {n = n} a e ln) =
      branched-match m n None (two_goals (Ite vs (alone Op n b None gs))) (two_goals (Ite vs (alone Oq n c None hs))) own O b c (NeverThen Op Oq R P T first All One b c) _ _ lm ln w h comes
      (with-branch-match n n (OneBranch Op Oq R P T first All One b c) (NeverThen Op Oq R P T first All One b c) (unmarked (Conj no_nodes)) (unmarked (Conj no_nodes)) None None (and_branches Op b (te W n b) no_branch) (and_branches Oq c (ue W n c) no_branch) (le_refl n) tt never
      (else-match b c te ue W ke n (le_trans lm ln) (later m n b c ln h)))
    where
      never : (gs hs : Nodes) → OneBranch Op Oq R P T first All One b c gs hs → NeverThen Op Oq R P T first All One b c (node_then (unmarked (Conj no_nodes)) gs) (node_then (unmarked (Conj no_nodes)) hs)
      never gs hs (last_one x) = never_then x

      comes : Comes b c (NeverThen Op Oq R P T first All One b c) (two_goals (Ite vs (alone Op n b None gs))) (two_goals (Ite vs (alone Oq n c None hs)))
      comes ks ls o p l f (never_then {g = g} {h = k} x) = closed.ite_never vs b c (alone Op n b None gs) g (alone Oq n c None hs) k o p l f (closed.by_one b c gs hs None None n (step m n b c None None lm ln h tt) a) x
  conditional-match m vs xs own O b c r s th te uh ue V W lm wx w h kh ke (both_run {gs = gs} {hs = hs} (Some d) (Some i) {n = n} {zs = zs} a e ln) =
      subst (λ (o : Option ℕ). M m b c (conditional Op P declared T vs xs own O b (runs gs (Some d) n zs) (λ n d. th V n d) (λ n. te W n b))
      (branched Oq P other T o (two_goals (Ite vs (alone Oq n c (Some i) hs))) own O c (and_branches Oq i (uh V n i) (λ l. and_branches Oq c (ue W l c) no_branch))))
      (binds-same n xs b c (Some d) (Some i) wx h.own e)
      (branched-match m n (binds Op P declared T xs b (Some d)) (two_goals (Ite vs (alone Op n b (Some d) gs))) (two_goals (Ite vs (alone Oq n c (Some i) hs))) own O b c (TwoBranches Op Oq R P T first All One b d c i) _ _ lm ln w h comes
      (and-branches-match n n (OneBranch Op Oq R P T first All One b c) (TwoBranches Op Oq R P T first All One b d c i) d i (th V n d) (uh V n i) (λ l. and_branches Op b (te W l b) no_branch) (λ l. and_branches Oq c (ue W l c) no_branch) (le_refl n) (le_trans lm ln) e (kh V n d i (le_trans lm ln) e)
      (λ l ll. else-match b c te ue W ke l (le_trans lm (le_trans ln ll)) (later m l b c (le_trans ln ll) h)) (λ g h gs hs x q. two x gs hs q)))
    where
      two : {g h : Node} → Br d i g h → (gs hs : Nodes) → OneBranch Op Oq R P T first All One b c gs hs → TwoBranches Op Oq R P T first All One b d c i (node_then g gs) (node_then h hs)
      two x gs hs (last_one y) = then_else x y

      comes : Comes b c (TwoBranches Op Oq R P T first All One b d c i) (two_goals (Ite vs (alone Op n b (Some d) gs))) (two_goals (Ite vs (alone Oq n c (Some i) hs)))
      comes ks ls o p l f (then_else {g = g} {h = k} {k = t} {l = j} x y) =
          closed.ite vs b d c i (alone Op n b (Some d) gs) g t (alone Oq n c (Some i) hs) k j o p l f (closed.by_one b c gs hs (Some d) (Some i) n (step m n b c (Some d) (Some i) lm ln h e) a) x y

  negation-match : (m : ℕ) (xs : List ℕ) (b : Point I) (c : Point J) (r : Arranged I) (s : Arranged J) → first ≤ m → Below first xs → FP m b c → M m b c r s → M m b c (negation Op P declared T xs b r) (negation Oq P other T xs c s)
  negation-match m xs b c r s lm w h lacks_here = lacks_here
  negation-match m xs b c r s lm w h lacks_there = lacks_there
  negation-match m xs b c r s lm w h (both_break f) = both_break f
  negation-match m xs b c r s lm w h (both_run {gs = gs} {hs = hs} o p {n = n} {zs = zs} a e ln) =
      subst (λ (v : Option ℕ). M m b c (negation Op P declared T xs b (runs gs o n zs)) (unless v negated_binds (one Oq c (Not (alone Oq n c p hs)) (Some c) n))) (binds-same n xs b c o p w h.own e) (at (binds Op P declared T xs b o))
    where
      k : FP n b c
      k = later m n b c ln h

      at : (v : Option ℕ) → M m b c (unless v negated_binds (one Op b (Not (alone Op n b o gs)) (Some b) n)) (unless v negated_binds (one Oq c (Not (alone Oq n c p hs)) (Some c) n))
      at (Some v) = both_break (negated_binds v)
      at None =
          both_run (Some b) (Some c) (closed.negation b c (alone Op n b o gs) (alone Oq n c p hs) o p n (step m n b c (Some b) (Some c) lm ln h k) (closed.by_one b c gs hs o p n (step m n b c o p lm ln h e) a)) k ln

  conj-match : (m : ℕ) (b : Point I) (c : Point J) (r : Arranged I) (s : Arranged J) → first ≤ m → FP m b c → M m b c r s → M m b c (wrapped Op (λ m o hs. Conj hs) b r) (wrapped Oq (λ m o hs. Conj hs) c s)
  conj-match m b c r s lm h lacks_here = lacks_here
  conj-match m b c r s lm h lacks_there = lacks_there
  conj-match m b c r s lm h (both_break f) = both_break f
  conj-match m b c r s lm h (both_run {gs = gs} {hs = hs} o p {n = n} a e ln) = both_run o p (closed.conj b c gs hs o p n (step m n b c o p lm ln h e) a) e ln

  exists-match : (m : ℕ) (vs : List ℕ) (b : Point I) (c : Point J) (r : Arranged I) (s : Arranged J) → first ≤ m → FP m b c → M m b c r s → M m b c (wrapped Op (λ m o gs. Exists vs (alone Op m b o gs)) b r) (wrapped Oq (λ m o gs. Exists vs (alone Oq m c o gs)) c s)
  exists-match m vs b c r s lm h lacks_here = lacks_here
  exists-match m vs b c r s lm h lacks_there = lacks_there
  exists-match m vs b c r s lm h (both_break f) = both_break f
  exists-match m vs b c r s lm h (both_run {gs = gs} {hs = hs} o p {n = n} a e ln) =
      let x = step m n b c o p lm ln h e in
      both_run o p (closed.some vs b c (alone Op n b o gs) (alone Oq n c p hs) o p n x (closed.by_one b c gs hs o p n x a)) e ln

  -- ---- conjunctions
  or-first-match : (m : ℕ) (b : Point I) (c : Point J) (f : Fault) (p : Picked I) (q : Picked J) → PM m b c p q → PM m b c (or_first f p) (or_first f q)
  or-first-match m b c f p q pick_lacks_here = pick_lacks_here
  or-first-match m b c f p q pick_lacks_there = pick_lacks_there
  or-first-match m b c f p q (both_none None) = both_none (Some f)
  or-first-match m b c f p q (both_none (Some (waits k vs))) = both_none (Some f)
  or-first-match m b c f p q (both_none (Some (negated_binds v))) = both_none (Some f)
  or-first-match m b c f p q (both_none (Some (branches_differ v))) = both_none (Some f)
  or-first-match m b c f p q (both_none (Some lacks)) = pick_lacks_here
  or-first-match m b c f p q (both_take o i e k a r ln) = both_take o i e k a r ln

  picked-match : (m : ℕ) (b : Point I) (c : Point J) (v : Waiting I) (w : Waiting J) (vs : List (Waiting I)) (ws : List (Waiting J)) (r : Arranged I) (s : Arranged J) (p : Picked I) (q : Picked J) → v.variables ≡ w.variables → AM vs ws → PM m b c p q → M m b c r s →
      PM m b c (picked v vs r p) (picked w ws s q)
  picked-match m b c v w vs ws r s p q e k h lacks_here = pick_lacks_here
  picked-match m b c v w vs ws r s p q e k h lacks_there = pick_lacks_there
  picked-match m b c v w vs ws r s p q e k h (both_break (waits j us)) = h
  picked-match m b c v w vs ws r s p q e k h (both_break (negated_binds x)) = or-first-match m b c (negated_binds x) p q h
  picked-match m b c v w vs ws r s p q e k h (both_break (branches_differ x)) = or-first-match m b c (branches_differ x) p q h
  picked-match m b c v w vs ws r s p q e k h (both_break lacks) = pick_lacks_here
  picked-match m b c v w vs ws r s p q e k h (both_run o i {zs = zs} a f ln) = both_take o i (ap (λ us. with_fresh us zs) e) k a f ln

  variables-same : (vs : List (Waiting I)) (ws : List (Waiting J)) → AM vs ws → variables_of_waiting vs ≡ variables_of_waiting ws
  variables-same vs ws no_more = refl
  variables-same vs ws (one_more e w t k) = ap₂ (λ (xs ys : List ℕ). xs ++ ys) e (variables-same _ _ k)

  length-same : (vs : List (Waiting I)) (ws : List (Waiting J)) → AM vs ws → length vs ≡ length ws
  length-same vs ws no_more = refl
  length-same vs ws (one_more e w t k) = ap suc (length-same _ _ k)

  all-below : (vs : List (Waiting I)) (ws : List (Waiting J)) → AM vs ws → Below first (variables_of_waiting vs)
  all-below vs ws no_more x i = absurd i
  all-below vs ws (one_more {v = v} {vs = us} e w t k) x i = ⊎_elim (λ j. w x j) (λ j. all-below us _ k x j) (in_either x v.variables (variables_of_waiting us) i)

  all-both : (vs us : List (Waiting I)) (ws xs : List (Waiting J)) → AM vs ws → AM us xs → AM (vs ++ us) (ws ++ xs)
  all-both vs us ws xs no_more h = h
  all-both vs us ws xs (one_more e w t k) h = one_more e w t (all-both _ us _ xs k h)

  pick-match : (vs us : List (Waiting I)) (ws xs : List (Waiting J)) (O : List ℕ) (n : ℕ) (b : Point I) (c : Point J) → first ≤ n → FP n b c → AM vs ws → AM us xs → PM n b c (pick vs us O n b) (pick ws xs O n c)
  pick-match vs us ws xs O n b c ln h k no_more = both_none None
  pick-match vs us ws xs O n b c ln h k (one_more {v = v} {w = w} {vs = us'} {ws = xs'} e lw t l) =
      picked-match n b c v w (vs ++ us') (ws ++ xs') (v.trial (O ++ variables_of_waiting (vs ++ us')) n b) (w.trial (O ++ variables_of_waiting (ws ++ xs')) n c) (pick (vs ++ v ∷ []) us' O n b) (pick (ws ++ w ∷ []) xs' O n c) e (all-both vs us' ws xs' k l)
      (pick-match (vs ++ v ∷ []) us' (ws ++ w ∷ []) xs' O n b c ln h (all-both vs (v ∷ []) ws (w ∷ []) k (one_more e lw t no_more)) l)
      (subst (λ (ys : List ℕ). M n b c (v.trial (O ++ variables_of_waiting (vs ++ us')) n b) (w.trial (O ++ ys) n c)) (variables-same (vs ++ us') (ws ++ xs') (all-both vs us' ws xs' k l)) (t (O ++ variables_of_waiting (vs ++ us')) n b c ln h))

  stuck-same : (vs : List (Waiting I)) (ws : List (Waiting J)) (b : Point I) (c : Point J) → AM vs ws → PR b c → stuck Op P declared T vs b ≡ stuck Oq P other T ws c
  stuck-same vs ws b c k h =
      ap₂ (λ (m : ℕ) (ys : List ℕ). waits m ys) (length-same vs ws k)
      (free-same (variables_of_waiting vs) b c (all-below vs ws k) h ∙ ap (free_at Oq P other T c) (variables-same vs ws k))

  behind-match : (m n : ℕ) (b d : Point I) (c e : Point J) (gs hs : Nodes) (r : Arranged I) (s : Arranged J) → m ≤ n → All b c gs hs (Some d) (Some e) → M n d e r s → M m b c (behind gs r) (behind hs s)
  behind-match m n b d c e gs hs r s mn a lacks_here = lacks_here
  behind-match m n b d c e gs hs r s mn a lacks_there = lacks_there
  behind-match m n b d c e gs hs r s mn a (both_break f) = both_break f
  behind-match m n b d c e gs hs r s mn a (both_run {gs = ks} {hs = ls} o p q f ln) = both_run o p (closed.before b d c e gs hs ks ls o p a q) f (le_trans mn ln)

  abbrev Rest : (List ℕ → List (Waiting I) → ℕ → Point I → Arranged I) → (List ℕ → List (Waiting J) → ℕ → Point J → Arranged J) → ℕ → Type 0
  Rest f g m = (us : List ℕ) (vs : List (Waiting I)) (ws : List (Waiting J)) (n : ℕ) (b : Point I) (c : Point J) → AM vs ws → m ≤ n → FP n b c → M n b c (f us vs n b) (g us ws n c)

  goes-on-match : (m : ℕ) (b : Point I) (c : Point J) (f : Fault) (p : Picked I) (q : Picked J) (here : List ℕ → List (Waiting I) → ℕ → Point I → Arranged I) (there : List ℕ → List (Waiting J) → ℕ → Point J → Arranged J) → Rest here there m → PM m b c p q →
      M m b c (goes_on f p here) (goes_on f q there)
  goes-on-match m b c f p q here there k pick_lacks_here = lacks_here
  goes-on-match m b c f p q here there k pick_lacks_there = lacks_there
  goes-on-match m b c f p q here there k (both_none None) = both_break f
  goes-on-match m b c f p q here there k (both_none (Some g)) = both_break g
  goes-on-match m b c f p q here there k (both_take None None u l a e ln) = both_run None None a tt ln
  goes-on-match m b c f p q here there k (both_take None (Some d) u l a e ln) = absurd e
  goes-on-match m b c f p q here there k (both_take (Some d) None u l a e ln) = absurd e
  goes-on-match m b c f p q here there k (both_take {us = us} {vs = vs} {ws = ws} {xs = xs} {gs = gs} {hs = hs} (Some d) (Some e) {n = n} u l a r ln) =
      behind-match m n b d c e gs hs (here us ws n d) (there vs xs n e) ln a (subst (λ (ys : List ℕ). M n d e (here us ws n d) (there ys xs n e)) u (k us ws xs n d e l ln r))

  in-turn-match : (k : ℕ) (vs : List (Waiting I)) (ws : List (Waiting J)) → AM vs ws → TM (in_turn Op P declared T k vs) (in_turn Oq P other T k ws)
  in-turn-match zero vs ws a O n b c ln h = both_run (Some b) (Some c) (closed.done b c) h (le_refl n)
  in-turn-match (suc k) vs ws a O n b c ln h =
      subst (λ (f : Fault). M n b c (in_turn Op P declared T (suc k) vs O n b) (goes_on f (pick [] ws O n c) (λ us rest m d. in_turn Oq P other T k rest (O ++ us) m d))) (stuck-same vs ws b c a h.own)
      (goes-on-match n b c (stuck Op P declared T vs b) (pick [] vs O n b) (pick [] ws O n c) (λ us rest m d. in_turn Op P declared T k rest (O ++ us) m d) (λ us rest m d. in_turn Oq P other T k rest (O ++ us) m d)
      (λ us xs ys m d e l lm r. in-turn-match k xs ys l (O ++ us) m d e (le_trans ln lm) r) (pick-match [] vs [] ws O n b c ln h no_more a))

  mutual
    pub goal-match : (g : Flat_goal) → CallsOnly Counts g → TypedGoal P T g → Below first (variables_of g) → TM (trial Op P declared T g) (trial Oq P other T g)
    goal-match (F.Same x y) a t w O n b c ln h = atom-match (x ∷ y ∷ []) n b c _ _ w h.own (same-match x y n b c t (w x (inl refl)) (w y (inr (inl refl))) ln h)
    goal-match (F.Made x s ys) a t w O n b c ln h = atom-match (x ∷ ys) n b c _ _ w h.own (made-match x s ys n b c t w ln h)
    goal-match (F.Is x v) a t w O n b c ln h = atom-match (x ∷ []) n b c _ _ w h.own (constant-match x v n b c t.1 (w x (inl refl)) ln h)
    goal-match (F.Call p xs) a t w O n b c ln h = atom-match xs n b c _ _ w h.own (call-match (P.preds p).builtin p t.0 xs n b c a refl t.1 w ln h)
    goal-match (F.And gs) a t w O n b c ln h =
        conj-match n b c (in_turn Op P declared T (count_flat gs) (trials Op P declared T gs) O n b) (in_turn Oq P other T (count_flat gs) (trials Oq P other T gs) O n c) ln h
        (in-turn-match (count_flat gs) (trials Op P declared T gs) (trials Oq P other T gs) (goals-match gs a t w) O n b c ln h)
    goal-match (F.Or gs) a t w O n b c ln h =
        branched-match n n None Disj Disj (variables_of_all gs) O b c (EB b c) (each_branch Op (trials Op P declared T gs) O n b) (each_branch Oq (trials Oq P other T gs) O n c) ln (le_refl n) w h (λ ks ls o p m e q. closed.disj b c ks ls o p m e q)
        (each-branch-match (trials Op P declared T gs) (trials Oq P other T gs) O n b c ln h (goals-match gs a t w))
    goal-match (F.If vs g h k) a t w O n b c ln r =
        conditional-match n vs (without (free_in g) vs) (variables_of (F.If vs g h k)) O b c (trial Op P declared T g (O ++ (without (free_in g) vs ++ variables_of h)) n b) (trial Oq P other T g (O ++ (without (free_in g) vs ++ variables_of h)) n c)
        (trial Op P declared T h) (trial Op P declared T k) (trial Oq P other T h) (trial Oq P other T k) (O ++ variables_of g) O ln
        (λ x i. w x (in-condition vs g h k x (free-among g x (from_without x (free_in g) vs i)))) w r
        (goal-match h a.1 t.1 (λ x i. w x (in-then vs g h k x i))) (goal-match k a.2 t.2 (λ x i. w x (in-else vs g h k x i)))
        (goal-match g a.0 t.0 (λ x i. w x (in-condition vs g h k x i)) (O ++ (without (free_in g) vs ++ variables_of h)) n b c ln r)
    goal-match (F.Not g) a t w O n b c ln h =
        negation-match n (free_in g) b c (trial Op P declared T g (O ++ free_in g) n b) (trial Oq P other T g (O ++ free_in g) n c) ln (λ x i. w x (free-among g x i)) h (goal-match g a t w (O ++ free_in g) n b c ln h)
    goal-match (F.Exists vs g) a t w O n b c ln h =
        exists-match n vs b c (trial Op P declared T g O n b) (trial Oq P other T g O n c) ln h (goal-match g a t (λ x i. w x (in_right x vs (variables_of g) i)) O n b c ln h)

    goals-match : (gs : Flat_goals) → AllCallOnly Counts gs → TypedGoals P T gs → Below first (variables_of_all gs) → AM (trials Op P declared T gs) (trials Oq P other T gs)
    goals-match no_flat a t w = no_more
    goals-match (flat_then g gs) a t w = one_more refl (λ x i. w x (in_left x (variables_of g) (variables_of_all gs) i)) (goal-match g a.0 t.0 (λ x i. w x (in_left x (variables_of g) (variables_of_all gs) i))) (goals-match gs a.1 t.1 (λ x i. w x (in_right x (variables_of g) (variables_of_all gs) i)))

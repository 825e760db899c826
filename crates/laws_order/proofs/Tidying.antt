-- Orders keep insts tidy.
use Rattle.std.proofs.Common.{◌≡◌, ◌≢◌, ◌⊎◌, inl, inr, ℕ, zero, suc, ◌+◌, ◌<◌, ◌≤◌, Bool, true, false, cond, not, nat_eq, nat_lt, ◌&&◌, ◌||◌, List, [], ◌∷◌, ◌++◌, map, length, get_or, Option, Some, None, refl, ap, sym, ◌∙◌, subst, ⊎_elim, arith}
use Rattle.std.specs.List.{list_any}
use Rattle.std.proofs.Math.Nat.{le_trans, le_refl}
use Rattle.std.proofs.lemmas.Bool.{eqb-true}
use Rattle.mc_program.specs.Values.{Val}
use Rattle.mc_program.specs.Programs.{TypeTerm, int_type, char_type, string_type, state_type, variable_type, union_type, Source}
use Rattle.mc_model.specs.Types.{instance_of, argument_types}
use Rattle.mc_model.specs.Outcomes.{inputs_of}
use Rattle.mc_model.specs.Insts.{free, Graph}
use Rattle.mc_model.specs.Flat as F
use Rattle.mc_model.specs.Flat.{Flat_goal, Flat_goals, no_flat, flat_then, variables_of, variables_of_all, free_in}
use Rattle.mc_model.specs.Lists.{In, is_in, without}
use Rattle.mc_model.specs.Scheduled.{Node, Scheduled, Conj, Disj, Ite, Not, Exists, Assign, Test, Build, Take, Const, TestConst, Call, Apply, Nodes, no_nodes, node_then, Procedure}
use Rattle.mc_model.specs.Stream.{is_bound}
use Rattle.mc_model.specs.Good.{System}
use Rattle.mc_source.specs.Determinism.{is_zero}
use Rattle.mc_accepted.specs.Accepted.{entered}
use Rattle.mc_accepted.specs.BuiltinTypes.{Library_types, builtin_types, list_of, result_of}
use Rattle.mc_accepted.specs.Fits.{type_of}
use Rattle.mc_accepted.specs.FreshTests.{TestsAlike, AlikeIn, AllAlike}
use Rattle.mc_accepted.specs.Ordered.{Insts, Mode, is_state, in_mode, out_mode, di_mode, uo_mode, plain_modes, zipped, modes_of, modes_of_procedure, at_inputs, at_outputs, builtin_most}
use Rattle.mc_accepted.specs.ProperTypes.{Parameters}
use Rattle.mc_accepted.specs.Tidy.{Tidy, EachTidy, EachIsTidy}
use Rattle.mc_accepted.specs.Typing.{constructor_types, TypedGoal, TypedGoals}
use Rattle.mc_accepted.specs.Unmarked.{unmarked}
use Rattle.mc_accepted.specs.Least.{least}
use Rattle.mc_accepted.specs.Arranged.{Declared, Fault, waits, negated_binds, branches_differ, lacks, alone, two_goals, count_flat, changing, changes_from, changes, with_change, nodes_before, fresh_at, tests_at, test_nodes, with_inst, Arranged, runs, breaks, Trial, Waiting, Picked, takes, none_runs, Branches, all_run, one_breaks, variables_of_waiting, or_first, picked, pick, behind, goes_on, with_end, with_branch, and_branches, no_branch, each_branch, unless, wrapped, one, stuck, in_turn, atom, assigned, same, taken, built, took, take, made, constant, input_after, after_call, after, better, best, called, applied_with, call_of, binds, differs, joined_at, or_free, merged, merges, those_in, branched, conditional, negation, trial, trials, usable, implied_in}
use Rattle.mc_accepted.specs.NodeOracle.{NodeOracle, of_nodes, other_node}
use Rattle.mc_accepted.specs.code.Truthful.{Truthful, IsNarrowed, IsDeclared, AllDeclared}
use Rattle.mc_program.specs.declared.builtin.Builtin.{Builtin}
use Rattle.mc_program.specs.declared.builtin.Builtin.TheVariants as B
use Rattle.laws_language.proofs.FlatWhole.{is_in_true}
use Rattle.laws_order.specs.Tidying.{EndsTidily, TidyPoint, TidyEnd, EachChangeTidy, ChangesTidy, ChangesTidyIn, AllChangeTidy, OrdersStayTidy, EntriesAreTidy}
use Rattle.laws_order.proofs.Arranging as A
use Rattle.laws_order.proofs.Arranging.{none-passes, those-in}
use Rattle.laws_order.proofs.TidyInsts.{tidy-at-instances, tidy-at-state, free-tidy, ground-tidy, PlacesTidy, each-place, tidy-over, tidy-arguments, is-constructor}

state-is : (t : TypeTerm) → is_state t ≡ true → t ≡ state_type
state-is int_type e = cc
state-is char_type e = cc
state-is string_type e = cc
state-is state_type e = refl
state-is (variable_type v) e = cc
state-is (union_type u ts) e = cc

module _ (S : System) (T : ℕ → TypeTerm) (C : NodeOracle) (declared : ℕ → List Declared) (truth : Truthful S T C) (known : (p : ℕ) → (S.world.source.preds p).builtin ≡ None → AllDeclared S T p (declared p)) (ends : EndsTidily S) (first : ℕ) where
  abbrev P : Source
  P = S.world.source

  abbrev G : Graph
  G = S.insts

  abbrev TP : Insts → Type 0
  TP b = TidyPoint S T b

  abbrev TidyAt : ℕ → ℕ → Type 0
  TidyAt i x = Tidy P G i (T x)

  -- what is reached so is tidy: where Q holds before it, and its fresh variables are typed alike
  abbrev pub Kept : (Q : Type 0) → (n : ℕ) → Arranged ℕ → Type 0
  Kept Q n (runs gs o m zs) = (n ≤ m) × (Q → AllAlike T first gs → AllChangeTidy S T gs × TidyEnd S T o)
  Kept Q n (breaks f) = Unit {0}

  abbrev pub Keeps : Trial ℕ → Type 0
  Keeps t = (O : List ℕ) (n : ℕ) (b : Insts) → first ≤ n → Kept (TP b) n (t O n b)

  abbrev pub AllKeep : List (Waiting ℕ) → Type 0
  AllKeep [] = Unit {0}
  AllKeep (w ∷ ws) = Keeps w.trial × AllKeep ws

  abbrev pub EndsTidy : List Insts → Type 0
  EndsTidy [] = Unit {0}
  EndsTidy (c ∷ cs) = TP c × EndsTidy cs

  abbrev pub BranchesKeep : (Q : Type 0) → (n : ℕ) → Branches ℕ → Type 0
  BranchesKeep Q n (all_run gs es m) = (n ≤ m) × (Q → AllAlike T first gs → AllChangeTidy S T gs × EndsTidy es)
  BranchesKeep Q n (one_breaks f) = Unit {0}

  kept-from : (Q R : Type 0) (n m : ℕ) → n ≤ m → (Q → R) → (r : Arranged ℕ) → Kept R m r → Kept Q n r
  kept-from Q R n m le f (breaks e) k = tt
  kept-from Q R n m le f (runs gs o j zs) k = (le_trans le k.0, λ q. k.1 (f q))

  kept-if : (Q : Type 0) (n : ℕ) (t : Bool) (p q : Arranged ℕ) → (t ≡ true → Kept Q n p) → (t ≡ false → Kept Q n q) → Kept Q n (cond t p q)
  kept-if Q n true p q h k = h refl
  kept-if Q n false p q h k = k refl

  kept-unless : (Q : Type 0) (n : ℕ) (o : Option ℕ) (f : ℕ → Fault) (r : Arranged ℕ) → (o ≡ None → Kept Q n r) → Kept Q n (unless o f r)
  kept-unless Q n None f r k = k refl
  kept-unless Q n (Some v) f r k = tt

  -- ---- what goals change
  changes-tidy : (x k : ℕ) (b c : Insts) → TP c → EachChangeTidy S T (changes_from other_node x k b c)
  changes-tidy x zero b c h = tt
  changes-tidy x (suc k) b c h = at (nat_eq (b x) (c x)) (changes-tidy (suc x) k b c h)
    where
      at : (t : Bool) → EachChangeTidy S T (changes_from other_node (suc x) k b c) → EachChangeTidy S T (with_change x (cond t None (Some (c x))) (changes_from other_node (suc x) k b c))
      at true r = r
      at false r = (h x, r)

  end-changes : (n : ℕ) (b : Insts) (o : Option Insts) → TidyEnd S T o → EachChangeTidy S T (changes other_node n b o)
  end-changes n b None h = tt
  end-changes n b (Some c) h = changes-tidy 0 n b c h

  one-kept : (Q : Type 0) (n m : ℕ) (b : Insts) (s : Scheduled) (o : Option Insts) → n ≤ m → (Q → AlikeIn T first s → ChangesTidyIn S T s × TidyEnd S T o) → Kept Q n (one (of_nodes C) b s o m)
  one-kept Q n m b s o le f = (le, λ q al. (let r = f q al.0 in (((end-changes m b o r.1, r.0), tt), r.1)))

  alone-tidy : (m : ℕ) (b : Insts) (o : Option Insts) (gs : Nodes) → TidyEnd S T o → AllChangeTidy S T gs → ChangesTidy S T (alone (of_nodes C) m b o gs)
  alone-tidy m b o no_nodes h a = (end-changes m b o h, tt)
  alone-tidy m b o (node_then g no_nodes) h a = a.0
  alone-tidy m b o (node_then g (node_then k gs)) h a = (end-changes m b o h, a)

  pub alone-alike : (m : ℕ) (b : Insts) (o : Option Insts) (gs : Nodes) → TestsAlike T first (alone (of_nodes C) m b o gs) → AllAlike T first gs
  alone-alike m b o no_nodes h = tt
  alone-alike m b o (node_then g no_nodes) h = (h, tt)
  alone-alike m b o (node_then g (node_then k gs)) h = h

  pub both-alike : (gs hs : Nodes) → AllAlike T first (nodes_before gs hs) → AllAlike T first gs × AllAlike T first hs
  both-alike no_nodes hs h = (tt, h)
  both-alike (node_then g gs) hs h = (let r = both-alike gs hs h.1 in ((h.0, r.0), r.1))

  both-tidy : (gs hs : Nodes) → AllChangeTidy S T gs → AllChangeTidy S T hs → AllChangeTidy S T (nodes_before gs hs)
  both-tidy no_nodes hs g h = h
  both-tidy (node_then k gs) hs g h = (g.0, both-tidy gs hs g.1 h)

  -- ---- conjunctions
  all-keep-both : (vs ws : List (Waiting ℕ)) → AllKeep vs → AllKeep ws → AllKeep (vs ++ ws)
  all-keep-both [] ws k h = h
  all-keep-both (v ∷ vs) ws k h = (k.0, all-keep-both vs ws k.1 h)

  abbrev PickedKeeps : (Q : Type 0) → (n : ℕ) → Picked ℕ → Type 0
  PickedKeeps Q n (takes vs ws gs o m) = Kept Q n (runs gs o m []) × AllKeep ws
  PickedKeeps Q n (none_runs f) = Unit {0}

  or-first-keeps : (Q : Type 0) (n : ℕ) (f : Fault) (p : Picked ℕ) → PickedKeeps Q n p → PickedKeeps Q n (or_first f p)
  or-first-keeps Q n f (takes vs ws gs o m) k = k
  or-first-keeps Q n f (none_runs None) k = tt
  or-first-keeps Q n f (none_runs (Some (waits j vs))) k = tt
  or-first-keeps Q n f (none_runs (Some (negated_binds v))) k = tt
  or-first-keeps Q n f (none_runs (Some (branches_differ v))) k = tt
  or-first-keeps Q n f (none_runs (Some lacks)) k = tt

  picked-keeps : (Q : Type 0) (n : ℕ) (w : Waiting ℕ) (ws : List (Waiting ℕ)) (r : Arranged ℕ) (later : Picked ℕ) → Kept Q n r → AllKeep ws → PickedKeeps Q n later → PickedKeeps Q n (picked w ws r later)
  picked-keeps Q n w ws (runs gs o m zs) later k h p = (k, h)
  picked-keeps Q n w ws (breaks (waits j vs)) later k h p = p
  picked-keeps Q n w ws (breaks (negated_binds v)) later k h p = or-first-keeps Q n (negated_binds v) later p
  picked-keeps Q n w ws (breaks (branches_differ v)) later k h p = or-first-keeps Q n (branches_differ v) later p
  picked-keeps Q n w ws (breaks lacks) later k h p = tt

  pick-keeps : (n : ℕ) (b : Insts) (vs ws : List (Waiting ℕ)) (O : List ℕ) → first ≤ n → AllKeep vs → AllKeep ws → PickedKeeps (TP b) n (pick vs ws O n b)
  pick-keeps n b vs [] O le h k = tt
  pick-keeps n b vs (w ∷ ws) O le h k =
      picked-keeps (TP b) n w (vs ++ ws) (w.trial (O ++ variables_of_waiting (vs ++ ws)) n b) (pick (vs ++ w ∷ []) ws O n b) (k.0 (O ++ variables_of_waiting (vs ++ ws)) n b le) (all-keep-both vs ws h k.1)
      (pick-keeps n b (vs ++ w ∷ []) ws O le (all-keep-both vs (w ∷ []) h (k.0, tt)) k.1)

  behind-keeps : (Q : Type 0) (n m : ℕ) (gs : Nodes) (c : Insts) → Kept Q n (runs gs (Some c) m []) → (r : Arranged ℕ) → Kept (TP c) m r → Kept Q n (behind gs r)
  behind-keeps Q n m gs c k (breaks f) h = tt
  behind-keeps Q n m gs c k (runs hs o j zs) h =
      (le_trans k.0 h.0, λ q al. (let al = both-alike gs hs al in let r = k.1 q al.0 in let s = h.1 r.1 al.1 in (both-tidy gs hs r.0 s.0, s.1)))

  in-turn-keeps : (k : ℕ) (ws : List (Waiting ℕ)) → AllKeep ws → Keeps (in_turn (of_nodes C) P declared T k ws)
  in-turn-keeps zero ws h O n b le = (le_refl n, λ q al. (tt, q))
  in-turn-keeps (suc k) ws h O n b le = at (pick [] ws O n b) (pick-keeps n b [] ws O le tt h) (λ us ku. in-turn-keeps k us ku)
    where
      at : (p : Picked ℕ) → PickedKeeps (TP b) n p → ((us : List (Waiting ℕ)) → AllKeep us → Keeps (in_turn (of_nodes C) P declared T k us)) → Kept (TP b) n (goes_on (stuck (of_nodes C) P declared T ws b) p (λ vs rest m c. in_turn (of_nodes C) P declared T k rest (O ++ vs) m c))
      at (none_runs None) q again = tt
      at (none_runs (Some f)) q again = tt
      at (takes vs us gs None m) q again = q.0
      at (takes vs us gs (Some c) m) q again = behind-keeps (TP b) n m gs c q.0 (in_turn (of_nodes C) P declared T k us (O ++ vs) m c) (again us q.1 (O ++ vs) m c (le_trans le q.0.0))

  -- ---- branches
  pub with-end-tidy : (o : Option Insts) (es : List Insts) → TidyEnd S T o → EndsTidy es → EndsTidy (with_end o es)
  with-end-tidy None es h k = k
  with-end-tidy (Some c) es h k = (h, k)

  with-branch-keeps : (Q : Type 0) (n : ℕ) (g : Node) (o : Option Insts) (B : Branches ℕ) → (Q → TestsAlike T first g → ChangesTidy S T g × TidyEnd S T o) → BranchesKeep Q n B → BranchesKeep Q n (with_branch g o B)
  with-branch-keeps Q n g o (one_breaks f) h k = tt
  with-branch-keeps Q n g o (all_run gs es m) h k = (k.0, λ q al. (let r = k.1 q al.1 in let l = h q al.0 in ((l.0, r.0), with-end-tidy o es l.1 r.1)))

  branches-from : (Q : Type 0) (n m : ℕ) → n ≤ m → (B : Branches ℕ) → BranchesKeep Q m B → BranchesKeep Q n B
  branches-from Q n m le (one_breaks f) k = tt
  branches-from Q n m le (all_run gs es j) k = (le_trans le k.0, k.1)

  and-branches-keep : (Q : Type 0) (n : ℕ) (b : Insts) (r : Arranged ℕ) (rest : ℕ → Branches ℕ) → Kept Q n r → ((m : ℕ) → n ≤ m → BranchesKeep Q m (rest m)) → BranchesKeep Q n (and_branches (of_nodes C) b r rest)
  and-branches-keep Q n b (breaks f) rest k h = tt
  and-branches-keep Q n b (runs gs o m zs) rest k h =
      branches-from Q n m k.0 (with_branch (alone (of_nodes C) m b o gs) o (rest m))
      (with-branch-keeps Q m (alone (of_nodes C) m b o gs) o (rest m) (λ q al. (let r = k.1 q (alone-alike m b o gs al) in (alone-tidy m b o gs r.1 r.0, r.1))) (h m k.0))

  no-branch-keeps : (Q : Type 0) (n : ℕ) → BranchesKeep Q n (no_branch n)
  no-branch-keeps Q n = (le_refl n, λ q al. (tt, tt))

  pub each-branch-keeps : (n : ℕ) (b : Insts) (ws : List (Waiting ℕ)) (O : List ℕ) → first ≤ n → AllKeep ws → BranchesKeep (TP b) n (each_branch (of_nodes C) ws O n b)
  each-branch-keeps n b [] O le k = no-branch-keeps (TP b) n
  each-branch-keeps n b (w ∷ ws) O le k =
      and-branches-keep (TP b) n b (w.trial O n b) (λ m. each_branch (of_nodes C) ws O m b) (k.0 O n b le) (λ m lm. each-branch-keeps m b ws O (le_trans le lm) k.1)

  pub each-end : (cs : List Insts) (x : ℕ) → EndsTidy cs → EachIsTidy P G (map (λ (c : Insts). c x) cs) (T x)
  each-end [] x h = tt
  each-end (c ∷ cs) x h = (h.0 x, each-end cs x h.1)

  merged-tidy : (own O : List ℕ) (b : Insts) (es : List Insts) → ((x : ℕ) → In x (those_in own O) → differs (of_nodes C) P declared T es x ≡ false) → EndsTidy es → TP b → TidyEnd S T (merged (of_nodes C) P declared T own O b es)
  merged-tidy own O b [] agree h q = tt
  merged-tidy own O b (c ∷ cs) agree h q = λ x. at x (is_in x own) refl (is_in x O) refl (joined_at (of_nodes C) P declared T (c ∷ cs) x) refl
    where
      at : (x : ℕ) (t : Bool) → is_in x own ≡ t → (u : Bool) → is_in x O ≡ u → (r : Option ℕ) → joined_at (of_nodes C) P declared T (c ∷ cs) x ≡ r → TidyAt (cond t (cond u (or_free (of_nodes C) P declared T r) 0) (b x)) x
      at x true e true f (Some k) j =
          (truth.joined (T x) (map (λ (d : Insts). d x) (c ∷ cs)) k (is_bound (c x)) (A.all-are S T C declared truth c cs x (agree x (those-in own O x (is_in_true x own e) (is_in_true x O f)))) (λ n. cc) (each-end (c ∷ cs) x h) j).1
      at x true e true f None j = free-tidy P G ends.is_free (T x)
      at x true e false f r j = free-tidy P G ends.is_free (T x)
      at x false e u f r j = q x

  -- branches with what they become
  abbrev Fit : (Q : Type 0) → (n : ℕ) → (Nodes → Scheduled) → Branches ℕ → Type 0
  Fit Q n f (one_breaks e) = Unit {0}
  Fit Q n f (all_run gs es m) = (n ≤ m) × (Q → AlikeIn T first (f gs) → ChangesTidyIn S T (f gs) × EndsTidy es)

  branched-keeps : (Q : Type 0) (n : ℕ) (b : Insts) (v : Option ℕ) (f : Nodes → Scheduled) (own O : List ℕ) (B : Branches ℕ) → (Q → TP b) → Fit Q n f B → Kept Q n (branched (of_nodes C) P declared T v f own O b B)
  branched-keeps Q n b v f own O (one_breaks e) point k = tt
  branched-keeps Q n b v f own O (all_run gs es m) point k =
      kept-unless Q n v negated_binds _
      (λ u. kept-unless Q n (least (differs (of_nodes C) P declared T es) (those_in own O)) branches_differ _
      (λ w. kept-if Q n (merges (of_nodes C) P declared T (those_in own O) es) _ _
      (λ t. one-kept Q n m b (f gs) (merged (of_nodes C) P declared T own O b es) k.0
      (λ q al. (let r = k.1 q al in (r.0, merged-tidy own O b es (λ x i. none-passes (differs (of_nodes C) P declared T es) (those_in own O) x w i) r.1 (point q)))))
      (λ t. tt)))

  -- ---- atoms
  with-tidy : (x i : ℕ) (b : Insts) → TidyAt i x → TP b → TP (with_inst ℕ x i b)
  with-tidy x i b h q z = at (nat_eq z x) (eqb-true z x)
    where
      at : (t : Bool) → (t ≡ true → z ≡ x) → TidyAt (cond t i (b z)) z
      at true e = subst (TidyAt i) (sym (e refl)) h
      at false e = q z

  assigned-tidy : (x y : ℕ) (b : Insts) → T x ≡ T y → TP b → TP (assigned (of_nodes C) P declared T x y b)
  assigned-tidy x y b e q = with-tidy x (b y) (cond (is_state (T y)) (with_inst ℕ y 3 b) b) (subst (Tidy P G (b y)) (sym e) (q y)) (at (is_state (T y)) refl)
    where
      at : (t : Bool) → is_state (T y) ≡ t → TP (cond t (with_inst ℕ y 3 b) b)
      at true s = with-tidy y 3 b (tidy-at-state P G 3 (T y) (state-is (T y) s)) q
      at false s = q

  same-keeps : (x y : ℕ) (n : ℕ) (b : Insts) → T x ≡ T y → Kept (TP b) n (same (of_nodes C) P declared T x y n b)
  same-keeps x y n b e =
      kept-if (TP b) n (is_bound (b x)) _ _
      (λ s. kept-if (TP b) n (is_bound (b y)) _ _ (λ t. kept-if (TP b) n (is_state (T x)) _ _ (λ u. tt) (λ u. one-kept (TP b) n n b (Test x y) (Some b) (le_refl n) (λ q al. (tt, q))))
      (λ t. one-kept (TP b) n n b (Assign y x) (Some (assigned (of_nodes C) P declared T y x b)) (le_refl n) (λ q al. (tt, assigned-tidy y x b (sym e) q))))
      (λ s. kept-if (TP b) n (is_bound (b y)) _ _ (λ t. one-kept (TP b) n n b (Assign x y) (Some (assigned (of_nodes C) P declared T x y b)) (le_refl n) (λ q al. (tt, assigned-tidy x y b e q))) (λ t. tt))

  taken-tidy : (ys is : List ℕ) (b : Insts) → EachTidy P G is (map T ys) → TP b → TP (taken (of_nodes C) P declared T ys is b)
  taken-tidy [] is b h q = q
  taken-tidy (y ∷ ys) [] b h q = q
  taken-tidy (y ∷ ys) (i ∷ is) b h q = taken-tidy ys is (cond (is_bound (b y)) b (with_inst ℕ y i b)) h.1 (at (is_bound (b y)))
    where
      at : (t : Bool) → TP (cond t b (with_inst ℕ y i b))
      at true = q
      at false = with-tidy y i b h.0 q

  insts-of : (ys : List ℕ) (b : Insts) → TP b → PlacesTidy P G ends.names (map b ys) (map T ys)
  insts-of [] b q k lt = absurd (omega (arith, lt))
  insts-of (y ∷ ys) b q zero lt = q y
  insts-of (y ∷ ys) b q (suc k) lt = insts-of ys b q k (omega (arith, lt))

  take-keeps : (x s : ℕ) (ys : List ℕ) (n : ℕ) (b : Insts) → constructor_types P s (T x) ≡ Some (map T ys) → (o : Option (List ℕ)) → IsNarrowed S T (b x) s o → Kept (TP b) n (take (of_nodes C) P declared T x s ys n b o)
  take-keeps x s ys n b e None h = one-kept (TP b) n n b (Take x s ys) None (le_refl n) (λ q al. (tt, tt))
  take-keeps x s ys n b e (Some is) h = at (C.over s is) refl
    where
      at : (o : Option ℕ) → C.over s is ≡ o → Kept (TP b) n (took (of_nodes C) P declared T x s ys is n b o)
      at None f = tt
      at (Some i) f =
          one-kept (TP b) n n b (Take x s ys) (Some (taken (of_nodes C) P declared T ys is (with_inst ℕ x i b))) (le_refl n)
          (λ q al.
          let places = tidy-arguments P G ends.names (b x) s is (T x) (map T ys) h (is-constructor P G ends.names s (T x) (map T ys) e) (q x) in (
            tt,
            taken-tidy ys is (with_inst ℕ x i b) (each-place P G ends.names is (map T ys) places) (with-tidy x i b (tidy-over P G ends.names i s is (T x) (map T ys) (truth.over s i is f) e places) q),
          ))

  built-keeps : (x s : ℕ) (ys : List ℕ) (n : ℕ) (b : Insts) → constructor_types P s (T x) ≡ Some (map T ys) → (o : Option ℕ) → C.over s (map b ys) ≡ o → Kept (TP b) n (built (of_nodes C) P declared T x s ys n b o)
  built-keeps x s ys n b e None f = tt
  built-keeps x s ys n b e (Some i) f =
      one-kept (TP b) n n b (Build x s ys) (Some (with_inst ℕ x i b)) (le_refl n)
      (λ q al. (tt, with-tidy x i b (tidy-over P G ends.names i s (map b ys) (T x) (map T ys) (truth.over s i (map b ys) f) e (insts-of ys b q)) q))

  made-keeps : (x s : ℕ) (ys : List ℕ) (n : ℕ) (b : Insts) → constructor_types P s (T x) ≡ Some (map T ys) → Kept (TP b) n (made (of_nodes C) P declared T x s ys n b)
  made-keeps x s ys n b e =
      kept-if (TP b) n (is_bound (b x)) _ _ (λ t. take-keeps x s ys n b e (C.narrowed (b x) s) (truth.narrowed (b x) s))
      (λ t. kept-if (TP b) n (list_any (λ y. not (is_bound (b y)) || is_state (T y)) ys) _ _ (λ u. tt) (λ u. built-keeps x s ys n b e (C.over s (map b ys)) refl))

  constant-keeps : (x : ℕ) (v : Val) (n : ℕ) (b : Insts) → Kept (TP b) n (constant (of_nodes C) P declared T x v n b)
  constant-keeps x v n b =
      kept-if (TP b) n (is_bound (b x)) _ _ (λ t. one-kept (TP b) n n b (TestConst x v) (cond (C.takes_constants (b x)) (Some b) None) (le_refl n) (λ q al. (tt, at (C.takes_constants (b x)) q)))
      (λ t. one-kept (TP b) n n b (Const x v) (Some (with_inst ℕ x 1 b)) (le_refl n) (λ q al. (tt, with-tidy x 1 b (ground-tidy P G ends.is_ground (T x)) q)))
    where
      at : (t : Bool) → TP b → TidyEnd S T (cond t (Some b) None)
      at true q = q
      at false q = tt

  -- ---- calls
  abbrev FinalsTidy : List Mode → List ℕ → Type 0
  FinalsTidy [] xs = Unit {0}
  FinalsTidy (m ∷ ms) [] = Unit {0}
  FinalsTidy (m ∷ ms) (x ∷ xs) = TidyAt m.1 x × FinalsTidy ms xs

  call-tidy : (f : ℕ → Bool) (ms : List Mode) (xs : List ℕ) (b : Insts) → FinalsTidy ms xs → TP b → TP (after_call (of_nodes C) P declared T f ms xs b)
  call-tidy f [] xs b h q = q
  call-tidy f (m ∷ ms) [] b h q = q
  call-tidy f (m ∷ ms) (x ∷ xs) b h q =
      at (is_bound m.0) (not (is_bound m.1) || f x) (call-tidy f ms xs (input_after (of_nodes C) P declared T m x b) h.1 (input (not (C.is_dead m.1) && C.fits (b x) m.1 (T x)))) (call-tidy f ms xs b h.1 q)
      (call-tidy (λ y. cond (nat_eq y x) true (f y)) ms xs (with_inst ℕ x m.1 b) h.1 (with-tidy x m.1 b h.0 q))
    where
      input : (t : Bool) → TP (cond t b (with_inst ℕ x m.1 b))
      input true = q
      input false = with-tidy x m.1 b h.0 q

      at : (t u : Bool) → TP (after_call (of_nodes C) P declared T f ms xs (input_after (of_nodes C) P declared T m x b)) → TP (after_call (of_nodes C) P declared T f ms xs b) →
          TP (after_call (of_nodes C) P declared T (λ y. cond (nat_eq y x) true (f y)) ms xs (with_inst ℕ x m.1 b)) →
          TP (cond t (after_call (of_nodes C) P declared T f ms xs (input_after (of_nodes C) P declared T m x b)) (cond u (after_call (of_nodes C) P declared T f ms xs b) (after_call (of_nodes C) P declared T (λ y. cond (nat_eq y x) true (f y)) ms xs (with_inst ℕ x m.1 b))))
      at true u p r s = p
      at false true p r s = r
      at false false p r s = s

  each-instance : (σ : ℕ → TypeTerm) (is : List ℕ) (ts : List TypeTerm) → EachTidy P G is ts → EachTidy P G is (map (instance_of σ) ts)
  each-instance σ [] ts h = tt
  each-instance σ (i ∷ is) [] h = tt
  each-instance σ (i ∷ is) (t ∷ ts) h = (tidy-at-instances P G σ i t h.0, each-instance σ is ts h.1)

  zipped-tidy : (is ls xs : List ℕ) → EachTidy P G ls (map T xs) → FinalsTidy (zipped is ls) xs
  zipped-tidy [] ls xs h = tt
  zipped-tidy (i ∷ is) [] xs h = tt
  zipped-tidy (i ∷ is) (l ∷ ls) [] h = tt
  zipped-tidy (i ∷ is) (l ∷ ls) (x ∷ xs) h = (h.0, zipped-tidy is ls xs h.1)

  abbrev CallTyped : ℕ → List ℕ → Type 0
  CallTyped p xs = (σ : ℕ → TypeTerm) × (map T xs ≡ map (instance_of σ) (P.preds p).types)

  procedure-tidy : (p : ℕ) (xs : List ℕ) (d : Declared) → IsDeclared S T p d → CallTyped p xs → FinalsTidy d.modes xs
  procedure-tidy p xs d is c =
      let last : List ℕ = (S.procs d.proc).last in
      let at_pred : EachTidy P G last (P.preds p).types = subst (λ q. EachTidy P G last (P.preds q).types) is.pred (ends.procedures d.proc is.known) in
      subst (λ ms. FinalsTidy ms xs) (sym is.modes) (zipped-tidy (S.procs d.proc).first last xs (subst (EachTidy P G last) (sym c.1) (each-instance c.0 last (P.preds p).types at_pred)))

  abbrev KnownMode : ℕ → Option Declared → Type 0
  KnownMode p None = Unit {0}
  KnownMode p (Some d) = IsDeclared S T p d

  best-known : (p : ℕ) (xs : List ℕ) (b : Insts) (ds : List Declared) → AllDeclared S T p ds → KnownMode p (best (of_nodes C) P declared T ds xs b)
  best-known p xs b [] h = tt
  best-known p xs b (d ∷ ds) h = at (usable (of_nodes C) P declared T xs d.modes xs b) (best (of_nodes C) P declared T ds xs b) (best-known p xs b ds h.1)
    where
      fewer : (t : Bool) (e : Declared) → IsDeclared S T p e → KnownMode p (Some (cond t e d))
      fewer true e k = k
      fewer false e k = h.0

      at : (t : Bool) (r : Option Declared) → KnownMode p r → KnownMode p (cond t (Some (better (of_nodes C) P declared T xs b d r)) r)
      at false r k = k
      at true None k = h.0
      at true (Some e) k = fewer (nat_lt (length (implied_in (of_nodes C) P declared T e.modes xs b)) (length (implied_in (of_nodes C) P declared T d.modes xs b))) e k

  never-tidy : (t : Bool) (c : Insts) → TP c → TidyEnd S T (cond t None (Some c))
  never-tidy true c q = tt
  never-tidy false c q = q

  called-keeps : (p : ℕ) (o : Option Declared) (xs : List ℕ) (n : ℕ) (b : Insts) → KnownMode p o → CallTyped p xs → Kept (TP b) n (called (of_nodes C) P declared T o xs n b)
  called-keeps p None xs n b k c = tt
  called-keeps p (Some d) xs n b k c =
      one-kept (TP b) n n b (Call d.proc xs (implied_in (of_nodes C) P declared T d.modes xs b) false) (cond d.never None (Some (after (of_nodes C) P declared T d.modes xs b))) (le_refl n)
      (λ q al. (tt, never-tidy d.never (after (of_nodes C) P declared T d.modes xs b) (call-tidy (λ x. is_bound (b x)) d.modes xs b (procedure-tidy p xs d k c) q)))

  -- builtins give `ground` values, and states
  plain-tidy : (bs : List Bool) (xs : List ℕ) → FinalsTidy (plain_modes bs) xs
  plain-tidy [] xs = tt
  plain-tidy (t ∷ bs) [] = tt
  plain-tidy (t ∷ bs) (x ∷ xs) = (at t, plain-tidy bs xs)
    where
      at : (t : Bool) → TidyAt (cond t in_mode out_mode).1 x
      at true = ground-tidy P G ends.is_ground (T x)
      at false = ground-tidy P G ends.is_ground (T x)

  states-tidy : (xs : List ℕ) → map T xs ≡ state_type ∷ state_type ∷ [] → FinalsTidy (di_mode ∷ uo_mode ∷ []) xs
  states-tidy [] e = tt
  states-tidy (x ∷ []) e = cc
  states-tidy (x ∷ y ∷ xs) e =
      (tidy-at-state P G 3 (T x) (let q : T x ∷ T y ∷ map T xs ≡ state_type ∷ state_type ∷ [] = e in cc), (tidy-at-state P G 2 (T y) (let q : T x ∷ T y ∷ map T xs ≡ state_type ∷ state_type ∷ [] = e in cc), tt))

  ground-and-states : (m : Mode) (t : TypeTerm) (xs : List ℕ) → m.1 ≡ 1 → map T xs ≡ t ∷ state_type ∷ state_type ∷ [] → FinalsTidy (m ∷ di_mode ∷ uo_mode ∷ []) xs
  ground-and-states m t [] g e = tt
  ground-and-states m t (x ∷ xs) g e =
      (subst (λ i. TidyAt i x) (sym g) (ground-tidy P G ends.is_ground (T x)), states-tidy xs (let q : T x ∷ map T xs ≡ t ∷ state_type ∷ state_type ∷ [] = e in cc))

  builtin-tidy : (K : Library_types) (op : Builtin) (σ : ℕ → TypeTerm) (xs : List ℕ) → map T xs ≡ map (instance_of σ) (builtin_types K op) → FinalsTidy (modes_of op) xs
  builtin-tidy K B.IntPlus σ xs e = plain-tidy (inputs_of B.IntPlus) xs
  builtin-tidy K B.IntMinus σ xs e = plain-tidy (inputs_of B.IntMinus) xs
  builtin-tidy K B.IntTimes σ xs e = plain-tidy (inputs_of B.IntTimes) xs
  builtin-tidy K B.IntQuotient σ xs e = plain-tidy (inputs_of B.IntQuotient) xs
  builtin-tidy K B.IntDiv σ xs e = plain-tidy (inputs_of B.IntDiv) xs
  builtin-tidy K B.IntMod σ xs e = plain-tidy (inputs_of B.IntMod) xs
  builtin-tidy K B.IntRem σ xs e = plain-tidy (inputs_of B.IntRem) xs
  builtin-tidy K B.IntNegate σ xs e = plain-tidy (inputs_of B.IntNegate) xs
  builtin-tidy K B.IntLess σ xs e = plain-tidy (inputs_of B.IntLess) xs
  builtin-tidy K B.IntGreater σ xs e = plain-tidy (inputs_of B.IntGreater) xs
  builtin-tidy K B.IntAtMost σ xs e = plain-tidy (inputs_of B.IntAtMost) xs
  builtin-tidy K B.IntAtLeast σ xs e = plain-tidy (inputs_of B.IntAtLeast) xs
  builtin-tidy K B.StringJoin σ xs e = plain-tidy (inputs_of B.StringJoin) xs
  builtin-tidy K B.StringLength σ xs e = plain-tidy (inputs_of B.StringLength) xs
  builtin-tidy K B.StringCodePoints σ xs e = plain-tidy (inputs_of B.StringCodePoints) xs
  builtin-tidy K B.IntToString σ xs e = plain-tidy (inputs_of B.IntToString) xs
  builtin-tidy K B.CharToString σ xs e = plain-tidy (inputs_of B.CharToString) xs
  builtin-tidy K B.ToCharList σ xs e = plain-tidy (inputs_of B.ToCharList) xs
  builtin-tidy K B.StringToInt σ xs e = plain-tidy (inputs_of B.StringToInt) xs
  builtin-tidy K B.CharToInt σ xs e = plain-tidy (inputs_of B.CharToInt) xs
  builtin-tidy K B.CharFromInt σ xs e = plain-tidy (inputs_of B.CharFromInt) xs
  builtin-tidy K B.CharIsDigit σ xs e = plain-tidy (inputs_of B.CharIsDigit) xs
  builtin-tidy K B.WriteString σ xs e = ground-and-states in_mode string_type xs refl e
  builtin-tidy K B.WriteChar σ xs e = ground-and-states in_mode char_type xs refl e
  builtin-tidy K B.WriteInt σ xs e = ground-and-states in_mode int_type xs refl e
  builtin-tidy K B.Write σ xs e = ground-and-states in_mode (σ 0) xs refl e
  builtin-tidy K B.Nl σ xs e = states-tidy xs e
  builtin-tidy K B.ReadLine σ xs e = ground-and-states out_mode (result_of K string_type) xs refl e
  builtin-tidy K B.Error σ xs e = plain-tidy (inputs_of B.Error) xs

  op-tidy : (p : ℕ) (op : Builtin) (xs zs : List ℕ) → (P.preds p).builtin ≡ Some op → CallTyped p xs → map T zs ≡ map T xs → FinalsTidy (modes_of op) zs
  op-tidy p op xs zs is c e =
      let K = ends.builtins.0 in
      builtin-tidy K op c.0 zs (e ∙ c.1 ∙ ap (λ ts. map (instance_of c.0) ts) (ends.builtins.1 p op is).1)

  -- fresh variables have the types of those for which they stand
  fresh-types : (k : ℕ) (is xs : List ℕ) (n : ℕ) → first ≤ n → AllAlike T first (test_nodes (tests_at k is xs n)) → map T (fresh_at k is xs n) ≡ map T xs
  fresh-types k is [] n le al = refl
  fresh-types k is (x ∷ xs) n le al = at (is_in k is) al (λ h. fresh-types (suc k) is xs (suc n) (omega (arith, le)) h) (λ h. fresh-types (suc k) is xs n le h)
    where
      at : (t : Bool) → AllAlike T first (test_nodes (cond t ((n, x) ∷ tests_at (suc k) is xs (suc n)) (tests_at (suc k) is xs n))) →
          (AllAlike T first (test_nodes (tests_at (suc k) is xs (suc n))) → map T (fresh_at (suc k) is xs (suc n)) ≡ map T xs) → (AllAlike T first (test_nodes (tests_at (suc k) is xs n)) → map T (fresh_at (suc k) is xs n) ≡ map T xs) →
          map T (cond t (n ∷ fresh_at (suc k) is xs (suc n)) (x ∷ fresh_at (suc k) is xs n)) ≡ map T (x ∷ xs)
      at true h f g = ap (λ t. t ∷ map T (fresh_at (suc k) is xs (suc n))) (h.0 le) ∙ ap (λ ts. T x ∷ ts) (f h.1)
      at false h f g = ap (λ ts. T x ∷ ts) (g h)

  tests-tidy : (ts : List (ℕ × ℕ)) → AllChangeTidy S T (test_nodes ts)
  tests-tidy [] = tt
  tests-tidy (t ∷ ts) = ((tt, tt), tests-tidy ts)

  applied-keeps : (is : List ℕ) (p : ℕ) (op : Builtin) (xs : List ℕ) (n : ℕ) (b : Insts) → first ≤ n → (P.preds p).builtin ≡ Some op → CallTyped p xs → Kept (TP b) n (applied_with (of_nodes C) P declared T is op xs n b)
  applied-keeps [] p op xs n b le e c =
      one-kept (TP b) n n b (Apply op (at_inputs (inputs_of op) xs) (at_outputs (inputs_of op) xs)) (cond (is_zero (builtin_most op)) None (Some (after (of_nodes C) P declared T (modes_of op) xs b))) (le_refl n)
      (λ q al. (tt, never-tidy (is_zero (builtin_most op)) (after (of_nodes C) P declared T (modes_of op) xs b) (call-tidy (λ x. is_bound (b x)) (modes_of op) xs b (op-tidy p op xs xs e c refl) q)))
  applied-keeps (i ∷ is) p op xs n b le e c = (omega arith, λ q al. (let end = at q al.1 in (((end-changes (n + length ts) b (Some over) end, tt), tests-tidy ts), end)))
    where
      zs : List ℕ
      zs = fresh_at 0 (i ∷ is) xs n

      ts : List (ℕ × ℕ)
      ts = tests_at 0 (i ∷ is) xs n

      over : Insts
      over = after (of_nodes C) P declared T (modes_of op) zs b

      at : TP b → AllAlike T first (test_nodes ts) → TP over
      at q al = call-tidy (λ x. is_bound (b x)) (modes_of op) zs b (op-tidy p op xs zs e c (fresh-types 0 (i ∷ is) xs n le al)) q

  call-keeps : (o : Option Builtin) (p : ℕ) (xs : List ℕ) (n : ℕ) (b : Insts) → first ≤ n → (P.preds p).builtin ≡ o → CallTyped p xs → Kept (TP b) n (call_of (of_nodes C) P declared T o p xs n b)
  call-keeps None p xs n b le e c = called-keeps p (best (of_nodes C) P declared T (declared p) xs b) xs n b (best-known p xs b (declared p) (known p e)) c
  call-keeps (Some op) p xs n b le e c = kept-if (TP b) n (usable (of_nodes C) P declared T xs (modes_of op) xs b) _ _ (λ u. applied-keeps (implied_in (of_nodes C) P declared T (modes_of op) xs b) p op xs n b le e c) (λ u. tt)

  atom-keeps : (xs : List ℕ) (n : ℕ) (b : Insts) (r : Arranged ℕ) → Kept (TP b) n r → Kept (TP b) n (atom (of_nodes C) P declared T xs b r)
  atom-keeps xs n b r k = kept-if (TP b) n (list_any (λ x. C.is_dead (b x)) xs) _ _ (λ t. tt) (λ t. k)

  -- ---- compound goals
  wrapped-keeps : (Q : Type 0) (n : ℕ) (b : Insts) (f : ℕ → Option Insts → Nodes → Scheduled) (r : Arranged ℕ) → ((m : ℕ) (o : Option Insts) (gs : Nodes) → AlikeIn T first (f m o gs) → AllAlike T first gs) →
      ((m : ℕ) (o : Option Insts) (gs : Nodes) → TidyEnd S T o → AllChangeTidy S T gs → ChangesTidyIn S T (f m o gs)) → Kept Q n r → Kept Q n (wrapped (of_nodes C) f b r)
  wrapped-keeps Q n b f (breaks e) alike tidy k = tt
  wrapped-keeps Q n b f (runs gs o m zs) alike tidy k = one-kept Q n m b (f m o gs) o k.0 (λ q al. (let r = k.1 q (alike m o gs al) in (tidy m o gs r.1 r.0, r.1)))

  negation-keeps : (xs : List ℕ) (n : ℕ) (b : Insts) (r : Arranged ℕ) → Kept (TP b) n r → Kept (TP b) n (negation (of_nodes C) P declared T xs b r)
  negation-keeps xs n b (breaks f) k = tt
  negation-keeps xs n b (runs gs o m zs) k =
      kept-unless (TP b) n (binds (of_nodes C) P declared T xs b o) negated_binds _
      (λ u. one-kept (TP b) n m b (Not (alone (of_nodes C) m b o gs)) (Some b) k.0 (λ q al. (let r = k.1 q (alone-alike m b o gs al) in (alone-tidy m b o gs r.1 r.0, q))))

  -- the then and the else part, behind a condition
  module _ (vs : List ℕ) (n : ℕ) (b : Insts) where
    never-fits : (gs : Nodes) (m : ℕ) → Kept (TP b) n (runs gs None m []) → (r : Arranged ℕ) → Kept (TP b) m r →
        Fit (TP b) n (two_goals (Ite vs (alone (of_nodes C) m b None gs))) (with_branch (unmarked (Conj no_nodes)) None (and_branches (of_nodes C) b r no_branch))
    never-fits gs m k (breaks f) h = tt
    never-fits gs m k (runs hs o j zs) h =
        (le_trans k.0 h.0, λ q al. (let x = k.1 q (alone-alike m b None gs al.0) in let y = h.1 q (alone-alike j b o hs al.2) in ((alone-tidy m b None gs tt x.0, (tt, tt), alone-tidy j b o hs y.1 y.0), with-end-tidy o [] y.1 tt)))

    both-fit : (gs : Nodes) (c : Insts) (m : ℕ) → Kept (TP b) n (runs gs (Some c) m []) → (r : Arranged ℕ) → Kept (TP c) m r → (e : ℕ → Arranged ℕ) → ((j : ℕ) → m ≤ j → Kept (TP b) j (e j)) →
        Fit (TP b) n (two_goals (Ite vs (alone (of_nodes C) m b (Some c) gs))) (and_branches (of_nodes C) c r (λ j. and_branches (of_nodes C) b (e j) no_branch))
    both-fit gs c m k (breaks f) h e he = tt
    both-fit gs c m k (runs hs o j zs) h e he = at (e j) (he j h.0)
      where
        at : (r : Arranged ℕ) → Kept (TP b) j r → Fit (TP b) n (two_goals (Ite vs (alone (of_nodes C) m b (Some c) gs))) (with_branch (alone (of_nodes C) j c o hs) o (and_branches (of_nodes C) b r no_branch))
        at (breaks f) u = tt
        at (runs ks p i us) u = (
          le_trans k.0 (le_trans h.0 u.0),
          (λ q al.
              let x = k.1 q (alone-alike m b (Some c) gs al.0) in
              let y = h.1 x.1 (alone-alike j c o hs al.1) in
              let z = u.1 q (alone-alike i b p ks al.2) in ((alone-tidy m b (Some c) gs x.1 x.0, alone-tidy j c o hs y.1 y.0, alone-tidy i b p ks z.1 z.0), with-end-tidy o (with_end p []) y.1 (with-end-tidy p [] z.1 tt))),
        )

  conditional-keeps : (vs xs own O : List ℕ) (n : ℕ) (b : Insts) (r : Arranged ℕ) (th tk : Trial ℕ) (U V : List ℕ) → first ≤ n → Kept (TP b) n r → Keeps th → Keeps tk →
      Kept (TP b) n (conditional (of_nodes C) P declared T vs xs own O b r (λ m c. th U m c) (λ m. tk V m b))
  conditional-keeps vs xs own O n b (breaks f) th tk U V le k kh kk = tt
  conditional-keeps vs xs own O n b (runs gs None m zs) th tk U V le k kh kk =
      branched-keeps (TP b) n b None (two_goals (Ite vs (alone (of_nodes C) m b None gs))) own O (with_branch (unmarked (Conj no_nodes)) None (and_branches (of_nodes C) b (tk V m b) no_branch)) (λ q. q)
      (never-fits vs n b gs m k (tk V m b) (kk V m b (le_trans le k.0)))
  conditional-keeps vs xs own O n b (runs gs (Some c) m zs) th tk U V le k kh kk =
      branched-keeps (TP b) n b (binds (of_nodes C) P declared T xs b (Some c)) (two_goals (Ite vs (alone (of_nodes C) m b (Some c) gs))) own O (and_branches (of_nodes C) c (th U m c) (λ j. and_branches (of_nodes C) b (tk V j b) no_branch)) (λ q. q)
      (both-fit vs n b gs c m k (th U m c) (kh U m c (le_trans le k.0)) (λ j. tk V j b) (λ j lj. kk V j b (le_trans le (le_trans k.0 lj))))

  disjunction-fits : (n : ℕ) (b : Insts) (B : Branches ℕ) → BranchesKeep (TP b) n B → Fit (TP b) n Disj B
  disjunction-fits n b (one_breaks f) k = tt
  disjunction-fits n b (all_run gs es m) k = k

  mutual
    pub keeps : (g : Flat_goal) → TypedGoal P T g → Keeps (trial (of_nodes C) P declared T g)
    keeps (F.Same x y) ty O n b le = atom-keeps (x ∷ y ∷ []) n b (same (of_nodes C) P declared T x y n b) (same-keeps x y n b ty)
    keeps (F.Made x s ys) ty O n b le = atom-keeps (x ∷ ys) n b (made (of_nodes C) P declared T x s ys n b) (made-keeps x s ys n b ty)
    keeps (F.Is x v) ty O n b le = atom-keeps (x ∷ []) n b (constant (of_nodes C) P declared T x v n b) (constant-keeps x v n b)
    keeps (F.Call p xs) ty O n b le = atom-keeps xs n b (call_of (of_nodes C) P declared T (P.preds p).builtin p xs n b) (call-keeps (P.preds p).builtin p xs n b le refl ty)
    keeps (F.And gs) ty O n b le =
        wrapped-keeps (TP b) n b (λ m o hs. Conj hs) (in_turn (of_nodes C) P declared T (count_flat gs) (trials (of_nodes C) P declared T gs) O n b) (λ m o hs al. al) (λ m o hs e h. h)
        (in-turn-keeps (count_flat gs) (trials (of_nodes C) P declared T gs) (all-keep gs ty) O n b le)
    keeps (F.Or gs) ty O n b le =
        branched-keeps (TP b) n b None Disj (variables_of_all gs) O (each_branch (of_nodes C) (trials (of_nodes C) P declared T gs) O n b) (λ q. q)
        (disjunction-fits n b (each_branch (of_nodes C) (trials (of_nodes C) P declared T gs) O n b) (each-branch-keeps n b (trials (of_nodes C) P declared T gs) O le (all-keep gs ty)))
    keeps (F.If vs g h k) ty O n b le =
        conditional-keeps vs (without (free_in g) vs) (variables_of (F.If vs g h k)) O n b (trial (of_nodes C) P declared T g (O ++ (without (free_in g) vs ++ variables_of h)) n b) (trial (of_nodes C) P declared T h) (trial (of_nodes C) P declared T k) (O ++ variables_of g) O le
        (keeps g ty.0 (O ++ (without (free_in g) vs ++ variables_of h)) n b le) (keeps h ty.1) (keeps k ty.2)
    keeps (F.Not g) ty O n b le = negation-keeps (free_in g) n b (trial (of_nodes C) P declared T g (O ++ free_in g) n b) (keeps g ty (O ++ free_in g) n b le)
    keeps (F.Exists vs g) ty O n b le =
        wrapped-keeps (TP b) n b (λ m o gs. Exists vs (alone (of_nodes C) m b o gs)) (trial (of_nodes C) P declared T g O n b) (λ m o gs al. alone-alike m b o gs al) (λ m o gs e h. alone-tidy m b o gs e h) (keeps g ty O n b le)

    pub all-keep : (gs : Flat_goals) → TypedGoals P T gs → AllKeep (trials (of_nodes C) P declared T gs)
    all-keep no_flat ty = tt
    all-keep (flat_then g gs) ty = (keeps g ty.0, all-keep gs ty.1)

pub orders-stay-tidy : OrdersStayTidy
orders-stay-tidy S T C declared truth known ends g O n b gs o m zs ty q e al = (subst (Kept S T C declared truth known ends n (TidyPoint S T b) n) e (keeps S T C declared truth known ends n g ty O n b (le_refl n))).1 q al

-- ---- where a procedure is entered
pub entry-tidy : (S : System) (T : ℕ → TypeTerm) → S.insts 0 ≡ free → (head first : List ℕ) (ts : List TypeTerm) → map T head ≡ ts → EachTidy S.world.source S.insts first ts → TidyPoint S T (entered head first)
entry-tidy S T fits [] is ts e h x = free-tidy S.world.source S.insts fits (T x)
entry-tidy S T fits (y ∷ ys) [] ts e h x = free-tidy S.world.source S.insts fits (T x)
entry-tidy S T fits (y ∷ ys) (i ∷ is) [] e h x = cc
entry-tidy S T fits (y ∷ ys) (i ∷ is) (t ∷ ts) e h x = at (nat_eq x y) (eqb-true x y) (entry-tidy S T fits ys is ts (let q : T y ∷ map T ys ≡ t ∷ ts = e in cc) h.1 x)
  where
    at : (u : Bool) → (u ≡ true → x ≡ y) → Tidy S.world.source S.insts (entered ys is x) (T x) → Tidy S.world.source S.insts (cond u i (entered ys is x)) (T x)
    at true q r = subst (Tidy S.world.source S.insts i) (sym (ap T (q refl) ∙ (let q : T y ∷ map T ys ≡ t ∷ ts = e in cc))) h.0
    at false q r = r

pub entries-are-tidy : EntriesAreTidy
entries-are-tidy S D p fits f = entry-tidy S (type_of S p) fits.is_free p.head p.first (S.world.source.preds p.pred).types f.head_types f.tidy.0

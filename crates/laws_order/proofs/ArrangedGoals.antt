-- What is arranged over nodes of a graph stands in the relation without marks.
use Rattle.std.proofs.Common.{◌≡◌, ◌≢◌, ℕ, zero, suc, ◌+◌, ◌<◌, ◌≤◌, Bool, true, false, cond, not, nat_lt, ◌&&◌, ◌||◌, List, [], ◌∷◌, ◌++◌, map, length, Option, Some, None, refl, ap, sym, ◌∙◌, subst, ⊎_elim}
use Rattle.std.specs.List.{list_any, list_all}
use Rattle.std.proofs.Math.Nat.{le_trans, le_refl}
use Rattle.mc_program.specs.Values.{Val}
use Rattle.mc_program.specs.Programs.{TypeTerm, Source}
use Rattle.mc_model.specs.Outcomes.{inputs_of}
use Rattle.mc_model.specs.Flat as F
use Rattle.mc_model.specs.Flat.{Flat_goal, Flat_goals, no_flat, flat_then, variables_of, variables_of_all, free_in}
use Rattle.mc_model.specs.Lists.{In, is_in, without}
use Rattle.mc_model.specs.Scheduled.{Node, Scheduled, Conj, Disj, Ite, Not, Exists, Take, TestConst, Call, Apply, Nodes, no_nodes, node_then}
use Rattle.mc_model.specs.Stream.{is_bound}
use Rattle.mc_model.specs.Good.{System}
use Rattle.mc_source.specs.Determinism.{is_zero}
use Rattle.mc_accepted.specs.Inclusion.{Merged}
use Rattle.mc_accepted.specs.Tidy.{EachIsTidy}
use Rattle.mc_accepted.specs.Typing.{TypedGoal, TypedGoals}
use Rattle.mc_accepted.specs.FreshTests.{TestsAlike, AlikeIn, AllAlike}
use Rattle.mc_accepted.specs.Ordered.{Insts, Mode, is_state, also, modes_of, modes_of_procedure, at_inputs, at_outputs, reachable, implied_places, builtin_most, unless_never, NoneDead, Usable, After, Picks, here, there}
use Rattle.mc_accepted.specs.Unmarked.{unmarked}
use Rattle.mc_accepted.specs.Least.{least}
use Rattle.mc_accepted.specs.Arranged.{Declared, Arranged, runs, breaks, Fault, waits, negated_binds, branches_differ, lacks, Waiting, Picked, takes, none_runs, Branches, all_run, one_breaks, alone, nodes_before, two_goals, fresh_at, tests_at, test_nodes, with_fresh, is_there, count_flat, those_in, one, wait, stuck, or_first, variables_of_waiting, picked, pick, behind, goes_on, in_turn, with_end, with_branch, and_branches, each_branch, no_branch, unless, wrapped, atom, same, made, constant, differs, built, took, take, usable, implied_in, better, best, called, applied_with, call_of, joined_at, or_free, merged, merges, branched, conditional, negation, trial, trials}
use Rattle.mc_accepted.specs.Arranged as G
use Rattle.mc_accepted.specs.NodeOracle.{NodeOracle, of_nodes}
use Rattle.mc_accepted.specs.code.Truthful.{AllAre, Truthful, IsNarrowed, IsDeclared, AllDeclared}
use Rattle.mc_accepted.specs.code.Standing as S
use Rattle.mc_accepted.specs.code.Standing.{implied_of, freshened, fresh_tests, Freshly, keeping, fresh_nodes, JoinedOwn, Standing, StandingAll, StandingAny}
use Rattle.mc_program.specs.declared.builtin.Builtin.{Builtin}
use Rattle.mc_source.specs.declared.det.Most.{Most}
use Rattle.mc_source.specs.declared.det.Most.TheVariants.{Zero, One, Many}
use Rattle.laws_order.specs.OrderLaws.{ArrangedStands}
use Rattle.laws_order.specs.Tidying.{EndsTidily, TidyPoint, TidyEnd}
use Rattle.laws_order.proofs.Tidying
use Rattle.laws_order.proofs.Arranging as A
use Rattle.laws_order.proofs.Arranging.{not-both, or-first, or-second, not-false, is-set, is-unset, none-passes, with-fresh, length-fresh, has-tests, those-in, and-first, and-second}
use Rattle.laws_language.proofs.FlatWhole.{in_list, is_in_true}

never-is : (m : Most) (c : Insts) → cond (is_zero m) None (Some c) ≡ unless_never m c
never-is Zero c = refl
never-is One c = refl
never-is Many c = refl

module _ (Y : System) (T : ℕ → TypeTerm) (C : NodeOracle) (declared : ℕ → List Declared) (truth : Truthful Y T C) (known : (p : ℕ) → (Y.world.source.preds p).builtin ≡ None → AllDeclared Y T p (declared p)) (tidily : EndsTidily Y) (first : ℕ) where
  abbrev P : Source
  P = Y.world.source

  -- one goal stands alone, others are a conjunction
  abbrev alone_at : ℕ → Insts → Option Insts → Nodes → Node
  alone_at m b o gs = alone (of_nodes C) m b o gs

  abbrev TP : Insts → Type 0
  TP b = TidyPoint Y T b

  -- what is reached so is tidy
  abbrev Kept : (Q : Type 0) → (n : ℕ) → Arranged ℕ → Type 0
  Kept Q n r = Tidying.Kept Y T C declared truth known tidily first Q n r

  abbrev Keeps : Flat_goal → Type 0
  Keeps g = Tidying.Keeps Y T C declared truth known tidily first (trial (of_nodes C) P declared T g)

  abbrev EndsTidy : List Insts → Type 0
  EndsTidy cs = Tidying.EndsTidy Y T C declared truth known tidily first cs

  alone-alike : (m : ℕ) (b : Insts) (o : Option Insts) (gs : Nodes) → TestsAlike T first (alone_at m b o gs) → AllAlike T first gs
  alone-alike m b o gs al = Tidying.alone-alike Y T C declared truth known tidily first m b o gs al

  -- what a trial that runs gives
  data Goes (O : List ℕ) (n : ℕ) (b : Insts) (g : Flat_goal) : Nodes → Option Insts → ℕ → List ℕ → Type 0 where
    single : {x : Node} {o : Option Insts} {m : ℕ} → Standing Y T O n b g x o m → Goes O n b g (node_then x no_nodes) o m []
    several : {c : Insts} {p : ℕ} {op : Builtin} {xs : List ℕ} → g ≡ F.Call p xs → Freshly Y T n b c p op xs →
        Goes O n b g (fresh_nodes Y T n b c op xs) (Some c) (n + length (fresh_tests Y T n b op xs)) (freshened Y T n b op xs)

  abbrev Good : List ℕ → ℕ → Insts → Flat_goal → Arranged ℕ → Type 0
  Good O n b g (runs gs o m zs) = AllAlike T first gs → Goes O n b g gs o m zs
  Good O n b g (breaks f) = Unit {0}

  good-cond : (O : List ℕ) (n : ℕ) (b : Insts) (g : Flat_goal) (t : Bool) (p q : Arranged ℕ) → (t ≡ true → Good O n b g p) → (t ≡ false → Good O n b g q) → Good O n b g (cond t p q)
  good-cond O n b g true p q f h = f refl
  good-cond O n b g false p q f h = h refl

  -- ---- atoms
  good-same : (O : List ℕ) (n : ℕ) (b : Insts) (x y : ℕ) → NoneDead Y T (x ∷ y ∷ []) b → Good O n b (F.Same x y) (same (of_nodes C) P declared T x y n b)
  good-same O n b x y alive =
      good-cond O n b (F.Same x y) (is_bound (b x)) _ _
      (λ s. good-cond O n b (F.Same x y) (is_bound (b y)) _ _
      (λ t. good-cond O n b (F.Same x y) (is_state (T x)) _ _ (λ e. tt) (λ e al. single (S.test (is-set (b x) s) (is-set (b y) t) e alive)))
      (λ t al. single (S.assign_back (is-unset (b y) t) (is-set (b x) s) (alive.1.0, (alive.0, tt)))))
      (λ s. good-cond O n b (F.Same x y) (is_bound (b y)) _ _ (λ t al. single (S.assign (is-unset (b x) s) (is-set (b y) t) alive)) (λ t. tt))

  good-take : (O : List ℕ) (n : ℕ) (b : Insts) (x s : ℕ) (ys : List ℕ) → NoneDead Y T (x ∷ ys) b → b x ≢ 0 → (r : Option (List ℕ)) → IsNarrowed Y T (b x) s r → Good O n b (F.Made x s ys) (take (of_nodes C) P declared T x s ys n b r)
  good-take O n b x s ys alive set None h = λ al. single (S.take_never set alive h)
  good-take O n b x s ys alive set (Some is) h = at (C.over s is) refl
    where
      at : (r : Option ℕ) → C.over s is ≡ r → Good O n b (F.Made x s ys) (took (of_nodes C) P declared T x s ys is n b r)
      at None e = tt
      at (Some i) e = λ al.
          subst (λ c. Goes O n b (F.Made x s ys) (node_then (keeping Y T n b (Some c) (Take x s ys)) no_nodes) (Some c) n []) (sym (A.took-all Y T C declared truth ys is (also x i b)))
          (single (S.take set alive h (truth.over s i is e)))

  good-made : (O : List ℕ) (n : ℕ) (b : Insts) (x s : ℕ) (ys : List ℕ) → NoneDead Y T (x ∷ ys) b → Good O n b (F.Made x s ys) (made (of_nodes C) P declared T x s ys n b)
  good-made O n b x s ys alive =
      good-cond O n b (F.Made x s ys) (is_bound (b x)) _ _ (λ t. good-take O n b x s ys alive (is-set (b x) t) (C.narrowed (b x) s) (truth.narrowed (b x) s))
      (λ t. good-cond O n b (F.Made x s ys) (list_any (λ y. not (is_bound (b y)) || is_state (T y)) ys) _ _ (λ u. tt) (λ u. at t u (C.over s (map b ys)) refl))
    where
      at : is_bound (b x) ≡ false → list_any (λ y. not (is_bound (b y)) || is_state (T y)) ys ≡ false → (r : Option ℕ) → C.over s (map b ys) ≡ r → Good O n b (F.Made x s ys) (built (of_nodes C) P declared T x s ys n b r)
      at t u None e = tt
      at t u (Some i) e = λ al. single (S.build (is-unset (b x) t) (A.all-bound Y T C declared truth ys b u) (A.none-state Y T C declared truth ys b u) alive.1 (truth.over s i (map b ys) e))

  good-constant : (O : List ℕ) (n : ℕ) (b : Insts) (x : ℕ) (v : Val) → NoneDead Y T (x ∷ []) b → Good O n b (F.Is x v) (constant (of_nodes C) P declared T x v n b)
  good-constant O n b x v alive = good-cond O n b (F.Is x v) (is_bound (b x)) _ _ (λ t. at t (C.takes_constants (b x)) refl) (λ t al. single (S.put (is-unset (b x) t)))
    where
      at : is_bound (b x) ≡ true → (u : Bool) → C.takes_constants (b x) ≡ u → Good O n b (F.Is x v) (one (of_nodes C) b (TestConst x v) (cond u (Some b) None) n)
      at t true e = λ al. single (S.test_constant (is-set (b x) t) alive (truth.constants (b x) e))
      at t false e = λ al. single (S.test_never (is-set (b x) t) alive (truth.no_constants (b x) e))

  -- ---- calls
  abbrev GoodMode : ℕ → List ℕ → Insts → Option Declared → Type 0
  GoodMode p xs b None = Unit {0}
  GoodMode p xs b (Some d) = IsDeclared Y T p d × (usable (of_nodes C) P declared T xs d.modes xs b ≡ true)

  good-mode : (p : ℕ) (xs : List ℕ) (b : Insts) (ds : List Declared) → AllDeclared Y T p ds → GoodMode p xs b (best (of_nodes C) P declared T ds xs b)
  good-mode p xs b [] h = tt
  good-mode p xs b (d ∷ ds) h = at (usable (of_nodes C) P declared T xs d.modes xs b) refl (best (of_nodes C) P declared T ds xs b) (good-mode p xs b ds h.1)
    where
      fewer : (t : Bool) (e : Declared) → usable (of_nodes C) P declared T xs d.modes xs b ≡ true → GoodMode p xs b (Some e) → GoodMode p xs b (Some (cond t e d))
      fewer true e u k = k
      fewer false e u k = (h.0, u)

      at : (t : Bool) → usable (of_nodes C) P declared T xs d.modes xs b ≡ t → (r : Option Declared) → GoodMode p xs b r → GoodMode p xs b (cond t (Some (better (of_nodes C) P declared T xs b d r)) r)
      at false u r k = k
      at true u None k = (h.0, u)
      at true u (Some e) k = fewer (nat_lt (length (implied_in (of_nodes C) P declared T e.modes xs b)) (length (implied_in (of_nodes C) P declared T d.modes xs b))) e u k

  abbrev end_of : List Mode → List ℕ → Insts → Insts
  end_of ms xs b = G.after (of_nodes C) P declared T ms xs b

  abbrev CallStands : List ℕ → ℕ → Insts → List ℕ → (p q : ℕ) → List Mode → Option Insts → Type 0
  CallStands O n b xs p q ms o = Standing Y T O n b (F.Call p xs) (keeping Y T n b o (Call q xs (implied_places 0 ms xs (λ x. is_bound (b x))) false)) o n

  called-as : (O : List ℕ) (n : ℕ) (b : Insts) (xs : List ℕ) (p q : ℕ) (ms : List Mode) (never : Bool) → q < Y.count → (Y.procs q).pred ≡ p → ms ≡ modes_of_procedure (Y.procs q) → never ≡ is_zero (Y.procs q).det.most →
      NoneDead Y T xs b → usable (of_nodes C) P declared T xs ms xs b ≡ true →
      CallStands O n b xs p q ms (cond never None (Some (end_of ms xs b)))
  called-as O n b xs p q ms never below is_pred is_modes is_never alive u =
      subst (λ r. CallStands O n b xs r q ms (cond never None (Some (end_of ms xs b)))) is_pred
      (subst (λ t. CallStands O n b xs (Y.procs q).pred q ms (cond t None (Some (end_of ms xs b)))) (sym is_never)
      (subst (λ ks. CallStands O n b xs (Y.procs q).pred q ks (cond (is_zero (Y.procs q).det.most) None (Some (end_of ks xs b)))) (sym is_modes)
      (subst (λ o. CallStands O n b xs (Y.procs q).pred q (modes_of_procedure (Y.procs q)) o) (sym (never-is (Y.procs q).det.most (end_of (modes_of_procedure (Y.procs q)) xs b)))
      (S.call below uses alive (A.after Y T C declared truth (modes_of_procedure (Y.procs q)) xs b (A.usable-length Y T C declared truth xs (modes_of_procedure (Y.procs q)) xs b uses))))))
    where
      uses : Usable Y T (modes_of_procedure (Y.procs q)) xs b
      uses = A.is-usable Y T C declared truth xs (modes_of_procedure (Y.procs q)) xs b (subst (λ ks. usable (of_nodes C) P declared T xs ks xs b ≡ true) is_modes u)

  good-called : (O : List ℕ) (n : ℕ) (b : Insts) (p : ℕ) (xs : List ℕ) → NoneDead Y T xs b → (r : Option Declared) → GoodMode p xs b r → Good O n b (F.Call p xs) (called (of_nodes C) P declared T r xs n b)
  good-called O n b p xs alive None h = tt
  good-called O n b p xs alive (Some d) h = λ al. single (called-as O n b xs p d.proc d.modes d.never h.0.known h.0.pred h.0.modes h.0.never alive h.1)

  abbrev applying : Builtin → List ℕ → Scheduled
  applying op xs = Apply op (at_inputs (inputs_of op) xs) (at_outputs (inputs_of op) xs)

  abbrev goes_with : List ℕ → ℕ → Insts → ℕ → Builtin → List ℕ → List ℕ → Type 0
  goes_with O n b p op xs ks =
      let zs = fresh_at 0 ks xs n in
      let ts = tests_at 0 ks xs n in
      let o = Some (end_of (modes_of op) zs b) in
      Goes O n b (F.Call p xs) (node_then (keeping Y T (n + length ts) b o (applying op zs)) (test_nodes ts)) o (n + length ts) zs

  good-applied-with : (O : List ℕ) (n : ℕ) (b : Insts) (p : ℕ) (op : Builtin) (xs : List ℕ) → (P.preds p).builtin ≡ Some op → NoneDead Y T xs b → usable (of_nodes C) P declared T xs (modes_of op) xs b ≡ true →
      (is : List ℕ) → implied_of Y T op xs b ≡ is → Good O n b (F.Call p xs) (applied_with (of_nodes C) P declared T is op xs n b)
  good-applied-with O n b p op xs builtin alive u [] e = λ al.
      single (subst (λ o. Standing Y T O n b (F.Call p xs) (keeping Y T n b o (applying op xs)) o n) (sym (never-is (builtin_most op) (end_of (modes_of op) xs b)))
      (S.apply builtin uses alive e (A.after Y T C declared truth (modes_of op) xs b (A.usable-length Y T C declared truth xs (modes_of op) xs b uses))))
    where
      uses : Usable Y T (modes_of op) xs b
      uses = A.is-usable Y T C declared truth xs (modes_of op) xs b u
  good-applied-with O n b p op xs builtin alive u (i ∷ is) e = λ al.
      subst (goes_with O n b p op xs) e
      (several refl (record {
        builtin = builtin;
        usable = uses;
        alive = alive;
        implies = λ f. (let q : i ∷ is ≡ [] = sym e ∙ f in cc);
        after = outs (implied_of Y T op xs b);
      }))
    where
      uses : Usable Y T (modes_of op) xs b
      uses = A.is-usable Y T C declared truth xs (modes_of op) xs b u

      outs : (ks : List ℕ) → After Y T (modes_of op) (fresh_at 0 ks xs n) b (G.after (of_nodes C) P declared T (modes_of op) (fresh_at 0 ks xs n) b)
      outs ks = A.after Y T C declared truth (modes_of op) (fresh_at 0 ks xs n) b (A.usable-length Y T C declared truth xs (modes_of op) xs b uses ∙ sym (length-fresh 0 ks xs n))

  good-call : (O : List ℕ) (n : ℕ) (b : Insts) (p : ℕ) (xs : List ℕ) → NoneDead Y T xs b → (r : Option Builtin) → (P.preds p).builtin ≡ r → Good O n b (F.Call p xs) (call_of (of_nodes C) P declared T r p xs n b)
  good-call O n b p xs alive None e = good-called O n b p xs alive (best (of_nodes C) P declared T (declared p) xs b) (good-mode p xs b (declared p) (known p e))
  good-call O n b p xs alive (Some op) e =
      good-cond O n b (F.Call p xs) (usable (of_nodes C) P declared T xs (modes_of op) xs b) _ _ (λ u. good-applied-with O n b p op xs e alive u (implied_in (of_nodes C) P declared T (modes_of op) xs b) refl) (λ u. tt)

  abbrev Holds : Flat_goal → Type 0
  Holds g = (O : List ℕ) (n : ℕ) (b : Insts) → first ≤ n → TP b → Good O n b g (trial (of_nodes C) P declared T g O n b)

  abbrev AllHold : Flat_goals → Type 0
  AllHold no_flat = Unit {0}
  AllHold (flat_then g gs) = Holds g × Keeps g × AllHold gs

  tests-stand : (m : ℕ) (b : Insts) (o : Option Insts) (a : Node) (ts : List (ℕ × ℕ)) → ts ≢ [] → alone_at m b o (node_then a (test_nodes ts)) ≡ keeping Y T m b o (Conj (node_then a (test_nodes ts)))
  tests-stand m b o a [] ne = absurd (ne refl)
  tests-stand m b o a (t ∷ ts) ne = refl

  alone-is : (O : List ℕ) (n : ℕ) (b : Insts) (g : Flat_goal) {gs : Nodes} {o : Option Insts} {m : ℕ} {zs : List ℕ} → Goes O n b g gs o m zs → Standing Y T O n b g (alone_at m b o gs) o m
  alone-is O n b g (single s) = s
  alone-is O n b g (several {c = c} {p = p} {op = op} {xs = xs} e f) =
      let m : ℕ = n + length (fresh_tests Y T n b op xs) in
      subst (λ h. Standing Y T O n b h (alone_at m b (Some c) (fresh_nodes Y T n b c op xs)) (Some c) m) (sym e)
      (subst (λ k. Standing Y T O n b (F.Call p xs) k (Some c) m)
      (sym (tests-stand m b (Some c) (keeping Y T m b (Some c) (applying op (freshened Y T n b op xs))) (fresh_tests Y T n b op xs)
      (has-tests 0 (modes_of op) xs (λ x. is_bound (b x)) (implied_of Y T op xs b) n (λ j h. h) f.implies)))
      (S.apply_freshly f))

  -- ---- conjunctions
  abbrev waiting : Flat_goals → List (Waiting ℕ)
  waiting gs = trials (of_nodes C) P declared T gs

  abbrev and_goals : Flat_goals → Flat_goals → Flat_goals
  and_goals no_flat gs = gs
  and_goals (flat_then h hs) gs = flat_then h (and_goals hs gs)

  trials-and : (hs gs : Flat_goals) → waiting (and_goals hs gs) ≡ waiting hs ++ waiting gs
  trials-and no_flat gs = refl
  trials-and (flat_then h hs) gs = ap (λ ws. record { variables = variables_of h; trial = trial (of_nodes C) P declared T h } ∷ ws) (trials-and hs gs)

  waiting-variables : (gs : Flat_goals) → variables_of_waiting (waiting gs) ≡ variables_of_all gs
  waiting-variables no_flat = refl
  waiting-variables (flat_then g gs) = ap (λ vs. variables_of g ++ vs) (waiting-variables gs)

  picks-and : (hs : Flat_goals) (g : Flat_goal) (gs : Flat_goals) → Picks (and_goals hs (flat_then g gs)) g (and_goals hs gs)
  picks-and no_flat g gs = here
  picks-and (flat_then h hs) g gs = there (picks-and hs g gs)

  and-assoc : (hs : Flat_goals) (g : Flat_goal) (gs : Flat_goals) → and_goals (and_goals hs (flat_then g no_flat)) gs ≡ and_goals hs (flat_then g gs)
  and-assoc no_flat g gs = refl
  and-assoc (flat_then h hs) g gs = ap (flat_then h) (and-assoc hs g gs)

  others-variables : (hs gs : Flat_goals) → variables_of_waiting (waiting hs ++ waiting gs) ≡ variables_of_all (and_goals hs gs)
  others-variables hs gs = ap variables_of_waiting (sym (trials-and hs gs)) ∙ waiting-variables (and_goals hs gs)

  record Took (O : List ℕ) (n : ℕ) (b : Insts) (all : Flat_goals) (vs : List ℕ) (ws : List (Waiting ℕ)) (ns : Nodes) (o : Option Insts) (m : ℕ) : Type 0 where
    goal : Flat_goal
    rest : Flat_goals
    zs : List ℕ
    picks : Picks all goal rest
    others : ws ≡ waiting rest
    variables : vs ≡ with_fresh (variables_of goal) zs
    goes : AllAlike T first ns → Goes (O ++ variables_of_all rest) n b goal ns o m zs
    kept : Kept (TP b) n (runs ns o m zs)

  abbrev GoodPicked : List ℕ → ℕ → Insts → Flat_goals → Picked ℕ → Type 0
  GoodPicked O n b all (takes vs ws ns o m) = Took O n b all vs ws ns o m
  GoodPicked O n b all (none_runs f) = Unit {0}

  good-or-first : (O : List ℕ) (n : ℕ) (b : Insts) (all : Flat_goals) (f : Fault) (r : Picked ℕ) → GoodPicked O n b all r → GoodPicked O n b all (or_first f r)
  good-or-first O n b all f (takes vs ws ns o m) h = h
  good-or-first O n b all f (none_runs None) h = tt
  good-or-first O n b all f (none_runs (Some (waits k vs))) h = tt
  good-or-first O n b all f (none_runs (Some (negated_binds v))) h = tt
  good-or-first O n b all f (none_runs (Some (branches_differ v))) h = tt
  good-or-first O n b all f (none_runs (Some lacks)) h = tt

  good-picked : (O : List ℕ) (n : ℕ) (b : Insts) (hs : Flat_goals) (g : Flat_goal) (gs : Flat_goals) (r : Arranged ℕ) → Good (O ++ variables_of_waiting (waiting hs ++ waiting gs)) n b g r → Kept (TP b) n r → (later : Picked ℕ) →
      GoodPicked O n b (and_goals hs (flat_then g gs)) later →
      GoodPicked O n b (and_goals hs (flat_then g gs)) (picked (record { variables = variables_of g; trial = trial (of_nodes C) P declared T g }) (waiting hs ++ waiting gs) r later)
  good-picked O n b hs g gs (runs ns o m zs) h t later k =
      record {
        goal = g;
        rest = and_goals hs gs;
        zs = zs;
        picks = picks-and hs g gs;
        others = sym (trials-and hs gs);
        variables = refl;
        goes = λ al. subst (λ us. Goes (O ++ us) n b g ns o m zs) (others-variables hs gs) (h al);
        kept = t;
      }
  good-picked O n b hs g gs (breaks (waits j vs)) h t later k = k
  good-picked O n b hs g gs (breaks (negated_binds v)) h t later k = good-or-first O n b (and_goals hs (flat_then g gs)) (negated_binds v) later k
  good-picked O n b hs g gs (breaks (branches_differ v)) h t later k = good-or-first O n b (and_goals hs (flat_then g gs)) (branches_differ v) later k
  good-picked O n b hs g gs (breaks lacks) h t later k = tt

  good-pick : (O : List ℕ) (n : ℕ) (b : Insts) → first ≤ n → TP b → (hs gs : Flat_goals) → AllHold gs → GoodPicked O n b (and_goals hs gs) (pick (waiting hs) (waiting gs) O n b)
  good-pick O n b le tp hs no_flat hold = tt
  good-pick O n b le tp hs (flat_then g gs) hold =
      good-picked O n b hs g gs (trial (of_nodes C) P declared T g (O ++ variables_of_waiting (waiting hs ++ waiting gs)) n b) (hold.0 (O ++ variables_of_waiting (waiting hs ++ waiting gs)) n b le tp)
      (hold.1 (O ++ variables_of_waiting (waiting hs ++ waiting gs)) n b le)
      (pick (waiting hs ++ record { variables = variables_of g; trial = trial (of_nodes C) P declared T g } ∷ []) (waiting gs) O n b)
      (subst (λ all. GoodPicked O n b all (pick (waiting hs ++ record { variables = variables_of g; trial = trial (of_nodes C) P declared T g } ∷ []) (waiting gs) O n b)) (and-assoc hs g gs)
      (subst (λ vs. GoodPicked O n b (and_goals (and_goals hs (flat_then g no_flat)) gs) (pick vs (waiting gs) O n b)) (trials-and hs (flat_then g no_flat)) (good-pick O n b le tp (and_goals hs (flat_then g no_flat)) gs hold.2)))

  hold-rest : {gs rest : Flat_goals} {g : Flat_goal} → Picks gs g rest → AllHold gs → AllHold rest
  hold-rest here h = h.2
  hold-rest (there p) h = (h.0, h.1, hold-rest p h.2)

  count-rest : {gs rest : Flat_goals} {g : Flat_goal} → Picks gs g rest → count_flat gs ≡ suc (count_flat rest)
  count-rest here = refl
  count-rest (there p) = ap suc (count-rest p)

  abbrev GoodAll : List ℕ → ℕ → Insts → Flat_goals → Arranged ℕ → Type 0
  GoodAll O n b gs (runs ns o m zs) = AllAlike T first ns → StandingAll Y T O n b gs ns o m
  GoodAll O n b gs (breaks f) = Unit {0}

  abbrev Dropped : List ℕ → ℕ → Insts → Flat_goals → Nodes → Option Insts → ℕ → Type 0
  Dropped O n b gs ns None m = StandingAll Y T O n b gs ns None m
  Dropped O n b gs ns (Some c) m = Unit {0}

  drop-rest : (O : List ℕ) (n : ℕ) (b : Insts) {gs rest : Flat_goals} {g : Flat_goal} {ns : Nodes} {o : Option Insts} {m : ℕ} {zs : List ℕ} → Picks gs g rest → Goes (O ++ variables_of_all rest) n b g ns o m zs → Dropped O n b gs ns o m
  drop-rest O n b p (single {o = None} s) = S.dropped p s
  drop-rest O n b p (single {o = Some c} s) = tt
  drop-rest O n b p (several e f) = tt

  abbrev Nexts : List ℕ → ℕ → Insts → Flat_goals → Flat_goals → Flat_goal → Nodes → Option Insts → ℕ → List ℕ → Type 0
  Nexts O n b gs rest g ns None m zs = Unit {0}
  Nexts O n b gs rest g ns (Some c) m zs = (hs : Nodes) (o : Option Insts) (k : ℕ) → StandingAll Y T (O ++ with_fresh (variables_of g) zs) m c rest hs o k → StandingAll Y T O n b gs (nodes_before ns hs) o k

  next-one : (O : List ℕ) (n : ℕ) (b : Insts) {gs rest : Flat_goals} {g : Flat_goal} {ns : Nodes} {o : Option Insts} {m : ℕ} {zs : List ℕ} → Picks gs g rest → Goes (O ++ variables_of_all rest) n b g ns o m zs → Nexts O n b gs rest g ns o m zs
  next-one O n b p (single {o = None} s) = tt
  next-one O n b p (single {o = Some c} s) = λ hs o k r. S.next p s r
  next-one O n b {gs = gs} {rest = rest} p (several {c = c} {p = q} {op = op} {xs = xs} e f) = λ hs o k r.
      S.implied_outputs (subst (λ h. Picks gs h rest) e p) f
      (subst (λ us. StandingAll Y T (O ++ us) (n + length (fresh_tests Y T n b op xs)) c rest hs o k)
      (ap (λ h. with_fresh (variables_of h) (freshened Y T n b op xs)) e ∙ with-fresh xs (freshened Y T n b op xs)) r)

  abbrev Turns : ℕ → Type 0
  Turns k = (gs : Flat_goals) (O : List ℕ) (n : ℕ) (b : Insts) → first ≤ n → TP b → AllHold gs → count_flat gs ≡ k → GoodAll O n b gs (in_turn (of_nodes C) P declared T k (waiting gs) O n b)

  turn-on : (k : ℕ) → Turns k → (gs : Flat_goals) (O : List ℕ) (n : ℕ) (b : Insts) → first ≤ n → TP b → AllHold gs → count_flat gs ≡ suc k → (f : Fault) (r : Picked ℕ) → GoodPicked O n b gs r →
      GoodAll O n b gs (goes_on f r (λ vs rest m c. in_turn (of_nodes C) P declared T k rest (O ++ vs) m c))
  turn-on k again gs O n b le tp hold e f (none_runs None) h = tt
  turn-on k again gs O n b le tp hold e f (none_runs (Some f')) h = tt
  turn-on k again gs O n b le tp hold e f (takes vs ws ns None m) h = λ al. drop-rest O n b h.picks (h.goes al)
  turn-on k again gs O n b le tp hold e f (takes vs ws ns (Some c) m) h = at (in_turn (of_nodes C) P declared T k ws (O ++ vs) m c)
      (λ tc. subst (λ us. GoodAll (O ++ with_fresh (variables_of h.goal) h.zs) m c h.rest (in_turn (of_nodes C) P declared T k ws (O ++ us) m c)) (sym h.variables)
      (subst (λ us. GoodAll (O ++ with_fresh (variables_of h.goal) h.zs) m c h.rest (in_turn (of_nodes C) P declared T k us (O ++ with_fresh (variables_of h.goal) h.zs) m c)) (sym h.others)
      (again h.rest (O ++ with_fresh (variables_of h.goal) h.zs) m c (le_trans le h.kept.0) tc (hold-rest h.picks hold)
      (let q : suc (count_flat h.rest) ≡ suc k = sym (count-rest h.picks) ∙ e in cc))))
    where
      at : (r : Arranged ℕ) → (TP c → GoodAll (O ++ with_fresh (variables_of h.goal) h.zs) m c h.rest r) → GoodAll O n b gs (behind ns r)
      at (breaks f) k = tt
      at (runs hs o j zs) k = λ al.
          let both = Tidying.both-alike Y T C declared truth known tidily first ns hs al in
          next-one O n b h.picks (h.goes both.0) hs o j (k (h.kept.1 tp both.0).1 both.1)

  turns : (k : ℕ) → Turns k
  turns zero no_flat O n b le tp hold e = λ al. S.done
  turns zero (flat_then g gs) O n b le tp hold e = cc
  turns (suc k) gs O n b le tp hold e = turn-on k (turns k) gs O n b le tp hold e (stuck (of_nodes C) P declared T (waiting gs) b) (pick [] (waiting gs) O n b) (good-pick O n b le tp no_flat gs hold)

  conjunction-holds : (gs : Flat_goals) → AllHold gs → Holds (F.And gs)
  conjunction-holds gs hold O n b le tp = at (in_turn (of_nodes C) P declared T (count_flat gs) (waiting gs) O n b) (turns (count_flat gs) gs O n b le tp hold refl)
    where
      at : (r : Arranged ℕ) → GoodAll O n b gs r → Good O n b (F.And gs) (wrapped (of_nodes C) (λ m o hs. Conj hs) b r)
      at (breaks f) h = tt
      at (runs ns o m zs) h = λ al. single (S.conj (h al.0))

  -- ---- branches
  abbrev insts_at : List Insts → ℕ → List ℕ
  insts_at cs x = map (λ (c : Insts). c x) cs

  abbrev ends_differ : List Insts → ℕ → Bool
  ends_differ ends x = differs (of_nodes C) P declared T ends x

  each-passes : (f : ℕ → Bool) (O : List ℕ) → list_all f O ≡ true → (x : ℕ) → In x O → f x ≡ true
  each-passes f [] e x i = absurd i
  each-passes f (y ∷ O) e x i = ⊎_elim (λ q. ap f q ∙ and-first (f y) _ e) (λ j. each-passes f O (and-second (f y) _ e) x j) i

  merged-there : (t : TypeTerm) (is : List ℕ) (all : Bool) → AllAre all is → is ≢ [] → (r : Option ℕ) → C.joined t is ≡ r → is_there r ≡ true → EachIsTidy P Y.insts is t → Merged P Y.insts is (or_free (of_nodes C) P declared T r) t
  merged-there t is all a ne None e h d = cc
  merged-there t is all a ne (Some k) e h d = (truth.joined t is k all a ne d e).0

  abbrev merged_of : List ℕ → List ℕ → Insts → List Insts → Option Insts
  merged_of own O b ends = merged (of_nodes C) P declared T own O b ends

  abbrev joined_here : List Insts → ℕ → Option ℕ
  joined_here ends x = joined_at (of_nodes C) P declared T ends x

  is-nothing : (x : ℕ) (xs : List ℕ) → is_in x xs ≡ false → In x xs → ⊥
  is-nothing x xs e i = not-both (is_in x xs) (in_list x xs i) e

  abbrev inst_after : List Insts → Insts → ℕ → Bool → Bool → ℕ
  inst_after ends b x t u = cond t (cond u (or_free (of_nodes C) P declared T (joined_here ends x)) 0) (b x)

  joined-is : (own O : List ℕ) (b : Insts) (ends : List Insts) → ((x : ℕ) → In x (those_in own O) → ends_differ ends x ≡ false) → EndsTidy ends → merges (of_nodes C) P declared T (those_in own O) ends ≡ true → JoinedOwn Y T own O b ends (merged_of own O b ends)
  joined-is own O b [] agree tidy there_all = refl
  joined-is own O b (c ∷ cs) agree tidy there_all = λ x. at x (is_in x own) refl (is_in x O) refl
    where
      at : (x : ℕ) (t : Bool) → is_in x own ≡ t → (u : Bool) → is_in x O ≡ u →
          (In x own → In x O → Merged P Y.insts (insts_at (c ∷ cs) x) (inst_after (c ∷ cs) b x t u) (T x)) × (In x own → (In x O → ⊥) → inst_after (c ∷ cs) b x t u ≡ 0) × ((In x own → ⊥) → inst_after (c ∷ cs) b x t u ≡ b x)
      at x true p true q = (
        (λ i j. merged-there (T x) (insts_at (c ∷ cs) x) (is_bound (c x)) (A.all-are Y T C declared truth c cs x (agree x (those-in own O x i j))) (λ e. cc) (joined_here (c ∷ cs) x) refl
            (each-passes (λ y. is_there (joined_here (c ∷ cs) y)) (those_in own O) there_all x (those-in own O x i j)) (Tidying.each-end Y T C declared truth known tidily first (c ∷ cs) x tidy)),
        (λ i off. absurd (off (is_in_true x O q))),
        (λ off. absurd (off (is_in_true x own p))),
      )
      at x true p false q = ((λ i j. absurd (is-nothing x O q j)), (λ i off. refl), (λ off. absurd (off (is_in_true x own p))))
      at x false p u q = ((λ i. absurd (is-nothing x own p i)), (λ i. absurd (is-nothing x own p i)), (λ off. refl))

  -- the branches of a disjunction
  abbrev GoodBranches : List ℕ → ℕ → Insts → Flat_goals → Branches ℕ → Type 0
  GoodBranches O n b gs (one_breaks f) = Unit {0}
  GoodBranches O n b gs (all_run ns ends m) = AllAlike T first ns → (os : List (Option Insts)) × StandingAny Y T O n b gs ns os m × (reachable os ≡ ends)

  ends-are : (o : Option Insts) (os : List (Option Insts)) (ends : List Insts) → reachable os ≡ ends → reachable (o ∷ os) ≡ with_end o ends
  ends-are None os ends e = e
  ends-are (Some c) os ends e = ap (λ cs. c ∷ cs) e

  branch-on : (O : List ℕ) (n m : ℕ) (b : Insts) (g : Flat_goal) (gs : Flat_goals) (x : Node) (o : Option Insts) → (TestsAlike T first x → Standing Y T O n b g x o m) → (B : Branches ℕ) → GoodBranches O m b gs B → GoodBranches O n b (flat_then g gs) (with_branch x o B)
  branch-on O n m b g gs x o s (one_breaks f) h = tt
  branch-on O n m b g gs x o s (all_run ns ends j) h = λ al. (let r = h al.1 in (o ∷ r.0, S.either (s al.0) r.1, ends-are o r.0 ends r.2))

  branches-hold : (gs : Flat_goals) (O : List ℕ) (n : ℕ) (b : Insts) → first ≤ n → TP b → AllHold gs → GoodBranches O n b gs (each_branch (of_nodes C) (waiting gs) O n b)
  branches-hold no_flat O n b le tp hold = λ al. ([], S.no_other, refl)
  branches-hold (flat_then g gs) O n b le tp hold = at (trial (of_nodes C) P declared T g O n b) (hold.0 O n b le tp) (hold.1 O n b le) (λ m lm. branches-hold gs O m b (le_trans le lm) tp hold.2)
    where
      at : (r : Arranged ℕ) → Good O n b g r → Kept (TP b) n r → ((m : ℕ) → n ≤ m → GoodBranches O m b gs (each_branch (of_nodes C) (waiting gs) O m b)) → GoodBranches O n b (flat_then g gs) (and_branches (of_nodes C) b r (λ m. each_branch (of_nodes C) (waiting gs) O m b))
      at (breaks f) h t rest = tt
      at (runs hs o m zs) h t rest = branch-on O n m b g gs (alone_at m b o hs) o (λ al. alone-is O n b g (h (alone-alike m b o hs al))) (each_branch (of_nodes C) (waiting gs) O m b) (rest m t.0)

  abbrev EndsGood : (own O : List ℕ) → ℕ → Insts → Flat_goal → Option ℕ → (Nodes → Scheduled) → Branches ℕ → Type 0
  EndsGood own O n b g v f (one_breaks e) = Unit {0}
  EndsGood own O n b g v f (all_run ns ends m) = AlikeIn T first (f ns) → EndsTidy ends × (v ≡ None → (o : Option Insts) → JoinedOwn Y T own O b ends o → Standing Y T O n b g (keeping Y T m b o (f ns)) o m)

  good-branched : (own O : List ℕ) (n : ℕ) (b : Insts) (g : Flat_goal) (v : Option ℕ) (f : Nodes → Scheduled) (B : Branches ℕ) → EndsGood own O n b g v f B → Good O n b g (branched (of_nodes C) P declared T v f own O b B)
  good-branched own O n b g v f (one_breaks e) h = tt
  good-branched own O n b g (Some v) f (all_run ns ends m) h = tt
  good-branched own O n b g None f (all_run ns ends m) h = at (least (ends_differ ends) (those_in own O)) refl
    where
      at : (r : Option ℕ) → least (ends_differ ends) (those_in own O) ≡ r → Good O n b g (unless r branches_differ (cond (merges (of_nodes C) P declared T (those_in own O) ends) (one (of_nodes C) b (f ns) (merged_of own O b ends) m) (breaks lacks)))
      at (Some x) e = tt
      at None e =
          good-cond O n b g (merges (of_nodes C) P declared T (those_in own O) ends) _ _
          (λ q al. (let k = h al.0 in single (k.1 refl (merged_of own O b ends) (joined-is own O b ends (λ x i. none-passes (ends_differ ends) (those_in own O) x e i) k.0 q)))) (λ q. tt)

  disjunction-holds : (gs : Flat_goals) → AllHold gs → ((O : List ℕ) (n : ℕ) (b : Insts) → first ≤ n → Tidying.BranchesKeep Y T C declared truth known tidily first (TP b) n (each_branch (of_nodes C) (waiting gs) O n b)) → Holds (F.Or gs)
  disjunction-holds gs hold keep O n b le tp =
      good-branched (variables_of_all gs) O n b (F.Or gs) None Disj (each_branch (of_nodes C) (waiting gs) O n b) (at (each_branch (of_nodes C) (waiting gs) O n b) (branches-hold gs O n b le tp hold) (keep O n b le))
    where
      at : (B : Branches ℕ) → GoodBranches O n b gs B → Tidying.BranchesKeep Y T C declared truth known tidily first (TP b) n B → EndsGood (variables_of_all gs) O n b (F.Or gs) None Disj B
      at (one_breaks f) h k = tt
      at (all_run ns ends m) h k = λ al. ((k.1 tp al).1, λ v o j. (let r = h al in S.disj r.1 (subst (λ es. JoinedOwn Y T (variables_of_all gs) O b es o) (sym r.2) j)))

  abbrev bound_now : List ℕ → Insts → Insts → Option ℕ
  bound_now xs b c = least (λ x. not (is_bound (b x)) && is_bound (c x)) xs

  negation-holds : (g : Flat_goal) → Holds g → Holds (F.Not g)
  negation-holds g hold O n b le tp = at (trial (of_nodes C) P declared T g (O ++ free_in g) n b) (hold (O ++ free_in g) n b le tp)
    where
      at : (r : Arranged ℕ) → Good (O ++ free_in g) n b g r → Good O n b (F.Not g) (negation (of_nodes C) P declared T (free_in g) b r)
      at (breaks f) h = tt
      at (runs gs None m zs) h = λ al. single (S.neg (alone-is (O ++ free_in g) n b g (h (alone-alike m b None gs al.0))) tt)
      at (runs gs (Some c) m zs) h = on (bound_now (free_in g) b c) refl
        where
          on : (r : Option ℕ) → bound_now (free_in g) b c ≡ r → Good O n b (F.Not g) (unless r negated_binds (one (of_nodes C) b (Not (alone_at m b (Some c) gs)) (Some b) m))
          on (Some x) e = tt
          on None e = λ al. single (S.neg (alone-is (O ++ free_in g) n b g (h (alone-alike m b (Some c) gs al.0))) (A.none-bound Y T C declared truth (free_in g) b c e))

  some-holds : (vs : List ℕ) (g : Flat_goal) → Holds g → Holds (F.Exists vs g)
  some-holds vs g hold O n b le tp = at (trial (of_nodes C) P declared T g O n b) (hold O n b le tp)
    where
      at : (r : Arranged ℕ) → Good O n b g r → Good O n b (F.Exists vs g) (wrapped (of_nodes C) (λ m o gs. Exists vs (alone_at m b o gs)) b r)
      at (breaks f) h = tt
      at (runs gs o m zs) h = λ al. single (S.some (alone-is O n b g (h (alone-alike m b o gs al.0))))

  two-ends : (o p : Option Insts) → reachable (o ∷ p ∷ []) ≡ with_end o (with_end p [])
  two-ends o p = ends-are o (p ∷ []) (with_end p []) (ends-are p [] [] refl)

  with-end-tidy : (o : Option Insts) (es : List Insts) → TidyEnd Y T o → EndsTidy es → EndsTidy (with_end o es)
  with-end-tidy o es h k = Tidying.with-end-tidy Y T C declared truth known tidily first o es h k

  -- ---- conditions
  module _ (vs : List ℕ) (g h k : Flat_goal) (O : List ℕ) (n : ℕ) (b : Insts) (le : first ≤ n) (tp : TP b) where
    abbrev own : List ℕ
    own = variables_of (F.If vs g h k)

    abbrev free_here : List ℕ
    free_here = without (free_in g) vs

    abbrev beside : List ℕ
    beside = O ++ (free_here ++ variables_of h)

    abbrev whole : Flat_goal
    whole = F.If vs g h k

    abbrev else_at : ℕ → Arranged ℕ
    else_at j = trial (of_nodes C) P declared T k O j b

    abbrev then_at : ℕ → Insts → Arranged ℕ
    then_at m c = trial (of_nodes C) P declared T h (O ++ variables_of g) m c

    -- the else part alone, and behind the then part
    abbrev else_branch : Arranged ℕ → Branches ℕ
    else_branch r = and_branches (of_nodes C) b r no_branch

    abbrev with_else : Insts → Arranged ℕ → Branches ℕ
    with_else c r = and_branches (of_nodes C) c r (λ j. else_branch (else_at j))

    never-ends : (gs : Nodes) (m : ℕ) → (AllAlike T first gs → Standing Y T beside n b g (alone_at m b None gs) None m) → (r : Arranged ℕ) → Good O m b k r → Kept (TP b) m r →
        EndsGood own O n b whole None (two_goals (Ite vs (alone_at m b None gs))) (with_branch (unmarked (Conj no_nodes)) None (else_branch r))
    never-ends gs m s (breaks f) q t = tt
    never-ends gs m s (runs hs o j zs) q t = λ al.
        let y = alone-alike j b o hs al.2 in (
          with-end-tidy o [] (t.1 tp y).1 tt,
          (λ v e w. S.ite_never (s (alone-alike m b None gs al.0)) (alone-is O m b k (q y)) (subst (λ es. JoinedOwn Y T own O b es e) (sym (ends-are o [] [] refl)) w)),
        )

    ends : (gs : Nodes) (c : Insts) (m : ℕ) → (AllAlike T first gs → Standing Y T beside n b g (alone_at m b (Some c) gs) (Some c) m) → (AllAlike T first gs → TP c) → (r : Arranged ℕ) → (TP c → Good (O ++ variables_of g) m c h r) → Kept (TP c) m r →
        ((j : ℕ) → m ≤ j → Good O j b k (else_at j)) → ((j : ℕ) → m ≤ j → Kept (TP b) j (else_at j)) →
        EndsGood own O n b whole (bound_now free_here b c) (two_goals (Ite vs (alone_at m b (Some c) gs))) (with_else c r)
    ends gs c m s tc (breaks f) q t e ke = tt
    ends gs c m s tc (runs hs o j zs) q t e ke = at (else_at j) (e j t.0) (ke j t.0)
      where
        at : (r : Arranged ℕ) → Good O j b k r → Kept (TP b) j r → EndsGood own O n b whole (bound_now free_here b c) (two_goals (Ite vs (alone_at m b (Some c) gs))) (with_branch (alone_at j c o hs) o (else_branch r))
        at (breaks f) u w = tt
        at (runs ks p i us) u kk = λ al.
            let x = alone-alike m b (Some c) gs al.0 in
            let y = alone-alike j c o hs al.1 in
            let z = alone-alike i b p ks al.2 in (
              with-end-tidy o (with_end p []) (t.1 (tc x) y).1 (with-end-tidy p [] (kk.1 tp z).1 tt),
              (λ v d w.
                  S.ite (s x) (A.none-bound Y T C declared truth free_here b c v) (alone-is (O ++ variables_of g) m c h (q (tc x) y)) (alone-is O j b k (u z)) (subst (λ es. JoinedOwn Y T own O b es d) (sym (two-ends o p)) w)),
            )

    condition-holds : Holds h → Keeps h → Holds k → Keeps k → (r : Arranged ℕ) → Good beside n b g r → Kept (TP b) n r → Good O n b whole (conditional (of_nodes C) P declared T vs free_here own O b r then_at else_at)
    condition-holds hh kh hk kk (breaks f) q t = tt
    condition-holds hh kh hk kk (runs gs None m zs) q t =
        good-branched own O n b whole None (two_goals (Ite vs (alone_at m b None gs))) (with_branch (unmarked (Conj no_nodes)) None (else_branch (else_at m)))
        (never-ends gs m (λ al. alone-is beside n b g (q al)) (else_at m) (hk O m b (le_trans le t.0) tp) (kk O m b (le_trans le t.0)))
    condition-holds hh kh hk kk (runs gs (Some c) m zs) q t =
        good-branched own O n b whole (bound_now free_here b c) (two_goals (Ite vs (alone_at m b (Some c) gs))) (with_else c (then_at m c))
        (ends gs c m (λ al. alone-is beside n b g (q al)) (λ al. (t.1 tp al).1) (then_at m c) (λ tc. hh (O ++ variables_of g) m c (le_trans le t.0) tc) (kh (O ++ variables_of g) m c (le_trans le t.0))
        (λ j lj. hk O j b (le_trans le (le_trans t.0 lj)) tp) (λ j lj. kk O j b (le_trans le (le_trans t.0 lj))))

  good-atom : (O : List ℕ) (n : ℕ) (b : Insts) (g : Flat_goal) (xs : List ℕ) (r : Arranged ℕ) → (NoneDead Y T xs b → Good O n b g r) → Good O n b g (atom (of_nodes C) P declared T xs b r)
  good-atom O n b g xs r f = good-cond O n b g (list_any (λ x. C.is_dead (b x)) xs) (wait (of_nodes C) P declared T xs b) r (λ e. tt) (λ e. f (A.none-dead Y T C declared truth xs b e))

  keeps : (g : Flat_goal) → TypedGoal P T g → Keeps g
  keeps g ty = Tidying.keeps Y T C declared truth known tidily first g ty

  mutual
    holds : (g : Flat_goal) → TypedGoal P T g → Holds g
    holds (F.Same x y) ty O n b le tp = good-atom O n b (F.Same x y) (x ∷ y ∷ []) _ (good-same O n b x y)
    holds (F.Made x s ys) ty O n b le tp = good-atom O n b (F.Made x s ys) (x ∷ ys) _ (good-made O n b x s ys)
    holds (F.Is x v) ty O n b le tp = good-atom O n b (F.Is x v) (x ∷ []) _ (good-constant O n b x v)
    holds (F.Call p xs) ty O n b le tp = good-atom O n b (F.Call p xs) xs _ (λ alive. good-call O n b p xs alive (P.preds p).builtin refl)
    holds (F.And gs) ty O n b le tp = conjunction-holds gs (all-hold gs ty) O n b le tp
    holds (F.Or gs) ty O n b le tp =
        disjunction-holds gs (all-hold gs ty) (λ O n b le. Tidying.each-branch-keeps Y T C declared truth known tidily first n b (waiting gs) O le (Tidying.all-keep Y T C declared truth known tidily first gs ty)) O n b le tp
    holds (F.If vs g h k) ty O n b le tp =
        condition-holds vs g h k O n b le tp (holds h ty.1) (keeps h ty.1) (holds k ty.2) (keeps k ty.2) (trial (of_nodes C) P declared T g (O ++ (without (free_in g) vs ++ variables_of h)) n b)
        (holds g ty.0 (O ++ (without (free_in g) vs ++ variables_of h)) n b le tp) (keeps g ty.0 (O ++ (without (free_in g) vs ++ variables_of h)) n b le)
    holds (F.Not g) ty O n b le tp = negation-holds g (holds g ty) O n b le tp
    holds (F.Exists vs g) ty O n b le tp = some-holds vs g (holds g ty) O n b le tp

    all-hold : (gs : Flat_goals) → TypedGoals P T gs → AllHold gs
    all-hold no_flat ty = tt
    all-hold (flat_then g gs) ty = (holds g ty.0, keeps g ty.0, all-hold gs ty.1)

pub arranged-stands : ArrangedStands
arranged-stands S T C declared truth known tidily g O n b gs o m zs ty tp e al =
    alone-is S T C declared truth known tidily n O n b g (subst (Good S T C declared truth known tidily n O n b g) e (holds S T C declared truth known tidily n g ty O n b (le_refl n) tp) al)

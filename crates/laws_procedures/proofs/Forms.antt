-- The switch forms that bodies have in the last procedures are those of tidy orders.
use Rattle.std.proofs.Common.{◌≡◌, inl, inr, ℕ, zero, suc, ◌+◌, ◌<◌, ◌≤◌, Bool, true, false, cond, List, [], ◌∷◌, ◌++◌, length, get_or, Option, refl, sym, ap, ◌∙◌, subst, arith}
use Rattle.std.proofs.lemmas.List.{length-map, get_or-map}
use Rattle.mc_source.specs.Determinism.{is_zero}
use Rattle.mc_source.specs.declared.det.Det.{Det}
use Rattle.mc_program.specs.Values.{Val}
use Rattle.mc_program.specs.Programs.{TypeTerm}
use Rattle.mc_program.specs.PlainPrograms.{plain_program, plain_type}
use Rattle.mc_program.specs.declared.builtin.Builtin.{Builtin}
use Rattle.mc_program.specs.declared.program.Program.{Program}
use Rattle.mc_model.specs.Flat.{Flat_goal, Flat_goals, variables_of}
use Rattle.mc_model.specs.Lists.{In, is_in}
use Rattle.mc_model.specs.Good.{System}
use Rattle.mc_model.specs.Outcomes.{Outcome}
use Rattle.mc_model.specs.PlainGoals.{plain_node, plain_proc}
use Rattle.mc_model.specs.Scheduled.{Node, node, Scheduled, Conj, Disj, Switch, Ite, Not, Exists, Assign, Test, Build, Take, Const, TestConst, Call, Apply, Nodes, no_nodes, node_then, Arms, no_arms, arm_then}
use Rattle.mc_model.specs.declared.sched.GoalNode.{GoalNode}
use Rattle.mc_model.specs.declared.sched.Proc.{Proc}
use Rattle.mc_accepted.specs.Accepted.{entered}
use Rattle.mc_accepted.specs.Arranged.{nodes_before, tests_at, test_nodes}
use Rattle.mc_accepted.specs.Fits.{goal_of}
use Rattle.mc_accepted.specs.Inferred.{Closed, system_of}
use Rattle.mc_accepted.specs.MergedArms.{ArmsMerge}
use Rattle.mc_accepted.specs.Ordered.{Insts, variables_of_node, variables_of_scheduled, variables_of_nodes, variables_of_arms}
use Rattle.mc_accepted.specs.Switched.{Kept, formed}
use Rattle.mc_accepted.specs.code.Standing.{implied_of, fresh_nodes, fresh_tests, Standing, StandingAll, StandingAny, assign, assign_back, test, build, take, take_never, put, test_constant, test_never, call, apply, apply_freshly, conj, disj, ite, ite_never, neg, some, done, dropped, next, implied_outputs, no_other, either}
use Rattle.mc_insts.specs.declared.insts.Insts as I
use Rattle.mc_insts.specs.Graphs.{graph_of, count_of}
use Rattle.mc_procs.specs.Named.{Bounds, NumbersBelow, Named, NamedIn, EachNamed, EachArmNamed}
use Rattle.mc_procs.specs.Fitting.{AllFit, ProcedureFits, bounds_of}
use Rattle.mc_procs.specs.Procedures.{PlainProcs, source_of, insts_of, with_insts, procedure_at, no_procedure}
use Rattle.mc_procs.specs.VariableTypes.{type_in}
use Rattle.mc_mode_state.specs.Nodes.{StoodFor}
use Rattle.mc_det.specs.Determinisms.{declared_procedure, declared_system}
use Rattle.mc_switch.specs.Kept.{Suits, kept_by, has_no_answer, never_answers}
use Rattle.mc_switch.specs.SwitchedBodies.{IsForm, IsOf}
use Rattle.mc_switch.proofs.Suiting.{closed_suit}
use Rattle.laws_order.specs.OrderLaws.{Below}
use Rattle.laws_order.proofs.Arranging.{below-both, below-left, below-right}
use Rattle.laws_accepted.specs.AcceptedLaws.{IsInOrder}
use Rattle.laws_accepted.specs.Told.{Retold}
use Rattle.laws_accepted.proofs.Accepting.{bound_in_head}
use Rattle.laws_accepted.proofs.FormVariables.{forms_keep_variables}
use Rattle.laws_accepted.proofs.Telling.{told_variables}
use Rattle.laws_procedures.specs.FormsMerge.{IsTidyOrder}
use Rattle.laws_procedures.proofs.GroupMerges.{forms_merge}
use Rattle.mc_analysis.specs.Rules.{Determined}
use Rattle.laws_procedures.proofs.LastGraph.{program_kept, graph_kept}
use Rattle.laws_procedures.proofs.BodyOrders.{numbers_are_below, entered_off, orders_stand_tidily}

-- ---- variables of a goal that names what is there
module _ (B : Bounds) where
  abbrev top : ℕ
  top = B.variables

  abbrev numbers : (xs : List ℕ) → NumbersBelow top xs → Below top xs
  numbers xs h = numbers_are_below top xs h

  one_more : (v : ℕ) (xs : List ℕ) → v < top → Below top xs → Below top (v ∷ xs)
  one_more v xs lt h y (inl e) = subst (λ (k : ℕ). k < top) (sym e) lt
  one_more v xs lt h y (inr i) = h y i

  none : Below top []
  none y i = absurd i

  mutual
    pub named_below : (n : Node) → Named B n → Below top (variables_of_node n)
    named_below (node s changes d m) h = in_below s h.1

    in_below : (s : Scheduled) → NamedIn B s → Below top (variables_of_scheduled s)
    in_below (Conj ns) h = all_below ns h
    in_below (Disj ns) h = all_below ns h
    in_below (Switch v arms) h = one_more v (variables_of_arms arms) h.0 (arms_below arms h.1)
    in_below (Ite vs c t e) h =
        below-both top vs (variables_of_node c ++ (variables_of_node t ++ variables_of_node e)) (numbers vs h.0)
        (below-both top (variables_of_node c) (variables_of_node t ++ variables_of_node e) (named_below c h.1)
        (below-both top (variables_of_node t) (variables_of_node e) (named_below t h.2) (named_below e h.3)))
    in_below (Not n) h = named_below n h
    in_below (Exists vs n) h = below-both top vs (variables_of_node n) (numbers vs h.0) (named_below n h.1)
    in_below (Assign v w) h = one_more v (w ∷ []) h.0 (one_more w [] h.1 none)
    in_below (Test v w) h = one_more v (w ∷ []) h.0 (one_more w [] h.1 none)
    in_below (Build v s xs) h = one_more v xs h.0 (numbers xs h.2)
    in_below (Take v s xs) h = one_more v xs h.0 (numbers xs h.2)
    in_below (Const v c) h = one_more v [] h none
    in_below (TestConst v c) h = one_more v [] h none
    in_below (Call k xs implied last) h = numbers xs h.1
    in_below (Apply op xs ys) h = below-both top xs ys (numbers xs h.0) (numbers ys h.1)

    all_below : (ns : Nodes) → EachNamed B ns → Below top (variables_of_nodes ns)
    all_below no_nodes h = none
    all_below (node_then n ns) h = below-both top (variables_of_node n) (variables_of_nodes ns) (named_below n h.0) (all_below ns h.1)

    arms_below : (arms : Arms) → EachArmNamed B arms → Below top (variables_of_arms arms)
    arms_below no_arms h = none
    arms_below (arm_then l n arms) h = below-both top (variables_of_node n) (variables_of_arms arms) (named_below n h.1) (arms_below arms h.2)

-- ---- the number after those of an order
-- Each fresh variable is tested, so the next number is within what the variables of an order are below.
module _ (S : System) (T : ℕ → TypeTerm) (top : ℕ) where
  tests_below : (k : ℕ) (is xs : List ℕ) (n : ℕ) → Below top (variables_of_nodes (test_nodes (tests_at k is xs n))) → n ≤ top → n + length (tests_at k is xs n) ≤ top
  tests_below k is [] n below le = omega (arith, le)
  tests_below k is (x ∷ xs) n below le = at (is_in k is) (λ b l. tests_below (suc k) is xs (suc n) b l) (λ b l. tests_below (suc k) is xs n b l) below
    where
      at : (t : Bool)
          → (Below top (variables_of_nodes (test_nodes (tests_at (suc k) is xs (suc n)))) → suc n ≤ top → suc n + length (tests_at (suc k) is xs (suc n)) ≤ top)
          → (Below top (variables_of_nodes (test_nodes (tests_at (suc k) is xs n))) → n ≤ top → n + length (tests_at (suc k) is xs n) ≤ top)
          → Below top (variables_of_nodes (test_nodes (cond t ((n, x) ∷ tests_at (suc k) is xs (suc n)) (tests_at (suc k) is xs n))))
          → n + length (cond t ((n, x) ∷ tests_at (suc k) is xs (suc n)) (tests_at (suc k) is xs n)) ≤ top
      at true one other b =
          let r = one (λ y i. b y (inr (inr i))) (b n (inl refl)) in
          omega (arith, r)
      at false one other b = other b le

  before_below : (gs hs : Nodes) → Below top (variables_of_nodes (nodes_before gs hs)) → Below top (variables_of_nodes gs) × Below top (variables_of_nodes hs)
  before_below no_nodes hs b = ((λ y i. absurd i), b)
  before_below (node_then g gs) hs b =
      let r = before_below gs hs (below-right top (variables_of_node g) (variables_of_nodes (nodes_before gs hs)) b) in
      (below-both top (variables_of_node g) (variables_of_nodes gs) (below-left top (variables_of_node g) (variables_of_nodes (nodes_before gs hs)) b) r.0, r.1)

  mutual
    pub next_within : {O : List ℕ} {n m : ℕ} {b : Insts} {g : Flat_goal} {x : Node} {o : Option Insts} → Standing S T O n b g x o m → Below top (variables_of_node x) → n ≤ top → m ≤ top
    next_within (assign h i j) below le = le
    next_within (assign_back h i j) below le = le
    next_within (test h i j k) below le = le
    next_within (build h i j k l) below le = le
    next_within (take h i j k) below le = le
    next_within (take_never h i j) below le = le
    next_within (put h) below le = le
    next_within (test_constant h i j) below le = le
    next_within (test_never h i j) below le = le
    next_within (call h i j k) below le = le
    next_within (apply h i j k l) below le = le
    next_within (apply_freshly {n = n} {b = b} {op = op} {xs = xs} h) below le =
        tests_below 0 (implied_of S T op xs b) xs n (below-right top _ (variables_of_nodes (test_nodes (fresh_tests S T n b op xs))) below) le
    next_within (conj h) below le = within_all h below le
    next_within (disj h j) below le = within_any h below le
    next_within (ite {vs = vs} {x = x} {y = y} {z = z} h binds i j joined) below le =
        let inner = below-right top vs (variables_of_node x ++ (variables_of_node y ++ variables_of_node z)) below in
        let later = below-right top (variables_of_node x) (variables_of_node y ++ variables_of_node z) inner in
        next_within j (below-right top (variables_of_node y) (variables_of_node z) later)
        (next_within i (below-left top (variables_of_node y) (variables_of_node z) later)
        (next_within h (below-left top (variables_of_node x) (variables_of_node y ++ variables_of_node z) inner) le))
    next_within (ite_never {vs = vs} {x = x} {z = z} h i joined) below le =
        let inner = below-right top vs (variables_of_node x ++ variables_of_node z) below in
        next_within i (below-right top (variables_of_node x) (variables_of_node z) inner)
        (next_within h (below-left top (variables_of_node x) (variables_of_node z) inner) le)
    next_within (neg h binds) below le = next_within h below le
    next_within (some {vs = vs} {x = x} h) below le = next_within h (below-right top vs (variables_of_node x) below) le

    within_all : {O : List ℕ} {n m : ℕ} {b : Insts} {gs : Flat_goals} {ns : Nodes} {o : Option Insts} → StandingAll S T O n b gs ns o m → Below top (variables_of_nodes ns) → n ≤ top → m ≤ top
    within_all done below le = le
    within_all (dropped {x = x} pick h) below le = next_within h (below-left top (variables_of_node x) [] below) le
    within_all (next {x = x} {ns = ns} pick h i) below le =
        within_all i (below-right top (variables_of_node x) (variables_of_nodes ns) below)
        (next_within h (below-left top (variables_of_node x) (variables_of_nodes ns) below) le)
    within_all (implied_outputs {n = n} {b = b} {c = c} {op = op} {xs = xs} {ns = ns} pick h i) below le =
        let r = before_below (fresh_nodes S T n b c op xs) ns below in
        within_all i r.1 (tests_below 0 (implied_of S T op xs b) xs n (below-right top _ (variables_of_nodes (test_nodes (fresh_tests S T n b op xs))) r.0) le)

    within_any : {O : List ℕ} {n m : ℕ} {b : Insts} {gs : Flat_goals} {ns : Nodes} {os : List (Option Insts)} → StandingAny S T O n b gs ns os m → Below top (variables_of_nodes ns) → n ≤ top → m ≤ top
    within_any no_other below le = le
    within_any (either {x = x} {ns = ns} h i) below le =
        within_any i (below-right top (variables_of_node x) (variables_of_nodes ns) below)
        (next_within h (below-left top (variables_of_node x) (variables_of_nodes ns) below) le)

-- A body that is in order is a tidy one, where its variables are there.
pub is_tidy_order : (S : System) (p : Proc) (h : IsInOrder S (plain_proc p) (plain_node p.body)) → h.next ≤ length p.var_types → Below (length p.var_types) (variables_of_node (plain_node p.body)) → IsTidyOrder S p
is_tidy_order S p h own below =
    let s = orders_stand_tidily S (plain_proc p) (plain_node p.body) h in
    record {
      goal = (goal_of S (plain_proc p)).body;
      outside = p.head;
      first = h.next;
      next = s.count;
      after = s.after;
      order = s.order;
      typed = next_within S (type_in p.var_types) (length p.var_types) s.order below own;
      below = h.goal_below;
      free = λ y le. entered_off p.head p.first y (λ i. let lt = h.head_below y i in absurd (omega (arith, lt, le)));
      bound = bound_in_head p.head p.first (variables_of (goal_of S (plain_proc p)).body);
      changes = s.changes;
      enters = h.enters;
    }

-- ---- forms over the last procedures
-- whether calls have an answer goes by what is declared
pub same_answers : (ps qs : List Proc) → length qs ≡ length ps → ((k : ℕ) (d : Proc) → k < length ps → (get_or qs k d).declared ≡ (get_or ps k d).declared) → (k : ℕ) → never_answers qs k ≡ never_answers ps k
same_answers [] [] e same k = refl
same_answers [] (q ∷ qs) e same k = absurd (omega (arith, e))
same_answers (p ∷ ps) [] e same k = absurd (omega (arith, e))
same_answers (p ∷ ps) (q ∷ qs) e same zero = ap has_no_answer (same 0 p (omega arith))
same_answers (p ∷ ps) (q ∷ qs) e same (suc k) = same_answers ps qs (omega (arith, e)) (λ j d lt. same (suc j) d (omega (arith, lt))) k

-- a form over procedures is one over others of the same program, graph and declarations
pub form_over : (q r : PlainProcs) (p : Proc) (body : GoalNode) → r.program ≡ q.program → r.insts ≡ q.insts → ((k : ℕ) → never_answers r.added k ≡ never_answers q.added k) → IsForm q p body → IsForm r p body
form_over q r p body program insts answers f =
    record {
      found = f.found;
      merged = λ x k is e.
          subst (λ (P : Program). StoodFor (plain_program P) r.insts is k (type_in p.var_types x)) (sym program)
          (subst (λ (J : I.Insts). StoodFor (source_of q) J is k (type_in p.var_types x)) (sym insts) (f.merged x k is e));
      form = λ S M suits extends. f.form S M (suits_back S suits) extends;
    }
  where
    suits_back : (S : System) → Suits r S → Suits q S
    suits_back S s =
        record {
          source = s.source ∙ ap plain_program program;
          insts = λ i lt. subst (λ (J : I.Insts). i < count_of J → S.insts i ≡ graph_of J i) insts (s.insts i) lt;
          never = λ k. s.never k ∙ answers k;
        }

declared_at : (ps : List Proc) (k : ℕ) → has_no_answer (declared_procedure ps k).declared ≡ never_answers ps k
declared_at [] k = refl
declared_at (p ∷ ps) zero = refl
declared_at (p ∷ ps) (suc k) = declared_at ps k

past_answers : (ps : List Proc) (k : ℕ) → length ps ≤ k → is_zero (declared_procedure ps k).procedure.det.most ≡ false
past_answers [] k le = refl
past_answers (p ∷ ps) zero le = absurd (omega (arith, le))
past_answers (p ∷ ps) (suc k) le = past_answers ps k (omega (arith, le))

-- the system of procedures suits them where determinisms are closed
pub closed_suits : (outcome : Builtin → List Val → Outcome) (q : PlainProcs) (ds : ℕ → Det) → Closed (declared_system outcome q) ds → Suits q (system_of (declared_system outcome q) ds)
closed_suits outcome q ds closed = closed_suit q (declared_system outcome q) ds of closed
  where
    of : IsOf q (declared_system outcome q)
    of = record {
      source = refl;
      insts = λ i lt. refl;
      count = refl;
      declared = declared_at q.added;
      others = past_answers q.added;
    }

module _ (ordered last : PlainProcs) (d : Determined ordered last) where
  count_kept : length last.added ≡ length ordered.added
  count_kept = d.inferred.count ∙ (d.pruned.count ∙ d.forms.count)

  module _ (k : ℕ) (e : Proc) (lt : k < length ordered.added) where
    abbrev before : Proc
    before = get_or ordered.added k e

    abbrev switched : Proc
    switched = get_or d.switched.added k e

    abbrev after : Proc
    after = get_or last.added k e

    -- what else is told of a procedure stays
    stays : {A : Type 0} (f : Proc → A) → ((p : Proc) (b : GoalNode) (c : Det) → f (record p { body = b; det = c }) ≡ f p) → f after ≡ f before
    stays f same =
        let a = d.forms.switched k e lt in
        let b = d.pruned.pruned k e (omega (arith, lt, d.forms.count)) in
        let c = d.inferred.marked k e (omega (arith, lt, d.forms.count, d.pruned.count)) in
        ap f c.others ∙ (same (get_or d.between.added k e) after.body after.det
        ∙ (ap f b.others ∙ (same switched (get_or d.between.added k e).body switched.det
        ∙ (ap f a.others ∙ same before switched.body before.det))))

    pub declared_kept : after.declared ≡ before.declared
    declared_kept = stays (λ (p : Proc). p.declared) (λ p b c. refl)

    pub types_kept : after.var_types ≡ before.var_types
    types_kept = stays (λ (p : Proc). p.var_types) (λ p b c. refl)

  answers_kept : (k : ℕ) → never_answers last.added k ≡ never_answers ordered.added k
  answers_kept = same_answers ordered.added last.added count_kept (λ k e lt. declared_kept k e lt)

  -- each body was put in switch form, as over the last procedures
  pub form_in_last : (k : ℕ) (e : Proc) → k < length ordered.added → IsForm last (get_or ordered.added k e) (get_or d.switched.added k e).body
  form_in_last k e lt =
      form_over (with_insts ordered d.switched.insts) last (get_or ordered.added k e) (get_or d.switched.added k e).body (program_kept ordered last d) (graph_kept ordered last d) answers_kept
      (d.forms.switched k e lt).form

  module _ (S : System) (fit : AllFit last) (suits : Suits last S) (k : ℕ) (e : Proc) (lt : k < length ordered.added) where
    abbrev p : Proc
    p = get_or ordered.added k e

    abbrev body : GoalNode
    body = (get_or d.switched.added k e).body

    abbrev told : Proc
    told = get_or last.added k e

    told_at : procedure_at last.added k ≡ plain_proc told
    told_at = get_or-map plain_proc last.added k e no_procedure (omega (arith, lt, count_kept))

    told_below : Below (length p.var_types) (variables_of_node (plain_node told.body))
    told_below =
        let f : ProcedureFits last (plain_proc told) = subst (ProcedureFits last) told_at (fit.each k (omega (arith, lt, count_kept))) in
        subst (λ (n : ℕ). Below n (variables_of_node (plain_node told.body))) (length-map told.var_types plain_type ∙ ap length (types_kept k e lt))
        (named_below (bounds_of last (plain_proc told)) (plain_node told.body) f.body)

    -- The variables of an order are those of its switch form and of the body that is told of that, so
    -- they are there.
    pub variables_there : Retold (plain_node body) (plain_node told.body) → Below (length p.var_types) (variables_of_node (plain_node p.body))
    variables_there r v i =
        let form = form_in_last k e lt in
        let kept : (b c : Insts) → Kept = kept_by S (type_in p.var_types) form.found (length p.var_types) in
        let is : plain_node body ≡ formed S (type_in p.var_types) kept (entered p.head p.first) (plain_node p.body) = form.form S form.found suits (λ x j js h. h) in
        told_below v
        (subst (In v) (sym (told_variables r))
        (subst (λ (n : Node). In v (variables_of_node n)) (sym is) ((forms_keep_variables S (type_in p.var_types) kept (entered p.head p.first) (plain_node p.body) v).1 i)))

    -- What the body of an order that is in order became is its switch form for some insts that are
    -- kept of arms, and the arms merge their disjuncts.
    pub forms_are_merged :
        S.insts ≡ insts_of last → IsTidyOrder S p
        → (kept : (b c : Insts) → Kept)
        × (plain_node body ≡ formed S (type_in p.var_types) kept (entered p.head p.first) (plain_node p.body))
        × ArmsMerge S (type_in p.var_types) (entered p.head p.first)
        (formed S (type_in p.var_types) kept (entered p.head p.first) (plain_node p.body))
    forms_are_merged same_insts tidy = forms_merge last p body S fit suits same_insts (form_in_last k e lt) tidy

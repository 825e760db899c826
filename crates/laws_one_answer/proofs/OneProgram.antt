-- What comes of a program comes of each that is one with it.
use Rattle.std.proofs.Common.{◌≡◌, ◌↔◌, ℕ, ◌<◌, ◌≤◌, Bool, List, [], ◌∷◌, map, length, get_or, Option, Some, None, refl, sym, ap, ap₂, ◌∙◌, subst, false}
use Rattle.std.proofs.Math.Path.{fun_ext}
use Rattle.std.specs.List.{All, AllZip}
use Rattle.mc_source.specs.Rules.{first_rules, Fault}
use Rattle.mc_source.specs.declared.rule.Broken.{Broken}
use Rattle.mc_source.specs.declared.det.Det.{Det}
use Rattle.mc_program.specs.Programs.{TypeTerm, Source}
use Rattle.mc_program.specs.PlainPrograms.{plain_program}
use Rattle.mc_program.specs.Values.{Val}
use Rattle.mc_program.specs.declared.builtin.Builtin.{Builtin}
use Rattle.mc_program.specs.declared.program.Program.{Program}
use Rattle.mc_program.specs.declared.ty.Ty.{Ty}
use Rattle.mc_model.specs.Flat.{Flat_goal}
use Rattle.mc_model.specs.Insts.{Graph}
use Rattle.mc_model.specs.Lists.{from}
use Rattle.mc_model.specs.Good.{System}
use Rattle.mc_model.specs.Outcomes.{Outcome}
use Rattle.mc_model.specs.PlainGoals.{plain_flat, plain_node, plain_proc}
use Rattle.mc_model.specs.declared.flat.Normal.{Normal}
use Rattle.mc_model.specs.declared.inst.ModeDecl.{ModeDecl}
use Rattle.mc_model.specs.declared.inst.Sig.{Sig}
use Rattle.mc_model.specs.declared.sched.GoalNode.{GoalNode}
use Rattle.mc_model.specs.declared.sched.Proc.{Proc}
use Rattle.mc_accepted.specs.Accepted.{entered, KeepsDeterminism}
use Rattle.mc_accepted.specs.Calls.{CallsOnly}
use Rattle.mc_accepted.specs.Arranged.{Verdict, arrange, trial, entry, in_order}
use Rattle.mc_accepted.specs.NodeOracle.{NodeOracle, of_nodes}
use Rattle.mc_accepted.specs.Determined.{nothing_known}
use Rattle.mc_accepted.specs.DeterminismFaults.{determinism_faults}
use Rattle.mc_accepted.specs.FreshTests.{TestsAlike}
use Rattle.mc_accepted.specs.Inferred.{DeclaredSystem, LeastClosed, with_determinisms}
use Rattle.mc_accepted.specs.InstRules.{PlainInstDef}
use Rattle.mc_accepted.specs.Typing.{TypedGoal}
use Rattle.mc_self_check.specs.TypedGoals.{IsTyped}
use Rattle.mc_insts.specs.declared.insts.Insts.{Insts}
use Rattle.mc_insts.specs.Graphs.{graph_of}
use Rattle.mc_insts.specs.Kept.{AreOf}
use Rattle.mc_procs.specs.Procedures.{PlainProcs, insts_of, procedure_at, with_insts}
use Rattle.mc_procs.specs.VariableTypes.{type_in}
use Rattle.mc_mode_state.specs.Nodes as Nodes
use Rattle.mc_mode_state.specs.Nodes.{StoodFor}
use Rattle.mc_mode_state.specs.Tables.{node_in}
use Rattle.mc_mode_state.specs.declared.state.State.{State}
use Rattle.mc_modes.specs.Arrangements.{Becomes, NumbersTo, Numbers}
use Rattle.mc_modes.specs.Schedules.{IsScheduled}
use Rattle.mc_modes.specs.Signatures.{mode_in, declared_in}
use Rattle.mc_modes.specs.Tries as Tries
use Rattle.mc_modes.specs.ModeFaults.{rule_of}
use Rattle.mc_modes.specs.NormalGoals.{goal_at}
use Rattle.mc_modes.specs.Numbering.{mode_ids}
use Rattle.mc_modes.specs.Outcomes.{GrownFrom, Tried, IsTried, broken_rules, AreBroken, IsOrdered, ModesGive}
use Rattle.mc_modes.specs.declared.modes.ModeId.{ModeId}
use Rattle.mc_modes.specs.declared.ordering.Orders.{Orders}
use Rattle.mc_modes.specs.declared.ordering.Orders.TheVariants as O
use Rattle.mc_det_constraints.specs.Least.{assigned}
use Rattle.mc_switch.specs.Kept as Kept
use Rattle.mc_switch.specs.SwitchedBodies.{IsForm, Switches}
use Rattle.mc_det.specs.Determinisms.{declared_procedure, AreDeterminisms}
use Rattle.mc_det.specs.Marked.{marked_body}
use Rattle.mc_det.specs.MarkedProcedures.{determinisms_of, Inferred, MarksHold}
use Rattle.mc_det.specs.Pruned.{pruned_body}
use Rattle.mc_det.specs.PrunedProcedures.{FollowDeclared, Pruned}
use Rattle.mc_analysis.specs.Premises.{HasInsts, InitialProcedures, TellNumbers, GoalsFitModes, GoalsAreTyped, Preconditions}
use Rattle.mc_analysis.specs.Rules.{AnalysisGives, Determined, FaultsAre, Ordered, break_no_rule, break_uniqueness, break_modes, break_determinism}
use Rattle.mc_analysis.specs.Untidy.{AreUntidy, TidyAt, OverTidy, AreAsked, no_more, asked as asked_mode, passed}
use Rattle.mc_analysis.specs.declared.rules.AnalysisResult.{AnalysisResult}
use Rattle.laws_one_answer.specs.OneProgram.{over, ruled_over, OneComes}
use Rattle.laws_one_answer.proofs.SamePrograms.{Same, back, same-of, SameGoal, back-goal, same-goal, of-goal, grown, numbered, all_fit, suits, stands, has_library, normal_fits}

-- ---- procedures over this program, which is one with theirs
module _ (P : Program) where
  abbrev Is : PlainProcs → Type 0
  Is q = Same P q.program

  is-too : (q r : PlainProcs) → r.program ≡ q.program → Is q → Is r
  is-too q r e is = subst (Same P) (sym e) is

  -- ---- what becomes of a goal
  module _ (sigs : List Sig) (types : List Ty) (head first last : List ℕ) (g : Flat_goal) (q r : PlainProcs) (end : State) where
    suits-there : Is r → (C : NodeOracle) (T : ℕ → TypeTerm) → Tries.AgreesOnClause (length types) (over P r) end C T → Tries.AgreesOnClause (length types) r end C T
    suits-there is C T h = suits r.program P (back P r.program is) (length types) r end C T h

    becomes : (v : Verdict) → Is q → Becomes sigs types head first last g q r end v → Becomes sigs types head first last g (over P q) (over P r) end v
    becomes v is h =
        let there : Is r = is-too q r (ap (λ (x : PlainProcs). x.program) h.others) is in
        record {
          verdict = λ C T s.
              let A : Source → Type 0 = λ S. arrange (of_nodes C) S (declared_in sigs) T (length types) head first last g ≡ v in
              subst A is.source (h.verdict C T (suits-there there C T s));
          kept = h.kept;
          stands = stands P r.program there r end h.stands;
          others = ap (over P) h.others;
          grown = grown P q.program is q.insts r.insts h.grown;
        }

    numbers : (count : ℕ) → Is q → Is r → Numbers sigs types head first g q r end count → Numbers sigs types head first g (over P q) (over P r) end count
    numbers count is there h C T s =
        let A : Source → Type 0 = λ S. NumbersTo count (trial (of_nodes C) S (declared_in sigs) T g head (length types) (entry (of_nodes C) S (declared_in sigs) T head first)) in
        subst A is.source (h C T (suits-there there C T s))

  grown_from : (q r : PlainProcs) → Is q → GrownFrom q r → GrownFrom (over P q) (over P r)
  grown_from q r is h = record { program = refl; preds = h.preds; grown = grown P q.program is q.insts r.insts h.grown }

  module _ (sigs : List Sig) (g h : Normal) (one : SameGoal g h) where
    scheduled : (k : ℕ) (m : ModeDecl) (q r : PlainProcs) (p : Proc) → Is q → IsScheduled sigs h k m q r p → IsScheduled sigs g k m (over P q) (over P r) p
    scheduled k m q r p is s =
        let there : Is r = is-too q r (ap (λ (x : PlainProcs). x.program) s.becomes.others) is in
        let A : List Ty → List ℕ → Flat_goal → Type 0 = λ ts vs b. Becomes sigs ts vs m.first m.last b (over P q) (over P r) s.end (in_order (plain_node p.body)) in
        let B : List Ty → List ℕ → Flat_goal → Type 0 = λ ts vs b. Numbers sigs ts vs m.first b (over P q) (over P r) s.end (length p.var_types) in
        let D : List Ty → List ℕ → Flat_goal → Type 0 = λ ts vs b. TestsAlike (Nodes.type_in p.var_types) (length ts) (plain_node p.body) in
        record {
          end = s.end;
          becomes = of-goal g h one A (becomes sigs h.var_types h.head m.first m.last (plain_flat h.body) q r s.end (in_order (plain_node p.body)) is s.becomes);
          numbered = of-goal g h one B (numbers sigs h.var_types h.head m.first m.last (plain_flat h.body) q r s.end (length p.var_types) is there s.numbered);
          var_types = s.var_types;
          alike = of-goal g h one D s.alike;
          pred = s.pred ∙ one.pred;
          mode = s.mode;
          head = s.head ∙ one.head;
          first = s.first;
          last = s.last;
          declared = s.declared;
          det = s.det;
          exported = s.exported;
          at = s.at;
        }

  -- ---- switch forms
  switch-suits : (q : PlainProcs) (S : System) → Is q → Kept.Suits (over P q) S → Kept.Suits q S
  switch-suits q S is h = record { source = h.source ∙ sym is.source; insts = h.insts; never = h.never }

  form : (q : PlainProcs) (p : Proc) (body : GoalNode) → Is q → IsForm q p body → IsForm (over P q) p body
  form q p body is h =
      let A : Source → Type 0 = λ S. (x k : ℕ) (js : List ℕ) → node_in h.found x js ≡ Some k → StoodFor S q.insts js k (type_in p.var_types x) in
      record {
        found = h.found;
        merged = subst A is.source h.merged;
        form = λ S M s. h.form S M (switch-suits q S is s);
      }

  switches : (q r : PlainProcs) → Is q → Switches q r → Switches (over P q) (over P r)
  switches q r is h =
      record {
        others = ap (over P) h.others;
        count = h.count;
        grown = grown P q.program is q.insts r.insts h.grown;
        switched = λ k d lt.
            let s = h.switched k d lt in
            record { others = s.others; form = form (with_insts q r.insts) (get_or q.added k d) (get_or r.added k d).body is s.form };
      }

  -- ---- pruned and marked bodies
  follow : (q : PlainProcs) (ds : ℕ → Det) → FollowDeclared (over P q) ds → FollowDeclared q ds
  follow q ds h = record { declared = h.declared; at_least_det = h.at_least_det; uncommitted = h.uncommitted }

  abbrev system-by : (outcome : Builtin → List Val → Outcome) → PlainProcs → Source → System
  system-by outcome q S = record { world = record { source = S; outcome = outcome }; count = length q.added; procs = procedure_at q.added; insts = insts_of q }

  abbrev declared-by : (outcome : Builtin → List Val → Outcome) → PlainProcs → Source → DeclaredSystem
  declared-by outcome q S = record { world = record { source = S; outcome = outcome }; count = length q.added; procs = declared_procedure q.added; insts = insts_of q }

  pruned : (q r : PlainProcs) → Is q → Pruned q r → Pruned (over P q) (over P r)
  pruned q r is h =
      record {
        others = ap (over P) h.others;
        count = h.count;
        pruned = λ k d lt.
            let s = h.pruned k d lt in
            record {
              others = s.others;
              body = λ outcome ds f.
                  let A : Source → Type 0 = λ S. plain_node (get_or r.added k d).body ≡ pruned_body (with_determinisms (system-by outcome q S) ds) (plain_proc (get_or q.added k d)) in
                  subst A is.source (s.body outcome ds (follow q ds f));
            };
      }

  are_determinisms : (q : PlainProcs) (ds : List Det) → Is q → AreDeterminisms q ds → AreDeterminisms (over P q) ds
  are_determinisms q ds is h outcome =
      let A : Source → Type 0 = λ S. LeastClosed (declared-by outcome q S) (assigned ds) in
      subst A is.source (h outcome)

  inferred : (q r : PlainProcs) → Is q → Inferred q r → Inferred (over P q) (over P r)
  inferred q r is h =
      record {
        others = ap (over P) h.others;
        count = h.count;
        determinisms = are_determinisms q (determinisms_of r) is h.determinisms;
        marked = λ k d lt.
            let s = h.marked k d lt in
            record {
              others = s.others;
              body = λ outcome.
                  let A : Source → Type 0 = λ S. plain_node (get_or r.added k d).body ≡ marked_body (with_determinisms (system-by outcome q S) (assigned (determinisms_of r))) (plain_proc (get_or q.added k d)) in
                  subst A is.source (s.body outcome);
            };
      }

  marks_hold : (q : PlainProcs) → Is q → MarksHold q → MarksHold (over P q)
  marks_hold q is h outcome k lt =
      let A : Source → Type 0 = λ S. KeepsDeterminism (system-by outcome q S) (procedure_at q.added k) (entered (procedure_at q.added k).head (procedure_at q.added k).first) nothing_known (procedure_at q.added k).body in
      subst A is.source (h outcome k lt)

  faults_are : (runs : Bool) (q : PlainProcs) (faults : List Broken) → Is q → FaultsAre runs q faults → FaultsAre runs (over P q) faults
  faults_are runs q faults is h outcome =
      let A : Source → Type 0 = λ S. faults ≡ determinism_faults runs (declared-by outcome q S) (assigned (determinisms_of q)) in
      subst A is.source (h outcome)

  abbrev program-of : PlainProcs → Program
  program-of q = q.program

  last_is : (q r : PlainProcs) → Is q → Determined q r → Is r
  last_is q r is h = is-too q r (ap program-of h.inferred.others ∙ ap program-of h.pruned.others ∙ ap program-of h.forms.others) is

  determined : (q r : PlainProcs) → Is q → Determined q r → Determined (over P q) (over P r)
  determined q r is h =
      let s : Is h.switched = is-too q h.switched (ap program-of h.forms.others) is in
      let b : Is h.between = is-too h.switched h.between (ap program-of h.pruned.others) s in
      record {
        switched = over P h.switched;
        between = over P h.between;
        forms = switches q h.switched is h.forms;
        pruned = pruned h.switched h.between s h.pruned;
        inferred = inferred h.between r b h.inferred;
        marks = marks_hold r (last_is q r is h) h.marks;
        least = are_determinisms r (determinisms_of r) (last_is q r is h) h.least;
      }

-- ---- goals of two lists that are one
abbrev pub SameGoals : (goals others : List Normal) → Type 0
SameGoals gs hs = (p : ℕ) → SameGoal (goal_at gs p) (goal_at hs p)

back-goals : (gs hs : List Normal) → SameGoals gs hs → SameGoals hs gs
back-goals gs hs one p = back-goal (goal_at gs p) (goal_at hs p) (one p)

each-zip : {X Y : Type 0} (R S : X → Y → Type 0) (xs : List X) (ys : List Y) → ((x : X) (y : Y) → R x y → S x y) → AllZip R xs ys → AllZip S xs ys
each-zip R S [] [] f h = tt
each-zip R S [] (y ∷ ys) f h = absurd h
each-zip R S (x ∷ xs) [] f h = absurd h
each-zip R S (x ∷ xs) (y ∷ ys) f h = (f x y h.0, each-zip R S xs ys f h.1)

module _ (P : Program) (sigs : List Sig) (gs hs : List Normal) (one : SameGoals gs hs) where
  tried : (first last : PlainProcs) (t : Tried) → Is P first → IsTried sigs hs first last t → IsTried sigs gs (over P first) (over P last) t
  tried first last t is h =
      let g = goal_at gs t.id.pred in
      let g' = goal_at hs t.id.pred in
      let m = mode_in sigs t.id.pred t.id.mode in
      let b : Is P h.before = is-too P first h.before h.begun.program is in
      let a : Is P h.after = is-too P h.before h.after (ap (λ (x : PlainProcs). x.program) h.becomes.others) b in
      let A : List Ty → List ℕ → Flat_goal → Type 0 = λ ts vs f. Becomes sigs ts vs m.first m.last f (over P h.before) (over P h.after) h.end t.verdict in
      record {
        before = over P h.before;
        after = over P h.after;
        end = h.end;
        begun = grown_from P first h.before is h.begun;
        becomes = of-goal g g' (one t.id.pred) A (becomes P sigs g'.var_types g'.head m.first m.last (plain_flat g'.body) h.before h.after h.end t.verdict b h.becomes);
        ended = grown_from P h.after last a h.ended;
      }

  told : (t : Tried) → rule_of (length (goal_at hs t.id.pred).head) (goal_at hs t.id.pred).var_names t.verdict ≡ rule_of (length (goal_at gs t.id.pred).head) (goal_at gs t.id.pred).var_names t.verdict
  told t = ap₂ (λ n ns. rule_of n ns t.verdict) (ap length (one t.id.pred).head) (one t.id.pred).names

  one-told : (ts : List Tried) → broken_rules sigs hs ts ≡ broken_rules sigs gs ts
  one-told ts =
      let f : (Tried → Option Fault) → List Broken = λ rule. first_rules (λ (t : Tried). (mode_in sigs t.id.pred t.id.mode).at) rule ts in
      ap f (fun_ext told)

  are_broken : (first last : PlainProcs) (ids : List ModeId) (faults : List Broken) → Is P first → AreBroken sigs hs first last ids faults → AreBroken sigs gs (over P first) (over P last) ids faults
  are_broken first last ids faults is h =
      record { tried = h.tried; ids_are = h.ids_are; each = λ k d lt. tried first last (get_or h.tried k d) is (h.each k d lt); rules = h.rules ∙ one-told h.tried }

  module _ (exported : List Bool) where
    ordered : (first last : PlainProcs) (id : ModeId) (p : Proc) → Is P first → IsOrdered sigs hs exported first last id p → IsOrdered sigs gs exported (over P first) (over P last) id p
    ordered first last id p is h =
        let b : Is P h.before = is-too P first h.before h.begun.program is in
        let a : Is P h.after = is-too P h.before h.after (ap (λ (x : PlainProcs). x.program) h.scheduled.becomes.others) b in
        record {
          before = over P h.before;
          after = over P h.after;
          begun = grown_from P first h.before is h.begun;
          scheduled = scheduled P sigs (goal_at gs id.pred) (goal_at hs id.pred) (one id.pred) id.mode (mode_in sigs id.pred id.mode) h.before h.after (record p { exported = false }) b h.scheduled;
          is_exported = h.is_exported;
          ended = grown_from P h.after last a h.ended;
        }

    became : (first last : PlainProcs) (o : Orders) → Is P first → Is P last → ModesGive sigs hs exported first last o → ModesGive sigs gs exported (over P first) (over P last) o
    became first last O.All is there h =
        let A : List ModeId → Type 0 = λ ids. AllZip (IsOrdered sigs gs exported (over P first) (over P last)) ids last.added in
        subst A (numbered P first.program is sigs)
        (each-zip (IsOrdered sigs hs exported first last) (IsOrdered sigs gs exported (over P first) (over P last)) (mode_ids first.program sigs) last.added (λ i p. ordered first last i p is) h)
    became first last (O.Broken list) is there (faults, broken, same, some) =
        let A : List ModeId → Type 0 = λ ids. AreBroken sigs gs (over P first) (over P last) ids faults in
        (faults, subst A (numbered P first.program is sigs) (are_broken first last (mode_ids first.program sigs) faults is broken), same, some)

-- ---- what is asked
module _ (P Q : Program) (same : Same P Q) (ds : List PlainInstDef) (sigs : List Sig) where
  has_insts : (I : Insts) → HasInsts Q ds I → HasInsts P ds I
  has_insts I h =
      let A : Source → Type 0 = λ S. AreOf S I in
      record { are_of = subst A same.source h.are_of; nodes = h.nodes; defined = h.defined; count = h.count }

  is-first : (bs : List Broken) (q : PlainProcs) → InitialProcedures Q ds sigs bs q → Same P q.program
  is-first bs q h = subst (Same P) (sym h.program) same

  begins : (bs : List Broken) (q : PlainProcs) → InitialProcedures Q ds sigs bs q → InitialProcedures P ds sigs bs (over P q)
  begins bs q h =
      let A : Source → Type 0 = λ S. AreUntidy S (insts_of q) sigs bs in
      record {
        program = refl;
        library = has_library P Q same h.library;
        insts = has_insts q.insts h.insts;
        told = subst A same.source h.told;
        preds = h.preds ∙ ap (map (λ (m : ModeId). m.pred)) (numbered P Q same sigs);
        none = h.none;
      }

  tell_numbers : (q : PlainProcs) → TellNumbers (over Q q) sigs → TellNumbers (over P q) sigs
  tell_numbers q h =
      let A : List ModeId → Type 0 = λ ids. map (λ (m : ModeId). (mode_in sigs m.pred m.mode).proc) ids ≡ from 0 (length q.preds) in
      subst A (numbered P Q same sigs) h

  goals_fit : (gs hs : List Normal) → SameGoals gs hs → (q : PlainProcs) → GoalsFitModes (over Q q) sigs hs → GoalsFitModes (over P q) sigs gs
  goals_fit gs hs one q h p lt none k within =
      let A : Source → Type 0 = λ S. (S.preds p).builtin ≡ None in
      normal_fits P Q same q (mode_in sigs p k) (goal_at gs p) (goal_at hs p) (one p)
      (h p (subst (λ n. p < n) (sym same.preds) lt) (subst A (sym same.source) none) k within)

  goals_typed : (gs hs : List Normal) → SameGoals gs hs → GoalsAreTyped Q hs → GoalsAreTyped P gs
  goals_typed gs hs one h p lt none =
      let A : Source → Type 0 = λ S. (S.preds p).builtin ≡ None in
      let X : List Ty → List ℕ → Flat_goal → Type 0 = λ ts head body. (map (type_in ts) head ≡ ((plain_program P).preds p).types) × TypedGoal (plain_program P) (type_in ts) body in
      let t : IsTyped (plain_program P) p (goal_at hs p) =
      subst (λ (S : Source). IsTyped S p (goal_at hs p)) same.source (h p (subst (λ n. p < n) (sym same.preds) lt) (subst A (sym same.source) none)) in
      let u = of-goal (goal_at gs p) (goal_at hs p) (one p) X (t.head, t.body) in
      record { head = u.0; body = u.1 }

  asked : (gs hs : List Normal) → SameGoals gs hs → (exported : List Bool) (q : PlainProcs) → Preconditions (over Q q) sigs hs exported → Preconditions (over P q) sigs gs exported
  asked gs hs one exported q h =
      record {
        as_many_exported = h.as_many_exported ∙ same.preds;
        fewer = subst (λ n. length sigs ≤ n) same.preds h.fewer;
        committed_many = h.committed_many;
        insts_there = h.insts_there;
        numbers_told = tell_numbers q h.numbers_told;
        goals_fit = goals_fit gs hs one q h.goals_fit;
        goals_typed = goals_typed gs hs one h.goals_typed;
      }

-- ---- modes whose goals are tried where some mode is untidy
module _ (P Q : Program) (same : Same P Q) (sigs : List Sig) (gs hs : List Normal) (one : SameGoals gs hs) (G : Graph) where
  over_tidy : (id : ModeId) → OverTidy (plain_program P) G sigs hs id ↔ OverTidy (plain_program P) G sigs gs id
  over_tidy id =
      let A : Flat_goal → Type 0 = CallsOnly (TidyAt (plain_program P) G sigs) in (
        λ o. record { own = o.own; called = of-goal (goal_at gs id.pred) (goal_at hs id.pred) (one id.pred) (λ ts vs b. A b) o.called },
        λ o. record { own = o.own; called = of-goal (goal_at hs id.pred) (goal_at gs id.pred) (back-goals gs hs one id.pred) (λ ts vs b. A b) o.called },
      )

  asked_of : (ids xs : List ModeId) → AreAsked (plain_program P) G sigs hs ids xs → AreAsked (plain_program P) G sigs gs ids xs
  asked_of [] [] no_more = no_more
  asked_of [] (x ∷ xs) h = elim h [ ]
  asked_of (id ∷ ids) (x ∷ xs) (asked_mode a h) = asked_mode ((over_tidy id).0 a) (asked_of ids xs h)
  asked_of (id ∷ ids) xs (passed a h) = passed (λ o. a ((over_tidy id).1 o)) (asked_of ids xs h)

  asked_modes : (xs : List ModeId) → AreAsked (plain_program Q) G sigs hs (mode_ids Q sigs) xs → AreAsked (plain_program P) G sigs gs (mode_ids P sigs) xs
  asked_modes xs h =
      let A : Source → Type 0 = λ S. AreAsked S G sigs hs (mode_ids Q sigs) xs in
      subst (λ (ids : List ModeId). AreAsked (plain_program P) G sigs gs ids xs) (numbered P Q same sigs) (asked_of (mode_ids Q sigs) xs (subst A same.source h))

-- ---- what comes
module _ (P Q : Program) (same : Same P Q) (ds : List PlainInstDef) (sigs : List Sig) (gs hs : List Normal) (one : SameGoals gs hs) (exported : List Bool) (runs : Bool) where
  last-is : (o : Orders) (q : PlainProcs) → Ordered Q ds sigs hs exported o q → Is P q
  last-is o q h = is-too P h.first q h.grown.program (is-first P Q same ds sigs [] h.first h.begins)

  in-order : (o : Orders) (q : PlainProcs) → Ordered Q ds sigs hs exported o q → Ordered P ds sigs gs exported o (over P q)
  in-order o q h =
      let is = is-first P Q same ds sigs [] h.first h.begins in
      record {
        first = over P h.first;
        begins = begins P Q same ds sigs [] h.first h.begins;
        asked = asked P h.first.program is ds sigs gs hs one exported h.first h.asked;
        became = became P sigs gs hs one exported h.first q o is (last-is o q h) h.became;
        grown = grown_from P h.first q is h.grown;
      }

  comes : {s : AnalysisResult} → AnalysisGives Q ds sigs hs exported runs s → AnalysisGives P ds sigs gs exported runs (ruled_over P s)
  comes (break_no_rule {ordered = o} {last = l} came is none fit) =
      let i = last-is O.All o came in
      let j = last_is P o l i is in
      break_no_rule (in-order O.All o came) (determined P o l i is) (faults_are P runs l [] j none) (all_fit P l.program j l fit)
  comes (break_uniqueness {first = q} {last = l} {untidy = u} {faults = fs} {ids = is} begun some premises are_asked broken e) =
      let first = is-first P Q same ds sigs u q begun in
      break_uniqueness (begins P Q same ds sigs u q begun) some (asked P q.program first ds sigs gs hs one exported q premises)
      (asked_modes P Q same sigs gs hs one (insts_of q) is are_asked) (are_broken P sigs gs hs one q l is fs first broken) e
  comes (break_modes {last = l} {list = list} came) = break_modes (in-order (O.Broken list) l came)
  comes (break_determinism {ordered = o} {last = l} {list = list} came is faults fit some) =
      let i = last-is O.All o came in
      let j = last_is P o l i is in
      break_determinism (in-order O.All o came) (determined P o l i is) (faults_are P runs l list.items j faults) (all_fit P l.program j l fit) some

pub one-comes : OneComes
one-comes P Q ds sigs goals others exported runs programs same s came =
    comes P Q (same-of P Q programs) ds sigs goals others (λ p. same-goal (goal_at goals p) (goal_at others p) (same p)) exported runs came

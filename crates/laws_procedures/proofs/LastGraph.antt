-- What was found while a goal was put in order stands over the last graph, and there its order is told.
use Rattle.std.proofs.Common.{◌≡◌, ℕ, ◌<◌, ◌≤◌, nat_lt, Bool, true, false, if◌then◌else◌, List, length, refl, sym, ap, ◌∙◌, subst, arith}
use Rattle.std.proofs.lemmas.List.{length-take}
use Rattle.std.proofs.Math.Seq.{take-length}
use Rattle.mc_program.specs.Programs.{TypeTerm, Source}
use Rattle.mc_program.specs.PlainPrograms.{plain_program}
use Rattle.mc_program.specs.declared.program.Program.{Program}
use Rattle.mc_model.specs.Good.{System}
use Rattle.mc_model.specs.PlainGoals.{plain_flat, plain_node}
use Rattle.mc_model.specs.declared.flat.Normal.{Normal}
use Rattle.mc_model.specs.declared.inst.ModeDecl.{ModeDecl}
use Rattle.mc_model.specs.declared.inst.Sig.{Sig}
use Rattle.mc_model.specs.declared.sched.Proc.{Proc}
use Rattle.mc_accepted.specs.Arranged.{in_order, arrange}
use Rattle.mc_accepted.specs.NodeOracle.{NodeOracle, of_nodes}
use Rattle.mc_accepted.specs.FreshTests.{TestsAlike}
use Rattle.mc_accepted.specs.code.Truthful.{Truthful}
use Rattle.mc_insts.specs.declared.insts.Insts.{Insts}
use Rattle.mc_insts.specs.Graphs.{count_of}
use Rattle.mc_insts.specs.Growing.{Grown}
use Rattle.mc_insts.specs.Kept.{AreOf}
use Rattle.mc_procs.specs.Procedures.{PlainProcs, source_of, insts_of, with_insts}
use Rattle.mc_procs.specs.Fitting.{AllFit}
use Rattle.mc_procs.proofs.Fits.{insts_grew}
use Rattle.mc_mode_state.specs.Agreeing.{OracleAgrees, StateInvariant, StateExtends, TypedAs}
use Rattle.mc_mode_state.specs.Nodes.{type_in, NodesAre}
use Rattle.mc_mode_state.specs.declared.nodes.Nodes.{Nodes}
use Rattle.mc_mode_state.specs.declared.state.State.{State}
use Rattle.mc_mode_state.proofs.Ahead.{agrees-before}
use Rattle.mc_mode_state.proofs.Found.{stood-grown, over-grown, grown-trans}
use Rattle.mc_modes.specs.Schedules.{IsScheduled}
use Rattle.mc_modes.specs.Signatures.{declared_in, mode_in}
use Rattle.mc_modes.specs.Tries.{AgreesOnClause, with_types}
use Rattle.laws_order.specs.SomeTest.{TypesMet}
use Rattle.laws_order.proofs.SomeTest.{some_test_tells, nodes_are_told}
use Rattle.laws_modes.specs.OrdersNamed.{FindsBelow}
use Rattle.laws_modes.proofs.ChosenNodes.{some-agree}
use Rattle.mc_modes.specs.NormalGoals.{goal_at}
use Rattle.mc_modes.specs.Outcomes.{IsOrdered}
use Rattle.mc_modes.specs.declared.modes.ModeId.{ModeId}
use Rattle.mc_analysis.specs.Rules.{Determined}

-- ---- a state over a graph that grew
nodes_later : (P : Source) (I J : Insts) (N : Nodes) → Grown P I J → NodesAre P I N → NodesAre P J N
nodes_later P I J N g are =
    record {
      overs = λ s k is h. over-grown P I J s k is g (are.overs s k is h);
      joins = λ r k is h.
          let x = are.joins r k is h in (x.0, stood-grown P I J is k (type_in N.types.items r) g x.1);
      once = are.once;
    }

-- a state stands over procedures of the same program whose graph grew
pub stands_later : (q r : PlainProcs) (s : State) → StateInvariant q s → AllFit r → r.program ≡ q.program → Grown (source_of q) q.insts r.insts → StateInvariant r s
stands_later q r s st fit same g =
    record {
      fit = fit;
      even = st.even;
      insts = λ x. let m = g.more in let l = st.insts x in omega arith;
      trail = st.trail;
      nodes = subst (λ (P : Program). NodesAre (plain_program P) r.insts s.nodes) (sym same) (nodes_later (source_of q) q.insts r.insts s.nodes g st.nodes);
    }

-- whether functions agree goes by the program and its insts alone
agrees_over : (q r : PlainProcs) (s : State) (C : NodeOracle) (T : ℕ → TypeTerm) → r.program ≡ q.program → OracleAgrees r s C T → OracleAgrees (with_insts q r.insts) s C T
agrees_over q r s C T same a =
    subst (λ (P : Program). OracleAgrees (record { program = P; insts = r.insts; preds = q.preds; added = q.added }) s C T) same
    (record {
      dies = a.dies;
      constants = a.constants;
      narrowed = a.narrowed;
      fits = a.fits;
      over = a.over;
      joined = a.joined;
      types = a.types;
    })

-- functions that agree with a state over such procedures agree with it as it stood
pub agrees_earlier : (q r : PlainProcs) (s : State) (C : NodeOracle) (T : ℕ → TypeTerm) → StateInvariant q s → AllFit r → r.program ≡ q.program → Grown (source_of q) q.insts r.insts → OracleAgrees r s C T → OracleAgrees q s C T
agrees_earlier q r s C T st fit same g a =
    let grew : AllFit (with_insts q r.insts) = insts_grew q r.insts st.fit (subst (λ (P : Program). AreOf (plain_program P) r.insts) same fit.program.insts_are) g in
    agrees-before q (with_insts q r.insts) s s C T st (moved grew) (agrees_over q r s C T same a)
  where
    moved : AllFit (with_insts q r.insts) → StateExtends q (with_insts q r.insts) s s
    moved grew =
        record {
          nodes = record {
            others = refl;
            grown = g;
            overs = λ m k is h. h;
            joins = λ m k is h. h;
            types = take-length s.nodes.types.items;
            are = nodes_later (source_of q) q.insts r.insts s.nodes g st.nodes;
            fit = grew;
          };
          types = take-length s.types.items;
          stands = stands_later q (with_insts q r.insts) s st grew refl g;
        }

-- ---- the order of a goal, told over the last graph
-- What is told of a goal in a mode over the last graph: functions that look for nodes there and tell
-- the truth, for which this is the goal's order.
pub record OrderIsTold (sigs : List Sig) (g : Normal) (m : ModeDecl) (end : PlainProcs) (p : Proc) : Type 0 where
  pub head : p.head ≡ g.head
  pub first : p.first ≡ m.first
  pub last : p.last ≡ m.last
  pub choice : NodeOracle
  pub found : FindsBelow (count_of end.insts) choice
  pub truthful : (S : System) → S.world.source ≡ source_of end → S.insts ≡ insts_of end → (T : ℕ → TypeTerm) → Truthful S T choice
  pub order :
      (T : ℕ → TypeTerm)
      → ((x : ℕ) → x < length p.var_types → T x ≡ type_in p.var_types x)
      → arrange (of_nodes choice) (source_of end) (declared_in sigs) T (length g.var_types) g.head m.first m.last (plain_flat g.body)
      ≡ in_order (plain_node p.body)
  pub own : length g.var_types ≤ length p.var_types
  pub alike : TestsAlike (type_in p.var_types) (length g.var_types) (plain_node p.body)

module _ (n : ℕ) (s : State) (T : ℕ → TypeTerm) (typed : TypedAs s T) where
  typed_with : TypedAs s (with_types n s T)
  typed_with x lt = at (nat_lt x n)
    where
      at : (t : Bool) → (if t then T x else type_in s.types.items x) ≡ type_in s.types.items x
      at true = typed x lt
      at false = refl

module _ (sigs : List Sig) (g : Normal) (k : ℕ) (m : ModeDecl) (before after last : PlainProcs) (p : Proc)
    (scheduled : IsScheduled sigs g k m before after p) (fit : AllFit last) (same : last.program ≡ after.program) (grown : Grown (source_of after) after.insts last.insts) where
  abbrev n : ℕ
  n = length g.var_types

  stands : StateInvariant last scheduled.end
  stands = stands_later after last scheduled.end scheduled.becomes.stands fit same grown

  suits : (C : NodeOracle) (T : ℕ → TypeTerm) → OracleAgrees last scheduled.end C (with_types n scheduled.end T) → AgreesOnClause n after scheduled.end C T
  suits C T a = record { agrees = agrees_earlier after last scheduled.end C (with_types n scheduled.end T) scheduled.becomes.stands fit same grown a }

  same_program : before.program ≡ last.program
  same_program = sym (ap (λ (q : PlainProcs). q.program) scheduled.becomes.others) ∙ sym same

  -- nothing of it depends on when it was told
  pub order_in_last : ((t : TypeTerm) → TypesMet (source_of last) t) → OrderIsTold sigs g m last p
  order_in_last met =
      let agree = some-agree some_test_tells nodes_are_told last scheduled.end stands met in
      let C : NodeOracle = agree.0 in
      record {
        head = scheduled.head;
        first = scheduled.first;
        last = scheduled.last;
        choice = C;
        found = agree.2;
        truthful = agree.3;
        order = λ T typed.
            let there : TypedAs scheduled.end T = λ x lt. subst (λ ts. x < length ts → T x ≡ type_in ts x) scheduled.var_types (typed x) lt in
            subst (λ (P : Program). arrange (of_nodes C) (plain_program P) (declared_in sigs) T n g.head m.first m.last (plain_flat g.body) ≡ in_order (plain_node p.body)) same_program
            (scheduled.becomes.verdict C T (suits C T (agree.1 (with_types n scheduled.end T) (typed_with n scheduled.end T there))));
        own = subst (λ ts. n ≤ length ts) (sym scheduled.var_types) (omega (arith, length-take n scheduled.end.types.items, ap length scheduled.becomes.kept));
        alike = scheduled.alike;
      }

-- so it is of the goal of a mode that is in its order
pub mode_in_last : (sigs : List Sig) (goals : List Normal) (exported : List Bool) (first ordered last : PlainProcs) (id : ModeId) (p : Proc)
    → IsOrdered sigs goals exported first ordered id p → AllFit last → last.program ≡ ordered.program → Grown (source_of ordered) ordered.insts last.insts
    → ((t : TypeTerm) → TypesMet (source_of last) t) → OrderIsTold sigs (goal_at goals id.pred) (mode_in sigs id.pred id.mode) last p
mode_in_last sigs goals exported first ordered last id p is fit same grown met =
    let told = order_in_last sigs (goal_at goals id.pred) id.mode (mode_in sigs id.pred id.mode) is.before is.after last (record p { exported = false }) is.scheduled fit
    (same ∙ is.ended.program)
    (grown-trans (source_of is.after) is.after.insts ordered.insts last.insts is.ended.grown (subst (λ (P : Program). Grown (plain_program P) ordered.insts last.insts) is.ended.program grown)) met in
    record {
      head = told.head;
      first = told.first;
      last = told.last;
      choice = told.choice;
      found = told.found;
      truthful = told.truthful;
      order = told.order;
      own = told.own;
      alike = told.alike;
    }

-- ---- what phases after the orders keep
module _ (ordered last : PlainProcs) (d : Determined ordered last) where
  pub program_kept : last.program ≡ ordered.program
  program_kept =
      ap (λ (q : PlainProcs). q.program) d.inferred.others
      ∙ (ap (λ (q : PlainProcs). q.program) d.pruned.others ∙ ap (λ (q : PlainProcs). q.program) d.forms.others)

  -- pruning and inference leave the graph
  pub graph_kept : last.insts ≡ d.switched.insts
  graph_kept = ap (λ (q : PlainProcs). q.insts) d.inferred.others ∙ ap (λ (q : PlainProcs). q.insts) d.pruned.others

  pub graph_grown : Grown (source_of ordered) ordered.insts last.insts
  graph_grown = subst (λ (J : Insts). Grown (source_of ordered) ordered.insts J) (sym graph_kept) d.forms.grown

  -- so what is told of a mode whose goal is in its order is told over the last graph
  pub mode_is_told : (sigs : List Sig) (goals : List Normal) (exported : List Bool) (first : PlainProcs) (id : ModeId) (p : Proc)
      → IsOrdered sigs goals exported first ordered id p → AllFit last → ((t : TypeTerm) → TypesMet (source_of last) t)
      → OrderIsTold sigs (goal_at goals id.pred) (mode_in sigs id.pred id.mode) last p
  mode_is_told sigs goals exported first id p is fit met = mode_in_last sigs goals exported first ordered last id p is fit program_kept graph_grown met

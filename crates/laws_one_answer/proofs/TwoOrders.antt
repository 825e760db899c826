-- Where goals are put in order in two ways, their orders follow one another over the last graphs.
use Rattle.std.proofs.Common.{◌≡◌, ◌⊎◌, inl, inr, ℕ, zero, suc, ◌<◌, ◌≤◌, Bool, ◌||◌, nat_lt, true, false, if◌then◌else◌, List, [], ◌∷◌, length, map, get_or, refl, sym, ap, ap₂, ◌∙◌, subst, arith}
use Rattle.std.specs.List.{list_any}
use Rattle.std.proofs.Math.Nat.{le_refl}
use Rattle.std.proofs.lemmas.Bool.{cases_lt, ltb-true}
use Rattle.std.proofs.lemmas.List.{get_or-map, get_or_past, length-map, length-take}
use Rattle.mc_program.specs.PlainPrograms.{plain_program, plain_type}
use Rattle.mc_program.specs.Programs.{Source, TypeTerm}
use Rattle.mc_program.specs.Values.{Val}
use Rattle.mc_program.specs.declared.builtin.Builtin.{Builtin}
use Rattle.mc_program.specs.declared.program.Program.{Program}
use Rattle.mc_model.specs.Flat.{variables_of}
use Rattle.mc_model.specs.Outcomes.{Outcome}
use Rattle.mc_model.specs.PlainGoals.{plain_flat, plain_node, plain_proc}
use Rattle.mc_model.specs.declared.flat.Normal.{Normal}
use Rattle.mc_model.specs.declared.inst.ModeDecl.{ModeDecl}
use Rattle.mc_model.specs.declared.inst.Sig.{Sig}
use Rattle.mc_model.specs.declared.sched.GoalNode.{GoalNode}
use Rattle.mc_model.specs.declared.sched.Proc.{Proc}
use Rattle.mc_accepted.specs.Accepted.{entered}
use Rattle.mc_accepted.specs.Arranged.{in_order, arrange}
use Rattle.mc_accepted.specs.NodeOracle.{NodeOracle, of_nodes}
use Rattle.mc_accepted.specs.Determined.{is_dead}
use Rattle.mc_accepted.specs.Fits.{FitsProcedure, FitsTypes}
use Rattle.mc_accepted.specs.InstRules.{PlainInstDef}
use Rattle.mc_accepted.specs.Ordered.{Insts}
use Rattle.mc_accepted.specs.Typing.{TypedGoal}
use Rattle.mc_insts.specs.Graphs.{count_of}
use Rattle.mc_insts.specs.Growing.{Grown}
use Rattle.laws_order.specs.NormalScopes.{EachNamedApart}
use Rattle.laws_order.specs.SomeTest.{TypesMet}
use Rattle.mc_procs.specs.Fitting.{AllFit}
use Rattle.mc_procs.specs.Procedures.{PlainProcs, source_of, insts_of, parameters_in, parameters_of}
use Rattle.mc_procs.specs.VariableTypes as W
use Rattle.mc_mode_state.specs.Agreeing.{OracleAgrees, StateInvariant, TypedAs}
use Rattle.mc_mode_state.specs.Modes.{ModesFit, ModeFits}
use Rattle.mc_mode_state.specs.Nodes.{type_in}
use Rattle.mc_mode_state.proofs.Found.{grown-trans}
use Rattle.mc_modes.specs.Schedules.{IsScheduled, NormalFits}
use Rattle.mc_modes.specs.Signatures.{declared_in, mode_in, modes_at, no_mode}
use Rattle.mc_modes.specs.Tries.{AgreesOnClause, with_types}
use Rattle.mc_modes.specs.NormalGoals.{goal_at}
use Rattle.mc_modes.specs.Numbering.{IsMode, mode_ids}
use Rattle.mc_modes.specs.Outcomes.{IsOrdered}
use Rattle.mc_modes.specs.declared.modes.ModeId.{ModeId}
use Rattle.mc_modes.specs.declared.ordering.Orders.TheVariants as O
use Rattle.laws_graphs.specs.Follows.{InstsFollow, Follows}
use Rattle.laws_graphs.specs.Nodes.{Finds, MeanOne}
use Rattle.laws_graphs.specs.Related.{Related, NodesRelated}
use Rattle.laws_graphs.proofs.GoalsFollow.{entry-follows, order-follows}
use Rattle.laws_graphs.proofs.NodesMeanOne.{nodes-related}
use Rattle.mc_accepted.specs.NormalGoals.{HasNormalGoals}
use Rattle.mc_analysis.specs.Rules.{Determined, Ordered}
use Rattle.mc_analysis.specs.Untidy.{TidyAt}
use Rattle.mc_analysis.proofs.Asking.{only_all}
use Rattle.laws_procedures.proofs.BodyOrders.{same_types}
use Rattle.laws_procedures.proofs.LastGraph.{stands_later, agrees_earlier, program_kept, graph_grown}
use Rattle.laws_procedures.proofs.Listed.{from_many}
use Rattle.laws_procedures.proofs.OfModes.{as_many, id_at, last_program, no_id, ordered_of}
use Rattle.laws_one_answer.specs.FoundNodes.{joins_some, FoundNodes}
use Rattle.laws_one_answer.specs.ModesMeanOne.{AreOne, NodesAreOne, SigsAreOne, ArePlaced, ModesAreOne}
use Rattle.laws_one_answer.proofs.FoundNodes.{in-numbers}
use Rattle.laws_one_answer.proofs.ModesMeanOne.{everywhere, mode-everywhere, modes-mean-one}
use Rattle.laws_one_answer.proofs.NamedApart.{named-apart}
use Rattle.laws_one_answer.proofs.OneRule.{types-kept, related-some}
use Rattle.laws_one_answer.proofs.SigsAreOne.{ids_one}
use Rattle.laws_one_answer.proofs.Stages.{some_at, finals_of}
use Rattle.laws_one_answer.proofs.TidyRuns.{begun, its_pred, normal, normal_fits, procedure_fits}
use Rattle.laws_one_answer.proofs.TwoRuns.{OrdersAreOne}

-- ---- the order of a mode's goal, over the last graph
-- Functions that look for nodes there find those of the order, and tell the truth of the graph.
record ToldLast (sigs : List Sig) (g : Normal) (m : ModeDecl) (last : PlainProcs) (p : Proc) : Type 0 where
  pub choice : NodeOracle
  pub finds : Finds (source_of last) (count_of last.insts) (insts_of last) (joins_some choice)
  pub order :
      (T : ℕ → TypeTerm)
      → ((x : ℕ) → x < length g.var_types → T x ≡ type_in p.var_types x)
      → arrange (of_nodes choice) (source_of last) (declared_in sigs) T (length g.var_types) g.head m.first m.last (plain_flat g.body)
      ≡ in_order (plain_node p.body)

module _ (found : FoundNodes) (sigs : List Sig) (g : Normal) (k : ℕ) (m : ModeDecl) (before after last : PlainProcs) (p : Proc)
    (scheduled : IsScheduled sigs g k m before after p) (fit : AllFit last) (same : last.program ≡ after.program) (grown : Grown (source_of after) after.insts last.insts) where
  abbrev n : ℕ
  n = length g.var_types

  pub stands : StateInvariant last scheduled.end
  stands = stands_later after last scheduled.end scheduled.becomes.stands fit same grown

  pub suits : (C : NodeOracle) (T : ℕ → TypeTerm) → OracleAgrees last scheduled.end C (with_types n scheduled.end T) → AgreesOnClause n after scheduled.end C T
  suits C T a = record { agrees = agrees_earlier after last scheduled.end C (with_types n scheduled.end T) scheduled.becomes.stands fit same grown a }

  pub program_stays : before.program ≡ last.program
  program_stays = sym (ap (λ (q : PlainProcs). q.program) scheduled.becomes.others) ∙ sym same

  -- only the goal's own variables need have these types
  pub typed_with : (T : ℕ → TypeTerm) → ((x : ℕ) → x < n → T x ≡ type_in p.var_types x) → TypedAs scheduled.end (with_types n scheduled.end T)
  typed_with T typed x lt = at (nat_lt x n) (ltb-true x n)
    where
      at : (t : Bool) → (t ≡ true → x < n) → (if t then T x else type_in scheduled.end.types.items x) ≡ type_in scheduled.end.types.items x
      at true less = typed x (less refl) ∙ ap (λ ts. type_in ts x) scheduled.var_types
      at false less = refl

  -- their types are those of the goal
  pub own_type : (x : ℕ) → x < n → type_in p.var_types x ≡ type_in g.var_types x
  own_type x lt = ap (λ ts. type_in ts x) scheduled.var_types ∙ (sym (types-kept scheduled.end.types.items n x lt) ∙ ap (λ ts. type_in ts x) scheduled.becomes.kept)

  pub own_there : n ≤ length p.var_types
  own_there = subst (λ ts. n ≤ length ts) (sym scheduled.var_types) (omega (arith, length-take n scheduled.end.types.items, ap length scheduled.becomes.kept))

  told_last : ((t : TypeTerm) → TypesMet (source_of last) t) → ToldLast sigs g m last p
  told_last met =
      let agree = found last scheduled.end stands met in
      let C : NodeOracle = agree.0 in
      record {
        choice = C;
        finds = agree.2;
        order = λ T typed.
            subst (λ (P : Program). arrange (of_nodes C) (plain_program P) (declared_in sigs) T n g.head m.first m.last (plain_flat g.body) ≡ in_order (plain_node p.body)) program_stays
            (scheduled.becomes.verdict C T (suits C T (agree.1 (with_types n scheduled.end T) (typed_with T typed))));
      }

abbrev pub GrowsTo : (q r : PlainProcs) → Type 0
GrowsTo q r = (r.program ≡ q.program) × Grown (source_of q) q.insts r.insts

-- ---- the final insts of a mode are as many as its predicate's arguments
modes_fit_at : (n : ℕ) (ms : List ModeDecl) (k : ℕ) → ModesFit n ms → k < length ms → ModeFits n (get_or ms k no_mode)
modes_fit_at n [] k h lt = absurd (omega (arith, lt))
modes_fit_at n (m ∷ ms) zero h lt = h.0
modes_fit_at n (m ∷ ms) (suc k) h lt = modes_fit_at n ms k h.1 (omega (arith, lt))

-- ---- a mode's order in one of the ways
module _ (found : FoundNodes) (P : Program) (defs : List PlainInstDef) (sigs : List Sig) (goals : List Normal) (exported : List Bool) (types_met : (t : TypeTerm) → TypesMet (plain_program P) t)
    (o l : PlainProcs) (came : Ordered P defs sigs goals exported O.All o) (is : Determined o l) (fit : AllFit l) where
  its_program : l.program ≡ P
  its_program = last_program P defs sigs goals exported o l came is

  its_growth : Grown (plain_program P) came.first.insts l.insts
  its_growth =
      let same : came.first.program ≡ P = came.begins.program in
      grown-trans (plain_program P) came.first.insts o.insts l.insts (subst (λ (X : Program). Grown (plain_program X) came.first.insts o.insts) same came.grown.grown)
      (subst (λ (X : Program). Grown (plain_program X) o.insts l.insts) (came.grown.program ∙ same) (graph_grown o l is))

  -- the last graph grew from that over which a mode's goal was put in order
  pub grows_to : (k : ℕ) (e : Proc) (lt : k < length (mode_ids P sigs)) → GrowsTo (ordered_of P defs sigs goals exported o l came is k e lt).after l
  grows_to k e lt =
      let a = ordered_of P defs sigs goals exported o l came is k e lt in (
        program_kept o l is ∙ a.ended.program,
        grown-trans (source_of a.after) a.after.insts o.insts l.insts a.ended.grown (subst (λ (X : Program). Grown (plain_program X) o.insts l.insts) a.ended.program (graph_grown o l is)),
      )

  told : (k : ℕ) (e : Proc) → k < length (mode_ids P sigs) →
      ToldLast sigs (goal_at goals (get_or (mode_ids P sigs) k no_id).pred) (mode_in sigs (get_or (mode_ids P sigs) k no_id).pred (get_or (mode_ids P sigs) k no_id).mode) l (get_or o.added k e)
  told k e lt =
      let id : ModeId = get_or (mode_ids P sigs) k no_id in
      let a = ordered_of P defs sigs goals exported o l came is k e lt in
      let r = told_last found sigs (goal_at goals id.pred) id.mode (mode_in sigs id.pred id.mode) a.before a.after l (record (get_or o.added k e) { exported = false }) a.scheduled fit
      (grows_to k e lt).0 (grows_to k e lt).1 (λ t. subst (λ (X : Program). TypesMet (plain_program X) t) (sym its_program) (types_met t)) in
      record { choice = r.choice; finds = r.finds; order = r.order }

  -- the goal's own variables have its types
  module _ (k : ℕ) (e : Proc) (lt : k < length (mode_ids P sigs)) where
    abbrev own_goal : Normal
    own_goal = goal_at goals (get_or (mode_ids P sigs) k no_id).pred

    abbrev in_order_here : IsOrdered sigs goals exported came.first o (get_or (mode_ids P sigs) k no_id) (get_or o.added k e)
    in_order_here = ordered_of P defs sigs goals exported o l came is k e lt

    pub own_type_in : (x : ℕ) → x < length own_goal.var_types → type_in (get_or o.added k e).var_types x ≡ type_in own_goal.var_types x
    own_type_in x less =
        own_type found sigs own_goal (get_or (mode_ids P sigs) k no_id).mode (mode_in sigs (get_or (mode_ids P sigs) k no_id).pred (get_or (mode_ids P sigs) k no_id).mode) in_order_here.before in_order_here.after l (record (get_or o.added k e) { exported = false }) in_order_here.scheduled fit
        (grows_to k e lt).0 (grows_to k e lt).1 x less

    pub own_there_in : length own_goal.var_types ≤ length (get_or o.added k e).var_types
    own_there_in =
        own_there found sigs own_goal (get_or (mode_ids P sigs) k no_id).mode (mode_in sigs (get_or (mode_ids P sigs) k no_id).pred (get_or (mode_ids P sigs) k no_id).mode) in_order_here.before in_order_here.after l (record (get_or o.added k e) { exported = false }) in_order_here.scheduled fit
        (grows_to k e lt).0 (grows_to k e lt).1

-- ---- and in two
module _ (found : FoundNodes) (outcome : Builtin → List Val → Outcome) (P : Program) (defs defs2 : List PlainInstDef) (sigs sigs2 : List Sig) (goals : List Normal) (exported : List Bool) (one_sigs : SigsAreOne (NodesAreOne P defs defs2) sigs sigs2) (normal_goals : HasNormalGoals P goals)
    (named_apart : (p : ℕ) → p < length P.preds → EachNamedApart ((plain_program P).preds p).clauses) (types_met : (t : TypeTerm) → TypesMet (plain_program P) t) (placed : ArePlaced 0 sigs)
    (o1 l1 : PlainProcs) (came1 : Ordered P defs sigs goals exported O.All o1) (is1 : Determined o1 l1) (fit1 : AllFit l1)
    (o2 l2 : PlainProcs) (came2 : Ordered P defs2 sigs2 goals exported O.All o2) (is2 : Determined o2 l2) (fit2 : AllFit l2) where
  abbrev p1 : ℕ → Proc → Proc
  p1 k e = get_or o1.added k e

  abbrev p2 : ℕ → Proc → Proc
  p2 k e = get_or o2.added k e

  abbrev typing : ℕ → Proc → ℕ → TypeTerm
  typing k e = W.type_in (p1 k e).var_types

  program1 : l1.program ≡ P
  program1 = its_program found P defs sigs goals exported types_met o1 l1 came1 is1 fit1

  program2 : l2.program ≡ P
  program2 = its_program found P defs2 sigs2 goals exported types_met o2 l2 came2 is2 fit2

  pub ids_same : mode_ids P sigs2 ≡ mode_ids P sigs
  ids_same = ids_one (NodesAreOne P defs defs2) P sigs sigs2 one_sigs

  pub too : (k : ℕ) → k < length (mode_ids P sigs) → k < length (mode_ids P sigs2)
  too k lt = subst (λ (is : List ModeId). k < length is) (sym ids_same) lt

  module _ (k : ℕ) (e : Proc) (lt : k < length (mode_ids P sigs)) where
    abbrev id : ModeId
    id = get_or (mode_ids P sigs) k no_id

    abbrev g : Normal
    g = goal_at goals id.pred

    abbrev m : ModeDecl
    m = mode_in sigs id.pred id.mode

    abbrev m2 : ModeDecl
    m2 = mode_in sigs2 id.pred id.mode

    abbrev Calling : ℕ → Type 0
    Calling = TidyAt (plain_program P) (insts_of came1.first) sigs

    is_mode : IsMode P sigs id
    is_mode = id_at P sigs k lt

    here : ToldLast sigs g m l1 (p1 k e)
    here = told found P defs sigs goals exported types_met o1 l1 came1 is1 fit1 k e lt

    there : ToldLast sigs2 g m2 l2 (p2 k e)
    there =
        subst (λ (is : List ModeId). ToldLast sigs2 (goal_at goals (get_or is k no_id).pred) (mode_in sigs2 (get_or is k no_id).pred (get_or is k no_id).mode) l2 (p2 k e)) ids_same
        (told found P defs2 sigs2 goals exported types_met o2 l2 came2 is2 fit2 k e (too k lt))

    finds_here : Finds (plain_program P) (count_of l1.insts) (insts_of l1) (joins_some here.choice)
    finds_here = subst (λ (X : Program). Finds (plain_program X) (count_of l1.insts) (insts_of l1) (joins_some here.choice)) program1 here.finds

    finds_there : Finds (plain_program P) (count_of l2.insts) (insts_of l2) (joins_some there.choice)
    finds_there = subst (λ (X : Program). Finds (plain_program X) (count_of l2.insts) (insts_of l2) (joins_some there.choice)) program2 there.finds

    modes : ModesAreOne P sigs sigs2 (insts_of came1.first) l1.insts l2.insts here.choice there.choice
    modes =
        modes-mean-one P defs defs2 sigs sigs2 [] [] came1.first came2.first l1.insts l2.insts one_sigs came1.begins came2.begins came1.asked.insts_there came2.asked.insts_there
        (its_growth found P defs sigs goals exported types_met o1 l1 came1 is1 fit1) (its_growth found P defs2 sigs2 goals exported types_met o2 l2 came2 is2 fit2) here.choice there.choice

    related : Related (of_nodes here.choice) (of_nodes there.choice) (AreOne P l1.insts l2.insts) (plain_program P)
    related =
        related-some P l1.insts l2.insts here.choice there.choice
        (nodes-related (plain_program P) (parameters_in P) (count_of l1.insts) (count_of l2.insts) (insts_of l1) (insts_of l2) (joins_some here.choice) (joins_some there.choice)
        (subst (λ (X : Program). FitsTypes (plain_program X) (parameters_in X)) program1 fit1.program.types)
        (named-apart (plain_program P) came1.begins.insts.are_of.fits) finds_here finds_there)

    -- ---- final insts leave the same dead
    as_many_finals : length m.last ≡ length ((plain_program P).preds id.pred).types
    as_many_finals =
        let first_mode : IsMode came1.first.program sigs id = subst (λ (X : Program). IsMode X sigs id) (sym came1.begins.program) is_mode in
        sym (modes_fit_at (count_of came1.first.insts) (modes_at sigs id.pred) id.mode (came1.asked.insts_there id.pred) first_mode.mode).as_many
        ∙ ((came1.asked.goals_fit id.pred first_mode.pred first_mode.no_builtin id.mode first_mode.mode).as_many
        ∙ (ap length (normal_goals.each id.pred is_mode.pred).head ∙ from_many 0 (length ((plain_program P).preds id.pred).types)))

    dead_alike : (is js : List ℕ) (ts : List TypeTerm) → length is ≡ length ts → NodesRelated (of_nodes here.choice) (of_nodes there.choice) (AreOne P l1.insts l2.insts) is js ts
        → list_any (λ i. is_dead (insts_of l1 i)) is ≡ list_any (λ i. is_dead (insts_of l2 i)) js
    dead_alike [] [] ts l r = refl
    dead_alike [] (j ∷ js) ts l r = absurd r
    dead_alike (i ∷ is) [] ts l r = absurd r
    dead_alike (i ∷ is) (j ∷ js) [] l r = absurd (omega (arith, l))
    dead_alike (i ∷ is) (j ∷ js) (t ∷ ts) l r =
        ap₂ (λ (a b : Bool). a || b) (sym (finds_here.dies i r.0.here) ∙ (related.dead t i j r.0 ∙ finds_there.dies j r.0.there)) (dead_alike is js ts (omega (arith, l)) r.1)

    finals_alike : list_any (λ i. is_dead (insts_of l1 i)) m.last ≡ list_any (λ i. is_dead (insts_of l2 i)) m2.last
    finals_alike = dead_alike m.last m2.last ((plain_program P).preds id.pred).types as_many_finals (modes.final id.pred id.mode (mode-everywhere P defs sigs came1.first placed came1.begins id.pred id.mode))

    -- ---- the orders follow
    fits_here : FitsProcedure (begun outcome P defs sigs goals exported normal_goals named_apart types_met o1 l1 came1 is1 fit1) (parameters_of l1) (plain_proc (p1 k e))
    fits_here = procedure_fits outcome P defs sigs goals exported normal_goals named_apart types_met o1 l1 came1 is1 fit1 k e lt

    in_first : NormalFits came1.first m g
    in_first = normal_fits outcome P defs sigs goals exported normal_goals named_apart types_met o1 l1 came1 is1 fit1 k e lt

    heads : (p1 k e).head ≡ g.head
    heads = (ordered_of P defs sigs goals exported o1 l1 came1 is1 k e lt).scheduled.head

    firsts : (p1 k e).first ≡ m.first
    firsts = (ordered_of P defs sigs goals exported o1 l1 came1 is1 k e lt).scheduled.first

    firsts2 : (p2 k e).first ≡ m2.first
    firsts2 =
        subst (λ (is : List ModeId). (p2 k e).first ≡ (mode_in sigs2 (get_or is k no_id).pred (get_or is k no_id).mode).first) ids_same
        (ordered_of P defs2 sigs2 goals exported o2 l2 came2 is2 k e (too k lt)).scheduled.first

    typed_goal : TypedGoal (plain_program P) (typing k e) (plain_flat g.body)
    typed_goal =
        subst (λ (X : Program). TypedGoal (plain_program X) (typing k e) (plain_flat g.body)) program1
        (subst (TypedGoal (source_of l1) (typing k e)) (sym (normal outcome P defs sigs goals exported normal_goals named_apart types_met o1 l1 came1 is1 fit1 k e lt).body) fits_here.typed)

    head_types : map (typing k e) g.head ≡ ((plain_program P).preds id.pred).types
    head_types =
        ap (map (typing k e)) (sym heads)
        ∙ (fits_here.head_types
        ∙ (ap (λ (X : Program). ((plain_program X).preds (p1 k e).pred).types) program1
        ∙ ap (λ (p : ℕ). ((plain_program P).preds p).types) (its_pred outcome P defs sigs goals exported normal_goals named_apart types_met o1 l1 came1 is1 fit1 k e lt)))

    initials : NodesRelated (of_nodes here.choice) (of_nodes there.choice) (AreOne P l1.insts l2.insts) m.first m2.first (map (typing k e) g.head)
    initials = subst (NodesRelated (of_nodes here.choice) (of_nodes there.choice) (AreOne P l1.insts l2.insts) m.first m2.first) (sym head_types) (modes.initial id.pred id.mode (mode-everywhere P defs sigs came1.first placed came1.begins id.pred id.mode))

    abbrev Q : Source
    Q = source_of l1

    abbrev Mean : Program → TypeTerm → ℕ → ℕ → Type 0
    Mean X t i j = MeanOne (plain_program X) (count_of l1.insts) (insts_of l1) (count_of l2.insts) (insts_of l2) t i j

    abbrev start : Insts
    start = entered (p1 k e).head (p1 k e).first

    abbrev begin : Insts
    begin = entered (p1 k e).head (p2 k e).first

    starts : entered g.head m.first ≡ start
    starts = sym (ap₂ entered heads firsts)

    begins : entered g.head m2.first ≡ begin
    begins = sym (ap₂ entered heads firsts2)

    pub enters_one : InstsFollow Q (typing k e) (length g.var_types) (Mean l1.program) start begin
    enters_one =
        subst (λ (X : Program). InstsFollow (plain_program X) (typing k e) (length g.var_types) (Mean X) start begin) (sym program1)
        (subst (λ (b : Insts). InstsFollow (plain_program P) (typing k e) (length g.var_types) (Mean P) b begin) starts
        (subst (λ (c : Insts). InstsFollow (plain_program P) (typing k e) (length g.var_types) (Mean P) (entered g.head m.first) c) begins
        (entry-follows (plain_program P) Calling (declared_in sigs) (declared_in sigs2) (typing k e) (length g.var_types) (Mean P) here.choice there.choice related modes.declared (length g.var_types) g.head m.first m2.first (in-numbers (length g.var_types) g.head in_first.head) (le_refl (length g.var_types)) initials)))

    abbrev Arranged : List Sig → ModeDecl → NodeOracle → Source → GoalNode → Type 0
    Arranged ss mode C X body = arrange (of_nodes C) X (declared_in ss) (typing k e) (length g.var_types) g.head mode.first mode.last (plain_flat g.body) ≡ in_order (plain_node body)

    first_typed : (x : ℕ) → x < length g.var_types → typing k e x ≡ type_in (p1 k e).var_types x
    first_typed x less = (let l = own_there_in found P defs sigs goals exported types_met o1 l1 came1 is1 fit1 k e lt in same_types (p1 k e).var_types x (omega (arith, less, l)))

    own_type_too : (x : ℕ) → x < length g.var_types → type_in (p2 k e).var_types x ≡ type_in g.var_types x
    own_type_too =
        subst (λ (is : List ModeId). (x : ℕ) → x < length (goal_at goals (get_or is k no_id).pred).var_types → type_in (p2 k e).var_types x ≡ type_in (goal_at goals (get_or is k no_id).pred).var_types x) ids_same
        (own_type_in found P defs2 sigs2 goals exported types_met o2 l2 came2 is2 fit2 k e (too k lt))

    second_typed : (x : ℕ) → x < length g.var_types → typing k e x ≡ type_in (p2 k e).var_types x
    second_typed x less = first_typed x less ∙ (own_type_in found P defs sigs goals exported types_met o1 l1 came1 is1 fit1 k e lt x less ∙ sym (own_type_too x less))

    order_here : Arranged sigs m here.choice (plain_program P) (p1 k e).body
    order_here = subst (λ (X : Program). Arranged sigs m here.choice (plain_program X) (p1 k e).body) program1 (here.order (typing k e) first_typed)

    order_there : Arranged sigs2 m2 there.choice (plain_program P) (p2 k e).body
    order_there = subst (λ (X : Program). Arranged sigs2 m2 there.choice (plain_program X) (p2 k e).body) program2 (there.order (typing k e) second_typed)

    pub bodies_one : Follows Q (typing k e) (length g.var_types) (Mean l1.program) start begin (plain_node (p1 k e).body) (plain_node (p2 k e).body)
    bodies_one =
        subst (λ (X : Program). Follows (plain_program X) (typing k e) (length g.var_types) (Mean X) start begin (plain_node (p1 k e).body) (plain_node (p2 k e).body)) (sym program1)
        (subst (λ (b : Insts). Follows (plain_program P) (typing k e) (length g.var_types) (Mean P) b begin (plain_node (p1 k e).body) (plain_node (p2 k e).body)) starts
        (subst (λ (c : Insts). Follows (plain_program P) (typing k e) (length g.var_types) (Mean P) (entered g.head m.first) c (plain_node (p1 k e).body) (plain_node (p2 k e).body)) begins
        (order-follows (plain_program P) Calling (declared_in sigs) (declared_in sigs2) (typing k e) (length g.var_types) (Mean P) here.choice there.choice related modes.declared (length g.var_types) g.head m.first m.last m2.first m2.last (plain_flat g.body) (plain_node (p1 k e).body) (plain_node (p2 k e).body)
        (only_all Calling (everywhere P defs sigs came1.first placed came1.begins) (plain_flat g.body)) typed_goal (in-numbers (length g.var_types) (variables_of (plain_flat g.body)) in_first.variables) (in-numbers (length g.var_types) g.head in_first.head) (le_refl (length g.var_types)) initials order_here order_there)))

  abbrev last_in : List Sig → ModeId → List ℕ
  last_in ss i = (mode_in ss i.pred i.mode).last

  abbrev DeadAlike : List ℕ → List ℕ → Type 0
  DeadAlike is js = list_any (λ i. is_dead (insts_of l1 i)) is ≡ list_any (λ i. is_dead (insts_of l2 i)) js

  -- whatever the types of other variables are, where they are the same in both ways
  pub orders_are_one : ((k : ℕ) (e : Proc) → k < length (mode_ids P sigs) → map plain_type (p2 k e).var_types ≡ map plain_type (p1 k e).var_types)
      → OrdersAreOne outcome P defs defs2 sigs sigs2 goals exported one_sigs normal_goals named_apart types_met o1 l1 came1 is1 fit1 o2 l2 came2 is2 fit2
  orders_are_one types =
      record {
        own = λ k. length (goal_at goals (get_or (mode_ids P sigs) k no_id).pred).var_types;
        types = types;
        dead = λ k. subst (DeadAlike (finals_of P sigs k)) (ap (λ (is : List ModeId). get_or (map (last_in sigs2) is) k []) (sym ids_same)) (dead_at k (cases_lt k (length (mode_ids P sigs))));
        enters = λ k e lt. enters_one k e lt;
        bodies = λ k e lt. bodies_one k e lt;
      }
    where
      dead_at : (k : ℕ) → (k < length (mode_ids P sigs)) ⊎ (length (mode_ids P sigs) ≤ k) → DeadAlike (finals_of P sigs k) (get_or (map (last_in sigs2) (mode_ids P sigs)) k [])
      dead_at k (inl lt) =
          subst (λ (is : List ℕ). DeadAlike is (get_or (map (last_in sigs2) (mode_ids P sigs)) k [])) (sym (get_or-map (last_in sigs) (mode_ids P sigs) k no_id [] lt))
          (subst (DeadAlike (last_in sigs (get_or (mode_ids P sigs) k no_id))) (sym (get_or-map (last_in sigs2) (mode_ids P sigs) k no_id [] lt))
          (finals_alike k (some_at o1.added k (subst (λ (n : ℕ). k < n) (sym (as_many P defs sigs goals exported o1 l1 came1 is1)) lt)) lt))
      dead_at k (inr le) =
          subst (λ (is : List ℕ). DeadAlike is (get_or (map (last_in sigs2) (mode_ids P sigs)) k [])) (sym (get_or_past (map (last_in sigs) (mode_ids P sigs)) k [] (omega (arith, le, length-map (mode_ids P sigs) (last_in sigs)))))
          (subst (DeadAlike []) (sym (get_or_past (map (last_in sigs2) (mode_ids P sigs)) k [] (omega (arith, le, length-map (mode_ids P sigs) (last_in sigs2))))) refl)

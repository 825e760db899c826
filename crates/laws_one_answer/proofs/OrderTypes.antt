-- Two orders of a mode's goal have one list of variables' types, since each has as many as it numbers.
use Rattle.std.proofs.Common.{◌≡◌, ℕ, ◌<◌, ◌≤◌, Bool, false, cond, nat_eq, List, [], ◌∷◌, length, map, get_or, Option, Some, None, refl, sym, ap, ap₂, ◌∙◌, subst, arith}
use Rattle.std.proofs.Math.Path.{fun_ext}
use Rattle.std.proofs.lemmas.List.{length-map}
use Rattle.mc_program.specs.PlainPrograms.{plain_program, plain_type}
use Rattle.mc_program.specs.Programs.{Source, TypeTerm}
use Rattle.mc_program.specs.Values.{Val}
use Rattle.mc_program.specs.declared.builtin.Builtin.{Builtin}
use Rattle.mc_program.specs.declared.program.Program.{Program}
use Rattle.mc_model.specs.Flat.{Flat_goal, variables_of}
use Rattle.mc_model.specs.Good.{System}
use Rattle.mc_model.specs.Outcomes.{Outcome}
use Rattle.mc_model.specs.PlainGoals.{plain_flat, plain_node, plain_proc}
use Rattle.mc_model.specs.Scheduled.{Node, Nodes, no_nodes, node_then}
use Rattle.mc_model.specs.declared.flat.Normal.{Normal}
use Rattle.mc_model.specs.declared.inst.ModeDecl.{ModeDecl}
use Rattle.mc_model.specs.declared.inst.Sig.{Sig}
use Rattle.mc_model.specs.declared.sched.Proc.{Proc}
use Rattle.mc_accepted.specs.Accepted.{entered}
use Rattle.mc_accepted.specs.Arranged.{Declared, Arranged, runs, breaks, trial, judged, entry, alone, in_order, arrange, first_unmet, unless_unmet}
use Rattle.mc_accepted.specs.NodeOracle.{NodeOracle, of_nodes}
use Rattle.mc_accepted.specs.FreshTests.{TestsAlike, AllAlike}
use Rattle.mc_accepted.specs.InstRules.{PlainInstDef}
use Rattle.mc_accepted.specs.Typing.{TypedGoal}
use Rattle.mc_accepted.specs.code.Standing.{Standing}
use Rattle.mc_accepted.specs.code.Truthful.{Truthful, AllDeclared}
use Rattle.mc_procs.specs.Procedures.{PlainProcs, source_of, insts_of, parameters_of}
use Rattle.mc_modes.specs.Arrangements.{NumbersTo}
use Rattle.mc_modes.specs.Schedules.{NormalFits}
use Rattle.mc_modes.specs.Signatures.{declared_in, mode_in}
use Rattle.mc_modes.specs.Tries.{AgreesOnClause, with_types}
use Rattle.mc_accepted.specs.Fits.{FitsProcedure}
use Rattle.mc_accepted.specs.Ordered.{Insts, variables_of_node}
use Rattle.mc_insts.specs.Graphs.{count_of}
use Rattle.laws_order.specs.NormalScopes.{EachNamedApart}
use Rattle.laws_order.specs.OrderLaws.{Below}
use Rattle.laws_order.specs.SomeTest.{TypesMet}
use Rattle.laws_order.proofs.SomeTest.{some_test_tells, nodes_are_told}
use Rattle.laws_order.proofs.Tidying.{entries-are-tidy}
use Rattle.mc_procs.specs.Fitting.{AllFit}
use Rattle.mc_procs.specs.VariableTypes as W
use Rattle.mc_mode_state.specs.Agreeing.{OracleAgrees, StateInvariant, TypedAs}
use Rattle.mc_mode_state.specs.Nodes.{type_in}
use Rattle.laws_modes.specs.OrdersNamed.{FindsBelow}
use Rattle.laws_modes.proofs.ChosenNodes.{some-agree}
use Rattle.mc_modes.specs.NormalGoals.{goal_at}
use Rattle.mc_modes.specs.Numbering.{mode_ids}
use Rattle.mc_modes.specs.Outcomes.{IsOrdered}
use Rattle.mc_modes.specs.declared.modes.ModeId.{ModeId}
use Rattle.mc_modes.specs.declared.ordering.Orders.TheVariants as O
use Rattle.mc_accepted.specs.NormalGoals.{HasNormalGoals}
use Rattle.laws_graphs.specs.Follows.{Follows}
use Rattle.laws_graphs.specs.Nodes.{MeanOne}
use Rattle.mc_analysis.specs.Rules.{Determined, Ordered}
use Rattle.laws_procedures.proofs.BodyOrders.{same_types, alike_moves}
use Rattle.laws_procedures.proofs.OfModes.{no_id, ordered_of}
use Rattle.laws_one_answer.specs.FoundNodes.{FoundNodes}
use Rattle.laws_one_answer.specs.ModesMeanOne.{NodesAreOne, SigsAreOne, ArePlaced}
use Rattle.laws_one_answer.proofs.FoundNodes.{in-numbers}
use Rattle.laws_one_answer.proofs.FreshTypes.{test_follows, test_leads, types_alike}
use Rattle.laws_one_answer.proofs.SigsAreOne.{ids_one}
use Rattle.laws_one_answer.proofs.TidyRuns.{begun, below, declared, ends, normal, normal_fits, procedure_fits, same_program}
use Rattle.laws_one_answer.proofs.TwoOrders.{GrowsTo, grows_to, stands, suits, program_stays, typed_with, own_there, own_type_in, bodies_one}
use Rattle.laws_order.specs.Tidying.{EndsTidily, TidyPoint}
use Rattle.laws_order.proofs.ArrangedGoals.{arranged-stands}

-- ---- what stands for a goal that numbers so many variables
module _ (S : System) (T : ℕ → TypeTerm) (C : NodeOracle) (modes : ℕ → List Declared) (truthful : Truthful S T C) (declared : (q : ℕ) → (S.world.source.preds q).builtin ≡ None → AllDeclared S T q (modes q)) (ends : EndsTidily S)
    (goal : Flat_goal) (own count : ℕ) (head first last : List ℕ) (x : Node) (typed : TypedGoal S.world.source T goal) (enters : TidyPoint S T (entered head first)) (alike : TestsAlike T own x) where
  abbrev P : Source
  P = S.world.source

  abbrev start : Insts
  start = entered head first

  entry_at : (xs is : List ℕ) (y : ℕ) → entry (of_nodes C) P modes T xs is y ≡ entered xs is y
  entry_at [] is y = refl
  entry_at (z ∷ zs) [] y = refl
  entry_at (z ∷ zs) (i ∷ is) y = ap (λ k. cond (nat_eq y z) i k) (entry_at zs is y)

  alone_alike : (k : ℕ) (o : Option Insts) (gs : Nodes) → TestsAlike T own (alone (of_nodes C) k start o gs) → AllAlike T own gs
  alone_alike k o no_nodes h = tt
  alone_alike k o (node_then y no_nodes) h = (h, tt)
  alone_alike k o (node_then y (node_then z gs)) h = h

  -- the order stands, and the next number is behind those that it numbers
  pub record StandsTo : Type 0 where
    pub after : Option Insts
    pub order : Standing S T head own start goal x after count

  stands_as : (gs : Nodes) (o : Option Insts) (k : ℕ) (zs : List ℕ) → trial (of_nodes C) P modes T goal head own start ≡ runs gs o k zs → k ≡ count → alone (of_nodes C) k start o gs ≡ x → StandsTo
  stands_as gs o k zs e same is =
      record {
        after = o;
        order =
            subst (λ (n : ℕ). Standing S T head own start goal x o n) same
            (subst (λ (y : Node). Standing S T head own start goal y o k) is
            (arranged-stands S T C modes truthful declared ends goal head own start gs o k zs typed enters e (alone_alike k o gs (subst (TestsAlike T own) (sym is) alike))));
      }

  counted : (r : Arranged ℕ) → trial (of_nodes C) P modes T goal head own start ≡ r → NumbersTo count r → judged (of_nodes C) P modes T head last start r ≡ in_order x → StandsTo
  counted (breaks f) e n j = absurd n
  counted (runs gs None k zs) e n j = stands_as gs None k zs e n (let q : in_order (alone (of_nodes C) k start None gs) ≡ in_order x = j in cc)
  counted (runs gs (Some c) k zs) e n j = at (first_unmet (of_nodes C) P modes T 0 head last c) j
    where
      at : (r : Option ℕ) → unless_unmet (alone (of_nodes C) k start (Some c) gs) r ≡ in_order x → StandsTo
      at None j = stands_as gs (Some c) k zs e n (let q : in_order (alone (of_nodes C) k start (Some c) gs) ≡ in_order x = j in cc)
      at (Some v) j = cc

  pub stands_to : arrange (of_nodes C) P modes T own head first last goal ≡ in_order x → NumbersTo count (trial (of_nodes C) P modes T goal head own (entry (of_nodes C) P modes T head first)) → StandsTo
  stands_to order numbers =
      let same : entry (of_nodes C) P modes T head first ≡ start = fun_ext (entry_at head first) in
      counted (trial (of_nodes C) P modes T goal head own start) refl (subst (λ (b : Insts). NumbersTo count (trial (of_nodes C) P modes T goal head own b)) same numbers)
      (subst (λ (b : Insts). judged (of_nodes C) P modes T head last b (trial (of_nodes C) P modes T goal head own b) ≡ in_order x) same order)

-- ---- the order of a mode's goal in one way
module _ (found : FoundNodes) (outcome : Builtin → List Val → Outcome) (P : Program) (defs : List PlainInstDef) (sigs : List Sig) (goals : List Normal) (exported : List Bool) (normal_goals : HasNormalGoals P goals)
    (named_apart : (p : ℕ) → p < length P.preds → EachNamedApart ((plain_program P).preds p).clauses) (types_met : (t : TypeTerm) → TypesMet (plain_program P) t) where
  module _ (o l : PlainProcs) (came : Ordered P defs sigs goals exported O.All o) (is : Determined o l) (fit : AllFit l) (k : ℕ) (e : Proc) (lt : k < length (mode_ids P sigs)) where
    abbrev id : ModeId
    id = get_or (mode_ids P sigs) k no_id

    abbrev g : Normal
    g = goal_at goals id.pred

    abbrev m : ModeDecl
    m = mode_in sigs id.pred id.mode

    abbrev p : Proc
    p = get_or o.added k e

    abbrev in_way : IsOrdered sigs goals exported came.first o id p
    in_way = ordered_of P defs sigs goals exported o l came is k e lt

    abbrev plain : Proc
    plain = record p { exported = false }

    grown : GrowsTo in_way.after l
    grown = grows_to found P defs sigs goals exported types_met o l came is fit k e lt

    abbrev T : ℕ → TypeTerm
    T = W.type_in p.var_types

    abbrev S : System
    S = begun outcome P defs sigs goals exported normal_goals named_apart types_met o l came is fit

    own : length g.var_types ≤ length p.var_types
    own = own_there found sigs g id.mode m in_way.before in_way.after l plain in_way.scheduled fit grown.0 grown.1

    typed_here : (x : ℕ) → x < length g.var_types → T x ≡ type_in p.var_types x
    typed_here x less = (let l = own in same_types p.var_types x (omega (arith, less, l)))

    stands_here : StateInvariant l in_way.scheduled.end
    stands_here = stands found sigs g id.mode m in_way.before in_way.after l plain in_way.scheduled fit grown.0 grown.1

    agree : (C : NodeOracle) × ((U : ℕ → TypeTerm) → TypedAs in_way.scheduled.end U → OracleAgrees l in_way.scheduled.end C U) × FindsBelow (count_of l.insts) C
        × ((R : System) → R.world.source ≡ source_of l → R.insts ≡ insts_of l → (U : ℕ → TypeTerm) → Truthful R U C)
    agree =
        some-agree some_test_tells nodes_are_told l in_way.scheduled.end stands_here
        (λ t. subst (λ (X : Program). TypesMet (plain_program X) t) (sym (same_program outcome P defs sigs goals exported normal_goals named_apart types_met o l came is fit)) (types_met t))

    suits_here : AgreesOnClause (length g.var_types) in_way.after in_way.scheduled.end agree.0 T
    suits_here =
        suits found sigs g id.mode m in_way.before in_way.after l plain in_way.scheduled fit grown.0 grown.1 agree.0 T
        (agree.1 (with_types (length g.var_types) in_way.scheduled.end T) (typed_with found sigs g id.mode m in_way.before in_way.after l plain in_way.scheduled fit grown.0 grown.1 T typed_here))

    program_before : in_way.before.program ≡ l.program
    program_before = program_stays found sigs g id.mode m in_way.before in_way.after l plain in_way.scheduled fit grown.0 grown.1

    goal_fits : FitsProcedure S (parameters_of l) (plain_proc p)
    goal_fits = procedure_fits outcome P defs sigs goals exported normal_goals named_apart types_met o l came is fit k e lt

    names : NormalFits came.first m g
    names = normal_fits outcome P defs sigs goals exported normal_goals named_apart types_met o l came is fit k e lt

    there : Below (length p.var_types) (variables_of_node (plain_node p.body))
    there = below outcome P defs sigs goals exported normal_goals named_apart types_met o l came is fit k e lt

    test_types : TestsAlike T (length g.var_types) (plain_node p.body)
    test_types = alike_moves (type_in p.var_types) T (length g.var_types) (length p.var_types) (same_types p.var_types) (plain_node p.body) there in_way.scheduled.alike

    enters : TidyPoint S T (entered g.head m.first)
    enters = subst (TidyPoint S T) (ap₂ entered in_way.scheduled.head in_way.scheduled.first) (entries-are-tidy S (parameters_of l) (plain_proc p) fit.program.insts_are.insts goal_fits)

    pub standing : (d : Option Insts) × Standing S T g.head (length g.var_types) (entered g.head m.first) (plain_flat g.body) (plain_node p.body) d (length p.var_types)
    standing =
        let r = stands_to S T agree.0 (declared_in sigs) (agree.3 S refl refl T) (declared outcome P defs sigs goals exported normal_goals named_apart types_met o l came is fit k e lt)
        (ends outcome P defs sigs goals exported normal_goals named_apart types_met o l came is fit) (plain_flat g.body) (length g.var_types) (length p.var_types) g.head m.first m.last (plain_node p.body)
        (subst (TypedGoal (source_of l) T) (sym (normal outcome P defs sigs goals exported normal_goals named_apart types_met o l came is fit k e lt).body) goal_fits.typed) enters test_types
        (subst (λ (X : Program). arrange (of_nodes agree.0) (plain_program X) (declared_in sigs) T (length g.var_types) g.head m.first m.last (plain_flat g.body) ≡ in_order (plain_node p.body)) program_before (in_way.scheduled.becomes.verdict agree.0 T suits_here))
        (subst (λ (X : Program). NumbersTo (length p.var_types) (trial (of_nodes agree.0) (plain_program X) (declared_in sigs) T (plain_flat g.body) g.head (length g.var_types) (entry (of_nodes agree.0) (plain_program X) (declared_in sigs) T g.head m.first))) program_before
        (in_way.scheduled.numbered agree.0 T suits_here)) in
        (r.after, r.order)

-- So in two ways orders make variables of one type.
module _ (found : FoundNodes) (outcome : Builtin → List Val → Outcome) (P : Program) (defs defs2 : List PlainInstDef) (sigs sigs2 : List Sig) (goals : List Normal) (exported : List Bool) (one_sigs : SigsAreOne (NodesAreOne P defs defs2) sigs sigs2) (normal_goals : HasNormalGoals P goals)
    (named_apart : (p : ℕ) → p < length P.preds → EachNamedApart ((plain_program P).preds p).clauses) (types_met : (t : TypeTerm) → TypesMet (plain_program P) t) (placed : ArePlaced 0 sigs)
    (o1 l1 : PlainProcs) (came1 : Ordered P defs sigs goals exported O.All o1) (is1 : Determined o1 l1) (fit1 : AllFit l1) (o2 l2 : PlainProcs) (came2 : Ordered P defs2 sigs2 goals exported O.All o2) (is2 : Determined o2 l2) (fit2 : AllFit l2)
    (k : ℕ) (e : Proc) (lt : k < length (mode_ids P sigs)) where
  abbrev ids : List ModeId
  ids = mode_ids P sigs

  abbrev goal : Normal
  goal = goal_at goals (get_or ids k no_id).pred

  abbrev p1 : Proc
  p1 = get_or o1.added k e

  abbrev p2 : Proc
  p2 = get_or o2.added k e

  abbrev m1 : ModeDecl
  m1 = mode_in sigs (get_or ids k no_id).pred (get_or ids k no_id).mode

  abbrev m2 : ModeDecl
  m2 = mode_in sigs2 (get_or ids k no_id).pred (get_or ids k no_id).mode

  ids_two : mode_ids P sigs2 ≡ ids
  ids_two = ids_one (NodesAreOne P defs defs2) P sigs sigs2 one_sigs

  abbrev too_lt : k < length (mode_ids P sigs2)
  too_lt = subst (λ (is : List ModeId). k < length is) (sym ids_two) lt

  abbrev S1 : System
  S1 = S found outcome P defs sigs goals exported normal_goals named_apart types_met o1 l1 came1 is1 fit1 k e lt

  abbrev S2 : System
  S2 = S found outcome P defs2 sigs2 goals exported normal_goals named_apart types_met o2 l2 came2 is2 fit2 k e too_lt

  abbrev goal_in : List ModeId → Normal
  goal_in is = goal_at goals (get_or is k no_id).pred

  abbrev mode2_in : List ModeId → ModeDecl
  mode2_in is = mode_in sigs2 (get_or is k no_id).pred (get_or is k no_id).mode

  standing1 : (d : Option Insts) × Standing S1 (W.type_in p1.var_types) goal.head (length goal.var_types) (entered goal.head m1.first) (plain_flat goal.body) (plain_node p1.body) d (length p1.var_types)
  standing1 = standing found outcome P defs sigs goals exported normal_goals named_apart types_met o1 l1 came1 is1 fit1 k e lt

  standing2 : (d : Option Insts) × Standing S2 (W.type_in p2.var_types) goal.head (length goal.var_types) (entered goal.head m2.first) (plain_flat goal.body) (plain_node p2.body) d (length p2.var_types)
  standing2 =
      subst (λ (is : List ModeId). (d : Option Insts) × Standing S2 (W.type_in p2.var_types) (goal_in is).head (length (goal_in is).var_types) (entered (goal_in is).head (mode2_in is).first) (plain_flat (goal_in is).body) (plain_node p2.body) d (length p2.var_types)) ids_two
      (standing found outcome P defs2 sigs2 goals exported normal_goals named_apart types_met o2 l2 came2 is2 fit2 k e too_lt)

  tests2 : TestsAlike (W.type_in p2.var_types) (length goal.var_types) (plain_node p2.body)
  tests2 = subst (λ (is : List ModeId). TestsAlike (W.type_in p2.var_types) (length (goal_in is).var_types) (plain_node p2.body)) ids_two (test_types found outcome P defs2 sigs2 goals exported normal_goals named_apart types_met o2 l2 came2 is2 fit2 k e too_lt)

  typed1 : (w : ℕ) → w < length goal.var_types → W.type_in p1.var_types w ≡ type_in goal.var_types w
  typed1 w less = typed_here found outcome P defs sigs goals exported normal_goals named_apart types_met o1 l1 came1 is1 fit1 k e lt w less ∙ own_type_in found P defs sigs goals exported types_met o1 l1 came1 is1 fit1 k e lt w less

  typed2 : (w : ℕ) → w < length goal.var_types → W.type_in p2.var_types w ≡ type_in goal.var_types w
  typed2 =
      subst (λ (is : List ModeId). (w : ℕ) → w < length (goal_in is).var_types → W.type_in p2.var_types w ≡ type_in (goal_in is).var_types w) ids_two
      (λ w less. typed_here found outcome P defs2 sigs2 goals exported normal_goals named_apart types_met o2 l2 came2 is2 fit2 k e too_lt w less ∙ own_type_in found P defs2 sigs2 goals exported types_met o2 l2 came2 is2 fit2 k e too_lt w less)

  same_own : (w : ℕ) → w < length goal.var_types → W.type_in p1.var_types w ≡ W.type_in p2.var_types w
  same_own w less = typed1 w less ∙ sym (typed2 w less)

  follow : Follows (source_of l1) (W.type_in p1.var_types) (length goal.var_types) (λ t i j. MeanOne (source_of l1) (count_of l1.insts) (insts_of l1) (count_of l2.insts) (insts_of l2) t i j) (entered p1.head p1.first) (entered p1.head p2.first) (plain_node p1.body) (plain_node p2.body)
  follow = bodies_one found outcome P defs defs2 sigs sigs2 goals exported one_sigs normal_goals named_apart types_met placed o1 l1 came1 is1 fit1 o2 l2 came2 is2 fit2 k e lt

  pub types_are_one : map plain_type p2.var_types ≡ map plain_type p1.var_types
  types_are_one =
      let a = standing1 in
      let b = standing2 in
      let many1 : length p1.var_types ≡ length (map plain_type p1.var_types) = sym (length-map p1.var_types plain_type) in
      let many2 : length p2.var_types ≡ length (map plain_type p2.var_types) = sym (length-map p2.var_types plain_type) in
      let fits : NormalFits came1.first m1 goal = names found outcome P defs sigs goals exported normal_goals named_apart types_met o1 l1 came1 is1 fit1 k e lt in
      let means : TypeTerm → ℕ → ℕ → Type 0 = λ t i j. MeanOne (source_of l1) (count_of l1.insts) (insts_of l1) (count_of l2.insts) (insts_of l2) t i j in
      sym
      (types_alike S1 S2 (map plain_type p1.var_types) (map plain_type p2.var_types) goal.head goal.head (length goal.var_types)
      (entered goal.head m1.first) (entered goal.head m2.first) (plain_flat goal.body) (plain_node p1.body) (plain_node p2.body) a.0 b.0
      (subst (λ (n : ℕ). Standing S1 (W.type_in p1.var_types) goal.head (length goal.var_types) (entered goal.head m1.first) (plain_flat goal.body) (plain_node p1.body) a.0 n) many1 a.1)
      (subst (λ (n : ℕ). Standing S2 (W.type_in p2.var_types) goal.head (length goal.var_types) (entered goal.head m2.first) (plain_flat goal.body) (plain_node p2.body) b.0 n) many2 b.1)
      (in-numbers (length goal.var_types) (variables_of (plain_flat goal.body)) fits.variables)
      (subst (λ (n : ℕ). Below n (variables_of_node (plain_node p1.body))) many1 (there found outcome P defs sigs goals exported normal_goals named_apart types_met o1 l1 came1 is1 fit1 k e lt))
      (subst (λ (n : ℕ). Below n (variables_of_node (plain_node p2.body))) many2 (there found outcome P defs2 sigs2 goals exported normal_goals named_apart types_met o2 l2 came2 is2 fit2 k e too_lt))
      same_own (test_types found outcome P defs sigs goals exported normal_goals named_apart types_met o1 l1 came1 is1 fit1 k e lt) tests2
      (λ v w h. test_follows (source_of l1) (W.type_in p1.var_types) (length goal.var_types) means v w (entered p1.head p1.first) (entered p1.head p2.first) (plain_node p1.body) (plain_node p2.body) follow h)
      (λ v w h. test_leads (source_of l1) (W.type_in p1.var_types) (length goal.var_types) means v w (entered p1.head p1.first) (entered p1.head p2.first) (plain_node p1.body) (plain_node p2.body) follow h))

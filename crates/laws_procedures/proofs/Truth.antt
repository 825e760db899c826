-- What comes where no rule is broken is computed, procedure by procedure; so the procedures are good.
use Rattle.std.proofs.Common.{◌≡◌, ℕ, ◌<◌, ◌≤◌, List, [], ◌∷◌, length, get_or, Bool, Option, None, refl, sym, ap, ◌∙◌, subst, arith}
use Rattle.mc_source.specs.declared.det.Det.{Det}
use Rattle.mc_program.specs.Programs.{Source, TypeTerm}
use Rattle.mc_program.specs.PlainPrograms.{plain_program}
use Rattle.mc_program.specs.Values.{Val}
use Rattle.mc_program.specs.declared.builtin.Builtin.{Builtin}
use Rattle.mc_program.specs.declared.builtin.Builtin.TheVariants as B
use Rattle.mc_program.specs.declared.program.Program.{Program}
use Rattle.mc_model.specs.Builtins.{Library, outcome}
use Rattle.mc_model.specs.Good.{System}
use Rattle.mc_model.specs.Outcomes.{Outcome}
use Rattle.mc_model.specs.PlainGoals.{plain_node, plain_proc}
use Rattle.mc_model.specs.Scheduled.{Node, Procedure}
use Rattle.mc_model.specs.Worlds.{library_of}
use Rattle.mc_model.specs.declared.flat.Normal.{Normal}
use Rattle.mc_model.specs.declared.inst.ModeDecl.{ModeDecl}
use Rattle.mc_model.specs.declared.inst.Sig.{Sig}
use Rattle.mc_model.specs.declared.sched.Proc.{Proc}
use Rattle.mc_accepted.specs.Accepted.{Accepted}
use Rattle.mc_accepted.specs.BuiltinFits.{FitsBuiltins}
use Rattle.mc_accepted.specs.BuiltinTypes.{Library_types}
use Rattle.mc_accepted.specs.Fits.{Fits, FitsProcedure, type_of}
use Rattle.mc_accepted.specs.DeterminismFaults.{procedure_fault}
use Rattle.mc_accepted.specs.Inferred.{Closed, DeclaredProcedure, DeclaredSystem}
use Rattle.mc_accepted.specs.InstRules.{PlainInstDef}
use Rattle.mc_accepted.specs.IoFits.{FitsIo}
use Rattle.mc_accepted.specs.Ordered.{Insts, variables_of_node}
use Rattle.mc_accepted.specs.Unmarked.{changed_node}
use Rattle.mc_accepted.specs.code.Truthful.{AllDeclared}
use Rattle.laws_order.specs.NormalScopes.{EachNamedApart}
use Rattle.laws_order.specs.OrderLaws.{Below}
use Rattle.laws_order.specs.SomeTest.{TypesMet}
use Rattle.laws_order.specs.Tidying.{EndsTidily}
use Rattle.mc_procs.specs.Fitting.{AllFit}
use Rattle.mc_procs.specs.Procedures.{PlainProcs, as_system, parameters_of, source_of}
use Rattle.mc_modes.specs.Signatures.{declared_in, mode_in}
use Rattle.mc_modes.specs.Schedules.{NormalFits}
use Rattle.mc_modes.specs.NormalGoals.{goal_at}
use Rattle.mc_modes.specs.Numbering.{IsMode, mode_ids}
use Rattle.mc_modes.specs.declared.modes.ModeId.{ModeId}
use Rattle.mc_modes.specs.declared.ordering.Orders.TheVariants as O
use Rattle.mc_det_constraints.specs.Least.{assigned}
use Rattle.mc_det.specs.Determinisms.{declared_system}
use Rattle.mc_det.specs.MarkedProcedures.{determinisms_of}
use Rattle.laws_accepted.proofs.NoFaults.{no_fault_anywhere}
use Rattle.laws_accepted.specs.AcceptedLaws.{BodyIsOrdered, ComputedAreAccepted, IsComputed, IsInOrder, IsTold}
use Rattle.mc_switch.specs.Kept.{Suits}
use Rattle.laws_sound.specs.BuiltinLaws.{BuiltinsFit, MakesTypes}
use Rattle.laws_sound.specs.IoLaws.{BuiltinsDoIo}
use Rattle.laws_sound.specs.Soundness.{AcceptedAreGood, AcceptedQueriesAreGood}
use Rattle.mc_self_check.specs.HasLibrary.{HasLibrary}
use Rattle.mc_self_check.specs.MadeTypes.{AllMakeTypes, LibraryMakesTypes}
use Rattle.mc_accepted.specs.NormalGoals.{HasNormalGoals, IsNormalGoal}
use Rattle.mc_analysis.specs.Premises.{Preconditions}
use Rattle.mc_analysis.specs.Rules.{Determined, FaultsAre, Ordered, break_no_rule}
use Rattle.laws_procedures.specs.TruthOfRules.{TrueProcedures, TruthOfRules}
use Rattle.laws_procedures.proofs.Bodies.{is_formed, told_at}
use Rattle.laws_procedures.proofs.BodyOrders.{bodies_are_ordered, body_in_order, fits_without_body, next_is_own}
use Rattle.laws_procedures.proofs.Closed.{closed, determined_fits, determined_system, system_is_determined}
use Rattle.laws_procedures.proofs.Ends.{ends_of_system}
use Rattle.laws_procedures.proofs.Forms.{closed_suits, forms_are_merged, is_tidy_order, variables_there}
use Rattle.laws_procedures.proofs.LastGraph.{OrderIsTold, mode_is_told}
use Rattle.laws_procedures.proofs.Listed.{from_many}
use Rattle.laws_procedures.proofs.OfModes.{as_many, declared_is, id_at, last_as_many, last_program, no_id, ordered_of, stayed_at}
use Rattle.laws_procedures.proofs.Told.{is_told, modes_of_system}

some_at : (ps : List Proc) (k : ℕ) → k < length ps → Proc
some_at [] k lt = absurd (omega (arith, lt))
some_at (p ∷ ps) k lt = p

module _ (P : Program) (defs : List PlainInstDef) (sigs : List Sig) (goals : List Normal) (exported : List Bool) (are_normal : HasNormalGoals P goals) (named_apart : (p : ℕ) → p < length P.preds → EachNamedApart ((plain_program P).preds p).clauses) (types_met : (t : TypeTerm) → TypesMet (plain_program P) t) (ordered last : PlainProcs) (came : Ordered P defs sigs goals exported O.All ordered) (is : Determined ordered last) (fit : AllFit last) (outcome : Builtin → List Val → Outcome) (builtins : FitsBuiltins (as_system outcome last).world) (K : Library_types) (io : FitsIo (as_system outcome last).world K) where
  abbrev S : System
  S = determined_system outcome last

  abbrev D : DeclaredSystem
  D = declared_system outcome last

  abbrev dets : ℕ → Det
  dets = assigned (determinisms_of last)

  are_closed : Closed D dets
  are_closed = closed outcome last is.least

  fits : Fits S (parameters_of last)
  fits = determined_fits outcome last fit builtins K io

  suits : Suits last S
  suits = closed_suits outcome last dets are_closed

  asked : Preconditions came.first sigs goals exported
  asked = came.asked

  same_program : last.program ≡ P
  same_program = last_program P defs sigs goals exported ordered last came is

  module _ (k : ℕ) (there : k < length last.added) where
    listed : k < length (mode_ids P sigs)
    listed = subst (λ n. k < n) (last_as_many P defs sigs goals exported ordered last came is) there

    in_ordered : k < length ordered.added
    in_ordered = subst (λ n. k < n) (sym (as_many P defs sigs goals exported ordered last came is)) listed

    abbrev e : Proc
    e = some_at last.added k there

    abbrev id : ModeId
    id = get_or (mode_ids P sigs) k no_id

    abbrev g : Normal
    g = goal_at goals id.pred

    abbrev m : ModeDecl
    m = mode_in sigs id.pred id.mode

    abbrev p : Proc
    p = get_or ordered.added k e

    abbrev r : Proc
    r = get_or last.added k e

    is_mode : IsMode P sigs id
    is_mode = id_at P sigs k listed

    -- the procedure that runs, but for its body and its determinism
    abbrev as_ran : Procedure
    as_ran = record (plain_proc p) { body = plain_node r.body; det = dets k }

    ran : S.procs k ≡ as_ran
    ran =
        ap (λ (d : DeclaredProcedure). record (d.procedure) { det = dets k }) (declared_is last.added k e there)
        ∙ ap (λ (q : Proc). record (plain_proc q) { det = dets k }) (stayed_at P defs sigs goals exported ordered last came is k e listed)

    told : OrderIsTold sigs g m last p
    told =
        mode_is_told ordered last is sigs goals exported came.first id p (ordered_of P defs sigs goals exported ordered last came is k e listed) fit
        (λ t. subst (λ Q. TypesMet (plain_program Q) t) (sym same_program) (types_met t))

    its_pred : p.pred ≡ id.pred
    its_pred = (ordered_of P defs sigs goals exported ordered last came is k e listed).scheduled.pred ∙ (are_normal.each id.pred is_mode.pred).pred

    normal : IsNormalGoal S.world.source p.pred g
    normal =
        subst (λ Q. IsNormalGoal (plain_program Q) p.pred g) (sym same_program)
        (subst (λ n. IsNormalGoal (plain_program P) n g) (sym its_pred) (are_normal.each id.pred is_mode.pred))

    normal_fits : NormalFits came.first m g
    normal_fits =
        let first_mode : IsMode came.first.program sigs id = subst (λ Q. IsMode Q sigs id) (sym came.begins.program) is_mode in
        asked.goals_fit id.pred first_mode.pred first_mode.no_builtin id.mode first_mode.mode

    apart : EachNamedApart (S.world.source.preds p.pred).clauses
    apart =
        subst (λ Q. EachNamedApart ((plain_program Q).preds p.pred).clauses) (sym same_program)
        (subst (λ n. EachNamedApart ((plain_program P).preds n).clauses) (sym its_pred) (named_apart id.pred is_mode.pred))

    procedure_fits : FitsProcedure S (parameters_of last) (plain_proc p)
    procedure_fits = fits_without_body S (parameters_of last) (plain_proc p) (S.procs k) (plain_node r.body) (dets k) ran (fits.procedures k there)

    below : Below (length p.var_types) (variables_of_node (plain_node p.body))
    below = variables_there ordered last is S fit suits k e in_ordered (told_at outcome ordered last is k e in_ordered)

    ends : EndsTidily S
    ends = ends_of_system S (parameters_of last) fits fit.program.insts_are.fits

    declared : (q : ℕ) → (S.world.source.preds q).builtin ≡ None → AllDeclared S (type_of S (plain_proc p)) q (declared_in sigs q)
    declared = modes_of_system outcome P defs sigs goals exported ordered last came is are_normal asked (type_of S (plain_proc p))

    abbrev in_order : IsInOrder S (plain_proc p) (plain_node p.body)
    in_order =
        body_in_order S (parameters_of last) sigs g m came.first last p told refl refl fits.insts procedure_fits ends declared normal normal_fits apart below

    next : in_order.next ≡ length g.var_types
    next =
        next_is_own S (parameters_of last) sigs g m came.first last p told refl refl fits.insts procedure_fits ends declared normal normal_fits apart below

    own : in_order.next ≤ length p.var_types
    own = subst (λ n. n ≤ length p.var_types) (sym next) told.own

    is_told_ran : IsTold S as_ran
    is_told_ran = subst (IsTold S) ran (is_told outcome P defs sigs goals exported ordered last came is are_normal asked k listed)

    as_long : length p.last ≡ length p.head
    as_long = is_told_ran.last ∙ sym (ap length is_told_ran.head ∙ from_many 0 (length (S.world.source.preds p.pred).types))

    ordered_body : (n : Node) × (changed_node n ≡ plain_node p.body) × ((o : Option Insts) × BodyIsOrdered S (plain_proc p) n o)
    ordered_body = bodies_are_ordered S (plain_proc p) (plain_node p.body) in_order as_long

    computed : procedure_fault S (D.procs k) (S.procs k) ≡ None → IsComputed S (D.procs k) (S.procs k)
    computed faultless =
        let n : Node = ordered_body.0 in
        let o : Option Insts = ordered_body.2.0 in
        let f = forms_are_merged ordered last is S fit suits k e in_ordered refl (is_tidy_order S p in_order own below) in
        record {
          goal = n;
          after = o;
          ordered = subst (λ (q : Procedure). BodyIsOrdered S q n o) (sym ran) (ran_ordered n o ordered_body.2.1);
          form = is_formed outcome ordered last is k e in_ordered n ordered_body.1 f.0 f.1 f.2;
          told = is_told outcome P defs sigs goals exported ordered last came is are_normal asked k listed;
          faultless = faultless;
        }
      where
        ran_ordered : (n : Node) (o : Option Insts) → BodyIsOrdered S (plain_proc p) n o → BodyIsOrdered S as_ran n o
        ran_ordered n o h = h

  is_accepted : ComputedAreAccepted → (runs : Bool) → FaultsAre runs last [] → Accepted S
  is_accepted accept runs none =
      accept D dets fits.insts are_closed
      (λ k lt. computed k lt (no_fault_anywhere runs D dets (sym (none outcome)) k lt))

  are_true : AcceptedAreGood → AcceptedQueriesAreGood → Accepted S → TrueProcedures (as_system outcome last)
  are_true good queries accepted =
      subst TrueProcedures (system_is_determined outcome last)
      (record {
        procedures = good S (parameters_of last) fits accepted;
        queries = λ k lt no_inputs n h. queries S (parameters_of last) fits accepted (S.procs k) (fits.procedures k lt) (accepted k lt) no_inputs n h;
      })

-- what is made by the builtins that predicates have is of its types
makes_types : (P : Source) (L : Library) (K : Library_types) → AllMakeTypes P L K → MakesTypes P L K
makes_types P L K all =
    record {
      nil = λ h. (all h.0 B.ToCharList h.1).nil;
      cons = λ h. (all h.0 B.ToCharList h.1).cons;
      ok = λ h. (all h.0 B.ReadLine h.1).ok;
      eof = λ h. (all h.0 B.ReadLine h.1).eof;
    }

-- the laws on which this one stands
pub record Laws : Type 0 where
  pub accept : ComputedAreAccepted
  pub procedures : AcceptedAreGood
  pub queries : AcceptedQueriesAreGood
  pub library : LibraryMakesTypes
  pub builtins : BuiltinsFit
  pub io : BuiltinsDoIo

pub truth_of_rules : Laws → TruthOfRules
truth_of_rules laws P defs sigs goals exported runs last are_normal named_apart types_met (break_no_rule {ordered = ordered} came is none fit) input small =
    let same : last.program ≡ P = last_program P defs sigs goals exported ordered last came is in
    let library = laws.library last.program (subst HasLibrary (sym same) came.begins.library) in
    let K : Library_types = library.0 in
    let L : Library = library_of last.program in
    let builtins = laws.builtins (source_of last) L K input (makes_types (source_of last) L K library.2) library.1 small in
    let io = laws.io (source_of last) L K input library.1 in
    let accepted = is_accepted P defs sigs goals exported are_normal named_apart types_met ordered last came is fit (outcome L input) builtins K io laws.accept runs none in
    are_true P defs sigs goals exported are_normal named_apart types_met ordered last came is fit (outcome L input) builtins K io laws.procedures laws.queries accepted

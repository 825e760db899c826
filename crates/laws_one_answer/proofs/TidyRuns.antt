-- Where goals are in order, each body is a tidy order in the system where procedures have the
-- determinisms with which the search for them begins.
use Rattle.std.proofs.Common.{◌≡◌, ℕ, zero, suc, ◌<◌, ◌≤◌, Bool, List, [], ◌∷◌, length, get_or, Option, Some, None, refl, sym, ap, ◌∙◌, subst}
use Rattle.std.proofs.lemmas.List.{get_or-map}
use Rattle.mc_source.specs.Determinism.{is_zero}
use Rattle.mc_source.specs.declared.det.Det.{Det}
use Rattle.mc_program.specs.Programs.{TypeTerm}
use Rattle.mc_program.specs.PlainPrograms.{plain_program}
use Rattle.mc_program.specs.Values.{Val}
use Rattle.mc_program.specs.declared.builtin.Builtin.{Builtin}
use Rattle.mc_program.specs.declared.program.Program.{Program}
use Rattle.mc_model.specs.Good.{System}
use Rattle.mc_model.specs.Outcomes.{Outcome}
use Rattle.mc_model.specs.PlainGoals.{plain_node, plain_proc}
use Rattle.mc_model.specs.Scheduled.{Procedure}
use Rattle.mc_model.specs.declared.flat.Normal.{Normal}
use Rattle.mc_model.specs.declared.inst.ModeDecl.{ModeDecl}
use Rattle.mc_model.specs.declared.inst.Sig.{Sig}
use Rattle.mc_model.specs.declared.sched.Proc.{Proc}
use Rattle.mc_accepted.specs.Arranged.{Declared}
use Rattle.mc_accepted.specs.BuiltinTypes.{HasBuiltins}
use Rattle.mc_accepted.specs.Fits.{FitsProcedure, type_of}
use Rattle.mc_accepted.specs.Inferred.{with_determinisms}
use Rattle.mc_accepted.specs.InstRules.{PlainInstDef}
use Rattle.mc_accepted.specs.Ordered.{variables_of_node}
use Rattle.mc_accepted.specs.code.Truthful.{AllDeclared}
use Rattle.laws_order.specs.NormalScopes.{EachNamedApart}
use Rattle.laws_order.specs.OrderLaws.{Below}
use Rattle.laws_order.specs.SomeTest.{TypesMet}
use Rattle.laws_order.specs.Tidying.{EndsTidily}
use Rattle.mc_procs.specs.Fitting.{AllFit}
use Rattle.mc_procs.specs.Procedures.{PlainProcs, as_system, parameters_of, procedure_at, no_procedure}
use Rattle.mc_modes.specs.Signatures.{declared_in, mode_in}
use Rattle.mc_modes.specs.Schedules.{NormalFits, first_determinism}
use Rattle.mc_modes.specs.NormalGoals.{goal_at}
use Rattle.mc_modes.specs.Numbering.{IsMode, mode_ids}
use Rattle.mc_modes.specs.declared.modes.ModeId.{ModeId}
use Rattle.mc_modes.specs.declared.ordering.Orders.TheVariants as O
use Rattle.mc_det_constraints.specs.Least.{assigned}
use Rattle.mc_det.specs.Determinisms.{declared_procedure}
use Rattle.mc_det.specs.MarkedProcedures.{determinisms_of}
use Rattle.laws_accepted.specs.AcceptedLaws.{IsInOrder}
use Rattle.mc_switch.specs.Kept.{Suits, has_no_answer, never_answers}
use Rattle.laws_procedures.specs.FormsMerge.{IsTidyOrder}
use Rattle.mc_accepted.specs.NormalGoals.{HasNormalGoals, IsNormalGoal}
use Rattle.mc_analysis.specs.Rules.{Determined, Ordered}
use Rattle.laws_procedures.proofs.Bodies.{told_at}
use Rattle.laws_procedures.proofs.BodyOrders.{body_in_order, fits_without_body, next_is_own}
use Rattle.laws_procedures.proofs.Closed.{closed, system_is_determined}
use Rattle.laws_procedures.proofs.Ends.{names_once}
use Rattle.laws_procedures.proofs.Forms.{closed_suits, is_tidy_order, variables_there}
use Rattle.laws_procedures.proofs.LastGraph.{OrderIsTold, mode_is_told}
use Rattle.laws_procedures.proofs.OfModes.{as_many, id_at, last_as_many, last_program, no_id, ordered_of, stayed_at}
use Rattle.laws_procedures.proofs.Told.{modes_of_system}
use Rattle.laws_one_answer.proofs.Stages.{declared_of, begun_with, stage_last, declared_at}

-- ---- whether a call has an answer
zero_first : (o : Option Det) → is_zero (first_determinism o).most ≡ has_no_answer o
zero_first None = refl
zero_first (Some d) = refl

no_answers : (ps : List Proc) (k : ℕ) → has_no_answer (declared_procedure ps k).declared ≡ never_answers ps k
no_answers [] k = refl
no_answers (p ∷ ps) zero = refl
no_answers (p ∷ ps) (suc k) = no_answers ps k

module _ (outcome : Builtin → List Val → Outcome) (P : Program) (defs : List PlainInstDef) (sigs : List Sig) (goals : List Normal) (exported : List Bool) (normal_goals : HasNormalGoals P goals)
    (named_apart : (p : ℕ) → p < length P.preds → EachNamedApart ((plain_program P).preds p).clauses) (types_met : (t : TypeTerm) → TypesMet (plain_program P) t)
    (ordered last : PlainProcs) (came : Ordered P defs sigs goals exported O.All ordered) (is : Determined ordered last) (fit : AllFit last) where
  declared_here : (k : ℕ) → (declared_procedure last.added k).declared ≡ declared_of P sigs k
  declared_here = declared_at P defs sigs goals exported ordered last came is last.added (stage_last ordered last is)

  -- the system where the search begins
  abbrev pub begun : System
  begun = with_determinisms (as_system outcome last) (begun_with P sigs)

  pub suits : Suits last begun
  suits =
      record {
        source = refl;
        insts = λ i lt. refl;
        never = λ k. zero_first (declared_of P sigs k) ∙ (ap has_no_answer (sym (declared_here k)) ∙ no_answers last.added k);
      }

  abbrev also : System
  also = as_system outcome last

  suits_also : Suits last also
  suits_also = subst (Suits last) (system_is_determined outcome last) (closed_suits outcome last (assigned (determinisms_of last)) (closed outcome last is.least))

  pub same_program : last.program ≡ P
  same_program = last_program P defs sigs goals exported ordered last came is

  -- ---- nothing of what is asked goes by determinisms, but whether a call has an answer
  over : (p : Procedure) → FitsProcedure also (parameters_of last) p → FitsProcedure begun (parameters_of last) p
  over p f =
      record {
        heads = f.heads;
        scopes = f.scopes;
        types = f.types;
        head_types = f.head_types;
        typed = f.typed;
        tidy = f.tidy;
        no_builtin = f.no_builtin;
      }

  all_over : (T : ℕ → TypeTerm) (p : ℕ) (ds : List Declared) → AllDeclared also T p ds → AllDeclared begun T p ds
  all_over T p [] h = tt
  all_over T p (d ∷ ds) h = (record { known = h.0.known; pred = h.0.pred; modes = h.0.modes; never = h.0.never ∙ (suits_also.never d.proc ∙ sym (suits.never d.proc)) }, all_over T p ds h.1)

  pub ends : EndsTidily begun
  ends =
      record {
        is_free = fit.program.insts_are.insts.is_free;
        is_ground = fit.program.insts_are.insts.is_ground;
        names = names_once (plain_program last.program) fit.program.insts_are.fits;
        builtins = (came.begins.library.0, subst (λ (Q : Program). HasBuiltins (plain_program Q) came.begins.library.0) (sym same_program) came.begins.library.1);
        procedures = λ k lt. ((fit.each k lt).fits outcome).tidy.1;
      }

  module _ (k : ℕ) (e : Proc) (listed : k < length (mode_ids P sigs)) where
    pub there : k < length last.added
    there = subst (λ (n : ℕ). k < n) (sym (last_as_many P defs sigs goals exported ordered last came is)) listed

    in_ordered : k < length ordered.added
    in_ordered = subst (λ (n : ℕ). k < n) (sym (as_many P defs sigs goals exported ordered last came is)) listed

    abbrev id : ModeId
    id = get_or (mode_ids P sigs) k no_id

    abbrev g : Normal
    g = goal_at goals id.pred

    abbrev m : ModeDecl
    m = mode_in sigs id.pred id.mode

    abbrev p : Proc
    p = get_or ordered.added k e

    abbrev r : Proc
    r = get_or last.added k e

    is_mode : IsMode P sigs id
    is_mode = id_at P sigs k listed

    ran : procedure_at last.added k ≡ record (plain_proc p) { body = plain_node r.body; det = r.det }
    ran = get_or-map plain_proc last.added k e no_procedure there ∙ ap plain_proc (stayed_at P defs sigs goals exported ordered last came is k e listed)

    told : OrderIsTold sigs g m last p
    told =
        mode_is_told ordered last is sigs goals exported came.first id p (ordered_of P defs sigs goals exported ordered last came is k e listed) fit
        (λ t. subst (λ (Q : Program). TypesMet (plain_program Q) t) (sym same_program) (types_met t))

    pub its_pred : p.pred ≡ id.pred
    its_pred = (ordered_of P defs sigs goals exported ordered last came is k e listed).scheduled.pred ∙ (normal_goals.each id.pred is_mode.pred).pred

    pub normal : IsNormalGoal begun.world.source p.pred g
    normal =
        subst (λ (Q : Program). IsNormalGoal (plain_program Q) p.pred g) (sym same_program)
        (subst (λ (n : ℕ). IsNormalGoal (plain_program P) n g) (sym its_pred) (normal_goals.each id.pred is_mode.pred))

    pub normal_fits : NormalFits came.first m g
    normal_fits =
        let first_mode : IsMode came.first.program sigs id = subst (λ (Q : Program). IsMode Q sigs id) (sym came.begins.program) is_mode in
        came.asked.goals_fit id.pred first_mode.pred first_mode.no_builtin id.mode first_mode.mode

    apart : EachNamedApart (begun.world.source.preds p.pred).clauses
    apart =
        subst (λ (Q : Program). EachNamedApart ((plain_program Q).preds p.pred).clauses) (sym same_program)
        (subst (λ (n : ℕ). EachNamedApart ((plain_program P).preds n).clauses) (sym its_pred) (named_apart id.pred is_mode.pred))

    pub procedure_fits : FitsProcedure begun (parameters_of last) (plain_proc p)
    procedure_fits = fits_without_body begun (parameters_of last) (plain_proc p) (procedure_at last.added k) (plain_node r.body) r.det ran (over (procedure_at last.added k) ((fit.each k there).fits outcome))

    pub below : Below (length p.var_types) (variables_of_node (plain_node p.body))
    below = variables_there ordered last is begun fit suits k e in_ordered (told_at outcome ordered last is k e in_ordered)

    pub declared : (q : ℕ) → (begun.world.source.preds q).builtin ≡ None → AllDeclared begun (type_of begun (plain_proc p)) q (declared_in sigs q)
    declared q none =
        all_over (type_of begun (plain_proc p)) q (declared_in sigs q)
        (subst (λ (R : System). AllDeclared R (type_of begun (plain_proc p)) q (declared_in sigs q)) (system_is_determined outcome last)
        (modes_of_system outcome P defs sigs goals exported ordered last came is normal_goals came.asked (type_of begun (plain_proc p)) q none))

    abbrev in_order : IsInOrder begun (plain_proc p) (plain_node p.body)
    in_order = body_in_order begun (parameters_of last) sigs g m came.first last p told refl refl fit.program.insts_are.insts procedure_fits ends declared normal normal_fits apart below

    own : in_order.next ≤ length p.var_types
    own =
        subst (λ (n : ℕ). n ≤ length p.var_types)
        (sym (next_is_own begun (parameters_of last) sigs g m came.first last p told refl refl fit.program.insts_are.insts procedure_fits ends declared normal normal_fits apart below)) told.own

    pub tidy_order : IsTidyOrder begun p
    tidy_order = is_tidy_order begun p in_order own below

-- What sources are built to runs true, where it is procedures.
use Rattle.std.proofs.Common.{◌≡◌, ℕ, ◌<◌, List, [], length, map, Bool, true, Option, Some, None, refl, sym, ap, ◌∙◌, subst, arith}
use Rattle.std.specs.Prelude.{is_some}
use Rattle.std.specs.Option.{option_map}
use Rattle.mc_source.specs.declared.det.Det.{Det}
use Rattle.mc_program.specs.PlainPrograms.{plain_program}
use Rattle.mc_program.specs.Programs.{TypeTerm, state_type}
use Rattle.mc_program.specs.declared.program.Program.{Program}
use Rattle.mc_model.specs.Good.{System, Given, GoodQuery, TypeChoice, types_of}
use Rattle.mc_model.specs.Scheduled.{Procedure}
use Rattle.mc_model.specs.declared.flat.Normal.{Normal}
use Rattle.mc_model.specs.declared.inst.Sig.{Sig}
use Rattle.mc_accepted.specs.DeterminismFaults.{is_main}
use Rattle.mc_accepted.specs.Fits.{EachClauseHasScopes, FitsInsts}
use Rattle.mc_accepted.specs.InstRules.{PlainInstDef}
use Rattle.mc_accepted.specs.NormalTypes as N
use Rattle.mc_insts.specs.Defining.{plain_definitions}
use Rattle.mc_names.specs.Linked.{Linked}
use Rattle.mc_procs.specs.Fitting.{AllFit}
use Rattle.mc_procs.specs.Procedures.{PlainProcs, as_system, procedure_at}
use Rattle.mc_modes.specs.Numbering.{mode_ids}
use Rattle.mc_modes.specs.declared.ordering.Orders.TheVariants as O
use Rattle.laws_sound.specs.Soundness.{NoInputs}
use Rattle.mc_det_constraints.specs.Least.{assigned}
use Rattle.mc_det.specs.Determinisms.{declared_procedure}
use Rattle.mc_det.specs.MarkedProcedures.{determinisms_of}
use Rattle.laws_accepted.specs.AcceptedLaws.{IsTold}
use Rattle.mc_type_phase.specs.declared.judged.TypedClause.{TypedClause}
use Rattle.mc_goals.specs.Resolved.{typed_clause}
use Rattle.laws_order.specs.NormalScopes.{EachNamedApart}
use Rattle.laws_order.specs.SomeTest.{TypesMet}
use Rattle.mc_analysis.specs.Rules.{Determined, Ordered, break_no_rule}
use Rattle.mc_analysis.specs.declared.rules.AnalysisResult.TheVariants as R
use Rattle.laws_procedures.specs.TruthOfRules.{TrueProcedures, TruthOfRules}
use Rattle.laws_procedures.proofs.Closed.{system_is_determined}
use Rattle.laws_procedures.proofs.OfModes.{last_as_many}
use Rattle.laws_procedures.proofs.Told.{is_told}
use Rattle.mc_compile.specs.Ruling.{PlainExecutable, IsModed, numbered}
use Rattle.mc_compile.specs.Sources.{Sources}
use Rattle.mc_compile.specs.declared.executable.Goal.TheVariants as G
use Rattle.mc_compile.specs.declared.moded.Moded.{Moded}
use Rattle.laws_truth.specs.ProgramTruth.{ExecutablesAreTrue, GoodMain, IsTrueExecutable, first_state, system_of_executable}
use Rattle.laws_truth.proofs.Clauses.{typed_clauses_apart}
use Rattle.laws_truth.proofs.Mains.{IsMainOf, always_fails, given_first, main_is_main, main_there}
use Rattle.laws_truth.proofs.Modes.{first, has_scopes, is_there}
use Rattle.laws_truth.proofs.NamedApart.{whole_named_apart}
use Rattle.laws_truth.proofs.Phases.{ComeOf, IsBuilt, is_built}
use Rattle.laws_truth.proofs.Queries.{has_mode, is_asked, is_query, main_is, no_inputs, query_is, was_asked}
use Rattle.laws_truth.proofs.Regular.{types_are_met}
use Rattle.laws_truth.proofs.Wholes.{query_has_no_builtin, query_there}

some_query : (q : Option TypedClause) (c : N.TypedClause) → option_map (λ (x : TypedClause). typed_clause x.resolved) q ≡ Some c → (x : TypedClause) × (q ≡ Some x)
some_query None c e = cc
some_query (Some x) c e = (x, refl)

some_asked : (q : Option TypedClause) → is_some q ≡ true → (c : N.TypedClause) × (option_map (λ (x : TypedClause). typed_clause x.resolved) q ≡ Some c)
some_asked None e = cc
some_asked (Some x) e = (typed_clause x.resolved, refl)

module _ (law : TruthOfRules) (s : Sources) (e : PlainExecutable) (b : IsBuilt s e) where
  abbrev l : Linked
  l = b.named.files.names

  abbrev m : Moded
  m = b.moded

  abbrev P : Program
  P = m.whole.program

  abbrev S : System
  S = system_of_executable e

  abbrev is : IsModed s.first b.named m
  is = b.is_moded

  abbrev query : Option N.TypedClause
  query = option_map (λ (c : TypedClause). typed_clause c.resolved) is.query

  abbrev defs : List PlainInstDef
  defs = plain_definitions m.defs

  abbrev sigs : List Sig
  sigs = m.sigs.items

  abbrev goals : List Normal
  goals = m.whole.goals.items

  abbrev exported : List Bool
  exported = m.whole.exported.items

  none : ((plain_program P).preds (length l.preds)).builtin ≡ None
  none = query_has_no_builtin l (map numbered is.clauses) query m.whole is.whole

  there : (c : N.TypedClause) → query ≡ Some c → length l.preds < length P.preds
  there c some = query_there l (map numbered is.clauses) query m.whole is.whole c some

  module _ (ordered : PlainProcs) (came : Ordered P defs sigs goals exported O.All ordered) (determined : Determined ordered e.procs) (fit : AllFit e.procs) where
    -- ---- what the law asks
    scopes : (c : N.TypedClause) → query ≡ Some c → EachClauseHasScopes ((plain_program P).preds (length l.preds)).clauses
    scopes c some =
        let of = some_query is.query c some in
        let goal = was_asked s.first b.named m is of.0 of.1 in
        has_scopes P defs sigs goals exported ordered e.procs came determined is.whole.goals fit (length l.preds) 0 (there c some) none (has_mode s.first b.named m is goal.0 goal.1)

    named_apart : (p : ℕ) → p < length P.preds → EachNamedApart ((plain_program P).preds p).clauses
    named_apart =
        let apart = typed_clauses_apart l b.named.files.all (length b.named.files.given) b.named.goal is.clauses is.query is.typed in
        whole_named_apart l (map numbered is.clauses) query apart.0 apart.1 m.whole is.whole scopes

    types_met : (t : TypeTerm) → TypesMet (plain_program P) t
    types_met = types_are_met l (map numbered is.clauses) query m.whole is.whole b.no_faults

    true_procedures : TrueProcedures S
    true_procedures = law P defs sigs goals exported s.wants_main e.procs is.whole.goals named_apart types_met b.come [] (omega arith)

    -- ---- the query
    good_query : (number : ℕ) (variables : List (List ℕ)) → e.goal ≡ Some (G.Query number variables) → (n h : ℕ) → GoodQuery S n h (S.procs number)
    good_query number variables runs =
        let tells : m.query ≡ Some number = query_is s.wants_main e.procs m.query m.whole.variables number variables (sym b.goal ∙ runs) in
        let goal = is_asked s.first b.named m is number tells in
        let same = is_query s.first b.named m is goal.0 goal.1 number tells in
        let c = some_asked is.query (is.asked ∙ ap is_some goal.1) in
        let mode = has_mode s.first b.named m is goal.0 goal.1 in
        let placed = is_there P defs sigs goals exported ordered e.procs came determined is.whole.goals fit (length l.preds) 0 (there c.0 c.1) none mode in
        let inputs = first P defs sigs goals exported ordered e.procs came determined is.whole.goals fit (length l.preds) 0 (there c.0 c.1) none mode in
        true_procedures.queries number (subst (λ k. k < length e.procs.added) (sym same) placed)
        (subst (λ k. NoInputs (procedure_at e.procs.added k).first) (sym same) (subst NoInputs (sym inputs) (no_inputs s.first b.named m is goal.0 goal.1)))

    -- ---- `main`
    module _ (number : ℕ) (runs : e.goal ≡ Some (G.Main number)) where
      main : (is_main (as_system always_fails e.procs) (declared_procedure e.procs.added number) ≡ true) × (number < length e.procs.added)
      main = main_there e.procs number (main_is s.wants_main e.procs m.query m.whole.variables number (sym b.goal ∙ runs))

      in_modes : number < length (mode_ids P sigs)
      in_modes = subst (λ k. number < k) (last_as_many P defs sigs goals exported ordered e.procs came determined) main.1

      told : IsTold S (S.procs number)
      told =
          subst (λ (T : System). IsTold T (T.procs number)) (system_is_determined S.world.outcome e.procs)
          (is_told S.world.outcome P defs sigs goals exported ordered e.procs came determined is.whole.goals came.asked number in_modes)

      -- it is as it was before determinisms were inferred
      as_was : {X : Type 0} (of : Procedure → X) → ((p : Procedure) (d : Det) → of (record p { det = d }) ≡ of p) → of (S.procs number) ≡ of (declared_procedure e.procs.added number).procedure
      as_was of same =
          ap (λ (T : System). of (T.procs number)) (sym (system_is_determined S.world.outcome e.procs))
          ∙ same (declared_procedure e.procs.added number).procedure (assigned (determinisms_of e.procs) number)

      is_main_of : IsMainOf S number
      is_main_of =
          main_is_main S (declared_procedure e.procs.added number) number main.1 main.0
          (as_was (λ p. p.pred) (λ p d. refl)) (as_was (λ p. p.first) (λ p d. refl)) (as_was (λ p. p.last) (λ p d. refl))
          told.first told.last

      insts : FitsInsts S.insts
      insts = fit.program.insts_are.insts

      good_main : (n h : ℕ) → GoodMain S n h number
      good_main n h =
          let given : (θ : TypeChoice) → Given S θ (S.procs number).first (types_of S (S.procs number)) first_state =
          λ θ. given_first S insts θ (S.procs number) is_main_of.takes is_main_of.types in
          record {
            run = λ θ. true_procedures.procedures.runs θ n h number first_state main.1 (given θ);
            writes = true_procedures.procedures.writes (λ x. state_type) n h number first_state main.1 is_main_of.takes (given (λ x. state_type));
          }

    is_true : IsTrueExecutable e
    is_true = record { procedures = true_procedures.procedures; query = good_query; main = good_main }

  by_coming : ComeOf s m (R.Procs e.procs) → IsTrueExecutable e
  by_coming (break_no_rule {ordered = ordered} came determined faultless fit) = is_true ordered came determined fit

pub executables_are_true : TruthOfRules → ExecutablesAreTrue
executables_are_true law s e answer = let b = is_built s e answer in by_coming law s e b b.come

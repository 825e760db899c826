-- Two runs of one program whose orders follow: their procedures follow at each stage, so they break one
-- list of rules of determinism, have one run, and one `main`.
use Rattle.std.proofs.Common.{◌≡◌, ◌⊎◌, inl, inr, ℕ, zero, suc, ◌<◌, ◌≤◌, Bool, List, [], ◌∷◌, length, map, get_or, Option, None, refl, sym, ap, ap₂, ◌∙◌, subst, arith}
use Rattle.std.proofs.Math.Path.{fun_ext}
use Rattle.std.proofs.lemmas.Bool.{cases_lt}
use Rattle.std.proofs.lemmas.List.{get_or-map}
use Rattle.std.specs.List.{find, list_any}
use Rattle.mc_source.specs.Determinism.{inferred, det}
use Rattle.mc_source.specs.declared.det.Det.{Det}
use Rattle.mc_source.specs.declared.rule.Broken.{Broken}
use Rattle.mc_program.specs.PlainPrograms.{plain_program, plain_type}
use Rattle.mc_program.specs.Programs.{Source, TypeTerm, variable_type}
use Rattle.mc_program.specs.Values.{Val}
use Rattle.mc_program.specs.declared.builtin.Builtin.{Builtin}
use Rattle.mc_program.specs.declared.program.Program.{Program}
use Rattle.mc_model.specs.Good.{System}
use Rattle.mc_model.specs.Insts.{Graph}
use Rattle.mc_model.specs.Lists.{from}
use Rattle.mc_model.specs.Outcomes.{Outcome, fails}
use Rattle.mc_model.specs.PlainGoals.{plain_node, plain_proc}
use Rattle.mc_model.specs.Scheduled.{Node, Procedure}
use Rattle.mc_model.specs.Stream.{run_call, run_query}
use Rattle.mc_model.specs.declared.flat.Normal.{Normal}
use Rattle.mc_model.specs.declared.inst.Sig.{Sig}
use Rattle.mc_model.specs.declared.sched.Proc.{Proc}
use Rattle.mc_accepted.specs.Accepted.{entered}
use Rattle.mc_accepted.specs.Determined.{is_dead, nothing_known}
use Rattle.mc_accepted.specs.DeterminismFaults.{determinism_faults, is_main}
use Rattle.mc_accepted.specs.Inferred.{DeclaredProcedure, DeclaredSystem, with_determinisms}
use Rattle.mc_accepted.specs.InstRules.{PlainInstDef}
use Rattle.mc_accepted.specs.Ordered.{Insts}
use Rattle.mc_insts.specs.Graphs.{count_of}
use Rattle.laws_order.specs.NormalScopes.{EachNamedApart}
use Rattle.laws_order.specs.SomeTest.{TypesMet}
use Rattle.mc_procs.specs.Fitting.{AllFit}
use Rattle.mc_procs.specs.Procedures.{PlainProcs, as_system, source_of, insts_of, with_procs, procedure_at, no_procedure}
use Rattle.mc_procs.specs.VariableTypes.{type_in}
use Rattle.mc_modes.specs.Schedules.{first_determinism}
use Rattle.mc_modes.specs.Signatures.{mode_in}
use Rattle.mc_modes.specs.Numbering.{mode_ids}
use Rattle.mc_modes.specs.Outcomes.{IsOrdered}
use Rattle.mc_modes.specs.declared.modes.ModeId.{ModeId}
use Rattle.mc_modes.specs.declared.ordering.Orders.TheVariants as O
use Rattle.mc_det_constraints.specs.Least.{assigned}
use Rattle.mc_det.specs.Determinisms.{as_declared, declared_procedure, declared_system, none_declared}
use Rattle.mc_det.specs.Marked.{marked}
use Rattle.mc_det.specs.MarkedProcedures.{determinisms_of}
use Rattle.mc_det.specs.Pruned.{pruned_node}
use Rattle.mc_det_rules.specs.Main.{main_number}
use Rattle.laws_graphs.specs.DeterminismLaws.{ListedOf, SystemsAlike}
use Rattle.laws_graphs.specs.FaultLaws.{EachAlike, ProgramsFollow}
use Rattle.laws_graphs.specs.Follows.{InstsFollow, Follows, follows, conj, no_more}
use Rattle.laws_graphs.specs.Nodes.{MeanOne}
use Rattle.laws_graphs.specs.RunLaws.{BodyFollows}
use Rattle.laws_graphs.proofs.Faults.{main-same, one-list-of-faults, one-least}
use Rattle.laws_graphs.proofs.Marking.{pruned-goals-follow, marked-goals-follow}
use Rattle.laws_graphs.proofs.Running.{one-run}
use Rattle.mc_accepted.specs.NormalGoals.{HasNormalGoals}
use Rattle.mc_analysis.specs.Rules.{Determined, FaultsAre, Ordered}
use Rattle.laws_procedures.proofs.Forms.{form_in_last}
use Rattle.laws_procedures.proofs.OfModes.{IsAs, as_many, declared_is, last_as_many, last_program, no_id, ordered_of}
use Rattle.laws_one_answer.specs.ModesMeanOne.{NodesAreOne, EachIsOne, ModeIsOne, SigsAreOne}
use Rattle.laws_one_answer.proofs.SigsAreOne.{mode_one, ids_one, each_alike}
use Rattle.laws_one_answer.proofs.KeptFollow.{typed_by, switched_follow}
use Rattle.laws_one_answer.proofs.Stages.{IsStage, some_at, declared_past, stage_switched, stage_between, stage_last, det_between, pruned_over, marked_over, least_over, finals_of, begun_with, finals_at, declared_at, follow_declared, ButForBodies, SameProc, but_for_bodies, same_later}
use Rattle.laws_one_answer.proofs.TidyRuns.{suits, tidy_order}

procedure_declared : (ps : List Proc) (k : ℕ) → (declared_procedure ps k).procedure ≡ procedure_at ps k
procedure_declared [] k = refl
procedure_declared (p ∷ ps) zero = refl
procedure_declared (p ∷ ps) (suc k) = procedure_declared ps k

module _ (outcome : Builtin → List Val → Outcome) (P : Program) (defs defs2 : List PlainInstDef) (sigs sigs2 : List Sig) (goals : List Normal) (exported : List Bool) (one_sigs : SigsAreOne (NodesAreOne P defs defs2) sigs sigs2) (normal_goals : HasNormalGoals P goals)
    (named_apart : (p : ℕ) → p < length P.preds → EachNamedApart ((plain_program P).preds p).clauses) (types_met : (t : TypeTerm) → TypesMet (plain_program P) t)
    (o1 l1 : PlainProcs) (came1 : Ordered P defs sigs goals exported O.All o1) (is1 : Determined o1 l1) (fit1 : AllFit l1)
    (o2 l2 : PlainProcs) (came2 : Ordered P defs2 sigs2 goals exported O.All o2) (is2 : Determined o2 l2) (fit2 : AllFit l2) where
  abbrev Q : Source
  Q = source_of l1

  abbrev G : Graph
  G = insts_of l1

  abbrev H : Graph
  H = insts_of l2

  abbrev pub Mean : TypeTerm → ℕ → ℕ → Type 0
  Mean t i j = MeanOne Q (count_of l1.insts) G (count_of l2.insts) H t i j

  abbrev p1 : ℕ → Proc → Proc
  p1 k e = get_or o1.added k e

  abbrev p2 : ℕ → Proc → Proc
  p2 k e = get_or o2.added k e

  abbrev typing : ℕ → Proc → ℕ → TypeTerm
  typing k e = type_in (p1 k e).var_types

  abbrev start : ℕ → Proc → Insts
  start k e = entered (p1 k e).head (p1 k e).first

  abbrev begin : ℕ → Proc → Insts
  begin k e = entered (p1 k e).head (p2 k e).first

  -- The orders of the goals of each mode follow, over the last graphs: the first variables are the
  -- goal's own, the others have the same types, and calls leave the same states dead.
  pub record OrdersAreOne : Type 0 where
    pub own : ℕ → ℕ
    pub types : (k : ℕ) (e : Proc) → k < length (mode_ids P sigs) → map plain_type (p2 k e).var_types ≡ map plain_type (p1 k e).var_types
    pub dead : (k : ℕ) → list_any (λ i. is_dead (G i)) (finals_of P sigs k) ≡ list_any (λ i. is_dead (H i)) (finals_of P sigs2 k)
    pub enters : (k : ℕ) (e : Proc) → k < length (mode_ids P sigs) → InstsFollow Q (typing k e) (own k) Mean (start k e) (begin k e)
    pub bodies : (k : ℕ) (e : Proc) → k < length (mode_ids P sigs) → Follows Q (typing k e) (own k) Mean (start k e) (begin k e) (plain_node (p1 k e).body) (plain_node (p2 k e).body)

  -- modes have one number in both
  ids : mode_ids P sigs2 ≡ mode_ids P sigs
  ids = ids_one (NodesAreOne P defs defs2) P sigs sigs2 one_sigs

  too : (k : ℕ) → k < length (mode_ids P sigs) → k < length (mode_ids P sigs2)
  too k lt = subst (λ (is : List ModeId). k < length is) (sym ids) lt

  ordered_too : (k : ℕ) (e : Proc) → k < length (mode_ids P sigs) → IsOrdered sigs2 goals exported came2.first o2 (get_or (mode_ids P sigs) k no_id) (p2 k e)
  ordered_too k e lt = subst (λ (is : List ModeId). IsOrdered sigs2 goals exported came2.first o2 (get_or is k no_id) (p2 k e)) ids (ordered_of P defs2 sigs2 goals exported o2 l2 came2 is2 k e (too k lt))

  mode_too : (k : ℕ) → ModeIsOne (NodesAreOne P defs defs2) (mode_in sigs (get_or (mode_ids P sigs) k no_id).pred (get_or (mode_ids P sigs) k no_id).mode) (mode_in sigs2 (get_or (mode_ids P sigs) k no_id).pred (get_or (mode_ids P sigs) k no_id).mode)
  mode_too k = mode_one (NodesAreOne P defs defs2) sigs sigs2 (get_or (mode_ids P sigs) k no_id).pred (get_or (mode_ids P sigs) k no_id).mode one_sigs

  alike_too : (is js : List ℕ) → EachIsOne (NodesAreOne P defs defs2) is js → EachAlike is js
  alike_too = each_alike P defs defs2 came1.first.insts came2.first.insts came1.begins.insts came2.begins.insts

  begun_one : (k : ℕ) → begun_with P sigs k ≡ begun_with P sigs2 k
  begun_one k =
      ap first_determinism
      (ap (λ (f : ModeId → Option Det). get_or (map f (mode_ids P sigs)) k None) (fun_ext (λ (id : ModeId). sym (mode_one (NodesAreOne P defs defs2) sigs sigs2 id.pred id.mode one_sigs).det))
      ∙ ap (λ (is : List ModeId). get_or (map (λ (id : ModeId). (mode_in sigs2 id.pred id.mode).det) is) k None) (sym ids))

  same_source : source_of l2 ≡ Q
  same_source = ap plain_program (last_program P defs2 sigs2 goals exported o2 l2 came2 is2 ∙ sym (last_program P defs sigs goals exported o1 l1 came1 is1))

  listed : ListedOf Q
  listed = fit1.program.insts_are.fits.owned

  in_first : (k : ℕ) → k < length (mode_ids P sigs) → k < length o1.added
  in_first k lt = subst (λ (n : ℕ). k < n) (sym (as_many P defs sigs goals exported o1 l1 came1 is1)) lt

  in_second : (k : ℕ) → k < length (mode_ids P sigs) → k < length o2.added
  in_second k lt = subst (λ (n : ℕ). k < n) (sym (as_many P defs2 sigs2 goals exported o2 l2 came2 is2)) (too k lt)

  abbrev system1 : List Proc → (ℕ → Det) → System
  system1 xs ds = with_determinisms (as_system outcome (with_procs l1 xs)) ds

  abbrev system2 : List Proc → (ℕ → Det) → System
  system2 xs ds = with_determinisms (as_system outcome (with_procs l2 xs)) ds

  module _ (one : OrdersAreOne) where
    alike : (xs ys : List Proc) → IsStage o1.added xs → IsStage o2.added ys → (ds es : ℕ → Det) → ((k : ℕ) → ds k ≡ es k) → (T : ℕ → TypeTerm) → SystemsAlike T (system1 xs ds) (system2 ys es)
    alike xs ys s t ds es same T =
        record {
          source = same_source;
          dets = same;
          dead = λ k.
              ap (list_any (λ i. is_dead (G i))) (finals_at P defs sigs goals exported o1 l1 came1 is1 xs s k)
              ∙ (one.dead k ∙ sym (ap (list_any (λ i. is_dead (H i))) (finals_at P defs2 sigs2 goals exported o2 l2 came2 is2 ys t k)));
        }

    same_proc : (k : ℕ) (e : Proc) → k < length (mode_ids P sigs) → SameProc (p1 k e) (p2 k e)
    same_proc k e lt =
        let a = ordered_of P defs sigs goals exported o1 l1 came1 is1 k e lt in
        let b = ordered_too k e lt in
        let m = mode_too k in
        record {
          pred = b.scheduled.pred ∙ sym a.scheduled.pred;
          head = b.scheduled.head ∙ sym a.scheduled.head;
          first = subst (λ (is : List ℕ). EachAlike is (p2 k e).first) (sym a.scheduled.first) (subst (EachAlike (mode_in sigs (get_or (mode_ids P sigs) k no_id).pred (get_or (mode_ids P sigs) k no_id).mode).first) (sym b.scheduled.first) (alike_too _ _ m.first));
          last = subst (λ (is : List ℕ). EachAlike is (p2 k e).last) (sym a.scheduled.last) (subst (EachAlike (mode_in sigs (get_or (mode_ids P sigs) k no_id).pred (get_or (mode_ids P sigs) k no_id).mode).last) (sym b.scheduled.last) (alike_too _ _ m.last));
          types = one.types k e lt;
          declared = b.scheduled.declared ∙ (m.det ∙ sym a.scheduled.declared);
          exported = b.is_exported ∙ sym a.is_exported;
          at = b.scheduled.at ∙ (m.at ∙ sym a.scheduled.at);
        }

    -- ---- bodies that follow
    abbrev BodiesFollow : (xs ys : List Proc) → Type 0
    BodiesFollow xs ys =
        (k : ℕ) (e : Proc) → k < length (mode_ids P sigs)
        → Follows Q (typing k e) (one.own k) Mean (start k e) (begin k e) (plain_node (get_or xs k e).body) (plain_node (get_or ys k e).body)

    switched_bodies : BodiesFollow is1.switched.added is2.switched.added
    switched_bodies k e lt =
        let same = same_proc k e lt in
        switched_follow l1 l2 (p1 k e) (p2 k e) (get_or is1.switched.added k e).body (get_or is2.switched.added k e).body (system1 l1.added (begun_with P sigs)) (system2 l2.added (begun_with P sigs2)) fit1 fit2
        (suits outcome P defs sigs goals exported normal_goals named_apart types_met o1 l1 came1 is1 fit1) (suits outcome P defs2 sigs2 goals exported normal_goals named_apart types_met o2 l2 came2 is2 fit2) refl refl
        (form_in_last o1 l1 is1 k e (in_first k lt)) (form_in_last o2 l2 is2 k e (in_second k lt))
        (tidy_order outcome P defs sigs goals exported normal_goals named_apart types_met o1 l1 came1 is1 fit1 k e lt) (tidy_order outcome P defs2 sigs2 goals exported normal_goals named_apart types_met o2 l2 came2 is2 fit2 k e (too k lt))
        (alike l1.added l2.added (stage_last o1 l1 is1) (stage_last o2 l2 is2) (begun_with P sigs) (begun_with P sigs2) begun_one (typing k e)) listed (one.own k)
        same.types (begin k e) (ap (λ (xs : List ℕ). entered xs (p2 k e).first) same.head) (one.enters k e lt) (one.bodies k e lt)

    -- a body as it is told of a procedure with these types and this head
    module _ (told : System → (ℕ → TypeTerm) → List ℕ → Insts → Node → Node) where
      abbrev told_of : System → Procedure → Node
      told_of S p = told S (λ x. get_or p.var_types x (variable_type x)) p.head (entered p.head p.first) p.body

      abbrev told_so : System → Node → List TypeTerm → List ℕ → List ℕ → Node
      told_so S n types head first = told S (typed_by types) head (entered head first) n

      told_first : (S : System) (p q : Proc) → IsAs p q → told_of S (plain_proc q) ≡ told_so S (plain_node q.body) (map plain_type p.var_types) p.head p.first
      told_first S p q e = ap (λ (r : Proc). told_so S (plain_node q.body) (map plain_type r.var_types) r.head r.first) e

      told_second : (S : System) (p q r : Proc) → IsAs q r → SameProc p q → told_of S (plain_proc r) ≡ told_so S (plain_node r.body) (map plain_type p.var_types) p.head q.first
      told_second S p q r e same =
          let n : Node = plain_node r.body in
          told_first S q r e
          ∙ (ap (λ (types : List TypeTerm). told_so S n types q.head q.first) same.types
          ∙ ap (λ (xs : List ℕ). told_so S n (map plain_type p.var_types) xs q.first) same.head)

      -- bodies follow as they are told where goals do
      told_follow : (xs ys us vs : List Proc) → IsStage o1.added xs → IsStage o2.added ys → (ds es : ℕ → Det) → ((k : ℕ) → ds k ≡ es k)
          → ((T : ℕ → TypeTerm) (own : ℕ) (head : List ℕ) (b c : Insts) (g h : Node) → SystemsAlike T (system1 xs ds) (system2 ys es) → InstsFollow Q T own Mean b c → Follows Q T own Mean b c g h → Follows Q T own Mean b c (told (system1 xs ds) T head b g) (told (system2 ys es) T head c h))
          → ((k : ℕ) (e : Proc) → k < length (mode_ids P sigs) → plain_node (get_or us k e).body ≡ told_of (system1 xs ds) (plain_proc (get_or xs k e)))
          → ((k : ℕ) (e : Proc) → k < length (mode_ids P sigs) → plain_node (get_or vs k e).body ≡ told_of (system2 ys es) (plain_proc (get_or ys k e)))
          → BodiesFollow xs ys → BodiesFollow us vs
      told_follow xs ys us vs s t ds es same law first second before k e lt =
          let a = first k e lt ∙ told_first (system1 xs ds) (p1 k e) (get_or xs k e) (s.each k e (in_first k lt)) in
          let b = second k e lt ∙ told_second (system2 ys es) (p1 k e) (p2 k e) (get_or ys k e) (t.each k e (in_second k lt)) (same_proc k e lt) in
          subst (λ (n : Node). Follows Q (typing k e) (one.own k) Mean (start k e) (begin k e) n (plain_node (get_or vs k e).body)) (sym a)
          (subst (λ (n : Node). Follows Q (typing k e) (one.own k) Mean (start k e) (begin k e) (told (system1 xs ds) (typing k e) (p1 k e).head (start k e) (plain_node (get_or xs k e).body)) n) (sym b)
          (law (typing k e) (one.own k) (p1 k e).head (start k e) (begin k e) (plain_node (get_or xs k e).body) (plain_node (get_or ys k e).body) (alike xs ys s t ds es same (typing k e)) (one.enters k e lt) (before k e lt)))

    pruned_bodies : BodiesFollow is1.between.added is2.between.added
    pruned_bodies =
        let xs : List Proc = is1.switched.added in
        let ys : List Proc = is2.switched.added in
        told_follow (λ S T head b n. pruned_node S T head b n) xs ys is1.between.added is2.between.added (stage_switched o1 l1 is1) (stage_switched o2 l2 is2) (begun_with P sigs) (begun_with P sigs2) begun_one
        (λ T own head b c g h a enters f. pruned-goals-follow (system1 xs (begun_with P sigs)) (system2 ys (begun_with P sigs2)) T own (count_of l1.insts) (count_of l2.insts) a listed head b c g h enters f)
        (λ k e lt. (pruned_over o1 l1 is1 k e (in_first k lt)).body outcome (begun_with P sigs) (follow_declared P sigs (with_procs l1 xs) (declared_at P defs sigs goals exported o1 l1 came1 is1 xs (stage_switched o1 l1 is1))))
        (λ k e lt. (pruned_over o2 l2 is2 k e (in_second k lt)).body outcome (begun_with P sigs2) (follow_declared P sigs2 (with_procs l2 ys) (declared_at P defs2 sigs2 goals exported o2 l2 came2 is2 ys (stage_switched o2 l2 is2))))
        switched_bodies

    -- ---- programs that follow
    module _ (xs ys : List Proc) (s : IsStage o1.added xs) (t : IsStage o2.added ys) (dets : (k : ℕ) (e : Proc) → k < length (mode_ids P sigs) → (get_or ys k e).det ≡ (get_or xs k e).det) (bodies : BodiesFollow xs ys) where
      many1 : length xs ≡ length (mode_ids P sigs)
      many1 = s.count ∙ as_many P defs sigs goals exported o1 l1 came1 is1

      many2 : length ys ≡ length (mode_ids P sigs)
      many2 = t.count ∙ (as_many P defs2 sigs2 goals exported o2 l2 came2 is2 ∙ ap length ids)

      is_declared2 : (k : ℕ) (e : Proc) → k < length (mode_ids P sigs) → declared_procedure ys k ≡ as_declared (get_or ys k e)
      is_declared2 k e lt = declared_is ys k e (subst (λ (n : ℕ). k < n) (sym many2) lt)

      others : (k : ℕ) → ButForBodies (declared_procedure xs k) (declared_procedure ys k)
      others k = at (cases_lt k (length xs))
        where
          at : (k < length xs) ⊎ (length xs ≤ k) → ButForBodies (declared_procedure xs k) (declared_procedure ys k)
          at (inl less) =
              let e : Proc = some_at xs k less in
              let lt : k < length (mode_ids P sigs) = subst (λ (n : ℕ). k < n) many1 less in
              subst (λ (d : DeclaredProcedure). ButForBodies d (declared_procedure ys k)) (sym (declared_is xs k e less))
              (subst (λ (d : DeclaredProcedure). ButForBodies (as_declared (get_or xs k e)) d) (sym (is_declared2 k e lt))
              (but_for_bodies (get_or xs k e) (get_or ys k e) (same_later (p1 k e) (p2 k e) (get_or xs k e) (get_or ys k e) (s.each k e (in_first k lt)) (t.each k e (in_second k lt)) (same_proc k e lt)) (dets k e lt)))
          at (inr le) =
              subst (λ (d : DeclaredProcedure). ButForBodies d (declared_procedure ys k)) (sym (declared_past xs k le))
              (subst (λ (d : DeclaredProcedure). ButForBodies none_declared d) (sym (declared_past ys k (omega (arith, le, many1, many2)))) refl)

      -- the insts of their modes are alike
      abbrev ModesAlike : DeclaredProcedure → DeclaredProcedure → Type 0
      ModesAlike d f = EachAlike d.procedure.first f.procedure.first × EachAlike d.procedure.last f.procedure.last

      modes_alike : (k : ℕ) → ModesAlike (declared_procedure xs k) (declared_procedure ys k)
      modes_alike k = at (cases_lt k (length xs))
        where
          at : (k < length xs) ⊎ (length xs ≤ k) → ModesAlike (declared_procedure xs k) (declared_procedure ys k)
          at (inl less) =
              let e : Proc = some_at xs k less in
              let lt : k < length (mode_ids P sigs) = subst (λ (n : ℕ). k < n) many1 less in
              let h : SameProc (get_or xs k e) (get_or ys k e) = same_later (p1 k e) (p2 k e) (get_or xs k e) (get_or ys k e) (s.each k e (in_first k lt)) (t.each k e (in_second k lt)) (same_proc k e lt) in
              subst (λ (d : DeclaredProcedure). ModesAlike d (declared_procedure ys k)) (sym (declared_is xs k e less))
              (subst (λ (d : DeclaredProcedure). ModesAlike (as_declared (get_or xs k e)) d) (sym (is_declared2 k e lt)) (h.first, h.last))
          at (inr le) =
              subst (λ (d : DeclaredProcedure). ModesAlike d (declared_procedure ys k)) (sym (declared_past xs k le))
              (subst (λ (d : DeclaredProcedure). ModesAlike none_declared d) (sym (declared_past ys k (omega (arith, le, many1, many2)))) (tt, tt))

      abbrev Enters : ℕ → DeclaredProcedure → DeclaredProcedure → Type 0
      Enters own d f =
          InstsFollow Q (λ x. get_or d.procedure.var_types x (variable_type x)) own Mean (entered d.procedure.head d.procedure.first) (entered d.procedure.head f.procedure.first)

      abbrev Runs : ℕ → DeclaredProcedure → DeclaredProcedure → Type 0
      Runs own d f =
          Follows Q (λ x. get_or d.procedure.var_types x (variable_type x)) own Mean (entered d.procedure.head d.procedure.first) (entered d.procedure.head f.procedure.first) d.procedure.body f.procedure.body

      abbrev kept_first : ℕ → Proc → DeclaredProcedure
      kept_first k e = as_declared (record (p1 k e) { body = (get_or xs k e).body; det = (get_or xs k e).det })

      abbrev kept_second : ℕ → Proc → DeclaredProcedure
      kept_second k e = as_declared (record (p2 k e) { body = (get_or ys k e).body; det = (get_or ys k e).det })

      procedure_at_first : (k : ℕ) (e : Proc) → k < length (mode_ids P sigs) → declared_procedure xs k ≡ kept_first k e
      procedure_at_first k e lt = declared_is xs k e (subst (λ (n : ℕ). k < n) (sym many1) lt) ∙ ap as_declared (s.each k e (in_first k lt))

      procedure_at_second : (k : ℕ) (e : Proc) → k < length (mode_ids P sigs) → declared_procedure ys k ≡ kept_second k e
      procedure_at_second k e lt = is_declared2 k e lt ∙ ap as_declared (t.each k e (in_second k lt))

      abbrev declared1 : DeclaredSystem
      declared1 = declared_system outcome (with_procs l1 xs)

      abbrev declared2 : DeclaredSystem
      declared2 = declared_system outcome (with_procs l2 ys)

      enters_at : (k : ℕ) → k < length xs → Enters (one.own k) (declared_procedure xs k) (declared_procedure ys k)
      enters_at k less =
          let e : Proc = some_at xs k less in
          let lt : k < length (mode_ids P sigs) = subst (λ (n : ℕ). k < n) many1 less in
          subst (λ (d : DeclaredProcedure). Enters (one.own k) d (declared_procedure ys k)) (sym (procedure_at_first k e lt))
          (subst (Enters (one.own k) (kept_first k e)) (sym (procedure_at_second k e lt)) (one.enters k e lt))

      body_at : (k : ℕ) → k < length xs → Runs (one.own k) (declared_procedure xs k) (declared_procedure ys k)
      body_at k less =
          let e : Proc = some_at xs k less in
          let lt : k < length (mode_ids P sigs) = subst (λ (n : ℕ). k < n) many1 less in
          subst (λ (d : DeclaredProcedure). Runs (one.own k) d (declared_procedure ys k)) (sym (procedure_at_first k e lt))
          (subst (Runs (one.own k) (kept_first k e)) (sym (procedure_at_second k e lt)) (bodies k e lt))

      programs_follow : ProgramsFollow declared1 declared2 (count_of l1.insts) (count_of l2.insts)
      programs_follow =
          record {
            source = same_source;
            listed = listed;
            count = many2 ∙ sym many1;
            others = others;
            first = λ k. (modes_alike k).0;
            last = λ k. (modes_alike k).1;
            dead = λ k.
                let finals : (declared_procedure xs k).procedure.last ≡ finals_of P sigs k = ap (λ (p : Procedure). p.last) (procedure_declared xs k) ∙ finals_at P defs sigs goals exported o1 l1 came1 is1 xs s k in
                let finals2 : (declared_procedure ys k).procedure.last ≡ finals_of P sigs2 k = ap (λ (p : Procedure). p.last) (procedure_declared ys k) ∙ finals_at P defs2 sigs2 goals exported o2 l2 came2 is2 ys t k in
                ap (list_any (λ i. is_dead (G i))) finals ∙ (one.dead k ∙ sym (ap (list_any (λ i. is_dead (H i))) finals2));
            bodies = λ k less. record { variables = one.own k; entry = enters_at k less; body = body_at k less };
          }

    -- ---- one least determinism
    begun_alike : (k : ℕ) (e : Proc) → k < length (mode_ids P sigs) → (get_or is2.between.added k e).det ≡ (get_or is1.between.added k e).det
    begun_alike k e lt =
        let a = ordered_of P defs sigs goals exported o1 l1 came1 is1 k e lt in
        let b = ordered_too k e lt in
        det_between o2 l2 is2 k e (in_second k lt) ∙ (b.scheduled.det ∙ (ap first_determinism (mode_too k).det ∙ sym a.scheduled.det)) ∙ sym (det_between o1 l1 is1 k e (in_first k lt))

    abbrev dets1 : ℕ → Det
    dets1 = assigned (determinisms_of l1)

    abbrev dets2 : ℕ → Det
    dets2 = assigned (determinisms_of l2)

    one_dets : (k : ℕ) → dets1 k ≡ dets2 k
    one_dets =
        one-least (declared_system outcome (with_procs l1 is1.between.added)) (declared_system outcome (with_procs l2 is2.between.added)) (count_of l1.insts) (count_of l2.insts)
        (programs_follow is1.between.added is2.between.added (stage_between o1 l1 is1) (stage_between o2 l2 is2) begun_alike pruned_bodies) dets1 dets2 (least_over o1 l1 is1 outcome) (least_over o2 l2 is2 outcome)

    marked_bodies : BodiesFollow l1.added l2.added
    marked_bodies =
        let xs : List Proc = is1.between.added in
        let ys : List Proc = is2.between.added in
        told_follow (λ S T head b n. marked S T b nothing_known n) xs ys l1.added l2.added (stage_between o1 l1 is1) (stage_between o2 l2 is2) dets1 dets2 one_dets
        (λ T own head b c g h a enters f. marked-goals-follow (system1 xs dets1) (system2 ys dets2) T own (count_of l1.insts) (count_of l2.insts) a listed nothing_known b c g h enters f)
        (λ k e lt. (marked_over o1 l1 is1 k e (in_first k lt)).body outcome)
        (λ k e lt. (marked_over o2 l2 is2 k e (in_second k lt)).body outcome)
        pruned_bodies

    last_alike : (k : ℕ) (e : Proc) → k < length (mode_ids P sigs) → (get_or l2.added k e).det ≡ (get_or l1.added k e).det
    last_alike k e lt =
        sym (get_or-map (λ (p : Proc). p.det) l2.added k e (inferred det) (subst (λ (n : ℕ). k < n) (sym (last_as_many P defs2 sigs2 goals exported o2 l2 came2 is2)) (too k lt)))
        ∙ (sym (one_dets k) ∙ get_or-map (λ (p : Proc). p.det) l1.added k e (inferred det) (subst (λ (n : ℕ). k < n) (sym (last_as_many P defs sigs goals exported o1 l1 came1 is1)) lt))

    last_follow : ProgramsFollow (declared_system outcome l1) (declared_system outcome l2) (count_of l1.insts) (count_of l2.insts)
    last_follow = programs_follow l1.added l2.added (stage_last o1 l1 is1) (stage_last o2 l2 is2) last_alike marked_bodies

    -- they break one list of rules
    pub one_list : (runs : Bool) (xs ys : List Broken) → FaultsAre runs l1 xs → FaultsAre runs l2 ys → xs ≡ ys
    one_list runs xs ys f g =
        f outcome
        ∙ (one-list-of-faults (declared_system outcome l1) (declared_system outcome l2) (count_of l1.insts) (count_of l2.insts) last_follow runs dets1
        ∙ (ap (determinism_faults runs (declared_system outcome l2)) (fun_ext one_dets) ∙ sym (g outcome)))

    -- ---- one `main`
    -- what builtins do has no part in that
    main_alike : (k : ℕ) → is_main (as_system (λ op vs. fails) l1) (declared_procedure l1.added k) ≡ is_main (as_system (λ op vs. fails) l2) (declared_procedure l2.added k)
    main_alike k = main-same (declared_system outcome l1) (declared_system outcome l2) (count_of l1.insts) (count_of l2.insts) last_follow dets1 k

    pub one_main : main_number l1 ≡ main_number l2
    one_main = ap₂ (λ (f : ℕ → Bool) (n : ℕ). find f (from 0 n)) (fun_ext main_alike) (sym last_follow.count)

    -- ---- one run
    abbrev Follow : Procedure → Procedure → Type 0
    Follow p q = BodyFollows Q (count_of l1.insts) (count_of l2.insts) G H p q

    none_follow : Follow no_procedure no_procedure
    none_follow =
        record {
          types = variable_type;
          variables = 0;
          others = refl;
          first = tt;
          last = tt;
          body = follows (conj no_more) (record { own = λ x lt. absurd (omega (arith, lt)); bound = λ x. refl });
        }

    body_follows : (k : ℕ) → Follow (declared_procedure l1.added k).procedure (declared_procedure l2.added k).procedure
    body_follows k = at (cases_lt k (length l1.added))
      where
        at : (k < length l1.added) ⊎ (length l1.added ≤ k) → Follow (declared_procedure l1.added k).procedure (declared_procedure l2.added k).procedure
        at (inl lt) =
            let b = last_follow.bodies k lt in
            record {
              types = λ x. get_or (declared_procedure l1.added k).procedure.var_types x (variable_type x);
              variables = b.variables;
              others = ap (λ (d : DeclaredProcedure). d.procedure) (last_follow.others k);
              first = last_follow.first k;
              last = last_follow.last k;
              body = b.body;
            }
        at (inr le) =
            subst (λ (d : DeclaredProcedure). Follow d.procedure (declared_procedure l2.added k).procedure) (sym (declared_past l1.added k le))
            (subst (λ (d : DeclaredProcedure). Follow no_procedure d.procedure) (sym (declared_past l2.added k (subst (λ (n : ℕ). n ≤ k) (sym last_follow.count) le))) none_follow)

    abbrev RunSo : (does : Builtin → List Val → Outcome) (budget height k : ℕ) (procs others : ℕ → Procedure) → Type 0
    RunSo does budget height k procs others =
        ((vs : List (Option Val)) → run_call does procs budget height k vs ≡ run_call does others budget height k vs)
        × (run_query does procs budget height (procs k) ≡ run_query does others budget height (others k))

    -- at every budget and height, whatever builtins do
    pub one_run : (does : Builtin → List Val → Outcome) (budget height k : ℕ)
        → ((vs : List (Option Val)) → run_call does (procedure_at l1.added) budget height k vs ≡ run_call does (procedure_at l2.added) budget height k vs)
        × (run_query does (procedure_at l1.added) budget height (procedure_at l1.added k) ≡ run_query does (procedure_at l2.added) budget height (procedure_at l2.added k))
    one_run does budget height k =
        subst (RunSo does budget height k (procedure_at l1.added)) (fun_ext (procedure_declared l2.added))
        (subst (λ (procs : ℕ → Procedure). RunSo does budget height k procs (λ j. (declared_procedure l2.added j).procedure)) (fun_ext (procedure_declared l1.added))
        (one-run Q (count_of l1.insts) (count_of l2.insts) G H (λ j. (declared_procedure l1.added j).procedure) (λ j. (declared_procedure l2.added j).procedure) body_follows does budget height k))

-- Bodies that run: the switch form of a goal in its order, pruned and marked, is told as it was made, and its goals have
-- the marks for pruned goals that they have to have.
use Rattle.std.proofs.Common.{◌≡◌, ◌⊎◌, inl, inr, ℕ, zero, suc, ◌<◌, ◌≤◌, List, [], ◌∷◌, length, get_or, false, Some, None, refl, sym, ap, ◌∙◌, subst, arith}
use Rattle.std.proofs.lemmas.Bool.{cases_lt}
use Rattle.std.proofs.lemmas.List.{get_or_past, length-map}
use Rattle.mc_source.specs.Determinism.{Allows, det, inferred, row_of}
use Rattle.mc_source.specs.declared.det.Det.{Det}
use Rattle.mc_program.specs.Programs.{TypeTerm}
use Rattle.mc_program.specs.Values.{Val}
use Rattle.mc_program.specs.declared.builtin.Builtin.{Builtin}
use Rattle.mc_model.specs.Good.{System}
use Rattle.mc_model.specs.Outcomes.{Outcome}
use Rattle.mc_model.specs.PlainGoals.{plain_node, plain_proc}
use Rattle.mc_model.specs.Scheduled.{Node}
use Rattle.mc_model.specs.declared.sched.Proc.{Proc}
use Rattle.mc_accepted.specs.Accepted.{entered}
use Rattle.mc_accepted.specs.Determined.{nothing_known}
use Rattle.mc_accepted.specs.Fits.{type_of}
use Rattle.mc_accepted.specs.Inferred.{Closed, DeclaredProcedure, with_determinisms}
use Rattle.mc_accepted.specs.MergedArms.{ArmsMerge}
use Rattle.mc_accepted.specs.Ordered.{Insts}
use Rattle.mc_accepted.specs.PrunedMarks.{KeepsMarks}
use Rattle.mc_accepted.specs.Switched.{Kept, formed}
use Rattle.mc_accepted.specs.Unmarked.{changed_node}
use Rattle.mc_procs.specs.Procedures.{PlainProcs, as_system, source_of, insts_of}
use Rattle.mc_procs.specs.VariableTypes.{type_in}
use Rattle.mc_det_constraints.specs.Least.{assigned}
use Rattle.mc_det.specs.Determinisms.{as_declared, declared_procedure, declared_system}
use Rattle.mc_det.specs.Marked.{marked}
use Rattle.mc_det.specs.MarkedProcedures.{determinisms_of, where_determined}
use Rattle.mc_det.specs.Pruned.{pruned_body}
use Rattle.mc_det.specs.PrunedProcedures.{FollowDeclared}
use Rattle.mc_det.proofs.Pruning.{pruned_keep_marks}
use Rattle.laws_accepted.specs.AcceptedLaws.{IsFormed}
use Rattle.laws_accepted.specs.Told.{Retold}
use Rattle.mc_analysis.specs.Rules.{Determined}
use Rattle.laws_procedures.proofs.Closed.{closed, determined_system}
use Rattle.laws_procedures.proofs.Marks.{EndAlike, marks_stay}
use Rattle.laws_procedures.proofs.OfModes.{IsAs, declared_is}
use Rattle.laws_procedures.proofs.Retold.{marked_told, pruned_told, told_as_order, told_then}

-- ---- determinisms that are closed follow the declared ones, wherever the same ones are declared
declared_past : (ps : List Proc) (k : ℕ) → length ps ≤ k → (declared_procedure ps k).declared ≡ None
declared_past [] k le = refl
declared_past (p ∷ ps) zero le = absurd (omega (arith, le))
declared_past (p ∷ ps) (suc k) le = declared_past ps k (omega (arith, le))

allows_det : (d : Det) → d ≡ inferred det → Allows (row_of d) det
allows_det d e = subst (λ x. Allows (row_of x) det) (sym e) ((λ t. t), omega arith)

module _ (outcome : Builtin → List Val → Outcome) (q last : PlainProcs) (are : Closed (declared_system outcome last) (assigned (determinisms_of last))) (as_many : length last.added ≡ length q.added) (same : (k : ℕ) → k < length q.added → (declared_procedure q.added k).declared ≡ (declared_procedure last.added k).declared) where
  abbrev ds : ℕ → Det
  ds = assigned (determinisms_of last)

  in_last : (k : ℕ) → k < length q.added → k < length last.added
  in_last k lt = subst (λ n. k < n) (sym as_many) lt

  past_all : (k : ℕ) → length q.added ≤ k → ds k ≡ inferred det
  past_all k le = get_or_past (determinisms_of last) k (inferred det) (omega (arith, le, as_many, length-map last.added (λ (p : Proc). p.det)))

  follow : FollowDeclared q ds
  follow =
      record {
        declared = λ k d e. declared k d e (cases_lt k (length q.added));
        at_least_det = λ k e. at_least k e (cases_lt k (length q.added));
        uncommitted = λ k e. uncommitted k e (cases_lt k (length q.added));
      }
    where
      declared : (k : ℕ) (d : Det) → (declared_procedure q.added k).declared ≡ Some d → (k < length q.added) ⊎ (length q.added ≤ k) → ds k ≡ d
      declared k d e (inl lt) = are.declared k d (in_last k lt) (sym (same k lt) ∙ e)
      declared k d e (inr le) = let none : None ≡ Some d = sym (declared_past q.added k le) ∙ e in cc

      at_least : (k : ℕ) → (declared_procedure q.added k).declared ≡ None → (k < length q.added) ⊎ (length q.added ≤ k) → Allows (row_of (ds k)) det
      at_least k e (inl lt) = are.at_least_det k (in_last k lt) (sym (same k lt) ∙ e)
      at_least k e (inr le) = allows_det (ds k) (past_all k le)

      uncommitted : (k : ℕ) → (declared_procedure q.added k).declared ≡ None → (k < length q.added) ⊎ (length q.added ≤ k) → (ds k).committed ≡ false
      uncommitted k e (inl lt) = are.uncommitted k (in_last k lt) (sym (same k lt) ∙ e)
      uncommitted k e (inr le) = ap (λ (d : Det). d.committed) (past_all k le)

-- ---- the body of a procedure
some_at : (ps : List Proc) (k : ℕ) → k < length ps → Proc
some_at [] k lt = absurd (omega (arith, lt))
some_at (p ∷ ps) k lt = p

module _ (outcome : Builtin → List Val → Outcome) (ordered last : PlainProcs) (is : Determined ordered last) where
  abbrev S : System
  S = determined_system outcome last

  abbrev switched : PlainProcs
  switched = is.switched

  abbrev between : PlainProcs
  between = is.between

  as_switched : length last.added ≡ length switched.added
  as_switched = is.inferred.count ∙ is.pruned.count

  module _ (k : ℕ) (e : Proc) (lt : k < length ordered.added) where
    abbrev p0 : Proc
    p0 = get_or ordered.added k e

    abbrev s : Proc
    s = get_or switched.added k e

    abbrev t : Proc
    t = get_or between.added k e

    abbrev r : Proc
    r = get_or last.added k e

    in_switched : k < length switched.added
    in_switched = subst (λ n. k < n) (sym is.forms.count) lt

    in_between : k < length between.added
    in_between = subst (λ n. k < n) (sym is.pruned.count) in_switched

    at_last : k < length last.added
    at_last = subst (λ n. k < n) (sym is.inferred.count) in_between

    from_ordered : s ≡ record p0 { body = s.body }
    from_ordered = (is.forms.switched k e lt).others

    from_switched : IsAs s r
    from_switched =
        (is.inferred.marked k e in_between).others
        ∙ ap (λ (p : Proc). record p { body = r.body; det = r.det }) (is.pruned.pruned k e in_switched).others

    from_first : IsAs p0 r
    from_first = from_switched ∙ ap (λ (p : Proc). record p { body = r.body; det = r.det }) from_ordered

    same_declared : (declared_procedure switched.added k).declared ≡ (declared_procedure last.added k).declared
    same_declared =
        ap (λ (d : DeclaredProcedure). d.declared) (declared_is switched.added k e in_switched)
        ∙ sym (ap (λ (p : Proc). p.declared) from_switched)
        ∙ sym (ap (λ (d : DeclaredProcedure). d.declared) (declared_is last.added k e at_last))

  declared_same : (k : ℕ) → k < length switched.added → (declared_procedure switched.added k).declared ≡ (declared_procedure last.added k).declared
  declared_same k lt = same_declared k (some_at switched.added k lt) (subst (λ n. k < n) is.forms.count lt)

  -- ---- the systems in which bodies are pruned and marked
  abbrev dets : ℕ → Det
  dets = assigned (determinisms_of last)

  abbrev R : System
  R = with_determinisms (as_system outcome switched) dets

  abbrev U : System
  U = where_determined outcome between (determinisms_of last)

  follows : FollowDeclared switched dets
  follows = follow outcome switched last (closed outcome last is.least) as_switched declared_same

  alike : EndAlike R S
  alike =
      record {
        source = sym (ap source_of is.inferred.others ∙ ap source_of is.pruned.others);
        insts = sym (ap insts_of is.inferred.others ∙ ap insts_of is.pruned.others);
        never = λ k. refl;
      }

  module _ (k : ℕ) (e : Proc) (lt : k < length ordered.added) where
    abbrev T : ℕ → TypeTerm
    T = type_of R (plain_proc (s k e lt))

    abbrev b : Insts
    b = entered (s k e lt).head (s k e lt).first

    abbrev V : ℕ → TypeTerm
    V = type_of U (plain_proc (t k e lt))

    abbrev c : Insts
    c = entered (t k e lt).head (t k e lt).first

    body_is : plain_node (r k e lt).body ≡ marked U V c nothing_known (pruned_body R (plain_proc (s k e lt)))
    body_is =
        (is.inferred.marked k e (in_between k e lt)).body outcome
        ∙ ap (marked U V c nothing_known) ((is.pruned.pruned k e (in_switched k e lt)).body outcome dets follows)

    pub told_at : Retold (plain_node (s k e lt).body) (plain_node (r k e lt).body)
    told_at =
        subst (Retold (plain_node (s k e lt).body)) (sym body_is)
        (told_then (pruned_told R T (s k e lt).head b (plain_node (s k e lt).body)) (marked_told U V c nothing_known (pruned_body R (plain_proc (s k e lt)))))

    -- said of a procedure as it is declared
    abbrev Marked : DeclaredProcedure → Type 0
    Marked d =
        KeepsMarks S (type_of S d.procedure) d.procedure.head (entered d.procedure.head d.procedure.first) d.procedure.body

    marks_at : KeepsMarks S T (s k e lt).head b (plain_node (r k e lt).body)
    marks_at =
        subst (KeepsMarks S T (s k e lt).head b) (sym body_is)
        (marks_stay R S T alike U V (s k e lt).head b c nothing_known (pruned_body R (plain_proc (s k e lt))) (pruned_keep_marks R (plain_proc (s k e lt))))

    pub marks_of : Marked (declared_procedure last.added k)
    marks_of =
        subst Marked (sym (declared_is last.added k e (at_last k e lt)))
        (subst (λ (p : Proc). KeepsMarks S (type_of S (plain_proc p)) p.head (entered p.head p.first) (plain_node (r k e lt).body)) (sym (from_switched k e lt)) marks_at)

    -- so the procedure's body is the switch form of a goal that has this order, told
    pub is_formed : (n : Node) → changed_node n ≡ plain_node (p0 k e lt).body → (kept : (before after : Insts) → Kept) → plain_node (s k e lt).body ≡ formed S (type_in (p0 k e lt).var_types) kept (entered (p0 k e lt).head (p0 k e lt).first) (plain_node (p0 k e lt).body) → ArmsMerge S (type_in (p0 k e lt).var_types) (entered (p0 k e lt).head (p0 k e lt).first) (formed S (type_in (p0 k e lt).var_types) kept (entered (p0 k e lt).head (p0 k e lt).first) (plain_node (p0 k e lt).body)) → IsFormed S (S.procs k) n
    is_formed n same kept form merge =
        record {
          goal = goal;
          same = told_as_order n goal same;
          kept = kept;
          merge = subst Merges (sym declared) (subst (λ (p : Proc). Merges (as_declared p)) (sym (from_first k e lt)) merge);
          told = subst Told (sym declared) (subst (λ (p : Proc). Retold (form_of (as_declared p)) (plain_node (r k e lt).body)) (sym (from_first k e lt)) (subst (λ (m : Node). Retold m (plain_node (r k e lt).body)) form told_at));
          marks = marks_of;
        }
      where
        goal : Node
        goal = plain_node (p0 k e lt).body

        declared : declared_procedure last.added k ≡ as_declared (r k e lt)
        declared = declared_is last.added k e (at_last k e lt)

        form_of : DeclaredProcedure → Node
        form_of d = formed S (type_of S d.procedure) kept (entered d.procedure.head d.procedure.first) (plain_node (p0 k e lt).body)

        Merges : DeclaredProcedure → Type 0
        Merges d = ArmsMerge S (type_of S d.procedure) (entered d.procedure.head d.procedure.first) (form_of d)

        Told : DeclaredProcedure → Type 0
        Told d = Retold (form_of d) d.procedure.body

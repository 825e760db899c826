-- What a walk over a body's marks tells is what the table tells.
use Rattle.std.proofs.Common.{◌≡◌, ℕ, zero, suc, ◌<◌, ◌≤◌, map, [], ◌∷◌, refl, arith, Bool, true, false, List, length, get_or, Option, Some, None, codes, if◌then◌else◌, sym, ap, ◌∙◌, subst}
use Rattle.mc_program.specs.Values.{Val}
use Rattle.mc_program.specs.declared.builtin.Builtin.{Builtin}
use Rattle.mc_source.specs.Determinism.{Determinism, row_of}
use Rattle.mc_source.specs.Rules.{Fault}
use Rattle.mc_source.specs.declared.det.Det.{Det}
use Rattle.mc_source.specs.declared.rule.Rule.TheVariants as R
use Rattle.mc_model.specs.Outcomes.{Outcome}
use Rattle.mc_model.specs.Scheduled.{Node, node, Procedure}
use Rattle.mc_model.specs.PlainGoals.{plain_node, plain_proc}
use Rattle.mc_model.specs.Good.{System}
use Rattle.mc_model.specs.declared.sched.Proc.{Proc}
use Rattle.mc_accepted.specs.Accepted.{entered, KeepsDeterminism}
use Rattle.mc_accepted.specs.Determined.{Known, nothing_known, determined}
use Rattle.mc_accepted.specs.Ordered.{Insts}
use Rattle.mc_accepted.specs.Inferred.{body_determinism}
use Rattle.mc_accepted.specs.DeterminismFaults.{not_allowed, undeclared, shown, shown_procedure, misplaces_io, misplaced_call, io_fault}
use Rattle.mc_accepted.specs.Fits.{type_of}
use Rattle.mc_program.specs.PlainPrograms.{plain_pred, plain_name, no_pred, no_name}
use Rattle.mc_program.specs.declared.program.Pred.{Pred}
use Rattle.mc_procs.specs.Procedures.{PlainProcs, as_system, procedure_at, source_of}
use Rattle.mc_procs.proofs.Views.{plain_node-open}
use Rattle.mc_det.specs.Determinisms.{declared_procedure}
use Rattle.mc_det.specs.MarkedProcedures.{MarksHold}
use Rattle.mc_det.proofs.Declaring.{procedure_is}
use Rattle.mc_det_rules.specs.declared.io.IoSeen.{IoSeen}
use Rattle.mc_det_rules.specs.code.Io.{InSystems, found_in}
use Rattle.mc_det_rules.specs.code.Calls.{misplaced}
use Rattle.mc_det_rules.proofs.CallsTold.{calls_told}
use Rattle.mc_det_rules.proofs.IoTold.{io_told}

-- the determinism that a goal has as its mark
abbrev mark_of : Node → Determinism
mark_of (node s changes d is_pruned) = row_of d

abbrev told : Fault → Option Fault
told f = Some f

abbrev chosen : Bool → Option Fault
chosen b = if b then Some (R.U1, codes "io goal is misplaced") else None

abbrev misplaced_in : System → Procedure → Bool
misplaced_in S P = misplaces_io S (type_of S P) (entered P.head P.first) nothing_known P.det.committed P.body

abbrev Keeps : System → Procedure → Type 0
Keeps S P = KeepsDeterminism S P (entered P.head P.first) nothing_known P.body

module _ (q : PlainProcs) (k : ℕ) (p : Proc) (seen : IoSeen) (marks : MarksHold q) (lt : k < length q.added) (is : p ≡ get_or q.added k p) (h : InSystems q (λ S type. seen ≡ found_in S type p.det.committed (plain_node p.body))) (outcome : Builtin → List Val → Outcome) where
  same : procedure_at q.added k ≡ plain_proc p
  same = procedure_is q.added k p lt ∙ ap plain_proc (sym is)

  misplaced_told : seen.is_misplaced ≡ misplaced_in (as_system outcome q) (procedure_at q.added k)
  misplaced_told =
      let S = as_system outcome q in
      let P = plain_proc p in
      ap (λ (i : IoSeen). i.is_misplaced) (h outcome (type_of S P))
      ∙ io_told S P (entered P.head P.first) nothing_known P.det.committed P.body (subst (Keeps S) same (marks outcome k lt))
      ∙ ap (misplaced_in S) (sym same)

  pub none_broken : seen.is_misplaced ≡ false → None ≡ io_fault (as_system outcome q) (procedure_at q.added k)
  none_broken f =
      ap (λ (b : Bool). chosen b) (sym f ∙ misplaced_told)

  pub one_broken : (what : List ℕ) → what ≡ codes "io goal is misplaced" → seen.is_misplaced ≡ true → Some (R.U1, what) ≡ io_fault (as_system outcome q) (procedure_at q.added k)
  one_broken what e t =
      ap (λ (w : List ℕ). told (R.U1, w)) e
      ∙ ap (λ (b : Bool). chosen b) (sym t ∙ misplaced_told)

-- the procedure of the first committed call that is misplaced
abbrev misplaced_at : System → Procedure → Option ℕ
misplaced_at S P = misplaced S.procs (entered P.head P.first) P.det.committed P.body

pub call_told : (q : PlainProcs) (k : ℕ) (p : Proc) (found : Option ℕ) → MarksHold q → k < length q.added → p ≡ get_or q.added k p → found ≡ misplaced (procedure_at q.added) (entered p.head p.first) p.det.committed (plain_node p.body) → (outcome : Builtin → List Val → Outcome) → found ≡ misplaced_call (as_system outcome q) (procedure_at q.added k)
call_told q k p found marks lt is e outcome =
    let S = as_system outcome q in
    let P = procedure_at q.added k in
    let same : P ≡ plain_proc p = procedure_is q.added k p lt ∙ ap plain_proc (sym is) in
    e
    ∙ ap (misplaced_at S) (sym same)
    ∙ calls_told S P (entered P.head P.first) nothing_known P.det.committed P.body (marks outcome k lt)

-- the predicate of a procedure
pub pred_there : (ps : List Proc) (k : ℕ) (p : Proc) → k < length ps → p ≡ get_or ps k p → p.pred ≡ (procedure_at ps k).pred
pred_there ps k p lt is = ap (λ (r : Procedure). r.pred) (sym (procedure_is ps k p lt ∙ ap plain_proc (sym is)))

pub pred_nowhere : (ps : List Proc) (k : ℕ) → length ps ≤ k → 0 ≡ (procedure_at ps k).pred
pred_nowhere [] k le = refl
pred_nowhere (p ∷ ps) zero le = absurd (omega arith)
pred_nowhere (p ∷ ps) (suc k) le = pred_nowhere ps k (omega arith)

-- the mark of a body tells whether its declaration allows it
declared_is : (ps : List Proc) (k : ℕ) (d : Proc) → k < length ps → (declared_procedure ps k).declared ≡ (get_or ps k d).declared
declared_is [] k d lt = absurd (omega arith)
declared_is (p ∷ ps) zero d lt = refl
declared_is (p ∷ ps) (suc k) d lt = declared_is ps k d (omega arith)

row_told : (S : System) (P : Procedure) (n : Node) (b : Insts) (known : Known) → KeepsDeterminism S P b known n → mark_of n ≡ determined S (type_of S P) b known n
row_told S P (node s changes d m) b known k = ap row_of k.0

pub allowed_told : (q : PlainProcs) (k : ℕ) (p : Proc) (f : Option Fault) → MarksHold q → k < length q.added → p ≡ get_or q.added k p → f ≡ not_allowed p.declared (row_of p.body.det) → (outcome : Builtin → List Val → Outcome) → f ≡ not_allowed (declared_procedure q.added k).declared (body_determinism (as_system outcome q) (procedure_at q.added k))
allowed_told q k p f marks lt is e outcome =
    let S = as_system outcome q in
    let P = procedure_at q.added k in
    let same : P ≡ plain_proc p = procedure_is q.added k p lt ∙ ap plain_proc (sym is) in
    e
    ∙ ap (λ (o : Option Det). not_allowed o (row_of p.body.det)) (ap (λ (r : Proc). r.declared) is ∙ sym (declared_is q.added k p lt))
    ∙ ap (not_allowed (declared_procedure q.added k).declared)
    (sym (ap mark_of (plain_node-open p.body)) ∙ ap (λ (r : Procedure). mark_of r.body) (sym same) ∙ row_told S P P.body (entered P.head P.first) nothing_known (marks outcome k lt))

-- the name of a predicate by its number
pub named_there : (preds : List Pred) (k : ℕ) (d : Pred) → k < length preds → (get_or (map plain_pred preds) k no_pred).name ≡ plain_name (get_or preds k d).name
named_there [] k d lt = absurd (omega arith)
named_there (p ∷ ps) zero d lt = refl
named_there (p ∷ ps) (suc k) d lt = named_there ps k d (omega arith)

pub named_nowhere : (preds : List Pred) (k : ℕ) → length preds ≤ k → (get_or (map plain_pred preds) k no_pred).name ≡ no_name
named_nowhere [] k le = refl
named_nowhere (p ∷ ps) zero le = absurd (omega arith)
named_nowhere (p ∷ ps) (suc k) le = named_nowhere ps k (omega arith)

-- an exported procedure's missing declaration
exported_is : (ps : List Proc) (k : ℕ) (d : Proc) → k < length ps → (declared_procedure ps k).exported ≡ (get_or ps k d).exported
exported_is [] k d lt = absurd (omega arith)
exported_is (p ∷ ps) zero d lt = refl
exported_is (p ∷ ps) (suc k) d lt = exported_is ps k d (omega arith)

pub undeclared_told : (q : PlainProcs) (k : ℕ) (p : Proc) (f : Option Fault) → k < length q.added → p ≡ get_or q.added k p → f ≡ undeclared p.exported p.declared (shown ((source_of q).preds p.pred).name) → (outcome : Builtin → List Val → Outcome) → f ≡ undeclared (declared_procedure q.added k).exported (declared_procedure q.added k).declared (shown_procedure (as_system outcome q) (procedure_at q.added k))
undeclared_told q k p f lt is e outcome =
    e
    ∙ ap (λ (b : Bool). undeclared b p.declared (shown ((source_of q).preds p.pred).name)) (ap (λ (r : Proc). r.exported) is ∙ sym (exported_is q.added k p lt))
    ∙ ap (λ (o : Option Det). undeclared (declared_procedure q.added k).exported o (shown ((source_of q).preds p.pred).name)) (ap (λ (r : Proc). r.declared) is ∙ sym (declared_is q.added k p lt))
    ∙ ap (λ (P : Procedure). undeclared (declared_procedure q.added k).exported (declared_procedure q.added k).declared (shown ((source_of q).preds P.pred).name)) (sym (procedure_is q.added k p lt ∙ ap plain_proc (sym is)))

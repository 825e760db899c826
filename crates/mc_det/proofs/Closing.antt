-- Procedures with their marks have the least determinisms that their bodies allow, as they had without.
use Rattle.std.proofs.Common.{◌≡◌, ℕ, zero, suc, ◌<◌, ◌≤◌, List, [], ◌∷◌, length, get_or, map, refl, sym, ap, ◌∙◌, subst, arith}
use Rattle.mc_program.specs.Values.{Val}
use Rattle.mc_program.specs.declared.builtin.Builtin.{Builtin}
use Rattle.mc_source.specs.Determinism.{row_of, Allows}
use Rattle.mc_source.specs.declared.det.Det.{Det}
use Rattle.mc_model.specs.Outcomes.{Outcome}
use Rattle.mc_model.specs.Scheduled.{Node}
use Rattle.mc_model.specs.PlainGoals.{plain_proc}
use Rattle.mc_model.specs.declared.sched.Proc.{Proc}
use Rattle.mc_accepted.specs.Determined.{nothing_known}
use Rattle.mc_accepted.specs.Fits.{type_of}
use Rattle.mc_accepted.specs.Accepted.{entered}
use Rattle.mc_accepted.specs.Inferred.{DeclaredProcedure, DeclaredSystem, system_of, body_determinism, Closed, LeastClosed}
use Rattle.mc_procs.specs.Procedures.{PlainProcs, with_procs}
use Rattle.mc_det_constraints.specs.Least.{assigned}
use Rattle.mc_det.specs.Marked.{with_marks}
use Rattle.mc_det.specs.Determinisms.{as_declared, declared_procedure, declared_system, AreDeterminisms}
use Rattle.mc_det.specs.MarkedProcedures.{IsMarked, determinisms_of, where_determined}
use Rattle.mc_det.proofs.Depending.{same_told}
use Rattle.mc_det.proofs.Marking.{told_same}
use Rattle.mc_det.proofs.Replacing.{some_of}

-- procedures of which the same is declared, and whose bodies have the same determinisms
record Alike (D E : DeclaredSystem) : Type 0 where
  pub count : E.count ≡ D.count
  pub declared : (k : ℕ) → k < D.count → (E.procs k).declared ≡ (D.procs k).declared
  pub bodies : (ds : ℕ → Det) (k : ℕ) → k < D.count → body_determinism (system_of E ds) (E.procs k).procedure ≡ body_determinism (system_of D ds) (D.procs k).procedure
  pub others : (k : ℕ) → D.count ≤ k → (E.procs k).procedure.det ≡ (D.procs k).procedure.det

other_way : (D E : DeclaredSystem) → Alike D E → Alike E D
other_way D E a =
    record {
      count = sym a.count;
      declared = λ k lt. sym (a.declared k (subst (λ n. k < n) a.count lt));
      bodies = λ ds k lt. sym (a.bodies ds k (subst (λ n. k < n) a.count lt));
      others = λ k le. sym (a.others k (subst (λ n. n ≤ k) a.count le));
    }

closed_too : (D E : DeclaredSystem) (ds : ℕ → Det) → Alike D E → Closed D ds → Closed E ds
closed_too D E ds a c =
    record {
      declared = λ k d lt e. let t = subst (λ n. k < n) a.count lt in c.declared k d t (sym (a.declared k t) ∙ e);
      at_least_det = λ k lt e. let t = subst (λ n. k < n) a.count lt in c.at_least_det k t (sym (a.declared k t) ∙ e);
      uncommitted = λ k lt e. let t = subst (λ n. k < n) a.count lt in c.uncommitted k t (sym (a.declared k t) ∙ e);
      allows = λ k lt e.
          let t = subst (λ n. k < n) a.count lt in
          subst (Allows (row_of (ds k))) (sym (a.bodies ds k t)) (c.allows k t (sym (a.declared k t) ∙ e));
      others = λ k le. let t = subst (λ n. n ≤ k) a.count le in c.others k t ∙ sym (a.others k t);
    }

least_too : (D E : DeclaredSystem) (ds : ℕ → Det) → Alike D E → LeastClosed D ds → LeastClosed E ds
least_too D E ds a l =
    record {
      closed = closed_too D E ds a l.closed;
      least = λ es c k lt. l.least es (closed_too E D es (other_way D E a) c) k (subst (λ n. k < n) a.count lt);
    }

-- procedures of lists
declared_is : (ps : List Proc) (k : ℕ) (d : Proc) → k < length ps → declared_procedure ps k ≡ as_declared (get_or ps k d)
declared_is [] k d lt = absurd (omega arith)
declared_is (p ∷ ps) zero d lt = refl
declared_is (p ∷ ps) (suc k) d lt = declared_is ps k d (omega arith)

none_is : (ps qs : List Proc) (k : ℕ) → length ps ≤ k → length qs ≤ k → declared_procedure ps k ≡ declared_procedure qs k
none_is [] [] k a b = refl
none_is [] (q ∷ qs) zero a b = absurd (omega arith)
none_is [] (q ∷ qs) (suc k) a b = none_is [] qs k (omega arith) (omega arith)
none_is (p ∷ ps) qs zero a b = absurd (omega arith)
none_is (p ∷ ps) [] (suc k) a b = none_is ps [] k (omega arith) (omega arith)
none_is (p ∷ ps) (q ∷ qs) (suc k) a b = none_is ps qs k (omega arith) (omega arith)

module _ (q : PlainProcs) (ps : List Proc) (ds : List Det) (count : length ps ≡ length q.added) (m : (k : ℕ) (d : Proc) → k < length q.added → IsMarked q ds (get_or q.added k d) (get_or ps k d)) (outcome : Builtin → List Val → Outcome) where
  abbrev D : DeclaredSystem
  D = declared_system outcome q

  abbrev E : DeclaredSystem
  E = declared_system outcome (with_procs q ps)

  -- a body with marks
  marked_same : (es : ℕ → Det) (p r : Proc) → IsMarked q ds p r → body_determinism (system_of E es) (plain_proc r) ≡ body_determinism (system_of D es) (plain_proc p)
  marked_same es p r i =
      let S = where_determined outcome q ds in
      let P = plain_proc p in
      let is : plain_proc r ≡ with_marks S r.det P =
      ap plain_proc i.others ∙ ap (λ (n : Node). record P { body = n; det = r.det }) (i.body outcome) in
      ap (body_determinism (system_of E es)) is
      ∙ told_same (system_of E es) S (type_of S P) (entered P.head P.first) nothing_known P.body
      ∙ same_told D.world D.insts E.count D.count (system_of E es).procs (system_of D es).procs (λ k. refl) (type_of S P) (entered P.head P.first) nothing_known P.body

  alike : Alike D E
  alike =
      record {
        count = count;
        declared = λ k lt.
            let e : Proc = some_of q.added k lt in
            let h : k < length ps = omega arith in
            ap (λ (d : DeclaredProcedure). d.declared) (declared_is ps k e h)
            ∙ ap (λ (r : Proc). r.declared) (m k e lt).others
            ∙ ap (λ (d : DeclaredProcedure). d.declared) (sym (declared_is q.added k e lt));
        bodies = λ es k lt.
            let e : Proc = some_of q.added k lt in
            let h : k < length ps = omega arith in
            ap (λ (d : DeclaredProcedure). body_determinism (system_of E es) d.procedure) (declared_is ps k e h)
            ∙ marked_same es (get_or q.added k e) (get_or ps k e) (m k e lt)
            ∙ ap (λ (d : DeclaredProcedure). body_determinism (system_of D es) d.procedure) (sym (declared_is q.added k e lt));
        others = λ k le.
            let h : length ps ≤ k = omega arith in
            ap (λ (d : DeclaredProcedure). d.procedure.det) (none_is ps q.added k h le);
      }

pub least_so : (q r : PlainProcs) (ps : List Proc) (ds : List Det) → r ≡ with_procs q ps → length ps ≡ length q.added → map (λ (p : Proc). p.det) ps ≡ ds → AreDeterminisms q ds → ((k : ℕ) (d : Proc) → k < length q.added → IsMarked q ds (get_or q.added k d) (get_or ps k d)) → AreDeterminisms r (determinisms_of r)
least_so q r ps ds is count dets least m =
    subst (λ (v : PlainProcs). AreDeterminisms v (determinisms_of v)) (sym is)
    (subst (AreDeterminisms (with_procs q ps)) (sym dets)
    (λ outcome. least_too (declared_system outcome q) (declared_system outcome (with_procs q ps)) (assigned ds) (alike q ps ds count m outcome) (least outcome)))

-- The table depends on nothing of procedures but their determinisms.
use Rattle.std.proofs.Common.{◌≡◌, ℕ, zero, suc, ◌<◌, ◌||◌, List, [], ◌∷◌, length, get_or, map, Bool, refl, sym, ap, ap₂, ◌∙◌, subst, arith, if◌then◌else◌}
use Rattle.mc_program.specs.Programs.{TypeTerm}
use Rattle.mc_source.specs.Determinism.{Determinism, inferred, row_of, conj, disj, ite, negated, pruned, greater}
use Rattle.mc_source.specs.declared.det.Det.{Det}
use Rattle.mc_model.specs.Truth.{World}
use Rattle.mc_model.specs.Insts.{Graph}
use Rattle.mc_model.specs.Scheduled.{Node, node, Scheduled, Conj, Disj, Switch, Ite, Not, Exists, Assign, Test, Build, Take, Const, TestConst, Call, Apply, Nodes, no_nodes, node_then, Arms, no_arms, arm_then, Procedure}
use Rattle.mc_model.specs.PlainGoals.{plain_proc}
use Rattle.mc_model.specs.Good.{System}
use Rattle.mc_model.specs.declared.sched.Proc.{Proc}
use Rattle.mc_accepted.specs.Ordered.{Insts}
use Rattle.mc_accepted.specs.Determined.{Known, nothing_known, learned, insts_after, then_tests, misses, allowed_in, determined, determined_in, determined_all, determined_any, determined_arms}
use Rattle.mc_accepted.specs.Fits.{type_of}
use Rattle.mc_accepted.specs.Accepted.{entered, KeepsDeterminism, KeepsInside, AllKeep, EachKeeps, ArmsKeep}
use Rattle.mc_procs.specs.Procedures.{PlainProcs, procedure_at, as_system, with_procs}
use Rattle.mc_det_constraints.specs.Least.{assigned}
use Rattle.mc_det.specs.Marked.{marked, marked_in, marked_all, marked_each, marked_arms, marked_body, with_marks}
use Rattle.mc_det.specs.Determinisms.{AreDeterminisms}
use Rattle.mc_det.specs.MarkedProcedures.{IsMarked, Inferred, MarksHold, determinisms_of, where_determined}
use Rattle.mc_det.proofs.Declaring.{procedure_is}
use Rattle.mc_det.proofs.Marking.{marks_are_kept}
use Rattle.mc_det.proofs.Replacing.{some_of}

module _ (world : World) (insts : Graph) (m n : ℕ) (f g : ℕ → Procedure) (same : (k : ℕ) → (f k).det ≡ (g k).det) where
  abbrev A : System
  A = record { world = world; count = m; procs = f; insts = insts }

  abbrev B : System
  B = record { world = world; count = n; procs = g; insts = insts }

  abbrev switched : Bool → Determinism → Determinism
  switched b d = record { can_fail = b || d.can_fail; most = d.most }

  abbrev armed : Determinism → Determinism → Determinism
  armed d e = record { can_fail = d.can_fail || e.can_fail; most = greater d.most e.most }

  module _ (type : ℕ → TypeTerm) where
    mutual
      pub same_told : (b : Insts) (known : Known) (t : Node) → determined A type b known t ≡ determined B type b known t
      same_told b known (node s changes d p) = ap (λ (r : Determinism). if p then pruned r else r) (same_in b known s)

      same_in : (b : Insts) (known : Known) (s : Scheduled) → determined_in A type b known s ≡ determined_in B type b known s
      same_in b known (Conj ns) = same_all b known ns
      same_in b known (Disj ns) = same_any b known ns
      same_in b known (Switch x arms) = ap (switched (misses A type (allowed_in A type (type x) (b x)) arms)) (same_arms b known x arms)
      same_in b known (Ite vs c t e) =
          ap (λ (r : Determinism). ite r (determined A type (insts_after c b) known t) (determined A type b known e)) (same_told b known c)
          ∙ ap₂ (ite (determined B type b known c)) (same_told (insts_after c b) known t) (same_told b known e)
      same_in b known (Not t) = ap negated (same_told b known t)
      same_in b known (Exists vs t) = same_told b known t
      same_in b known (Assign x y) = refl
      same_in b known (Test x y) = refl
      same_in b known (Build x s ys) = refl
      same_in b known (Take x s ys) = refl
      same_in b known (Const x v) = refl
      same_in b known (TestConst x v) = refl
      same_in b known (Call p xs implied last) = ap (λ (d : Det). then_tests implied (row_of d)) (same p)
      same_in b known (Apply op xs ys) = refl

      same_all : (b : Insts) (known : Known) (ns : Nodes) → determined_all A type b known ns ≡ determined_all B type b known ns
      same_all b known no_nodes = refl
      same_all b known (node_then t ns) = ap₂ conj (same_told b known t) (same_all (insts_after t b) known ns)

      same_any : (b : Insts) (known : Known) (ns : Nodes) → determined_any A type b known ns ≡ determined_any B type b known ns
      same_any b known no_nodes = refl
      same_any b known (node_then t ns) = ap₂ disj (same_told b known t) (same_any b known ns)

      same_arms : (b : Insts) (known : Known) (x : ℕ) (arms : Arms) → determined_arms A type b known x arms ≡ determined_arms B type b known x arms
      same_arms b known x no_arms = refl
      same_arms b known x (arm_then l t arms) = ap₂ armed (same_told b (learned x l known) t) (same_arms b known x arms)

    mutual
      pub same_marks : (b : Insts) (known : Known) (t : Node) → marked A type b known t ≡ marked B type b known t
      same_marks b known (node s changes d p) =
          ap₂ (λ (u : Scheduled) (r : Determinism). node u changes (inferred r) p) (marks_in b known s) (same_told b known (node s changes d p))

      marks_in : (b : Insts) (known : Known) (s : Scheduled) → marked_in A type b known s ≡ marked_in B type b known s
      marks_in b known (Conj ns) = ap Conj (marks_all b known ns)
      marks_in b known (Disj ns) = ap Disj (marks_each b known ns)
      marks_in b known (Switch x arms) = ap (Switch x) (marks_arms b known x arms)
      marks_in b known (Ite vs c t e) =
          ap (λ (n : Node). Ite vs n (marked A type (insts_after c b) known t) (marked A type b known e)) (same_marks b known c)
          ∙ ap₂ (Ite vs (marked B type b known c)) (same_marks (insts_after c b) known t) (same_marks b known e)
      marks_in b known (Not t) = ap Not (same_marks b known t)
      marks_in b known (Exists vs t) = ap (Exists vs) (same_marks b known t)
      marks_in b known (Assign x y) = refl
      marks_in b known (Test x y) = refl
      marks_in b known (Build x s ys) = refl
      marks_in b known (Take x s ys) = refl
      marks_in b known (Const x v) = refl
      marks_in b known (TestConst x v) = refl
      marks_in b known (Call p xs implied last) = refl
      marks_in b known (Apply op xs ys) = refl

      marks_all : (b : Insts) (known : Known) (ns : Nodes) → marked_all A type b known ns ≡ marked_all B type b known ns
      marks_all b known no_nodes = refl
      marks_all b known (node_then t ns) = ap₂ node_then (same_marks b known t) (marks_all (insts_after t b) known ns)

      marks_each : (b : Insts) (known : Known) (ns : Nodes) → marked_each A type b known ns ≡ marked_each B type b known ns
      marks_each b known no_nodes = refl
      marks_each b known (node_then t ns) = ap₂ node_then (same_marks b known t) (marks_each b known ns)

      marks_arms : (b : Insts) (known : Known) (x : ℕ) (arms : Arms) → marked_arms A type b known x arms ≡ marked_arms B type b known x arms
      marks_arms b known x no_arms = refl
      marks_arms b known x (arm_then l t arms) = ap₂ (arm_then l) (same_marks b (learned x l known) t) (marks_arms b known x arms)

  module _ (p : Procedure) where
    mutual
      keeps : (b : Insts) (known : Known) (t : Node) → KeepsDeterminism A p b known t → KeepsDeterminism B p b known t
      keeps b known (node s changes d r) k =
          (k.0 ∙ ap inferred (same_told (type_of A p) b known (node s changes d r)), keeps_in b known s k.1)

      keeps_in : (b : Insts) (known : Known) (s : Scheduled) → KeepsInside A p b known s → KeepsInside B p b known s
      keeps_in b known (Conj ns) k = keeps_all b known ns k
      keeps_in b known (Disj ns) k = keeps_each b known ns k
      keeps_in b known (Switch x arms) k = keeps_arms b known x arms k
      keeps_in b known (Ite vs c t e) k = (keeps b known c k.0, keeps (insts_after c b) known t k.1, keeps b known e k.2)
      keeps_in b known (Not t) k = keeps b known t k
      keeps_in b known (Exists vs t) k = keeps b known t k
      keeps_in b known (Assign x y) k = tt
      keeps_in b known (Test x y) k = tt
      keeps_in b known (Build x s ys) k = tt
      keeps_in b known (Take x s ys) k = tt
      keeps_in b known (Const x v) k = tt
      keeps_in b known (TestConst x v) k = tt
      keeps_in b known (Call q xs implied last) k = tt
      keeps_in b known (Apply op xs ys) k = tt

      keeps_all : (b : Insts) (known : Known) (ns : Nodes) → AllKeep A p b known ns → AllKeep B p b known ns
      keeps_all b known no_nodes k = tt
      keeps_all b known (node_then t ns) k = (keeps b known t k.0, keeps_all (insts_after t b) known ns k.1)

      keeps_each : (b : Insts) (known : Known) (ns : Nodes) → EachKeeps A p b known ns → EachKeeps B p b known ns
      keeps_each b known no_nodes k = tt
      keeps_each b known (node_then t ns) k = (keeps b known t k.0, keeps_each b known ns k.1)

      keeps_arms : (b : Insts) (known : Known) (x : ℕ) (arms : Arms) → ArmsKeep A p b known x arms → ArmsKeep B p b known x arms
      keeps_arms b known x no_arms k = tt
      keeps_arms b known x (arm_then l t arms) k = (keeps b (learned x l known) t k.0, keeps_arms b known x arms k.1)

-- the determinisms of procedures, by their numbers
det_at : (ps : List Proc) (k : ℕ) → assigned (map (λ (p : Proc). p.det) ps) k ≡ (procedure_at ps k).det
det_at [] k = refl
det_at (p ∷ ps) zero = refl
det_at (p ∷ ps) (suc k) = det_at ps k

-- a procedure with another body and determinism
abbrev with_body : Procedure → Node → Det → Procedure
with_body P n d = record P { body = n; det = d }

-- what holds of a procedure's own marks
abbrev Keeps : System → Procedure → Type 0
Keeps S P = KeepsDeterminism S P (entered P.head P.first) nothing_known P.body

marks_hold : (q : PlainProcs) (ps : List Proc) → ((k : ℕ) (d : Proc) → k < length q.added → IsMarked q (map (λ (p : Proc). p.det) ps) (get_or q.added k d) (get_or ps k d)) → length ps ≡ length q.added → MarksHold (with_procs q ps)
marks_hold q ps m count outcome k lt =
    let h : k < length q.added = omega arith in
    let e : Proc = some_of ps k lt in
    let ds = map (λ (p : Proc). p.det) ps in
    let S = where_determined outcome q ds in
    let P = plain_proc (get_or q.added k e) in
    let r : Proc = get_or ps k e in
    let is : plain_proc r ≡ with_marks S r.det P =
    ap plain_proc (m k e h).others ∙ ap (λ (n : Node). with_body P n r.det) ((m k e h).body outcome) in
    let kept : Keeps S (with_marks S r.det P) = marks_are_kept S P r.det in
    let moved : Keeps (as_system outcome (with_procs q ps)) (with_marks S r.det P) =
    keeps S.world S.insts S.count (length ps) S.procs (procedure_at ps) (det_at ps) (with_marks S r.det P) (entered P.head P.first) nothing_known (marked_body S P) kept in
    subst (Keeps (as_system outcome (with_procs q ps))) (sym is ∙ sym (procedure_is ps k e lt)) moved

-- a procedure is marked the same whichever others stand beside it
pub marked_elsewhere : (q : PlainProcs) (ps : List Proc) (ds : List Det) (p r : Proc) → IsMarked (with_procs q ps) ds p r → IsMarked q ds p r
marked_elsewhere q ps ds p r m =
    let P = plain_proc p in
    record {
      others = m.others;
      body = λ outcome.
          let S = where_determined outcome q ds in
          let T = where_determined outcome (with_procs q ps) ds in
          m.body outcome
          ∙ same_marks S.world S.insts T.count S.count T.procs S.procs (λ k. refl) (type_of S P) (entered P.head P.first) nothing_known P.body;
    }

-- what holds after all procedures with their marks came into their places
module _ (q r : PlainProcs) (ps : List Proc) (ds : List Det) (is : r ≡ with_procs q ps) (count : length ps ≡ length q.added) (dets : map (λ (p : Proc). p.det) ps ≡ ds) where
  these : ds ≡ determinisms_of r
  these = sym dets ∙ ap determinisms_of (sym is)

  pub inferred_so : AreDeterminisms q ds → ((k : ℕ) (d : Proc) → k < length q.added → IsMarked q ds (get_or q.added k d) (get_or ps k d)) → Inferred q r
  inferred_so least m =
      record {
        others = is ∙ ap (with_procs q) (sym (ap (λ (v : PlainProcs). v.added) is));
        count = ap (λ (v : PlainProcs). length v.added) is ∙ count;
        determinisms = subst (AreDeterminisms q) these least;
        marked = λ k d lt.
            subst (λ (l : List Det). IsMarked q l (get_or q.added k d) (get_or r.added k d)) these
            (subst (λ (v : PlainProcs). IsMarked q ds (get_or q.added k d) (get_or v.added k d)) (sym is) (m k d lt));
      }

  pub marks_so : ((k : ℕ) (d : Proc) → k < length q.added → IsMarked q ds (get_or q.added k d) (get_or ps k d)) → MarksHold r
  marks_so m =
      subst MarksHold (sym is)
      (marks_hold q ps (λ k d lt. subst (λ (l : List Det). IsMarked q l (get_or q.added k d) (get_or ps k d)) (sym dets) (m k d lt)) count)

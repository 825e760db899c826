-- Procedures as data and as they are declared, and where a walk over a body begins.
use Rattle.std.proofs.Math.Path.{fun_ext}
use Rattle.std.proofs.Common.{◌≡◌, ⊎_elim, ℕ, zero, suc, ◌+◌, ◌<◌, ◌≤◌, nat_eq, List, [], ◌∷◌, ◌++◌, length, get_or, map, Option, refl, sym, ap, ◌∙◌, subst, arith, Result, Ok, Err, IfOk}
use Rattle.std.proofs.lemmas.List.{length-map}
use Rattle.std.proofs.lemmas.Bool.{cases_eq}
use Rattle.mc_program.specs.Values.{Val}
use Rattle.mc_program.specs.PlainPrograms.{plain_type}
use Rattle.mc_program.specs.declared.builtin.Builtin.{Builtin}
use Rattle.mc_source.specs.Determinism.{inferred, det}
use Rattle.mc_source.specs.declared.det.Det.{Det}
use Rattle.mc_model.specs.Outcomes.{Outcome}
use Rattle.mc_model.specs.Good.{System}
use Rattle.mc_model.specs.Scheduled.{Procedure, Label}
use Rattle.mc_model.specs.PlainGoals.{plain_proc, plain_node}
use Rattle.mc_model.specs.declared.sched.Proc.{Proc}
use Rattle.mc_accepted.specs.Accepted.{entered}
use Rattle.mc_insts.specs.Graphs.{count_of}
use Rattle.mc_procs.specs.Named.{NumbersBelow, Named}
use Rattle.mc_procs.specs.Fitting.{AllFit, ProcedureFits}
use Rattle.mc_procs.specs.Procedures.{PlainProcs, procedure_at, as_system}
use Rattle.mc_det_constraints.specs.declared.constraint.Step.{Step}
use Rattle.mc_det_constraints.specs.Least as L
use Rattle.mc_det_constraints.specs.Least.{body_at, assigned, Least}
use Rattle.mc_det.specs.ConstraintLaws.{AreBodies, as_they_stand, constraint_of}
use Rattle.mc_det.specs.Bodies.{constraint}
use Rattle.mc_det.specs.Determinisms.{declared_procedure, declared_system, AreDeterminisms}
use Rattle.mc_det.specs.declared.walk.Walk.{Walk}
use Rattle.mc_det.specs.declared.facts.Fact.{Fact}
use Rattle.mc_det.specs.code.Facts.{known_in}
use Rattle.mc_det.specs.code.Points.{insts_in}
use Rattle.mc_det.specs.code.Walks.{typed, bounds_in, Ready, InSystems, Puts}
use Rattle.mc_det.proofs.Skeletons.{least_by_skeletons}
use Rattle.mc_det.proofs.Walking.{either_below}

-- Procedures of a list.
pub procedure_is : (ps : List Proc) (k : ℕ) (d : Proc) → k < length ps → procedure_at ps k ≡ plain_proc (get_or ps k d)
procedure_is [] k d lt = absurd (omega arith)
procedure_is (p ∷ ps) zero d lt = refl
procedure_is (p ∷ ps) (suc k) d lt = procedure_is ps k d (omega arith)

same_procedure : (ps : List Proc) (k : ℕ) → (declared_procedure ps k).procedure ≡ procedure_at ps k
same_procedure [] k = refl
same_procedure (p ∷ ps) zero = refl
same_procedure (p ∷ ps) (suc k) = same_procedure ps k

same_declared : (ps : List Proc) (k : ℕ) → L.declared_at (map (λ (p : Proc). p.declared) ps) k ≡ (declared_procedure ps k).declared
same_declared [] k = refl
same_declared (p ∷ ps) zero = refl
same_declared (p ∷ ps) (suc k) = same_declared ps k

past_procedures : (ps : List Proc) (k : ℕ) → length ps ≤ k → (declared_procedure ps k).procedure.det ≡ inferred det
past_procedures [] k le = refl
past_procedures (p ∷ ps) zero le = absurd (omega arith)
past_procedures (p ∷ ps) (suc k) le = past_procedures ps k (omega arith)

same_system : (outcome : Builtin → List Val → Outcome) (q : PlainProcs) → as_system outcome q ≡ as_they_stand (declared_system outcome q)
same_system outcome q =
    ap (λ (procs : ℕ → Procedure). record (as_system outcome q) { procs = procs }) (fun_ext (λ k. sym (same_procedure q.added k)))

-- these are the skeletons of all bodies, and what is declared of each procedure
pub are_bodies : (q : PlainProcs) (bodies : List (List Step)) (declared : List (Option Det)) → length bodies ≡ length q.added → declared ≡ map (λ (p : Proc). p.declared) q.added → InSystems q (λ S. (k : ℕ) → k < length q.added → body_at bodies k ≡ constraint_of S (procedure_at q.added k)) → (outcome : Builtin → List Val → Outcome) → AreBodies (declared_system outcome q) bodies declared
are_bodies q bodies declared count told each outcome =
    record {
      count = count;
      bodies_are = λ k lt.
          each outcome k lt
          ∙ ap (λ (S : System). constraint_of S (procedure_at q.added k)) (same_system outcome q)
          ∙ ap (constraint_of (as_they_stand (declared_system outcome q))) (sym (same_procedure q.added k));
      declared_are = λ k lt. ap (λ (ds : List (Option Det)). L.declared_at ds k) told ∙ same_declared q.added k;
      others = λ k le. past_procedures q.added k le;
    }

pub are_determinisms : (q : PlainProcs) (bodies : List (List Step)) (declared : List (Option Det)) (ds : List Det) → length bodies ≡ length q.added → declared ≡ map (λ (p : Proc). p.declared) q.added → InSystems q (λ S. (k : ℕ) → k < length q.added → body_at bodies k ≡ constraint_of S (procedure_at q.added k)) → Least bodies declared (assigned ds) → AreDeterminisms q ds
are_determinisms q bodies declared ds count told each least outcome =
    least_by_skeletons (declared_system outcome q) bodies declared (assigned ds) (are_bodies q bodies declared count told each outcome) least

-- Where a walk begins.
pub entered_below : (n : ℕ) (head first : List ℕ) (x : ℕ) → 0 < n → NumbersBelow n first → entered head first x < n
entered_below n [] is x lt h = lt
entered_below n (y ∷ ys) [] x lt h = lt
entered_below n (y ∷ ys) (i ∷ is) x lt h = either_below (nat_eq x y) i (entered ys is x) n h.0 (entered_below n ys is x lt h.1)

pub some_inst : (q : PlainProcs) → AllFit q → 0 < count_of q.insts
some_inst q a = let m = a.program.insts_are.builtins.many in omega arith

pub ready_first : (q : PlainProcs) (p : Proc) (point : List ℕ) → AllFit q → ProcedureFits q (plain_proc p) → length point ≡ length p.var_types → insts_in point ≡ entered p.head p.first → Ready q p.var_types point
ready_first q p point a f many are =
    record {
      many = many;
      below = λ x. subst (λ (b : ℕ → ℕ). b x < count_of q.insts) (sym are) (entered_below (count_of q.insts) p.head p.first x (some_inst q a) f.first);
    }

pub head_there : (q : PlainProcs) (p : Proc) → ProcedureFits q (plain_proc p) → NumbersBelow (length p.var_types) p.head
head_there q p f = subst (λ n. NumbersBelow n p.head) (length-map p.var_types plain_type) f.head

pub body_named : (q : PlainProcs) (p : Proc) → ProcedureFits q (plain_proc p) → Named (bounds_in q (length p.var_types)) (plain_node p.body)
body_named q p f = subst (λ n. Named (bounds_in q n) (plain_node p.body)) (length-map p.var_types plain_type) f.body

pub whole_body : (q : PlainProcs) (p : Proc) (a b : Walk) → a.known.items ≡ [] → a.steps.items ≡ [] → insts_in a.point ≡ entered p.head p.first → Puts q a b (λ S is kn. constraint S (typed p.var_types) is kn (plain_node p.body)) → InSystems q (λ S. b.steps.items ≡ constraint_of S (plain_proc p))
whole_body q p a b known steps are put outcome =
    let S = as_system outcome q in
    put.steps outcome
    ∙ ap (λ (xs : List Step). xs ++ constraint S (typed p.var_types) (insts_in a.point) (known_in a.known.items) (plain_node p.body)) steps
    ∙ ap (λ (fs : List Fact). constraint S (typed p.var_types) (insts_in a.point) (known_in fs) (plain_node p.body)) known
    ∙ ap (λ (is : ℕ → ℕ). constraint S (typed p.var_types) is (known_in []) (plain_node p.body)) are
    ∙ ap (λ (kn : ℕ → Option Label). constraint S (typed p.var_types) (entered p.head p.first) kn (plain_node p.body)) (fun_ext (λ x. refl))

-- one body more
pub one_body : (q : PlainProcs) (bodies : List (List Step)) (k : ℕ) (p d : Proc) (steps : List Step) → length bodies ≡ k → k < length q.added → p ≡ get_or q.added k d → InSystems q (λ S. steps ≡ constraint_of S (plain_proc p)) → InSystems q (λ S. (j : ℕ) → j < k → body_at bodies j ≡ constraint_of S (procedure_at q.added j)) → InSystems q (λ S. (j : ℕ) → j < k + 1 → body_at (bodies ++ steps ∷ []) j ≡ constraint_of S (procedure_at q.added j))
one_body q bodies k p d steps count lt is put inv outcome j b =
    ⊎_elim
    (λ (e : j ≡ k).
    at_end bodies steps j (e ∙ sym count)
    ∙ put outcome
    ∙ ap (λ (r : Proc). constraint_of (as_system outcome q) (plain_proc r)) is
    ∙ ap (constraint_of (as_system outcome q)) (sym (procedure_is q.added k d lt))
    ∙ ap (λ n. constraint_of (as_system outcome q) (procedure_at q.added n)) (sym e))
    (λ (n : j ≡ k → ⊥). let less : j < k = omega arith in at_before bodies steps j (omega arith) ∙ inv outcome j less)
    (cases_eq j k)
  where
    at_end : (bs : List (List Step)) (s : List Step) (i : ℕ) → i ≡ length bs → body_at (bs ++ s ∷ []) i ≡ s
    at_end [] s zero e = refl
    at_end [] s (suc i) e = absurd (omega arith)
    at_end (b ∷ bs) s zero e = absurd (omega arith)
    at_end (b ∷ bs) s (suc i) e = at_end bs s i (omega arith)

    at_before : (bs : List (List Step)) (s : List Step) (i : ℕ) → i < length bs → body_at (bs ++ s ∷ []) i ≡ body_at bs i
    at_before [] s i e = absurd (omega arith)
    at_before (b ∷ bs) s zero e = refl
    at_before (b ∷ bs) s (suc i) e = at_before bs s i (omega arith)

-- what holds of an answer
pub if_ok_as : {T E : Type 0} (r : Result T E) (P Q : T → Type 0) → ((x : T) → P x → Q x) → IfOk r P → IfOk r Q
if_ok_as (Ok x) P Q f h = f x h
if_ok_as (Err e) P Q f h = tt

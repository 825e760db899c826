-- Skeletons tell what the table says.
use Rattle.std.proofs.Common.{◌≡◌, ℕ, ◌<◌, ◌≤◌, List, [], ◌∷◌, ◌++◌, Bool, true, false, not, ◌||◌, refl, sym, ap, ◌∙◌, subst, arith, if◌then◌else◌, Option}
use Rattle.mc_program.specs.Programs.{TypeTerm}
use Rattle.mc_source.specs.Determinism.{Determinism, row_of, det, semidet, conj, pruned, Allows}
use Rattle.mc_source.specs.declared.det.Det.{Det}
use Rattle.mc_source.specs.declared.det.Most.{Most}
use Rattle.mc_source.specs.declared.det.Most.TheVariants.{Zero, One, Many}
use Rattle.mc_model.specs.Scheduled.{Node, node, Scheduled, Conj, Disj, Switch, Ite, Not, Exists, Assign, Test, Build, Take, Const, TestConst, Call, Apply, Nodes, no_nodes, node_then, Arms, no_arms, arm_then}
use Rattle.mc_model.specs.Good.{System}
use Rattle.mc_accepted.specs.Ordered.{Insts}
use Rattle.mc_accepted.specs.Determined.{Known, nothing_known, learned, knows_constant, insts_after, then_tests, allowed_in, misses, determined, determined_in, determined_all, determined_any, determined_arms}
use Rattle.mc_accepted.specs.DeterminismFaults.{is_empty}
use Rattle.mc_accepted.specs.Inferred.{DeclaredSystem, with_determinisms, system_of, body_determinism, Closed}
use Rattle.mc_accepted.specs.Fits.{type_of}
use Rattle.mc_accepted.specs.Accepted.{entered}
use Rattle.mc_det_constraints.specs.declared.constraint.Step.{Step}
use Rattle.mc_det_constraints.specs.declared.constraint.Step.TheVariants as T
use Rattle.mc_det_constraints.specs.Skeletons.{top, after_step, after_steps, value}
use Rattle.mc_det_constraints.specs.Least as L
use Rattle.mc_det_constraints.specs.Least.{body_at, declared_at, Least}
use Rattle.mc_det.specs.Bodies.{constraint, constraint_in, constraint_all, constraint_any, constraint_arms}
use Rattle.mc_det.specs.ConstraintLaws.{SkeletonsTell, LeastBySkeletons, AreBodies, as_they_stand}

-- steps, and then other steps
in_turn : (ds : ℕ → Det) (xs ys : List Step) (stack : List Determinism) → after_steps ds (xs ++ ys) stack ≡ after_steps ds ys (after_steps ds xs stack)
in_turn ds [] ys stack = refl
in_turn ds (x ∷ xs) ys stack = in_turn ds xs ys (after_step ds x stack)

then_these : (ds : ℕ → Det) (xs ys : List Step) (stack next : List Determinism) → after_steps ds xs stack ≡ next → after_steps ds (xs ++ ys) stack ≡ after_steps ds ys next
then_these ds xs ys stack next e = in_turn ds xs ys stack ∙ ap (after_steps ds ys) e

-- tests of implied arguments
tested_twice : (f : Bool) (m : Most) → let d : Determinism = record { can_fail = f; most = m } in conj (conj d semidet) semidet ≡ conj d semidet
tested_twice true Zero = refl
tested_twice true One = refl
tested_twice true Many = refl
tested_twice false Zero = refl
tested_twice false One = refl
tested_twice false Many = refl

more_tests : (ks : List ℕ) (d : Determinism) → then_tests ks (conj d semidet) ≡ conj d semidet
more_tests [] d = refl
more_tests (k ∷ ks) d = ap (then_tests ks) (tested_twice d.can_fail d.most) ∙ more_tests ks d

pub tests_tell : (ks : List ℕ) (d : Determinism) → (if not (is_empty ks) then conj d semidet else d) ≡ then_tests ks d
tests_tell [] d = refl
tests_tell (k ∷ ks) d = sym (more_tests ks d)

constants_tell : (b : Bool) → let d : Determinism = record { can_fail = not b; most = One } in (if b then det else semidet) ≡ d
constants_tell true = refl
constants_tell false = refl

module _ (S : System) (type : ℕ → TypeTerm) (ds : ℕ → Det) where
  abbrev W : System
  W = with_determinisms S ds

  pruned_tells : (m : Bool) (d : Determinism) (stack : List Determinism) → after_steps ds (if m then T.Pruned ∷ [] else []) (d ∷ stack) ≡ (if m then pruned d else d) ∷ stack
  pruned_tells true d stack = refl
  pruned_tells false d stack = refl

  misses_tells : (m : Bool) (d : Determinism) (stack : List Determinism) → let e : Determinism = record { can_fail = m || d.can_fail; most = d.most } in after_steps ds (if m then T.Misses ∷ [] else []) (d ∷ stack) ≡ e ∷ stack
  misses_tells true d stack = refl
  misses_tells false d stack = refl

  mutual
    tells : (b : Insts) (known : Known) (n : Node) (stack : List Determinism) → after_steps ds (constraint S type b known n) stack ≡ determined W type b known n ∷ stack
    tells b known (node s changes d m) stack =
        then_these ds (constraint_in S type b known s) _ stack _ (tells_in b known s stack)
        ∙ pruned_tells m (determined_in W type b known s) stack

    tells_in : (b : Insts) (known : Known) (s : Scheduled) (stack : List Determinism) → after_steps ds (constraint_in S type b known s) stack ≡ determined_in W type b known s ∷ stack
    tells_in b known (Conj ns) stack = tells_all b known ns stack
    tells_in b known (Disj ns) stack = tells_any b known ns stack
    tells_in b known (Switch x arms) stack =
        then_these ds (constraint_arms S type b known x arms) _ stack _ (tells_arms b known x arms stack)
        ∙ misses_tells (misses S type (allowed_in S type (type x) (b x)) arms) (determined_arms W type b known x arms) stack
    tells_in b known (Ite vs c t e) stack =
        then_these ds (constraint S type b known c) _ stack _ (tells b known c stack)
        ∙ then_these ds (constraint S type (insts_after c b) known t) _ _ _ (tells (insts_after c b) known t (determined W type b known c ∷ stack))
        ∙ then_these ds (constraint S type b known e) (T.Ite ∷ []) _ _ (tells b known e (determined W type (insts_after c b) known t ∷ determined W type b known c ∷ stack))
    tells_in b known (Not n) stack = then_these ds (constraint S type b known n) (T.Not ∷ []) stack _ (tells b known n stack)
    tells_in b known (Exists vs n) stack = tells b known n stack
    tells_in b known (Assign x y) stack = refl
    tells_in b known (Test x y) stack = refl
    tells_in b known (Build x s ys) stack = refl
    tells_in b known (Take x s ys) stack = refl
    tells_in b known (Const x v) stack = refl
    tells_in b known (TestConst x v) stack = ap (λ (d : Determinism). d ∷ stack) (constants_tell (knows_constant (known x) v))
    tells_in b known (Call p xs implied last) stack = ap (λ (d : Determinism). d ∷ stack) (tests_tell implied (row_of (ds p)))
    tells_in b known (Apply op xs ys) stack = refl

    tells_all : (b : Insts) (known : Known) (ns : Nodes) (stack : List Determinism) → after_steps ds (constraint_all S type b known ns) stack ≡ determined_all W type b known ns ∷ stack
    tells_all b known no_nodes stack = refl
    tells_all b known (node_then n ns) stack =
        then_these ds (constraint S type b known n) _ stack _ (tells b known n stack)
        ∙ then_these ds (constraint_all S type (insts_after n b) known ns) (T.Conj ∷ []) _ _ (tells_all (insts_after n b) known ns (determined W type b known n ∷ stack))

    tells_any : (b : Insts) (known : Known) (ns : Nodes) (stack : List Determinism) → after_steps ds (constraint_any S type b known ns) stack ≡ determined_any W type b known ns ∷ stack
    tells_any b known no_nodes stack = refl
    tells_any b known (node_then n ns) stack =
        then_these ds (constraint S type b known n) _ stack _ (tells b known n stack)
        ∙ then_these ds (constraint_any S type b known ns) (T.Disj ∷ []) _ _ (tells_any b known ns (determined W type b known n ∷ stack))

    tells_arms : (b : Insts) (known : Known) (x : ℕ) (arms : Arms) (stack : List Determinism) → after_steps ds (constraint_arms S type b known x arms) stack ≡ determined_arms W type b known x arms ∷ stack
    tells_arms b known x no_arms stack = refl
    tells_arms b known x (arm_then l n arms) stack =
        then_these ds (constraint S type b (learned x l known) n) _ stack _ (tells b (learned x l known) n stack)
        ∙ then_these ds (constraint_arms S type b known x arms) (T.Arms ∷ []) _ _ (tells_arms b known x arms (determined W type b (learned x l known) n ∷ stack))

pub skeletons_tell : SkeletonsTell
skeletons_tell S type b known n ds = ap top (tells S type ds b known n [])

-- what is closed by the table is so by skeletons, and the other way round
module _ (D : DeclaredSystem) (bodies : List (List Step)) (declared : List (Option Det)) (are : AreBodies D bodies declared) where
  body_tells : (ds : ℕ → Det) (k : ℕ) → k < D.count → value ds (body_at bodies k) ≡ body_determinism (system_of D ds) (D.procs k).procedure
  body_tells ds k lt =
      ap (value ds) (are.bodies_are k lt)
      ∙ skeletons_tell (as_they_stand D) (type_of (as_they_stand D) (D.procs k).procedure) (entered (D.procs k).procedure.head (D.procs k).procedure.first) nothing_known (D.procs k).procedure.body ds

  by_table : (ds : ℕ → Det) → L.Closed bodies declared ds → Closed D ds
  by_table ds closed =
      record {
        declared = λ k d lt e. let c = are.count in closed.declared_ones k d (omega arith) (are.declared_are k lt ∙ e);
        at_least_det = λ k lt e. let c = are.count in closed.at_least_det k (omega arith) (are.declared_are k lt ∙ e);
        uncommitted = λ k lt e. let c = are.count in closed.uncommitted k (omega arith) (are.declared_are k lt ∙ e);
        allows = λ k lt e.
            let c = are.count in
            subst (Allows (row_of (ds k))) (body_tells ds k lt) (closed.allows k (omega arith) (are.declared_are k lt ∙ e));
        others = λ k le. let c = are.count in closed.others k (omega arith) ∙ sym (are.others k le);
      }

  by_skeletons : (ds : ℕ → Det) → Closed D ds → L.Closed bodies declared ds
  by_skeletons ds closed =
      record {
        declared_ones = λ k d lt e. let c = are.count in let h : k < D.count = omega arith in closed.declared k d h (sym (are.declared_are k h) ∙ e);
        at_least_det = λ k lt e. let c = are.count in let h : k < D.count = omega arith in closed.at_least_det k h (sym (are.declared_are k h) ∙ e);
        uncommitted = λ k lt e. let c = are.count in let h : k < D.count = omega arith in closed.uncommitted k h (sym (are.declared_are k h) ∙ e);
        allows = λ k lt e.
            let c = are.count in
            let h : k < D.count = omega arith in
            subst (Allows (row_of (ds k))) (sym (body_tells ds k h)) (closed.allows k h (sym (are.declared_are k h) ∙ e));
        others = λ k le. let c = are.count in let h : D.count ≤ k = omega arith in closed.others k h ∙ are.others k h;
      }

pub least_by_skeletons : LeastBySkeletons
least_by_skeletons D bodies declared ds are least =
    record {
      closed = by_table D bodies declared are ds least.closed;
      least = λ es closed k lt. let c = are.count in least.least es (by_skeletons D bodies declared are es closed) k (omega arith);
    }

-- What a walk puts down, goal by goal.
use Rattle.std.proofs.Math.Path.{fun_ext}
use Rattle.std.proofs.Math.Seq.{drop-cons, drop-length}
use Rattle.std.proofs.Common.{◌≡◌, ℕ, zero, suc, ◌+◌, ◌<◌, nat_eq, List, [], ◌∷◌, ◌++◌, length, get_or, drop, map, append_assoc, length-append, MatchOption, Result, Ok, Err, OnOk, add-one, Bool, true, false, Option, Some, None, refl, sym, ap, ◌∙◌, subst, arith, if◌then◌else◌}
use Rattle.std.specs.Option.{option_or}
use Rattle.mc_program.specs.Programs.{TypeTerm}
use Rattle.mc_program.specs.declared.ty.Ty.{Ty}
use Rattle.mc_source.specs.Determinism.{erroneous, failure, det}
use Rattle.mc_model.specs.Scheduled.{Ite, Node, nodes, Label}
use Rattle.mc_program.specs.Values.{Val}
use Rattle.mc_program.specs.declared.builtin.Builtin.{Builtin}
use Rattle.mc_model.specs.Outcomes.{Outcome}
use Rattle.mc_model.specs.PlainGoals.{plain_node, plain_sched, plain_arm, plain_label, arms_of}
use Rattle.mc_model.specs.Good.{System}
use Rattle.mc_model.specs.declared.sched.GoalNode.{GoalNode}
use Rattle.mc_model.specs.declared.sched.Arm.{Arm}
use Rattle.mc_accepted.specs.Ordered.{Insts, change_at}
use Rattle.mc_accepted.specs.Determined.{Known, learned, insts_after}
use Rattle.mc_insts.specs.Graphs.{count_of}
use Rattle.mc_procs.specs.Named.{Bounds, ChangesNamed, Named, EachNamed, EachArmNamed}
use Rattle.mc_procs.specs.Procedures.{PlainProcs, as_system}
use Rattle.mc_procs.proofs.Views.{plain_node-open, plain_arm-open}
use Rattle.mc_det_constraints.specs.declared.constraint.Step.{Step}
use Rattle.mc_det_constraints.specs.declared.constraint.Step.TheVariants as T
use Rattle.mc_det.specs.Bodies.{fixed, constraint, constraint_in, constraint_all, constraint_any, constraint_arms}
use Rattle.mc_det.specs.declared.walk.Walk.{Walk}
use Rattle.mc_det.specs.declared.facts.Fact.{Fact}
use Rattle.mc_det.specs.code.Facts.{known_in}
use Rattle.mc_det.specs.code.Points.{insts_in, ChangesBelow}
use Rattle.mc_det.specs.code.Walks.{typed, bounds_in, Ready, times, InSystems, PutSteps, Puts}

-- Lists of steps.

-- one part more of a list of parts, each of which has a step at the end of all
pub part_put : (xs a r : List Step) (s : Step) (k : ℕ) → (xs ++ a) ++ (r ++ times (suc k) s) ≡ xs ++ ((a ++ (r ++ s ∷ [])) ++ times k s)
part_put xs a r s k =
    append_assoc xs a (r ++ times (suc k) s)
    ∙ ap (λ (l : List Step). xs ++ l)
    (ap (λ (l : List Step). a ++ l) (sym (append_assoc r (s ∷ []) (times k s)))
    ∙ sym (append_assoc a (r ++ s ∷ []) (times k s)))

pub no_more : (xs : List Step) → xs ++ [] ≡ xs
no_more [] = refl
no_more (x ∷ xs) = ap (λ (l : List Step). x ∷ l) (no_more xs)

pub more_times : (n : ℕ) (s : Step) → times (n + 1) s ≡ times n s ++ s ∷ []
more_times n s = ap (λ k. times k s) (add-one n) ∙ behind n
  where
    behind : (k : ℕ) → times (suc k) s ≡ times k s ++ s ∷ []
    behind zero = refl
    behind (suc k) = ap (λ (l : List Step). s ∷ l) (behind k)

-- the last parts of all: what stands for no goal, and a step for each
pub all_put : (xs : List Step) (f s : Step) (k : ℕ) (total : List Step) → xs ++ ((f ∷ []) ++ times k s) ≡ total → (xs ++ f ∷ []) ++ times k s ≡ total
all_put xs f s k total e = append_assoc xs (f ∷ []) (times k s) ∙ e

-- What is known.
pub learned_last : (facts : List Fact) (f : Fact) → known_in (facts ++ f ∷ []) ≡ learned f.variable (plain_label f.on) (known_in facts)
learned_last facts f = fun_ext (last facts)
  where
    chosen : (b : Bool) (o : Option Label) (p : Option Label) → option_or (if b then o else p) None ≡ (if b then o else p)
    chosen true None p = refl
    chosen true (Some l) p = refl
    chosen false o None = refl
    chosen false o (Some l) = refl

    before : (b : Bool) (l : Label) (p q : Option Label) → option_or (if b then Some l else p) q ≡ (if b then Some l else option_or p q)
    before true l p q = refl
    before false l p q = refl

    first : (b : Bool) (l : Label) → option_or None (if b then Some l else None) ≡ (if b then Some l else None)
    first true l = refl
    first false l = refl

    last : (gs : List Fact) (x : ℕ) → known_in (gs ++ f ∷ []) x ≡ learned f.variable (plain_label f.on) (known_in gs) x
    last [] x = first (nat_eq x f.variable) (plain_label f.on)
    last (g ∷ gs) x =
        ap (λ (o : Option Label). option_or o (if nat_eq x g.variable then Some (plain_label g.on) else None)) (last gs x)
        ∙ before (nat_eq x f.variable) (plain_label f.on) (known_in gs x) (if nat_eq x g.variable then Some (plain_label g.on) else None)

-- Points.
pub changes_below : (B : Bounds) (n : ℕ) (changes : List (ℕ × ℕ)) → n ≡ B.variables → ChangesNamed B changes → ChangesBelow n changes
changes_below B n [] e h = tt
changes_below B n ((x, i) ∷ changes) e h = (subst (λ k. x < k) (sym e) h.0, changes_below B n changes e h.2)

pub either_below : (b : Bool) (i j n : ℕ) → i < n → j < n → (if b then i else j) < n
either_below true i j n p q = p
either_below false i j n p q = q

changed_below : (B : Bounds) (changes : List (ℕ × ℕ)) (x i : ℕ) → ChangesNamed B changes → i < B.insts → change_at x changes i < B.insts
changed_below B [] x i h lt = lt
changed_below B ((y, j) ∷ changes) x i h lt = either_below (nat_eq x y) j (change_at x changes i) B.insts h.1 (changed_below B changes x i h.2 lt)

pub named_changes : (B : Bounds) (g : GoalNode) → Named B (plain_node g) → ChangesNamed B g.changes
named_changes B g h = (subst (Named B) (plain_node-open g) h).0

pub insts_after_node : (g : GoalNode) (b : Insts) → insts_after (plain_node g) b ≡ (λ x. change_at x g.changes (b x))
insts_after_node g b = ap (λ (n : Node). insts_after n b) (plain_node-open g)

-- a point after changes is ready too
pub ready_after : (q : PlainProcs) (types : List Ty) (before after : List ℕ) (changes : List (ℕ × ℕ)) → Ready q types before → ChangesNamed (bounds_in q (length types)) changes → length after ≡ length before → insts_in after ≡ (λ x. change_at x changes (insts_in before x)) → Ready q types after
ready_after q types before after changes r h e a =
    record {
      many = e ∙ r.many;
      below = λ x. subst (λ (b : Insts). b x < count_of q.insts) (sym a) (changed_below (bounds_in q (length types)) changes x (insts_in before x) h (r.below x));
    }

-- Goals of lists.
pub each_named_at : (B : Bounds) (gs : List GoalNode) (k : ℕ) (d : GoalNode) → k < length gs → EachNamed B (nodes (map plain_node gs)) → Named B (plain_node (get_or gs k d))
each_named_at B [] k d lt h = absurd (omega arith)
each_named_at B (g ∷ gs) zero d lt h = h.0
each_named_at B (g ∷ gs) (suc k) d lt h = each_named_at B gs k d (omega arith) h.1

pub arm_named_at : (B : Bounds) (arms : List Arm) (k : ℕ) (d : Arm) → k < length arms → EachArmNamed B (arms_of (map plain_arm arms)) → Named B (plain_node (get_or arms k d).body)
arm_named_at B [] k d lt h = absurd (omega arith)
arm_named_at B (a ∷ arms) zero d lt h = subst (λ (p : Label × Node). Named B p.1) (plain_arm-open a) h.1
arm_named_at B (a ∷ arms) (suc k) d lt h = arm_named_at B arms k d (omega arith) h.2

module _ (S : System) (type : ℕ → TypeTerm) where
  -- what is left of a conjunction, of a disjunction, and of arms, from a place on
  abbrev pub all_left : Insts → Known → List GoalNode → ℕ → List Step
  all_left b known gs k = constraint_all S type b known (nodes (map plain_node (drop k gs))) ++ times k T.Conj

  abbrev pub any_left : Insts → Known → List GoalNode → ℕ → List Step
  any_left b known gs k = constraint_any S type b known (nodes (map plain_node (drop k gs))) ++ times k T.Disj

  abbrev pub arms_left : Insts → Known → ℕ → List Arm → ℕ → List Step
  arms_left b known x arms k = constraint_arms S type b known x (arms_of (map plain_arm (drop k arms))) ++ times k T.Arms

  pub all_step : (b c : Insts) (known : Known) (gs : List GoalNode) (k : ℕ) (d : GoalNode) (xs ys total : List Step) → k < length gs → ys ≡ xs ++ constraint S type b known (plain_node (get_or gs k d)) → c ≡ insts_after (plain_node (get_or gs k d)) b → xs ++ all_left b known gs k ≡ total → ys ++ all_left c known gs (k + 1) ≡ total
  all_step b c known gs k d xs ys total lt put after e =
      ap (λ n. ys ++ all_left c known gs n) (add-one k)
      ∙ ap (λ (l : List Step). l ++ all_left c known gs (suc k)) put
      ∙ ap (λ (a : Insts). (xs ++ constraint S type b known (plain_node (get_or gs k d))) ++ all_left a known gs (suc k)) after
      ∙ part_put xs (constraint S type b known (plain_node (get_or gs k d))) (constraint_all S type (insts_after (plain_node (get_or gs k d)) b) known (nodes (map plain_node (drop (suc k) gs)))) T.Conj k
      ∙ ap (λ (l : List GoalNode). xs ++ (constraint_all S type b known (nodes (map plain_node l)) ++ times k T.Conj)) (sym (drop-cons gs k d lt))
      ∙ e

  pub all_done : (b : Insts) (known : Known) (gs : List GoalNode) (k : ℕ) (xs total : List Step) → k ≡ length gs → xs ++ all_left b known gs k ≡ total → (xs ++ fixed det) ++ times (length gs) T.Conj ≡ total
  all_done b known gs k xs total e h =
      append_assoc xs (fixed det) (times (length gs) T.Conj)
      ∙ ap (λ (l : List GoalNode). xs ++ (constraint_all S type b known (nodes (map plain_node l)) ++ times (length gs) T.Conj)) (sym (drop-length gs))
      ∙ ap (λ n. xs ++ all_left b known gs n) (sym e)
      ∙ h

  pub any_step : (b : Insts) (known : Known) (gs : List GoalNode) (k : ℕ) (d : GoalNode) (xs ys total : List Step) → k < length gs → ys ≡ xs ++ constraint S type b known (plain_node (get_or gs k d)) → xs ++ any_left b known gs k ≡ total → ys ++ any_left b known gs (k + 1) ≡ total
  any_step b known gs k d xs ys total lt put e =
      ap (λ n. ys ++ any_left b known gs n) (add-one k)
      ∙ ap (λ (l : List Step). l ++ any_left b known gs (suc k)) put
      ∙ part_put xs (constraint S type b known (plain_node (get_or gs k d))) (constraint_any S type b known (nodes (map plain_node (drop (suc k) gs)))) T.Disj k
      ∙ ap (λ (l : List GoalNode). xs ++ (constraint_any S type b known (nodes (map plain_node l)) ++ times k T.Disj)) (sym (drop-cons gs k d lt))
      ∙ e

  pub any_done : (b : Insts) (known : Known) (gs : List GoalNode) (k : ℕ) (xs total : List Step) → k ≡ length gs → xs ++ any_left b known gs k ≡ total → (xs ++ fixed failure) ++ times (length gs) T.Disj ≡ total
  any_done b known gs k xs total e h =
      append_assoc xs (fixed failure) (times (length gs) T.Disj)
      ∙ ap (λ (l : List GoalNode). xs ++ (constraint_any S type b known (nodes (map plain_node l)) ++ times (length gs) T.Disj)) (sym (drop-length gs))
      ∙ ap (λ n. xs ++ any_left b known gs n) (sym e)
      ∙ h

  -- an arm, and those after it
  arm_first : (b : Insts) (known : Known) (x : ℕ) (a : Arm) (arms : List Arm) → constraint_arms S type b known x (arms_of (map plain_arm (a ∷ arms))) ≡ constraint S type b (learned x (plain_label a.on) known) (plain_node a.body) ++ (constraint_arms S type b known x (arms_of (map plain_arm arms)) ++ T.Arms ∷ [])
  arm_first b known x a arms =
      ap (λ (p : Label × Node). constraint S type b (learned x p.0 known) p.1 ++ (constraint_arms S type b known x (arms_of (map plain_arm arms)) ++ T.Arms ∷ [])) (plain_arm-open a)

  pub arms_step : (b : Insts) (known in_arm : Known) (x : ℕ) (arms : List Arm) (k : ℕ) (d : Arm) (xs ys total : List Step) → k < length arms → ys ≡ xs ++ constraint S type b in_arm (plain_node (get_or arms k d).body) → in_arm ≡ learned x (plain_label (get_or arms k d).on) known → xs ++ arms_left b known x arms k ≡ total → ys ++ arms_left b known x arms (k + 1) ≡ total
  arms_step b known in_arm x arms k d xs ys total lt put told e =
      ap (λ n. ys ++ arms_left b known x arms n) (add-one k)
      ∙ ap (λ (l : List Step). l ++ arms_left b known x arms (suc k)) put
      ∙ ap (λ (kn : Known). (xs ++ constraint S type b kn (plain_node (get_or arms k d).body)) ++ arms_left b known x arms (suc k)) told
      ∙ part_put xs (constraint S type b (learned x (plain_label (get_or arms k d).on) known) (plain_node (get_or arms k d).body)) (constraint_arms S type b known x (arms_of (map plain_arm (drop (suc k) arms)))) T.Arms k
      ∙ ap (λ (l : List Step). xs ++ (l ++ times k T.Arms)) (sym (arm_first b known x (get_or arms k d) (drop (suc k) arms)))
      ∙ ap (λ (l : List Arm). xs ++ (constraint_arms S type b known x (arms_of (map plain_arm l)) ++ times k T.Arms)) (sym (drop-cons arms k d lt))
      ∙ e

  pub arms_done : (b : Insts) (known : Known) (x : ℕ) (arms : List Arm) (k : ℕ) (xs total : List Step) → k ≡ length arms → xs ++ arms_left b known x arms k ≡ total → (xs ++ fixed erroneous) ++ times (length arms) T.Arms ≡ total
  arms_done b known x arms k xs total e h =
      append_assoc xs (fixed erroneous) (times (length arms) T.Arms)
      ∙ ap (λ (l : List Arm). xs ++ (constraint_arms S type b known x (arms_of (map plain_arm l)) ++ times (length arms) T.Arms)) (sym (drop-length arms))
      ∙ ap (λ n. xs ++ arms_left b known x arms n) (sym e)
      ∙ h

-- A walk's parts.
abbrev Told : Type 0
Told = System → Insts → Known → List Step

module _ (q : PlainProcs) where
  -- at the point where a walk is
  abbrev pub told_at : Told → (Builtin → List Val → Outcome) → Walk → List Step
  told_at f outcome w = f (as_system outcome q) (insts_in w.point) (known_in w.known.items)

  pub puts_steps : (a b : Walk) (xs : List Step) (f : Told) → PutSteps a b xs → ((outcome : Builtin → List Val → Outcome) → xs ≡ told_at f outcome a) → Puts q a b f
  puts_steps a b xs f p e =
      record {
        point = p.point;
        known = p.known;
        steps = λ outcome. p.put ∙ ap (λ (l : List Step). a.steps.items ++ l) (e outcome);
      }

  pub then_steps : (a b c : Walk) (xs : List Step) (f g : Told) → Puts q a b f → PutSteps b c xs → ((outcome : Builtin → List Val → Outcome) → told_at f outcome a ++ xs ≡ told_at g outcome a) → Puts q a c g
  then_steps a b c xs f g p r e =
      record {
        point = r.point ∙ p.point;
        known = r.known ∙ p.known;
        steps = λ outcome.
            r.put
            ∙ ap (λ (l : List Step). l ++ xs) (p.steps outcome)
            ∙ append_assoc a.steps.items (told_at f outcome a) xs
            ∙ ap (λ (l : List Step). a.steps.items ++ l) (e outcome);
      }

  pub then_puts : (a b c : Walk) (f g h : Told) → Puts q a b f → Puts q b c g → ((outcome : Builtin → List Val → Outcome) → told_at f outcome a ++ told_at g outcome a ≡ told_at h outcome a) → Puts q a c h
  then_puts a b c f g h p r e =
      record {
        point = r.point ∙ p.point;
        known = r.known ∙ p.known;
        steps = λ outcome.
            r.steps outcome
            ∙ ap (λ (n : List ℕ). b.steps.items ++ g (as_system outcome q) (insts_in n) (known_in b.known.items)) p.point
            ∙ ap (λ (fs : List Fact). b.steps.items ++ g (as_system outcome q) (insts_in a.point) (known_in fs)) p.known
            ∙ ap (λ (l : List Step). l ++ told_at g outcome a) (p.steps outcome)
            ∙ append_assoc a.steps.items (told_at f outcome a) (told_at g outcome a)
            ∙ ap (λ (l : List Step). a.steps.items ++ l) (e outcome);
      }

  pub as_seen : (a b : Walk) (f g : Told) → Puts q a b f → ((outcome : Builtin → List Val → Outcome) → told_at f outcome a ≡ told_at g outcome a) → Puts q a b g
  as_seen a b f g p e =
      record {
        point = p.point;
        known = p.known;
        steps = λ outcome. p.steps outcome ∙ ap (λ (l : List Step). a.steps.items ++ l) (e outcome);
      }

  -- what stands for no goal, and then a step for each goal
  pub ends : (a m n e : Walk) (xs ys : List Step) (f : Told) → m.point ≡ a.point → m.known.items ≡ a.known.items → PutSteps m n xs → PutSteps n e ys → ((outcome : Builtin → List Val → Outcome) → (m.steps.items ++ xs) ++ ys ≡ a.steps.items ++ told_at f outcome a) → Puts q a e f
  ends a m n e xs ys f p k r s h =
      record {
        point = s.point ∙ r.point ∙ p;
        known = s.known ∙ r.known ∙ k;
        steps = λ outcome. s.put ∙ ap (λ (l : List Step). l ++ ys) r.put ∙ h outcome;
      }

  -- a then part after its condition's changes, which are undone
  pub then_put : (types : List Ty) (a b d e : Walk) (n t : GoalNode) → b.known.items ≡ a.known.items → b.steps.items ≡ a.steps.items → insts_in b.point ≡ insts_after (plain_node n) (insts_in a.point) → Puts q b d (λ S is kn. constraint S (typed types) is kn (plain_node t)) → e.point ≡ a.point → e.known.items ≡ d.known.items → e.steps.items ≡ d.steps.items → Puts q a e (λ S is kn. constraint S (typed types) (insts_after (plain_node n) is) kn (plain_node t))
  then_put types a b d e n t bk bs after p ep ek es =
      record {
        point = ep;
        known = ek ∙ p.known ∙ bk;
        steps = λ outcome.
            let S = as_system outcome q in
            es
            ∙ p.steps outcome
            ∙ ap (λ (l : List Step). l ++ constraint S (typed types) (insts_in b.point) (known_in b.known.items) (plain_node t)) bs
            ∙ ap (λ (fs : List Fact). a.steps.items ++ constraint S (typed types) (insts_in b.point) (known_in fs) (plain_node t)) bk
            ∙ ap (λ (is : Insts). a.steps.items ++ constraint S (typed types) is (known_in a.known.items) (plain_node t)) after;
      }

  -- an if-then-else
  pub ite_put : (types : List Ty) (a b c d z : Walk) (n t e : GoalNode) → Puts q a b (λ S is kn. constraint S (typed types) is kn (plain_node n)) → Puts q b c (λ S is kn. constraint S (typed types) (insts_after (plain_node n) is) kn (plain_node t)) → Puts q c d (λ S is kn. constraint S (typed types) is kn (plain_node e)) → PutSteps d z (T.Ite ∷ []) → Puts q a z (λ S is kn. constraint_in S (typed types) is kn (Ite [] (plain_node n) (plain_node t) (plain_node e)))
  ite_put types a b c d z n t e pn pt pe pz =
      then_puts a b z
      (λ S is kn. constraint S (typed types) is kn (plain_node n))
      (λ S is kn. constraint S (typed types) (insts_after (plain_node n) is) kn (plain_node t) ++ (constraint S (typed types) is kn (plain_node e) ++ T.Ite ∷ []))
      (λ S is kn. constraint_in S (typed types) is kn (Ite [] (plain_node n) (plain_node t) (plain_node e)))
      pn
      (then_puts b c z
      (λ S is kn. constraint S (typed types) (insts_after (plain_node n) is) kn (plain_node t))
      (λ S is kn. constraint S (typed types) is kn (plain_node e) ++ T.Ite ∷ [])
      (λ S is kn. constraint S (typed types) (insts_after (plain_node n) is) kn (plain_node t) ++ (constraint S (typed types) is kn (plain_node e) ++ T.Ite ∷ []))
      pt
      (then_steps c d z (T.Ite ∷ [])
      (λ S is kn. constraint S (typed types) is kn (plain_node e))
      (λ S is kn. constraint S (typed types) is kn (plain_node e) ++ T.Ite ∷ [])
      pe pz (λ outcome. refl))
      (λ outcome. refl))
      (λ outcome. refl)

  module _ (types : List Ty) (a l m : Walk) (k : ℕ) (total : System → List Step) (known : l.known.items ≡ a.known.items) where
    -- one goal more of a conjunction
    pub one_run : (p : List ℕ) (gs : List GoalNode) (g d : GoalNode) → k < length gs → g ≡ get_or gs k d → Puts q l m (λ S b kn. constraint S (typed types) b kn (plain_node g)) → insts_in p ≡ insts_after (plain_node g) (insts_in m.point) → (n : Walk) → n.steps.items ≡ m.steps.items → InSystems q (λ S. l.steps.items ++ all_left S (typed types) (insts_in l.point) (known_in a.known.items) gs k ≡ total S) → InSystems q (λ S. n.steps.items ++ all_left S (typed types) (insts_in p) (known_in a.known.items) gs (k + 1) ≡ total S)
    one_run p gs g d lt is put after n ns inv outcome =
        let S = as_system outcome q in
        all_step S (typed types) (insts_in l.point) (insts_in p) (known_in a.known.items) gs k d l.steps.items n.steps.items (total S) lt
        (ns
        ∙ put.steps outcome
        ∙ ap (λ (fs : List Fact). l.steps.items ++ constraint S (typed types) (insts_in l.point) (known_in fs) (plain_node g)) known
        ∙ ap (λ (h : GoalNode). l.steps.items ++ constraint S (typed types) (insts_in l.point) (known_in a.known.items) (plain_node h)) is)
        (after
        ∙ ap (λ (is : List ℕ). insts_after (plain_node g) (insts_in is)) put.point
        ∙ ap (λ (h : GoalNode). insts_after (plain_node h) (insts_in l.point)) is)
        (inv outcome)

    -- one disjunct more
    pub one_tried : (gs : List GoalNode) (g d : GoalNode) → l.point ≡ a.point → k < length gs → g ≡ get_or gs k d → Puts q l m (λ S b kn. constraint S (typed types) b kn (plain_node g)) → InSystems q (λ S. l.steps.items ++ any_left S (typed types) (insts_in a.point) (known_in a.known.items) gs k ≡ total S) → InSystems q (λ S. m.steps.items ++ any_left S (typed types) (insts_in a.point) (known_in a.known.items) gs (k + 1) ≡ total S)
    one_tried gs g d point lt is put inv outcome =
        let S = as_system outcome q in
        any_step S (typed types) (insts_in a.point) (known_in a.known.items) gs k d l.steps.items m.steps.items (total S) lt
        (put.steps outcome
        ∙ ap (λ (p : List ℕ). l.steps.items ++ constraint S (typed types) (insts_in p) (known_in l.known.items) (plain_node g)) point
        ∙ ap (λ (fs : List Fact). l.steps.items ++ constraint S (typed types) (insts_in a.point) (known_in fs) (plain_node g)) known
        ∙ ap (λ (h : GoalNode). l.steps.items ++ constraint S (typed types) (insts_in a.point) (known_in a.known.items) (plain_node h)) is)
        (inv outcome)

    -- one arm more; in it there is a fact more
    pub one_chosen : (w : Walk) (x : ℕ) (f : Fact) (arms : List Arm) (r d : Arm) → w.point ≡ l.point → w.known.items ≡ l.known.items ++ f ∷ [] → w.steps.items ≡ l.steps.items → f.variable ≡ x → f.on ≡ r.on → l.point ≡ a.point → k < length arms → r ≡ get_or arms k d → Puts q w m (λ S b kn. constraint S (typed types) b kn (plain_node r.body)) → InSystems q (λ S. l.steps.items ++ arms_left S (typed types) (insts_in a.point) (known_in a.known.items) x arms k ≡ total S) → InSystems q (λ S. m.steps.items ++ arms_left S (typed types) (insts_in a.point) (known_in a.known.items) x arms (k + 1) ≡ total S)
    one_chosen w x f arms r d wp wk ws fx fon point lt is put inv outcome =
        let S = as_system outcome q in
        arms_step S (typed types) (insts_in a.point) (known_in a.known.items) (known_in w.known.items) x arms k d l.steps.items m.steps.items (total S) lt
        (put.steps outcome
        ∙ ap (λ (xs : List Step). xs ++ constraint S (typed types) (insts_in w.point) (known_in w.known.items) (plain_node r.body)) ws
        ∙ ap (λ (p : List ℕ). l.steps.items ++ constraint S (typed types) (insts_in p) (known_in w.known.items) (plain_node r.body)) (wp ∙ point)
        ∙ ap (λ (h : Arm). l.steps.items ++ constraint S (typed types) (insts_in a.point) (known_in w.known.items) (plain_node h.body)) is)
        (ap known_in wk
        ∙ learned_last l.known.items f
        ∙ ap (λ y. learned y (plain_label f.on) (known_in l.known.items)) fx
        ∙ ap (λ (fs : List Fact). learned x (plain_label f.on) (known_in fs)) known
        ∙ ap (λ o. learned x (plain_label o) (known_in a.known.items)) fon
        ∙ ap (λ (h : Arm). learned x (plain_label h.on) (known_in a.known.items)) is)
        (inv outcome)

-- a goal, with the mark for pruned ones
pub node_seen : (S : System) (type : ℕ → TypeTerm) (b : Insts) (kn : Known) (g : GoalNode) (xs : List Step) → xs ≡ (if g.pruned then T.Pruned ∷ [] else []) → constraint_in S type b kn (plain_sched g.goal) ++ xs ≡ constraint S type b kn (plain_node g)
node_seen S type b kn g xs e =
    ap (λ (l : List Step). constraint_in S type b kn (plain_sched g.goal) ++ l) e
    ∙ ap (constraint S type b kn) (sym (plain_node-open g))

-- the last fact is taken off
same_front : (xs ys : List Fact) (x y : Fact) → xs ++ x ∷ [] ≡ ys ++ y ∷ [] → xs ≡ ys
same_front [] [] x y e = refl
same_front [] (b ∷ ys) x y e = absurd (let h = ap length e in omega (arith, h, length-append ys (y ∷ [])))
same_front (a ∷ xs) [] x y e = absurd (let h = ap length e in omega (arith, h, length-append xs (x ∷ [])))
same_front (a ∷ xs) (b ∷ ys) x y e =
    let h : a ≡ b = cc in
    let t : xs ++ x ∷ [] ≡ ys ++ y ∷ [] = cc in
    ap (λ (c : Fact). c ∷ xs) h ∙ ap (λ (l : List Fact). b ∷ l) (same_front xs ys x y t)

pub taken_off : (o : Option Fact) (before all after : List Fact) (f : Fact) → all ≡ before ++ f ∷ [] → MatchOption o (all ≡ []) (λ last. all ≡ after ++ last ∷ []) → after ≡ before
taken_off None before all after f e h = absurd (let n = ap length (sym e ∙ h) in omega (arith, n, length-append before (f ∷ [])))
taken_off (Some last) before all after f e h = same_front after before last f (sym h ∙ e)

pub both_ok : {T E P Q R : Type 0} (r : Result T E) → (P → Q → R) → OnOk r P → OnOk r Q → OnOk r R
both_ok (Ok x) f p q = f p q
both_ok (Err e) f p q = tt

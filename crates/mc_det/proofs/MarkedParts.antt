-- Goals that get their marks one after another, and goals told from their parts.
use Rattle.std.proofs.Math.Path.{fun_ext}
use Rattle.std.proofs.Math.Seq.{drop-cons, drop-length}
use Rattle.std.proofs.lemmas.List.{map-append}
use Rattle.std.proofs.Common.{◌≡◌, ℕ, suc, ◌+◌, ◌<◌, ◌||◌, List, [], ◌∷◌, ◌++◌, length, get_or, drop, map, add-one, Bool, true, false, refl, sym, ap, ap₂, ◌∙◌, subst, if◌then◌else◌, Result, Ok, Err, IfOk}
use Rattle.mc_program.specs.Programs.{TypeTerm}
use Rattle.mc_program.specs.declared.ty.Ty.{Ty}
use Rattle.mc_source.specs.Determinism.{Determinism, inferred, row_of, ite, negated, pruned}
use Rattle.mc_source.specs.declared.det.Det.{Det}
use Rattle.mc_model.specs.Scheduled.{Node, node, nodes, Scheduled, Conj, Disj, Switch, Ite, Not, Exists, Nodes, node_then, Label, Arms, no_arms, arm_then}
use Rattle.mc_model.specs.PlainGoals.{plain_node, plain_sched, plain_arm, plain_label, plain_proc, arms_of}
use Rattle.mc_model.specs.Good.{System}
use Rattle.mc_model.specs.declared.sched.GoalNode.{GoalNode}
use Rattle.mc_model.specs.declared.sched.Arm.{Arm}
use Rattle.mc_model.specs.declared.sched.Proc.{Proc}
use Rattle.mc_accepted.specs.Accepted.{entered}
use Rattle.mc_accepted.specs.Ordered.{Insts}
use Rattle.mc_accepted.specs.Determined.{Known, learned, insts_after, allowed_in, misses, determined, determined_in, determined_arms}
use Rattle.mc_procs.specs.Named.{Bounds, Named}
use Rattle.mc_procs.specs.Procedures.{PlainProcs, as_system}
use Rattle.mc_procs.proofs.Views.{plain_node-open, plain_arm-open}
use Rattle.mc_det.specs.Marked.{marked, marked_body, marked_in, marked_all, marked_each, marked_arms}
use Rattle.mc_det.specs.declared.walk.Walk.{Walk}
use Rattle.mc_det.specs.declared.facts.Fact.{Fact}
use Rattle.mc_det.specs.code.Facts.{known_in}
use Rattle.mc_det.specs.code.Points.{insts_in}
use Rattle.mc_det.specs.code.Walks.{typed, InSystems}
use Rattle.mc_det.specs.code.Marks.{Stays, NodeMarked, ThenMarked, IsTold, under, mark_of, switched, all_told, any_told, arms_told}
use Rattle.mc_det.proofs.Marking.{after_marks}
use Rattle.mc_det.proofs.MarkedNames.{marked_named}
use Rattle.mc_det.proofs.Replacing.{all_fail}
use Rattle.mc_det.proofs.Telling.{before, one_before, none_after, mark_open, mark_told, all_tell, any_tell, arms_tell}
use Rattle.mc_det.proofs.Walking.{learned_last}

-- arms that have their marks, and those that are to get them
abbrev pub arms_before : List (Label × Node) → Arms → Arms
arms_before [] arms = arms
arms_before (a ∷ came) arms = arm_then a.0 a.1 (arms_before came arms)

pub one_arm_before : (came : List (Label × Node)) (a : Label × Node) (arms : Arms) → arms_before (came ++ a ∷ []) arms ≡ arms_before came (arm_then a.0 a.1 arms)
one_arm_before [] a arms = refl
one_arm_before (b ∷ came) a arms = ap (arm_then b.0 b.1) (one_arm_before came a arms)

pub no_arm_after : (came : List (Label × Node)) → arms_before came no_arms ≡ arms_of came
no_arm_after [] = refl
no_arm_after (a ∷ came) = ap (arm_then a.0 a.1) (no_arm_after came)

module _ (S : System) (type : ℕ → TypeTerm) where
  -- what is left of a conjunction, of a disjunction and of arms
  abbrev pub all_to_come : Insts → Known → List GoalNode → ℕ → Nodes
  all_to_come b known gs k = marked_all S type b known (nodes (map plain_node (drop k gs)))

  abbrev pub each_to_come : Insts → Known → List GoalNode → ℕ → Nodes
  each_to_come b known gs k = marked_each S type b known (nodes (map plain_node (drop k gs)))

  abbrev pub arms_to_come : Insts → Known → ℕ → List Arm → ℕ → Arms
  arms_to_come b known x arms k = marked_arms S type b known x (arms_of (map plain_arm (drop k arms)))

  -- one goal more has its mark
  pub all_made : (b after : Insts) (known : Known) (gs : List GoalNode) (k : ℕ) (d x : GoalNode) (xs ys : List GoalNode) (total : Nodes) → k < length gs → ys ≡ xs ++ x ∷ [] → plain_node x ≡ marked S type b known (plain_node (get_or gs k d)) → after ≡ insts_after (plain_node (get_or gs k d)) b → before (map plain_node xs) (all_to_come b known gs k) ≡ total → before (map plain_node ys) (all_to_come after known gs (k + 1)) ≡ total
  all_made b after known gs k d x xs ys total lt put is come e =
      ap (λ n. before (map plain_node ys) (all_to_come after known gs n)) (add-one k)
      ∙ ap (λ (l : List GoalNode). before (map plain_node l) (all_to_come after known gs (suc k))) put
      ∙ ap (λ (l : List Node). before l (all_to_come after known gs (suc k))) (map-append plain_node xs (x ∷ []))
      ∙ one_before (map plain_node xs) (plain_node x) (all_to_come after known gs (suc k))
      ∙ ap (λ (n : Node). before (map plain_node xs) (node_then n (all_to_come after known gs (suc k)))) is
      ∙ ap (λ (i : Insts). before (map plain_node xs) (node_then (marked S type b known (plain_node (get_or gs k d))) (all_to_come i known gs (suc k)))) come
      ∙ ap (λ (l : List GoalNode). before (map plain_node xs) (marked_all S type b known (nodes (map plain_node l)))) (sym (drop-cons gs k d lt))
      ∙ e

  pub each_made : (b : Insts) (known : Known) (gs : List GoalNode) (k : ℕ) (d x : GoalNode) (xs ys : List GoalNode) (total : Nodes) → k < length gs → ys ≡ xs ++ x ∷ [] → plain_node x ≡ marked S type b known (plain_node (get_or gs k d)) → before (map plain_node xs) (each_to_come b known gs k) ≡ total → before (map plain_node ys) (each_to_come b known gs (k + 1)) ≡ total
  each_made b known gs k d x xs ys total lt put is e =
      ap (λ n. before (map plain_node ys) (each_to_come b known gs n)) (add-one k)
      ∙ ap (λ (l : List GoalNode). before (map plain_node l) (each_to_come b known gs (suc k))) put
      ∙ ap (λ (l : List Node). before l (each_to_come b known gs (suc k))) (map-append plain_node xs (x ∷ []))
      ∙ one_before (map plain_node xs) (plain_node x) (each_to_come b known gs (suc k))
      ∙ ap (λ (n : Node). before (map plain_node xs) (node_then n (each_to_come b known gs (suc k)))) is
      ∙ ap (λ (l : List GoalNode). before (map plain_node xs) (marked_each S type b known (nodes (map plain_node l)))) (sym (drop-cons gs k d lt))
      ∙ e

  pub arm_made : (b : Insts) (known in_arm : Known) (x : ℕ) (arms : List Arm) (k : ℕ) (d r : Arm) (xs ys : List Arm) (total : Arms) → k < length arms → ys ≡ xs ++ r ∷ [] → r.on ≡ (get_or arms k d).on → plain_node r.body ≡ marked S type b in_arm (plain_node (get_or arms k d).body) → in_arm ≡ learned x (plain_label (get_or arms k d).on) known → arms_before (map plain_arm xs) (arms_to_come b known x arms k) ≡ total → arms_before (map plain_arm ys) (arms_to_come b known x arms (k + 1)) ≡ total
  arm_made b known in_arm x arms k d r xs ys total lt put on body told e =
      ap (λ n. arms_before (map plain_arm ys) (arms_to_come b known x arms n)) (add-one k)
      ∙ ap (λ (l : List Arm). arms_before (map plain_arm l) (arms_to_come b known x arms (suc k))) put
      ∙ ap (λ (l : List (Label × Node)). arms_before l (arms_to_come b known x arms (suc k))) (map-append plain_arm xs (r ∷ []))
      ∙ one_arm_before (map plain_arm xs) (plain_arm r) (arms_to_come b known x arms (suc k))
      ∙ ap (λ (p : Label × Node). arms_before (map plain_arm xs) (arm_then p.0 p.1 (arms_to_come b known x arms (suc k)))) (plain_arm-open r)
      ∙ ap (λ o. arms_before (map plain_arm xs) (arm_then (plain_label o) (plain_node r.body) (arms_to_come b known x arms (suc k)))) on
      ∙ ap (λ (n : Node). arms_before (map plain_arm xs) (arm_then (plain_label (get_or arms k d).on) n (arms_to_come b known x arms (suc k)))) (body ∙ ap (λ (kn : Known). marked S type b kn (plain_node (get_or arms k d).body)) told)
      ∙ ap (λ (p : Label × Node). arms_before (map plain_arm xs) (arm_then p.0 (marked S type b (learned x p.0 known) p.1) (arms_to_come b known x arms (suc k)))) (sym (plain_arm-open (get_or arms k d)))
      ∙ ap (λ (l : List Arm). arms_before (map plain_arm xs) (marked_arms S type b known x (arms_of (map plain_arm l)))) (sym (drop-cons arms k d lt))
      ∙ e

  -- all of them
  pub all_are : (b : Insts) (known : Known) (gs xs : List GoalNode) (k : ℕ) (total : Nodes) → k ≡ length gs → before (map plain_node xs) (all_to_come b known gs k) ≡ total → nodes (map plain_node xs) ≡ total
  all_are b known gs xs k total e h =
      sym (none_after (map plain_node xs))
      ∙ ap (λ (l : List GoalNode). before (map plain_node xs) (marked_all S type b known (nodes (map plain_node l)))) (sym (drop-length gs))
      ∙ ap (λ n. before (map plain_node xs) (all_to_come b known gs n)) (sym e)
      ∙ h

  pub each_are : (b : Insts) (known : Known) (gs xs : List GoalNode) (k : ℕ) (total : Nodes) → k ≡ length gs → before (map plain_node xs) (each_to_come b known gs k) ≡ total → nodes (map plain_node xs) ≡ total
  each_are b known gs xs k total e h =
      sym (none_after (map plain_node xs))
      ∙ ap (λ (l : List GoalNode). before (map plain_node xs) (marked_each S type b known (nodes (map plain_node l)))) (sym (drop-length gs))
      ∙ ap (λ n. before (map plain_node xs) (each_to_come b known gs n)) (sym e)
      ∙ h

  pub arms_are : (b : Insts) (known : Known) (x : ℕ) (arms xs : List Arm) (k : ℕ) (total : Arms) → k ≡ length arms → arms_before (map plain_arm xs) (arms_to_come b known x arms k) ≡ total → arms_of (map plain_arm xs) ≡ total
  arms_are b known x arms xs k total e h =
      sym (no_arm_after (map plain_arm xs))
      ∙ ap (λ (l : List Arm). arms_before (map plain_arm xs) (marked_arms S type b known x (arms_of (map plain_arm l)))) (sym (drop-length arms))
      ∙ ap (λ n. arms_before (map plain_arm xs) (arms_to_come b known x arms n)) (sym e)
      ∙ h

-- walks that stay
pub stays_both : (a b c : Walk) → Stays a b → Stays b c → Stays a c
stays_both a b c s r = record { point = r.point ∙ s.point; known = r.known ∙ s.known }

from_start : (a b : Walk) (P : Insts → Known → Type 0) → Stays a b → P (insts_in b.point) (known_in b.known.items) → P (insts_in a.point) (known_in a.known.items)
from_start a b P s h =
    subst (λ (p : List ℕ). P (insts_in p) (known_in a.known.items)) s.point
    (subst (λ (fs : List Fact). P (insts_in b.point) (known_in fs)) s.known h)

mark_as : (m : Bool) (t : Det) (r : Determinism) → t ≡ inferred r → (if m then inferred (pruned (row_of t)) else t) ≡ inferred (if m then pruned r else r)
mark_as true t r e = ap (λ (d : Det). inferred (pruned (row_of d))) e
mark_as false t r e = e

module _ (q : PlainProcs) (types : List Ty) (ds : List Det) where
  abbrev M : System → Insts → Known → Node → Node
  M S is kn n = marked (under ds S) (typed types) is kn n

  -- a marked goal leaves the same insts, and names what is there
  pub after_marked : (a : Walk) (n m : Node) → NodeMarked q types ds a n m → (b : Insts) → insts_after m b ≡ insts_after n b
  after_marked a n m e b =
      ap (λ (n : Node). insts_after n b) (e all_fail)
      ∙ after_marks (as_system all_fail q) (under ds (as_system all_fail q)) (typed types) (insts_in a.point) (known_in a.known.items) n b

  pub still_named : (B : Bounds) (a : Walk) (n m : Node) → NodeMarked q types ds a n m → Named B n → Named B m
  still_named B a n m e h =
      subst (Named B) (sym (e all_fail)) (marked_named B (under ds (as_system all_fail q)) (typed types) (insts_in a.point) (known_in a.known.items) n h)

  -- a goal with its mark
  pub node_marked : (a : Walk) (g x : GoalNode) (told : Det) → x.changes ≡ g.changes → x.pruned ≡ g.pruned → x.det ≡ (if g.pruned then inferred (pruned (row_of told)) else told) → IsTold q types ds a (plain_sched g.goal) (plain_sched x.goal) told → NodeMarked q types ds a (plain_node g) (plain_node x)
  node_marked a g x told c m d is outcome =
      let S : System = under ds (as_system outcome q) in
      let b : Insts = insts_in a.point in
      let kn : Known = known_in a.known.items in
      plain_node-open x
      ∙ ap (λ (s : Scheduled). node s x.changes x.det x.pruned) (is.goal outcome)
      ∙ ap (λ (cs : List (ℕ × ℕ)). node (marked_in S (typed types) b kn (plain_sched g.goal)) cs x.det x.pruned) c
      ∙ ap (λ (t : Det). node (marked_in S (typed types) b kn (plain_sched g.goal)) g.changes t x.pruned) (d ∙ mark_as g.pruned told (determined_in S (typed types) b kn (plain_sched g.goal)) (is.det outcome))
      ∙ ap (λ (p : Bool). node (marked_in S (typed types) b kn (plain_sched g.goal)) g.changes (inferred (if g.pruned then pruned (determined_in S (typed types) b kn (plain_sched g.goal)) else determined_in S (typed types) b kn (plain_sched g.goal))) p) m
      ∙ ap (marked S (typed types) b kn) (sym (plain_node-open g))

  -- the same of goals that are seen otherwise
  pub told_as : (a : Walk) (s t u v : Scheduled) (told : Det) → s ≡ u → t ≡ v → IsTold q types ds a u v told → IsTold q types ds a s t told
  told_as a s t u v told e f h =
      subst (λ (w : Scheduled). IsTold q types ds a w t told) (sym e)
      (subst (λ (w : Scheduled). IsTold q types ds a u w told) (sym f) h)

  -- goals told from their parts
  pub conj_is : (a : Walk) (gs xs : List GoalNode) (told : Det) → told ≡ inferred (all_told (nodes (map plain_node xs))) → InSystems q (λ S. nodes (map plain_node xs) ≡ marked_all (under ds S) (typed types) (insts_in a.point) (known_in a.known.items) (nodes (map plain_node gs))) → IsTold q types ds a (Conj (nodes (map plain_node gs))) (Conj (nodes (map plain_node xs))) told
  conj_is a gs xs told d m =
      record {
        goal = λ outcome. ap Conj (m outcome);
        det = λ outcome.
            d
            ∙ ap (λ (ns : Nodes). inferred (all_told ns)) (m outcome)
            ∙ ap inferred (all_tell (under ds (as_system outcome q)) (typed types) (insts_in a.point) (known_in a.known.items) (nodes (map plain_node gs)));
      }

  pub disj_is : (a : Walk) (gs xs : List GoalNode) (told : Det) → told ≡ inferred (any_told (nodes (map plain_node xs))) → InSystems q (λ S. nodes (map plain_node xs) ≡ marked_each (under ds S) (typed types) (insts_in a.point) (known_in a.known.items) (nodes (map plain_node gs))) → IsTold q types ds a (Disj (nodes (map plain_node gs))) (Disj (nodes (map plain_node xs))) told
  disj_is a gs xs told d m =
      record {
        goal = λ outcome. ap Disj (m outcome);
        det = λ outcome.
            d
            ∙ ap (λ (ns : Nodes). inferred (any_told ns)) (m outcome)
            ∙ ap inferred (any_tell (under ds (as_system outcome q)) (typed types) (insts_in a.point) (known_in a.known.items) (nodes (map plain_node gs)));
      }

  pub switch_is : (a : Walk) (x : ℕ) (arms made : List Arm) (is_missed : Bool) (inside told : Det) → told ≡ record { can_fail = is_missed || inside.can_fail; most = inside.most; committed = false } → inside ≡ inferred (arms_told (arms_of (map plain_arm made))) → InSystems q (λ S. is_missed ≡ misses S (typed types) (allowed_in S (typed types) (typed types x) (insts_in a.point x)) (arms_of (map plain_arm arms))) → InSystems q (λ S. arms_of (map plain_arm made) ≡ marked_arms (under ds S) (typed types) (insts_in a.point) (known_in a.known.items) x (arms_of (map plain_arm arms))) → IsTold q types ds a (Switch x (arms_of (map plain_arm arms))) (Switch x (arms_of (map plain_arm made))) told
  switch_is a x arms made is_missed inside told d i s m =
      record {
        goal = λ outcome. ap (Switch x) (m outcome);
        det = λ outcome.
            let S : System = under ds (as_system outcome q) in
            d
            ∙ ap (λ (t : Det). record { can_fail = is_missed || t.can_fail; most = t.most; committed = false }) (i ∙ ap (λ (rest : Arms). inferred (arms_told rest)) (m outcome) ∙ ap inferred (arms_tell S (typed types) (insts_in a.point) (known_in a.known.items) x (arms_of (map plain_arm arms))))
            ∙ ap (λ (b : Bool). inferred (switched b (determined_arms S (typed types) (insts_in a.point) (known_in a.known.items) x (arms_of (map plain_arm arms))))) (s outcome);
      }

  -- what a marked goal's determinism tells
  mark_tells : (b : Insts) (known : Known) (g x : GoalNode) → InSystems q (λ S. plain_node x ≡ M S b known (plain_node g)) → InSystems q (λ S. row_of x.det ≡ determined (under ds S) (typed types) b known (plain_node g))
  mark_tells b known g x m outcome =
      sym (mark_open x)
      ∙ ap mark_of (m outcome)
      ∙ mark_told (under ds (as_system outcome q)) (typed types) b known (plain_node g)

  pub not_is : (a : Walk) (g x : GoalNode) (told : Det) → told ≡ inferred (negated (row_of x.det)) → NodeMarked q types ds a (plain_node g) (plain_node x) → IsTold q types ds a (Not (plain_node g)) (Not (plain_node x)) told
  not_is a g x told d m =
      record {
        goal = λ outcome. ap Not (m outcome);
        det = λ outcome. d ∙ ap (λ (r : Determinism). inferred (negated r)) (mark_tells (insts_in a.point) (known_in a.known.items) g x m outcome);
      }

  pub some_is : (a : Walk) (vs : List ℕ) (g x : GoalNode) (told : Det) → told ≡ inferred (row_of x.det) → NodeMarked q types ds a (plain_node g) (plain_node x) → IsTold q types ds a (Exists vs (plain_node g)) (Exists vs (plain_node x)) told
  some_is a vs g x told d m =
      record {
        goal = λ outcome. ap (Exists vs) (m outcome);
        det = λ outcome. d ∙ ap inferred (mark_tells (insts_in a.point) (known_in a.known.items) g x m outcome);
      }

  pub ite_is : (a : Walk) (vs : List ℕ) (c t f c2 t2 f2 : GoalNode) (told : Det) → told ≡ inferred (ite (row_of c2.det) (row_of t2.det) (row_of f2.det)) → NodeMarked q types ds a (plain_node c) (plain_node c2) → ThenMarked q types ds a (plain_node c) (plain_node t) (plain_node t2) → NodeMarked q types ds a (plain_node f) (plain_node f2) → IsTold q types ds a (Ite vs (plain_node c) (plain_node t) (plain_node f)) (Ite vs (plain_node c2) (plain_node t2) (plain_node f2)) told
  ite_is a vs c t f c2 t2 f2 told d mc mt mf =
      let b : Insts = insts_in a.point in
      let known : Known = known_in a.known.items in
      record {
        goal = λ outcome.
            ap (λ (n : Node). Ite vs n (plain_node t2) (plain_node f2)) (mc outcome)
            ∙ ap₂ (λ (m n : Node). Ite vs (M (as_system outcome q) b known (plain_node c)) m n) (mt outcome) (mf outcome);
        det = λ outcome.
            d
            ∙ ap (λ (r : Determinism). inferred (ite r (row_of t2.det) (row_of f2.det))) (mark_tells b known c c2 mc outcome)
            ∙ ap₂ (λ (r s : Determinism). inferred (ite (determined (under ds (as_system outcome q)) (typed types) b known (plain_node c)) r s)) (mark_tells (insts_after (plain_node c) b) known t t2 mt outcome) (mark_tells b known f f2 mf outcome);
      }

  -- the same where a walk stays
  pub marked_there : (a b : Walk) (n m : Node) → Stays a b → NodeMarked q types ds b n m → NodeMarked q types ds a n m
  marked_there a b n m s e outcome = from_start a b (λ is kn. m ≡ M (as_system outcome q) is kn n) s (e outcome)

  -- one goal more of a conjunction
  pub goal_run : (a l m : Walk) (point : List ℕ) (gs : List GoalNode) (k : ℕ) (g x : GoalNode) (xs ys : List GoalNode) (total : System → Nodes) → l.known.items ≡ a.known.items → k < length gs → g ≡ get_or gs k g → Stays l m → insts_in point ≡ insts_after (plain_node x) (insts_in m.point) → NodeMarked q types ds l (plain_node g) (plain_node x) → ys ≡ xs ++ x ∷ [] → InSystems q (λ S. before (map plain_node xs) (all_to_come (under ds S) (typed types) (insts_in l.point) (known_in a.known.items) gs k) ≡ total S) → InSystems q (λ S. before (map plain_node ys) (all_to_come (under ds S) (typed types) (insts_in point) (known_in a.known.items) gs (k + 1)) ≡ total S)
  goal_run a l m point gs k g x xs ys total known lt is s after put more e outcome =
      let S = under ds (as_system outcome q) in
      all_made S (typed types) (insts_in l.point) (insts_in point) (known_in a.known.items) gs k g x xs ys (total (as_system outcome q)) lt more
      (put outcome
      ∙ ap (λ (fs : List Fact). marked S (typed types) (insts_in l.point) (known_in fs) (plain_node g)) known
      ∙ ap (λ (h : GoalNode). marked S (typed types) (insts_in l.point) (known_in a.known.items) (plain_node h)) is)
      (after
      ∙ after_marked l (plain_node g) (plain_node x) put (insts_in m.point)
      ∙ ap (λ (p : List ℕ). insts_after (plain_node g) (insts_in p)) s.point
      ∙ ap (λ (h : GoalNode). insts_after (plain_node h) (insts_in l.point)) is)
      (e outcome)

  -- one disjunct more
  pub goal_tried : (a l : Walk) (gs : List GoalNode) (k : ℕ) (g x : GoalNode) (xs ys : List GoalNode) (total : System → Nodes) → Stays a l → k < length gs → g ≡ get_or gs k g → NodeMarked q types ds l (plain_node g) (plain_node x) → ys ≡ xs ++ x ∷ [] → InSystems q (λ S. before (map plain_node xs) (each_to_come (under ds S) (typed types) (insts_in a.point) (known_in a.known.items) gs k) ≡ total S) → InSystems q (λ S. before (map plain_node ys) (each_to_come (under ds S) (typed types) (insts_in a.point) (known_in a.known.items) gs (k + 1)) ≡ total S)
  goal_tried a l gs k g x xs ys total s lt is put more e outcome =
      let S = under ds (as_system outcome q) in
      each_made S (typed types) (insts_in a.point) (known_in a.known.items) gs k g x xs ys (total (as_system outcome q)) lt more
      (marked_there a l (plain_node g) (plain_node x) s put outcome
      ∙ ap (λ (h : GoalNode). marked S (typed types) (insts_in a.point) (known_in a.known.items) (plain_node h)) is)
      (e outcome)

  -- one arm more; in it there is a fact more
  pub arm_chosen : (a l w : Walk) (x : ℕ) (f : Fact) (arms : List Arm) (k : ℕ) (r c : Arm) (xs ys : List Arm) (total : System → Arms) → Stays a l → w.point ≡ l.point → w.known.items ≡ l.known.items ++ f ∷ [] → f.variable ≡ x → f.on ≡ r.on → k < length arms → r ≡ get_or arms k r → c.on ≡ r.on → NodeMarked q types ds w (plain_node r.body) (plain_node c.body) → ys ≡ xs ++ c ∷ [] → InSystems q (λ S. arms_before (map plain_arm xs) (arms_to_come (under ds S) (typed types) (insts_in a.point) (known_in a.known.items) x arms k) ≡ total S) → InSystems q (λ S. arms_before (map plain_arm ys) (arms_to_come (under ds S) (typed types) (insts_in a.point) (known_in a.known.items) x arms (k + 1)) ≡ total S)
  arm_chosen a l w x f arms k r c xs ys total s wp wk fx fon lt is on put more e outcome =
      let S = under ds (as_system outcome q) in
      arm_made S (typed types) (insts_in a.point) (known_in a.known.items) (known_in w.known.items) x arms k r c xs ys (total (as_system outcome q)) lt more
      (on ∙ ap (λ (h : Arm). h.on) is)
      (put outcome
      ∙ ap (λ (p : List ℕ). marked S (typed types) (insts_in p) (known_in w.known.items) (plain_node r.body)) (wp ∙ s.point)
      ∙ ap (λ (h : Arm). marked S (typed types) (insts_in a.point) (known_in w.known.items) (plain_node h.body)) is)
      (ap known_in wk
      ∙ learned_last l.known.items f
      ∙ ap (λ y. learned y (plain_label f.on) (known_in l.known.items)) fx
      ∙ ap (λ (fs : List Fact). learned x (plain_label f.on) (known_in fs)) s.known
      ∙ ap (λ o. learned x (plain_label o) (known_in a.known.items)) fon
      ∙ ap (λ (h : Arm). learned x (plain_label h.on) (known_in a.known.items)) is)
      (e outcome)

  -- a then part after its condition's changes, which are undone
  pub then_marked : (a b : Walk) (c : Node) (t x : GoalNode) → b.known.items ≡ a.known.items → insts_in b.point ≡ insts_after c (insts_in a.point) → NodeMarked q types ds b (plain_node t) (plain_node x) → ThenMarked q types ds a c (plain_node t) (plain_node x)
  then_marked a b c t x known after put outcome =
      put outcome
      ∙ ap (λ (fs : List Fact). M (as_system outcome q) (insts_in b.point) (known_in fs) (plain_node t)) known
      ∙ ap (λ (i : Insts). M (as_system outcome q) i (known_in a.known.items) (plain_node t)) after

  -- a whole body
  pub whole_marked : (a : Walk) (p : Proc) (body : GoalNode) → types ≡ p.var_types → a.known.items ≡ [] → insts_in a.point ≡ entered p.head p.first → NodeMarked q types ds a (plain_node p.body) (plain_node body) → InSystems q (λ S. plain_node body ≡ marked_body (under ds S) (plain_proc p))
  whole_marked a p body of known here is outcome =
      let S = under ds (as_system outcome q) in
      is outcome
      ∙ ap (λ (ts : List Ty). marked S (typed ts) (insts_in a.point) (known_in a.known.items) (plain_node p.body)) of
      ∙ ap (λ (fs : List Fact). marked S (typed p.var_types) (insts_in a.point) (known_in fs) (plain_node p.body)) known
      ∙ ap (λ (i : Insts). marked S (typed p.var_types) i (known_in []) (plain_node p.body)) here
      ∙ ap (λ (kn : Known). marked S (typed p.var_types) (entered p.head p.first) kn (plain_node p.body)) (fun_ext (λ x. refl))

pub if_ok_both : {T E : Type 0} (r : Result T E) (P Q R : T → Type 0) → ((x : T) → P x → Q x → R x) → IfOk r P → IfOk r Q → IfOk r R
if_ok_both (Ok x) P Q R f p q = f x p q
if_ok_both (Err e) P Q R f p q = tt

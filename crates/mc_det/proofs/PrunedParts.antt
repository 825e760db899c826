-- Goals with their marks for pruned goals, told from their parts.
use Rattle.std.proofs.Math.Seq.{drop-cons, drop-length}
use Rattle.std.proofs.lemmas.List.{map-append}
use Rattle.std.proofs.Common.{◌≡◌, ℕ, suc, ◌+◌, ◌<◌, List, [], ◌∷◌, ◌++◌, length, get_or, drop, map, add-one, append_assoc, Bool, true, false, not, ◌||◌, ◌&&◌, refl, sym, ap, ap₂, ◌∙◌, subst, arith}
use Rattle.mc_program.specs.Values.{Val}
use Rattle.mc_program.specs.Programs.{TypeTerm}
use Rattle.mc_program.specs.declared.builtin.Builtin.{Builtin}
use Rattle.mc_program.specs.declared.ty.Ty.{Ty}
use Rattle.mc_source.specs.declared.det.Det.{Det}
use Rattle.mc_model.specs.Scheduled.{Node, node, nodes, Scheduled, Conj, Disj, Switch, Ite, Not, Exists, Nodes, no_nodes, node_then, Label, Arms, no_arms, arm_then}
use Rattle.mc_model.specs.PlainGoals.{plain_node, plain_sched, plain_arm, plain_label, arms_of}
use Rattle.mc_model.specs.Good.{System}
use Rattle.mc_model.specs.Outcomes.{Outcome}
use Rattle.mc_model.specs.declared.sched.GoalNode.{GoalNode}
use Rattle.mc_model.specs.declared.sched.Arm.{Arm}
use Rattle.mc_accepted.specs.Ordered.{Insts, binds_one, times_in, variables_of_node, variables_of_nodes}
use Rattle.mc_accepted.specs.Determined.{insts_after}
use Rattle.mc_accepted.specs.MergedArms.{never_ends, never_ends_in, one_never_ends, each_never_ends, each_arm_never_ends}
use Rattle.mc_accepted.specs.Inferred.{with_determinisms}
use Rattle.mc_procs.specs.Procedures.{PlainProcs, as_system}
use Rattle.mc_procs.proofs.Views.{plain_node-open, plain_arm-open}
use Rattle.mc_det.specs.Pruned.{then_reached, pruned_node, pruned_in, pruned_all, pruned_each, pruned_arms}
use Rattle.mc_det.specs.PrunedProcedures.{FollowDeclared}
use Rattle.mc_det.specs.declared.prune.Pruning.{Pruning}
use Rattle.mc_det.specs.code.Points.{insts_in}
use Rattle.mc_det.specs.code.Walks.{typed}
use Rattle.mc_det.specs.code.Prunes.{Counted, InDeclared, Keeps, IsGoal, IsNode, IsWithin, IsBeside, IsThen}
use Rattle.mc_det.proofs.Telling.{before, one_before, none_after}
use Rattle.mc_det.proofs.MarkedParts.{arms_before, one_arm_before, no_arm_after}

module _ (S : System) (T : ℕ → TypeTerm) where
  -- one node more of a conjunction, where R is outside what is left
  pub one_run : (R : List ℕ) (b after : Insts) (gs : List GoalNode) (k : ℕ) (g x : GoalNode) (xs ys : List GoalNode) (total : Nodes) → k < length gs → g ≡ get_or gs k g → ys ≡ xs ++ x ∷ [] → plain_node x ≡ pruned_node S T (R ++ variables_of_nodes (nodes (map plain_node (drop (k + 1) gs)))) b (plain_node g) → after ≡ insts_after (plain_node g) b → before (map plain_node xs) (pruned_all S T R b (nodes (map plain_node (drop k gs)))) ≡ total → before (map plain_node ys) (pruned_all S T (R ++ variables_of_node (plain_node g)) after (nodes (map plain_node (drop (k + 1) gs)))) ≡ total
  one_run R b after gs k g x xs ys total lt is put made come e =
      let rest : Nodes = nodes (map plain_node (drop (k + 1) gs)) in
      let n : Node = plain_node g in
      ap (λ (l : List GoalNode). before (map plain_node l) (pruned_all S T (R ++ variables_of_node n) after rest)) put
      ∙ ap (λ (l : List Node). before l (pruned_all S T (R ++ variables_of_node n) after rest)) (map-append plain_node xs (x ∷ []))
      ∙ one_before (map plain_node xs) (plain_node x) (pruned_all S T (R ++ variables_of_node n) after rest)
      ∙ ap (λ (m : Node). before (map plain_node xs) (node_then m (pruned_all S T (R ++ variables_of_node n) after rest))) made
      ∙ ap (λ (i : Insts). before (map plain_node xs) (node_then (pruned_node S T (R ++ variables_of_nodes rest) b n) (pruned_all S T (R ++ variables_of_node n) i rest))) come
      ∙ ap (λ (ns : Nodes). before (map plain_node xs) (pruned_all S T R b ns)) (left gs k g lt is)
      ∙ e
    where
      left : (gs : List GoalNode) (k : ℕ) (g : GoalNode) → k < length gs → g ≡ get_or gs k g → node_then (plain_node g) (nodes (map plain_node (drop (k + 1) gs))) ≡ nodes (map plain_node (drop k gs))
      left gs k g lt is =
          ap (λ m. node_then (plain_node g) (nodes (map plain_node (drop m gs)))) (add-one k)
          ∙ ap (λ (h : GoalNode). node_then (plain_node h) (nodes (map plain_node (drop (suc k) gs)))) is
          ∙ ap (λ (l : List GoalNode). nodes (map plain_node l)) (sym (drop-cons gs k g lt))

-- what is outside one goal of a conjunction that is counted whole
pub times_both : (x : ℕ) (xs ys : List ℕ) → times_in x (xs ++ ys) ≡ times_in x xs + times_in x ys
times_both x [] ys = omega arith
times_both x (z ∷ xs) ys = here (times_both x xs ys)
  where
    here : times_in x (xs ++ ys) ≡ times_in x xs + times_in x ys → times_in x (z ∷ (xs ++ ys)) ≡ times_in x (z ∷ xs) + times_in x ys
    here e = grind (arith, e)

pub counted_apart : (R own rest counts : List ℕ) → Counted (R ++ (own ++ rest)) counts → Counted ((R ++ rest) ++ own) counts
counted_apart R own rest counts h x lt =
    omega (arith, h x lt, times_both x R (own ++ rest), times_both x own rest, times_both x (R ++ rest) own, times_both x R rest)

pub counted_on : (R own rest counts : List ℕ) → Counted (R ++ (own ++ rest)) counts → Counted ((R ++ own) ++ rest) counts
counted_on R own rest counts h = subst (λ (l : List ℕ). Counted l counts) (sym (append_assoc R own rest)) h

abbrev Outcomes : Type 0
Outcomes = Builtin → List Val → Outcome

module _ (q : PlainProcs) (types : List Ty) (a : Pruning) where
  abbrev under_declared : Outcomes → (ℕ → Det) → System
  under_declared outcome ds = with_determinisms (as_system outcome q) ds

  abbrev b : Insts
  b = insts_in a.point

  abbrev T : ℕ → TypeTerm
  T = typed types

  abbrev all_of : List GoalNode → Nodes
  all_of gs = nodes (map plain_node gs)

  -- a node from its goal
  pub node_pruned : (g x : GoalNode) (told binds : Bool) → x.changes ≡ g.changes → x.det ≡ g.det → x.pruned ≡ not (told || binds) → IsGoal q types a (plain_sched g.goal) (plain_sched x.goal) told → ((Q : List ℕ) → Counted Q a.outside → binds ≡ binds_one Q (insts_in a.point) (insts_after (plain_node g) (insts_in a.point))) → IsNode q types a (plain_node g) (plain_node x) told
  node_pruned g x told binds c d m is bound =
      record {
        made = λ Q counted outcome ds follow.
            let S : System = under_declared outcome ds in
            plain_node-open x
            ∙ ap (λ (s : Scheduled). node s x.changes x.det x.pruned) (is.made Q counted outcome ds follow)
            ∙ ap (λ (l : List (ℕ × ℕ)). node (pruned_in S T Q b (plain_sched g.goal)) l x.det x.pruned) c
            ∙ ap (λ (t : Det). node (pruned_in S T Q b (plain_sched g.goal)) g.changes t x.pruned) d
            ∙ ap (λ (p : Bool). node (pruned_in S T Q b (plain_sched g.goal)) g.changes g.det p)
            (m
            ∙ ap (λ (v : Bool). not (v || binds)) (is.never outcome ds follow)
            ∙ ap (λ (v : Bool). not (never_ends_in S T b (plain_sched g.goal) || v)) (bound Q counted)
            ∙ ap (λ (n : Node). not (never_ends_in S T b (plain_sched g.goal) || binds_one Q b (insts_after n b))) (plain_node-open g))
            ∙ ap (pruned_node S T Q b) (sym (plain_node-open g));
        never = λ outcome ds follow. is.never outcome ds follow ∙ ap (never_ends (under_declared outcome ds) T b) (sym (plain_node-open g));
      }

  -- the same of goals that are seen otherwise
  pub goal_as : (s t u v : Scheduled) (told : Bool) → s ≡ u → t ≡ v → IsGoal q types a u v told → IsGoal q types a s t told
  goal_as s t u v told e f h =
      subst (λ (w : Scheduled). IsGoal q types a w t told) (sym e)
      (subst (λ (w : Scheduled). IsGoal q types a u w told) (sym f) h)

  -- goals from their parts
  pub not_pruned : (n m : Node) (told : Bool) → IsNode q types a n m told → IsGoal q types a (Not n) (Not m) false
  not_pruned n m told is =
      record {
        made = λ Q counted outcome ds follow. ap Not (is.made Q counted outcome ds follow);
        never = λ outcome ds follow. refl;
      }

  pub some_pruned : (vs : List ℕ) (n m : Node) (told : Bool) → IsNode q types a n m told → IsGoal q types a (Exists vs n) (Exists vs m) told
  some_pruned vs n m told is =
      record {
        made = λ Q counted outcome ds follow. ap (Exists vs) (is.made Q counted outcome ds follow);
        never = λ outcome ds follow. is.never outcome ds follow;
      }

  pub ite_pruned : (vs : List ℕ) (c t e c2 t2 e2 : Node) (first second third told : Bool) → told ≡ ((first || second) && third) → IsBeside q types a (variables_of_node t) c c2 first → IsThen q types a c t t2 second → IsNode q types a e e2 third → IsGoal q types a (Ite vs c t e) (Ite vs c2 (then_reached first t2) e2) told
  ite_pruned vs c t e c2 t2 e2 first second third told n f s h =
      record {
        made = λ Q counted outcome ds follow.
            let S : System = under_declared outcome ds in
            ap (λ (k : Node). Ite vs k (then_reached first t2) e2) (f.made Q counted outcome ds follow)
            ∙ ap (λ (v : Bool). Ite vs (pruned_node S T (Q ++ variables_of_node t) b c) (then_reached v t2) e2) (f.never outcome ds follow)
            ∙ ap (λ (k : Node). Ite vs (pruned_node S T (Q ++ variables_of_node t) b c) (then_reached (never_ends S T b c) k) e2) (s.made Q counted outcome ds follow)
            ∙ ap (λ (k : Node). Ite vs (pruned_node S T (Q ++ variables_of_node t) b c) (then_reached (never_ends S T b c) (pruned_node S T (Q ++ variables_of_node c) (insts_after c b) t)) k) (h.made Q counted outcome ds follow);
        never = λ outcome ds follow.
            n
            ∙ ap₂ (λ (x y : Bool). x && y) (ap₂ (λ (x y : Bool). x || y) (f.never outcome ds follow) (s.never outcome ds follow)) (h.never outcome ds follow);
      }

-- A conjunction, goal by goal: what is outside those that are left, with them, is counted.
pub record RunSoFar
    (q : PlainProcs) (types : List Ty) (a l : Pruning) (gs : List GoalNode) (k : ℕ)
    (made_so : List GoalNode) (so_never : Bool)
    : Type 0 where
  pub made :
      (Q : List ℕ)
      → Counted Q a.outside
      → (R : List ℕ)
      × Counted (R ++ variables_of_nodes (nodes (map plain_node (drop k gs)))) l.outside
      × InDeclared q
      (λ S.
      before (map plain_node made_so)
      (pruned_all S (typed types) R (insts_in l.point) (nodes (map plain_node (drop k gs))))
      ≡ pruned_all S (typed types) Q (insts_in a.point) (nodes (map plain_node gs)))
  pub never :
      InDeclared q
      (λ S.
      (so_never
      || one_never_ends S (typed types) (insts_in l.point) (nodes (map plain_node (drop k gs))))
      ≡ one_never_ends S (typed types) (insts_in a.point) (nodes (map plain_node gs)))

module _ (q : PlainProcs) (types : List Ty) (a : Pruning) (gs : List GoalNode) where
  abbrev left_from : ℕ → Nodes
  left_from k = nodes (map plain_node (drop k gs))

  next_left : (k : ℕ) (g : GoalNode) → k < length gs → g ≡ get_or gs k g → left_from k ≡ node_then (plain_node g) (left_from (k + 1))
  next_left k g lt is =
      ap (λ (l : List GoalNode). nodes (map plain_node l)) (drop-cons gs k g lt)
      ∙ ap (λ (h : GoalNode). node_then (plain_node h) (left_from (suc k))) (sym is)
      ∙ ap (λ m. node_then (plain_node g) (left_from m)) (sym (add-one k))

  -- where it begins
  pub run_begun : (l : Pruning) → l.point ≡ a.point → ((Q : List ℕ) → Counted Q a.outside → Counted (Q ++ variables_of_nodes (nodes (map plain_node gs))) l.outside) → RunSoFar q types a l gs 0 [] false
  run_begun l same counted =
      record {
        made = λ Q h. (Q, counted Q h, (λ outcome ds follow. ap (λ (p : List ℕ). pruned_all (with_determinisms (as_system outcome q) ds) (typed types) Q (insts_in p) (left_from 0)) same));
        never = λ outcome ds follow. ap (λ (p : List ℕ). one_never_ends (with_determinisms (as_system outcome q) ds) (typed types) (insts_in p) (left_from 0)) same;
      }

  or_apart : (x y z : Bool) → ((x || y) || z) ≡ (x || (y || z))
  or_apart true y z = refl
  or_apart false y z = refl

  -- one goal more
  pub run_more : (l m : Pruning) (k : ℕ) (g x : GoalNode) (told : Bool) (xs ys : List GoalNode) (never more : Bool) → k < length gs → g ≡ get_or gs k g → IsWithin q types l (plain_node g) (plain_node x) told → insts_in m.point ≡ insts_after (plain_node g) (insts_in l.point) → m.outside ≡ l.outside → ys ≡ xs ++ x ∷ [] → more ≡ (never || told) → RunSoFar q types a l gs k xs never → RunSoFar q types a m gs (k + 1) ys more
  run_more l m k g x told xs ys never more lt is within after same put also so_far =
      record {
        made = λ Q h. step Q (so_far.made Q h);
        never = λ outcome ds follow.
            let S : System = with_determinisms (as_system outcome q) ds in
            ap₂ (λ (v : Bool) (i : Insts). v || one_never_ends S (typed types) i (left_from (k + 1))) (also ∙ ap (λ (v : Bool). never || v) (within.never outcome ds follow)) after
            ∙ or_apart never (never_ends S (typed types) (insts_in l.point) (plain_node g)) (one_never_ends S (typed types) (insts_after (plain_node g) (insts_in l.point)) (left_from (k + 1)))
            ∙ ap (λ (ns : Nodes). never || one_never_ends S (typed types) (insts_in l.point) ns) (sym (next_left k g lt is))
            ∙ so_far.never outcome ds follow;
      }
    where
      own : List ℕ
      own = variables_of_node (plain_node g)

      step : (Q : List ℕ) → (R : List ℕ) × Counted (R ++ variables_of_nodes (left_from k)) l.outside × InDeclared q (λ S. before (map plain_node xs) (pruned_all S (typed types) R (insts_in l.point) (left_from k)) ≡ pruned_all S (typed types) Q (insts_in a.point) (nodes (map plain_node gs))) → (R : List ℕ) × Counted (R ++ variables_of_nodes (left_from (k + 1))) m.outside × InDeclared q (λ S. before (map plain_node ys) (pruned_all S (typed types) R (insts_in m.point) (left_from (k + 1))) ≡ pruned_all S (typed types) Q (insts_in a.point) (nodes (map plain_node gs)))
      step Q (R, counted, made) =
          let rest : List ℕ = variables_of_nodes (left_from (k + 1)) in
          let here : Counted (R ++ (variables_of_node (plain_node g) ++ rest)) l.outside = subst (λ (ns : Nodes). Counted (R ++ variables_of_nodes ns) l.outside) (next_left k g lt is) counted in (
            R ++ variables_of_node (plain_node g),
            subst (Counted ((R ++ variables_of_node (plain_node g)) ++ rest)) (sym same) (counted_on R (variables_of_node (plain_node g)) rest l.outside here),
            (λ outcome ds follow.
                let S : System = with_determinisms (as_system outcome q) ds in
                one_run S (typed types) R (insts_in l.point) (insts_in m.point) gs k g x xs ys (pruned_all S (typed types) Q (insts_in a.point) (nodes (map plain_node gs))) lt is put
                (within.made (R ++ rest) (counted_apart R (variables_of_node (plain_node g)) rest l.outside here) outcome ds follow)
                after (made outcome ds follow)),
          )

  -- where it ends
  pub run_done : (l : Pruning) (k : ℕ) (xs : List GoalNode) (never : Bool) → k ≡ length gs → RunSoFar q types a l gs k xs never → IsGoal q types a (Conj (nodes (map plain_node gs))) (Conj (nodes (map plain_node xs))) never
  run_done l k xs never at so_far =
      record {
        made = λ Q h outcome ds follow. ap Conj (whole Q outcome ds follow (so_far.made Q h));
        never = λ outcome ds follow.
            let S : System = with_determinisms (as_system outcome q) ds in
            sym (or_none never)
            ∙ ap (λ (ns : Nodes). never || one_never_ends S (typed types) (insts_in l.point) ns) (sym none_left)
            ∙ so_far.never outcome ds follow;
      }
    where
      or_none : (v : Bool) → (v || false) ≡ v
      or_none true = refl
      or_none false = refl

      none_left : left_from k ≡ no_nodes
      none_left = ap left_from at ∙ ap (λ (l : List GoalNode). nodes (map plain_node l)) (drop-length gs)

      whole : (Q : List ℕ) (outcome : Outcomes) (ds : ℕ → Det) → FollowDeclared q ds → (R : List ℕ) × Counted (R ++ variables_of_nodes (left_from k)) l.outside × InDeclared q (λ S. before (map plain_node xs) (pruned_all S (typed types) R (insts_in l.point) (left_from k)) ≡ pruned_all S (typed types) Q (insts_in a.point) (nodes (map plain_node gs))) → nodes (map plain_node xs) ≡ pruned_all (with_determinisms (as_system outcome q) ds) (typed types) Q (insts_in a.point) (nodes (map plain_node gs))
      whole Q outcome ds follow (R, counted, made) =
          let S : System = with_determinisms (as_system outcome q) ds in
          sym (none_after (map plain_node xs))
          ∙ ap (λ (ns : Nodes). before (map plain_node xs) (pruned_all S (typed types) R (insts_in l.point) ns)) (sym none_left)
          ∙ made outcome ds follow

-- Disjuncts, one after another, and arms.
pub record TriedSoFar
    (q : PlainProcs) (types : List Ty) (a : Pruning) (gs : List GoalNode) (k : ℕ)
    (made_so : List GoalNode) (so_never : Bool)
    : Type 0 where
  pub made :
      (Q : List ℕ)
      → Counted Q a.outside
      → InDeclared q
      (λ S.
      before (map plain_node made_so)
      (pruned_each S (typed types) Q (insts_in a.point) (nodes (map plain_node (drop k gs))))
      ≡ pruned_each S (typed types) Q (insts_in a.point) (nodes (map plain_node gs)))
  pub never :
      InDeclared q
      (λ S.
      (so_never
      && each_never_ends S (typed types) (insts_in a.point) (nodes (map plain_node (drop k gs))))
      ≡ each_never_ends S (typed types) (insts_in a.point) (nodes (map plain_node gs)))

pub record ChosenSoFar
    (q : PlainProcs) (types : List Ty) (a : Pruning) (arms : List Arm) (k : ℕ)
    (made_so : List Arm) (so_never : Bool)
    : Type 0 where
  pub made :
      (Q : List ℕ)
      → Counted Q a.outside
      → InDeclared q
      (λ S.
      arms_before (map plain_arm made_so)
      (pruned_arms S (typed types) Q (insts_in a.point) (arms_of (map plain_arm (drop k arms))))
      ≡ pruned_arms S (typed types) Q (insts_in a.point) (arms_of (map plain_arm arms)))
  pub never :
      InDeclared q
      (λ S.
      (so_never
      && each_arm_never_ends S (typed types) (insts_in a.point)
      (arms_of (map plain_arm (drop k arms))))
      ≡ each_arm_never_ends S (typed types) (insts_in a.point) (arms_of (map plain_arm arms)))

and_apart : (x y z : Bool) → ((x && y) && z) ≡ (x && (y && z))
and_apart true y z = refl
and_apart false y z = refl

and_all : (v : Bool) → (v && true) ≡ v
and_all true = refl
and_all false = refl

-- a walk that stands where it began
pub node_from_start : (q : PlainProcs) (types : List Ty) (a l : Pruning) (n m : Node) (told : Bool) → Keeps a l → IsNode q types l n m told → IsNode q types a n m told
node_from_start q types a l n m told keeps is =
    record {
      made = λ Q h outcome ds follow.
          is.made Q (subst (Counted Q) (sym keeps.outside) h) outcome ds follow
          ∙ ap (λ (p : List ℕ). pruned_node (with_determinisms (as_system outcome q) ds) (typed types) Q (insts_in p) n) keeps.point;
      never = λ outcome ds follow.
          is.never outcome ds follow
          ∙ ap (λ (p : List ℕ). never_ends (with_determinisms (as_system outcome q) ds) (typed types) (insts_in p) n) keeps.point;
    }

pub beside_from_start : (q : PlainProcs) (types : List Ty) (a l : Pruning) (beside : List ℕ) (n m : Node) (told : Bool) → Keeps a l → IsBeside q types l beside n m told → IsBeside q types a beside n m told
beside_from_start q types a l beside n m told keeps is =
    record {
      made = λ Q h outcome ds follow.
          is.made Q (subst (Counted Q) (sym keeps.outside) h) outcome ds follow
          ∙ ap (λ (p : List ℕ). pruned_node (with_determinisms (as_system outcome q) ds) (typed types) (Q ++ beside) (insts_in p) n) keeps.point;
      never = λ outcome ds follow.
          is.never outcome ds follow
          ∙ ap (λ (p : List ℕ). never_ends (with_determinisms (as_system outcome q) ds) (typed types) (insts_in p) n) keeps.point;
    }

pub then_from_start : (q : PlainProcs) (types : List Ty) (a l : Pruning) (condition n m : Node) (told : Bool) → Keeps a l → IsThen q types l condition n m told → IsThen q types a condition n m told
then_from_start q types a l condition n m told keeps is =
    record {
      made = λ Q h outcome ds follow.
          is.made Q (subst (Counted Q) (sym keeps.outside) h) outcome ds follow
          ∙ ap (λ (p : List ℕ). pruned_node (with_determinisms (as_system outcome q) ds) (typed types) (Q ++ variables_of_node condition) (insts_after condition (insts_in p)) n) keeps.point;
      never = λ outcome ds follow.
          is.never outcome ds follow
          ∙ ap (λ (p : List ℕ). never_ends (with_determinisms (as_system outcome q) ds) (typed types) (insts_after condition (insts_in p)) n) keeps.point;
    }

module _ (q : PlainProcs) (types : List Ty) (a : Pruning) (gs : List GoalNode) where
  abbrev those_left : ℕ → Nodes
  those_left k = nodes (map plain_node (drop k gs))

  next_of : (k : ℕ) (g : GoalNode) → k < length gs → g ≡ get_or gs k g → those_left k ≡ node_then (plain_node g) (those_left (k + 1))
  next_of k g lt is =
      ap (λ (l : List GoalNode). nodes (map plain_node l)) (drop-cons gs k g lt)
      ∙ ap (λ (h : GoalNode). node_then (plain_node h) (those_left (suc k))) (sym is)
      ∙ ap (λ m. node_then (plain_node g) (those_left m)) (sym (add-one k))

  pub tried_begun : TriedSoFar q types a gs 0 [] true
  tried_begun = record { made = λ Q h outcome ds follow. refl; never = λ outcome ds follow. refl }

  pub tried_more : (l : Pruning) (k : ℕ) (g x : GoalNode) (told : Bool) (xs ys : List GoalNode) (never more : Bool) → k < length gs → g ≡ get_or gs k g → Keeps a l → IsNode q types l (plain_node g) (plain_node x) told → ys ≡ xs ++ x ∷ [] → more ≡ (never && told) → TriedSoFar q types a gs k xs never → TriedSoFar q types a gs (k + 1) ys more
  tried_more l k g x told xs ys never more lt is keeps here put also so_far =
      let node = node_from_start q types a l (plain_node g) (plain_node x) told keeps here in
      record {
        made = λ Q h outcome ds follow.
            let S : System = with_determinisms (as_system outcome q) ds in
            let rest : Nodes = pruned_each S (typed types) Q (insts_in a.point) (those_left (k + 1)) in
            ap (λ (l : List GoalNode). before (map plain_node l) rest) put
            ∙ ap (λ (l : List Node). before l rest) (map-append plain_node xs (x ∷ []))
            ∙ one_before (map plain_node xs) (plain_node x) rest
            ∙ ap (λ (n : Node). before (map plain_node xs) (node_then n rest)) (node.made Q h outcome ds follow)
            ∙ ap (λ (ns : Nodes). before (map plain_node xs) (pruned_each S (typed types) Q (insts_in a.point) ns)) (sym (next_of k g lt is))
            ∙ so_far.made Q h outcome ds follow;
        never = λ outcome ds follow.
            let S : System = with_determinisms (as_system outcome q) ds in
            ap (λ (v : Bool). v && each_never_ends S (typed types) (insts_in a.point) (those_left (k + 1))) (also ∙ ap (λ (v : Bool). never && v) (node.never outcome ds follow))
            ∙ and_apart never (never_ends S (typed types) (insts_in a.point) (plain_node g)) (each_never_ends S (typed types) (insts_in a.point) (those_left (k + 1)))
            ∙ ap (λ (ns : Nodes). never && each_never_ends S (typed types) (insts_in a.point) ns) (sym (next_of k g lt is))
            ∙ so_far.never outcome ds follow;
      }

  no_node_left : (k : ℕ) → k ≡ length gs → those_left k ≡ no_nodes
  no_node_left k at = ap those_left at ∙ ap (λ (l : List GoalNode). nodes (map plain_node l)) (drop-length gs)

  pub tried_done : (k : ℕ) (xs : List GoalNode) (never : Bool) → k ≡ length gs → TriedSoFar q types a gs k xs never → IsGoal q types a (Disj (nodes (map plain_node gs))) (Disj (nodes (map plain_node xs))) never
  tried_done k xs never at so_far =
      record {
        made = λ Q h outcome ds follow.
            let S : System = with_determinisms (as_system outcome q) ds in
            ap Disj
            (sym (none_after (map plain_node xs))
            ∙ ap (λ (ns : Nodes). before (map plain_node xs) (pruned_each S (typed types) Q (insts_in a.point) ns)) (sym (no_node_left k at))
            ∙ so_far.made Q h outcome ds follow);
        never = λ outcome ds follow.
            let S : System = with_determinisms (as_system outcome q) ds in
            sym (and_all never)
            ∙ ap (λ (ns : Nodes). never && each_never_ends S (typed types) (insts_in a.point) ns) (sym (no_node_left k at))
            ∙ so_far.never outcome ds follow;
      }

module _ (q : PlainProcs) (types : List Ty) (a : Pruning) (arms : List Arm) where
  abbrev arms_left : ℕ → Arms
  arms_left k = arms_of (map plain_arm (drop k arms))

  next_arm : (k : ℕ) (r : Arm) → k < length arms → r ≡ get_or arms k r → arms_left k ≡ arm_then (plain_label r.on) (plain_node r.body) (arms_left (k + 1))
  next_arm k r lt is =
      ap (λ (l : List Arm). arms_of (map plain_arm l)) (drop-cons arms k r lt)
      ∙ ap (λ (d : Arm). arm_then (plain_arm d).0 (plain_arm d).1 (arms_left (suc k))) (sym is)
      ∙ ap (λ (p : Label × Node). arm_then p.0 p.1 (arms_left (suc k))) (plain_arm-open r)
      ∙ ap (λ m. arm_then (plain_label r.on) (plain_node r.body) (arms_left m)) (sym (add-one k))

  pub chosen_begun : ChosenSoFar q types a arms 0 [] true
  chosen_begun = record { made = λ Q h outcome ds follow. refl; never = λ outcome ds follow. refl }

  pub chosen_more : (l : Pruning) (k : ℕ) (r x : Arm) (told : Bool) (xs ys : List Arm) (never more : Bool) → k < length arms → r ≡ get_or arms k r → Keeps a l → IsNode q types l (plain_node r.body) (plain_node x.body) told → x.on ≡ r.on → ys ≡ xs ++ x ∷ [] → more ≡ (never && told) → ChosenSoFar q types a arms k xs never → ChosenSoFar q types a arms (k + 1) ys more
  chosen_more l k r x told xs ys never more lt is keeps here on put also so_far =
      let node = node_from_start q types a l (plain_node r.body) (plain_node x.body) told keeps here in
      record {
        made = λ Q h outcome ds follow.
            let S : System = with_determinisms (as_system outcome q) ds in
            let rest : Arms = pruned_arms S (typed types) Q (insts_in a.point) (arms_left (k + 1)) in
            ap (λ (l : List Arm). arms_before (map plain_arm l) rest) put
            ∙ ap (λ (l : List (Label × Node)). arms_before l rest) (map-append plain_arm xs (x ∷ []))
            ∙ one_arm_before (map plain_arm xs) (plain_arm x) rest
            ∙ ap (λ (p : Label × Node). arms_before (map plain_arm xs) (arm_then p.0 p.1 rest)) (plain_arm-open x)
            ∙ ap (λ o. arms_before (map plain_arm xs) (arm_then (plain_label o) (plain_node x.body) rest)) on
            ∙ ap (λ (n : Node). arms_before (map plain_arm xs) (arm_then (plain_label r.on) n rest)) (node.made Q h outcome ds follow)
            ∙ ap (λ (ns : Arms). arms_before (map plain_arm xs) (pruned_arms S (typed types) Q (insts_in a.point) ns)) (sym (next_arm k r lt is))
            ∙ so_far.made Q h outcome ds follow;
        never = λ outcome ds follow.
            let S : System = with_determinisms (as_system outcome q) ds in
            ap (λ (v : Bool). v && each_arm_never_ends S (typed types) (insts_in a.point) (arms_left (k + 1))) (also ∙ ap (λ (v : Bool). never && v) (node.never outcome ds follow))
            ∙ and_apart never (never_ends S (typed types) (insts_in a.point) (plain_node r.body)) (each_arm_never_ends S (typed types) (insts_in a.point) (arms_left (k + 1)))
            ∙ ap (λ (ns : Arms). never && each_arm_never_ends S (typed types) (insts_in a.point) ns) (sym (next_arm k r lt is))
            ∙ so_far.never outcome ds follow;
      }

  no_arm_left : (k : ℕ) → k ≡ length arms → arms_left k ≡ no_arms
  no_arm_left k at = ap arms_left at ∙ ap (λ (l : List Arm). arms_of (map plain_arm l)) (drop-length arms)

  pub chosen_done : (x k : ℕ) (xs : List Arm) (never : Bool) → k ≡ length arms → ChosenSoFar q types a arms k xs never → IsGoal q types a (Switch x (arms_of (map plain_arm arms))) (Switch x (arms_of (map plain_arm xs))) never
  chosen_done x k xs never at so_far =
      record {
        made = λ Q h outcome ds follow.
            let S : System = with_determinisms (as_system outcome q) ds in
            ap (Switch x)
            (sym (no_arm_after (map plain_arm xs))
            ∙ ap (λ (ns : Arms). arms_before (map plain_arm xs) (pruned_arms S (typed types) Q (insts_in a.point) ns)) (sym (no_arm_left k at))
            ∙ so_far.made Q h outcome ds follow);
        never = λ outcome ds follow.
            let S : System = with_determinisms (as_system outcome q) ds in
            sym (and_all never)
            ∙ ap (λ (ns : Arms). never && each_arm_never_ends S (typed types) (insts_in a.point) ns) (sym (no_arm_left k at))
            ∙ so_far.never outcome ds follow;
      }

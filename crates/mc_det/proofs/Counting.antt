-- What occurs outside a goal is counted, and counted back.
use Rattle.std.proofs.Common.{◌≡◌, ℕ, zero, suc, ◌+◌, ◌<◌, ◌≤◌, Bool, List, [], ◌∷◌, ◌++◌, length, get_or, sym, ap, ◌∙◌, subst, arith}
use Rattle.std.proofs.lemmas.List.{ext_get_or}
use Rattle.mc_program.specs.declared.ty.Ty.{Ty}
use Rattle.mc_model.specs.Scheduled.{Node}
use Rattle.mc_model.specs.PlainGoals.{plain_node, plain_proc}
use Rattle.mc_model.specs.declared.sched.GoalNode.{GoalNode}
use Rattle.mc_model.specs.declared.sched.Proc.{Proc}
use Rattle.mc_accepted.specs.Accepted.{entered}
use Rattle.mc_accepted.specs.Ordered.{Insts, times_in, variables_of_node}
use Rattle.mc_accepted.specs.Determined.{insts_after}
use Rattle.mc_accepted.specs.MergedArms.{never_ends}
use Rattle.mc_accepted.specs.Inferred.{with_determinisms}
use Rattle.mc_procs.specs.Procedures.{PlainProcs, as_system}
use Rattle.mc_det.specs.Pruned.{pruned_node, pruned_body}
use Rattle.mc_det.specs.declared.prune.Pruning.{Pruning}
use Rattle.mc_det.specs.code.Points.{insts_in}
use Rattle.mc_det.specs.code.Walks.{typed}
use Rattle.mc_det.specs.code.Prunes.{Counted, HasCounted, InDeclared, Keeps, IsNode, IsWithin, IsBeside, IsThen}
use Rattle.mc_det.proofs.Gathering.{of_goals}
use Rattle.mc_det.proofs.PrunedParts.{times_both}

-- counts that are more, or fewer, by the variables of a list
abbrev pub More : (vs before after : List ℕ) → Type 0
More vs before after =
    (length after ≡ length before)
    × ((x : ℕ) → x < length before → get_or after x 0 ≡ get_or before x 0 + times_in x vs)

abbrev pub Fewer : (vs before after : List ℕ) → Type 0
Fewer vs before after =
    (length after ≡ length before)
    × ((x : ℕ) → x < length before → get_or after x 0 + times_in x vs ≡ get_or before x 0)

pub more_and_back : (vs a b c : List ℕ) → More vs a b → Fewer vs b c → c ≡ a
more_and_back vs a b c m f =
    ext_get_or 0 c a (f.0 ∙ m.0)
    (λ x lt. let l : x < length b = subst (λ n. x < n) f.0 lt in let k : x < length a = subst (λ n. x < n) m.0 l in omega (arith, m.1 x k, f.1 x l))

pub back_and_more : (vs a b c : List ℕ) → Fewer vs a b → More vs b c → c ≡ a
back_and_more vs a b c f m =
    ext_get_or 0 c a (m.0 ∙ f.0)
    (λ x lt. let l : x < length b = subst (λ n. x < n) m.0 lt in let k : x < length a = subst (λ n. x < n) f.0 l in omega (arith, m.1 x l, f.1 x k))

pub counted_more : (Q vs a b : List ℕ) → More vs a b → Counted Q a → Counted (Q ++ vs) b
counted_more Q vs a b m h x lt =
    let l : x < length a = subst (λ n. x < n) m.0 lt in
    omega (arith, m.1 x l, h x l, times_both x Q vs)

pub counted_fewer : (Q vs a b : List ℕ) → Fewer vs a b → Counted (Q ++ vs) a → Counted Q b
counted_fewer Q vs a b f h x lt =
    let l : x < length a = subst (λ n. x < n) f.0 lt in
    omega (arith, f.1 x l, h x l, times_both x Q vs)

pub more_enough : (vs a b : List ℕ) → More vs a b → (x : ℕ) → x < length b → times_in x vs ≤ get_or b x 0
more_enough vs a b m x lt =
    let l : x < length a = subst (λ n. x < n) m.0 lt in
    omega (arith, m.1 x l)

-- a goal's variables are among those of all goals
pub one_of_all : (x : ℕ) (gs : List GoalNode) (k : ℕ) (g : GoalNode) → k < length gs → g ≡ get_or gs k g → times_in x (variables_of_node (plain_node g)) ≤ times_in x (of_goals gs)
one_of_all x [] k g lt is = absurd (omega arith)
one_of_all x (h ∷ gs) zero g lt is =
    subst (λ (n : GoalNode). times_in x (variables_of_node (plain_node n)) ≤ times_in x (of_goals (h ∷ gs))) (sym is)
    (omega (arith, times_both x (variables_of_node (plain_node h)) (of_goals gs)))
one_of_all x (h ∷ gs) (suc k) g lt is =
    let e = one_of_all x gs k g (omega arith) is in
    omega (arith, e, times_both x (variables_of_node (plain_node h)) (of_goals gs))

pub one_counted : (gs : List GoalNode) (k : ℕ) (g : GoalNode) (a b : List ℕ) → k < length gs → g ≡ get_or gs k g → More (of_goals gs) a b → HasCounted b (plain_node g)
one_counted gs k g a b lt is m x h =
    let e = one_of_all x gs k g lt is in
    let f = more_enough (of_goals gs) a b m x h in
    omega (arith, e, f)

module _ (q : PlainProcs) (types : List Ty) where
  pub within_is : (a m : Pruning) (n x : Node) (told : Bool) → m.point ≡ a.point → Fewer (variables_of_node n) a.outside m.outside → IsNode q types m n x told → IsWithin q types a n x told
  within_is a m n x told same fewer is =
      record {
        made = λ Q h outcome ds follow.
            is.made Q (counted_fewer Q (variables_of_node n) a.outside m.outside fewer h) outcome ds follow
            ∙ ap (λ (p : List ℕ). pruned_node (with_determinisms (as_system outcome q) ds) (typed types) Q (insts_in p) n) same;
        never = λ outcome ds follow.
            is.never outcome ds follow
            ∙ ap (λ (p : List ℕ). never_ends (with_determinisms (as_system outcome q) ds) (typed types) (insts_in p) n) same;
      }

  pub beside_is : (a m : Pruning) (beside : List ℕ) (n x : Node) (told : Bool) → m.point ≡ a.point → More beside a.outside m.outside → IsNode q types m n x told → IsBeside q types a beside n x told
  beside_is a m beside n x told same more is =
      record {
        made = λ Q h outcome ds follow.
            is.made (Q ++ beside) (counted_more Q beside a.outside m.outside more h) outcome ds follow
            ∙ ap (λ (p : List ℕ). pruned_node (with_determinisms (as_system outcome q) ds) (typed types) (Q ++ beside) (insts_in p) n) same;
        never = λ outcome ds follow.
            is.never outcome ds follow
            ∙ ap (λ (p : List ℕ). never_ends (with_determinisms (as_system outcome q) ds) (typed types) (insts_in p) n) same;
      }

  pub then_is : (a m : Pruning) (condition n x : Node) (told : Bool) → insts_in m.point ≡ insts_after condition (insts_in a.point) → m.outside ≡ a.outside → IsBeside q types m (variables_of_node condition) n x told → IsThen q types a condition n x told
  then_is a m condition n x told after same is =
      record {
        made = λ Q h outcome ds follow.
            is.made Q (subst (Counted Q) (sym same) h) outcome ds follow
            ∙ ap (λ (i : Insts). pruned_node (with_determinisms (as_system outcome q) ds) (typed types) (Q ++ variables_of_node condition) i n) after;
        never = λ outcome ds follow.
            is.never outcome ds follow
            ∙ ap (λ (i : Insts). never_ends (with_determinisms (as_system outcome q) ds) (typed types) i n) after;
      }

-- at the start of a body the variables of the head occur outside
pub head_counted : (head none counts : List ℕ) → ((x : ℕ) → get_or none x 0 ≡ 0) → More head none counts → Counted head counts
head_counted head none counts z m x lt =
    let l : x < length none = subst (λ n. x < n) m.0 lt in
    omega (arith, m.1 x l, z x)

-- a whole body
pub whole_pruned : (q : PlainProcs) (types : List Ty) (a : Pruning) (p : Proc) (body : GoalNode) (told : Bool) → types ≡ p.var_types → insts_in a.point ≡ entered p.head p.first → Counted p.head a.outside → IsNode q types a (plain_node p.body) (plain_node body) told → InDeclared q (λ S. plain_node body ≡ pruned_body S (plain_proc p))
whole_pruned q types a p body told of here counted is outcome ds follow =
    let S = with_determinisms (as_system outcome q) ds in
    is.made p.head counted outcome ds follow
    ∙ ap (λ (ts : List Ty). pruned_node S (typed ts) p.head (insts_in a.point) (plain_node p.body)) of
    ∙ ap (λ (i : Insts). pruned_node S (typed p.var_types) p.head i (plain_node p.body)) here

-- walks that stand where they began
pub keeps_both : (a b c : Pruning) → Keeps a b → Keeps b c → Keeps a c
keeps_both a b c k l = record { point = l.point ∙ k.point; outside = l.outside ∙ k.outside }

pub count_same : (types : List Ty) (a b : List ℕ) → b ≡ a → length a ≡ length types → length b ≡ length types
count_same types a b e h = ap length e ∙ h

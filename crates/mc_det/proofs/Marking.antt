-- Marks change nothing that the table says, and are kept.
use Rattle.std.proofs.Math.Path.{fun_ext}
use Rattle.std.proofs.Common.{◌≡◌, ℕ, nat_eq, List, Bool, not, ◌||◌, Option, Some, None, refl, sym, ap, ap₂, ◌∙◌, subst, if◌then◌else◌}
use Rattle.std.specs.List.{list_all}
use Rattle.mc_program.specs.Programs.{TypeTerm}
use Rattle.mc_source.specs.Determinism.{Determinism, inferred, conj, disj, ite, negated, pruned, greater}
use Rattle.mc_source.specs.declared.det.Det.{Det}
use Rattle.mc_model.specs.Scheduled.{Node, node, Scheduled, Conj, Disj, Switch, Ite, Not, Exists, Assign, Test, Build, Take, Const, TestConst, Call, Apply, Nodes, no_nodes, node_then, Arms, no_arms, arm_then, for_symbol, for_constant, Procedure}
use Rattle.mc_model.specs.Good.{System}
use Rattle.mc_accepted.specs.Ordered.{Insts}
use Rattle.mc_accepted.specs.Determined.{Known, nothing_known, learned, insts_after, has_arm, misses, allowed_in, determined, determined_in, determined_all, determined_any, determined_arms}
use Rattle.mc_accepted.specs.Fits.{type_of}
use Rattle.mc_accepted.specs.Accepted.{entered, KeepsDeterminism, KeepsInside, AllKeep, EachKeeps, ArmsKeep}
use Rattle.mc_det.specs.Marked.{marked, marked_in, marked_all, marked_each, marked_arms, with_marks, MarksAreKept}

-- `R` is where determinisms are told, `S` where marks were made
module _ (R S : System) (type : ℕ → TypeTerm) where
  pub after_marks : (b : Insts) (known : Known) (n : Node) (c : Insts) → insts_after (marked S type b known n) c ≡ insts_after n c
  after_marks b known (node s changes d m) c = refl

  arm_stays : (b : Insts) (known : Known) (x s : ℕ) (arms : Arms) → has_arm R type s (marked_arms S type b known x arms) ≡ has_arm R type s arms
  arm_stays b known x s no_arms = refl
  arm_stays b known x s (arm_then (for_symbol f) n arms) = ap (λ (r : Bool). nat_eq f s || r) (arm_stays b known x s arms)
  arm_stays b known x s (arm_then (for_constant v) n arms) = arm_stays b known x s arms

  pub misses_stay : (b : Insts) (known : Known) (x : ℕ) (arms : Arms) (ss : Option (List ℕ)) → misses R type ss (marked_arms S type b known x arms) ≡ misses R type ss arms
  misses_stay b known x arms None = refl
  misses_stay b known x arms (Some ss) = ap (λ (f : ℕ → Bool). not (list_all f ss)) (fun_ext (λ s. arm_stays b known x s arms))

  abbrev switched : Bool → Determinism → Determinism
  switched f d = record { can_fail = f || d.can_fail; most = d.most }

  abbrev armed : Determinism → Determinism → Determinism
  armed d e = record { can_fail = d.can_fail || e.can_fail; most = greater d.most e.most }

  mutual
    pub told_same : (b : Insts) (known : Known) (n : Node) → determined R type b known (marked S type b known n) ≡ determined R type b known n
    told_same b known (node s changes d m) = ap (λ (r : Determinism). if m then pruned r else r) (same_in b known s)

    same_in : (b : Insts) (known : Known) (s : Scheduled) → determined_in R type b known (marked_in S type b known s) ≡ determined_in R type b known s
    same_in b known (Conj ns) = same_all b known ns
    same_in b known (Disj ns) = same_any b known ns
    same_in b known (Switch x arms) =
        ap₂ switched (misses_stay b known x arms (allowed_in R type (type x) (b x))) (same_arms b known x arms)
    same_in b known (Ite vs c t e) =
        ap (λ (i : Insts). ite (determined R type b known (marked S type b known c)) (determined R type i known (marked S type (insts_after c b) known t)) (determined R type b known (marked S type b known e))) (after_marks b known c b)
        ∙ ap (λ (r : Determinism). ite r (determined R type (insts_after c b) known (marked S type (insts_after c b) known t)) (determined R type b known (marked S type b known e))) (told_same b known c)
        ∙ ap₂ (ite (determined R type b known c)) (told_same (insts_after c b) known t) (told_same b known e)
    same_in b known (Not n) = ap negated (told_same b known n)
    same_in b known (Exists vs n) = told_same b known n
    same_in b known (Assign x y) = refl
    same_in b known (Test x y) = refl
    same_in b known (Build x s ys) = refl
    same_in b known (Take x s ys) = refl
    same_in b known (Const x v) = refl
    same_in b known (TestConst x v) = refl
    same_in b known (Call p xs implied last) = refl
    same_in b known (Apply op xs ys) = refl

    same_all : (b : Insts) (known : Known) (ns : Nodes) → determined_all R type b known (marked_all S type b known ns) ≡ determined_all R type b known ns
    same_all b known no_nodes = refl
    same_all b known (node_then n ns) =
        ap (λ (i : Insts). conj (determined R type b known (marked S type b known n)) (determined_all R type i known (marked_all S type (insts_after n b) known ns))) (after_marks b known n b)
        ∙ ap₂ conj (told_same b known n) (same_all (insts_after n b) known ns)

    same_any : (b : Insts) (known : Known) (ns : Nodes) → determined_any R type b known (marked_each S type b known ns) ≡ determined_any R type b known ns
    same_any b known no_nodes = refl
    same_any b known (node_then n ns) = ap₂ disj (told_same b known n) (same_any b known ns)

    same_arms : (b : Insts) (known : Known) (x : ℕ) (arms : Arms) → determined_arms R type b known x (marked_arms S type b known x arms) ≡ determined_arms R type b known x arms
    same_arms b known x no_arms = refl
    same_arms b known x (arm_then l n arms) = ap₂ armed (told_same b (learned x l known) n) (same_arms b known x arms)

module _ (S : System) (p : Procedure) (d : Det) where
  abbrev T : ℕ → TypeTerm
  T = type_of S p

  abbrev P : Procedure
  P = with_marks S d p

  mutual
    keeps : (b : Insts) (known : Known) (n : Node) → KeepsDeterminism S P b known (marked S T b known n)
    keeps b known (node s changes e m) =
        (ap inferred (sym (told_same S S T b known (node s changes e m))), keeps_in b known s)

    keeps_in : (b : Insts) (known : Known) (s : Scheduled) → KeepsInside S P b known (marked_in S T b known s)
    keeps_in b known (Conj ns) = keeps_all b known ns
    keeps_in b known (Disj ns) = keeps_each b known ns
    keeps_in b known (Switch x arms) = keeps_arms b known x arms
    keeps_in b known (Ite vs c t e) =
        (keeps b known c, subst (λ (i : Insts). KeepsDeterminism S P i known (marked S T (insts_after c b) known t)) (sym (after_marks S S T b known c b)) (keeps (insts_after c b) known t), keeps b known e)
    keeps_in b known (Not n) = keeps b known n
    keeps_in b known (Exists vs n) = keeps b known n
    keeps_in b known (Assign x y) = tt
    keeps_in b known (Test x y) = tt
    keeps_in b known (Build x s ys) = tt
    keeps_in b known (Take x s ys) = tt
    keeps_in b known (Const x v) = tt
    keeps_in b known (TestConst x v) = tt
    keeps_in b known (Call q xs implied last) = tt
    keeps_in b known (Apply op xs ys) = tt

    keeps_all : (b : Insts) (known : Known) (ns : Nodes) → AllKeep S P b known (marked_all S T b known ns)
    keeps_all b known no_nodes = tt
    keeps_all b known (node_then n ns) =
        (keeps b known n, subst (λ (i : Insts). AllKeep S P i known (marked_all S T (insts_after n b) known ns)) (sym (after_marks S S T b known n b)) (keeps_all (insts_after n b) known ns))

    keeps_each : (b : Insts) (known : Known) (ns : Nodes) → EachKeeps S P b known (marked_each S T b known ns)
    keeps_each b known no_nodes = tt
    keeps_each b known (node_then n ns) = (keeps b known n, keeps_each b known ns)

    keeps_arms : (b : Insts) (known : Known) (x : ℕ) (arms : Arms) → ArmsKeep S P b known x (marked_arms S T b known x arms)
    keeps_arms b known x no_arms = tt
    keeps_arms b known x (arm_then l n arms) = (keeps b (learned x l known) n, keeps_arms b known x arms)

pub marks_are_kept : MarksAreKept
marks_are_kept S p d = keeps S p d (entered p.head p.first) nothing_known p.body

-- What code mentions while it grows.
use Rattle.std.proofs.Common.{◌≡◌, inl, inr, ℕ, zero, suc, ◌<◌, ◌≤◌, ◌-◌, sym, ap, ◌∙◌, subst, List, [], ◌∷◌, ◌++◌, length, get_or, map, slice_get, Result, Ok, Err, OnOk, Vec, Global, arith}
use Rattle.mc_program.specs.Values.{Val, plain_value}
use Rattle.mc_program.specs.declared.value.Value.{Value}
use Rattle.mc_model.specs.Scheduled.{Label, Node, node, nodes, Scheduled, Conj, Disj, Switch, Ite, Not, Exists, Assign, Test, Build, Take, Const, TestConst, Call, Apply, Nodes, no_nodes, node_then, Arms, no_arms, arm_then}
use Rattle.mc_model.specs.PlainGoals.{plain_node, plain_arm, plain_proc, arms_of}
use Rattle.mc_model.specs.declared.sched.Arm.{Arm}
use Rattle.mc_model.specs.declared.sched.GoalNode.{GoalNode}
use Rattle.mc_model.specs.declared.sched.Proc.{Proc}
use Rattle.mc_flat_code.specs.Standing.{Opens, OpensIn, FirstOpens, FirstArmOpens}
use Rattle.mc_flat_code.specs.Mentions.{Mention, of_constant, Mentions, MentionsIn, AnyMentions, ArmsMention, BodiesMention, MentionsAt, CodeMentions}
use Rattle.mc_flat_code.specs.code.Mentioning.{Brings, LabelMentions}
use Rattle.mc_flat_code.specs.declared.code.Instr.{Instr}
use Rattle.mc_flat_code.specs.declared.code.Code.{Code}
use Rattle.mc_flat_code.proofs.Growth.{get_more}
use Rattle.mc_flat_code.proofs.Views.{arm_open}

pub brings_same : (code : Code) (X : Mention → Type 0) → Brings code code X
brings_same code X = record { only = λ m x. inl x }

-- code of which only the variables grow mentions nothing more
pub brings_variables : (old new : Code) (X : Mention → Type 0) → new ≡ record old { variables = new.variables } → Brings old new X
brings_variables old new X e =
    record { only = λ m x. inl (subst (λ k. CodeMentions k m) e x) }

pub brings_then : (a b c : Code) (X Y Z : Mention → Type 0) → Brings a b X → Brings b c Y → ((m : Mention) → X m → Z m) → ((m : Mention) → Y m → Z m) → Brings a c Z
brings_then a b c X Y Z f g x y =
    record {
      only = λ m z.
          elim (g.only m z) [
            | inl q ↦ elim (f.only m q) [ inl r ↦ inl r | inr r ↦ inr (x m r) ]
            | inr q ↦ inr (y m q)
          ];
    }

pub brings_more : (a b : Code) (X Y : Mention → Type 0) → Brings a b X → ((m : Mention) → X m → Y m) → Brings a b Y
brings_more a b X Y f x =
    record { only = λ m z. elim (f.only m z) [ inl q ↦ inl q | inr q ↦ inr (x m q) ] }

-- one more goal at the end
pub brings_goal : (old : Code) (goal : Instr) (instrs : Vec Instr Global) → instrs.items ≡ old.instrs.items ++ goal ∷ [] → Brings old (record old { instrs = instrs }) (MentionsAt goal)
brings_goal old goal instrs pushed =
    record {
      only = λ m x.
          elim x [
            | inl p ↦
                elim (get_more old.instrs.items goal p.0 p.1.0 (ap (λ l. slice_get l p.0) (sym pushed) ∙ p.1.1.0)) [
                  | inl q ↦ inl (inl (p.0, (p.1.0, (q, p.1.1.1))))
                  | inr q ↦ inr (subst (λ j. MentionsAt j m) (sym q.1) p.1.1.1)
                ]
            | inr p ↦ inl (inr p)
          ];
    }

-- one more value at the end
pub brings_value : (old : Code) (v : Val) (values : Vec Value Global) → map plain_value values.items ≡ map plain_value old.values.items ++ v ∷ [] → Brings old (record old { values = values }) (λ m. m ≡ of_constant v)
brings_value old v values pushed =
    record {
      only = λ m x.
          elim x [
            | inl p ↦ inl (inl p)
            | inr p ↦
                elim (get_more (map plain_value old.values.items) v p.0 p.1.0 (ap (λ l. slice_get l p.0) (sym pushed) ∙ p.1.1.0)) [
                  | inl q ↦ inl (inr (p.0, (p.1.0, (q, p.1.1.1))))
                  | inr q ↦ inr (p.1.1.1 ∙ ap of_constant (sym q.1))
                ]
          ];
    }

-- what holds once a call answers, by what held before it
pub on_brings : {A E : Type 0} (r : Result A E) (a b c : Code) (X Y Z : Mention → Type 0) → Brings a b X → OnOk r (Brings b c Y) → ((m : Mention) → X m → Z m) → ((m : Mention) → Y m → Z m) → OnOk r (Brings a c Z)
on_brings (Ok place) a b c X Y Z f g x y = brings_then a b c X Y Z f g x y
on_brings (Err e) a b c X Y Z f g x y = tt

pub on_more : {A E : Type 0} (r : Result A E) (a b : Code) (X Y : Mention → Type 0) → OnOk r (Brings a b X) → ((m : Mention) → X m → Y m) → OnOk r (Brings a b Y)
on_more (Ok place) a b X Y f x = brings_more a b X Y f x
on_more (Err e) a b X Y f x = tt

-- a goal mentions what the test is for that its answers come behind: its first alternative does
mutual
  pub opening_mentions : (l : Label) (v : ℕ) (n : Node) (m : Mention) → Opens l v n → LabelMentions l m → Mentions n m
  opening_mentions l v (node s changes d pruned) m o x = of_mentions l v s m o x

  of_mentions : (l : Label) (v : ℕ) (s : Scheduled) (m : Mention) → OpensIn l v s → LabelMentions l m → MentionsIn s m
  of_mentions l v (Conj ns) m o x = opening_first l v ns m o x
  of_mentions l v (Disj ns) m o x = opening_first l v ns m o.0 x
  of_mentions l v (Switch y arms) m o x = opening_arm l v arms m o.0 x
  of_mentions l v (Ite vs c d e) m o x = absurd o
  of_mentions l v (Not n) m o x = absurd o
  of_mentions l v (Exists vs n) m o x = opening_mentions l v n m o x
  of_mentions l v (Assign y z) m o x = absurd o
  of_mentions l v (Test y z) m o x = absurd o
  of_mentions l v (Build y f ys) m o x = subst (λ k. LabelMentions k m) o.1 x
  of_mentions l v (Take y f ys) m o x = subst (λ k. LabelMentions k m) o.1 x
  of_mentions l v (Const y c) m o x = subst (λ k. LabelMentions k m) o.1 x
  of_mentions l v (TestConst y c) m o x = subst (λ k. LabelMentions k m) o.1 x
  of_mentions l v (Call p xs implied last) m o x = absurd o
  of_mentions l v (Apply op xs ys) m o x = absurd o

  opening_first : (l : Label) (v : ℕ) (ns : Nodes) (m : Mention) → FirstOpens l v ns → LabelMentions l m → AnyMentions ns m
  opening_first l v no_nodes m o x = absurd o
  opening_first l v (node_then n ns) m o x = inl (opening_mentions l v n m o x)

  opening_arm : (l : Label) (v : ℕ) (arms : Arms) (m : Mention) → FirstArmOpens l v arms → LabelMentions l m → ArmsMention arms m
  opening_arm l v no_arms m o x = absurd o
  opening_arm l v (arm_then t n arms) m o x = inl (opening_mentions l v n m o x)

-- a goal of a list is one of its goals
pub goal_mentions : (goals : List GoalNode) (k : ℕ) (d : GoalNode) (m : Mention) → k < length goals → Mentions (plain_node (get_or goals k d)) m → AnyMentions (nodes (map plain_node goals)) m
goal_mentions [] k d m h x = absurd (omega (arith, h))
goal_mentions (g ∷ gs) zero d m h x = inl x
goal_mentions (g ∷ gs) (suc k) d m h x = inr (goal_mentions gs k d m (omega arith) x)

first_mention : (xs ys : List GoalNode) (m : Mention) → AnyMentions (nodes (map plain_node xs)) m → AnyMentions (nodes (map plain_node (xs ++ ys))) m
first_mention [] ys m x = absurd x
first_mention (g ∷ xs) ys m (inl x) = inl x
first_mention (g ∷ xs) ys m (inr x) = inr (first_mention xs ys m x)

pub arm_mentions : (arms : List Arm) (k : ℕ) (d : Arm) (m : Mention) → k < length arms → Mentions (plain_node (get_or arms k d).body) m → ArmsMention (arms_of (map plain_arm arms)) m
arm_mentions [] k d m h x = absurd (omega (arith, h))
arm_mentions (a ∷ arms) zero d m h x = inl (subst (λ (p : Label × Node). Mentions p.1 m) (sym (arm_open a)) x)
arm_mentions (a ∷ arms) (suc k) d m h x = inr (arm_mentions arms k d m (omega arith) x)

pub body_mentions : (procs : List Proc) (k : ℕ) (d : Proc) (m : Mention) → k < length procs → Mentions (plain_node (get_or procs k d).body) m → BodiesMention (map plain_proc procs) m
body_mentions [] k d m h x = absurd (omega (arith, h))
body_mentions (p ∷ ps) zero d m h x = inl x
body_mentions (p ∷ ps) (suc k) d m h x = inr (body_mentions ps k d m (omega arith) x)

-- the last goal of the first ones is one of all
pub last_mentions : (goals xs done : List GoalNode) (d : GoalNode) (m : Mention) → goals ≡ xs ++ done → 1 ≤ length xs → Mentions (plain_node (get_or xs (length xs - 1) d)) m → AnyMentions (nodes (map plain_node goals)) m
last_mentions goals xs done d m e h x =
    let at : length xs - 1 < length xs = omega arith in
    subst (λ gs. AnyMentions (nodes (map plain_node gs)) m) (sym e) (first_mention xs done m (goal_mentions xs (length xs - 1) d m at x))

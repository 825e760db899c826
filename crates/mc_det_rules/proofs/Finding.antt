-- What a walk finds of io, goal by goal; and which insts are dead.
use Rattle.std.proofs.Math.Path.{fun_ext}
use Rattle.std.proofs.Math.Seq.{drop-cons}
use Rattle.std.proofs.Common.{◌≡◌, ℕ, zero, suc, ◌<◌, ◌≤◌, nat_eq, Bool, true, false, not, ◌&&◌, ◌||◌, List, [], ◌∷◌, length, get_or, drop, map, refl, sym, ap, ◌∙◌, arith}
use Rattle.std.proofs.lemmas.Bool.{eqb-true}
use Rattle.std.specs.List.{list_any}
use Rattle.mc_program.specs.Programs.{TypeTerm}
use Rattle.mc_model.specs.Insts.{Graph}
use Rattle.mc_model.specs.Scheduled.{Node, nodes, Label, arm_then}
use Rattle.mc_model.specs.PlainGoals.{plain_node, plain_sched, plain_arm, arms_of}
use Rattle.mc_model.specs.Good.{System}
use Rattle.mc_model.specs.declared.sched.GoalNode.{GoalNode}
use Rattle.mc_model.specs.declared.sched.Arm.{Arm}
use Rattle.mc_model.specs.declared.sched.Proc.{Proc}
use Rattle.mc_accepted.specs.Determined.{is_dead, leaves_dead}
use Rattle.mc_accepted.specs.Fits.{FitsInsts}
use Rattle.mc_procs.specs.Fitting.{AllFit}
use Rattle.mc_procs.specs.Procedures.{PlainProcs, as_system, procedure_at}
use Rattle.mc_procs.proofs.Views.{plain_node-open, plain_arm-open}
use Rattle.mc_det.proofs.Declaring.{procedure_is}
use Rattle.mc_det_rules.specs.declared.io.IoSeen.{IoSeen}
use Rattle.mc_det_rules.specs.code.Io.{InSystems, dead_at, joined, outer, fails, none_fail, found_in, found_in_part, found_in_all, found_in_each, found_in_arms}

-- dead insts
not_true : (b : Bool) → (b ≡ true → ⊥) → b ≡ false
not_true true f = absurd (f refl)
not_true false f = refl

dead_told : (G : Graph) → FitsInsts G → (i : ℕ) → nat_eq i 3 ≡ is_dead (G i)
dead_told G f zero = sym (ap is_dead f.is_free)
dead_told G f (suc zero) = sym (ap is_dead f.is_ground)
dead_told G f (suc (suc zero)) = sym (ap is_dead f.is_unique)
dead_told G f (suc (suc (suc zero))) = sym (ap is_dead f.is_dead)
dead_told G f (suc (suc (suc (suc i)))) =
    not_true (nat_eq (suc (suc (suc (suc i)))) 3) (λ e. let h : suc (suc (suc (suc i))) ≡ 3 = eqb-true (suc (suc (suc (suc i)))) 3 e in absurd (omega arith))
    ∙ sym (ap is_dead (f.are_bound i).1)

pub leaves_told : (q : PlainProcs) → AllFit q → (last : List ℕ) → InSystems q (λ S type. dead_at last ≡ leaves_dead S type last)
leaves_told q a last outcome type =
    ap (λ (f : ℕ → Bool). list_any f last) (fun_ext (dead_told (as_system outcome q).insts a.program.insts_are.insts))

past : (ps : List Proc) (k : ℕ) → length ps ≤ k → (procedure_at ps k).last ≡ []
past [] k le = refl
past (p ∷ ps) zero le = absurd (omega arith)
past (p ∷ ps) (suc k) le = past ps k (omega arith)

pub no_call : (q : PlainProcs) (k : ℕ) → length q.added ≤ k → InSystems q (λ S type. false ≡ leaves_dead S type (S.procs k).last)
no_call q k le outcome type = ap (leaves_dead (as_system outcome q) type) (sym (past q.added k le))

pub call_told : (q : PlainProcs) (k : ℕ) (p : Proc) (last : List ℕ) (b : Bool) → AllFit q → k < length q.added → p ≡ get_or q.added k p → last ≡ p.last → b ≡ dead_at last → InSystems q (λ S type. b ≡ leaves_dead S type (S.procs k).last)
call_told q k p last b a lt is l e outcome type =
    e
    ∙ leaves_told q a last outcome type
    ∙ ap (leaves_dead (as_system outcome q) type) (l ∙ ap (λ (r : Proc). r.last) is ∙ ap (λ r. r.last) (sym (procedure_is q.added k p lt)))

-- a disjunction, from what its disjuncts tell
abbrev pub disjoined : (first : Bool) → IoSeen → (sure : Bool) → IoSeen
disjoined first f sure =
    record {
      is_there = f.is_there;
      is_misplaced = (first && (f.is_there && not sure)) || f.is_misplaced;
    }

-- goal by goal, from the end
module _ (S : System) (T : ℕ → TypeTerm) (first : Bool) where
  pub all_found : (gs : List GoalNode) (k : ℕ) (d : GoalNode) (a found r : IoSeen) (sure : Bool) → k < length gs → r ≡ joined a found → a ≡ found_in S T (first && sure) (plain_node (get_or gs k d)) → sure ≡ none_fail (nodes (map plain_node (drop (suc k) gs))) → found ≡ found_in_all S T first (nodes (map plain_node (drop (suc k) gs))) → r ≡ found_in_all S T first (nodes (map plain_node (drop k gs)))
  all_found gs k d a found r sure lt e ea es ef =
      e
      ∙ ap (λ (x : IoSeen). joined x found) ea
      ∙ ap (λ (s : Bool). joined (found_in S T (first && s) (plain_node (get_or gs k d))) found) es
      ∙ ap (joined (found_in S T (first && none_fail (nodes (map plain_node (drop (suc k) gs)))) (plain_node (get_or gs k d)))) ef
      ∙ ap (λ (l : List GoalNode). found_in_all S T first (nodes (map plain_node l))) (sym (drop-cons gs k d lt))

  pub each_found : (gs : List GoalNode) (k : ℕ) (d : GoalNode) (a found r : IoSeen) → k < length gs → r ≡ joined a found → a ≡ found_in S T first (plain_node (get_or gs k d)) → found ≡ found_in_each S T first (nodes (map plain_node (drop (suc k) gs))) → r ≡ found_in_each S T first (nodes (map plain_node (drop k gs)))
  each_found gs k d a found r lt e ea ef =
      e
      ∙ ap (λ (x : IoSeen). joined x found) ea
      ∙ ap (joined (found_in S T first (plain_node (get_or gs k d)))) ef
      ∙ ap (λ (l : List GoalNode). found_in_each S T first (nodes (map plain_node l))) (sym (drop-cons gs k d lt))

  pub arms_found : (arms : List Arm) (k : ℕ) (d : Arm) (a found r : IoSeen) → k < length arms → r ≡ joined a found → a ≡ found_in S T first (plain_node (get_or arms k d).body) → found ≡ found_in_arms S T first (arms_of (map plain_arm (drop (suc k) arms))) → r ≡ found_in_arms S T first (arms_of (map plain_arm (drop k arms)))
  arms_found arms k d a found r lt e ea ef =
      e
      ∙ ap (λ (x : IoSeen). joined x found) ea
      ∙ ap (joined (found_in S T first (plain_node (get_or arms k d).body))) ef
      ∙ ap (λ (p : Label × Node). found_in_arms S T first (arm_then p.0 p.1 (arms_of (map plain_arm (drop (suc k) arms))))) (sym (plain_arm-open (get_or arms k d)))
      ∙ ap (λ (l : List Arm). found_in_arms S T first (arms_of (map plain_arm l))) (sym (drop-cons arms k d lt))

  -- a goal, from what its form tells
  pub goal_found : (g : GoalNode) (inside r : IoSeen) → r ≡ outer inside first g.pruned g.det → inside ≡ found_in_part S T (first || g.pruned) (plain_sched g.goal) → r ≡ found_in S T first (plain_node g)
  goal_found g inside r e ei =
      e
      ∙ ap (λ (i : IoSeen). outer i first g.pruned g.det) ei
      ∙ ap (found_in S T first) (sym (plain_node-open g))

-- a mark after another
pub sure_found : (gs : List GoalNode) (k : ℕ) (d : GoalNode) (sure r : Bool) → k < length gs → r ≡ (not (get_or gs k d).det.can_fail && sure) → sure ≡ none_fail (nodes (map plain_node (drop (suc k) gs))) → r ≡ none_fail (nodes (map plain_node (drop k gs)))
sure_found gs k d sure r lt e es =
    e
    ∙ ap (λ (s : Bool). not (get_or gs k d).det.can_fail && s) es
    ∙ ap (λ (f : Bool). not f && none_fail (nodes (map plain_node (drop (suc k) gs)))) (sym (ap fails (plain_node-open (get_or gs k d))))
    ∙ ap (λ (l : List GoalNode). none_fail (nodes (map plain_node l))) (sym (drop-cons gs k d lt))

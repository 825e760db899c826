use Rattle.std.proofs.Common.{◌≡◌, ℕ, List, [], ◌∷◌, ◌++◌, ◌+◌, length, map, take, true, false, refl, sym, ap, ap₂, ◌∙◌, subst, arith, rules}
use Rattle.std.proofs.lemmas.List.{map-append, take_more}
use Rattle.std.proofs.lemmas.Result.{IfOk-weaker}
use denote.Param.Weighed.{at_most}
use Rattle.mc_model.specs.Scheduled.{Node, node, nodes, Scheduled, Conj, Disj, Switch, Ite, Not, Exists}
use Rattle.mc_model.specs.PlainGoals.{plain_node, plain_sched, plain_arm, arms_of}
use Rattle.mc_model.specs.declared.sched.Arm.{Arm}
use Rattle.mc_model.specs.declared.sched.GoalNode.{GoalNode, size-GoalNode}
use Rattle.mc_model.specs.declared.sched.Sched.{the_lemmas}
use Rattle.mc_accepted.specs.Ordered.{Insts, change_at}
use Rattle.mc_accepted.specs.Determined.{insts_after}
use Rattle.mc_procs.proofs.Views.{plain_sched-Conj, plain_sched-Disj, plain_sched-Switch, plain_sched-Ite, plain_sched-Not, plain_sched-Some}
use Rattle.mc_det.proofs.MarkedParts.{if_ok_both}
use Rattle.mc_det.specs.code.Points.{undone}
use Rattle.mc_det.specs.code.Walks.{bounds_in}
use Rattle.mc_det.proofs.Naming.{item_named, arm_item_named, disj_named, condition_named, then_named, else_named}
use Rattle.mc_det.proofs.Walking.{named_changes, insts_after_node}
use Rattle.mc_switch.specs.declared.forming.SwitchDetection.{SwitchDetection}
use Rattle.mc_switch.specs.declared.formed.Formed.{Formed}
use Rattle.mc_switch.specs.Kept.{AreMerged, Merges, Extends}
use Rattle.mc_switch.specs.Types.{inst_in}
use Rattle.mc_switch.specs.code.Forms.{Returns, IsGoal, IsNode, EachIs}
use Rattle.mc_switch.specs.declared.parts.FormedGoal.{FormedGoal}
use Rattle.mc_switch.proofs.Growing.{grown_twice, merges_twice}
use Rattle.mc_switch.proofs.Walking.{stands_again, returns_twice, named_grown, each_named_grown, changes_named_grown, change_there}
use Rattle.mc_switch.proofs.FormedParts.{with_kept, node_later, conj_is, plain_disj_is, switch_stays, ite_is, not_is, some_is, when_ok, each_later, each_one_more, run_more, run_done, arms_more, arms_done}
use Rattle.mc_switch.proofs.forming.SwitchDetection.+form.Goals as goal

-- a goal with what is kept of it
pub formed-returns-clause-formed : goal.formed-returns-clause-formed
formed-returns-clause-formed t c =
    let q = c.args.procs.now in
    let r = c.formed_goal.new.procs in
    let types = c.args.types.now in
    let v : SwitchDetection = c.args.self.now in
    let g : GoalNode = c.args.goal.now in
    let B = bounds_in q (length types) in
    let did = c.in_ok-part.ensures in
    let more = did.grew.grown.more in
    with_kept r c.formed_goal.new.self.merger.found types (inst_in v.point) c.args.forms g c.in_ok-part.part c.with_changes.result
    (c.with_changes.ensures.node ∙ ap (λ (cs : List (ℕ × ℕ)). node (plain_sched c.in_ok-part.part.goal) cs g.det g.pruned) c.in_ok-changes.ensures)
    (c.with_changes.ensures.changes ∙ c.in_ok-changes.ensures)
    c.with_changes.ensures.never
    (λ x. let lt = change_there B g.changes x (inst_in v.point x) (named_changes B g c.requires.named) (c.requires.stands.ready.there x) in omega (arith, lt, more))
    did.formed

-- goals one after another
pub formed_conj-formed-requires : goal.formed_conj-formed-requires
formed_conj-formed-requires t c =
    let q = c.args.procs.now in
    let n = length c.args.types.now in
    let now = c.loop-goal in
    let g : GoalNode = c.goal-item.result in
    let one = at_most size-GoalNode c.args.goals.now now.goal-index g c.loop-goal-test.true in (
      omega (arith, c.decreases, one, ap size-GoalNode c.goal-item.is),
      (
        now.invariant.stands,
        named_grown q now.procs n now.invariant.grew (plain_node g) (item_named (bounds_in q n) c.args.goals.now now.goal-index g c.goal-item.is c.loop-goal-test.true c.requires.named),
      ),
    )

pub formed_conj-enter-requires-clause-named : goal.formed_conj-enter-requires-clause-named
formed_conj-enter-requires-clause-named t c =
    let q = c.args.procs.now in
    let n = length c.args.types.now in
    let now = c.loop-goal in
    let g : GoalNode = c.goal-item.result in
    changes_named_grown q c.formed.new.procs n (grown_twice q now.procs c.formed.new.procs now.invariant.grew c.in_ok-part.ensures.grew) g.changes
    (named_changes (bounds_in q n) g (item_named (bounds_in q n) c.args.goals.now now.goal-index g c.goal-item.is c.loop-goal-test.true c.requires.named))

pub formed_conj-loop-goal-preserved : goal.formed_conj-loop-goal-preserved
formed_conj-loop-goal-preserved t c =
    let q = c.args.procs.now in
    let types = c.args.types.now in
    let gs : List GoalNode = c.args.goals.now in
    let g : GoalNode = c.goal-item.result in
    let a : SwitchDetection = c.args.self.now in
    let now = c.loop-goal in
    let l : SwitchDetection = now.self in
    let s : SwitchDetection = c.formed.new.self in
    let m : SwitchDetection = c.enter.new.self in
    let r = c.formed.new.procs in
    let did = c.in_ok-part.ensures in
    let entered = c.in_ok-enter.ensures in
    let found : s.merger.found ≡ m.merger.found = sym (ap (λ e. e.found) entered.enters.found) in
    record {
      stands = record { ready = entered.enters.ready; merged = subst (AreMerged r types) found did.returns.merges.merged };
      merges = subst (Merges r types a.merger.found) found (merges_twice r types a.merger.found l.merger.found s.merger.found now.invariant.merges.stays did.returns.merges);
      undone = entered.found ∙ ap (undone now.found.items) did.returns.point ∙ now.invariant.undone;
      grew = grown_twice q now.procs r now.invariant.grew did.grew;
      so_far =
          run_more types (inst_in a.point) c.args.forms gs now.procs r l.merger.found m.merger.found (inst_in l.point) (inst_in m.point) now.goal-index g c.in_ok-part.part now.nodes.items c.push.new.self.items now.never_end c.either-never_end.result did.grew
          (subst (Extends l.merger.found) found did.returns.merges.stays)
          c.loop-goal-test.true c.goal-item.is
          (subst (λ N. IsNode r N types (inst_in l.point) c.args.forms (plain_node g) c.in_ok-part.part) found did.formed)
          (entered.insts ∙ ap (λ (p : List ℕ). λ x. change_at x g.changes (inst_in p x)) did.returns.point ∙ sym (insts_after_node g (inst_in l.point)))
          c.in_ok-push.ensures.items c.either-never_end.ensures now.invariant.so_far;
    }

pub formed_conj-returns-clause-formed : goal.formed_conj-returns-clause-formed
formed_conj-returns-clause-formed t c =
    let now = c.loop-goal in
    run_done c.args.types.now (inst_in c.args.self.now.point) c.args.forms c.args.goals.now now.procs now.self.merger.found (inst_in now.self.point) now.goal-index now.nodes.items now.never_end (record { nodes = c.in_ok-of.field-0; never_end = now.never_end })
    (omega (arith, now.auto.goal-index-end, c.loop-goal-test.false)) c.in_ok-of.ensures.elements refl now.invariant.so_far

-- disjuncts
pub formed_disj-formed-requires : goal.formed_disj-formed-requires
formed_disj-formed-requires t c =
    let q = c.args.procs.now in
    let n = length c.args.types.now in
    let now = c.loop-goal in
    let g : GoalNode = c.goal-item.result in
    let one = at_most size-GoalNode c.args.goals.now now.goal-index g c.loop-goal-test.true in (
      omega (arith, c.decreases, one, ap size-GoalNode c.goal-item.is),
      (
        stands_again q now.procs c.args.types.now c.args.self.now now.self now.invariant.grew c.requires.stands now.invariant.returns,
        named_grown q now.procs n now.invariant.grew (plain_node g) (item_named (bounds_in q n) c.args.goals.now now.goal-index g c.goal-item.is c.loop-goal-test.true c.requires.named),
      ),
    )

pub formed_disj-loop-goal-preserved : goal.formed_disj-loop-goal-preserved
formed_disj-loop-goal-preserved t c =
    let q = c.args.procs.now in
    let types = c.args.types.now in
    let gs : List GoalNode = c.args.goals.now in
    let g : GoalNode = c.goal-item.result in
    let a : SwitchDetection = c.args.self.now in
    let now = c.loop-goal in
    let l : SwitchDetection = now.self in
    let s : SwitchDetection = c.formed.new.self in
    let r = c.formed.new.procs in
    let did = c.in_ok-part.ensures in
    let k = now.goal-index in
    let forms = c.args.forms in
    let part : Formed = c.in_ok-part.part in
    let here = subst (λ (p : List ℕ). IsNode r s.merger.found types (inst_in p) forms (plain_node g) part) now.invariant.returns.point did.formed in
    let ns : List Node = map plain_node (take k gs) in
    let one : ns ++ plain_node g ∷ [] ≡ map plain_node (take (k + 1) gs) =
    sym (map-append plain_node (take k gs) (g ∷ []))
    ∙ ap (map plain_node) (ap (λ (u : GoalNode). take k gs ++ u ∷ []) c.goal-item.is ∙ sym (take_more gs k g c.loop-goal-test.true)) in
    record {
      returns = returns_twice now.procs r types a l s now.invariant.returns did.returns;
      grew = grown_twice q now.procs r now.invariant.grew did.grew;
      so_far =
          subst (λ (ms : List Node). EachIs r s.merger.found types (inst_in a.point) forms ms c.push.new.self.items) one
          (subst (λ (fs : List Formed). EachIs r s.merger.found types (inst_in a.point) forms (ns ++ plain_node g ∷ []) fs) (sym c.in_ok-push.ensures.items)
          (each_one_more r s.merger.found types (inst_in a.point) forms ns (plain_node g) now.parts.items part
          (each_later now.procs r l.merger.found s.merger.found types (inst_in a.point) forms did.grew did.returns.merges.stays ns now.parts.items now.invariant.so_far) here));
    }

-- arms
pub copied_arms-formed-requires : goal.copied_arms-formed-requires
copied_arms-formed-requires t c =
    let q = c.args.procs.now in
    let n = length c.args.types.now in
    let now = c.loop-arm in
    let a : Arm = c.arm-item.result in (
      search (rules, the_lemmas),
      (
        stands_again q now.procs c.args.types.now c.args.self.now now.self now.invariant.grew c.requires.stands now.invariant.returns,
        named_grown q now.procs n now.invariant.grew (plain_node a.body) (arm_item_named (bounds_in q n) c.args.arms.now now.arm-index a c.arm-item.is c.loop-arm-test.true c.requires.named),
      ),
    )

pub copied_arms-loop-arm-preserved : goal.copied_arms-loop-arm-preserved
copied_arms-loop-arm-preserved t c =
    let q = c.args.procs.now in
    let types = c.args.types.now in
    let arms : List Arm = c.args.arms.now in
    let r0 : Arm = c.arm-item.result in
    let a : SwitchDetection = c.args.self.now in
    let now = c.loop-arm in
    let l : SwitchDetection = now.self in
    let s : SwitchDetection = c.formed.new.self in
    let r = c.formed.new.procs in
    let did = c.in_ok-part.ensures in
    let copy : Arm = record { on = c.in_ok-copy_on.field-0; body = c.in_ok-part.part.node } in
    record {
      returns = returns_twice now.procs r types a l s now.invariant.returns did.returns;
      grew = grown_twice q now.procs r now.invariant.grew did.grew;
      so_far =
          arms_more types (inst_in a.point) arms now.procs r l.merger.found s.merger.found now.arm-index r0 copy c.in_ok-part.part now.copies.items c.push.new.self.items now.never_end c.both-never_end.result did.grew did.returns.merges.stays
          c.loop-arm-test.true c.arm-item.is
          (subst (λ (p : List ℕ). IsNode r s.merger.found types (inst_in p) false (plain_node r0.body) c.in_ok-part.part) now.invariant.returns.point did.formed)
          c.in_ok-copy_on.ensures refl c.in_ok-push.ensures.items c.both-never_end.ensures now.invariant.so_far;
    }

pub copied_arms-returns-clause-formed : goal.copied_arms-returns-clause-formed
copied_arms-returns-clause-formed t c =
    let now = c.loop-arm in
    arms_done c.args.types.now (inst_in c.args.self.now.point) c.args.arms.now now.procs now.self.merger.found now.arm-index now.copies.items now.never_end (record { arms = c.in_ok-of.field-0; never_end = now.never_end })
    (omega (arith, now.auto.arm-index-end, c.loop-arm-test.false)) c.in_ok-of.ensures.elements refl now.invariant.so_far

-- a then part
pub formed_then-returns-clause-formed : goal.formed_then-returns-clause-formed
formed_then-returns-clause-formed t c =
    let b = inst_in c.args.self.now.point in
    subst (λ (i : Insts). IsNode c.formed.new.procs c.formed.new.self.merger.found c.args.types.now i c.args.forms (plain_node c.args.then_part.now) c.in_ok-part.part)
    (c.in_ok-enter.ensures.insts ∙ sym (insts_after_node c.args.condition.now b))
    c.in_ok-part.ensures.formed

-- the forms of goals
pub formed_goal-disjunction-requires-clause-changes : goal.formed_goal-disjunction-requires-clause-changes
formed_goal-disjunction-requires-clause-changes t c =
    changes_named_grown c.args.procs.now c.formed_disj.new.procs (length c.args.types.now) c.in_ok-parts-in-Disj.ensures.grew c.args.changes.now c.requires.changes

pub formed_goal-disjunction-requires-clause-named : goal.formed_goal-disjunction-requires-clause-named
formed_goal-disjunction-requires-clause-named t c =
    let n = length c.args.types.now in
    each_named_grown c.args.procs.now c.formed_disj.new.procs n c.in_ok-parts-in-Disj.ensures.grew (nodes (map plain_node c.as_slice-then-forms.result.now))
    (disj_named (bounds_in c.args.procs.now n) c.args.goal.now c.in-Disj.goals c.as_slice-then-forms.result.now c.as_slice-then-forms.ensures.items c.in-Disj.is c.requires.named)

pub formed_goal-formed_then-requires : goal.formed_goal-formed_then-requires
formed_goal-formed_then-requires t c =
    let q = c.args.procs.now in
    let r = c.formed.new.procs in
    let n = length c.args.types.now in
    let B = bounds_in q n in
    let ite = c.in-Ite in
    let did = c.in_ok-first-in-Ite.ensures in (
      search (rules, the_lemmas),
      (
        stands_again q r c.args.types.now c.args.self.now c.formed.new.self did.grew c.requires.stands did.returns,
        (
          named_grown q r n did.grew (plain_node c.deref-in-Ite.result.now) (then_named B c.args.goal.now ite.vars ite.condition ite.then_part ite.else_part c.deref-in-Ite.result.now c.deref-in-Ite.ensures ite.is c.requires.named),
          named_grown q r n did.grew (plain_node c.deref-in-Ite-2.result.now) (condition_named B c.args.goal.now ite.vars ite.condition ite.then_part ite.else_part c.deref-in-Ite-2.result.now c.deref-in-Ite-2.ensures ite.is c.requires.named),
        ),
      ),
    )

pub formed_goal-formed-requires-in-Ite : goal.formed_goal-formed-requires-in-Ite
formed_goal-formed-requires-in-Ite t c =
    let q = c.args.procs.now in
    let r = c.formed.new.procs in
    let s = c.formed_then.new.procs in
    let types = c.args.types.now in
    let n = length types in
    let ite = c.in-Ite in
    let first = c.in_ok-first-in-Ite.ensures in
    let second = c.in_ok-second-in-Ite.ensures in
    let grew = grown_twice q r s first.grew second.grew in (
      search (rules, the_lemmas),
      (
        stands_again q s types c.args.self.now c.formed_then.new.self grew c.requires.stands
            (returns_twice r s types c.args.self.now c.formed.new.self c.formed_then.new.self first.returns second.returns),
        named_grown q s n grew (plain_node c.deref-in-Ite-3.result.now) (else_named (bounds_in q n) c.args.goal.now ite.vars ite.condition ite.then_part ite.else_part c.deref-in-Ite-3.result.now c.deref-in-Ite-3.ensures ite.is c.requires.named),
      ),
    )

pub formed_goal-returns-in_ok-parts-in-Conj-clause-formed : goal.formed_goal-returns-in_ok-parts-in-Conj-clause-formed
formed_goal-returns-in_ok-parts-in-Conj-clause-formed t c =
    let b = inst_in c.args.self.now.point in
    let gs : List GoalNode = c.as_slice.result.now in
    conj_is c.formed_conj.new.procs c.formed_conj.new.self.merger.found c.args.types.now b c.args.forms (λ x. change_at x c.args.changes.now (b x)) gs (plain_sched c.args.goal.now) c.in_ok-parts-in-Conj.parts c.conj_part.result
    (ap plain_sched c.in-Conj.is ∙ plain_sched-Conj c.in-Conj.goals ∙ ap (λ (l : List GoalNode). Conj (nodes (map plain_node l))) (sym c.as_slice.ensures.items))
    c.in_ok-parts-in-Conj.ensures.formed c.conj_part.ensures.goal c.conj_part.ensures.never

pub formed_goal-returns-then-forms-clause-formed : goal.formed_goal-returns-then-forms-clause-formed
formed_goal-returns-then-forms-clause-formed t c =
    let r = c.disjunction.new.procs in
    let M = c.disjunction.new.self.merger.found in
    let types = c.args.types.now in
    let changes : List (ℕ × ℕ) = c.args.changes.now in
    let gs : List GoalNode = c.as_slice-then-forms.result.now in
    let v : SwitchDetection = c.args.self.now in
    let w : SwitchDetection = c.formed_disj.new.self in
    let b = inst_in v.point in
    let after : Insts = λ x. change_at x changes (b x) in
    let is : plain_sched c.args.goal.now ≡ Disj (nodes (map plain_node gs)) =
    ap plain_sched c.in-Disj.is ∙ plain_sched-Disj c.in-Disj.goals ∙ ap (λ (l : List GoalNode). Disj (nodes (map plain_node l))) (sym c.as_slice-then-forms.ensures.items) in
    let back = c.in_ok-parts-in-Disj.ensures.returns.point in
    IfOk-weaker c.disjunction.result (λ (part : FormedGoal). IsGoal r M types (inst_in w.point) true (λ x. change_at x changes (inst_in w.point x)) (Disj (nodes (map plain_node gs))) part)
    (λ (part : FormedGoal). IsGoal r M types b c.args.forms after (plain_sched c.args.goal.now) part)
    (λ part h.
    subst (λ forms. IsGoal r M types b forms after (plain_sched c.args.goal.now) part) (sym c.if-forms.true)
    (subst (λ (s : Scheduled). IsGoal r M types b true after s part) (sym is)
    (subst (λ (p : List ℕ). IsGoal r M types (inst_in p) true (λ x. change_at x changes (inst_in p x)) (Disj (nodes (map plain_node gs))) part) back h)))
    c.disjunction.ensures.formed

pub formed_goal-returns-else-forms-clause-formed : goal.formed_goal-returns-else-forms-clause-formed
formed_goal-returns-else-forms-clause-formed t c =
    let r = c.formed_disj.new.procs in
    let M = c.formed_disj.new.self.merger.found in
    let types = c.args.types.now in
    let changes : List (ℕ × ℕ) = c.args.changes.now in
    let gs : List GoalNode = c.as_slice-in-Disj.result.now in
    let b = inst_in c.args.self.now.point in
    let after : Insts = λ x. change_at x changes (b x) in
    let fs : List Formed = c.in_ok-parts-in-Disj.parts.items in
    let is : plain_sched c.args.goal.now ≡ Disj (nodes (map plain_node gs)) =
    ap plain_sched c.in-Disj.is ∙ plain_sched-Disj c.in-Disj.goals ∙ ap (λ (l : List GoalNode). Disj (nodes (map plain_node l))) (sym c.as_slice-in-Disj.ensures.items) in
    let each = subst (λ forms. EachIs r M types b forms (map plain_node gs) fs) c.if-forms.false c.in_ok-parts-in-Disj.ensures.formed in
    if_ok_both c.plain_disjunction.result _ _ (λ (part : FormedGoal). IsGoal r M types b c.args.forms after (plain_sched c.args.goal.now) part)
    (λ part made never.
    subst (λ forms. IsGoal r M types b forms after (plain_sched c.args.goal.now) part) (sym c.if-forms.false)
    (plain_disj_is r M types b after gs fs (plain_sched c.args.goal.now) part is each made never))
    c.plain_disjunction.ensures.goal c.plain_disjunction.ensures.never

pub formed_goal-returns-in_ok-parts-in-Switch-clause-formed : goal.formed_goal-returns-in_ok-parts-in-Switch-clause-formed
formed_goal-returns-in_ok-parts-in-Switch-clause-formed t c =
    let b = inst_in c.args.self.now.point in
    let arms : List Arm = c.as_slice-in-Switch.result.now in
    switch_stays c.copied_arms.new.procs c.copied_arms.new.self.merger.found c.args.types.now b c.args.forms (λ x. change_at x c.args.changes.now (b x)) c.in-Switch.x (arms_of (map plain_arm arms)) (plain_sched c.args.goal.now) c.in_ok-parts-in-Switch.parts c.switch_part.result
    (ap plain_sched c.in-Switch.is ∙ plain_sched-Switch c.in-Switch.x c.in-Switch.arms ∙ ap (λ (l : List Arm). Switch c.in-Switch.x (arms_of (map plain_arm l))) (sym c.as_slice-in-Switch.ensures.items))
    c.in_ok-parts-in-Switch.ensures.formed c.switch_part.ensures.goal c.switch_part.ensures.never

pub formed_goal-returns-in_ok-third-in-Ite-clause-returns : goal.formed_goal-returns-in_ok-third-in-Ite-clause-returns
formed_goal-returns-in_ok-third-in-Ite-clause-returns t c =
    let types = c.args.types.now in
    let v : SwitchDetection = c.args.self.now in
    let first = c.in_ok-first-in-Ite.ensures in
    let second = c.in_ok-second-in-Ite.ensures in
    let third = c.in_ok-third-in-Ite.ensures in
    when_ok c.ite_part.result (Returns c.formed-in-Ite.new.procs types v c.formed-in-Ite.new.self)
    (returns_twice c.formed_then.new.procs c.formed-in-Ite.new.procs types v c.formed_then.new.self c.formed-in-Ite.new.self
    (returns_twice c.formed.new.procs c.formed_then.new.procs types v c.formed.new.self c.formed_then.new.self first.returns second.returns) third.returns)

pub formed_goal-returns-in_ok-third-in-Ite-clause-formed : goal.formed_goal-returns-in_ok-third-in-Ite-clause-formed
formed_goal-returns-in_ok-third-in-Ite-clause-formed t c =
    let types = c.args.types.now in
    let forms = c.args.forms in
    let v : SwitchDetection = c.args.self.now in
    let w1 : SwitchDetection = c.formed.new.self in
    let w2 : SwitchDetection = c.formed_then.new.self in
    let w3 : SwitchDetection = c.formed-in-Ite.new.self in
    let q1 = c.formed.new.procs in
    let q2 = c.formed_then.new.procs in
    let q3 = c.formed-in-Ite.new.procs in
    let b = inst_in v.point in
    let ite = c.in-Ite in
    let first = c.in_ok-first-in-Ite.ensures in
    let second = c.in_ok-second-in-Ite.ensures in
    let third = c.in_ok-third-in-Ite.ensures in
    let n = plain_node c.deref.result.now in
    let th = plain_node c.deref-in-Ite.result.now in
    let el = plain_node c.deref-in-Ite-3.result.now in
    let f = c.in_ok-first-in-Ite.first in
    let g = c.in_ok-second-in-Ite.second in
    let h = c.in_ok-third-in-Ite.third in
    let stays1 : Extends w1.merger.found w3.merger.found = λ x k is e. third.returns.merges.stays x k is (second.returns.merges.stays x k is e) in
    let grew1 = grown_twice q1 q2 q3 second.grew third.grew in
    let same : plain_node c.deref-in-Ite-2.result.now ≡ n = ap plain_node (c.deref-in-Ite-2.ensures ∙ sym c.deref.ensures) in
    let is1 = node_later q1 q3 w1.merger.found w3.merger.found types b forms grew1 stays1 n f first.formed in
    let was2 : IsNode q2 w2.merger.found types (insts_after n b) forms th g =
    subst (λ (i : Insts). IsNode q2 w2.merger.found types i forms th g) (ap₂ (λ (m : Node) (p : List ℕ). insts_after m (inst_in p)) same first.returns.point) second.formed in
    let is2 = node_later q2 q3 w2.merger.found w3.merger.found types (insts_after n b) forms third.grew third.returns.merges.stays th g was2 in
    let is3 : IsNode q3 w3.merger.found types b forms el h =
    subst (λ (p : List ℕ). IsNode q3 w3.merger.found types (inst_in p) forms el h) (second.returns.point ∙ first.returns.point) third.formed in
    let whole : plain_sched c.args.goal.now ≡ Ite ite.vars n th el =
    ap plain_sched ite.is ∙ plain_sched-Ite ite.vars ite.condition ite.then_part ite.else_part
    ∙ ap (λ (m : Node). Ite ite.vars m (plain_node ite.then_part.value) (plain_node ite.else_part.value)) (ap plain_node (sym c.deref.ensures))
    ∙ ap₂ (λ (l m : Node). Ite ite.vars n l m) (ap plain_node (sym c.deref-in-Ite.ensures)) (ap plain_node (sym c.deref-in-Ite-3.ensures)) in
    if_ok_both c.ite_part.result _ _ (λ (part : FormedGoal). IsGoal q3 w3.merger.found types b forms (λ x. change_at x c.args.changes.now (b x)) (plain_sched c.args.goal.now) part)
    (λ part made never. ite_is q3 w3.merger.found types b forms (λ x. change_at x c.args.changes.now (b x)) ite.vars n th el (plain_sched c.args.goal.now) f g h part whole is1 is2 is3 made never)
    c.ite_part.ensures.goal c.ite_part.ensures.never

pub formed_goal-returns-in_ok-part-in-Not-clause-formed : goal.formed_goal-returns-in_ok-part-in-Not-clause-formed
formed_goal-returns-in_ok-part-in-Not-clause-formed t c =
    let r = c.formed-in-Not.new.procs in
    let M = c.formed-in-Not.new.self.merger.found in
    let types = c.args.types.now in
    let b = inst_in c.args.self.now.point in
    let after : Insts = λ x. change_at x c.args.changes.now (b x) in
    let n = plain_node c.deref-in-Not.result.now in
    let is : plain_sched c.args.goal.now ≡ Not n = ap plain_sched c.in-Not.is ∙ plain_sched-Not c.in-Not.inner ∙ ap (λ (g : GoalNode). Not (plain_node g)) (sym c.deref-in-Not.ensures) in
    if_ok_both c.not_part.result _ _ (λ (part : FormedGoal). IsGoal r M types b c.args.forms after (plain_sched c.args.goal.now) part)
    (λ part made never. not_is r M types b c.args.forms after n (plain_sched c.args.goal.now) c.in_ok-part-in-Not.part part is c.in_ok-part-in-Not.ensures.formed made never)
    c.not_part.ensures.goal c.not_part.ensures.never

pub formed_goal-returns-in_ok-part-in-Some-clause-formed : goal.formed_goal-returns-in_ok-part-in-Some-clause-formed
formed_goal-returns-in_ok-part-in-Some-clause-formed t c =
    let r = c.formed-in-Some.new.procs in
    let M = c.formed-in-Some.new.self.merger.found in
    let types = c.args.types.now in
    let b = inst_in c.args.self.now.point in
    let after : Insts = λ x. change_at x c.args.changes.now (b x) in
    let n = plain_node c.deref-in-Some.result.now in
    let vs = c.in-Some.vars in
    let is : plain_sched c.args.goal.now ≡ Exists vs n = ap plain_sched c.in-Some.is ∙ plain_sched-Some vs c.in-Some.inner ∙ ap (λ (g : GoalNode). Exists vs (plain_node g)) (sym c.deref-in-Some.ensures) in
    if_ok_both c.some_part.result _ _ (λ (part : FormedGoal). IsGoal r M types b c.args.forms after (plain_sched c.args.goal.now) part)
    (λ part made never. some_is r M types b c.args.forms after vs n (plain_sched c.args.goal.now) c.in_ok-part-in-Some.part part is c.in_ok-part-in-Some.ensures.formed made never)
    c.some_part.ensures.goal c.some_part.ensures.never

pub copied_arms-returns-in_err-part-clause-grew : goal.copied_arms-returns-in_err-part-clause-grew
copied_arms-returns-in_err-part-clause-grew t c = search (grown_twice)

pub copied_arms-returns-in_err-copy_on-clause-grew : goal.copied_arms-returns-in_err-copy_on-clause-grew
copied_arms-returns-in_err-copy_on-clause-grew t c = search (grown_twice)

pub copied_arms-returns-in_err-push-clause-grew : goal.copied_arms-returns-in_err-push-clause-grew
copied_arms-returns-in_err-push-clause-grew t c = search (grown_twice)

pub formed_conj-returns-in_err-part-clause-grew : goal.formed_conj-returns-in_err-part-clause-grew
formed_conj-returns-in_err-part-clause-grew t c = search (grown_twice)

pub formed_conj-returns-in_err-enter-clause-grew : goal.formed_conj-returns-in_err-enter-clause-grew
formed_conj-returns-in_err-enter-clause-grew t c = search (grown_twice)

pub formed_conj-returns-in_err-push-clause-grew : goal.formed_conj-returns-in_err-push-clause-grew
formed_conj-returns-in_err-push-clause-grew t c = search (grown_twice)

pub formed_disj-returns-in_err-part-clause-grew : goal.formed_disj-returns-in_err-part-clause-grew
formed_disj-returns-in_err-part-clause-grew t c = search (grown_twice)

pub formed_disj-returns-in_err-push-clause-grew : goal.formed_disj-returns-in_err-push-clause-grew
formed_disj-returns-in_err-push-clause-grew t c = search (grown_twice)

pub formed_goal-returns-in_err-second-in-Ite-clause-grew : goal.formed_goal-returns-in_err-second-in-Ite-clause-grew
formed_goal-returns-in_err-second-in-Ite-clause-grew t c = search (grown_twice)

pub formed_goal-returns-in_err-third-in-Ite-clause-grew : goal.formed_goal-returns-in_err-third-in-Ite-clause-grew
formed_goal-returns-in_err-third-in-Ite-clause-grew t c = search (grown_twice)

pub formed_goal-returns-then-forms-clause-grew : goal.formed_goal-returns-then-forms-clause-grew
formed_goal-returns-then-forms-clause-grew t c = search (grown_twice)

pub formed_goal-returns-in_ok-third-in-Ite-clause-grew : goal.formed_goal-returns-in_ok-third-in-Ite-clause-grew
formed_goal-returns-in_ok-third-in-Ite-clause-grew t c = search (grown_twice)

use Rattle.std.proofs.Common.{◌≡◌, ℕ, List, [], ◌∷◌, Bool, length, map, false, Option, Some, true, All, sym, ap, ap₂, ◌∙◌, subst, append_assoc, arith}
use Rattle.std.proofs.lemmas.List.{append-nil, length-set, nil_from_length}
use Rattle.std.proofs.lemmas.List.Elements.{All-head, All-tail}
use Rattle.std.specs.Vec.Iter.{into_iter_items}
use Rattle.std.proofs.lemmas.Result.{IfOk-weaker}
use Rattle.mc_source.specs.Determinism.{inferred, det}
use Rattle.mc_model.specs.PlainGoals.{plain_node, plain_sched, plain_arm}
use Rattle.mc_model.specs.Scheduled.{Label, Node, Scheduled, node, Disj}
use Rattle.mc_model.specs.declared.sched.Arm.{Arm}
use Rattle.mc_model.specs.declared.sched.Sched.{Sched}
use Rattle.mc_accepted.specs.Switched.{goals_of, grouped}
use Rattle.mc_procs.specs.VariableTypes.{type_in}
use Rattle.mc_procs.proofs.Views.{plain_arm-open, plain_sched-Switch}
use Rattle.mc_switch.specs.Types.{inst_in}
use Rattle.mc_switch.specs.declared.disjunct.Opened.{Opened}
use Rattle.mc_switch.specs.code.Choices.{MayBe}
use Rattle.mc_switch.specs.code.Ends.{KeepsEnd}
use Rattle.mc_switch.specs.code.Groups.{plain_group, plain_groups}
use Rattle.mc_switch.specs.declared.groups.Group.{Group}
use Rattle.mc_switch.specs.code.Labels.{KeepsFirst, plain_opened}
use Rattle.mc_switch.specs.code.Parts.{KeepsGroup, KeepsEnds, kept_in, arm_with, IsGroupedOf, IsArmOf, AreArmsOf, IsChosenIn}
use Rattle.mc_switch.proofs.Arms.{switch_is, disjunction_is, chosen_later, out_again, groups_keep, several_is, one_more_arm}
use Rattle.mc_switch.proofs.Growing.{suits_before, around_grown, ends_grown, groups_grown, grown_twice, merges_twice}
use Rattle.mc_switch.proofs.grouping.+grouped.Goals as goal

pub arm-part-requires : goal.arm-part-requires
arm-part-requires t c =
    (omega (arith, c.decreases), (c.requires.merged, (c.requires.around, (c.requires.out, (c.requires.first, c.requires.ends)))))

pub arm-returns-clause-arm : goal.arm-returns-clause-arm
arm-returns-clause-arm t c =
    λ S M xs suits later same.
    plain_arm-open _
    ∙ ap₂ (λ (l : Label) (n : Node). (l, n)) c.in_ok-on.ensures (c.in_ok-body.ensures.part S M xs suits later same)

pub arms-arm-requires : goal.arms-arm-requires
arms-arm-requires t c =
    let now = c.loop-group in
    let q = c.args.procs.now in
    let g : Group = c.in-Some.group in
    let steps : into_iter_items now.group-iterator ≡ g ∷ into_iter_items c.next.new.self = c.in-Some.ensures.steps.0 in
    let keep : All KeepsGroup (g ∷ into_iter_items c.next.new.self) = subst (All KeepsGroup) steps now.invariant.first in
    let ends : All (KeepsEnds now.procs c.args.around.now) (g ∷ into_iter_items c.next.new.self) = subst (All (KeepsEnds now.procs c.args.around.now)) steps now.invariant.ends in (
      omega (arith, c.decreases),
      (
        now.invariant.merges.merged,
        (
          around_grown q now.procs c.args.around.now now.invariant.grew c.requires.around,
          (
            ap length now.invariant.out ∙ c.requires.out,
            (
              All-head KeepsGroup g (into_iter_items c.next.new.self) keep,
              All-head (KeepsEnds now.procs c.args.around.now) g (into_iter_items c.next.new.self) ends,
            ),
          ),
        ),
      ),
    )

pub arms-loop-group-preserved : goal.arms-loop-group-preserved
arms-loop-group-preserved t c =
    let at = c.args.around.now in
    let out : List Bool = c.args.out.now in
    let now = c.loop-group in
    let did = c.in_ok-arm.ensures in
    let g : Group = c.in-Some.group in
    let a : Arm = c.in_ok-arm.arm in
    let steps : into_iter_items now.group-iterator ≡ g ∷ into_iter_items c.next.new.self = c.in-Some.ensures.steps.0 in
    let keep : All KeepsGroup (g ∷ into_iter_items c.next.new.self) = subst (All KeepsGroup) steps now.invariant.first in
    let ends : All (KeepsEnds now.procs at) (g ∷ into_iter_items c.next.new.self) = subst (All (KeepsEnds now.procs at)) steps now.invariant.ends in
    record {
      all = append_assoc now.yielded (g ∷ []) _ ∙ rw (← steps) now.invariant.all;
      left =
          let was = now.invariant.left in
          let gone = c.in-Some.ensures.steps.1 in
          let short = ap length steps in
          omega (arith, was, gone, short);
      first = All-tail KeepsGroup g (into_iter_items c.next.new.self) keep;
      ends = groups_grown now.procs c.arm.new.procs at (into_iter_items c.next.new.self) did.grew (All-tail (KeepsEnds now.procs at) g (into_iter_items c.next.new.self) ends);
      merges = merges_twice c.arm.new.procs at.types.now c.args.merger.now.found now.merger.found c.arm.new.merger.found now.invariant.merges.stays did.merges;
      grew = grown_twice c.args.procs.now now.procs c.arm.new.procs now.invariant.grew did.grew;
      out = did.out ∙ now.invariant.out;
      arms =
          one_more_arm now.procs c.arm.new.procs now.merger.found c.arm.new.merger.found at out c.args.times now.yielded g now.arms.items c.push.new.self.items a did.grew did.merges.stays now.invariant.arms
          (subst (λ (s : List Bool). IsArmOf c.arm.new.procs c.arm.new.merger.found at s c.args.times (plain_group g) (plain_arm a)) now.invariant.out did.arm)
          c.in_ok-push.ensures.items;
    }

pub arms-returns-clause-arms : goal.arms-returns-clause-arms
arms-returns-clause-arms t c =
    let at = c.args.around.now in
    let out : List Bool = c.args.out.now in
    let now = c.loop-group in
    let none = c.in-None.ensures.steps in
    let empty : into_iter_items now.group-iterator ≡ [] = nil_from_length _ (sym now.invariant.left ∙ none.0) in
    let all = sym (append-nil now.yielded) ∙ rw empty at now.invariant.all ∙ c.into_iter-group-iterator.ensures.into_iter_gives.0 in
    IfOk-weaker c.of.result (λ (row : List Arm). row ≡ now.arms.items) (λ (row : List Arm). AreArmsOf now.procs now.merger.found at out c.args.times (plain_groups c.args.groups.items) (map plain_arm row))
    (λ row h S M xs suits later same.
    let again = grouped S (type_in at.types.now) (kept_in S M at) c.args.times (inst_in at.before.now) xs in
    ap (map plain_arm) h
    ∙ now.invariant.arms S M xs suits later same
    ∙ ap (λ (gs : List Group). map (arm_with (kept_in S M at) again) (plain_groups gs)) all)
    c.of.ensures.elements

pub grouped-arms-requires : goal.grouped-arms-requires
grouped-arms-requires t c =
    let os : List Opened = c.args.disjuncts.items in
    let gs = c.in_ok-groups-in-Some.groups.items in
    let many : length c.insert.new.self ≡ length c.args.around.now.before.now =
    ap length c.insert.ensures ∙ length-set c.args.out.now c.in-Some.x true ∙ c.requires.out in (
      omega (arith, c.decreases, c.if-times-eq0.false),
      (
        c.requires.merged,
        (
          c.requires.around,
          (
            many,
            (
              groups_keep KeepsFirst gs c.in-Some.x os c.in_ok-groups-in-Some.ensures c.requires.first,
              groups_keep (KeepsEnd c.args.procs.now c.args.around.now) gs c.in-Some.x os c.in_ok-groups-in-Some.ensures c.requires.ends,
            ),
          ),
        ),
      ),
    )

pub grouped-returns-in_ok-arms-in-Some-clause-grouped : goal.grouped-returns-in_ok-arms-in-Some-clause-grouped
grouped-returns-in_ok-arms-in-Some-clause-grouped t c =
    let q = c.args.procs.now in
    let at = c.args.around.now in
    let out : List Bool = c.args.out.now in
    let os : List Opened = c.args.disjuncts.items in
    let did = c.in_ok-arms-in-Some.ensures in
    let pick =
    subst (λ (o : Option ℕ). IsChosenIn q at out os o) c.in-Some.is
    (subst (λ (ds : List Opened). IsChosenIn q at out ds c.in_ok-x.field-0) c.as_slice.ensures.value c.in_ok-x.ensures.chosen) in
    let may =
    subst (λ (o : Option ℕ). MayBe at.before.now out os o) c.in-Some.is
    (subst (λ (ds : List Opened). MayBe at.before.now out ds c.in_ok-x.field-0) c.as_slice.ensures.value c.in_ok-x.ensures.may_be) in
    switch_is c.arms.new.procs c.arms.new.merger.found at out c.insert.new.self c.args.times os c.in-Some.x (plain_groups c.in_ok-groups-in-Some.groups.items) (map plain_arm c.in_ok-arms-in-Some.arms) _
    c.if-times-eq0.false (chosen_later q c.arms.new.procs at out os (Some c.in-Some.x) did.grew pick) may c.requires.out c.insert.ensures c.in_ok-groups-in-Some.ensures did.arms
    (plain_sched-Switch c.in-Some.x c.in_ok-arms-in-Some.arms)

pub grouped-returns-in_ok-arms-in-Some-clause-out : goal.grouped-returns-in_ok-arms-in-Some-clause-out
grouped-returns-in_ok-arms-in-Some-clause-out t c =
    let insts : List ℕ = c.args.around.now.before.now in
    let out : List Bool = c.args.out.now in
    let os : List Opened = c.args.disjuncts.items in
    let may =
    subst (λ (o : Option ℕ). MayBe insts out os o) c.in-Some.is
    (subst (λ (ds : List Opened). MayBe insts out ds c.in_ok-x.field-0) c.as_slice.ensures.value c.in_ok-x.ensures.may_be) in
    out_again insts out c.insert.new.self c.arms.new.out c.remove.new.self os c.in-Some.x may c.insert.ensures c.in_ok-arms-in-Some.ensures.out c.remove.ensures

pub grouped-returns-in-None-clause-grouped : goal.grouped-returns-in-None-clause-grouped
grouped-returns-in-None-clause-grouped t c =
    let q = c.args.procs.now in
    let at = c.args.around.now in
    let out : List Bool = c.args.out.now in
    let os : List Opened = c.args.disjuncts.items in
    let pick =
    subst (λ (o : Option ℕ). IsChosenIn q at out os o) c.in-None.is
    (subst (λ (ds : List Opened). IsChosenIn q at out ds c.in_ok-x.field-0) c.as_slice.ensures.value c.in_ok-x.ensures.chosen) in
    IfOk-weaker c.disjunction-in-None.result (λ (s : Sched). plain_sched s ≡ Disj (goals_of (map plain_opened os))) (λ (s : Sched). IsGroupedOf q c.args.merger.now.found at out c.args.times os (plain_sched s))
    (λ s h. disjunction_is q c.args.merger.now.found at out c.args.times os (plain_sched s) pick h)
    c.disjunction-in-None.ensures

pub part-changes-requires-clause-ends : goal.part-changes-requires-clause-ends
part-changes-requires-clause-ends t c =
    subst (All (KeepsEnd c.args.procs.now c.args.around.now)) (sym c.as_slice.ensures.value) c.requires.ends

pub part-grouped-requires : goal.part-grouped-requires
part-grouped-requires t c =
    let did = c.in_ok-changes.ensures in
    let q = c.args.procs.now in
    let at = c.args.around.now in (
      omega (arith, c.decreases),
      (
        did.merges.merged,
        (
          around_grown q c.changes.new.procs at did.grew c.requires.around,
          (
            c.requires.out,
            (
              c.requires.first,
              ends_grown q c.changes.new.procs at c.args.disjuncts.items did.grew c.requires.ends,
            ),
          ),
        ),
      ),
    )

pub part-returns-clause-part : goal.part-returns-clause-part
part-returns-clause-part t c =
    λ S M xs suits later same.
    let at = c.args.around.now in
    let os = c.args.disjuncts.items in
    let kept = kept_in S M at in
    let again = grouped S (type_in at.types.now) kept c.args.times (inst_in at.before.now) xs in
    let first = c.in_ok-changes.ensures in
    let then_ = c.in_ok-goal.ensures in
    let changes = first.kept S M (suits_before c.changes.new.procs c.grouped.new.procs S then_.grew suits) (λ x k is e. later x k is (then_.merges.stays x k is e)) in
    let parts : plain_node c.of_several.result ≡ node (again (map plain_opened os)) (kept (map plain_opened os)) (inferred det) false =
    c.of_several.ensures
    ∙ ap₂ (λ (s : Scheduled) (cs : List (ℕ × ℕ)). node s cs (inferred det) false)
    (then_.grouped S M xs suits later same)
    (changes ∙ ap (λ (ps : List Opened). kept (map plain_opened ps)) c.as_slice.ensures.value) in
    parts
    ∙ sym (several_is kept again os (λ e. omega (arith, c.if-len-eq1.false, c.len.ensures, c.args.disjuncts.ok, e)))

pub arms-returns-in_err-arm-clause-grew : goal.arms-returns-in_err-arm-clause-grew
arms-returns-in_err-arm-clause-grew t c = search (grown_twice)

pub arms-returns-in_err-push-clause-grew : goal.arms-returns-in_err-push-clause-grew
arms-returns-in_err-push-clause-grew t c = search (grown_twice)

pub part-returns-in_err-goal-clause-grew : goal.part-returns-in_err-goal-clause-grew
part-returns-in_err-goal-clause-grew t c = search (grown_twice)

pub part-returns-clause-grew : goal.part-returns-clause-grew
part-returns-clause-grew t c = search (grown_twice)

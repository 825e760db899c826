use Rattle.std.proofs.Common.{◌≡◌, ℕ, List, length, map, sym, ap, ◌∙◌, arith}
use Rattle.std.proofs.lemmas.Result.{IfOk-weaker}
use Rattle.mc_model.specs.Good.{System}
use Rattle.mc_accepted.specs.MergedArms.{ends}
use Rattle.mc_accepted.specs.Switched.{goals_of}
use Rattle.mc_procs.specs.VariableTypes.{type_in}
use Rattle.mc_mode_state.specs.Tables.{Entry}
use Rattle.mc_switch.specs.Types.{inst_in}
use Rattle.mc_switch.specs.Kept.{Suits, Extends, changes_of, kept_by}
use Rattle.mc_switch.specs.code.Labels.{plain_opened}
use Rattle.mc_switch.proofs.ChangedInsts.{none_changes, some_change, one_more_change}
use Rattle.mc_switch.proofs.Growing.{suits_before, ends_grown, grown_twice, merges_twice}
use Rattle.mc_switch.proofs.merging.Merger.changes.Goals as goal

pub returns-then-not-one_ends-clause-kept : goal.returns-then-not-one_ends-clause-kept
returns-then-not-one_ends-clause-kept c = λ S M suits more.
    let at = c.args.around.now in
    c.new.ensures ∙ sym (none_changes c.args.procs.now at S suits M (length at.types.now) c.args.disjuncts.now c.requires.ends (sym c.one_ends.ensures ∙ c.if-not-one_ends.true))

pub push_change-requires-clause-ends : goal.push_change-requires-clause-ends
push_change-requires-clause-ends c =
    ends_grown c.args.procs.now c.loop-x.procs c.args.around.now c.args.disjuncts.now c.loop-x.invariant.grew c.requires.ends

pub returns-in_err-push_change-clause-grew : goal.returns-in_err-push_change-clause-grew
returns-in_err-push_change-clause-grew c =
    grown_twice c.args.procs.now c.loop-x.procs c.push_change.new.procs c.loop-x.invariant.grew c.in_err-push_change.ensures.grew

pub loop-x-preserved : goal.loop-x-preserved
loop-x-preserved c =
    let now = c.loop-x in
    let did = c.in_ok-push_change.ensures in
    record {
      changes = λ S M suits more.
          one_more_change M (inst_in c.args.around.now.before.now) (inst_in c.args.around.now.after.now) (ends S (type_in c.args.around.now.types.now) (inst_in c.args.around.now.before.now) (goals_of (map plain_opened c.args.disjuncts.now))) now.x now.changes.items c.push_change.new.changes.items
          (now.invariant.changes S M (suits_before now.procs c.push_change.new.procs S did.grew suits) (λ y k is e. more y k is (did.merges.stays y k is e)))
          (did.change S M (suits_before now.procs c.push_change.new.procs S did.grew suits) more);
      merges = merges_twice c.push_change.new.procs c.args.around.now.types.now c.args.self.now.found now.self.found c.push_change.new.self.found now.invariant.merges.stays did.merges;
      grew = grown_twice c.args.procs.now now.procs c.push_change.new.procs now.invariant.grew did.grew;
    }

pub returns-clause-kept : goal.returns-clause-kept
returns-clause-kept c =
    let now = c.loop-x in
    let at = c.args.around.now in
    let os = c.args.disjuncts.now in
    IfOk-weaker c.of.result (λ (row : List (ℕ × ℕ)). row ≡ now.changes.items)
    (λ (row : List (ℕ × ℕ)). (S : System) (M : List Entry) → Suits now.procs S → Extends now.self.found M → row ≡ kept_by S (type_in at.types.now) M (length at.types.now) (inst_in at.before.now) (inst_in at.after.now) (map plain_opened os))
    (λ row h S M suits more.
    h
    ∙ now.invariant.changes S M suits more
    ∙ (let l : now.x ≡ length at.types.now = omega (arith, now.auto.x-end, c.loop-x-test.false, c.len-x-end.ensures) in
    ap (changes_of M (inst_in at.before.now) (inst_in at.after.now) (ends S (type_in at.types.now) (inst_in at.before.now) (goals_of (map plain_opened os)))) l)
    ∙ sym (some_change c.args.procs.now at S (suits_before c.args.procs.now now.procs S now.invariant.grew suits) M (length at.types.now) os c.requires.ends (sym c.one_ends.ensures ∙ c.if-not-one_ends.false)))
    c.of.ensures.elements

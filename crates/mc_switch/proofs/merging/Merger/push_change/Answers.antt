use Rattle.std.proofs.Common.{Vec, Global, ◌≡◌, ℕ, ◌<◌, ◌++◌, List, length, get_or, map, Bool, true, ◌||◌, sym, ap, ◌∙◌, subst}
use Rattle.std.proofs.lemmas.List.{append-nil}
use Rattle.mc_model.specs.Stream.{is_bound}
use Rattle.mc_accepted.specs.MergedArms.{ends}
use Rattle.mc_accepted.specs.Ordered.{Insts}
use Rattle.mc_accepted.specs.Switched.{goals_of}
use Rattle.mc_insts.specs.Graphs.{count_of}
use Rattle.mc_procs.specs.VariableTypes.{type_in}
use Rattle.mc_switch.specs.Types.{inst_in}
use Rattle.mc_switch.specs.code.Labels.{plain_opened}
use Rattle.mc_switch.specs.Kept.{inst_merged, changed_to}
use Rattle.mc_switch.proofs.ChangedInsts.{ends_are, some_insts, insts_there, before_bound, after_bound, same_stays, other_changes}
use Rattle.mc_switch.proofs.merging.Merger.push_change.Goals.{else-from-eq0-via-then-from-eq0+else-around-x-eq0, else-from-eq0-via-else-from-eq0, then-to-from+in_ok-push, else-to-from}
use Rattle.mc_switch.proofs.merging.Merger.push_change.Goals as goal

pub merged-requires-clause-some : goal.merged-requires-clause-some
merged-requires-clause-some c =
    let e = c.as_slice.ensures.value ∙ c.in_ok-insts.ensures in
    subst (λ (is : List ℕ). 0 < length is) (sym e) (some_insts _ c.args.x c.args.disjuncts.now c.requires.some)

pub merged-requires-clause-insts : goal.merged-requires-clause-insts
merged-requires-clause-insts c =
    let e = c.as_slice.ensures.value ∙ c.in_ok-insts.ensures in
    subst (λ (is : List ℕ). (n : ℕ) → n < length is → get_or is n 0 < count_of c.args.procs.now.insts) (sym e)
    (insts_there c.args.procs.now c.args.around.now c.args.x c.args.disjuncts.now c.requires.ends)

pub returns-clause-change : goal.returns-clause-change
returns-clause-change c =
    λ S M suits more.
    let at = c.args.around.now in
    let x = c.args.x in
    let b = inst_in at.before.now in
    let before = c.args.changes.now.items in
    let t : Bool = is_bound (b x) || is_bound (inst_in at.after.now x) in
    let bound : t ≡ true = elim c.else-from-eq0.branch [
      | else-from-eq0-via-then-from-eq0+else-around-x-eq0 w ↦ after_bound (b x) (inst_in at.after.now x) w.if-around-x-eq0.false
      | else-from-eq0-via-else-from-eq0 w ↦ before_bound (b x) (inst_in at.after.now x) w.if-from-eq0.false
    ] in
    let row = sym (ends_are c.args.procs.now at S suits x c.args.disjuncts.now c.requires.ends) in
    let to : c.in_ok-to.to ≡ inst_merged M x (map (λ (e : Insts). e x) (ends S (type_in at.types.now) b (goals_of (map plain_opened c.args.disjuncts.now)))) =
    c.in_ok-to.ensures.inst M more ∙ ap (inst_merged M x) (c.as_slice.ensures.value ∙ c.in_ok-insts.ensures ∙ sym row) in
    elim c.if-to-from.branch [
      | then-to-from+in_ok-push w ↦
          ap (λ (v : Vec (ℕ × ℕ) Global). v.items) w.changes-is ∙ w.in_ok-push.ensures.items
          ∙ ap (λ (cs : List (ℕ × ℕ)). before ++ cs)
          (sym (other_changes x (b x) c.in_ok-to.to t bound w.if-to-from.true) ∙ ap (λ k. changed_to x (b x) k t) to)
      | else-to-from w ↦
          ap (λ (v : Vec (ℕ × ℕ) Global). v.items) w.changes-is
          ∙ sym (append-nil before)
          ∙ ap (λ (cs : List (ℕ × ℕ)). before ++ cs)
          (sym (same_stays x (b x) c.in_ok-to.to t w.if-to-from.false) ∙ ap (λ k. changed_to x (b x) k t) to)
    ]

use Rattle.std.proofs.Common.{◌≡◌, ℕ, List, map, Some, true, All, refl, sym, ap, ◌∙◌, subst}
use Rattle.std.specs.List.{list_all}
use Rattle.std.proofs.lemmas.List.{length-map}
use Rattle.mc_mode_state.specs.Tables.{Entry, node_in}
use Rattle.mc_switch.specs.declared.formed.Formed.{Formed}
use Rattle.mc_model.specs.Scheduled.{Disj, nodes}
use Rattle.mc_model.specs.PlainGoals.{plain_node}
use Rattle.mc_accepted.specs.Ordered.{change_at}
use Rattle.mc_switch.specs.code.Grouping.{FormedEnds}
use Rattle.mc_switch.specs.Types.{inst_in}
use Rattle.mc_switch.specs.code.Forms.{IsGoal, EachIs}
use Rattle.mc_switch.specs.declared.context.VariableContext.{VariableContext}
use Rattle.mc_switch.specs.declared.forming.SwitchDetection.{SwitchDetection}
use Rattle.mc_switch.specs.declared.parts.FormedGoal.{FormedGoal}
use Rattle.mc_switch.proofs.FormedParts.{each_many, each_ends, disjunction_is}
use Rattle.mc_switch.proofs.forming.SwitchDetection.disjunction.Goals as goal

pub switched-requires-clause-many : goal.switched-requires-clause-many
switched-requires-clause-many c =
    each_many c.args.procs.now c.args.self.now.merger.found c.args.types.now (inst_in c.args.self.now.point) true (map plain_node c.args.sources.now) c.args.goals.items c.requires.goals
    ∙ length-map c.args.sources.now plain_node

pub switched-requires-clause-ends : goal.switched-requires-clause-ends
switched-requires-clause-ends c =
    let v : SwitchDetection = c.args.self.now in
    let same : c.as_slice-2.result.now ≡ v.point = c.as_slice-2.ensures ∙ ap (λ (w : SwitchDetection). w.point) c.in_ok-after.ensures.same in
    subst (λ (is : List ℕ). All (FormedEnds c.args.procs.now c.args.types.now is) c.args.goals.items) (sym same)
    (each_ends c.args.procs.now v.merger.found c.args.types.now v.point (map plain_node c.args.sources.now) c.args.goals.items c.requires.goals)

pub returns-clause-formed : goal.returns-clause-formed
returns-clause-formed c =
    let v : SwitchDetection = c.args.self.now in
    let types = c.args.types.now in
    let gs = c.args.sources.now in
    let changes : List (ℕ × ℕ) = c.args.changes.now in
    let r = c.switched.new.procs in
    let M = c.switched.new.merger.found in
    let did = c.in_ok-goal.ensures in
    let part : FormedGoal = record { goal = c.in_ok-goal.goal; never_ends = c.all_never_end-never_ends.result } in
    let at : VariableContext = record { types = c.args.types; before = c.as_slice-2.result; after = c.as_slice-3.result } in
    let kept = c.in_ok-after.ensures.same in
    let same : c.as_slice-2.result.now ≡ v.point = c.as_slice-2.ensures ∙ ap (λ (w : SwitchDetection). w.point) kept in
    let found = ap (λ (w : SwitchDetection). w.merger.found) kept in
    subst (λ (is : List ℕ). IsGoal r M types (inst_in is) true (λ x. change_at x changes (inst_in is x)) (Disj (nodes (map plain_node gs))) part) same
    (disjunction_is c.args.procs.now r v.merger.found M types at gs c.args.goals.items changes part did.grew
    (λ x k is e. did.merges.stays x k is (subst (λ (N : List Entry). node_in N x is ≡ Some k) (sym found) e))
    refl
    (ap inst_in c.as_slice-3.ensures.value ∙ c.in_ok-after.ensures.insts ∙ ap (λ (is : List ℕ). λ x. change_at x changes (inst_in is x)) (sym same))
    (subst (λ (is : List ℕ). EachIs c.args.procs.now v.merger.found types (inst_in is) true (map plain_node gs) c.args.goals.items) (sym same) c.requires.goals)
    did.grouped
    (c.all_never_end-never_ends.ensures ∙ ap (list_all (λ (f : Formed). f.never_ends)) c.as_slice.ensures.value))

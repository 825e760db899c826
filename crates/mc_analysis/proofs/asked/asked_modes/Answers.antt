use Rattle.std.proofs.Common.{◌≡◌, ◌<◌, ◌≤◌, ℕ, List, Vec, Global, length, get_or, sym, ap, ◌∙◌, subst, arith, true≢false}
use Rattle.std.proofs.lemmas.List.Elements.{All-get_or, All-same}
use Rattle.mc_program.specs.PlainPrograms.{plain_program}
use Rattle.mc_model.specs.Insts.{Graph}
use Rattle.mc_insts.specs.Graphs.{graph_of}
use Rattle.mc_modes.specs.Signatures.{SigsFit}
use Rattle.mc_modes.specs.Numbering.{IsMode, mode_ids}
use Rattle.mc_modes.specs.declared.modes.ModeId.{ModeId}
use Rattle.mc_modes.proofs.Ids.{are_modes}
use Rattle.mc_analysis.specs.Untidy.{OverTidy}
use Rattle.mc_analysis.specs.code.Asked.{MarksTidy}
use Rattle.mc_analysis.proofs.Asking.{none_asked, asked_more, passed_more, all_asked}
use Rattle.mc_analysis.proofs.asked.asked_modes.Goals as goal
use Rattle.mc_analysis.proofs.asked.asked_modes.Goals.{then-branch+in_ok-push, else-branch}

abbrev none : ModeId
none = record { pred = 0; mode = 0 }

pub loop-id-init : goal.loop-id-init
loop-id-init c = record {
  program = c.tidy_predicates.ensures.program;
  graph = c.tidy_predicates.ensures.graph;
  count = c.tidy_predicates.ensures.count;
  asked = none_asked (plain_program c.args.program.now) (graph_of c.args.insts.now) c.args.sigs.now c.args.goals.now (mode_ids c.args.program.now c.args.sigs.now) c.new-asked.result.items c.new-asked.ensures.items;
}

pub is_asked-requires-clause-sigs : goal.is_asked-requires-clause-sigs
is_asked-requires-clause-sigs c = subst (λ (n : ℕ). SigsFit n c.args.sigs.now) (sym c.loop-id.invariant.count) c.requires.sigs

pub is_asked-requires-clause-tidy : goal.is_asked-requires-clause-tidy
is_asked-requires-clause-tidy c =
    let P = plain_program c.args.program.now in
    subst (λ (G : Graph). MarksTidy P G c.args.sigs.now c.as_slice.result.now) (sym c.loop-id.invariant.graph)
    (subst (MarksTidy P (graph_of c.args.insts.now) c.args.sigs.now) (sym c.as_slice.ensures.value) (c.in_ok-tidy.ensures {u = tt}).tidy)

pub is_asked-requires-clause-id : goal.is_asked-requires-clause-id
is_asked-requires-clause-id c =
    let xs = c.deref-id-items.result.now in
    let i = c.loop-id.id-index in
    let lt : i < length xs = omega (arith, c.loop-id-test.true) in
    let all = mode_ids c.args.program.now c.args.sigs.now in
    let same : xs ≡ all = c.deref-id-items.ensures.value ∙ c.in_ok-ids.ensures {u = tt} in
    All-get_or (IsMode c.args.program.now c.args.sigs.now) xs i none lt
    (All-same (IsMode c.args.program.now c.args.sigs.now) xs all same (are_modes c.args.program.now c.args.sigs.now))

pub loop-id-preserved : goal.loop-id-preserved
loop-id-preserved c =
    let S = plain_program c.args.program.now in
    let G = graph_of c.args.insts.now in
    let sigs = c.args.sigs.now in
    let goals = c.args.goals.now in
    let xs = c.deref-id-items.result.now in
    let i = c.loop-id.id-index in
    let id = get_or xs i none in
    let all = mode_ids c.args.program.now sigs in
    let same : xs ≡ all = c.deref-id-items.ensures.value ∙ c.in_ok-ids.ensures {u = tt} in
    let lt : i < length all = subst (λ (is : List ModeId). i < length is) same (omega (arith, c.loop-id-test.true)) in
    let at : id ≡ get_or all i none = ap (λ (is : List ModeId). get_or is i none) same in
    let told = (c.in_ok-is_asked.ensures {u = tt}).asked in
    elim c.if-branch.branch [
      | then-branch+in_ok-push w ↦
          record {
            program = c.is_asked.ensures.program;
            graph = c.is_asked.ensures.graph ∙ c.loop-id.invariant.graph;
            count = c.is_asked.ensures.count ∙ c.loop-id.invariant.count;
            asked =
                asked_more S G sigs goals all c.loop-id.asked.items c.if-branch.asked.items i id none lt at
                (ap (λ (v : Vec ModeId Global). v.items) w.asked-is ∙ w.in_ok-push.ensures.items)
                (subst (λ (X : Graph). OverTidy S X sigs goals id) c.loop-id.invariant.graph (told.0 w.if-branch.true)) c.loop-id.invariant.asked;
          }
      | else-branch w ↦
          record {
            program = c.is_asked.ensures.program;
            graph = c.is_asked.ensures.graph ∙ c.loop-id.invariant.graph;
            count = c.is_asked.ensures.count ∙ c.loop-id.invariant.count;
            asked =
                passed_more S G sigs goals all c.loop-id.asked.items c.if-branch.asked.items i id none lt at
                (ap (λ (v : Vec ModeId Global). v.items) w.asked-is)
                (λ o. true≢false (sym (told.1 (subst (λ (X : Graph). OverTidy S X sigs goals id) (sym c.loop-id.invariant.graph) o)) ∙ w.if-branch.false)) c.loop-id.invariant.asked;
          }
    ]

pub returns-clause-asked : goal.returns-clause-asked
returns-clause-asked c =
    let xs = c.deref-id-items.result.now in
    let i = c.loop-id.id-index in
    let all = mode_ids c.args.program.now c.args.sigs.now in
    let same : xs ≡ all = c.deref-id-items.ensures.value ∙ c.in_ok-ids.ensures {u = tt} in
    let le : length all ≤ i = omega (arith, c.loop-id-test.false, ap length same) in
    all_asked (plain_program c.args.program.now) (graph_of c.args.insts.now) c.args.sigs.now c.args.goals.now all c.loop-id.asked.items i le c.loop-id.invariant.asked

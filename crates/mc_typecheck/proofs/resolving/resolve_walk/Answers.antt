use Rattle.std.proofs.Common.{[], ◌≡◌, ℕ, ◌+◌, List, sym, subst, arith}
use Rattle.mc_types.specs.declared.signature.Signature.{Signature}
use Rattle.mc_types.specs.declared.steps.Step.{Step}
use Rattle.mc_types.specs.Typed.{AllProper}
use Rattle.mc_types.specs.Resolved.{OutcomeSays}
use Rattle.mc_accepted.specs.Resolving.{steps_of}
use Rattle.mc_typecheck.specs.Ties.{tied, made_by}
use Rattle.mc_typecheck.proofs.Stepping.{walked_ties, walked_next}
use Rattle.mc_typecheck.proofs.Properness as properness
use Rattle.mc_typecheck.proofs.Deciding as deciding
use Rattle.mc_typecheck.proofs.resolving.resolve_walk.Goals as goal

pub resolve-requires-clause-proper : goal.resolve-requires-clause-proper
resolve-requires-clause-proper c =
    let h = c.requires.walked in
    let t = c.args.signatures.now in
    let w = c.args.walk.now in
    let vars = h.vars in
    let room : w.next ≡ vars + made_by h.steps = walked_next h.source h.parameters t w vars h.steps h.stands in
    let same : c.deref.result.now ≡ t.all.items = c.deref.ensures.value in
    let same2 : c.deref-2.result.now ≡ w.steps.items = c.deref-2.ensures.value in
    let Q : List Signature → List Step → Type 0 = λ ss xs. AllProper ss w.next xs in
    subst (λ ss. Q ss c.deref-2.result.now) (sym same) (subst (λ xs. Q t.all.items xs) (sym same2) (
    properness.all_proper h.source h.parameters w.next t.all.items w.steps.items (tied h.source h.parameters h.steps vars [])
    (walked_ties h.source h.parameters t w vars h.steps h.stands)
    (properness.ties_proper h.source h.parameters w.next vars h.steps vars [] tt h.own (omega arith) (omega (arith, room)))))

pub returns : goal.returns
returns c = λ P D clause vars own at.
    let t = c.args.signatures.now in
    let w = c.args.walk.now in
    let same : c.deref.result.now ≡ t.all.items = c.deref.ensures.value in
    let same2 : c.deref-2.result.now ≡ w.steps.items = c.deref-2.ensures.value in
    let room : w.next ≡ vars + made_by (steps_of clause) = walked_next P D t w vars (steps_of clause) at in
    let Q : List Signature → List Step → ℕ → Type 0 = λ ss xs places. OutcomeSays ss xs places c.args.limit c.in_ok-outcome.outcome in
    deciding.search_decides P D t.all.items clause w.steps.items vars c.args.limit own (walked_ties P D t w vars (steps_of clause) at) c.in_ok-outcome.outcome
    (subst (λ places. Q t.all.items w.steps.items places) room
    (subst (λ ss. Q ss w.steps.items w.next) same (subst (λ xs. Q c.deref.result.now xs w.next) same2 c.in_ok-outcome.ensures)))

use Rattle.std.proofs.Common.{◌∷◌, [], ap, ap₂, sym, ◌∙◌, reverse}
use Rattle.std.proofs.lemmas.List.{reverse-append}
use Rattle.mc_state_variables.specs.Versions.{renewed, renewed_behind, handed}
use Rattle.mc_state_variables.specs.code.Helds.{plain_helds}
use Rattle.mc_state_variables.specs.code.Steps.{stepwise}
use Rattle.mc_state_variables.proofs.Orders.{passed_is}
use Rattle.mc_state_variables.proofs.numbering.Numbering.passed.Goals as goal

pub returns-clause-step : goal.returns-clause-step
returns-clause-step c p rest =
    let left = c.pop.new.self.items in
    let step = c.in-Some.step in
    let around = c.in_ok-given.ensures {u = tt} in
    let n = c.args.self.now.next in
    let hs = plain_helds c.args.goals.now.current.items in
    let was = c.deref.ensures.value in
    ap (λ ss. stepwise ss (p ∷ rest) hs n) (ap reverse c.in-Some.ensures.items ∙ reverse-append left (step ∷ []))
    ∙ passed_is step (reverse left) hs (plain_helds c.in_ok-given.field-0.given.items) (plain_helds c.in_ok-given.field-0.behind.items) n c.around.new.self.next
    (around.given ∙ ap (λ hs. renewed step.renewed n (plain_helds hs)) was)
    (around.behind ∙ ap (λ hs. handed step.updated (plain_helds c.in_ok-given.field-0.given.items) (plain_helds hs)) was)
    (around.next ∙ ap (λ hs. renewed_behind step.renewed n (plain_helds hs)) was)
    p rest

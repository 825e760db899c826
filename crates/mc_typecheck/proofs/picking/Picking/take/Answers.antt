use Rattle.std.proofs.Common.{sym, subst}
use Rattle.mc_unresolved.specs.Steps.{plain_walk_step}
use Rattle.mc_unresolved.specs.declared.steps.WalkStep.{WalkStep}
use Rattle.mc_typecheck.specs.code.Picking.{PicksOn}
use Rattle.mc_typecheck.proofs.Picked.{number_on, text_on, equate_on, head_on, call_on}
use Rattle.mc_typecheck.proofs.picking.Picking.take.Goals as goal

pub returns-in_ok-grow-in-Number : goal.returns-in_ok-grow-in-Number
returns-in_ok-grow-in-Number c =
    let t = c.args.signatures.now in
    let p = c.args.self.now in
    let q = c.grow-in-Number.new.self in
    let Q : WalkStep → Type 0 = λ s. PicksOn t (plain_walk_step s) p q in
    subst Q (sym c.in-Number.is) (number_on p q c.next.result c.next.new.self c.next.ensures.choice c.next.ensures.picks c.grow-in-Number.ensures.choices c.grow-in-Number.ensures.picks t c.in_ok-grow-in-Number.ensures.height c.next.ensures.height)

pub returns-in_ok-grow-in-Text : goal.returns-in_ok-grow-in-Text
returns-in_ok-grow-in-Text c =
    let t = c.args.signatures.now in
    let p = c.args.self.now in
    let q = c.grow-in-Text.new.self in
    let Q : WalkStep → Type 0 = λ s. PicksOn t (plain_walk_step s) p q in
    subst Q (sym c.in-Text.is) (text_on p q c.next-in-Text.result c.next-in-Text.new.self c.next-in-Text.ensures.choice c.next-in-Text.ensures.picks c.grow-in-Text.ensures.choices c.grow-in-Text.ensures.picks t c.in_ok-grow-in-Text.ensures.height c.next-in-Text.ensures.height)

pub returns-in-Equate : goal.returns-in-Equate
returns-in-Equate c =
    let t = c.args.signatures.now in
    let p = c.args.self.now in
    let q = c.shrink.new.self in
    let Q : WalkStep → Type 0 = λ s. PicksOn t (plain_walk_step s) p q in
    subst Q (sym c.in-Equate.is) (equate_on p q c.next-in-Equate.result c.next-in-Equate.new.self c.next-in-Equate.ensures.choice c.next-in-Equate.ensures.picks c.shrink.ensures.choices c.shrink.ensures.picks t c.shrink.result c.shrink.ensures.taken c.shrink.ensures.height c.next-in-Equate.ensures.height)

pub returns-in_ok-pick-in-Call : goal.returns-in_ok-pick-in-Call
returns-in_ok-pick-in-Call c =
    let t = c.args.signatures.now in
    let p = c.args.self.now in
    let a = c.shrink-arguments-in-Call.new.self in
    let q = c.pick-in-Call.new.self in
    let Q : WalkStep → Type 0 = λ s. PicksOn t (plain_walk_step s) p q in
    subst Q (sym c.in-Call.is) (call_on t c.in-Call.candidates.now c.in-Call.arguments c.shrink-arguments-in-Call.result p a q c.shrink-arguments-in-Call.ensures.taken c.shrink-arguments-in-Call.ensures.height c.in_ok-pick-in-Call.ensures.height c.shrink-arguments-in-Call.ensures.choices c.shrink-arguments-in-Call.ensures.picks c.in_ok-pick-in-Call.ensures.picks)

pub returns-in-CloseHead : goal.returns-in-CloseHead
returns-in-CloseHead c =
    let t = c.args.signatures.now in
    let p = c.args.self.now in
    let q = c.shrink-in-CloseHead.new.self in
    let Q : WalkStep → Type 0 = λ s. PicksOn t (plain_walk_step s) p q in
    subst Q (sym c.in-CloseHead.is) (head_on p q c.next-in-CloseHead.result c.next-in-CloseHead.new.self c.next-in-CloseHead.ensures.choice c.next-in-CloseHead.ensures.picks c.shrink-in-CloseHead.ensures.choices c.shrink-in-CloseHead.ensures.picks t c.in-CloseHead.field-0 c.in-CloseHead.arguments c.shrink-in-CloseHead.result c.shrink-in-CloseHead.ensures.taken c.shrink-in-CloseHead.ensures.height c.next-in-CloseHead.ensures.height)

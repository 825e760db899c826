use Rattle.std.proofs.Common.{arith, map, subst}
use Rattle.std.proofs.lemmas.List.{take_all}
use Rattle.mc_program.specs.PlainPrograms.{plain_expression}
use Rattle.mc_goals.specs.code.Meeting.{Knows, head_variables}
use Rattle.mc_goals.proofs.HeadSteps.{front, front_length, next_front}
use Rattle.mc_goals.proofs.numbering.Numbering.meet_head.Goals as goal

pub loop-place-preserved : goal.loop-place-preserved
loop-place-preserved c = λ n k.
    let es = c.args.head.now in
    let place = c.loop-place.place in
    let long = c.len-place-end.ensures in
    next_front n es place c.get.result.now c.meet_at.new.self (omega arith) c.get.ensures
    (c.in_ok-meet_at.ensures n (front es place) (front_length es place (omega arith)) (c.loop-place.invariant n k))

pub returns : goal.returns
returns c = λ n k.
    let long = c.len-place-end.ensures in
    subst (λ l. Knows n (map plain_expression l) (head_variables (map plain_expression l)) c.loop-place.self) (take_all c.loop-place.place c.args.head.now (omega arith)) (c.loop-place.invariant n k)

use Rattle.std.proofs.Common.{arith, ◌∷◌, [], ◌++◌, take, get_or, sym, ap, subst, ◌∙◌, append_assoc}
use Rattle.std.proofs.lemmas.List.{take_more, take_all}
use Rattle.mc_goals.specs.code.Meeting.{Knows}
use Rattle.mc_goals.proofs.Meeting.{knows_more}
use Rattle.mc_goals.proofs.numbering.Numbering.meet_all.Goals as goal

pub loop-variable-preserved : goal.loop-variable-preserved
loop-variable-preserved c = λ n head ys k.
    let vs = c.args.variables.now in
    let i = c.loop-variable.variable-index in
    let more = knows_more n head (ys ++ take i vs) _ _ _ (c.loop-variable.invariant n head ys k) (c.in_ok-meet.ensures {u = tt}) in
    subst (λ l. Knows n head l c.meet.new.self) (append_assoc ys (take i vs) (get_or vs i 0 ∷ []) ∙ ap (λ l. ys ++ l) (sym (take_more vs i 0 (omega arith)))) more

pub returns : goal.returns
returns c = λ n head ys k.
    subst (λ l. Knows n head (ys ++ l) c.loop-variable.self) (take_all c.loop-variable.variable-index c.args.variables.now (omega arith)) (c.loop-variable.invariant n head ys k)

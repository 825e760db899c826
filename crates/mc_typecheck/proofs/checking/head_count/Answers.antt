use Rattle.std.proofs.Common.{◌+◌, List, map, ap, ◌∙◌, arith}
use Rattle.mc_program.specs.PlainPrograms.{plain_type}
use Rattle.mc_program.specs.declared.ty.Ty.{Ty}
use Rattle.mc_accepted.specs.MostGeneral.{rigid_count}
use Rattle.mc_typecheck.proofs.Checked.{head_counted, same_number}
use Rattle.mc_typecheck.proofs.checking.head_count.Goals as goal

pub returns-in_ok-count-in-Some : goal.returns-in_ok-count-in-Some
returns-in_ok-count-in-Some c = λ P D shows.
    let t = c.args.signatures.now in
    let s = c.index.result.now in
    head_counted P D t c.args.pred c.in-Some.place c.in_ok-count-in-Some.count s s shows
    (same_number c.in-Some.place (4 + (t.symbols + (t.preds + c.args.pred))) (c.in-Some.ensures shows.0))
    (omega (arith, c.if-place-len.false, c.len.ensures))
    c.index.ensures
    (c.in_ok-count-in-Some.ensures ∙ ap (λ (ts : List Ty). rigid_count (map plain_type ts)) c.as_slice.ensures.value)

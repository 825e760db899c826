use Rattle.std.proofs.Common.{List, map, ap, ◌∙◌}
use Rattle.std.proofs.lemmas.List.{map_push}
use Rattle.mc_program.specs.PlainPrograms.{plain_type}
use Rattle.mc_program.specs.declared.program.Pred.{Pred}
use Rattle.mc_program.specs.declared.ty.Ty.{Ty}
use Rattle.mc_typecheck.specs.Searched.{plain_signature}
use Rattle.mc_typecheck.specs.code.Entries.{renamed}
use Rattle.mc_typecheck.proofs.Entries.{mapped_more}
use Rattle.mc_typecheck.proofs.check_clause_table.put_renamed.Goals as goal

pub loop-pred-preserved : goal.loop-pred-preserved
loop-pred-preserved c =
    let p = c.pred-item.result in
    let made = c.in_ok-signature.field-0 in
    mapped_more (λ (q : Pred). renamed (map plain_type q.types)) c.args.preds.now c.loop-pred.pred-index p (map plain_signature c.args.all.now.items) (map plain_signature c.loop-pred.all.items) (map plain_signature c.push.new.self.items) (plain_signature made) c.loop-pred-test.true c.loop-pred.invariant
    (ap (map plain_signature) c.in_ok-push.ensures.items ∙ map_push plain_signature c.loop-pred.all.items made)
    (c.in_ok-signature.ensures ∙ ap (λ (ts : List Ty). renamed (map plain_type ts)) c.in_ok-types.ensures ∙ ap (λ (q : Pred). renamed (map plain_type q.types)) c.pred-item.is)

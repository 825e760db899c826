use Rattle.std.proofs.Common.{◌≡◌, inl, inr, [], ◌∷◌, ◌++◌, length, length-append, sym, ap, ◌∙◌, Some, slice_get, refl, arith}
use Rattle.std.proofs.lemmas.Option.{slice_get_read}
use Rattle.mc_core_program.proofs.Pushing.{get_more, normal_at}
use Rattle.mc_core_program.proofs.goals.normal_goals.Goals as goal

pub loop-number-preserved : goal.loop-number-preserved
loop-number-preserved c =
    let goals = c.loop-number.goals.items in
    let made = c.in_ok-goal_at.field-0 in
    let preds = c.args.preds.now in
    let clauses = c.args.clauses.now in
    let k = c.loop-number.number in
    let pushed : c.push.new.self.items ≡ goals ++ made ∷ [] = (c.in_ok-push.ensures {u = tt}).items in
    let at_pred : slice_get preds k ≡ Some c.get.result.now = slice_get_read preds (length preds) k c.get.result.now refl (omega arith) c.get.ensures in
    let at_own : slice_get clauses k ≡ Some c.get-in-loop-number.result.now =
    slice_get_read clauses (length clauses) k c.get-in-loop-number.result.now refl (omega arith) c.get-in-loop-number.ensures in
    record {
      count = omega (arith, ap length pushed, length-append goals (made ∷ []), c.loop-number.invariant.count);
      each = λ n goal pred own g p o.
          elim (get_more goals made n goal (sym (ap (λ l. slice_get l n) pushed) ∙ g)) [
            | inl q ↦ c.loop-number.invariant.each n goal pred own q p o
            | inr q ↦ normal_at preds clauses k c.get.result.now c.get-in-loop-number.result.now made at_pred at_own (c.in_ok-goal_at.ensures {u = tt}) n goal pred own (q.0 ∙ c.loop-number.invariant.count) q.1 p o
          ];
    }

use Rattle.std.proofs.lemmas.Result.{IfOk-weaker}
use Rattle.std.proofs.Common.{◌↔◌, ◌∙◌, sym, ap, subst}
use Rattle.std.specs.Prelude.{IsTrue}
use Rattle.mc_program.specs.PlainPrograms.{plain_program}
use Rattle.mc_model.specs.Flat as F
use Rattle.mc_model.specs.PlainGoals.{plain_flat}
use Rattle.mc_accepted.specs.Typing.{TypedGoal}
use Rattle.mc_procs.specs.VariableTypes.{type_in}
use Rattle.mc_self_check.proofs.TypedAtoms.{flat_call}
use Rattle.mc_self_check.proofs.typed.+typed.Goals as goal

pub is_typed-returns-in-Call : goal.is_typed-returns-in-Call
is_typed-returns-in-Call t c =
    let P = plain_program c.args.program.now in
    let T = type_in c.args.types.now in
    IfOk-weaker c.call_is_typed.result _ _
    (λ b m. subst (λ g. IsTrue b ↔ TypedGoal P T g) (sym (ap plain_flat c.in-Call.is ∙ flat_call c.in-Call.pred c.in-Call.args))
    (subst (λ l. IsTrue b ↔ TypedGoal P T (F.Call c.in-Call.pred l)) c.as_slice-in-Call.ensures.items m))
    c.call_is_typed.ensures

use Rattle.std.proofs.Common.{ℕ, List, Option, subst}
use Rattle.std.proofs.lemmas.Result.{IfOk-weaker}
use Rattle.mc_program.specs.declared.ty.Ty.{Ty}
use Rattle.mc_switch.specs.code.Choices.{IsChosenOf}
use Rattle.mc_switch.specs.code.Parts.{IsChosenIn}
use Rattle.mc_switch.proofs.Arms.{chosen_in}
use Rattle.mc_switch.proofs.grouping.chosen_around.Goals as goal

pub returns-clause-chosen : goal.returns-clause-chosen
returns-clause-chosen c =
    let q = c.args.procs.now in
    let at = c.args.around.now in
    let out = c.args.out.now in
    let os = c.args.disjuncts.now in
    IfOk-weaker c.chosen.result (λ (o : Option ℕ). IsChosenOf q c.as_slice.result.now at.before.now out os o) (λ (o : Option ℕ). IsChosenIn q at out os o)
    (λ o h. chosen_in q at out os o c.requires.around (subst (λ (ts : List Ty). IsChosenOf q ts at.before.now out os o) c.as_slice.ensures.items h))
    c.chosen.ensures.chosen

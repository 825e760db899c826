use Rattle.std.proofs.Common.{sym, ◌∙◌, length, subst, List}
use Rattle.mc_insts.specs.declared.graph.Case.{Case}
use Rattle.mc_insts.specs.code.Steps.{Arities}
use Rattle.mc_insts.specs.code.Walks.{scene}
use Rattle.mc_insts.proofs.Steps.{arities_at}
use Rattle.mc_insts.proofs.graph.InstGraph.step_types.Goals as goal

pub step_cases-requires-clause-arities : goal.step_cases-requires-clause-arities
step_cases-requires-clause-arities c =
    let C = scene c.args.self.now c.args.shapes.now in
    subst (λ (cs : List Case). Arities C cs) (sym c.as_slice.ensures.items) (arities_at C (length C.rows) c.in-Union.cases (c.requires.proper.rows c.args.t.row c.in-Union.cases (sym c.requires.row ∙ c.in-Union.is)))

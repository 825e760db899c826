use Rattle.mc_type_table.proofs.Grouping.{irregular_by}
use Rattle.mc_type_table.proofs.bodies.Bodies.is_irregular.Goals as goal

pub returns : goal.returns
returns c =
    λ l are.
    irregular_by l c.args.self.now c.args.number c.row.result.now c.one_comes_back.result
    c.row.ensures c.one_comes_back.ensures are

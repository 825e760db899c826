use Rattle.std.proofs.Common.{◌≡◌, [], sym, subst}
use Rattle.mc_inst_table.specs.Plain.{plain_inst}
use Rattle.mc_inst_table.specs.code.Ends.{head_at, bodies_of}
use Rattle.mc_inst_table.specs.code.Insides.{inside_at, put_ends, gathered, SameParameters, AreInside}
use Rattle.mc_inst_table.proofs.PuttingInside.{one_inside}
use Rattle.mc_inst_table.proofs.Parameters.{gathered_same}
use Rattle.mc_inst_table.proofs.inside.find.Goals as goal

pub returns-clause-inside : goal.returns-clause-inside
returns-clause-inside c =
    let is = c.args.bodies.now in
    let ends = put_ends (head_at c.args.heads.now) (inside_at c.args.inside.now) (plain_inst c.get.result.now) in
    let found : c.in_ok-parameters.parameters ≡ gathered [] ends = c.in_ok-parameters.ensures in
    subst (AreInside (bodies_of is)) (sym c.set.ensures)
    (one_inside is c.args.heads.now c.args.inside.now c.args.number c.get.result.now
    c.in_ok-parameters.parameters c.requires.full c.requires.heads c.requires.inside c.requires.count
    c.requires.there c.get.ensures
    (subst (λ ks. SameParameters ks ends) (sym found) (gathered_same ends)))

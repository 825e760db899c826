use Rattle.std.proofs.Common.{◌≤◌, length, ◌∙◌, arith}
use Rattle.std.proofs.lemmas.Bool.{le-ltb}
use Rattle.mc_type_table.proofs.Defining.{round_past}
use Rattle.mc_type_table.proofs.definitions.Equivalences.is_cyclic.Goals as goal

pub returns-else-number-len : goal.returns-else-number-len
returns-else-number-len c =
    λ l are.
    let past : length c.args.self.now.graph ≤ c.args.number = omega arith in
    le-ltb c.args.number c.len.result c.if-number-len.false
    ∙ round_past l c.args.self.now c.args.number past are

use Rattle.std.proofs.Common.{◌≡◌, ◌↔◌, ◌≤◌, Bool, true, length, sym, subst, arith}
use Rattle.std.proofs.lemmas.Bool.{le-ltb}
use Rattle.mc_accepted.specs.InstRules.{ComesBack}
use Rattle.mc_inst_table.specs.Rules.{inst_bodies}
use Rattle.mc_inst_table.proofs.Knowing.{back_within, back_past}
use Rattle.mc_inst_table.proofs.rings.InstDefinitions.comes_back.Goals as goal

pub returns-then-number-len : goal.returns-then-number-len
returns-then-number-len c =
    λ l are.
    back_within l c.args.self.now c.args.number c.reaches_itself.result c.reaches_itself.ensures are

pub returns-else-number-len : goal.returns-else-number-len
returns-else-number-len c =
    λ l are.
    let count = c.len.ensures in
    let beyond = c.if-number-len.false in
    let past : length c.args.self.now.graph ≤ c.args.number = omega (arith, count, beyond) in
    subst (λ (b : Bool). (b ≡ true) ↔ ComesBack (inst_bodies l) c.args.number)
    (sym (le-ltb c.args.number c.len.result c.if-number-len.false))
    (back_past l c.args.self.now c.args.number past are)

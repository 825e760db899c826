use Rattle.std.proofs.Common.{◌≡◌, ◌≤◌, true, false, length, sym, ◌∙◌, subst, arith}
use Rattle.std.proofs.lemmas.Bool.{le-ltb}
use Rattle.mc_inst_table.proofs.Leading.{rounds_within, rounds_past}
use Rattle.mc_inst_table.proofs.mode_rings.ModeRings.is_unfounded.Goals as goal

pub returns-then-number-len : goal.returns-then-number-len
returns-then-number-len c =
    λ l are.
    rounds_within l c.args.self.now c.args.number c.reaches_itself.result c.reaches_itself.ensures are

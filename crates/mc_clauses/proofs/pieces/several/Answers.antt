use Rattle.std.proofs.Common.{arith}
use Rattle.mc_clauses.proofs.Disjunctions.{several_are}
use Rattle.mc_clauses.proofs.pieces.several.Goals as goal

pub returns : goal.returns
returns c = several_are c.args.goals.items c.in_ok-goals.goals c.in_ok-goals.ensures.elements (λ e. omega (arith, c.if-len-eq1.false, c.len.ensures, e))

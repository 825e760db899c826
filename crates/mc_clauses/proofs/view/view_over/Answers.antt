use Rattle.std.proofs.Common.{arith}
use Rattle.mc_clauses.proofs.Forms.{over_others}
use Rattle.mc_clauses.proofs.view.view_over.Goals as goal

pub returns-in-len3-up-clause-is : goal.returns-in-len3-up-clause-is
returns-in-len3-up-clause-is c l own =
    over_others l own c.args.form c.args.parts.now (λ e. omega (arith, c.in-len3-up.len_at_least, e)) (λ e. omega (arith, c.in-len3-up.len_at_least, e))

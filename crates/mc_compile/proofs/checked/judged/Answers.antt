use Rattle.mc_compile.proofs.Clauses.{left_out}
use Rattle.mc_compile.proofs.checked.judged.Goals as goal

pub returns-clause-named : goal.returns-clause-named
returns-clause-named c = left_out c.args.named c.in_ok-judgement.judgement.others (c.in_ok-judgement.ensures {u = tt}).others

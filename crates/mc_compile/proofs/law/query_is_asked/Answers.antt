use Rattle.mc_compile.proofs.Asked.{query_asked}
use Rattle.mc_compile.proofs.law.query_is_asked.Goals as goal

pub returns : goal.returns
returns c = query_asked

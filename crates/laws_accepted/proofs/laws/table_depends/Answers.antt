use Rattle.laws_accepted.proofs.Tables.{table_depends}
use Rattle.laws_accepted.proofs.laws.table_depends.Goals as goal

pub returns : goal.returns
returns c = table_depends

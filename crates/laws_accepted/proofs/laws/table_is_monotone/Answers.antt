use Rattle.laws_accepted.proofs.Tables.{table_is_monotone}
use Rattle.laws_accepted.proofs.laws.table_is_monotone.Goals as goal

pub returns : goal.returns
returns c = table_is_monotone

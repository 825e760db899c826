use Rattle.laws_language.proofs.Merging.{either_is_least, one_is_merged, merged_allow_the_same}
use Rattle.laws_language.proofs.laws.merged_is_least.Goals as goal

pub returns-clause-either : goal.returns-clause-either
returns-clause-either c = either_is_least

pub returns-clause-alone : goal.returns-clause-alone
returns-clause-alone c = one_is_merged

pub returns-clause-once : goal.returns-clause-once
returns-clause-once c = merged_allow_the_same

use Rattle.laws_language.proofs.Monotone.{conj_is_monotone, disj_is_monotone, ite_is_monotone, negated_is_monotone, pruned_is_monotone}
use Rattle.laws_language.proofs.laws.determinism_is_monotone.Goals as goal

pub returns-clause-conj : goal.returns-clause-conj
returns-clause-conj c = conj_is_monotone

pub returns-clause-disj : goal.returns-clause-disj
returns-clause-disj c = disj_is_monotone

pub returns-clause-ite : goal.returns-clause-ite
returns-clause-ite c = ite_is_monotone

pub returns-clause-negated : goal.returns-clause-negated
returns-clause-negated c = negated_is_monotone

pub returns-clause-pruned : goal.returns-clause-pruned
returns-clause-pruned c = pruned_is_monotone

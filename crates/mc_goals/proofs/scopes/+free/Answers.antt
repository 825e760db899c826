use Rattle.std.proofs.Common.{rules}
use Rattle.mc_program.specs.declared.program.Goal.{the_lemmas}
use Rattle.mc_goals.proofs.scopes.+free.Goals as goal

pub push_free-returns-in-True-clause-free : goal.push_free-returns-in-True-clause-free
push_free-returns-in-True-clause-free t c = search (rules, the_lemmas)

pub push_free-returns-in-Conj-clause-free : goal.push_free-returns-in-Conj-clause-free
push_free-returns-in-Conj-clause-free t c = search (rules, the_lemmas)

pub push_free-returns-in-Disj-clause-free : goal.push_free-returns-in-Disj-clause-free
push_free-returns-in-Disj-clause-free t c = search (rules, the_lemmas)

pub push_free-returns-in-Not-clause-free : goal.push_free-returns-in-Not-clause-free
push_free-returns-in-Not-clause-free t c = search (rules, the_lemmas)

pub push_free-returns-in-Some-clause-free : goal.push_free-returns-in-Some-clause-free
push_free-returns-in-Some-clause-free t c = search (rules, the_lemmas)

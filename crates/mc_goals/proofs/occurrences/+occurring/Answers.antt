use Rattle.std.proofs.Common.{rules}
use Rattle.mc_program.specs.declared.program.Goal.{the_lemmas}
use Rattle.mc_goals.proofs.occurrences.+occurring.Goals as goal

pub push_all_occurring-push_occurring-requires : goal.push_all_occurring-push_occurring-requires
push_all_occurring-push_occurring-requires t c = search (rules, the_lemmas)

pub push_occurring-push_all_occurring-requires : goal.push_occurring-push_all_occurring-requires
push_occurring-push_all_occurring-requires t c = search (rules, the_lemmas)

pub push_occurring-push_all_occurring-requires-in-Disj : goal.push_occurring-push_all_occurring-requires-in-Disj
push_occurring-push_all_occurring-requires-in-Disj t c = search (rules, the_lemmas)

pub push_occurring-push_occurring-requires : goal.push_occurring-push_occurring-requires
push_occurring-push_occurring-requires t c = search (rules, the_lemmas)

pub push_occurring-push_occurring-requires-in-Ite : goal.push_occurring-push_occurring-requires-in-Ite
push_occurring-push_occurring-requires-in-Ite t c = search (rules, the_lemmas)

pub push_occurring-push_occurring-requires-in-Ite-2 : goal.push_occurring-push_occurring-requires-in-Ite-2
push_occurring-push_occurring-requires-in-Ite-2 t c = search (rules, the_lemmas)

pub push_occurring-push_occurring-requires-in-Not : goal.push_occurring-push_occurring-requires-in-Not
push_occurring-push_occurring-requires-in-Not t c = search (rules, the_lemmas)

pub push_occurring-push_occurring-requires-in-Some : goal.push_occurring-push_occurring-requires-in-Some
push_occurring-push_occurring-requires-in-Some t c = search (rules, the_lemmas)

pub push_occurring-returns-in-True : goal.push_occurring-returns-in-True
push_occurring-returns-in-True t c = search (rules, the_lemmas)

pub push_occurring-returns-in-Conj : goal.push_occurring-returns-in-Conj
push_occurring-returns-in-Conj t c = search (rules, the_lemmas)

pub push_occurring-returns-in-Disj : goal.push_occurring-returns-in-Disj
push_occurring-returns-in-Disj t c = search (rules, the_lemmas)

pub push_occurring-returns-in-Not : goal.push_occurring-returns-in-Not
push_occurring-returns-in-Not t c = search (rules, the_lemmas)

pub push_occurring-returns-in-Some : goal.push_occurring-returns-in-Some
push_occurring-returns-in-Some t c = search (rules, the_lemmas)

pub push_occurring-returns-in-Call : goal.push_occurring-returns-in-Call
push_occurring-returns-in-Call t c = search (rules, the_lemmas)

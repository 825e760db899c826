use Rattle.std.proofs.Common.{rules}
use Rattle.std.proofs.lemmas.Grind.{common_steps}
use Rattle.mc_program.specs.declared.program.Goal.{the_lemmas}
use Rattle.mc_goals.proofs.occurrences.+quantified.Goals as goal

pub push_all_named-push_named-requires : goal.push_all_named-push_named-requires
push_all_named-push_named-requires t c = search (rules, the_lemmas)

pub push_named-push_all_named-requires : goal.push_named-push_all_named-requires
push_named-push_all_named-requires t c = search (rules, the_lemmas)

pub push_named-push_all_named-requires-in-Disj : goal.push_named-push_all_named-requires-in-Disj
push_named-push_all_named-requires-in-Disj t c = search (rules, the_lemmas)

pub push_named-push_named-requires : goal.push_named-push_named-requires
push_named-push_named-requires t c = search (rules, the_lemmas)

pub push_named-push_named-requires-in-Ite : goal.push_named-push_named-requires-in-Ite
push_named-push_named-requires-in-Ite t c = search (rules, the_lemmas)

pub push_named-push_named-requires-in-Ite-2 : goal.push_named-push_named-requires-in-Ite-2
push_named-push_named-requires-in-Ite-2 t c = search (rules, the_lemmas)

pub push_named-push_named-requires-in-Not : goal.push_named-push_named-requires-in-Not
push_named-push_named-requires-in-Not t c = search (rules, the_lemmas)

pub push_named-push_named-requires-in-Some : goal.push_named-push_named-requires-in-Some
push_named-push_named-requires-in-Some t c = search (rules, the_lemmas)

pub push_named-returns-in-True : goal.push_named-returns-in-True
push_named-returns-in-True t c = search (rules, the_lemmas)

pub push_named-returns-in-Conj : goal.push_named-returns-in-Conj
push_named-returns-in-Conj t c = search (rules, the_lemmas)

pub push_named-returns-in-Disj : goal.push_named-returns-in-Disj
push_named-returns-in-Disj t c = search (rules, the_lemmas)

pub push_named-returns-in-Not : goal.push_named-returns-in-Not
push_named-returns-in-Not t c = search (rules, the_lemmas)

pub push_named-returns-in-Equal : goal.push_named-returns-in-Equal
push_named-returns-in-Equal t c = search (rules, the_lemmas)

pub push_named-returns-in-Call : goal.push_named-returns-in-Call
push_named-returns-in-Call t c = search (rules, the_lemmas)

pub push_named-returns-in_ok-push_named-in-Ite-2 : goal.push_named-returns-in_ok-push_named-in-Ite-2
push_named-returns-in_ok-push_named-in-Ite-2 t c = search (rules, the_lemmas, common_steps)

pub push_named-returns-in_ok-extend_from_slice-in-Some : goal.push_named-returns-in_ok-extend_from_slice-in-Some
push_named-returns-in_ok-extend_from_slice-in-Some t c = search (rules, the_lemmas, common_steps)

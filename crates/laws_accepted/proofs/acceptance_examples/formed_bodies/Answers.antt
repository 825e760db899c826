use Rattle.laws_accepted.proofs.FormedAppend.{append_is_formed}
use Rattle.laws_accepted.proofs.FormedFacts.{facts_are_formed}
use Rattle.laws_accepted.proofs.acceptance_examples.formed_bodies.Goals as goal

pub returns-clause-append : goal.returns-clause-append
returns-clause-append c = append_is_formed

pub returns-clause-facts : goal.returns-clause-facts
returns-clause-facts c = facts_are_formed

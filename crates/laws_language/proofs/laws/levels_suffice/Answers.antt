use Rattle.laws_language.proofs.Levels.{levels_suffice, levels_suffice_for_calls, levels_suffice_for_queries, one_level_more}
use Rattle.laws_language.proofs.laws.levels_suffice.Goals as goal

pub returns-clause-goals : goal.returns-clause-goals
returns-clause-goals c = levels_suffice

pub returns-clause-calls : goal.returns-clause-calls
returns-clause-calls c = levels_suffice_for_calls

pub returns-clause-queries : goal.returns-clause-queries
returns-clause-queries c = levels_suffice_for_queries

pub returns-clause-one_more : goal.returns-clause-one_more
returns-clause-one_more c = one_level_more

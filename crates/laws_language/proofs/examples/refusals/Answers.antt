use Rattle.laws_language.proofs.Refusals.{committed_without_answers, numbers_past_the_symbols, fresh_variable_twice, switch_behind_writing, all_binds_nothing}
use Rattle.laws_language.proofs.examples.refusals.Goals as goal

pub returns-clause-committed_without_answers : goal.returns-clause-committed_without_answers
returns-clause-committed_without_answers c = committed_without_answers

pub returns-clause-numbers_past_the_symbols : goal.returns-clause-numbers_past_the_symbols
returns-clause-numbers_past_the_symbols c = numbers_past_the_symbols

pub returns-clause-fresh_variable_twice : goal.returns-clause-fresh_variable_twice
returns-clause-fresh_variable_twice c = fresh_variable_twice

pub returns-clause-switch_behind_writing : goal.returns-clause-switch_behind_writing
returns-clause-switch_behind_writing c = switch_behind_writing

pub returns-clause-all_binds_nothing : goal.returns-clause-all_binds_nothing
returns-clause-all_binds_nothing c = all_binds_nothing

use Rattle.laws_sources.proofs.Read.{clauses_are_of_values, goals_are_of_values}
use Rattle.laws_sources.proofs.reading_laws.read_are_of_values.Goals as goal

pub returns : goal.returns
returns c = record { clauses = clauses_are_of_values; goals = goals_are_of_values }

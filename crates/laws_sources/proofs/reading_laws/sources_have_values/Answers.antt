use Rattle.laws_sources.proofs.ReadingSources.{files_read_are_of_values, read_are_of_values, named_items_have_values}
use Rattle.laws_sources.proofs.reading_laws.sources_have_values.Goals as goal

pub returns : goal.returns
returns c = record { files = files_read_are_of_values; read = read_are_of_values; items = named_items_have_values }

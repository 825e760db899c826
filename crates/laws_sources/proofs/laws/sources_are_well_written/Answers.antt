use Rattle.laws_sources.proofs.Sources.{read_files_have_form, sources_are_well_written}
use Rattle.laws_sources.proofs.laws.sources_are_well_written.Goals as goal

pub returns-clause-forms : goal.returns-clause-forms
returns-clause-forms c = read_files_have_form

pub returns-clause-sources : goal.returns-clause-sources
returns-clause-sources c = sources_are_well_written

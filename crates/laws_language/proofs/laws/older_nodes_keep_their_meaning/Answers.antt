use Rattle.laws_language.proofs.Merging.{older_nodes_keep_paths, older_nodes_keep_values, older_nodes_keep_inclusion, older_nodes_keep_merges}
use Rattle.laws_language.proofs.laws.older_nodes_keep_their_meaning.Goals as goal

pub returns-clause-paths : goal.returns-clause-paths
returns-clause-paths c = older_nodes_keep_paths

pub returns-clause-values : goal.returns-clause-values
returns-clause-values c = older_nodes_keep_values

pub returns-clause-inclusion : goal.returns-clause-inclusion
returns-clause-inclusion c = older_nodes_keep_inclusion

pub returns-clause-merges : goal.returns-clause-merges
returns-clause-merges c = older_nodes_keep_merges

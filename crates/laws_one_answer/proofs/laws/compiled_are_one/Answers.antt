use Rattle.laws_one_answer.proofs.OneCompiled.{all-compiled-are-one}
use Rattle.laws_one_answer.proofs.laws.compiled_are_one.Goals as goal

pub returns : goal.returns
returns c = let phases = c.at_most_one_phase.ensures in all-compiled-are-one phases.reads phases.links phases.types phases.clauses c.one_inst_list.ensures c.one_ordered_answer.ensures c.moded_are_one.ensures

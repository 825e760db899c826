use Rattle.laws_types.proofs.JudgedPrograms.{judged_programs_fit}
use Rattle.laws_types.proofs.whole_laws.judged_programs_fit.Goals as goal

pub returns : goal.returns
returns c = judged_programs_fit

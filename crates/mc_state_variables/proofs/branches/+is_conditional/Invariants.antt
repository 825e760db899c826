use Rattle.mc_term_data.specs.declared.term.Term.{size-Term}
use Rattle.mc_state_variables.proofs.branches.+is_conditional.Given as goal

abbrev pub decreases-is_conditional : goal.decreases-is_conditional
decreases-is_conditional l = size-Term l.goal.now

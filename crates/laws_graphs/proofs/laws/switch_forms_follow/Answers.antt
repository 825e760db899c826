use Rattle.laws_graphs.proofs.Switching.{switch-forms-follow}
use Rattle.laws_graphs.proofs.laws.switch_forms_follow.Goals as goal

pub returns : goal.returns
returns c = switch-forms-follow

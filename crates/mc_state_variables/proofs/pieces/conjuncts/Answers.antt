use Rattle.std.proofs.Common.{ap, sym, ◌∙◌, map}
use Rattle.mc_term_data.specs.Plain.{plain_term}
use Rattle.mc_state_variables.specs.code.Pieces.{conjuncts}
use Rattle.mc_state_variables.proofs.Lists.{listed_terms}
use Rattle.mc_state_variables.proofs.Closing.{plain_conj}
use Rattle.mc_state_variables.proofs.pieces.conjuncts.Goals as goal

pub returns-in-Conj : goal.returns-in-Conj
returns-in-Conj c =
    ap (map plain_term) c.into_vec.ensures.items
    ∙ sym (ap conjuncts (plain_conj c.args.goal c.in-Conj.goals (sym c.in-Conj.ensures)) ∙ listed_terms (map plain_term c.in-Conj.goals))

use Rattle.mc_builtins.proofs.Telling.{known_told, outcome_of_nl}
use Rattle.mc_builtins.proofs.applying.at_state.Goals as goal

pub returns-in_ok-new-in-Nl-clause-tells : goal.returns-in_ok-new-in-Nl-clause-tells
returns-in_ok-new-in-Nl-clause-tells c =
    known_told _ _ _ (λ library input. rw c.in-Nl.is (outcome_of_nl library input _ _ _ c.requires.state c.in_ok-new-in-Nl.ensures)) _ c.wrote.ensures.tells

-- The picks of a walk are among the candidates of its names.
use Rattle.std.proofs.Common.{[], ◌∷◌, ◌++◌, sym, subst}
use Rattle.mc_program.specs.Programs.{int_type, string_type}
use Rattle.mc_accepted.specs.Resolving.{push_variable, push_number, push_text, choose, equate, call, close_head, below}
use Rattle.laws_made_types.specs.Known.{AllKnown}
use Rattle.laws_made_types.specs.MadeTypes.{PicksAreKnown}

pub picks_are_known : PicksAreKnown
picks_are_known P D τ [] stack picks k w = subst (AllKnown P D) (sym w) tt
picks_are_known P D τ (push_variable v ∷ steps) stack picks k w = picks_are_known P D τ steps (stack ++ τ v ∷ []) picks k w
picks_are_known P D τ (push_number ∷ steps) stack picks k w = picks_are_known P D τ steps (stack ++ int_type ∷ []) picks k w
picks_are_known P D τ (push_text ∷ steps) stack picks k w = picks_are_known P D τ steps (stack ++ string_type ∷ []) picks k w
picks_are_known P D τ (choose cs n ∷ steps) stack [] k w = absurd w
picks_are_known P D τ (choose cs n ∷ steps) stack (c ∷ picks) k w = (k.0 c w.0, picks_are_known P D τ steps (below n stack ++ w.2 ∷ []) picks k.1 w.4)
picks_are_known P D τ (equate ∷ steps) stack picks k w = picks_are_known P D τ steps (below 2 stack) picks k w.2
picks_are_known P D τ (call cs n ∷ steps) stack [] k w = absurd w
picks_are_known P D τ (call cs n ∷ steps) stack (c ∷ picks) k w = (k.0 c w.0, picks_are_known P D τ steps (below n stack) picks k.1 w.3)
picks_are_known P D τ (close_head p n ∷ steps) stack picks k w = picks_are_known P D τ steps (below n stack) picks k w.1

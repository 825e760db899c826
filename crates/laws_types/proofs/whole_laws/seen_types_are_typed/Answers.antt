use Rattle.laws_types.proofs.SeenTypes.{seen_types_are_typed, seen_types_are_final}
use Rattle.laws_types.proofs.whole_laws.seen_types_are_typed.Goals as goal

pub returns-clause-goals : goal.returns-clause-goals
returns-clause-goals c = seen_types_are_typed

pub returns-clause-preds : goal.returns-clause-preds
returns-clause-preds c = seen_types_are_final

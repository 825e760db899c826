-- What the walk of a clause says of the typing of its normal goal.
use Rattle.std.proofs.Common.{[]}
use Rattle.mc_accepted.specs.Resolving.{steps_of}
use Rattle.laws_made_types.specs.Makes.{makes, kept}
use Rattle.laws_made_types.proofs.Tracing.{has_trace}
use Rattle.laws_made_types.proofs.TracedClauses.{traces_are_typed}
use Rattle.laws_types.specs.WalkLaws.{WalksAreTyped}

-- the variables that are made have the types of their occurrences
pub walks_are_typed : WalksAreTyped
walks_are_typed P D clause picks τ known values w =
    let trace = has_trace P D τ (steps_of clause) [] picks w in
    let typed = traces_are_typed P D clause picks τ trace.0 known values trace.1 in
    record {
      made = kept (makes clause) trace.0;
      as_many = typed.as_many;
      heads = typed.heads;
      typed = typed.typed;
    }

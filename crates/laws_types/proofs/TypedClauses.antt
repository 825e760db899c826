-- What typings of a clause's normal goal say of its walk.
use Rattle.std.proofs.Common.{[], length}
use Rattle.mc_accepted.specs.Normal.{names_in}
use Rattle.mc_accepted.specs.Resolving.{resolved, steps_of}
use Rattle.laws_made_types.proofs.Tracing.{goes_through}
use Rattle.laws_made_types.proofs.TypedClauses.{typed_are_traced}
use Rattle.laws_types.specs.WalkLaws.{TypedAreWalked}

pub typed_are_walked : TypedAreWalked
typed_are_walked P D clause picks T known picked proper many at_head typed =
    let traced = typed_are_traced P D clause picks T known picked proper many at_head typed in
    goes_through P D (λ v. T (names_in (length (P.preds clause.pred).types) (resolved clause picks) v)) (steps_of clause) [] picks traced.0 traced.1

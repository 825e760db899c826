use Rattle.std.proofs.lemmas.Bool.{eqb-true}
use Rattle.std.proofs.Common.{arith}
use Rattle.mc_self_check.proofs.Listing.{in_at}
use Rattle.mc_self_check.proofs.listed.is_in_place.Goals as goal

pub returns-then-place-symbols : goal.returns-then-place-symbols
returns-then-place-symbols c h =
    in_at c.args.symbol c.args.symbols.now c.saturating_sub-place.result (omega arith) (eqb-true _ _ h)

use Rattle.std.proofs.Common.{ap, sym, ◌∷◌, []}
use Rattle.mc_program.specs.Values.{int}
use Rattle.mc_model.specs.Outcomes.{gives}
use Rattle.mc_builtins.proofs.Division.{negated}
use Rattle.mc_builtins.proofs.texts.of_integer.Goals as goal

pub returns-in-IntNegate : goal.returns-in-IntNegate
returns-in-IntNegate c library input =
    rw c.in-IntNegate.is (ap (λ n. gives (int n ∷ [])) (sym (negated _ _ c.ranges.a c.wrapping_neg.ensures)))

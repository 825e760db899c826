use Rattle.std.proofs.Common.{ap, sym, ◌∷◌, []}
use Rattle.std.specs.Int.{w64}
use Rattle.std.proofs.lemmas.Int.{wrapping_add_is, wrapping_sub_is}
use Rattle.mc_program.specs.Values.{int}
use Rattle.mc_model.specs.Outcomes.{gives}
use Rattle.mc_builtins.proofs.integers.of_integers.Goals as goal

pub returns-in-IntPlus : goal.returns-in-IntPlus
returns-in-IntPlus c library input =
    rw c.in-IntPlus.is (ap (λ n. gives (int n ∷ [])) (sym (wrapping_add_is w64 _ _ c.ranges.a c.ranges.b)))

pub returns-in-IntMinus : goal.returns-in-IntMinus
returns-in-IntMinus c library input =
    rw c.in-IntMinus.is (ap (λ n. gives (int n ∷ [])) (sym (wrapping_sub_is w64 _ _ c.ranges.a c.ranges.b)))

use Rattle.std.proofs.Common.{refl, sym, ◌∙◌}
use Rattle.mc_declarations.specs.Declarations.{builtins}
use Rattle.mc_declarations.proofs.Libraries.{builtin_here, builtin_later}
use Rattle.mc_declarations.proofs.builtins.builtin_of.Goals as goal

pub loop-builtin-init : goal.loop-builtin-init
unfolding builtins
loop-builtin-init c = refl

pub returns-then-is_builtin : goal.returns-then-is_builtin
returns-then-is_builtin c =
    builtin_here _ _ _ _ _ _ c.loop-builtin-test.true (sym c.is_builtin.ensures ∙ c.if-is_builtin.true)
    c.loop-builtin.invariant

pub loop-builtin-preserved : goal.loop-builtin-preserved
loop-builtin-preserved c =
    builtin_later _ _ _ _ _ _ c.loop-builtin-test.true
    (sym c.is_builtin.ensures ∙ c.if-is_builtin.false) c.loop-builtin.invariant

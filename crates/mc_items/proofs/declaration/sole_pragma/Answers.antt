use Rattle.std.proofs.Common.{refl, arith, None}
use Rattle.mc_items.specs.Declarations.{sole_pragma}
use Rattle.mc_items.proofs.Shapes.{unless_one}
use Rattle.mc_items.proofs.declaration.sole_pragma.Goals as goal

pub returns-in_default : goal.returns-in_default
returns-in_default c = unless_one (λ ts. None) sole_pragma refl (λ t u ts. refl) c.args.parts.now (λ e. omega arith)

pub returns-in_default-2 : goal.returns-in_default-2
returns-in_default-2 c = unless_one (λ ts. None) sole_pragma refl (λ t u ts. refl) c.args.parts.now (λ e. omega arith)

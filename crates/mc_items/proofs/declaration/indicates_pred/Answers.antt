use Rattle.std.proofs.Common.{refl, arith, false, false}
use Rattle.mc_items.specs.Declarations.{indicates_pred}
use Rattle.mc_items.proofs.Shapes.{unless_one}
use Rattle.mc_items.proofs.declaration.indicates_pred.Goals as goal

pub returns-in_default : goal.returns-in_default
returns-in_default c = unless_one (λ ts. false) (indicates_pred c.args.name.now) refl (λ t u ts. refl) c.args.parts.now (λ e. omega arith)

pub returns-in_default-2 : goal.returns-in_default-2
returns-in_default-2 c = unless_one (λ ts. false) (indicates_pred c.args.name.now) refl (λ t u ts. refl) c.args.parts.now (λ e. omega arith)

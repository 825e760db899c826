use Rattle.std.proofs.Common.{◌∙◌, refl, arith, false}
use Rattle.mc_items.specs.Declarations.{declares, is_constrained}
use Rattle.mc_items.proofs.Shapes.{unless_two, first_of_two}
use Rattle.mc_items.proofs.declaration.is_constrained.Goals as goal

pub returns-in-len2 : goal.returns-in-len2
returns-in-len2 c =
    c.declares.ensures ∙ first_of_two declares is_constrained (λ t u. refl) c.args.parts.now c.first-item.result c.in-len2.len_at_least c.in-len2.len_below c.first-item.is

pub returns-in_default : goal.returns-in_default
returns-in_default c = unless_two (λ ts. false) is_constrained refl (λ t. refl) (λ t u v ts. refl) c.args.parts.now (λ e. omega arith)

pub returns-in_default-2 : goal.returns-in_default-2
returns-in_default-2 c = unless_two (λ ts. false) is_constrained refl (λ t. refl) (λ t u v ts. refl) c.args.parts.now (λ e. omega arith)

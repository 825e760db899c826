use Rattle.std.proofs.Common.{refl, arith, false}
use Rattle.mc_items.specs.Declarations.{is_fact_table}
use Rattle.mc_items.proofs.Shapes.{unless_two}
use Rattle.mc_items.proofs.declaration.is_fact_table.Goals as goal

pub returns-in_default : goal.returns-in_default
returns-in_default c = unless_two (λ ts. false) is_fact_table refl (λ t. refl) (λ t u v ts. refl) c.args.parts.now (λ e. omega arith)

pub returns-in_default-2 : goal.returns-in_default-2
returns-in_default-2 c = unless_two (λ ts. false) is_fact_table refl (λ t. refl) (λ t u v ts. refl) c.args.parts.now (λ e. omega arith)

use Rattle.std.proofs.Common.{◌∙◌, ◌&&◌, Bool, refl, ap, sym}
use Rattle.mc_term_data.specs.Plain.{plain_term, PlainTerm}
use Rattle.mc_items.specs.Declarations.{is_constraint, declares, declared}
use Rattle.mc_items.proofs.Shapes.{first_of_two, declared-one, declared-more}
use Rattle.mc_items.proofs.declaration.+declares.Goals as goal

pub declared-returns-in-len1 : goal.declared-returns-in-len1
declared-returns-in-len1 t c = c.is_order.ensures ∙ declared-one _ _ c.in-len1.len_at_least c.in-len1.len_below

pub declared-returns-then-is_constraint : goal.declared-returns-then-is_constraint
declared-returns-then-is_constraint t c =
    let two = first_of_two (λ (t : PlainTerm). is_constraint c.args.name.now && declares t) (declared c.args.name.now) (λ t u. refl) c.args.parts.now c.first-item.result c.in-len2.len_at_least c.in-len2.len_below c.first-item.is in
    c.declares.ensures ∙ ap (λ (b : Bool). b && declares (plain_term c.first-item.result)) (sym c.if-is_constraint.true ∙ c.is_constraint.ensures) ∙ two

pub declared-returns-else-is_constraint : goal.declared-returns-else-is_constraint
declared-returns-else-is_constraint t c =
    let two = first_of_two (λ (t : PlainTerm). is_constraint c.args.name.now && declares t) (declared c.args.name.now) (λ t u. refl) c.args.parts.now c.first-item.result c.in-len2.len_at_least c.in-len2.len_below c.first-item.is in
    c.if-is_constraint.false ∙ ap (λ (b : Bool). b && declares (plain_term c.first-item.result)) (sym c.if-is_constraint.false ∙ c.is_constraint.ensures) ∙ two

pub declared-returns-in_default-2 : goal.declared-returns-in_default-2
declared-returns-in_default-2 t c = declared-more _ _ c.in_default.len_at_least

use Rattle.std.proofs.Common.{◌≡◌, ◌∙◌, Some, map, List, ap, sym, subst}
use Rattle.mc_program.specs.PlainPrograms.{type_terms, plain_type}
use Rattle.mc_program.specs.declared.ty.Ty.{Ty}
use Rattle.mc_accepted.specs.ProperTypes.{count_types, ProperType, EachProper}
use Rattle.mc_procs.specs.Procedures.{parameters_in}
use Rattle.mc_self_check.proofs.TypeViews.{plain_type-Union, proper_row, count_row}
use Rattle.mc_self_check.proofs.proper.+proper.Goals as goal

pub is_proper-returns-then-has_parameters : goal.is_proper-returns-then-has_parameters
is_proper-returns-then-has_parameters t c =
    let D = parameters_in c.args.program.now in
    let view = ap plain_type c.in-Union.is ∙ plain_type-Union c.in-Union.u c.in-Union.args in
    let row = proper_row D (map plain_type c.in-Union.args) in
    let known = c.has_parameters.ensures.0 c.if-has_parameters.true in
    let number : D c.in-Union.u ≡ Some (count_types (type_terms (map plain_type c.in-Union.args))) =
    known ∙ ap (λ n. Some n) (c.len.ensures ∙ sym (count_row c.in-Union.args)) in (
      λ h. subst (ProperType D) (sym view) (number, row.1 (subst (λ (l : List Ty). EachProper D (map plain_type l)) c.as_slice.ensures.items (c.all_proper.ensures.0 h))),
      λ h. c.all_proper.ensures.1 (subst (λ (l : List Ty). EachProper D (map plain_type l)) (sym c.as_slice.ensures.items) (row.0 (subst (ProperType D) view h).1)),
    )

pub is_proper-returns-else-has_parameters : goal.is_proper-returns-else-has_parameters
is_proper-returns-else-has_parameters t c =
    let D = parameters_in c.args.program.now in
    let view = ap plain_type c.in-Union.is ∙ plain_type-Union c.in-Union.u c.in-Union.args in (
      λ h. let no = c.if-has_parameters.false in cc,
      λ h. c.has_parameters.ensures.1 ((subst (ProperType D) view h).0 ∙ ap (λ n. Some n) (count_row c.in-Union.args ∙ sym c.len.ensures)),
    )

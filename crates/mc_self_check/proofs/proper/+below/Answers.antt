use Rattle.std.proofs.Common.{◌∙◌, map, List, ap, sym, subst}
use Rattle.mc_program.specs.PlainPrograms.{plain_type}
use Rattle.mc_program.specs.declared.ty.Ty.{Ty}
use Rattle.mc_accepted.specs.ProperTypes.{Below, EachBelow}
use Rattle.mc_self_check.proofs.TypeViews.{plain_type-Union, below_row}
use Rattle.mc_self_check.proofs.proper.+below.Goals as goal

pub is_below-returns-in-Union : goal.is_below-returns-in-Union
is_below-returns-in-Union t c =
    let view = ap plain_type c.in-Union.is ∙ plain_type-Union _ c.in-Union.args in
    let row = below_row c.args.top (map plain_type c.in-Union.args) in (
      λ h. subst (Below c.args.top) (sym view) (row.1 (subst (λ (l : List Ty). EachBelow c.args.top (map plain_type l)) c.as_slice.ensures.items (c.all_below.ensures.0 h))),
      λ h. c.all_below.ensures.1 (subst (λ (l : List Ty). EachBelow c.args.top (map plain_type l)) (sym c.as_slice.ensures.items) (row.0 (subst (Below c.args.top) view h))),
    )

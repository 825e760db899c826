use Rattle.std.proofs.Common.{[], ◌∷◌, ◌++◌, length, refl, arith, ◌≡◌, ◌+◌, subst}
use Rattle.mc_program.specs.Printed.{printed}
use Rattle.laws_print.specs.Terms.{term_of}
use Rattle.laws_print.specs.Whole.{IsTheTerm}
use Rattle.laws_print.proofs.Items.{value_item, behind}
use Rattle.laws_print.proofs.printed_values_read_back.Goals as goal

pub returns : goal.returns
returns c names v h deep =
    let here = printed names v ++ (46 ∷ 10 ∷ []) in
    let long : 0 + length (printed names v) + 1 ≡ length (printed names v) + 1 = omega arith in
    subst (λ next. IsTheTerm here 0 (term_of names 1 v) next) long (value_item c.at_most_one_term.ensures names v here 1 0 (10 ∷ []) h refl (behind [] here) deep)

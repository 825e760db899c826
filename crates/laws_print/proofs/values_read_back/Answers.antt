use Rattle.std.proofs.Common.{◌∷◌, ◌++◌, length}
use Rattle.mc_program.specs.Printed.{printed}
use Rattle.mc_terms.specs.Lines.{line_at}
use Rattle.laws_print.proofs.Items.{value_item, behind}
use Rattle.laws_print.proofs.values_read_back.Goals as goal

pub returns : goal.returns
returns c names v front rest h ends deep =
    let here = printed names v ++ (46 ∷ rest) in
    value_item c.at_most_one_term.ensures names v (front ++ here) (line_at (front ++ here) (length front)) (length front) rest h ends (behind front here) deep

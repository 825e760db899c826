use Rattle.std.proofs.Common.{length, ap, sym, ◌∙◌}
use Rattle.std.proofs.lemmas.List.{length-map}
use Rattle.mc_program.specs.Values.{plain_value}
use Rattle.mc_values.specs.Parts.{arguments}
use Rattle.mc_values.proofs.Arguments.{arguments-Con}
use Rattle.tests_running.proofs.values_tests.arity.Goals as goal

pub returns-in-Con : goal.returns-in-Con
returns-in-Con c =
    let at = ap (λ v. length (arguments (plain_value v))) c.in-Con.is in
    let con = ap length (arguments-Con c.in-Con.field-0 c.in-Con.args) in
    let same = ap (λ v. length (arguments v)) (c.in_ok-v.ensures {u = tt}) in
    c.len.ensures ∙ sym (length-map c.in-Con.args plain_value) ∙ sym con ∙ sym at ∙ same

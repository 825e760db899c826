use Rattle.std.proofs.Common.{rules}
use Rattle.mc_program.specs.Values.{plain_value}
use Rattle.mc_program.specs.Printed.{names_of}
use Rattle.mc_terms.specs.Answers.{IsItem}
use Rattle.laws_print.specs.Whole.{item_text}
use Rattle.laws_print.proofs.back.read_back.Goals as goal

pub returns-in-Ok-Some-clause-back : goal.returns-in-Ok-Some-clause-back
returns-in-Ok-Some-clause-back c text deep =
    let v = plain_value c.args.v.now in
    let names = names_of c.args.program.now in
    let item : IsItem (item_text names v) 0 c.in-Ok-Some.term c.in-Ok-Some.field-0-0-1 = search rules in
    ((c.printed_values_read_back.ensures names v text deep).alone c.in-Ok-Some.term c.in-Ok-Some.field-0-0-1 item).0

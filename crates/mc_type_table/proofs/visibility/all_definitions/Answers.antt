use Rattle.std.proofs.lemmas.Result.{IfOk-weaker}
use Rattle.mc_names.specs.Linked.{plain_names}
use Rattle.mc_type_table.proofs.visibility.all_definitions.Goals as goal

pub returns : goal.returns
returns c =
    let l = plain_names c.args.names.now in
    IfOk-weaker c.expanded_definitions.result _ _
    (λ row made u. made l c.in_ok-equivalences.ensures u)
    c.expanded_definitions.ensures

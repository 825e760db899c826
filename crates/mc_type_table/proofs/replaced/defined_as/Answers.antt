use Rattle.std.proofs.Common.{◌≡◌, map, sym, ap, ◌∙◌}
use Rattle.std.proofs.lemmas.Result.{IfOk-weaker}
use Rattle.mc_program.specs.PlainPrograms.{plain_type, type_terms}
use Rattle.mc_model.specs.Types.{type_at, instance_of}
use Rattle.mc_type_table.specs.Expanded.{defined_as}
use Rattle.mc_type_table.specs.Held.{held}
use Rattle.mc_type_table.proofs.Replacing.{union_undefined}
use Rattle.mc_type_table.proofs.replaced.defined_as.Goals as goal

pub returns-in-Some : goal.returns-in-Some
returns-in-Some c =
    let ts = type_terms (map plain_type c.args.arguments) in
    IfOk-weaker c.instance.result
    (λ r. plain_type r ≡ instance_of (type_at ts) (plain_type c.in-Some.body.now))
    (λ r. plain_type r ≡ defined_as c.args.number ts (held c.args.definitions.now c.args.number))
    (λ r is. is ∙ ap (defined_as c.args.number ts) c.in-Some.ensures)
    c.instance.ensures

pub returns-in-None : goal.returns-in-None
returns-in-None c =
    union_undefined c.args.number c.args.arguments (held c.args.definitions.now c.args.number)
    (sym c.in-None.ensures)

use Rattle.std.proofs.Common.{◌∙◌, ap, arith, length}
use Rattle.mc_names.specs.Plain.{plain_name_arity}
use Rattle.mc_modules.proofs.Kept.{has-at, has-nowhere}
use Rattle.mc_modules.proofs.linking.Linking.has_definition.Goals as goal

pub returns-then-number-self : goal.returns-then-number-self
returns-then-number-self c =
    let n = ap length c.self.view_is in
    has-nowhere c.args.self.now c.args.own c.args.number c.args.kind (plain_name_arity c.args.id) (omega (arith, n))

pub returns : goal.returns
returns c = c.has.ensures ∙ has-at c.args.self.now c.args.own c.args.number c.args.kind (plain_name_arity c.args.id) c.table.result.now c.table.ensures

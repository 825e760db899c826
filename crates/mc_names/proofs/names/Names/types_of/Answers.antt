use Rattle.std.proofs.Common.{◌≡◌, ap, ◌∙◌, nat_eq, subst}
use Rattle.std.specs.Prelude.{IfOk}
use Rattle.mc_names.specs.Plain.{plain_name_arity}
use Rattle.mc_names.specs.code.Chosen.{chosen}
use Rattle.mc_names.proofs.Chosen.{of_id}
use Rattle.mc_names.proofs.names.Names.types_of.Goals as goal

pub returns : goal.returns
returns c =
    let types = c.args.self.now.types in
    let x = plain_name_arity c.args.id in
    let same = ap (chosen (λ d. nat_eq d.name.arity x.arity) types) c.types_called.ensures ∙ of_id types x in
    subst (λ ks. IfOk c.with_arity.result (λ all. all.items ≡ ks)) same c.with_arity.ensures

use Rattle.std.proofs.Common.{◌≡◌, ◌<◌, length, sym, ap, ◌∙◌}
use Rattle.std.specs.Prelude.{Some, slice_get}
use Rattle.std.specs.Str.{bytes_eq}
use Rattle.std.proofs.lemmas.Bool.{ltb-true}
use Rattle.std.proofs.lemmas.Option.{slice_get-get_or}
use Rattle.mc_type_table.proofs.Seeing.{named_otherwise}
use Rattle.mc_type_table.proofs.visibility.can_be_named.Goals as goal

pub returns-in-Some : goal.returns-in-Some
returns-in-Some c =
    let found = (c.in-Some.ensures {u = tt}).lookup in
    let below : c.args.own < length c.args.scopes.now =
    ltb-true c.args.own (length c.args.scopes.now) (sym found.0)
    in
    let there : slice_get c.args.scopes.now c.args.own ≡ Some c.in-Some.scope.now =
    slice_get-get_or c.args.scopes.now c.args.own _ below ∙ ap Some (sym found.1)
    in
    named_otherwise c.args.own c.args.name.now c.args.scopes.now c.in-Some.scope.now c.eq.result there
    (c.eq.ensures ∙ ap (λ w. bytes_eq w c.args.name.now) c.bytes.ensures.items)

use Rattle.std.proofs.Common.{◌≡◌, [], IfOk, ap, subst, sym, ◌∙◌, map}
use Rattle.std.specs.Option.{option_copied}
use Rattle.mc_names.specs.Linked.{plain_names}
use Rattle.mc_names.specs.code.Index.{listed}
use Rattle.mc_signatures.specs.WrittenModes.{plain_written, modes_among}
use Rattle.mc_signatures.specs.code.ByName.{entry_behind, items_kept}
use Rattle.mc_signatures.specs.code.Callables.{plain_callable}
use Rattle.mc_signatures.proofs.Listed.{group_or_none, listed_lookup}
use Rattle.mc_signatures.proofs.Named.{its_name, its_items}
use Rattle.mc_signatures.proofs.declared.modes_listed.Goals as goal

pub returns-in-Some : goal.returns-in-Some
returns-in-Some c =
    let name = c.args.wanted.id.name.now in
    let found : map entry_behind c.as_slice.result.now ≡ listed (items_kept c.args.index.now) name =
    ap (map entry_behind) c.as_slice.ensures.value
    ∙ ap (group_or_none its_name its_items) (sym (sym c.get.ensures.value ∙ ap option_copied c.in-Some.is))
    ∙ sym (listed_lookup its_name its_items c.args.index.now.named.entries name)
    in
    subst
    (λ es. IfOk c.modes_among.result (λ modes. map plain_written modes.items ≡ modes_among (plain_names c.args.names.now) c.args.own (plain_callable c.args.wanted) es))
    found c.modes_among.ensures

pub returns-in-None : goal.returns-in-None
returns-in-None c =
    let name = c.args.wanted.id.name.now in
    let none : [] ≡ listed (items_kept c.args.index.now) name =
    ap (group_or_none its_name its_items) (sym (sym c.get.ensures.value ∙ ap option_copied c.in-None.is))
    ∙ sym (listed_lookup its_name its_items c.args.index.now.named.entries name)
    in
    ap (map plain_written) c.new.ensures.items
    ∙ ap (modes_among (plain_names c.args.names.now) c.args.own (plain_callable c.args.wanted)) none

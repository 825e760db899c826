use Rattle.std.proofs.Common.{◌≡◌, ◌++◌, ◌∷◌, [], ap, cond, refl, ◌∙◌, map}
use Rattle.std.specs.Str.{bytes_eq}
use Rattle.mc_decl_syntax.specs.Entries.{plain_entry}
use Rattle.mc_names.specs.code.Index.{listed}
use Rattle.mc_signatures.specs.code.ByName.{entry_behind, items_kept}
use Rattle.mc_signatures.proofs.Behind.{map_more}
use Rattle.mc_signatures.proofs.Listed.{entries_of, listed_insert, listed_behind}
use Rattle.mc_signatures.proofs.Named.{its_name, its_items}
use Rattle.mc_signatures.proofs.by_name.ItemsByName.put.Goals as goal

pub returns : goal.returns
returns c w =
    let name = c.args.name.now in
    let group = c.in_ok-group.group.items in
    let pushed : map entry_behind c.push.new.self.items ≡ map entry_behind group ++ plain_entry c.args.entry.now ∷ [] =
    ap (map entry_behind) c.in_ok-push.ensures.items ∙ map_more entry_behind group (c.args.entry ∷ [])
    in
    ap (λ es. listed (entries_of its_name its_items es) w) c.in_ok-insert.ensures.entries
    ∙ listed_insert its_name its_items _ (λ x y. refl) c.take.new.self.named.entries c.args.name c.push.new.self w
    ∙ ap (λ es. cond (bytes_eq w name) es (listed (items_kept c.take.new.self) w)) pushed
    ∙ ap (cond (bytes_eq w name) (map entry_behind group ++ plain_entry c.args.entry.now ∷ [])) (c.in_ok-group.ensures.left w)
    ∙ listed_behind (items_kept c.args.self.now) w name (map entry_behind group) (plain_entry c.args.entry.now) c.in_ok-group.ensures.taken

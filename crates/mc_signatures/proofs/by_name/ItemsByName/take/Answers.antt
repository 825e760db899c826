use Rattle.std.proofs.Common.{ap, cond, sym, refl, ◌∙◌, map}
use Rattle.std.specs.Str.{bytes_eq}
use Rattle.mc_names.specs.code.Index.{listed}
use Rattle.mc_signatures.specs.code.ByName.{entry_behind}
use Rattle.mc_signatures.proofs.Listed.{entries_of, group_or_none, listed_lookup, listed_insert}
use Rattle.mc_signatures.proofs.Named.{its_name, its_items}
use Rattle.mc_signatures.proofs.by_name.ItemsByName.take.Goals as goal

pub returns-in-Some-clause-taken : goal.returns-in-Some-clause-taken
returns-in-Some-clause-taken c =
    ap (group_or_none its_name its_items) (sym c.in-Some.is ∙ c.in_ok-group.ensures.old)
    ∙ sym (listed_lookup its_name its_items c.args.self.now.named.entries c.args.name.now)

pub returns-in-Some-clause-left : goal.returns-in-Some-clause-left
returns-in-Some-clause-left c w =
    ap (λ es. listed (entries_of its_name its_items es) w) c.in_ok-group.ensures.entries
    ∙ listed_insert its_name its_items _ (λ x y. refl) c.args.self.now.named.entries c.args.name c.new.result w
    ∙ ap (λ es. cond (bytes_eq w c.args.name.now) (map entry_behind es) (listed (entries_of its_name its_items c.args.self.now.named.entries) w)) c.new.ensures.items

pub returns-in-None-clause-taken : goal.returns-in-None-clause-taken
returns-in-None-clause-taken c =
    ap (map entry_behind) c.new-in-None.ensures.items
    ∙ ap (group_or_none its_name its_items) (sym c.in-None.is ∙ c.in_ok-group.ensures.old)
    ∙ sym (listed_lookup its_name its_items c.args.self.now.named.entries c.args.name.now)

pub returns-in-None-clause-left : goal.returns-in-None-clause-left
returns-in-None-clause-left c w =
    ap (λ es. listed (entries_of its_name its_items es) w) c.in_ok-group.ensures.entries
    ∙ listed_insert its_name its_items _ (λ x y. refl) c.args.self.now.named.entries c.args.name c.new.result w
    ∙ ap (λ es. cond (bytes_eq w c.args.name.now) (map entry_behind es) (listed (entries_of its_name its_items c.args.self.now.named.entries) w)) c.new.ensures.items

use Rattle.std.proofs.Common.{sym, ◌∙◌}
use Rattle.mc_names.specs.Plain.{is_definition, plain_definition}
use Rattle.mc_defs_uses.proofs.AbstractTypes.{none_of_them}
use Rattle.mc_names.proofs.Same.{same_definition}
use Rattle.mc_defs_uses.proofs.Views.{is_member-views}
use Rattle.mc_defs_uses.proofs.definition_set.DefinitionSet.contains.Goals as goal

pub returns-then-not-self : goal.returns-then-not-self
returns-then-not-self c =
    rw (← c.self.view_is)
    (sym
    (none_of_them c.self.inside.has_abstract_types _ (plain_definition c.args.definition) c.self.invariant c.if-not-self.true (sym c.is_abstract.ensures ∙ c.if-is_abstract.true)))

pub returns : goal.returns
returns c = rw (← c.self.view_is) (c.contains.ensures ∙ sym (is_member-views plain_definition _ is_definition same_definition c.args.definition c.self.inside.definitions.keys))

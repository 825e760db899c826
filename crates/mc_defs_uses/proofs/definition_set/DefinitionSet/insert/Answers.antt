use Rattle.std.proofs.Common.{sym, ◌∙◌, ap, not, map}
use Rattle.mc_base.proofs.NameSetLaws.{on_err_always}
use Rattle.mc_names.specs.Plain.{is_definition, plain_definition}
use Rattle.mc_names.proofs.Same.{same_definition}
use Rattle.mc_defs_uses.proofs.Views.{is_member-views, views-put}
use Rattle.mc_defs_uses.proofs.definition_set.DefinitionSet.insert.Goals as goal

pub returns-then-is_abstract-clause-added : goal.returns-then-is_abstract-clause-added
returns-then-is_abstract-clause-added c =
    rw (← c.self.view_is) (c.in_ok-added.ensures.added ∙ ap not (sym (is_member-views plain_definition _ is_definition same_definition c.args.definition c.self.inside.definitions.keys)))

pub returns-then-is_abstract-clause-ok : goal.returns-then-is_abstract-clause-ok
returns-then-is_abstract-clause-ok c =
    rw (← c.self.view_is) (ap (map plain_definition) c.in_ok-added.ensures.keys ∙ views-put plain_definition _ is_definition same_definition c.args.definition c.self.inside.definitions.keys)

pub returns-else-is_abstract-clause-added : goal.returns-else-is_abstract-clause-added
returns-else-is_abstract-clause-added c =
    rw (← c.self.view_is) (c.in_ok-added.ensures.added ∙ ap not (sym (is_member-views plain_definition _ is_definition same_definition c.args.definition c.self.inside.definitions.keys)))

pub returns-else-is_abstract-clause-ok : goal.returns-else-is_abstract-clause-ok
returns-else-is_abstract-clause-ok c =
    rw (← c.self.view_is) (ap (map plain_definition) c.in_ok-added.ensures.keys ∙ views-put plain_definition _ is_definition same_definition c.args.definition c.self.inside.definitions.keys)

pub returns-in_err-added-clause-absent : goal.returns-in_err-added-clause-absent
returns-in_err-added-clause-absent c =
    on_err_always c.from_residual.result
    (rw (← c.self.view_is) (is_member-views plain_definition _ is_definition same_definition c.args.definition c.self.inside.definitions.keys ∙ c.in_err-added.ensures.absent))

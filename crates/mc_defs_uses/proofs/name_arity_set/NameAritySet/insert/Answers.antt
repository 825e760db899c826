use Rattle.std.proofs.Common.{sym, ◌∙◌, ap, not, map}
use Rattle.mc_names.specs.Plain.{is_name_arity, plain_name_arity}
use Rattle.mc_names.proofs.Same.{same_id}
use Rattle.mc_defs_uses.proofs.Views.{is_member-views, views-put}
use Rattle.mc_defs_uses.proofs.name_arity_set.NameAritySet.insert.Goals as goal

pub returns-clause-added : goal.returns-clause-added
returns-clause-added c =
    rw (← c.self.view_is) (c.in_ok-added.ensures.added ∙ ap not (sym (is_member-views plain_name_arity _ is_name_arity same_id c.args.name c.self.inside.names.keys)))

pub returns-clause-ok : goal.returns-clause-ok
returns-clause-ok c = rw (← c.self.view_is) (ap (map plain_name_arity) c.in_ok-added.ensures.keys ∙ views-put plain_name_arity _ is_name_arity same_id c.args.name c.self.inside.names.keys)

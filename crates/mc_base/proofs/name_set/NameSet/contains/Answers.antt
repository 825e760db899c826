use Rattle.std.proofs.Common.{sym, ◌∙◌}
use Rattle.mc_base.proofs.NameSetViews.{is_member-names_of}
use Rattle.mc_base.proofs.name_set.NameSet.contains.Goals as goal

pub returns : goal.returns
returns c = rw (← c.self.view_is) (c.contains.ensures ∙ sym (is_member-names_of c.args.name.now c.self.inside.names.keys))

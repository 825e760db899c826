use Rattle.std.proofs.Common.{sym, ◌∙◌, ap, not}
use Rattle.mc_base.proofs.NameSetLaws.{on_err_always}
use Rattle.mc_base.proofs.NameSetViews.{is_member-names_of, names_of, names_of-put}
use Rattle.mc_base.proofs.name_set.NameSet.insert.Goals as goal

pub returns-clause-added : goal.returns-clause-added
returns-clause-added c = rw (← c.self.view_is) (c.in_ok-added.ensures.added ∙ ap not (sym (is_member-names_of c.args.name.now c.self.inside.names.keys)))

pub returns-clause-ok : goal.returns-clause-ok
returns-clause-ok c = rw (← c.self.view_is) (ap names_of c.in_ok-added.ensures.keys ∙ names_of-put c.self.inside.names.keys c.args.name)

pub returns-in_err-added-clause-absent : goal.returns-in_err-added-clause-absent
returns-in_err-added-clause-absent c =
    on_err_always c.from_residual.result (rw (← c.self.view_is) (is_member-names_of c.args.name.now c.self.inside.names.keys ∙ c.in_err-added.ensures.absent))

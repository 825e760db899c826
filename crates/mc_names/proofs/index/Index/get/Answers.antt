use Rattle.std.proofs.Common.{sym, ap, ◌∙◌}
use Rattle.std.specs.Option.{option_copied}
use Rattle.mc_names.proofs.Listed.{listed-there, listed-absent, vec_list}
use Rattle.mc_names.proofs.index.Index.get.Goals as goal

pub returns-in-Some : goal.returns-in-Some
returns-in-Some g c =
    rw (← c.self.view_is)
    (c.as_slice.ensures.value
    ∙ sym (listed-there vec_list vec_list c.self.inside.named.entries c.args.name.now c.in-Some.group.now (sym c.get.ensures.value ∙ ap option_copied c.in-Some.is)))

pub returns-in-None : goal.returns-in-None
returns-in-None g c =
    rw (← c.self.view_is) (sym (listed-absent vec_list vec_list c.self.inside.named.entries c.args.name.now (sym c.get.ensures.value ∙ ap option_copied c.in-None.is)))

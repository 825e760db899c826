use Rattle.std.proofs.Common.{◌∙◌, ap, map, not}
use Rattle.mc_self_check.specs.code.Constructors.{plain_functor}
use Rattle.mc_self_check.proofs.Distinct.{is_among, put_in}
use Rattle.mc_self_check.proofs.functors.FunctorSet.put.Goals as goal

pub returns-clause-added : goal.returns-clause-added
returns-clause-added c = rw (← c.self.view_is) (c.in_ok-added.ensures.added ∙ ap not (is_among c.args.functor c.self.inside.functors.keys))

pub returns-clause-ok : goal.returns-clause-ok
returns-clause-ok c = rw (← c.self.view_is) (ap (map plain_functor) c.in_ok-added.ensures.keys ∙ put_in c.args.functor c.self.inside.functors.keys)

use Rattle.std.proofs.Common.{◌≤◌, List, length, MatchOption, subst}
use Rattle.mc_insts.specs.declared.types.TypeKey.{TypeKey}
use Rattle.mc_insts.specs.code.TypeRows.{terms, term_of, KeyFits, RowOf}
use Rattle.mc_insts.proofs.TypeKeys.{got}
use Rattle.mc_insts.proofs.types.TypeSet.get.Goals as goal

pub returns : goal.returns
returns c =
    subst (λ (keys : List TypeKey). MatchOption c.get_index.result (length (terms keys) ≤ c.args.r) (λ key. RowOf (terms keys) c.args.r (term_of (terms keys) key.now) × KeyFits (length (terms keys)) key.now))
    c.self.view_is
    (got c.self.inside.keys.keys c.args.r c.get_index.result c.self.invariant.1 c.get_index.ensures.key)

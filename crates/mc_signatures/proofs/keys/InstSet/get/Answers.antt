use Rattle.std.proofs.Common.{◌≤◌, ◌+◌, List, length, MatchOption, subst}
use Rattle.mc_signatures.specs.declared.keys.InstKey.{InstKey}
use Rattle.mc_signatures.specs.code.Keys.{terms, term_of, KeyFits, IsInst}
use Rattle.mc_signatures.proofs.InstKeys.{got}
use Rattle.mc_signatures.proofs.keys.InstSet.get.Goals as goal

pub returns : goal.returns
returns c =
    subst (λ (keys : List InstKey). MatchOption c.get_index.result (length (terms keys) ≤ 4 + c.args.place) (λ key. IsInst (terms keys) (4 + c.args.place) (term_of (terms keys) key.now) × KeyFits (length (terms keys)) key.now))
    c.self.view_is
    (got c.self.inside.keys.keys c.args.place c.get_index.result c.self.invariant.1 c.get_index.ensures.key)

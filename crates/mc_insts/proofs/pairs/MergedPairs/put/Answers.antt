use Rattle.std.proofs.Common.{◌≡◌, ◌⊎◌, ℕ, List, subst}
use Rattle.mc_insts.specs.declared.triples.Triple.{Triple}
use Rattle.mc_insts.specs.code.Pairs.{Holds}
use Rattle.mc_insts.proofs.PairKeys.{inserted}
use Rattle.mc_insts.proofs.pairs.MergedPairs.put.Goals as goal

pub returns : goal.returns
returns c = λ u n h.
    subst (λ (es : List (Triple × ℕ)). Holds es u n ⊎ ((u ≡ c.args.pair) × (n ≡ c.args.k))) c.self.view_is
    (inserted c.self.inside.merged.entries c.args.pair c.args.k u n (subst (λ (es : List (Triple × ℕ)). Holds es u n) c.in_ok-insert.ensures.entries h))

use Rattle.std.proofs.Common.{ℕ, List, IfSome, ◌∙◌, subst}
use Rattle.mc_insts.specs.declared.triples.Triple.{Triple}
use Rattle.mc_insts.specs.code.Pairs.{Holds}
use Rattle.mc_insts.proofs.PairKeys.{if_found}
use Rattle.mc_insts.proofs.pairs.MergedPairs.get.Goals as goal

pub returns : goal.returns
returns c =
    subst (λ (es : List (Triple × ℕ)). IfSome c.copied.result (λ k. Holds es c.args.pair k)) c.self.view_is
    (if_found c.self.inside.merged.entries c.args.pair c.copied.result (c.copied.ensures ∙ c.get.ensures.value))

use Rattle.std.proofs.Common.{◌∙◌, List, sym, subst}
use Rattle.mc_insts.specs.declared.chains.Chain.{Chain}
use Rattle.mc_insts.proofs.Chained.{Settling, settling_none, settling_more, settling_done, chain_is, known_is}
use Rattle.mc_insts.proofs.chains.settle.Goals as goal

pub loop-init : goal.loop-init
loop-init c = settling_none c.args.chains.now c.args.start c.args.lead c.requires.there

pub get-requires : goal.get-requires
get-requires c = c.loop.invariant.there

pub set-requires : goal.set-requires
set-requires c = c.loop.invariant.there

pub returns-in_default : goal.returns-in_default
returns-in_default c = record {
  settles =
      settling_done c.args.chains.now c.loop.chains c.args.start c.args.lead c.loop.at c.loop.invariant
      (known_is c.loop.chains c.loop.at c.get.result.now c.loop.invariant.there c.get.ensures c.in_default.not-Names);
}

pub loop-preserved : goal.loop-preserved
loop-preserved c =
    subst (λ (now : List Chain). Settling c.args.chains.now now c.args.start c.args.lead c.in-Names.next) (sym c.set.ensures)
    (settling_more c.args.chains.now c.loop.chains c.args.start c.args.lead c.loop.at c.in-Names.next c.requires.all c.requires.settled c.loop.invariant
    (chain_is c.loop.chains c.loop.at c.get.result.now c.loop.invariant.there c.get.ensures ∙ c.in-Names.is))

use Rattle.mc_inst_table.specs.Plain.{plain_mode}
use Rattle.std.proofs.Common.{map, take}
use Rattle.mc_insts.proofs.Growth.{extends_on}
use Rattle.mc_signatures.specs.code.Keys.{terms}
use Rattle.mc_signatures.specs.code.Definitions.{GoesBetween}
use Rattle.mc_signatures.proofs.Following.{between_later, meant_more, each_means_on}
use Rattle.mc_signatures.proofs.signed.insts_of.Goals as goal

pub loop-mode-preserved : goal.loop-mode-preserved
loop-mode-preserved c =
    let ts = terms c.loop-mode.insts in
    let us = terms c.meant.new.insts in
    record {
      extends = extends_on _ ts us c.loop-mode.invariant.extends c.meant.ensures.extends;
      means = λ linked are.
          meant_more (GoesBetween linked us) c.args.modes.now c.loop-mode.mode-index c.mode-item.result c.loop-mode.first.items
          c.loop-mode.last.items c.push.new.self.items c.push-in-loop-mode.new.self.items c.in_ok-ends.ends.first c.in_ok-ends.ends.last
          c.loop-mode-test.true c.mode-item.is c.in_ok-push.ensures.items c.in_ok-push-2.ensures.items
          (each_means_on (GoesBetween linked ts) (GoesBetween linked us) (λ m a b. between_later linked ts us m a b c.meant.ensures.extends)
          (map plain_mode (take c.loop-mode.mode-index c.args.modes.now)) c.loop-mode.first.items c.loop-mode.last.items (c.loop-mode.invariant.means linked are))
          (c.in_ok-ends.ensures.goes linked are);
    }

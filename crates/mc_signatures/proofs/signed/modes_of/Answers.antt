use Rattle.std.proofs.Common.{map, take}
use Rattle.mc_signatures.specs.WrittenModes.{plain_written}
use Rattle.mc_insts.proofs.Growth.{extends_on}
use Rattle.mc_signatures.specs.code.Keys.{terms}
use Rattle.mc_signatures.specs.code.Definitions.{GoesBetween}
use Rattle.mc_signatures.proofs.Following.{between_later}
use Rattle.mc_signatures.proofs.Numbered.{modes_more, modes_on}
use Rattle.mc_signatures.proofs.signed.modes_of.Goals as goal

pub loop-mode-preserved : goal.loop-mode-preserved
loop-mode-preserved c =
    let ts = terms c.loop-mode.insts in
    let us = terms c.mode_of.new.insts in
    record {
      extends = extends_on _ ts us c.loop-mode.invariant.extends c.mode_of.ensures.extends;
      modes = λ linked are.
          let before = c.loop-mode.invariant.modes linked are in
          modes_more (GoesBetween linked us) c.args.builtin c.args.next.now c.args.written.now c.loop-mode.mode-index c.mode-item.result
          c.loop-mode.modes.items c.push.new.self.items c.in_ok-declared.declared c.loop-mode.next c.number_or_none-number.result
          c.in_ok-next.field-0 c.loop-mode-test.true c.mode-item.is c.in_ok-push.ensures.items
          c.number_or_none-number.ensures c.in_ok-next.ensures (
            modes_on (GoesBetween linked ts) (GoesBetween linked us) (λ m a b. between_later linked ts us m a b c.mode_of.ensures.extends)
                c.args.builtin c.args.next.now (map plain_written (take c.loop-mode.mode-index c.args.written.now)) c.loop-mode.modes.items before.0,
            before.1,
          )
          (c.in_ok-declared.ensures.mode linked are);
    }

use Rattle.std.proofs.Common.{◌<◌, List, length, map, take, refl, sym, subst, arith}
use Rattle.mc_signatures.specs.WrittenModes.{plain_written}
use Rattle.mc_signatures.specs.declared.written.WrittenMode.{WrittenMode}
use Rattle.mc_insts.proofs.Growth.{extends_on}
use Rattle.mc_signatures.specs.Signatures.{builtin_of}
use Rattle.mc_signatures.specs.code.Keys.{terms}
use Rattle.mc_signatures.specs.code.Definitions.{GoesBetween}
use Rattle.mc_signatures.specs.code.Numbering.{NumberedModes}
use Rattle.mc_signatures.proofs.Following.{between_later}
use Rattle.mc_signatures.proofs.Numbered.{rows_more, signatures_on}
use Rattle.mc_signatures.proofs.signed.numbered.Goals as goal

pub loop-pred-preserved : goal.loop-pred-preserved
loop-pred-preserved c =
    let ts = terms c.loop-pred.insts in
    let us = terms c.modes_of.new.insts in
    let test = c.loop-pred-test.true in
    let count = c.len-pred-end.ensures in
    let below : c.loop-pred.pred < length c.args.modes.now = omega (arith, test, count) in
    let row = c.get.result.now in
    let modes = c.in_ok-of.field-0 in
    record {
      extends = extends_on _ ts us c.loop-pred.invariant.extends c.modes_of.ensures.extends;
      sigs = λ linked are.
          let before = c.loop-pred.invariant.sigs linked are in
          let told = c.in_ok-declared.ensures.modes linked are in
          rows_more (GoesBetween linked us) (builtin_of c.args.preds.now) c.args.modes.now c.loop-pred.pred row c.loop-pred.sigs.items
          c.push.new.self.items (record { pred = c.loop-pred.pred; modes = modes }) c.loop-pred.next c.modes_of.new.next
          below c.get.ensures c.in_ok-push.ensures.items refl (
            signatures_on (GoesBetween linked ts) (GoesBetween linked us) (λ m a b. between_later linked ts us m a b c.modes_of.ensures.extends)
                (builtin_of c.args.preds.now) 0 0 (map (map plain_written) (take c.loop-pred.pred c.args.modes.now)) c.loop-pred.sigs.items before.0,
            before.1,
          )
          (subst (λ op. NumberedModes (GoesBetween linked us) op c.loop-pred.next (map plain_written row) modes c.modes_of.new.next) c.builtin_of-builtin.ensures
          (subst (λ (ws : List WrittenMode). NumberedModes (GoesBetween linked us) c.builtin_of-builtin.result c.loop-pred.next (map plain_written ws) modes c.modes_of.new.next) c.as_slice-written.ensures.items
          (subst (λ ms. NumberedModes (GoesBetween linked us) c.builtin_of-builtin.result c.loop-pred.next (map plain_written c.as_slice-written.result.now) ms c.modes_of.new.next) (sym c.in_ok-of.ensures.elements) told)));
    }

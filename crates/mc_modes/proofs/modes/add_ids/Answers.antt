use Rattle.mc_modes.proofs.Ids.{one_mode}
use Rattle.mc_modes.proofs.modes.add_ids.Goals as goal

pub loop-mode-preserved : goal.loop-mode-preserved
loop-mode-preserved c =
    one_mode c.args.ids.now.items c.loop-mode.ids.items c.push.new.self.items c.args.pred c.loop-mode.mode c.loop-mode.invariant
    c.in_ok-push.ensures.items

use Rattle.std.proofs.Common.{sym, subst}
use Rattle.mc_plain.specs.Values.{AreHeld}
use Rattle.mc_plain.proofs.Keeping.{segments_pushed}
use Rattle.mc_plain.proofs.state.Control.apart.Goals as goal

pub returns-clause-held : goal.returns-clause-held
returns-clause-held c =
    λ p h x.
    record {
      frame = x.frame;
      segments = segments_pushed p h c.args.self.now.segments.items c.push.new.self.items (record { around = c.args.around; frame = c.in_ok-copy.copy; level = c.args.self.now.level; height = c.args.self.now.height; below = c.args.self.now.base }) c.in_ok-push.ensures.items x.segments (subst (λ l. AreHeld p h l) (sym c.in_ok-copy.ensures) x.frame);
      points = x.points;
    }

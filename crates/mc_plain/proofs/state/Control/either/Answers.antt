use Rattle.std.proofs.Common.{sym, subst}
use Rattle.mc_plain.specs.Values.{AreHeld}
use Rattle.mc_plain.specs.declared.state.Point.TheVariants as P
use Rattle.mc_plain.proofs.Keeping.{points_pushed}
use Rattle.mc_plain.proofs.state.Control.either.Goals as goal

pub returns-clause-held : goal.returns-clause-held
returns-clause-held c =
    λ p h x.
    record {
      frame = x.frame;
      segments = x.segments;
      points = points_pushed p h c.args.self.now.points.items c.push.new.self.items (P.Resume c.args.second c.in_ok-copy.copy) c.in_ok-push.ensures.items x.points (subst (λ l. AreHeld p h l) (sym c.in_ok-copy.ensures) x.frame);
    }

use Rattle.mc_plain.proofs.Keeping.{segments_popped}
use Rattle.mc_plain.proofs.state.Control.leave.Goals as goal

pub returns-in-Some-clause-held : goal.returns-in-Some-clause-held
returns-in-Some-clause-held c =
    λ p h x.
    record {
      frame = (segments_popped p h c.pop.new.self.items c.args.self.now.segments.items c.in-Some.segment c.in-Some.ensures.items x.segments).1;
      segments = (segments_popped p h c.pop.new.self.items c.args.self.now.segments.items c.in-Some.segment c.in-Some.ensures.items x.segments).0;
      points = x.points;
    }

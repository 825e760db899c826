use Rattle.mc_plain.proofs.Growth.{live_from_held}
use Rattle.mc_plain.proofs.Keeping.{segments_popped}
use Rattle.mc_plain.proofs.state.Control.exit.Goals as goal

pub answered-requires-clause-outer : goal.answered-requires-clause-outer
answered-requires-clause-outer c =
    live_from_held c.requires.held.0 c.args.heap.now c.in-Some.segment.frame.items
    (segments_popped c.requires.held.0 c.args.heap.now c.pop.new.self.items c.args.self.now.segments.items c.in-Some.segment c.in-Some.ensures.items c.requires.held.1.segments).1

pub returns-clause-steps : goal.returns-clause-steps
returns-clause-steps c =
    λ t a. c.in_ok-answered-in-Some.ensures.steps c.args.self.now.segments c.in-Some.ensures.items a

pub returns-clause-held : goal.returns-clause-held
returns-clause-held c =
    λ p x.
    let r = segments_popped p c.args.heap.now c.pop.new.self.items c.args.self.now.segments.items c.in-Some.segment c.in-Some.ensures.items x.segments in
    c.in_ok-answered-in-Some.ensures.held p r.1 (record { frame = x.frame; segments = r.0; points = x.points })

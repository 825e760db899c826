use Rattle.std.proofs.Common.{ap, sym, subst}
use Rattle.mc_plain.specs.Values.{AreHeld}
use Rattle.mc_plain.specs.code.Held.{SegmentsHeld}
use Rattle.mc_plain.specs.declared.state.Control.{Control}
use Rattle.mc_plain.proofs.state.Control.keep.Goals as goal

pub returns-clause-refs : goal.returns-clause-refs
returns-clause-refs c =
    λ p h x held.
    record {
      frame = subst (λ (d : Control). AreHeld p h d.frame.items) (sym c.in_ok-hold.ensures.others) held.frame;
      segments = subst (λ (d : Control). SegmentsHeld p h d.segments.items) (sym c.in_ok-hold.ensures.others) held.segments;
      points = c.in_ok-hold.ensures.refs p h x held.points;
    }

pub returns-clause-frame : goal.returns-clause-frame
returns-clause-frame c = ap (λ (d : Control). d.frame) c.in_ok-hold.ensures.others

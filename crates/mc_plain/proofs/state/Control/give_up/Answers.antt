use Rattle.std.proofs.Common.{sym, ap, subst, ◌∙◌, ◌++◌, length, drop, reverse, map}
use Rattle.mc_plain.specs.Values.{AreHeld}
use Rattle.mc_plain.specs.code.Held.{SegmentsHeld, PointsHeld}
use Rattle.mc_plain.specs.declared.state.Control.{Control}
use Rattle.mc_plain.proofs.Keeping.{points_cut}
use Rattle.std.proofs.lemmas.List.{length-take-le}
use Rattle.mc_plain.specs.code.Views.{point_in}
use Rattle.mc_plain.proofs.Pushing.{seen_length, seen_split}
use Rattle.mc_plain.proofs.state.Control.give_up.Goals as goal

pub returns-clause-kept : goal.returns-clause-kept
returns-clause-kept c =
    λ h.
    sym (seen_length (point_in h) c.prune.new.self.points.items ∙ ap length c.prune.ensures.points
    ∙ length-take-le c.args.self.now.base c.args.self.now.points.items c.requires)

pub returns-clause-given_up : goal.returns-clause-given_up
returns-clause-given_up c =
    λ h. (
      reverse (map (point_in h) (drop c.args.self.now.base c.args.self.now.points.items)),
      seen_split (point_in h) c.args.self.now.base c.args.self.now.points.items
          ∙ ap (λ l. reverse (map (point_in h) (drop c.args.self.now.base c.args.self.now.points.items)) ++ reverse (map (point_in h) l)) (sym c.prune.ensures.points),
    )

pub returns-clause-held : goal.returns-clause-held
returns-clause-held c =
    λ p h held.
    record {
      frame = subst (λ (d : Control). AreHeld p h d.frame.items) (sym c.prune.ensures.others) held.frame;
      segments = subst (λ (d : Control). SegmentsHeld p h d.segments.items) (sym c.prune.ensures.others) held.segments;
      points = subst (PointsHeld p h) (sym c.prune.ensures.points) (points_cut p h c.args.self.now.base c.args.self.now.points.items held.points);
    }

use Rattle.std.proofs.Common.{ap, ◌∙◌, [], ◌∷◌, ◌++◌}
use Rattle.mc_plain.specs.declared.state.Point.{Point}
use Rattle.mc_plain.specs.declared.state.Point.TheVariants as P
use Rattle.mc_plain.proofs.Keeping.{segments_pushed, points_popped}
use Rattle.mc_plain.proofs.state.Control.resume.Goals as goal

pub returns-in-Some-Resume-clause-held : goal.returns-in-Some-Resume-clause-held
returns-in-Some-Resume-clause-held c =
    λ p h x.
    let r = points_popped p h c.pop.new.self.items c.args.self.now.points.items (P.Resume c.in-Some-Resume.place c.in-Some-Resume.frame) (c.in-Some-Resume.ensures.items ∙ ap (λ (y : Point). c.pop.new.self.items ++ y ∷ []) c.in-Some-Resume.field-0-is) x.points in
    record { frame = r.1; segments = x.segments; points = r.0 }

pub returns-then-len-base-clause-held : goal.returns-then-len-base-clause-held
returns-then-len-base-clause-held c =
    λ p h x.
    let r = points_popped p h c.pop.new.self.items c.args.self.now.points.items (P.Held c.in-Some-Held.around c.in-Some-Held.frame c.in-Some-Held.level c.in-Some-Held.height c.in-Some-Held.base) (c.in-Some-Held.ensures.items ∙ ap (λ (y : Point). c.pop.new.self.items ++ y ∷ []) c.in-Some-Held.field-0-is) x.points in
    record { frame = x.frame; segments = x.segments; points = r.0 }

pub returns-in_ok-push-in-Some-Held-clause-held : goal.returns-in_ok-push-in-Some-Held-clause-held
returns-in_ok-push-in-Some-Held-clause-held c =
    λ p h x.
    let r = points_popped p h c.pop.new.self.items c.args.self.now.points.items (P.Held c.in-Some-Held.around c.in-Some-Held.frame c.in-Some-Held.level c.in-Some-Held.height c.in-Some-Held.base) (c.in-Some-Held.ensures.items ∙ ap (λ (y : Point). c.pop.new.self.items ++ y ∷ []) c.in-Some-Held.field-0-is) x.points in
    record {
      frame = x.frame;
      segments = segments_pushed p h c.args.self.now.segments.items c.push.new.self.items _ c.in_ok-push-in-Some-Held.ensures.items x.segments r.1;
      points = r.0;
    }

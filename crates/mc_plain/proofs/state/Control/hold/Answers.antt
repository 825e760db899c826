use Rattle.std.proofs.Common.{sym, subst}
use Rattle.mc_plain.specs.Values.{AreHeld}
use Rattle.mc_plain.specs.code.Held.{PointsHeld}
use Rattle.mc_plain.specs.declared.state.Control.{Control}
use Rattle.mc_plain.specs.declared.state.Point.TheVariants as P
use Rattle.mc_plain.proofs.Keeping.{points_pushed}
use Rattle.mc_plain.proofs.state.Control.hold.Goals as goal
use Rattle.mc_plain.proofs.state.Control.hold.Goals.{then-len-self+in_ok-copy+in_ok-push, else-len-self}

pub returns-clause-refs : goal.returns-clause-refs
returns-clause-refs c =
    λ p h x held.
    elim c.if-len-self.branch [
      | then-len-self+in_ok-copy+in_ok-push w ↦ subst (λ (d : Control). PointsHeld p h d.points.items) (sym w.self-is) (points_pushed p h c.args.self.now.points.items w.push.new.self.items (P.Held c.args.around w.in_ok-copy.copy c.args.self.now.level c.args.self.now.height c.args.self.now.base) w.in_ok-push.ensures.items held (subst (λ l. AreHeld p h l) (sym w.in_ok-copy.ensures) x))
      | else-len-self w ↦ subst (λ (d : Control). PointsHeld p h d.points.items) (sym w.self-is) held
    ]

use Rattle.std.proofs.Common.{ℕ, Option, Vec, Global, sym, subst}
use Rattle.mc_plain.specs.Values.{AreHeld}
use Rattle.mc_plain.proofs.Keeping.{segments_pushed}
use Rattle.mc_plain.proofs.state.Control.enter.Goals as goal

pub returns-clause-held : goal.returns-clause-held
returns-clause-held c =
    λ p h x held.
    record {
      frame = subst (λ (v : Vec (Option ℕ) Global). AreHeld p h v.items) (sym c.replace-frame.ensures.after) x;
      segments = segments_pushed p h c.args.self.now.segments.items c.push.new.self.items _ c.in_ok-push.ensures.items held.segments (subst (λ (v : Vec (Option ℕ) Global). AreHeld p h v.items) (sym c.replace-frame.ensures.value) held.frame);
      points = held.points;
    }

use Rattle.std.proofs.Common.{refl, sym, ap, ◌∙◌}
use Rattle.mc_model.specs.Stream.{Bindings, same_items}
use Rattle.mc_plain.specs.Frames.{bindings}
use Rattle.mc_plain.specs.code.Views.{machine}
use Rattle.mc_plain.proofs.Going.{acted}
use Rattle.mc_plain.proofs.state.Control.equate.Goals as goal

pub returns-clause-acted : goal.returns-clause-acted
returns-clause-acted c =
    let e : Bindings = bindings c.args.heap.now c.args.self.now.frame.items in
    acted (same_items c.args.x c.args.y e (e c.args.x) (e c.args.y)) c.in_ok-went.went c.args.next (machine c.args.heap.now c.args.self.now) (machine c.args.heap.now (record c.args.self.now { frame = c.same.new.frame; now = c.went_on.result }))
    (ap (λ (g : Bindings). same_items c.args.x c.args.y g (g c.args.x) (g c.args.y)) (sym (c.in_ok-widen-2.ensures.same c.args.heap.now ∙ c.in_ok-widen.ensures.same c.args.heap.now)) ∙ c.in_ok-went.ensures.does)
    c.went_on.ensures refl

pub returns-clause-held : goal.returns-clause-held
returns-clause-held c =
    λ p x.
    record {
      frame = c.in_ok-went.ensures.held p (c.in_ok-widen-2.ensures.held p c.args.heap.now (c.in_ok-widen.ensures.held p c.args.heap.now x.frame));
      segments = x.segments;
      points = x.points;
    }

use Rattle.std.proofs.Common.{refl, sym, ap, ◌∙◌}
use Rattle.mc_values.specs.Heap.{value_at}
use Rattle.mc_model.specs.EventList.{of_option}
use Rattle.mc_model.specs.Stream.{Bindings, meet}
use Rattle.mc_plain.specs.Frames.{bindings}
use Rattle.mc_plain.specs.code.Views.{machine}
use Rattle.mc_plain.proofs.Going.{acted}
use Rattle.mc_plain.proofs.state.Control.constant.Goals as goal

pub returns-clause-acted : goal.returns-clause-acted
returns-clause-acted c =
    let e : Bindings = bindings c.args.heap.now c.args.self.now.frame.items in
    acted (of_option (meet c.args.x (value_at c.args.heap.now c.args.value) e (e c.args.x))) c.in_ok-went.went c.args.next (machine c.args.heap.now c.args.self.now) (machine c.args.heap.now (record c.args.self.now { frame = c.met.new.frame; now = c.went_on.result }))
    (ap (λ (g : Bindings). of_option (meet c.args.x (value_at c.args.heap.now c.args.value) g (g c.args.x))) (sym (c.in_ok-widen.ensures.same c.args.heap.now)) ∙ c.in_ok-went.ensures.does)
    c.went_on.ensures refl

pub returns-clause-held : goal.returns-clause-held
returns-clause-held c =
    λ p v x.
    record {
      frame = c.in_ok-went.ensures.held p v (c.in_ok-widen.ensures.held p c.args.heap.now x.frame);
      segments = x.segments;
      points = x.points;
    }

use Rattle.std.proofs.Common.{sym, ap, ◌∙◌, reverse}
use Rattle.mc_model.specs.Stream.{Bindings, made_items}
use Rattle.mc_values.specs.declared.heap.Heap.{Heap}
use Rattle.mc_plain.specs.Frames.{bindings}
use Rattle.mc_plain.specs.code.Machine.{Machine}
use Rattle.mc_plain.specs.code.Views.{machine}
use Rattle.mc_plain.proofs.Growing.{points_grow, segments_grow, points_stay, segments_stay}
use Rattle.mc_plain.proofs.Going.{acted}
use Rattle.mc_plain.proofs.state.Control.make.Goals as goal

pub returns-clause-acted : goal.returns-clause-acted
returns-clause-acted c =
    λ p x.
    let old : Heap = c.args.heap.now in
    let later : Heap = c.made.new.heap in
    let e : Bindings = bindings old c.args.self.now.frame.items in
    let new : Machine = machine later (record c.args.self.now { frame = c.made.new.frame; now = c.went_on.result }) in
    acted (made_items c.args.x c.args.symbol c.args.args.now e (e c.args.x)) c.in_ok-went.went c.args.next (machine old c.args.self.now) new
    (ap (λ (g : Bindings). made_items c.args.x c.args.symbol c.args.args.now g (g c.args.x)) (sym (c.in_ok-widen_all.ensures.same old ∙ c.in_ok-widen.ensures.same old)) ∙ c.in_ok-went.ensures.does)
    c.went_on.ensures
    (λ i. record new {
      points = reverse (points_grow p old later c.in_ok-went.ensures.keeps c.args.self.now.points.items x.points i);
      segments = reverse (segments_grow p old later c.in_ok-went.ensures.keeps c.args.self.now.segments.items x.segments i);
    })

pub returns-clause-held : goal.returns-clause-held
returns-clause-held c =
    λ p s x.
    record {
      frame = c.in_ok-went.ensures.held p s (c.in_ok-widen_all.ensures.held p c.args.heap.now (c.in_ok-widen.ensures.held p c.args.heap.now x.frame));
      segments = segments_stay p c.args.heap.now c.made.new.heap c.in_ok-went.ensures.keeps c.args.self.now.segments.items x.segments;
      points = points_stay p c.args.heap.now c.made.new.heap c.in_ok-went.ensures.keeps c.args.self.now.points.items x.points;
    }

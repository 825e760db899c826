use Rattle.std.proofs.Common.{ℕ, Option, List, subst, ◌∙◌}
use Rattle.mc_program.specs.declared.program.Program.{Program}
use Rattle.mc_values.specs.declared.heap.Heap.{Heap}
use Rattle.mc_model.specs.Builtins.{outcome}
use Rattle.mc_model.specs.EventList.{Items}
use Rattle.mc_model.specs.Stream.{Bindings, apply_items, gather}
use Rattle.mc_builtins.specs.Answers.{known}
use Rattle.mc_plain.specs.Frames.{bindings}
use Rattle.mc_plain.specs.Atoms.{ActedItems, WaitsToRead}
use Rattle.mc_plain.proofs.Applying.{went_applied, threw_applied, wrote_applied, reads_applied}
use Rattle.mc_plain.proofs.Growing.{atom_held}
use Rattle.mc_plain.proofs.state.Control.apply.Goals as goal

pub applied-requires-clause-frame : goal.applied-requires-clause-frame
applied-requires-clause-frame c =
    let h : Heap = c.args.heap.now in
    let P : Program = c.args.library.now.program.now in
    c.in_ok-widen_all-2.ensures.held P h (c.in_ok-widen_all.ensures.held P h c.requires.frame)

pub returns-in-Went-clause-applied : goal.returns-in-Went-clause-applied
returns-in-Went-clause-applied c =
    let h : Heap = c.args.heap.now in
    let k : Heap = c.applied.new.heap in
    let items : Bindings → List ℕ → Items Bindings = λ e input. apply_items (outcome (known c.args.library.now) input c.args.call.now.op) c.args.call.now.outputs.now e (gather c.args.call.now.inputs.now e) in
    let wide : List (Option ℕ) = c.widen_all-2.new.frame.items in
    went_applied c.args.library.now.program.now h k c.applied.ensures.keeps c.args.self.now c.requires c.applied.new.frame items c.args.next wide
    (c.in_ok-widen_all-2.ensures.same h ∙ c.in_ok-widen_all.ensures.same h) c.in-Went.went c.went_on.result c.went_on.ensures
    (subst (λ a. ActedItems (items (bindings h wide)) a (bindings k c.applied.new.frame.items)) c.in-Went.is (c.in_ok-went.ensures {u = tt}).does)

pub returns-in-Went-clause-held : goal.returns-in-Went-clause-held
returns-in-Went-clause-held c =
    λ lists. atom_held c.args.library.now.program.now c.args.heap.now c.applied.new.heap c.applied.ensures.keeps c.args.self.now c.applied.new.frame c.went_on.result c.requires (c.applied.ensures.held lists)

pub returns-in-Throws-clause-applied : goal.returns-in-Throws-clause-applied
returns-in-Throws-clause-applied c =
    let h : Heap = c.args.heap.now in
    let k : Heap = c.applied.new.heap in
    let items : Bindings → List ℕ → Items Bindings = λ e input. apply_items (outcome (known c.args.library.now) input c.args.call.now.op) c.args.call.now.outputs.now e (gather c.args.call.now.inputs.now e) in
    let wide : List (Option ℕ) = c.widen_all-2.new.frame.items in
    threw_applied c.args.library.now.program.now h k c.applied.ensures.keeps c.args.self.now c.requires c.applied.new.frame items c.args.next wide
    (c.in_ok-widen_all-2.ensures.same h ∙ c.in_ok-widen_all.ensures.same h) c.in-Throws.exception
    (subst (λ a. ActedItems (items (bindings h wide)) a (bindings k c.applied.new.frame.items)) c.in-Throws.is (c.in_ok-went.ensures {u = tt}).does)

pub returns-in-Throws-clause-held : goal.returns-in-Throws-clause-held
returns-in-Throws-clause-held c =
    λ lists. atom_held c.args.library.now.program.now c.args.heap.now c.applied.new.heap c.applied.ensures.keeps c.args.self.now c.applied.new.frame _ c.requires (c.applied.ensures.held lists)

pub returns-in-Wrote-clause-applied : goal.returns-in-Wrote-clause-applied
returns-in-Wrote-clause-applied c =
    let h : Heap = c.args.heap.now in
    let k : Heap = c.applied.new.heap in
    let items : Bindings → List ℕ → Items Bindings = λ e input. apply_items (outcome (known c.args.library.now) input c.args.call.now.op) c.args.call.now.outputs.now e (gather c.args.call.now.inputs.now e) in
    let wide : List (Option ℕ) = c.widen_all-2.new.frame.items in
    wrote_applied c.args.library.now.program.now h k c.applied.ensures.keeps c.args.self.now c.requires c.applied.new.frame items c.args.next wide
    (c.in_ok-widen_all-2.ensures.same h ∙ c.in_ok-widen_all.ensures.same h) c.in-Wrote.text c.in-Wrote.went c.went_on-in-Wrote.result c.went_on-in-Wrote.ensures
    (subst (λ a. ActedItems (items (bindings h wide)) a (bindings k c.applied.new.frame.items)) c.in-Wrote.is (c.in_ok-went.ensures {u = tt}).does)

pub returns-in-Wrote-clause-held : goal.returns-in-Wrote-clause-held
returns-in-Wrote-clause-held c =
    λ lists. atom_held c.args.library.now.program.now c.args.heap.now c.applied.new.heap c.applied.ensures.keeps c.args.self.now c.applied.new.frame c.went_on-in-Wrote.result c.requires (c.applied.ensures.held lists)

pub returns-in-Reads-clause-applied : goal.returns-in-Reads-clause-applied
returns-in-Reads-clause-applied c =
    let h : Heap = c.args.heap.now in
    let k : Heap = c.applied.new.heap in
    let P : Program = c.args.library.now.program.now in
    let items : Bindings → List ℕ → Items Bindings = λ e input. apply_items (outcome (known c.args.library.now) input c.args.call.now.op) c.args.call.now.outputs.now e (gather c.args.call.now.inputs.now e) in
    let wide : List (Option ℕ) = c.widen_all-2.new.frame.items in
    reads_applied P h k c.applied.ensures.keeps c.args.self.now c.requires c.applied.new.frame items c.args.next wide
    (c.in_ok-widen_all-2.ensures.same h ∙ c.in_ok-widen_all.ensures.same h) c.in-Reads.from
    (subst (λ a. WaitsToRead a wide c.applied.new.frame.items) c.in-Reads.is (c.in_ok-went.ensures {u = tt}).waits)
    (c.in_ok-widen_all-2.ensures.held P h (c.in_ok-widen_all.ensures.held P h c.requires.frame))
    (subst (λ a. ActedItems (items (bindings h wide)) a (bindings k c.applied.new.frame.items)) c.in-Reads.is (c.in_ok-went.ensures {u = tt}).does)

pub returns-in-Reads-clause-held : goal.returns-in-Reads-clause-held
returns-in-Reads-clause-held c =
    λ lists. atom_held c.args.library.now.program.now c.args.heap.now c.applied.new.heap c.applied.ensures.keeps c.args.self.now c.applied.new.frame c.args.self.now.now c.requires (c.applied.ensures.held lists)

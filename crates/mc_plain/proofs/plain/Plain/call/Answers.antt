use Rattle.std.proofs.Common.{◌≡◌, ap, ◌∙◌}
use Rattle.mc_values.specs.declared.heap.Heap.{Heap}
use Rattle.mc_model.specs.Stream.{Bindings, ready, enter}
use Rattle.mc_plain.specs.Frames.{bindings}
use Rattle.mc_flat_code.specs.Running.{variables_at, body_at}
use Rattle.mc_flat_code.specs.declared.code.Body.{Body}
use Rattle.mc_plain.specs.code.Beginnings.{called_machine, first_now}
use Rattle.mc_plain.specs.code.Views.{plain_now}
use Rattle.mc_plain.specs.code.RunState.{machine_of}
use Rattle.mc_plain.specs.declared.state.RunContext.{RunContext}
use Rattle.mc_plain.specs.declared.state.RunState.{RunState}
use Rattle.mc_plain.proofs.Opening.{called_whole, is_setting, has_constants, main_asked}
use Rattle.mc_plain.proofs.Working.{constants_stay}
use Rattle.mc_plain.proofs.plain.Plain.call.Goals as goal

pub returns-clause-is_run : goal.returns-clause-is_run
returns-clause-is_run c =
    λ whole.
    let t : RunContext = record { library = c.of-library.result; flat = c.args.flat; constants = c.in_ok-constants.constants; head = c.body-body.result.head; last = c.body-body.result.last } in
    let h1 : Heap = c.constants_of.new.heap in
    let h : Heap = c.first_caller.new.heap in
    let w : RunState = record { heap = h; refs = c.new-refs.result; control = c.begin_call-control.result } in
    record {
      setting = is_setting t c.args.program.now c.of-library.ensures.program c.of-library.ensures.known c.requires.code c.requires.names;
      ready = record {
        held = c.begin_call-control.ensures.held t.library.program.now h (c.in_ok-frame.ensures.held t.library.program.now h (c.in_ok-caller.ensures.held t.library.program.now));
        constants = constants_stay t h1 h c.in_ok-caller.ensures.keeps (has_constants t c.args.program.now c.of-library.ensures.program c.of-library.ensures.known c.requires.code c.requires.names h1 c.in_ok-constants.ensures.values c.in_ok-constants.ensures.live);
        whole = called_whole (machine_of t w) c.args.limits.budget c.args.limits.depth (bindings h c.in_ok-frame.frame.items) (plain_now c.first_now-now.result) (c.begin_call-control.ensures.begins h);
      };
    }

pub returns-clause-run : goal.returns-clause-run
returns-clause-run c =
    λ procs s input.
    let t : RunContext = record { library = c.of-library.result; flat = c.args.flat; constants = c.in_ok-constants.constants; head = c.body-body.result.head; last = c.body-body.result.last } in
    let h : Heap = c.first_caller.new.heap in
    let w : RunState = record { heap = h; refs = c.new-refs.result; control = c.begin_call-control.result } in
    let e : Bindings = bindings h c.in_ok-frame.frame.items in
    let first : c.variables-first.result.now ≡ variables_at c.args.flat.code (body_at c.args.flat c.args.number).first = c.variables-first.ensures ∙ ap (λ (b : Body). variables_at c.args.flat.code b.first) c.body-body.ensures in
    let heads : c.variables-head.result.now ≡ variables_at c.args.flat.code (body_at c.args.flat c.args.number).head = c.variables-head.ensures ∙ ap (λ (b : Body). variables_at c.args.flat.code b.head) c.body-body.ensures in
    main_asked t c.args.program.now c.of-library.ensures.program c.of-library.ensures.known c.requires.code c.requires.names w c.args.limits procs
    c.args.number (ap (λ (b : Body). b.head) c.body-body.ensures) (ap (λ (b : Body). b.last) c.body-body.ensures) s c.ready-is_ready.result
    (c.ready-is_ready.ensures h ∙ (λ i. ready (first i) (c.in_ok-caller.ensures.values i)))
    e (c.in_ok-frame.ensures.enters h ∙ (λ i. enter (heads i) (first i) (c.in_ok-caller.ensures.values i)))
    (c.begin_call-control.ensures.begins h ∙ ap (λ n. called_machine c.args.limits.budget c.args.limits.depth e n) (c.first_now-now.ensures ∙ ap (λ (b : Body). first_now b.entry c.ready-is_ready.result) c.body-body.ensures))
    input

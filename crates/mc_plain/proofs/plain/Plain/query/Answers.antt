use Rattle.std.proofs.Common.{◌≡◌, ◌+◌, suc, refl, ◌∙◌, map, arith}
use Rattle.mc_values.specs.declared.heap.Heap.{Heap}
use Rattle.mc_model.specs.Stream.{nothing_bound, ready}
use Rattle.mc_plain.specs.Frames.{bindings}
use Rattle.mc_plain.specs.code.Beginnings.{first_machine}
use Rattle.mc_plain.specs.code.Views.{plain_now}
use Rattle.mc_plain.specs.code.RunState.{machine_of}
use Rattle.mc_plain.specs.declared.state.RunContext.{RunContext}
use Rattle.mc_plain.specs.declared.state.RunState.{RunState}
use Rattle.mc_plain.proofs.Opening.{first_whole, is_setting, has_constants, query_asked}
use Rattle.mc_plain.proofs.plain.Plain.query.Goals as goal

pub returns-clause-is_run : goal.returns-clause-is_run
returns-clause-is_run c =
    λ whole.
    let t : RunContext = record { library = c.of-library.result; flat = c.args.flat.program; constants = c.in_ok-constants.constants; head = c.args.flat.query.head; last = c.args.flat.query.last } in
    let h : Heap = c.constants_of.new.heap in
    let w : RunState = record { heap = h; refs = c.new-refs.result; control = c.begin-control.result } in
    record {
      setting = is_setting t c.args.program.now c.of-library.ensures.program c.of-library.ensures.known c.requires.code c.requires.names;
      ready = record {
        held = c.begin-control.ensures.held t.library.program.now h (c.in_ok-frame.ensures.held t.library.program.now h);
        constants = has_constants t c.args.program.now c.of-library.ensures.program c.of-library.ensures.known c.requires.code c.requires.names h c.in_ok-constants.ensures.values c.in_ok-constants.ensures.live;
        whole = first_whole (machine_of t w) c.args.limits.budget c.args.limits.depth (c.args.limits.budget + 1) (bindings h c.in_ok-frame.frame.items) (plain_now c.first_now-now.result) (c.begin-control.ensures.begins h);
      };
    }

pub returns-clause-run : goal.returns-clause-run
returns-clause-run c =
    λ procs q s input.
    let t : RunContext = record { library = c.of-library.result; flat = c.args.flat.program; constants = c.in_ok-constants.constants; head = c.args.flat.query.head; last = c.args.flat.query.last } in
    let h : Heap = c.constants_of.new.heap in
    let w : RunState = record { heap = h; refs = c.new-refs.result; control = c.begin-control.result } in
    let nothing : bindings h c.in_ok-frame.frame.items ≡ nothing_bound = c.in_ok-frame.ensures.nothing h in
    let levels : c.args.limits.budget + 1 ≡ suc c.args.limits.budget = omega arith in
    query_asked t c.args.program.now c.of-library.ensures.program c.of-library.ensures.known c.requires.code c.requires.names w c.args.limits procs
    c.args.flat.query refl refl q s c.ready-is_ready.result
    (c.ready-is_ready.ensures h ∙ (λ i. ready (c.variables-first.ensures i) (map (nothing i) (c.variables-head.ensures i))))
    (c.begin-control.ensures.begins h ∙ (λ i. first_machine c.args.limits.budget c.args.limits.depth (levels i) (nothing i) (c.first_now-now.ensures i)))
    input

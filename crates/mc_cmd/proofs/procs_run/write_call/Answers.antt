use Rattle.std.proofs.Common.{◌≡◌, refl, subst}
use Rattle.std.specs.Prelude.{IfOk}
use Rattle.mc_command_line.specs.Plain.{plain_bounds}
use Rattle.mc_plain.specs.Running.{run_of}
use Rattle.mc_cmd.specs.declared.status.Status.{Status}
use Rattle.mc_cmd.specs.Ends.{Outcome, written_main}
use Rattle.mc_cmd.specs.Outcome.{run_of_main}
use Rattle.mc_cmd.specs.code.Decisions.{Writes}
use Rattle.mc_cmd.specs.code.Procs.{left_in}
use Rattle.mc_cmd.proofs.Puts.{nothing_front, wrote_nothing}
use Rattle.mc_cmd.proofs.Stops.{ends_there, main_same}
use Rattle.mc_cmd.proofs.procs_run.write_call.Goals as goal

pub returns-in_default-clause-output : goal.returns-in_default-clause-output
returns-in_default-clause-output g c =
    let b = c.args.bounds in
    let w = g.O.Sink.written c.args.out.now in
    nothing_front w w (written_main (plain_bounds b) (run_of_main c.args.procs.now c.args.main b.budget b.depth)).out (wrote_nothing w w refl)

pub returns-in_default-clause-errors : goal.returns-in_default-clause-errors
returns-in_default-clause-errors g c =
    let b = c.args.bounds in
    let w = g.E.Sink.written c.args.err.now in
    nothing_front w w (written_main (plain_bounds b) (run_of_main c.args.procs.now c.args.main b.budget b.depth)).err (wrote_nothing w w refl)

pub returns-clause-output : goal.returns-clause-output
returns-clause-output g c =
    let b = c.args.bounds in
    subst (λ (o : Outcome). Writes (g.O.Sink.written c.args.out.now) (g.O.Sink.written c.write_main.new.out) c.write_main.result o.out)
    (main_same (plain_bounds b) (left_in (run_of c.in-Ok.run'.plain)) (run_of_main c.args.procs.now c.args.main b.budget b.depth) (c.in-Ok.ensures {u = tt}).left)
    c.write_main.ensures.output

pub returns-clause-errors : goal.returns-clause-errors
returns-clause-errors g c =
    let b = c.args.bounds in
    subst (λ (o : Outcome). Writes (g.E.Sink.written c.args.err.now) (g.E.Sink.written c.write_main.new.err) c.write_main.result o.err)
    (main_same (plain_bounds b) (left_in (run_of c.in-Ok.run'.plain)) (run_of_main c.args.procs.now c.args.main b.budget b.depth) (c.in-Ok.ensures {u = tt}).left)
    c.write_main.ensures.errors

pub returns-clause-status : goal.returns-clause-status
returns-clause-status g c =
    let b = c.args.bounds in
    subst (λ (o : Outcome). IfOk c.write_main.result (λ (s : Status). s ≡ o.status))
    (main_same (plain_bounds b) (left_in (run_of c.in-Ok.run'.plain)) (run_of_main c.args.procs.now c.args.main b.budget b.depth) (c.in-Ok.ensures {u = tt}).left)
    c.write_main.ensures.status

pub returns-clause-ends : goal.returns-clause-ends
returns-clause-ends g c =
    let b = c.args.bounds in
    ends_there c.write_main.result (left_in (run_of c.in-Ok.run'.plain)) (run_of_main c.args.procs.now c.args.main b.budget b.depth) (c.in-Ok.ensures {u = tt}).left c.write_main.ensures.ends

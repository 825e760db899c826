use Rattle.std.proofs.Common.{ℕ, List, ◌++◌, Ok, sym, ap, ◌∙◌, subst, append_assoc}
use Rattle.mc_program.specs.Values.{Val}
use Rattle.mc_program.specs.Printed.{names_of, printed}
use Rattle.mc_model.specs.Output.{query_bytes}
use Rattle.mc_outside.specs.Meaning.{PutsFront}
use Rattle.mc_cmd.specs.declared.run.Progress.{Progress}
use Rattle.mc_cmd.specs.code.Runs.{IsPut, rest_bytes}
use Rattle.mc_cmd.proofs.Puts.{front_behind, passed_front, wrote_more}
use Rattle.mc_cmd.proofs.run.put_run.Goals as goal

pub returns-in_err-now-clause-written : goal.returns-in_err-now-clause-written
returns-in_err-now-clause-written g c =
    let text : Val → List ℕ = printed (names_of c.args.program.now) in
    let vs = c.args.variables.now in
    let w0 = g.O.Sink.written c.args.out.now in
    let w1 = g.O.Sink.written c.steps.out in
    let w2 = g.O.Sink.written c.put_next.new.out in
    let i = c.steps.invariant.put in
    passed_front _ w0 w2 c.from_residual.result (query_bytes text vs (g.R.Run.left c.args.run.now)) c.from_residual.ensures.1
    (subst (λ (bs : List ℕ). PutsFront w0 w2 bs) (sym i.2)
    (front_behind w0 w1 w2 i.0 (rest_bytes text vs c.steps.is_answered (g.R.Run.left c.steps.run)) i.1 (c.in_err-now.ensures {u = tt}).put))

pub steps-preserved : goal.steps-preserved
steps-preserved g c =
    let text : Val → List ℕ = printed (names_of c.args.program.now) in
    let vs = c.args.variables.now in
    let xs = g.R.Run.left c.steps.run in
    let ys = g.R.Run.left c.put_next.new.run in
    let w0 = g.O.Sink.written c.args.out.now in
    let w1 = g.O.Sink.written c.steps.out in
    let w2 = g.O.Sink.written c.put_next.new.out in
    let i = c.steps.invariant in
    let e = c.in_ok-now.ensures {u = tt} in
    let went = subst (λ (z : Progress). IsPut text vs c.steps.is_answered xs ys w1 w2 (Ok z)) c.in-On.is e.put in
    record {
      put = (
        i.put.0 ++ went.piece,
        wrote_more w0 w1 w2 i.put.0 went.piece i.put.1 went.wrote,
        i.put.2 ∙ ap (λ (bs : List ℕ). i.put.0 ++ bs) went.behind ∙ sym (append_assoc i.put.0 went.piece (rest_bytes text vs c.in-On.now ys)),
      );
      runs = e.is_run;
      ends = λ f. i.ends (went.ends f);
      end = went.same_end ∙ i.end;
      faults = e.faults ∙ i.faults;
    }

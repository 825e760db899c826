use Rattle.std.proofs.Common.{ℕ, List, Ok, Err, map, refl, sym, ap, ◌∙◌, subst, codes}
use Rattle.mc_program.specs.Values.{Val, plain_value}
use Rattle.mc_program.specs.declared.value.Value.{Value}
use Rattle.mc_program.specs.Printed.{names_of, printed}
use Rattle.mc_model.specs.EventList.{Wrote}
use Rattle.mc_model.specs.declared.run.Step.{Step}
use Rattle.mc_cmd.specs.code.Runs.{IsStep, plain_stop}
use Rattle.mc_cmd.proofs.Puts.{put_writes}
use Rattle.mc_cmd.proofs.Runs.{answer_goes, answer_breaks, text_goes, text_breaks, texts_bound, passed_put, end_said, end_breaks, end_quiet, stop_quiet}
use Rattle.mc_cmd.proofs.run.put_next.Goals as goal
use Rattle.mc_cmd.proofs.run.put_next.Goals.{then-not-is_answered+in_ok-put-in-Ok-End, else-not-is_answered}

pub returns-in_err-put_answer-in-Ok-Answer-clause-put :
    goal.returns-in_err-put_answer-in-Ok-Answer-clause-put
returns-in_err-put_answer-in-Ok-Answer-clause-put g c =
    let text : Val → List ℕ = printed (names_of c.args.program.now) in
    let vs = c.args.variables.now in
    let xs = g.R.Run.left c.args.run.now in
    let ys = g.R.Run.left c.next.new.self in
    let w0 = g.O.Sink.written c.args.out.now in
    let w1 = g.O.Sink.written c.put_answer.new.out in
    let values = c.in-Ok-Answer.values in
    let e = subst (λ (s : Step). IsStep xs ys s) c.in-Ok-Answer.field-0-is (c.in-Ok-Answer.ensures {u = tt}).step in
    passed_put _ text vs c.args.is_answered xs ys w0 w1 c.from_residual.result c.from_residual.ensures.1
    (answer_breaks text vs c.args.is_answered xs ys w0 w1 values (map (λ (v : Value). text (plain_value v)) values) e (sym (texts_bound text values)) (c.in_err-put_answer-in-Ok-Answer.ensures {u = tt}).written)

pub returns-in_err-put-in-Ok-Wrote-clause-put : goal.returns-in_err-put-in-Ok-Wrote-clause-put
returns-in_err-put-in-Ok-Wrote-clause-put g c =
    let text : Val → List ℕ = printed (names_of c.args.program.now) in
    let vs = c.args.variables.now in
    let xs = g.R.Run.left c.args.run.now in
    let ys = g.R.Run.left c.next.new.self in
    let w0 = g.O.Sink.written c.args.out.now in
    let w1 = g.O.Sink.written c.put.new.self in
    let e = subst (λ (s : Step). IsStep xs ys s) c.in-Ok-Wrote.field-0-is (c.in-Ok-Wrote.ensures {u = tt}).step in
    passed_put _ text vs c.args.is_answered xs ys w0 w1 c.from_residual-in_err-put-in-Ok-Wrote.result c.from_residual-in_err-put-in-Ok-Wrote.ensures.1
    (text_breaks text vs c.args.is_answered xs ys w0 w1 c.bytes.result.now (e ∙ ap (λ (t : List ℕ). Wrote t ys) (sym c.bytes.ensures.items))
    (put_writes {T = Unit {0}} w0 w1 (Err c.in_err-put-in-Ok-Wrote.field-0.0) c.bytes.result.now (c.in_err-put-in-Ok-Wrote.ensures {u = tt}).bytes))

pub returns-in_err-put-in-Ok-End-clause-put : goal.returns-in_err-put-in-Ok-End-clause-put
returns-in_err-put-in-Ok-End-clause-put g c =
    let text : Val → List ℕ = printed (names_of c.args.program.now) in
    let vs = c.args.variables.now in
    let xs = g.R.Run.left c.args.run.now in
    let ys = g.R.Run.left c.next.new.self in
    let w0 = g.O.Sink.written c.args.out.now in
    let w1 = g.O.Sink.written c.put-then-not-is_answered.new.self in
    let e = subst (λ (s : Step). IsStep xs ys s) c.in-Ok-End.field-0-is (c.in-Ok-End.ensures {u = tt}).step in
    passed_put _ text vs c.args.is_answered xs ys w0 w1 c.from_residual-in_err-put-in-Ok-End.result c.from_residual-in_err-put-in-Ok-End.ensures.1
    (end_breaks text vs c.args.is_answered xs w0 w1 e c.if-not-is_answered.true
    (put_writes {T = Unit {0}} w0 w1 (Err c.in_err-put-in-Ok-End.field-0.0) (codes "false.\n") (c.in_err-put-in-Ok-End.ensures {u = tt}).bytes))

pub returns-in_ok-put_answer-in-Ok-Answer-clause-put :
    goal.returns-in_ok-put_answer-in-Ok-Answer-clause-put
returns-in_ok-put_answer-in-Ok-Answer-clause-put g c =
    let text : Val → List ℕ = printed (names_of c.args.program.now) in
    let vs = c.args.variables.now in
    let xs = g.R.Run.left c.args.run.now in
    let ys = g.R.Run.left c.next.new.self in
    let w0 = g.O.Sink.written c.args.out.now in
    let w1 = g.O.Sink.written c.put_answer.new.out in
    let values = c.in-Ok-Answer.values in
    let e = subst (λ (s : Step). IsStep xs ys s) c.in-Ok-Answer.field-0-is (c.in-Ok-Answer.ensures {u = tt}).step in
    answer_goes text vs c.args.is_answered xs ys w0 w1 values (map (λ (v : Value). text (plain_value v)) values) e (sym (texts_bound text values)) (c.in_ok-put_answer-in-Ok-Answer.ensures {u = tt}).written

pub returns-in_ok-put-in-Ok-Wrote-clause-put : goal.returns-in_ok-put-in-Ok-Wrote-clause-put
returns-in_ok-put-in-Ok-Wrote-clause-put g c =
    let text : Val → List ℕ = printed (names_of c.args.program.now) in
    let vs = c.args.variables.now in
    let xs = g.R.Run.left c.args.run.now in
    let ys = g.R.Run.left c.next.new.self in
    let w0 = g.O.Sink.written c.args.out.now in
    let w1 = g.O.Sink.written c.put.new.self in
    let e = subst (λ (s : Step). IsStep xs ys s) c.in-Ok-Wrote.field-0-is (c.in-Ok-Wrote.ensures {u = tt}).step in
    text_goes text vs c.args.is_answered xs ys w0 w1 c.bytes.result.now (e ∙ ap (λ (t : List ℕ). Wrote t ys) (sym c.bytes.ensures.items))
    (put_writes {T = Unit {0}} w0 w1 (Ok c.in_ok-put-in-Ok-Wrote.field-0) c.bytes.result.now (c.in_ok-put-in-Ok-Wrote.ensures {u = tt}).bytes)

pub returns-after-not-is_answered-clause-put : goal.returns-after-not-is_answered-clause-put
returns-after-not-is_answered-clause-put g c =
    let text : Val → List ℕ = printed (names_of c.args.program.now) in
    let vs = c.args.variables.now in
    let xs = g.R.Run.left c.args.run.now in
    let ys = g.R.Run.left c.next.new.self in
    let w0 = g.O.Sink.written c.args.out.now in
    let e = subst (λ (s : Step). IsStep xs ys s) c.in-Ok-End.field-0-is (c.in-Ok-End.ensures {u = tt}).step in
    elim c.if-not-is_answered.branch [
      | then-not-is_answered+in_ok-put-in-Ok-End w ↦
          rw w.out-is
          (end_said text vs c.args.is_answered xs w0 (g.O.Sink.written w.put-then-not-is_answered.new.self) e w.if-not-is_answered.true
          (put_writes {T = Unit {0}} w0 (g.O.Sink.written w.put-then-not-is_answered.new.self) (Ok w.in_ok-put-in-Ok-End.field-0) (codes "false.\n") (w.in_ok-put-in-Ok-End.ensures {u = tt}).bytes))
      | else-not-is_answered w ↦ end_quiet text vs c.args.is_answered xs w0 (g.O.Sink.written c.if-not-is_answered.out) e w.if-not-is_answered.false (ap g.O.Sink.written w.out-is)
    ]

pub returns-in-Ok-Stopped-clause-put : goal.returns-in-Ok-Stopped-clause-put
returns-in-Ok-Stopped-clause-put g c =
    let text : Val → List ℕ = printed (names_of c.args.program.now) in
    let xs = g.R.Run.left c.args.run.now in
    let ys = g.R.Run.left c.next.new.self in
    let e = subst (λ (s : Step). IsStep xs ys s) c.in-Ok-Stopped.field-0-is (c.in-Ok-Stopped.ensures {u = tt}).step in
    stop_quiet text c.args.variables.now c.args.is_answered xs (g.O.Sink.written c.args.out.now) (g.O.Sink.written c.args.out.now) (plain_stop c.in-Ok-Stopped.stop) e refl

use Rattle.std.proofs.Common.{ℕ, List, ◌++◌, refl, sym, ap, ◌∙◌, subst, append_assoc, append-nil}
use Rattle.mc_model.specs.EventList.{End, Stopped, Wrote, written}
use Rattle.mc_model.specs.declared.run.Step.{Step}
use Rattle.mc_outside.specs.Meaning.{PutsFront}
use Rattle.mc_cmd.specs.Call as call
use Rattle.mc_cmd.specs.code.Runs.{IsStep, plain_stop}
use Rattle.mc_cmd.proofs.Puts.{front_behind, front_more, nothing_front, passed_front, wrote_more, wrote_nothing}
use Rattle.mc_cmd.proofs.Runs.{ends_by, smaller_by, stop_by, texts_by}
use Rattle.mc_cmd.proofs.main_run.put_texts.Goals as goal

pub steps-smaller-in-Answer-1 : goal.steps-smaller-in-Answer-1
steps-smaller-in-Answer-1 g c =
    let xs = g.R.Run.left c.steps.run in
    let ys = g.R.Run.left c.next.new.self in
    let e = subst (λ (s : Step). IsStep xs ys s) c.in-Ok-Answer.field-0-is (c.in-Ok-Answer.ensures {u = tt}).step in
    smaller_by xs ys _ e refl

pub steps-preserved-in-Answer-1 : goal.steps-preserved-in-Answer-1
steps-preserved-in-Answer-1 g c =
    let xs = g.R.Run.left c.steps.run in
    let ys = g.R.Run.left c.next.new.self in
    let i = c.steps.invariant in
    let e = subst (λ (s : Step). IsStep xs ys s) c.in-Ok-Answer.field-0-is (c.in-Ok-Answer.ensures {u = tt}).step in
    record {
      put = (i.put.0, i.put.1, i.put.2 ∙ ap (λ (bs : List ℕ). i.put.0 ++ bs) (texts_by xs _ e));
      runs = (c.in-Ok-Answer.ensures {u = tt}).is_run;
      ends = λ f. i.ends (ends_by xs _ e f);
      end = sym (stop_by xs _ e) ∙ i.end;
      faults = i.faults;
    }

pub returns-in_err-put_text-in-Ok-Wrote-clause-written :
    goal.returns-in_err-put_text-in-Ok-Wrote-clause-written
returns-in_err-put_text-in-Ok-Wrote-clause-written g c =
    let xs = g.R.Run.left c.steps.run in
    let ys = g.R.Run.left c.next.new.self in
    let w0 = g.O.Sink.written c.args.out.now in
    let w1 = g.O.Sink.written c.steps.out in
    let w2 = g.O.Sink.written c.put_text.new.out in
    let i = c.steps.invariant.put in
    let text = c.in-Ok-Wrote.text in
    let e = subst (λ (s : Step). IsStep xs ys s) c.in-Ok-Wrote.field-0-is (c.in-Ok-Wrote.ensures {u = tt}).step in
    passed_front _ w0 w2 c.from_residual.result (written (g.R.Run.left c.args.run.now)) c.from_residual.ensures.1
    (subst (λ (bs : List ℕ). PutsFront w0 w2 bs) (sym (i.2 ∙ ap (λ (bs : List ℕ). i.0 ++ bs) (texts_by xs (Wrote text ys) e)))
    (front_more w0 w1 w2 i.0 text (written ys) i.1 (c.in_err-put_text-in-Ok-Wrote.ensures {u = tt}).written))

pub steps-smaller : goal.steps-smaller
steps-smaller g c =
    let xs = g.R.Run.left c.steps.run in
    let ys = g.R.Run.left c.next.new.self in
    let e = subst (λ (s : Step). IsStep xs ys s) c.in-Ok-Wrote.field-0-is (c.in-Ok-Wrote.ensures {u = tt}).step in
    smaller_by xs ys _ e refl

pub steps-preserved : goal.steps-preserved
steps-preserved g c =
    let xs = g.R.Run.left c.steps.run in
    let ys = g.R.Run.left c.next.new.self in
    let w0 = g.O.Sink.written c.args.out.now in
    let w1 = g.O.Sink.written c.steps.out in
    let w2 = g.O.Sink.written c.put_text.new.out in
    let i = c.steps.invariant in
    let text = c.in-Ok-Wrote.text in
    let put = c.in_ok-put_text-in-Ok-Wrote.ensures {u = tt} in
    let e = subst (λ (s : Step). IsStep xs ys s) c.in-Ok-Wrote.field-0-is (c.in-Ok-Wrote.ensures {u = tt}).step in
    record {
      put = (
        i.put.0 ++ text,
        wrote_more w0 w1 w2 i.put.0 text i.put.1 put.written,
        i.put.2 ∙ ap (λ (bs : List ℕ). i.put.0 ++ bs) (texts_by xs (Wrote text ys) e) ∙ sym (append_assoc i.put.0 text (written ys)),
      );
      runs = (c.in-Ok-Wrote.ensures {u = tt}).is_run;
      ends = λ f. i.ends (ends_by xs (Wrote text ys) e f);
      end = sym (stop_by xs (Wrote text ys) e) ∙ i.end;
      faults = put.faults ∙ i.faults;
    }

pub returns-in-Ok-End-clause-written : goal.returns-in-Ok-End-clause-written
returns-in-Ok-End-clause-written g c =
    let xs = g.R.Run.left c.steps.run in
    let ys = g.R.Run.left c.next.new.self in
    let w0 = g.O.Sink.written c.args.out.now in
    let w1 = g.O.Sink.written c.steps.out in
    let i = c.steps.invariant.put in
    let e = subst (λ (s : Step). IsStep xs ys s) c.in-Ok-End.field-0-is (c.in-Ok-End.ensures {u = tt}).step in
    subst (λ (bs : List ℕ). call.Wrote w0 w1 bs) (sym (i.2 ∙ ap (λ (bs : List ℕ). i.0 ++ bs) (texts_by xs End e) ∙ append-nil i.0)) i.1

pub returns-in-Ok-End-clause-end : goal.returns-in-Ok-End-clause-end
returns-in-Ok-End-clause-end g c =
    let xs = g.R.Run.left c.steps.run in
    let ys = g.R.Run.left c.next.new.self in
    let e = subst (λ (s : Step). IsStep xs ys s) c.in-Ok-End.field-0-is (c.in-Ok-End.ensures {u = tt}).step in
    sym (stop_by xs End e) ∙ c.steps.invariant.end

pub returns-in-Ok-End-clause-ends : goal.returns-in-Ok-End-clause-ends
returns-in-Ok-End-clause-ends g c =
    let xs = g.R.Run.left c.steps.run in
    let ys = g.R.Run.left c.next.new.self in
    let e = subst (λ (s : Step). IsStep xs ys s) c.in-Ok-End.field-0-is (c.in-Ok-End.ensures {u = tt}).step in
    c.steps.invariant.ends (ends_by xs End e tt)

pub returns-in-Ok-Stopped-clause-written : goal.returns-in-Ok-Stopped-clause-written
returns-in-Ok-Stopped-clause-written g c =
    let xs = g.R.Run.left c.steps.run in
    let ys = g.R.Run.left c.next.new.self in
    let w0 = g.O.Sink.written c.args.out.now in
    let w1 = g.O.Sink.written c.steps.out in
    let i = c.steps.invariant.put in
    let e = subst (λ (s : Step). IsStep xs ys s) c.in-Ok-Stopped.field-0-is (c.in-Ok-Stopped.ensures {u = tt}).step in
    subst (λ (bs : List ℕ). call.Wrote w0 w1 bs) (sym (i.2 ∙ ap (λ (bs : List ℕ). i.0 ++ bs) (texts_by xs (Stopped (plain_stop c.in-Ok-Stopped.stop)) e) ∙ append-nil i.0)) i.1

pub returns-in-Ok-Stopped-clause-end : goal.returns-in-Ok-Stopped-clause-end
returns-in-Ok-Stopped-clause-end g c =
    let xs = g.R.Run.left c.steps.run in
    let ys = g.R.Run.left c.next.new.self in
    let e = subst (λ (s : Step). IsStep xs ys s) c.in-Ok-Stopped.field-0-is (c.in-Ok-Stopped.ensures {u = tt}).step in
    sym (stop_by xs (Stopped (plain_stop c.in-Ok-Stopped.stop)) e) ∙ c.steps.invariant.end

pub returns-in-Ok-Wants-clause-written : goal.returns-in-Ok-Wants-clause-written
returns-in-Ok-Wants-clause-written g c =
    let xs = g.R.Run.left c.steps.run in
    let w0 = g.O.Sink.written c.args.out.now in
    let w1 = g.O.Sink.written c.steps.out in
    let i = c.steps.invariant.put in
    subst (λ (bs : List ℕ). PutsFront w0 w1 bs) (sym i.2)
    (front_behind w0 w1 w1 i.0 (written xs) i.1 (nothing_front w1 w1 (written xs) (wrote_nothing w1 w1 refl)))

use Rattle.std.proofs.Common.{◌+◌, inl, inr, sym, subst, map, take, arith, rules}
use Rattle.mc_model.specs.PlainGoals.{plain_node, plain_proc}
use Rattle.mc_model.specs.declared.sched.Proc.{Proc}
use Rattle.mc_flat_code.specs.Standing.{StandsFor}
use Rattle.mc_flat_code.specs.code.Bodies.{EachStands}
use Rattle.mc_flat_code.specs.declared.code.Code.{Code}
use Rattle.mc_flat_code.specs.Mentions.{Mentions}
use Rattle.mc_flat_code.proofs.Mentioning.{body_mentions}
use Rattle.mc_flat_code.proofs.Bodies.{bodies_step, bodies_whole}
use Rattle.mc_flat_code.proofs.code.FlatProgram.of.Goals as goal

pub loop-procedure-init : goal.loop-procedure-init
loop-procedure-init c =
    record {
      is_code = c.in_ok-code.ensures.code;
      stands = search rules;
      mentions = λ m x. absurd (c.in_ok-code.ensures.mentions m x);
    }

pub loop-procedure-preserved : goal.loop-procedure-preserved
loop-procedure-preserved c =
    let new : Code = c.body.new.self in
    record {
      is_code = c.in_ok-body.ensures.is_code;
      stands =
          subst (λ bs. EachStands new bs (map plain_proc (take (c.loop-procedure.procedure-index + 1) c.args.procedures.now))) (sym c.in_ok-push.ensures.items)
          (bodies_step c.loop-procedure.code new c.in_ok-body.ensures.grows c.loop-procedure.bodies.items c.in_ok-body.field-0 c.args.procedures.now c.loop-procedure.procedure-index c.procedure-item.result c.loop-procedure-test.true c.loop-procedure.invariant.stands
          (subst (λ (p : Proc). StandsFor new c.in_ok-body.field-0 (plain_proc p)) c.procedure-item.is c.in_ok-body.ensures.stands));
      mentions = λ m x.
          elim (c.in_ok-body.ensures.brings.only m x) [
            | inl q ↦ c.loop-procedure.invariant.mentions m q
            | inr q ↦
                body_mentions c.args.procedures.now c.loop-procedure.procedure-index c.procedure-item.result m c.loop-procedure-test.true (subst (λ (p : Proc). Mentions (plain_node p.body) m) c.procedure-item.is q)
          ];
    }

pub returns-clause-stands : goal.returns-clause-stands
returns-clause-stands c =
    bodies_whole (record { code = c.loop-procedure.code; bodies = c.loop-procedure.bodies }) c.args.procedures.now c.loop-procedure.procedure-index (omega arith) c.loop-procedure.invariant.stands

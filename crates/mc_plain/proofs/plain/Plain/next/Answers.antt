use Rattle.std.proofs.Common.{Option, subst}
use Rattle.mc_model.specs.declared.run.Step.{Step}
use Rattle.mc_plain.specs.Rest.{FollowsIf}
use Rattle.mc_plain.specs.Running.{run_of}
use Rattle.mc_plain.proofs.Opening.{something}
use Rattle.mc_plain.proofs.plain.Plain.next.Goals as goal

pub unreachable-requires : goal.unreachable-requires
unreachable-requires c =
    something (run_of c.args.self.now) (run_of c.next_if_bound.new.self) c.requires.good
    (subst (λ (s : Option Step). FollowsIf s (run_of c.args.self.now) (run_of c.next_if_bound.new.self)) c.in-None.is (c.in_ok-step.ensures {u = tt}).next)

use Rattle.mc_plain.specs.code.RunState.{rest_in}
use Rattle.mc_plain.specs.Running.{run_of}
use Rattle.mc_plain.proofs.Opening.{follows_run}
use Rattle.mc_plain.proofs.Waiting.{follows_wants}
use Rattle.mc_plain.proofs.plain.Plain.next_if_bound.Goals as goal

pub next-requires-clause-setting : goal.next-requires-clause-setting
next-requires-clause-setting c = (c.requires c.if-self.false).setting

pub next-requires-clause-ready : goal.next-requires-clause-ready
next-requires-clause-ready c = (c.requires c.if-self.false).ready

pub returns-in-Ok-clause-is_run : goal.returns-in-Ok-clause-is_run
returns-in-Ok-clause-is_run c =
    λ whole. record { setting = (c.requires c.if-self.false).setting; ready = c.in-Ok.ensures.0 }

pub returns-in-Ok-clause-next : goal.returns-in-Ok-clause-next
returns-in-Ok-clause-next c =
    follows_run c.args.self.now.broken c.if-self.false c.in-Ok.step (rest_in c.args.self.now.setting c.args.self.now.work) (rest_in c.args.self.now.setting c.next.new.self) c.in-Ok.ensures.1

pub returns-in-Ok-clause-wants : goal.returns-in-Ok-clause-wants
returns-in-Ok-clause-wants c =
    follows_wants c.in-Ok.step (run_of c.args.self.now) (run_of (record c.args.self.now { work = c.next.new.self }))
    (follows_run c.args.self.now.broken c.if-self.false c.in-Ok.step (rest_in c.args.self.now.setting c.args.self.now.work) (rest_in c.args.self.now.setting c.next.new.self) c.in-Ok.ensures.1)

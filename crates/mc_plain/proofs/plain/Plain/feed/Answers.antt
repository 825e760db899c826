use Rattle.mc_plain.specs.code.RunState.{rest_in}
use Rattle.mc_plain.proofs.Waiting.{wants_run, fed_run}
use Rattle.mc_plain.proofs.plain.Plain.feed.Goals as goal

pub feed-requires-clause-setting : goal.feed-requires-clause-setting
feed-requires-clause-setting c = (c.requires.is_run c.if-self.false).setting

pub feed-requires-clause-ready : goal.feed-requires-clause-ready
feed-requires-clause-ready c = (c.requires.is_run c.if-self.false).ready

pub feed-requires-clause-wants : goal.feed-requires-clause-wants
feed-requires-clause-wants c =
    wants_run c.args.self.now.broken c.if-self.false (rest_in c.args.self.now.setting c.args.self.now.work) c.requires.wants

pub returns-in-Ok-clause-is_run : goal.returns-in-Ok-clause-is_run
returns-in-Ok-clause-is_run c =
    λ whole. record { setting = (c.requires.is_run c.if-self.false).setting; ready = c.in-Ok.ensures.ready }

pub returns-in-Ok-clause-fed : goal.returns-in-Ok-clause-fed
returns-in-Ok-clause-fed c =
    fed_run c.args.got (rest_in c.args.self.now.setting c.args.self.now.work) (rest_in c.args.self.now.setting c.feed.new.self) c.args.self.now.broken c.if-self.false c.in-Ok.ensures.fed

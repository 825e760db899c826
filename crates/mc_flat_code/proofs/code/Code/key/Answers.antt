use Rattle.std.proofs.Common.{subst, sym}
use Rattle.mc_model.specs.PlainGoals.{plain_label}
use Rattle.mc_model.specs.declared.sched.On.{On}
use Rattle.mc_flat_code.specs.code.Mentioning.{Brings, LabelMentions}
use Rattle.mc_flat_code.proofs.code.Code.key.Goals as goal

pub returns-in_ok-add_value-in-Const-clause-brings : goal.returns-in_ok-add_value-in-Const-clause-brings
returns-in_ok-add_value-in-Const-clause-brings c =
    subst (λ (o : On). Brings c.args.self.now c.add_value.new.self (LabelMentions (plain_label o))) (sym c.in-Const.is) c.in_ok-add_value-in-Const.ensures.brings

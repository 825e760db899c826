use Rattle.std.proofs.Common.{◌∙◌, ap}
use Rattle.mc_names.specs.Plain.{joined}
use Rattle.mc_modules.proofs.linking.Linking.number.Goals as goal

pub returns : goal.returns
returns c = rw (← c.self.view_is) (c.in_ok-number.ensures ∙ ap (λ f. f (joined c.args.name.now)) c.self.invariant.named)

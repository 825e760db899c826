use Rattle.std.proofs.Common.{sym, ◌∙◌}
use Rattle.mc_names.proofs.Sole.{sole-one, sole-two}
use Rattle.mc_names.proofs.character.sole.Goals as goal

pub returns-in-Some : goal.returns-in-Some
returns-in-Some c =
    sym (sole-two c.args.text.now _ _ _ _ c.utf8.text (sym c.chars-characters.ensures.rest ∙ c.in_ok-first.ensures.steps.0) c.in-Some.ensures.steps.0)

pub returns-in-None : goal.returns-in-None
returns-in-None c =
    sym (sole-one c.args.text.now _ _ c.utf8.text (sym c.chars-characters.ensures.rest ∙ c.in_ok-first.ensures.steps.0) c.in-None.ensures.steps.0.0)

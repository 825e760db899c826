use Rattle.std.proofs.Common.{sym, ◌∙◌, ap}
use Rattle.std.specs.Str.{chars}
use Rattle.mc_names.specs.Characters.{sole}
use Rattle.mc_names.proofs.Sole.{sole_character-text, sole_character-other}
use Rattle.mc_names.proofs.character.sole_character.Goals as goal

pub returns-in-Ok : goal.returns-in-Ok
returns-in-Ok c = c.sole.ensures ∙ ap (λ w. sole (chars w)) c.in-Ok.ensures.cases.0 ∙ sym (sole_character-text c.args.name.now c.in-Ok.ensures.cases.1)

pub returns-in-Err : goal.returns-in-Err
returns-in-Err c = sym (sole_character-other c.args.name.now c.in-Err.ensures.cases.0)

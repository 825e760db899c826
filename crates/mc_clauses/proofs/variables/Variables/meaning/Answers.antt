use Rattle.std.proofs.Common.{◌∙◌, ap, sym}
use Rattle.std.specs.Option.{option_flatten}
use Rattle.mc_clauses.proofs.Meanings.{meaning-entries}
use Rattle.mc_clauses.proofs.variables.Variables.meaning.Goals as goal

pub returns : goal.returns
returns c = c.flatten.ensures ∙ ap option_flatten (c.copied.ensures ∙ c.get.ensures.value) ∙ sym (meaning-entries c.args.self.now.meanings.entries c.args.name.now)

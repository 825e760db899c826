use Rattle.std.proofs.Common.{sym, ◌∙◌, ap}
use Rattle.mc_names.specs.Numbers.{number_of}
use Rattle.mc_modules.proofs.Numbers.{entries_of, number_of-entries, vec_name}
use Rattle.mc_modules.proofs.module_names.ModuleNames.number.Goals as goal

pub returns : goal.returns
returns c =
    rw (← c.self.view_is)
    (c.copied.ensures ∙ c.get.ensures.value ∙ sym (number_of-entries vec_name c.self.inside.numbers.entries c.bytes.result.now)
    ∙ ap (number_of (entries_of vec_name c.self.inside.numbers.entries)) (c.bytes.ensures.items ∙ c.in_ok-name.ensures))

use Rattle.std.proofs.Common.{◌∙◌, ap, refl, cond, Some}
use Rattle.std.specs.Str.{bytes_eq}
use Rattle.mc_names.specs.Numbers.{number_of}
use Rattle.mc_modules.proofs.Numbers.{entries_of, number_of-insert, vec_name}
use Rattle.mc_modules.proofs.ModulesSeen.{same_functions}
use Rattle.mc_modules.proofs.module_names.ModuleNames.put.Goals as goal

pub returns : goal.returns
returns c =
    same_functions _ _
    (λ w. ap (λ es. number_of (entries_of vec_name es) w) c.in_ok-insert.ensures.entries
    ∙ number_of-insert vec_name _ (λ x y. refl) c.self.inside.numbers.entries c.in_ok-into_vec.field-0 c.args.number w
    ∙ ap (λ n. cond (bytes_eq w n) (Some c.args.number) (number_of (entries_of vec_name c.self.inside.numbers.entries) w)) c.in_ok-into_vec.ensures.items
    ∙ ap (λ s. cond (bytes_eq w c.args.name) (Some c.args.number) (number_of s w)) c.self.view_is)

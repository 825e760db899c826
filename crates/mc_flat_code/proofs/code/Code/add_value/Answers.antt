use Rattle.std.proofs.Common.{ap, ◌∙◌, [], ◌∷◌, ◌++◌, map}
use Rattle.std.proofs.lemmas.List.{map_push}
use Rattle.mc_program.specs.Values.{plain_value}
use Rattle.mc_program.specs.declared.value.Value.{Value}
use Rattle.mc_flat_code.proofs.Mentioning.{brings_value}
use Rattle.mc_flat_code.proofs.code.Code.add_value.Goals as goal

pub returns-clause-brings : goal.returns-clause-brings
returns-clause-brings c =
    brings_value c.args.self.now (plain_value c.args.value.now) c.push.new.self
    (ap (map plain_value) c.in_ok-push.ensures.items ∙ map_push plain_value c.args.self.now.values.items c.in_ok-copy_value.field-0
    ∙ ap (λ (v : Value). map plain_value c.args.self.now.values.items ++ plain_value v ∷ []) c.in_ok-copy_value.ensures)

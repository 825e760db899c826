-- What is known of variables, as a list of facts, the last of which counts.
use Rattle.std.specs.Prelude.{nat_eq, List, [], ◌∷◌, Some, None, if◌then◌else◌}
use Rattle.std.specs.Option.{option_or}
use Rattle.mc_model.specs.PlainGoals.{plain_label}
use Rattle.mc_accepted.specs.Determined.{Known}
use Rattle.mc_det.specs.declared.facts.Fact.{Fact}

abbrev pub known_in : List Fact → Known
known_in [] x = None
known_in (f ∷ facts) x =
    option_or (known_in facts x)
    (if nat_eq x f.variable then Some (plain_label f.on) else None)

-- What a goal deconstructs, as it stands for what the switch form speaks of. (Mercury Language
-- Reference Manual: Determinism, switches.)
use Rattle.std.specs.Prelude.{List, map}
use Rattle.mc_program.specs.Values.{int, char, str}
use Rattle.mc_model.specs.Scheduled.{Label, for_symbol, for_constant}
use Rattle.mc_accepted.specs.Switched as spec
use Rattle.mc_switch.specs.declared.opening.Opening.{Opening}
use Rattle.mc_switch.specs.declared.opening.OpeningLabel.{OpeningLabel}
use Rattle.mc_switch.specs.declared.opening.OpeningLabel.TheVariants as O

abbrev pub plain_opening_label : OpeningLabel → Label
plain_opening_label (O.Symbol s) = for_symbol s
plain_opening_label (O.Int n) = for_constant (int n)
plain_opening_label (O.Char c) = for_constant (char c)
plain_opening_label (O.Str t) = for_constant (str t.now)

abbrev pub plain_opening : Opening → spec.Opening
plain_opening o = (o.variable, plain_opening_label o.label)

abbrev pub plain_openings : List Opening → List spec.Opening
plain_openings os = map plain_opening os

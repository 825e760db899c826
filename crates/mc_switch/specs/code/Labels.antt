-- What is opened, piece by piece, and the first labels of a disjunct's variables as a map.
use Rattle.std.specs.Prelude.{◌≡◌, ℕ, Bool, Option, List, [], ◌∷◌, nat_eq, if◌then◌else◌}
use Rattle.std.specs.Option.{option_map}
use Rattle.std.specs.HashMap.{HashMap, get}
use Rattle.mc_program.specs.Values.{plain_value}
use Rattle.mc_program.specs.declared.value.Value.{Value}
use Rattle.mc_model.specs.Scheduled.{Label, for_symbol, for_constant}
use Rattle.mc_model.specs.PlainGoals.{plain_node}
use Rattle.mc_accepted.specs.Switched as spec
use Rattle.mc_accepted.specs.Switched.{is_constant, label_in, is_told, is_label}
use Rattle.mc_switch.specs.declared.disjunct.Opened.{Opened}
use Rattle.mc_switch.specs.declared.opening.Opening.{Opening}
use Rattle.mc_switch.specs.declared.opening.OpeningLabel.{OpeningLabel}
use Rattle.mc_switch.specs.Openings.{plain_opening_label, plain_openings}

-- what a test for a constant deconstructs
abbrev pub constant_opening : ℕ → Value → List spec.Opening
constant_opening x v =
    if is_constant (plain_value v) then (x, for_constant (plain_value v)) ∷ [] else []

-- a map has the first label of each variable that is opened
abbrev pub AreFirst : {S : Type 0} → HashMap ℕ OpeningLabel S → List Opening → Type 0
AreFirst labels os =
    (x : ℕ) → option_map plain_opening_label (get nat_eq labels x) ≡ label_in x (plain_openings os)

-- a disjunct as the switch form sees it
abbrev pub plain_opened : Opened → spec.Disjunct
plain_opened o = record { opens = plain_openings o.opens; goal = plain_node o.goal }

-- a disjunct opens a variable; it does so with a symbol
abbrev pub is_opened_by : ℕ → Opened → Bool
is_opened_by x o = is_told (label_in x (plain_openings o.opens))

abbrev pub is_symbol_in : ℕ → (symbol : ℕ) → Opened → Bool
is_symbol_in x s o = is_label (for_symbol s) (label_in x (plain_openings o.opens))

-- what is kept of a disjunct has the first label of each variable
abbrev pub KeepsFirst : Opened → Type 0
KeepsFirst o = AreFirst o.labels o.opens

-- what a label that may be missing stands for
abbrev pub opening_of : Option OpeningLabel → Option Label
opening_of l = option_map plain_opening_label l

-- Runs of the machine.
use Rattle.mc_term_parser.specs.code.Machine.{Making, State, step}

module _ {T R : Type 0} (A : Making T R) where
  pub data Leads : State T R → State T R → Type 0 where
    here : {s : State T R} → Leads s s
    onward : {s t : State T R} → Leads (step A s) t → Leads s t

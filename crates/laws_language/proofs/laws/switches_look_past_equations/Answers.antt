use Rattle.laws_language.proofs.Switches.{accepted_switches_open}
use Rattle.laws_language.proofs.laws.switches_look_past_equations.Goals as goal

pub returns : goal.returns
returns c = accepted_switches_open

-- What is listed of procedures, by their numbers.
use Rattle.std.specs.Prelude.{ℕ, Option}
use Rattle.mc_source.specs.Rules.{Fault}
use Rattle.mc_source.specs.declared.place.Place.{Place}
use Rattle.mc_model.specs.Good.{System}
use Rattle.mc_accepted.specs.DeterminismFaults.{procedure_fault}
use Rattle.mc_procs.specs.Procedures.{PlainProcs, procedure_at}
use Rattle.mc_det.specs.Determinisms.{declared_procedure}

-- where a procedure is declared, and its first broken rule
abbrev pub place_of : PlainProcs → ℕ → Place
place_of q k = (declared_procedure q.added k).at

abbrev pub rule_of : System → PlainProcs → ℕ → Option Fault
rule_of S q k = procedure_fault S (declared_procedure q.added k) (procedure_at q.added k)

use Rattle.std.proofs.Common.{◌≡◌, List}
use Rattle.mc_program.specs.Values.{Val}
use Rattle.mc_program.specs.declared.builtin.Builtin.{Builtin}
use Rattle.mc_source.specs.Rules.{first_rules}
use Rattle.mc_model.specs.Lists.{from}
use Rattle.mc_model.specs.Outcomes.{Outcome}
use Rattle.mc_procs.specs.Procedures.{as_system}
use Rattle.mc_det_rules.specs.code.Listed.{place_of, rule_of}
use Rattle.mc_det_rules.proofs.listed.faulty_procedures.Given as goal

abbrev pub invariant-loop-k : goal.invariant-loop-k
invariant-loop-k l = (outcome : Builtin → List Val → Outcome) → l.faults.items ≡ first_rules (place_of l.procs) (rule_of (as_system outcome l.procs) l.procs) (from 0 l.k)

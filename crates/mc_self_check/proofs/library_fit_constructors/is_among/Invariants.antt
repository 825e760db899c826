use Rattle.std.proofs.Common.{◌↔◌, drop}
use Rattle.mc_model.specs.Lists.{In}
use Rattle.mc_self_check.proofs.library_fit_constructors.is_among.Given as goal

abbrev pub invariant-loop-other : goal.invariant-loop-other
invariant-loop-other l = In l.number l.numbers ↔ In l.number (drop l.other-index l.numbers)

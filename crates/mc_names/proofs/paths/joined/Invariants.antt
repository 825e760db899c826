use Rattle.std.proofs.Common.{◌≡◌, ◌++◌, drop}
use Rattle.mc_names.specs.Plain.{joined}
use Rattle.mc_names.proofs.Dotted.{dotted}
use Rattle.mc_names.proofs.paths.joined.Given as goal

abbrev pub invariant-loop-part : goal.invariant-loop-part
invariant-loop-part l = l.text ++ dotted (drop l.part-index l.others) ≡ joined l.name

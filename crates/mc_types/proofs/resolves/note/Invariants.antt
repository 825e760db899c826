use Rattle.std.proofs.Common.{◌≡◌, take}
use Rattle.mc_types.specs.code.Standing.{choices}
use Rattle.mc_types.proofs.resolves.note.Given as goal

abbrev pub invariant-loop-level : goal.invariant-loop-level
invariant-loop-level l = l.choices.items ≡ choices (take l.level-index l.path)

use Rattle.std.proofs.Common.{◌≡◌}
use Rattle.mc_terms.specs.Lines.{line_at}
use Rattle.mc_terms.proofs.position.Position.moved.Given as goal

abbrev pub invariant-loop-i : goal.invariant-loop-i
invariant-loop-i l = l.line ≡ line_at l.text l.i

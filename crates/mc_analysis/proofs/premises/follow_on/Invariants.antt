use Rattle.std.proofs.Common.{◌↔◌, drop}
use Rattle.mc_analysis.specs.code.Tests.{FollowOn}
use Rattle.mc_analysis.proofs.premises.follow_on.Given as goal

abbrev pub invariant-loop-place : goal.invariant-loop-place
invariant-loop-place l = FollowOn l.sigs l.place (drop l.place l.ids) ↔ FollowOn l.sigs 0 l.ids

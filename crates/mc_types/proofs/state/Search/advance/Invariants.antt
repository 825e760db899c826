use Rattle.std.proofs.Common.{ℕ, List}
use Rattle.std.proofs.Math.Logic.{◌↔◌}
use Rattle.mc_types.specs.Typed.{Live}
use Rattle.mc_types.specs.code.Passed.{Passed}
use Rattle.mc_types.specs.code.Standing.{Stands, choices}
use Rattle.mc_types.proofs.Choosing.{to_try}
use Rattle.mc_types.proofs.state.Search.advance.Given as goal

abbrev pub invariant-tries : goal.invariant-tries
invariant-tries l = record {
  stands : Stands l.signatures l.steps l.places l.self;
  same : (cs : List ℕ) → Live l.signatures l.steps cs → Passed (choices l.self.path.items) l.self.next cs ↔ Passed (choices l.fn.self.path.items) l.fn.self.next cs;
}

abbrev pub decreases-tries : goal.decreases-tries
decreases-tries l = to_try l.steps (choices l.self.path.items) l.self.next

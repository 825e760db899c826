use Rattle.std.proofs.Common.{◌≡◌, length}
use Rattle.mc_accepted.specs.InstRules.{Bodies}
use Rattle.mc_insts.specs.code.Lists.{Extends}
use Rattle.mc_insts.specs.Defining.{plain_definitions}
use Rattle.mc_signatures.specs.code.Keys.{terms}
use Rattle.mc_signatures.specs.code.Rows.{BodiesAre}
use Rattle.mc_signatures.proofs.Choosing.{AreMany}
use Rattle.mc_signatures.proofs.rows.rows.Given as goal

abbrev pub invariant-loop-place : goal.invariant-loop-place
invariant-loop-place l = record {
  extends : Extends (terms l.initial.insts) (terms l.insts);
  count : length l.defs.items ≡ l.place;
  many : (body : Bodies) → BodiesAre body l.bodies → AreMany body (terms l.insts) (plain_definitions l.defs.items);
}

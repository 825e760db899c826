use Rattle.std.proofs.Common.{◌≤◌, length, map}
use Rattle.mc_insts.specs.Defining.{plain_choice}
use Rattle.mc_signatures.specs.code.Rows.{AreUnlisted}
use Rattle.mc_signatures.proofs.Choosing.{Goes_on}
use Rattle.mc_signatures.proofs.rows.choices.Given as goal

abbrev pub invariant-loop-functor : goal.invariant-loop-functor
invariant-loop-functor l = record {
  there : l.rest ≤ length l.listed;
  goes : Goes_on l.named l.listed l.functor-index l.rest (map plain_choice l.choices.items);
  unlisted : AreUnlisted (map plain_choice l.choices.items);
}

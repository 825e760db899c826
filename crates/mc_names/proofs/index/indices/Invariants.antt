use Rattle.std.proofs.Common.{◌≡◌, take, length}
use Rattle.mc_names.specs.code.Index.{IsIndex}
use Rattle.mc_names.proofs.index.indices.Given as goal

abbrev pub invariant-loop-candidates : goal.invariant-loop-candidates
invariant-loop-candidates l = record {
  as_many : length l.all.items ≡ l.candidates-index;
  is : IsIndex l.symbols l.preds l.all.items (take l.candidates-index l.declared);
}

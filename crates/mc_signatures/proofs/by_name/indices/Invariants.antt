use Rattle.std.proofs.Common.{◌≡◌, take, length}
use Rattle.mc_decl_syntax.specs.Entries.{plain_files}
use Rattle.mc_signatures.specs.code.ByName.{AreIndices}
use Rattle.mc_signatures.proofs.by_name.indices.Given as goal

abbrev pub invariant-loop-entries : goal.invariant-loop-entries
invariant-loop-entries l = record {
  as_many : length l.all.items ≡ l.entries-index;
  are : AreIndices l.all.items (plain_files (take l.entries-index l.files));
}

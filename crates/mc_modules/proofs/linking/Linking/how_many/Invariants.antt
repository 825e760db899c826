use Rattle.std.proofs.Common.{◌≡◌, ◌≤◌, ◌+◌, drop}
use Rattle.mc_names.specs.Plain.{plain_name_arity}
use Rattle.mc_decl_syntax.specs.Entries.{plain_files}
use Rattle.mc_modules.specs.Visible.{how_many}
use Rattle.mc_modules.proofs.linking.Linking.how_many.Given as goal

abbrev pub invariant-loop-number : goal.invariant-loop-number
invariant-loop-number l = record {
  counted : l.count + how_many (plain_files l.self) l.own l.kind (plain_name_arity l.id) (drop l.number-index l.numbers) ≡ how_many (plain_files l.self) l.own l.kind (plain_name_arity l.id) l.numbers;
  few : l.count ≤ l.number-index;
}

use Rattle.std.proofs.Common.{◌≡◌, ℕ, [], map, drop}
use Rattle.mc_decl_syntax.specs.Entries.{plain_entry}
use Rattle.mc_names.specs.Linked.{Linked}
use Rattle.mc_type_phase.specs.Typing.{module_clauses}
use Rattle.mc_type_phase.specs.Items.{without_clauses}
use Rattle.mc_type_phase.proofs.alike.has_clauses.Given as goal

abbrev pub invariant-loop-entry : goal.invariant-loop-entry
invariant-loop-entry l = record {
  none :
      (names : Linked) (own : ℕ)
      → module_clauses names own (map plain_entry (drop l.entry-index l.file)) ≡ []
      → module_clauses names own (map plain_entry l.file) ≡ [];
  others :
      without_clauses (map plain_entry (drop l.entry-index l.file))
      ≡ map plain_entry (drop l.entry-index l.file)
      → without_clauses (map plain_entry l.file) ≡ map plain_entry l.file;
}

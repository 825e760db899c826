use Rattle.std.proofs.Common.{◌≡◌, ℕ, ◌++◌, List, map, length}
use Rattle.std.specs.Prelude.{Option}
use Rattle.std.specs.Vec.Iter.{into_iter_items, into_iter_len}
use Rattle.mc_program.specs.Programs.{TypeTerm}
use Rattle.mc_decl_syntax.specs.Entries.{plain_entry}
use Rattle.mc_names.specs.Linked.{Linked, plain_names}
use Rattle.mc_type_phase.specs.Typing.{module_clauses}
use Rattle.mc_type_phase.specs.Items.{Item, clause_item, without_clauses}
use Rattle.mc_type_phase.specs.code.Adding.{Checks, Adds}
use Rattle.mc_type_phase.specs.code.Subjects.{IsKnown}
use Rattle.mc_type_phase.proofs.judged.TypecheckResult.typecheck_file.Given as goal

abbrev pub invariant-loop-entry : goal.invariant-loop-entry
invariant-loop-entry l = record {
  left : into_iter_len l.entry-iterator ≡ length (into_iter_items l.entry-iterator);
  added :
      (names : Linked) (seen : (own : ℕ) → ℕ → Option TypeTerm)
      → Checks names (seen l.checker.at.own) l.checker
      → (done : List Item)
      × Adds names seen done l.initial.self l.self
      × (done
      ++ map (clause_item names)
      (module_clauses names l.checker.at.own (map plain_entry (into_iter_items l.entry-iterator)))
      ≡ map (clause_item names)
      (module_clauses names l.checker.at.own (map plain_entry l.fn.file)));
  others :
      map plain_entry l.taken.others.items
      ++ without_clauses (map plain_entry (into_iter_items l.entry-iterator))
      ≡ without_clauses (map plain_entry l.fn.file);
  known : IsKnown (plain_names l.checker.at.names.now) l.checker.at.own l.known;
}

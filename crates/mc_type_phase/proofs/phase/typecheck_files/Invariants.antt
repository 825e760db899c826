use Rattle.std.proofs.Common.{◌≡◌, ◌++◌, List, map, length}
use Rattle.std.specs.Vec.Iter.{into_iter_items, into_iter_len}
use Rattle.mc_decl_syntax.specs.Entries.{plain_files}
use Rattle.mc_names.specs.Linked.{plain_names}
use Rattle.mc_type_table.specs.Visibility.{definitions_seen}
use Rattle.mc_type_phase.specs.Items.{Item, without_clauses}
use Rattle.mc_type_phase.specs.code.Adding.{Adds, IsAtHand}
use Rattle.mc_type_phase.proofs.FilesOf.{items_from}
use Rattle.mc_type_phase.proofs.phase.typecheck_files.Given as goal

abbrev pub invariant-loop-file : goal.invariant-loop-file
invariant-loop-file l = record {
  left : into_iter_len l.file-iterator ≡ length (into_iter_items l.file-iterator);
  at_hand : IsAtHand (plain_names l.names) l.at_hand;
  added :
      (done : List Item)
      × Adds (plain_names l.names) (definitions_seen (plain_names l.names)) done l.initial.judged l.judged
      × (done ++ items_from (plain_names l.names) l.own (into_iter_items l.file-iterator)
      ≡ items_from (plain_names l.names) 0 l.fn.files);
  others :
      plain_files l.others.items
      ++ map without_clauses (plain_files (into_iter_items l.file-iterator))
      ≡ map without_clauses (plain_files l.fn.files);
}

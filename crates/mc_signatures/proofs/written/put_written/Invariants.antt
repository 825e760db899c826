use Rattle.std.proofs.Common.{◌≡◌, ◌++◌, map, drop}
use Rattle.mc_term_data.specs.Plain.{plain_term, term_list}
use Rattle.mc_names.specs.Linked.{plain_names}
use Rattle.mc_inst_table.specs.Plain.{plain_mode}
use Rattle.mc_signatures.specs.WrittenModes.{written_modes}
use Rattle.mc_signatures.proofs.written.put_written.Given as goal

abbrev pub invariant-loop-term : goal.invariant-loop-term
invariant-loop-term l =
    map plain_mode l.modes.items
    ++ written_modes (plain_names l.names) l.own (term_list (map plain_term (drop l.term-index l.terms)))
    ≡ map plain_mode l.initial.modes.items
    ++ written_modes (plain_names l.names) l.own (term_list (map plain_term l.terms))

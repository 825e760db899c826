use Rattle.std.proofs.Common.{◌≡◌, take, map}
use Rattle.mc_term_data.specs.Plain.{plain_term, term_list}
use Rattle.mc_names.specs.Linked.{plain_names}
use Rattle.mc_inst_table.specs.Plain.{plain_insts}
use Rattle.mc_inst_table.specs.Rules.{insts_of_modes}
use Rattle.mc_inst_table.proofs.items.modes.Given as goal

abbrev pub invariant-loop-term : goal.invariant-loop-term
invariant-loop-term l =
    plain_insts l.insts.items ≡ insts_of_modes (plain_names l.names) l.own (term_list (map plain_term (take l.term-index l.terms)))

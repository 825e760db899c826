use Rattle.std.proofs.Common.{◌≡◌, ◌+◌, ◌*◌, take, map}
use denote.Param.Weighed.{most}
use Rattle.mc_term_data.specs.Plain.{plain_term, term_list}
use Rattle.mc_term_data.specs.declared.term.Term.{size-Term}
use Rattle.mc_names.specs.Linked.{plain_names}
use Rattle.mc_inst_table.specs.Plain.{plain_insts}
use Rattle.mc_inst_table.specs.Written.{written_insts, all_listed}
use Rattle.mc_inst_table.proofs.written.+written.Given as goal

abbrev pub decreases-inst_of_term : goal.decreases-inst_of_term
decreases-inst_of_term l = 3 * size-Term l.term.now

abbrev pub decreases-inst_over : goal.decreases-inst_over
decreases-inst_over l = 3 * most size-Term l.arguments.now + 2

abbrev pub decreases-inst_over_one : goal.decreases-inst_over_one
decreases-inst_over_one l = 3 * size-Term l.argument.now + 1

abbrev pub decreases-written : goal.decreases-written
decreases-written l = 3 * most size-Term l.terms.now + 1

abbrev pub decreases-listed : goal.decreases-listed
decreases-listed l = 3 * size-Term l.term.now

abbrev pub decreases-all_listed : goal.decreases-all_listed
decreases-all_listed l = 3 * most size-Term l.terms.now + 1

abbrev pub invariant-written-loop-term : goal.invariant-written-loop-term
invariant-written-loop-term l =
    plain_insts l.insts.items
    ≡ written_insts (plain_names l.names) l.own l.variables (term_list (map plain_term (take l.term-index l.terms)))

abbrev pub invariant-all_listed-loop-term : goal.invariant-all_listed-loop-term
invariant-all_listed-loop-term l =
    plain_insts l.insts.items
    ≡ all_listed (plain_names l.names) l.own l.variables (term_list (map plain_term (take l.term-index l.terms)))

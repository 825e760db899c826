use Rattle.std.proofs.Common.{◌≡◌, take, map}
use Rattle.mc_term_data.specs.Plain.{plain_term, term_list}
use Rattle.mc_inst_table.specs.Plain.{plain_functor}
use Rattle.mc_inst_table.specs.Written.{functors}
use Rattle.mc_inst_table.proofs.functors.functors.Given as goal

abbrev pub invariant-loop-term : goal.invariant-loop-term
invariant-loop-term l =
    map plain_functor l.all.items ≡ functors (term_list (map plain_term (take l.term-index l.terms)))

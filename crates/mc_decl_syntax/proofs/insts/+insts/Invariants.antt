use Rattle.std.proofs.Common.{◌≡◌, drop, map}
use Rattle.mc_term_data.specs.Plain.{plain_term, term_list}
use Rattle.mc_decl_syntax.specs.Insts.{are_insts, are_symbols}
use Rattle.mc_decl_syntax.proofs.insts.+insts.Given as goal

abbrev pub invariant-are_insts-loop-term : goal.invariant-are_insts-loop-term
invariant-are_insts-loop-term l = are_insts l.parameters (term_list (map plain_term (drop l.term-index l.terms))) ≡ are_insts l.parameters (term_list (map plain_term l.terms))

abbrev pub invariant-are_symbols-loop-term : goal.invariant-are_symbols-loop-term
invariant-are_symbols-loop-term l = are_symbols l.parameters (term_list (map plain_term (drop l.term-index l.terms))) ≡ are_symbols l.parameters (term_list (map plain_term l.terms))

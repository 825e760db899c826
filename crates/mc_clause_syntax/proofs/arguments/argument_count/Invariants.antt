use Rattle.std.proofs.Common.{◌≡◌, ◌+◌, ◌*◌, ◌≤◌, drop, map}
use Rattle.mc_term_data.specs.Plain.{plain_term, term_list}
use Rattle.mc_clause_syntax.specs.Limits.{argument_count}
use Rattle.mc_clause_syntax.proofs.arguments.argument_count.Given as goal

abbrev pub invariant-loop-part : goal.invariant-loop-part
invariant-loop-part l = record {
  counted : l.count + argument_count l.in_clause (term_list (map plain_term (drop l.part-index l.parts))) ≡ argument_count l.in_clause (term_list (map plain_term l.parts));
  small : l.count ≤ 2 * l.part-index;
}

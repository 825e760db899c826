use Rattle.std.proofs.Common.{◌≡◌, ℕ, List, [], map, drop}
use Rattle.mc_term_data.specs.Plain.{plain_term, term_list}
use Rattle.mc_clauses.specs.Variables.{Numbers, Met, Quantified, all_quantified}
use Rattle.mc_clauses.specs.code.Meanings.{Knows, Enters}
use Rattle.mc_clauses.proofs.variables.Variables.enter.Given as goal

abbrev pub invariant-loop-term : goal.invariant-loop-term
invariant-loop-term l =
    (q : Numbers) (m : Met) → Knows q m l.fn.self →
    (s : Quantified)
    × (all_quantified (term_list (map plain_term (drop l.term-index l.term-items))) s
    ≡ all_quantified (term_list (map plain_term l.term-items)) (record { vars = []; numbers = q; met = m }))
    × Enters q m s l.inner l.self

-- A clause by its head and body, and a head by the goals behind it.
use Rattle.std.proofs.Common.{◌≡◌, ℕ, ◌≤◌, List, [], ◌∷◌, ◌++◌, Some, None, length, refl, ap, sym, ◌∙◌, arith, codes, length-append}
use Rattle.mc_term_data.specs.Plain.{PlainTerm, at, no_term, Conj, plain_term, term_list}
use Rattle.mc_term_data.specs.declared.term.Term.{Term}
use Rattle.mc_term_data.specs.Shapes.{operands}
use Rattle.mc_clause_syntax.specs.States.{states_of}
use Rattle.mc_state_variables.specs.Versions.{behind, distinct, closings}
use Rattle.mc_state_variables.specs.Numbered.{goal_of, term_of, rule_of, fact_of, line_of, head_states, clause_of, numbered_clause}
use Rattle.mc_state_variables.proofs.Closing.{plain_line}

pub clause_is_rule : (t : Term) (h b r : PlainTerm) → Some (h, b) ≡ operands (codes ":-") (plain_term t)
    → r ≡ rule_of t.line (term_of (head_states h) h) ((goal_of b).branch.writing (states_of h) (head_states h) (behind 0 (distinct (states_of h)))).text
    → r ≡ numbered_clause (plain_term t)
clause_is_rule t h b r o e =
    e ∙ ap (λ l. rule_of l (term_of (head_states h) h) ((goal_of b).branch.writing (states_of h) (head_states h) (behind 0 (distinct (states_of h)))).text) (sym (plain_line t))
    ∙ ap (clause_of (plain_term t)) o

pub clause_is_fact : (t : Term) (r : PlainTerm) → None ≡ operands (codes ":-") (plain_term t)
    → r ≡ fact_of (line_of (plain_term t)) (term_of (head_states (plain_term t)) (plain_term t)) (closings (states_of (plain_term t)) [] (line_of (plain_term t)) (head_states (plain_term t)))
    → r ≡ numbered_clause (plain_term t)
clause_is_fact t r o e = e ∙ ap (clause_of (plain_term t)) o

pub many_goals : (l : ℕ) (h b : PlainTerm) (goals : List PlainTerm) → 2 ≤ length goals → b ≡ at (Conj (term_list goals)) l → rule_of l h b ≡ fact_of l h (term_list goals)
many_goals l h b [] n e = absurd (omega arith)
many_goals l h b (g ∷ []) n e = absurd (omega arith)
many_goals l h b (g ∷ k ∷ goals) n e = ap (rule_of l h) e

pub one_goal : (l : ℕ) (h g : PlainTerm) (goals left : List PlainTerm) → goals ≡ left ++ g ∷ [] → length goals ≤ 1 → rule_of l h g ≡ fact_of l h (term_list goals)
one_goal l h g goals [] e n = ap (λ gs. fact_of l h (term_list gs)) (sym e)
one_goal l h g goals (k ∷ left) e n = absurd (omega (arith, ap length e, length-append left (g ∷ [])))

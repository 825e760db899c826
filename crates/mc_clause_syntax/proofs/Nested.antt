-- Bounds on how many equivalences stand inside one another.
use Rattle.std.proofs.Common.{◌≡◌, ℕ, ◌+◌, ◌-◌, max, ◌&&◌, nat_le, refl, arith}
use Rattle.mc_term_data.specs.Plain.{PlainTerms, no_term, more_terms}
use Rattle.mc_clause_syntax.specs.declared.goal_form.GoalContext.{GoalContext}
use Rattle.mc_clause_syntax.specs.declared.goal_form.Parts.TheVariants.{Goals, Quantified}
use Rattle.mc_clause_syntax.specs.Goals.{equivalences_within, most_equivalences}

pub within_goals : (a b : GoalContext) (ts : PlainTerms) → equivalences_within (Goals a b) ts ≡ most_equivalences ts
within_goals a b no_term = refl
within_goals a b (more_terms t ts) = refl

pub within_quantified : (ts : PlainTerms) → equivalences_within Quantified ts ≡ most_equivalences ts
within_quantified no_term = refl
within_quantified (more_terms t ts) = refl

pub max_at_most : (m n limit : ℕ) → nat_le (max m n) limit ≡ (nat_le m limit && nat_le n limit)
max_at_most m n limit = grind arith

pub sum_at_most : (m n limit : ℕ) → nat_le (m + n) limit ≡ (nat_le m limit && nat_le n (limit - m))
sum_at_most m n limit = grind arith

-- What is known of a query's text that is no goal.
use Rattle.std.proofs.Common.{◌≡◌, inr, ℕ, ◌≤◌, List, [], ◌∷◌, length, slice_index_or, Some, refl, sym, subst}
use Rattle.mc_term_data.specs.Plain.{plain_term}
use Rattle.mc_term_data.specs.declared.term.Term.{Term}
use Rattle.mc_source.specs.declared.rule.Rule.{Rule}
use Rattle.mc_source.specs.declared.rule.Rule.TheVariants as R
use Rattle.mc_terms.specs.declared.fault.ReadKind.{ReadKind}
use Rattle.mc_terms.specs.Answers.{IsOver, IsItem, IsRefused, StandsAt, item_line}
use Rattle.mc_decl_syntax.specs.declared.entry.ItemsFault.{ItemsFault}
use Rattle.mc_decl_syntax.specs.declared.entry.ItemsFault.TheVariants as I
use Rattle.mc_items.specs.Verdicts.{unread}
use Rattle.mc_items.specs.Files.{greatest_text, place}
use Rattle.mc_items.specs.code.Faults.{IsBrokenIn}
use Rattle.mc_items.specs.Queries.{query_verdict, Breaks, IsQueryRefusal}
use Rattle.mc_items.specs.Queries as Q
use Rattle.mc_items.specs.Words as W

pub no_goal : (file line : ℕ) (text what : List ℕ) (rule : Rule) (fault : ItemsFault) → length text ≤ greatest_text → Breaks text rule what line → IsBrokenIn (record { rule = rule; at = place file line; what = what } ∷ []) fault
    → IsQueryRefusal file text fault
no_goal file line text what rule (I.Broken bs) short why b = inr (record { short = short; rule = rule; what = what; line = line; why = why; is = b.0 })
no_goal file line text what rule I.Memory short why b = b

-- where the first item isn't read
pub unread_by : (text what : List ℕ) (kind : ReadKind) (rule : Rule) (line next at : ℕ) → IsRefused text 0 kind line next → StandsAt text 0 kind at → unread kind (slice_index_or text at 0) ≡ Some (rule, what) → Breaks text rule what line
unread_by text what kind rule line next at r s told = Q.unread (record { kind = kind; place = at; refused = r; stands = s; broken = (rule, what); told = told; is = refl })

-- where something stands behind the first item
pub followed_by : (text : List ℕ) (u : Term) (line next : ℕ) → IsItem text 0 u next → (IsOver text next → ⊥) → line ≡ item_line text 0 → Breaks text R.S5 W.not_a_term line
followed_by text u line next reads more l = subst (λ line. Breaks text R.S5 W.not_a_term line) (sym l) (Q.followed {t = plain_term u} reads more)

-- where the one item is a term that breaks a rule
pub refused_by : (text what : List ℕ) (rule : Rule) (u : Term) (line next : ℕ) → IsItem text 0 u next → IsOver text next → line ≡ item_line text 0 → query_verdict (plain_term u) ≡ Some (rule, what) → Breaks text rule what line
refused_by text what rule u line next reads alone l v = subst (λ line. Breaks text rule what line) (sym l) (Q.refused {t = plain_term u} reads alone v)

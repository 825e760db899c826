-- The goal of a query, by its text, and the rule that a text breaks which is none (the Mercury
-- manual: Goals; this project's rules).
use Rattle.std.specs.Prelude.{◌≡◌, ℕ, ◌≤◌, ◌⊎◌, true, List, [], ◌∷◌, length, Option, Some, None, if◌then◌else◌}
use Rattle.mc_term_data.specs.Plain.{PlainTerm, plain_term}
use Rattle.mc_term_data.specs.declared.term.Term.{Term}
use Rattle.mc_source.specs.declared.rule.Broken.{Broken}
use Rattle.mc_source.specs.declared.rule.Rule.{Rule}
use Rattle.mc_source.specs.declared.rule.Rule.TheVariants as R
use Rattle.mc_source.specs.Rules.{Fault}
use Rattle.mc_term_parser.specs.Tree.{Tree, depth, too_large, term}
use Rattle.mc_terms.specs.Answers.{IsOver, ItemReads, item_line}
use Rattle.mc_items.specs.declared.reason.LeftOut.{LeftOut}
use Rattle.mc_items.specs.Reasons.{goal_left_out}
use Rattle.mc_clause_syntax.specs.Clauses.{is_query}
use Rattle.mc_clause_syntax.specs.Limits.{too_many_arguments, too_many_variables}
use Rattle.mc_decl_syntax.specs.declared.entry.ItemsFault.{ItemsFault}
use Rattle.mc_decl_syntax.specs.declared.entry.ItemsFault.TheVariants as I
use Rattle.mc_items.specs.Verdicts.{breaks}
use Rattle.mc_items.specs.Files.{greatest_text, place, IsUnread, IsTooLong}
use Rattle.mc_items.specs.Words as W

-- the rule that a term breaks, with what is said of it, where it is no goal or too large a one
abbrev pub form_rule : PlainTerm → Option Fault
form_rule t =
    if is_query t
    then (if too_many_arguments true t then Some (R.L3, W.too_many_arguments)
    else if too_many_variables t then Some (R.L4, W.too_many_variables)
    else None)
    else Some (R.S6, W.not_an_item)

abbrev pub unless_left_out : PlainTerm → Option LeftOut → Option Fault
unless_left_out t (Some form) = Some (R.X1, W.left_out form)
unless_left_out t None = form_rule t

-- The first rule that a query's term breaks, with what is said of it: what is left out comes first,
-- then the form, then the limits. None where the term is a goal.
abbrev pub query_verdict : PlainTerm → Option Fault
query_verdict t = unless_left_out t (goal_left_out t)

-- The item at the text's start reads as a term, and `next` is the place behind its end.
abbrev pub ReadsAs : List ℕ → PlainTerm → ℕ → Type 0
ReadsAs text t next =
    (tree : Tree)
    × ItemReads text 0 tree next
    × (too_large tree ≡ None)
    × (depth tree ≤ 256)
    × (t ≡ term tree)

-- The text is one goal with its full stop, and nothing but blanks and comments behind that.
pub record IsGoal (text : List ℕ) (goal : Term) : Type 0 where
  pub short : length text ≤ greatest_text
  pub next : ℕ
  pub reads : ReadsAs text (plain_term goal) next
  pub alone : IsOver text next
  pub sound : query_verdict (plain_term goal) ≡ None

-- The rule that a query's text breaks, with what is said of it and the line.
pub data Breaks (text : List ℕ) : Rule → (what : List ℕ) → (line : ℕ) → Type 0 where
  -- there is no item
  empty : IsOver text 0 → Breaks text R.S5 W.not_a_term 1
  -- the first item isn't read
  unread :
      {rule : Rule} {what : List ℕ} {line next : ℕ} → IsUnread text 0 (breaks rule what) line next
      → Breaks text rule what line
  -- something stands behind the first item
  followed :
      {t : PlainTerm} {next : ℕ} → ReadsAs text t next → (IsOver text next → ⊥)
      → Breaks text R.S5 W.not_a_term (item_line text 0)
  -- the one item is a term that breaks a rule
  refused :
      {t : PlainTerm} {next : ℕ} {rule : Rule} {what : List ℕ} → ReadsAs text t next
      → IsOver text next → query_verdict t ≡ Some (rule, what)
      → Breaks text rule what (item_line text 0)

-- The text is no goal, and this is the one rule that it breaks.
pub record IsNoGoal (file : ℕ) (text : List ℕ) (broken : List Broken) : Type 0 where
  pub short : length text ≤ greatest_text
  pub rule : Rule
  pub what : List ℕ
  pub line : ℕ
  pub why : Breaks text rule what line
  pub is : broken ≡ record { rule = rule; at = place file line; what = what } ∷ []

-- why a query's goal isn't answered
abbrev pub IsQueryRefusal : ℕ → List ℕ → ItemsFault → Type 0
IsQueryRefusal file text (I.Broken bs) = IsTooLong file text bs ⊎ IsNoGoal file text bs
IsQueryRefusal file text I.Memory = Unit {0}

-- A whole printed value reads back, as laws about the printed text and the reader's definition.
use Rattle.std.specs.Prelude.{◌≡◌, ◌≢◌, ◌⊎◌, ℕ, ◌+◌, ◌≤◌, List, ◌++◌, length, true, None, codes}
use Rattle.mc_program.specs.Values.{Val}
use Rattle.mc_program.specs.Printed.{printed}
use Rattle.mc_tokens.specs.Tokens.{ends_item}
use Rattle.mc_term_data.specs.Plain.{PlainTerm, plain_term}
use Rattle.mc_term_data.specs.declared.term.Term.{Term}
use Rattle.mc_term_parser.specs.Tree.{Tree, depth, too_large, term}
use Rattle.mc_terms.specs.declared.fault.ReadKind.{ReadKind}
use Rattle.mc_terms.specs.declared.fault.ReadKind.TheVariants.{Memory}
use Rattle.mc_terms.specs.Lines.{line_at}
use Rattle.mc_terms.specs.Answers.{ItemReads, IsItem, IsOver, IsRefused}
use Rattle.laws_print.specs.Terms.{term_of, HasText, depth_of, levels}

-- The item that begins in a place, up to the next one, stands for the term, as the reader's
-- definition (IsItem) has it.
abbrev pub ReadsAs : List ℕ → ℕ → PlainTerm → ℕ → Type 0
ReadsAs text at u next =
    (t : Tree) × ItemReads text at t next × (too_large t ≡ None) × (depth t ≤ 256) × (term t ≡ u)

-- What the reader answers of the item, by its definition, is that term and nothing else, but for
-- want of memory.
pub record IsTheTerm (text : List ℕ) (at : ℕ) (u : PlainTerm) (next : ℕ) : Type 0 where
  pub reads : ReadsAs text at u next
  pub given : (t : Term) → plain_term t ≡ u → IsItem text at t next
  pub alone : (t : Term) (stop : ℕ) → IsItem text at t stop → (plain_term t ≡ u) × (stop ≡ next)
  pub not_over : IsOver text at → ⊥
  pub not_refused :
      (kind : ReadKind) (line stop : ℕ) → IsRefused text at kind line stop → kind ≡ Memory

-- In the text the value's printed text stands in the place, and after it a full stop. Then the item
-- is the value's term on the line of the place, if that term is at most 256 deep.
abbrev pub ReadsBack : List (List ℕ) → Val → List ℕ → ℕ → Type 0
ReadsBack names v text at =
    depth_of (term_of names (line_at text at) v) ≤ 256
    → IsTheTerm text at (term_of names (line_at text at) v) (at + length (printed names v) + 1)

-- a printed value reads back wherever it stands in a text before a full stop that ends an item
abbrev pub ValuesReadBack : Type 0
ValuesReadBack =
    (names : List (List ℕ)) (v : Val) (front rest : List ℕ)
    → HasText names v → ends_item rest ≡ true
    → ReadsBack names v (front ++ (printed names v ++ (codes "." ++ rest))) (length front)

-- a printed value with a full stop and a line end
abbrev pub item_text : List (List ℕ) → Val → List ℕ
item_text names v = printed names v ++ codes ".\n"

-- such a text reads back, all of it on line 1
abbrev pub PrintedValuesReadBack : Type 0
PrintedValuesReadBack =
    (names : List (List ℕ)) (v : Val) → HasText names v → depth_of (term_of names 1 v) ≤ 256
    → IsTheTerm (item_text names v) 0 (term_of names 1 v) (length (printed names v) + 1)

-- By the reader's definition the text's first item is no term: nothing stands there, or it is
-- refused.
abbrev pub IsUnread : List ℕ → Type 0
IsUnread text =
    IsOver text 0
    ⊎ ((kind : ReadKind) × (line : ℕ) × (next : ℕ)
    × IsRefused text 0 kind line next × (kind ≢ Memory))

-- the term of a value is no deeper than the value
abbrev pub TermsNoDeeper : Type 0
TermsNoDeeper =
    (names : List (List ℕ)) (line : ℕ) (v : Val) → depth_of (term_of names line v) ≤ levels v

-- The items of a file, and the rules that they break, in the order of the file.
use Rattle.std.specs.Prelude.{◌≡◌, ◌≢◌, ℕ, ◌<◌, ◌≤◌, ◌⊎◌, List, [], ◌∷◌, map, length, slice_index_or, Some, None}
use Rattle.mc_source.specs.declared.place.Place.{Place}
use Rattle.mc_source.specs.declared.rule.Broken.{Broken}
use Rattle.mc_source.specs.declared.rule.Rule.TheVariants as R
use Rattle.mc_source.specs.Rules.{Fault, first_rules}
use Rattle.mc_term_parser.specs.Tree.{Tree, depth, too_large, term}
use Rattle.mc_terms.specs.declared.fault.ReadKind.{ReadKind}
use Rattle.mc_terms.specs.Answers.{IsOver, ItemReads, IsRefused, StandsAt, item_line}
use Rattle.mc_decl_syntax.specs.Plain.{PlainDecl}
use Rattle.mc_decl_syntax.specs.declared.entry.Entry.{Entry}
use Rattle.mc_decl_syntax.specs.declared.entry.ItemsFault.{ItemsFault}
use Rattle.mc_decl_syntax.specs.declared.entry.ItemsFault.TheVariants as I
use Rattle.mc_decl_syntax.specs.Entries.{plain_entry}
use Rattle.mc_items.specs.Verdicts.{PlainVerdict, kept, breaks, classify, unread, rule_of}
use Rattle.mc_items.specs.Words as W

-- the greatest length of one file's text, in bytes: 4 MiB
abbrev pub greatest_text : ℕ
greatest_text = 4194304

-- The item from a place on reads as a term, and this is what it is; it begins on a line, and `next`
-- is the place behind its end.
pub record IsRead (text : List ℕ) (from : ℕ) (verdict : PlainVerdict) (line next : ℕ) : Type 0 where
  pub tree : Tree
  pub reads : ItemReads text from tree next
  pub held : too_large tree ≡ None
  pub shallow : depth tree ≤ 256
  pub is : verdict ≡ classify (term tree)
  pub begins : line ≡ item_line text from

-- The item from a place on doesn't read as a term, and this is the rule that it breaks; the line is
-- the fault's.
pub record IsUnread (text : List ℕ) (from : ℕ) (verdict : PlainVerdict) (line next : ℕ) : Type 0 where
  pub kind : ReadKind
  pub place : ℕ
  pub refused : IsRefused text from kind line next
  pub stands : StandsAt text from kind place
  pub broken : Fault
  pub told : unread kind (slice_index_or text place 0) ≡ Some broken
  pub is : verdict ≡ breaks broken.0 broken.1

-- what the item from a place on is, with its line and the place behind it
abbrev pub IsItem : List ℕ → ℕ → PlainVerdict → ℕ → ℕ → Type 0
IsItem text from verdict line next =
    IsRead text from verdict line next ⊎ IsUnread text from verdict line next

-- the items of a text from a place on: what each is, with its line
pub data Items : List ℕ → ℕ → List (PlainVerdict × ℕ) → Type 0 where
  over : {text : List ℕ} {from : ℕ} → IsOver text from → Items text from []
  item :
      {text : List ℕ} {from line next : ℕ} {v : PlainVerdict} {vs : List (PlainVerdict × ℕ)}
      → IsItem text from v line next → Items text next vs → Items text from ((v, line) ∷ vs)

abbrev pub place : ℕ → ℕ → Place
place file line = record { file = file; line = line }

-- the items of a form, with their places
abbrev pub kept_in : ℕ → List (PlainVerdict × ℕ) → List (PlainDecl × Place)
kept_in file [] = []
kept_in file ((kept i, line) ∷ vs) = (i, place file line) ∷ kept_in file vs
kept_in file ((breaks r w, line) ∷ vs) = kept_in file vs

-- the rules that are broken, with their places
abbrev pub broken_in : ℕ → List (PlainVerdict × ℕ) → List Broken
broken_in file vs = first_rules (λ v. place file v.1) (λ v. rule_of v.0) vs

-- Each item of the text has a form and breaks no rule, and these are the items.
pub record IsWhole (file : ℕ) (text : List ℕ) (entries : List Entry) : Type 0 where
  pub short : length text ≤ greatest_text
  pub verdicts : List (PlainVerdict × ℕ)
  pub items : Items text 0 verdicts
  pub all : map plain_entry entries ≡ kept_in file verdicts
  pub sound : broken_in file verdicts ≡ []

-- Items of the text break rules, and these are the rules, one for each such item.
pub record IsFaulty (file : ℕ) (text : List ℕ) (broken : List Broken) : Type 0 where
  pub short : length text ≤ greatest_text
  pub verdicts : List (PlainVerdict × ℕ)
  pub items : Items text 0 verdicts
  pub all : broken ≡ broken_in file verdicts
  pub some : broken ≢ []

-- the one rule that a text breaks which is too long
abbrev pub too_long_in : ℕ → List Broken
too_long_in file = record { rule = R.L1; at = place file 1; what = W.sources_too_long } ∷ []

-- A text that is too long breaks one rule and is read no further.
pub record IsTooLong (file : ℕ) (text : List ℕ) (broken : List Broken) : Type 0 where
  pub long : greatest_text < length text
  pub is : broken ≡ too_long_in file

-- why a text's items aren't answered
abbrev pub IsRefusal : ℕ → List ℕ → ItemsFault → Type 0
IsRefusal file text (I.Broken bs) = IsTooLong file text bs ⊎ IsFaulty file text bs
IsRefusal file text I.Memory = Unit {0}

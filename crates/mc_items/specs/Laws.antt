-- Laws of the relation between a text and its items.
use Rattle.std.specs.Prelude.{◌≡◌, ℕ, List}
use Rattle.mc_term_data.specs.Plain.{plain_term}
use Rattle.mc_term_data.specs.declared.term.Term.{Term}
use Rattle.mc_source.specs.declared.rule.Broken.{Broken}
use Rattle.mc_decl_syntax.specs.declared.entry.Entry.{Entry}
use Rattle.mc_decl_syntax.specs.declared.entry.ItemsFault.TheVariants as I
use Rattle.mc_items.specs.Verdicts.{PlainVerdict}
use Rattle.mc_items.specs.Files.{Items, IsWhole, IsRefusal}
use Rattle.mc_items.specs.Queries.{IsGoal, IsQueryRefusal}

-- at most one list of items stands for a text from a place on
abbrev pub AtMostOneList : Type 0
AtMostOneList =
    (text : List ℕ) (from : ℕ) (vs ws : List (PlainVerdict × ℕ))
    → Items text from vs → Items text from ws → vs ≡ ws

-- No text has items that are answered and breaks rules too.
abbrev pub NotBoth : Type 0
NotBoth =
    (file : ℕ) (text : List ℕ) (es : List Entry) (bs : List Broken)
    → IsWhole file text es → IsRefusal file text (I.Broken bs) → ⊥

-- a text breaks one list of rules at most
abbrev pub AtMostOneRefusal : Type 0
AtMostOneRefusal =
    (file : ℕ) (text : List ℕ) (bs cs : List Broken)
    → IsRefusal file text (I.Broken bs) → IsRefusal file text (I.Broken cs) → bs ≡ cs

-- a text is one goal at most
abbrev pub AtMostOneGoal : Type 0
AtMostOneGoal =
    (text : List ℕ) (g h : Term) → IsGoal text g → IsGoal text h → plain_term g ≡ plain_term h

-- No text is a goal and breaks a rule of queries too.
abbrev pub NotGoalAndBroken : Type 0
NotGoalAndBroken =
    (file : ℕ) (text : List ℕ) (g : Term) (bs : List Broken)
    → IsGoal text g → IsQueryRefusal file text (I.Broken bs) → ⊥

-- a query's text breaks one list of rules at most
abbrev pub AtMostOneQueryRefusal : Type 0
AtMostOneQueryRefusal =
    (file : ℕ) (text : List ℕ) (bs cs : List Broken)
    → IsQueryRefusal file text (I.Broken bs) → IsQueryRefusal file text (I.Broken cs) → bs ≡ cs

-- The phase that reads: what the given files and the query read as, and the rules of reading that
-- they break (this project's rules; the Mercury manual: Syntax).
use Rattle.std.specs.Prelude.{◌≡◌, ℕ, ◌+◌, ◌≤◌, ◌<◌, ◌⊎◌, min, List, [], ◌∷◌, ◌++◌, length, Option, Some, None, Result}
use Rattle.mc_term_data.specs.Plain.{PlainTerm, plain_term}
use Rattle.mc_term_data.specs.declared.term.Term.{Term}
use Rattle.mc_source.specs.declared.rule.Broken.{Broken}
use Rattle.mc_items.specs.Verdicts.{PlainVerdict}
use Rattle.mc_items.specs.Files.{Items, kept_in, broken_in, too_long_in, greatest_text}
use Rattle.mc_items.specs.Queries.{IsGoal, IsQueryRefusal}
use Rattle.mc_decl_syntax.specs.declared.entry.ItemsFault.TheVariants as I
use Rattle.mc_decl_syntax.specs.Entries.{File, plain_files}
use Rattle.mc_compile.specs.declared.reading.Read.{Read}
use Rattle.mc_compile.specs.Phases.{Refusal, unless_broken}
use Rattle.mc_compile.specs.Sources.{Sources}

-- the greatest length of the files together, in bytes: 16 MiB
abbrev pub greatest_sources : ℕ
greatest_sources = 16777216

-- the length of a file among the files: one that is too long counts as one byte more than may be
abbrev pub counted : List ℕ → ℕ
counted text = min (length text) (greatest_text + 1)

-- what each item of a file is, with its line; of a file that is too long nothing is read
abbrev pub Reading : Type 0
Reading = Option (List (PlainVerdict × ℕ))

-- A file, behind others of so many bytes, is too long by itself or together with them, or its items
-- are these.
abbrev pub FileReads : (bytes_before : ℕ) → List ℕ → Reading → Type 0
FileReads n text None = (greatest_text < length text) ⊎ (greatest_sources < n + counted text)
FileReads n text (Some vs) =
    (length text ≤ greatest_text) × ((n + counted text ≤ greatest_sources) × Items text 0 vs)

-- the same of files one after another
abbrev pub FilesRead : (bytes_before : ℕ) → List (List ℕ) → List Reading → Type 0
FilesRead n [] [] = Unit {0}
FilesRead n (t ∷ ts) (r ∷ rs) = FileReads n t r × FilesRead (n + counted t) ts rs
FilesRead n _ _ = ⊥

abbrev pub rules_of : (file : ℕ) → Reading → List Broken
rules_of k None = too_long_in k
rules_of k (Some vs) = broken_in k vs

-- the rules that files break, which are numbered from k on
abbrev pub rules_from : (k : ℕ) → List Reading → List Broken
rules_from k [] = []
rules_from k (r ∷ rs) = rules_of k r ++ rules_from (k + 1) rs

abbrev pub items_of : (file : ℕ) → Reading → File
items_of k None = []
items_of k (Some vs) = kept_in k vs

-- the items of files, which are numbered from k on
abbrev pub items_from : (k : ℕ) → List Reading → List File
items_from k [] = []
items_from k (r ∷ rs) = items_of k r ∷ items_from (k + 1) rs

-- A query, which has a number as files have, is this goal, or it is none and breaks one rule. Where
-- there is no query there is no goal.
abbrev pub QueryReads : (number : ℕ) → Option (List ℕ) → Option Term → List Broken → Type 0
QueryReads k None None broken = broken ≡ []
QueryReads k None (Some goal) broken = ⊥
QueryReads k (Some text) (Some goal) broken = IsGoal text goal × (broken ≡ [])
QueryReads k (Some text) None broken = IsQueryRefusal k text (I.Broken broken)

-- What sources read as: files, which are numbered from 0 on, and a query, whose number follows
-- theirs.
pub record AreRead (texts : List (List ℕ)) (query : Option (List ℕ)) : Type 0 where
  pub files : List Reading
  pub goal : Option Term
  pub goal_rules : List Broken
  pub files_read : FilesRead 0 texts files
  pub goal_reads : QueryReads (length texts) query goal goal_rules

-- the rules of reading that sources break, file by file, and then the query's
abbrev pub reading_rules :
    {texts : List (List ℕ)} {query : Option (List ℕ)} → AreRead texts query → List Broken
reading_rules sources = rules_from 0 sources.files ++ sources.goal_rules

-- the goal of a query as plain data
abbrev pub plain_goal : Option Term → Option PlainTerm
plain_goal None = None
plain_goal (Some goal) = Some (plain_term goal)

-- the items of each file, and the goal of the query where there is one
pub record PlainRead : Type 0 where
  pub files : List File
  pub goal : Option PlainTerm

abbrev pub plain_read : Read → PlainRead
plain_read read = record { files = plain_files read.files; goal = plain_goal read.goal }

-- what sources are, once they are read
abbrev pub read_as :
    {texts : List (List ℕ)} {query : Option (List ℕ)} → AreRead texts query → PlainRead
read_as sources =
    record { files = items_from 0 sources.files; goal = plain_goal sources.goal }

-- The phase that reads: the items of the files and the goal, unless a rule of reading is broken.
pub record Reads (sources : Sources) (result : Result PlainRead Refusal) : Type 0 where
  pub read : AreRead sources.texts sources.query
  pub is : result ≡ unless_broken (reading_rules read) (read_as read)

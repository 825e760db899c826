-- What is read of sources, and linked with the library's modules behind it, has values.
use Rattle.std.proofs.Common.{◌≡◌, ℕ, ◌+◌, List, [], ◌∷◌, ◌++◌, length, Option, Some, None, Ok, sym, subst}
use Rattle.mc_source.specs.declared.rule.Broken.{Broken}
use Rattle.mc_program.specs.Programs.{Source}
use Rattle.mc_term_data.specs.declared.term.Term.{Term}
use Rattle.mc_decl_syntax.specs.Entries.{File}
use Rattle.mc_compile.specs.Reading.{plain_goal, counted, Reading, FileReads, FilesRead, items_of, items_from, QueryReads, PlainRead, reading_rules, read_as}
use Rattle.mc_compile.specs.Phases.{unless_broken}
use Rattle.mc_compile.specs.Library.{library_texts}
use Rattle.mc_compile.specs.Linking.{PlainNamed, library_behind, linked_with, linking_rules_of}
use Rattle.laws_sources.specs.ReadValues.{FileIsOfValues, FilesAreOfValues, GoalIsOfValues}
use Rattle.laws_sources.specs.SourceValues.{FilesReadAreOfValues, ReadAreOfValues, NamedItemsHaveValues}
use Rattle.laws_sources.proofs.Read.{clauses_are_of_values, goals_are_of_values}
use Rattle.laws_sources.proofs.Typed.{items_have_values}

-- what a phase answers that breaks no rule
made : {A : Type 0} (rules : List Broken) (a b : A) → Ok b ≡ unless_broken rules a → b ≡ a
made [] a b e = cc
made (rule ∷ rules) a b e = cc

module _ (P : Source) where
  file_values : (n k : ℕ) (text : List ℕ) (r : Reading) → FileReads n text r → FileIsOfValues P (items_of k r)
  file_values n k text None h = tt
  file_values n k text (Some vs) h = clauses_are_of_values P text 0 k vs h.1.1

  files_values : (n k : ℕ) (texts : List (List ℕ)) (rs : List Reading) → FilesRead n texts rs → FilesAreOfValues P (items_from k rs)
  files_values n k [] [] h = tt
  files_values n k (t ∷ ts) (r ∷ rs) h = (file_values n k t r h.0, files_values (n + counted t) (k + 1) ts rs h.1)
  files_values n k [] (r ∷ rs) h = absurd h
  files_values n k (t ∷ ts) [] h = absurd h

  goal_values : (k : ℕ) (query : Option (List ℕ)) (goal : Option Term) (rules : List Broken) → QueryReads k query goal rules → GoalIsOfValues P (plain_goal goal)
  goal_values k None None rules h = tt
  goal_values k None (Some goal) rules h = absurd h
  goal_values k (Some text) (Some goal) rules h = goals_are_of_values P text goal h.0
  goal_values k (Some text) None rules h = tt

  both_files : (fs gs : List File) → FilesAreOfValues P fs → FilesAreOfValues P gs → FilesAreOfValues P (fs ++ gs)
  both_files [] gs h k = k
  both_files (f ∷ fs) gs h k = (h.0, both_files fs gs h.1 k)

pub files_read_are_of_values : FilesReadAreOfValues
files_read_are_of_values P n k texts readings h = files_values P n k texts readings h

pub read_are_of_values : ReadAreOfValues
read_are_of_values P sources read h =
    let same : read ≡ read_as h.read = made (reading_rules h.read) (read_as h.read) read h.is in (
      subst (λ (r : PlainRead). FilesAreOfValues P r.files) (sym same) (files_values P 0 0 sources.texts h.read.files h.read.files_read),
      subst (λ (r : PlainRead). GoalIsOfValues P r.goal) (sym same) (goal_values P (length sources.texts) sources.query h.read.goal h.read.goal_rules h.read.goal_reads),
    )

pub named_items_have_values : NamedItemsHaveValues
named_items_have_values sources read named h k =
    let library = library_behind read.files k.modules in
    let same : named ≡ linked_with read library = made (linking_rules_of read.files library read.goal) (linked_with read library) named k.is in
    items_have_values named.files.names named.files.all (length named.files.given) named.goal
    (λ P. subst (λ (n : PlainNamed). FilesAreOfValues P n.files.all) (sym same) (both_files P read.files library (read_are_of_values P sources read h).0 (files_values P 0 (length read.files + 1) library_texts k.modules k.is_library.read)))
    (λ P. subst (λ (n : PlainNamed). GoalIsOfValues P n.goal) (sym same) (read_are_of_values P sources read h).1)

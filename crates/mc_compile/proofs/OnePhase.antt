-- Each phase answers one thing at most.
use Rattle.std.proofs.Common.{◌≡◌, inl, inr, ℕ, ◌+◌, ◌++◌, List, [], ◌∷◌, length, Option, Some, None, Result, refl, sym, ap, ap₂, ◌∙◌, arith}
use Rattle.mc_term_data.specs.Plain.{PlainTerm}
use Rattle.mc_term_data.specs.declared.term.Term.{Term}
use Rattle.mc_source.specs.declared.rule.Broken.{Broken}
use Rattle.mc_items.specs.Laws.{AtMostOneList, AtMostOneGoal, NotGoalAndBroken, AtMostOneQueryRefusal}
use Rattle.mc_type_table.specs.Visibility.{definitions_seen}
use Rattle.mc_type_phase.specs.Laws as L
use Rattle.mc_compile.specs.Reading.{plain_goal}
use Rattle.mc_compile.specs.Phases.{Refusal, unless_broken, AtMostOne}
use Rattle.mc_compile.specs.Library.{library_texts}
use Rattle.mc_compile.specs.Reading.{Reading, FileReads, FilesRead, QueryReads, counted, rules_from, items_from, PlainRead, Reads}
use Rattle.mc_compile.specs.Linking.{PlainNamed, library_behind, linking_rules_of, linked_with, Links}
use Rattle.mc_compile.specs.Typing.{Types}
use Rattle.mc_compile.specs.Checking.{items_of, Clauses}

module _ (one_list : AtMostOneList) where
  one_reading : (n : ℕ) (text : List ℕ) (r s : Reading) → FileReads n text r → FileReads n text s → r ≡ s
  one_reading n text None None a b = refl
  one_reading n text None (Some vs) (inl long) b = let short = b.0 in absurd (omega arith)
  one_reading n text None (Some vs) (inr long) b = let short = b.1.0 in absurd (omega arith)
  one_reading n text (Some vs) None a (inl long) = let short = a.0 in absurd (omega arith)
  one_reading n text (Some vs) None a (inr long) = let short = a.1.0 in absurd (omega arith)
  one_reading n text (Some vs) (Some ws) a b = ap Some (one_list text 0 vs ws a.1.1 b.1.1)

  one_readings : (n : ℕ) (texts : List (List ℕ)) (rs ss : List Reading) → FilesRead n texts rs → FilesRead n texts ss → rs ≡ ss
  one_readings n [] [] [] a b = refl
  one_readings n (t ∷ ts) (r ∷ rs) (s ∷ ss) a b = ap₂ (λ x xs. x ∷ xs) (one_reading n t r s a.0 b.0) (one_readings (n + counted t) ts rs ss a.1 b.1)
  one_readings n [] (r ∷ rs) ss a b = absurd a
  one_readings n [] [] (s ∷ ss) a b = absurd b
  one_readings n (t ∷ ts) [] ss a b = absurd a
  one_readings n (t ∷ ts) (r ∷ rs) [] a b = absurd b

  -- what links answers, of the library's modules
  abbrev linking : PlainRead → List Reading → Result PlainNamed Refusal
  linking read modules = unless_broken (linking_rules_of read.files (library_behind read.files modules) read.goal) (linked_with read (library_behind read.files modules))

  pub one_link : AtMostOne Links
  one_link read x y p q = p.is ∙ ap (linking read) (one_readings 0 library_texts p.modules q.modules p.is_library.read q.is_library.read) ∙ sym q.is

module _ (one_goal : AtMostOneGoal) (not_both : NotGoalAndBroken) (one_refusal : AtMostOneQueryRefusal) where
  -- a query breaks one list of rules of reading at most
  one_query : (k : ℕ) (query : Option (List ℕ)) (g h : Option Term) (bs cs : List Broken) → QueryReads k query g bs → QueryReads k query h cs → bs ≡ cs
  one_query k None None None bs cs a b = a ∙ sym b
  one_query k None None (Some h) bs cs a b = absurd b
  one_query k None (Some g) h bs cs a b = absurd a
  one_query k (Some text) None None bs cs a b = one_refusal k text bs cs a b
  one_query k (Some text) None (Some h) bs cs a b = absurd (not_both k text h bs b.0 a)
  one_query k (Some text) (Some g) None bs cs a b = absurd (not_both k text g cs a.0 b)
  one_query k (Some text) (Some g) (Some h) bs cs a b = a.1 ∙ sym b.1

  -- and is one goal at most
  one_asked : (k : ℕ) (query : Option (List ℕ)) (g h : Option Term) (bs cs : List Broken) → QueryReads k query g bs → QueryReads k query h cs → plain_goal g ≡ plain_goal h
  one_asked k None None None bs cs a b = refl
  one_asked k None None (Some h) bs cs a b = absurd b
  one_asked k None (Some g) h bs cs a b = absurd a
  one_asked k (Some text) None None bs cs a b = refl
  one_asked k (Some text) None (Some h) bs cs a b = absurd (not_both k text h bs b.0 a)
  one_asked k (Some text) (Some g) None bs cs a b = absurd (not_both k text g cs a.0 b)
  one_asked k (Some text) (Some g) (Some h) bs cs a b = ap Some (one_goal text g h a.0 b.0)

abbrev as_read : List Reading → Option PlainTerm → PlainRead
as_read files goal = record { files = items_from 0 files; goal = goal }

-- what reading answers
abbrev reading : List Reading → List Broken → Option PlainTerm → Result PlainRead Refusal
reading files rules goal = unless_broken (rules_from 0 files ++ rules) (as_read files goal)

pub one_read : AtMostOneList → AtMostOneGoal → NotGoalAndBroken → AtMostOneQueryRefusal → AtMostOne Reads
one_read one_list one_goal not_both one_refusal sources x y p q =
    let r = p.read in
    let s = q.read in
    let n = length sources.texts in
    p.is
    ∙ ap (λ files. reading files r.goal_rules (plain_goal r.goal)) (one_readings one_list 0 sources.texts r.files s.files r.files_read s.files_read)
    ∙ ap₂ (reading s.files)
    (one_query one_goal not_both one_refusal n sources.query r.goal s.goal r.goal_rules s.goal_rules r.goal_reads s.goal_reads)
    (one_asked one_goal not_both one_refusal n sources.query r.goal s.goal r.goal_rules s.goal_rules r.goal_reads s.goal_reads)
    ∙ sym q.is

pub one_type_table : AtMostOne Types
one_type_table named x y p q = p ∙ sym q

pub one_list_of_clauses : L.AtMostOneList → AtMostOne Clauses
one_list_of_clauses one typed x y p q =
    let names = typed.named.files.names in
    p.is
    ∙ ap (λ rules. unless_broken rules typed) (one names (definitions_seen names) (items_of typed.named) p.rules q.rules p.are q.are)
    ∙ sym q.is
